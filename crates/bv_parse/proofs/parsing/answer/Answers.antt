use Rattle.std.proofs.Common.{ℕ, List, ◌⊎◌, inl, inr}
use Rattle.bv_lex.specs.declared.fault.Fault.{Fault}
use Rattle.bv_lex.specs.Cut.{IsMemory, IsTokenFault}
use Rattle.bv_parse.specs.Reads.{IsFaultOf, of_tokens}
use Rattle.bv_parse.proofs.parsing.answer.Goals as goal

token_fault : (bytes : List ℕ) (f : Fault) → IsMemory f.kind ⊎ IsTokenFault bytes f → IsMemory f.kind ⊎ IsFaultOf bytes f
token_fault bytes f (inl h) = inl h
token_fault bytes f (inr t) = inr (of_tokens t)

pub returns-in-Err : goal.returns-in-Err
returns-in-Err c = token_fault c.args.bytes.now c.in-Err.fault c.in-Err.ensures.fault
