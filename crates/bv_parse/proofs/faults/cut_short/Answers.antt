use Rattle.std.proofs.Common.{subst, sym}
use Rattle.std.specs.Prelude.{length}
use Rattle.bv_limits.specs.Limits.{IsLimit}
use Rattle.bv_limits.specs.Files.{IsLeast}
use Rattle.bv_parse.specs.Reads.{IsFaultOf, of_limits_before, of_syntax, terminals_of}
use Rattle.bv_parse.proofs.faults.cut_short.Goals as goal

pub returns-in-Some : goal.returns-in-Some
returns-in-Some c =
    let ts = terminals_of c.args.bytes.now c.args.tokens.now in
    subst (IsFaultOf c.args.bytes.now) (sym c.limit.ensures)
    (of_limits_before c.requires.cut c.requires.end (subst (IsLeast (IsLimit c.args.tokens.now ts (length c.args.taken.now))) c.in-Some.is (c.in_ok-met.ensures ts c.requires.taken c.requires.end)))

pub returns-in-None : goal.returns-in-None
returns-in-None c =
    let ts = terminals_of c.args.bytes.now c.args.tokens.now in
    subst (IsFaultOf c.args.bytes.now) (sym c.fault_at.ensures)
    (of_syntax c.requires.cut c.requires.end (subst (IsLeast (IsLimit c.args.tokens.now ts (length c.args.taken.now))) c.in-None.is (c.in_ok-met.ensures ts c.requires.taken c.requires.end)))
