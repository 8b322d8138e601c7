use Rattle.std.proofs.Common.{◌-◌, [], length, ap, ◌∙◌}
use Rattle.std.specs.Prelude.{slice_get}
use Rattle.bv_grammar.specs.Taking.{terms_open}
use Rattle.bv_grammar.specs.Moves.{opened, waiting_before}
use Rattle.bv_grammar.proofs.Counting.{waits}
use Rattle.bv_grammar.proofs.stack.Stack.waiting.Goals as goal

pub returns : goal.returns
returns c =
    let last = c.copied.ensures ∙ c.last.ensures.value ∙ ap (λ v. slice_get v (length v - 1)) c.deref.ensures.value in
    c.waiting_before.ensures ∙ ap (λ n. waiting_before n c.copied.result) c.args.self.now.counted ∙ ap (waiting_before (terms_open (opened c.args.self.now.symbols.items []))) last ∙ waits c.args.self.now.symbols.items
