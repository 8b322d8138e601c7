use Rattle.std.proofs.Common.{◌≡◌, ◌≤◌, ◌∙◌, ap, sym, length, arith}
use Rattle.std.proofs.lemmas.List.{length-map}
use Rattle.gate_shape.specs.Builds.{edges}
use Rattle.gate_shape.proofs.Building.{answers_with, builds_at_lists}
use Rattle.blast_arith.specs.Comparisons.{less, signed_less}
use Rattle.blast_arith.proofs.Comparing.{length-with_top, stand_turned, signed_less-value}
use Rattle.blast_arith.proofs.comparisons.slt.Goals as goal

pub ult-requires-clause-lengths : goal.ult-requires-clause-lengths
ult-requires-clause-lengths g c =
    ap length (c.deref.ensures.value ∙ c.in_ok-left.ensures) ∙ (length-with_top _ c.args.x.now ∙ (c.requires.lengths ∙ sym (ap length (c.deref-2.ensures.value ∙ c.in_ok-right.ensures) ∙ length-with_top _ c.args.y.now)))

pub ult-requires-clause-left : goal.ult-requires-clause-left
ult-requires-clause-left g c = (stand_turned _ (c.deref.ensures.value ∙ c.in_ok-left.ensures) c.requires.left).known

pub ult-requires-clause-right : goal.ult-requires-clause-right
ult-requires-clause-right g c = (stand_turned _ (c.deref-2.ensures.value ∙ c.in_ok-right.ensures) c.requires.right).known

pub returns-clause-built : goal.returns-clause-built
unfolding signed_less
returns-clause-built g c =
    let x = stand_turned _ (c.deref.ensures.value ∙ c.in_ok-left.ensures) c.requires.left in
    let y = stand_turned _ (c.deref-2.ensures.value ∙ c.in_ok-right.ensures) c.requires.right in
    builds_at_lists less x y c.ult.ensures.built

pub returns-clause-value : goal.returns-clause-value
returns-clause-value g c =
    let m = g.B.Builder.meaning c.args.b.now in
    let l : length (edges m c.args.x.now) ≡ length (edges m c.args.y.now) = simp length-map c.requires.lengths in
    let one : 1 ≤ length (edges m c.args.x.now) = simp length-map (omega arith) in
    answers_with _ (returns-clause-built g c) (λ r s bits. rw s.stands_for (signed_less-value bits (edges m c.args.x.now) (edges m c.args.y.now) l one))
