use Rattle.std.proofs.Common.{◌∙◌, sym}
use Rattle.std.proofs.lemmas.List.{length-map}
use Rattle.gate_shape.specs.Builds.{edge, edges}
use Rattle.gate_shape.proofs.Building.{stand_self, stand_after, stand_lengths, builds_then, builds_exit, builds_answer, builds_at_lists, answers_with}
use Rattle.blast_div.specs.Division.{remainder}
use Rattle.blast_div.specs.Signed.{magnitude_remainder}
use Rattle.blast_div.proofs.Signing.{magnitude_remainder-length}
use Rattle.blast_div.proofs.signed.magnitude_remainder.Goals as goal

pub returns-in_err-left-clause-built : goal.returns-in_err-left-clause-built
unfolding magnitude_remainder
returns-in_err-left-clause-built g c = builds_exit _ c.from_residual.ensures.1 c.in_err-left.ensures.built

pub returns-in_err-right-clause-built : goal.returns-in_err-right-clause-built
unfolding magnitude_remainder
returns-in_err-right-clause-built g c =
    let p = c.in_ok-left.ensures.built in
    let q = rw (stand_after p (stand_self c.requires.right)).stand_for at c.in_err-right.ensures.built in
    builds_then _ p (builds_exit _ c.from_residual-in_err-right.ensures.1 q)

pub returns-clause-built : goal.returns-clause-built
unfolding magnitude_remainder
returns-clause-built g c =
    let p = c.in_ok-left.ensures.built in
    let q = rw (stand_after p (stand_self c.requires.right)).stand_for at c.in_ok-right.ensures.built in
    let left = rw (sym c.deref.ensures.value) at (stand_after q (builds_answer p)) in
    let right = rw (sym c.deref-2.ensures.value) at (builds_answer q) in
    builds_then _ p (builds_then _ q (builds_at_lists remainder left right c.umod.ensures.built))

pub returns-clause-lengths : goal.returns-clause-lengths
returns-clause-lengths g c =
    let m = g.B.Builder.meaning c.args.b.now in
    answers_with _ (returns-clause-built g c) (λ v s. stand_lengths s ∙ (magnitude_remainder-length (edges m c.args.x.now) (edges m c.args.y.now) (simp length-map c.requires.lengths) ∙ length-map c.args.x.now (edge m)))
