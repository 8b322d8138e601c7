use Rattle.std.proofs.Common.{◌≡◌, ◌≤◌, sym, length, arith}
use Rattle.std.proofs.lemmas.List.{length-map}
use Rattle.gate_shape.specs.Builds.{edges}
use Rattle.gate_shape.proofs.Building.{stands_after, builds_then, builds_exit, builds_answer, answers_with}
use Rattle.blast_div.specs.Signed.{signed_remainder}
use Rattle.blast_div.proofs.Signing.{stands_sign, signed_remainder-word}
use Rattle.blast_div.proofs.signed.srem.Goals as goal

pub returns-in_err-rest-clause-built : goal.returns-in_err-rest-clause-built
unfolding signed_remainder
returns-in_err-rest-clause-built g c = builds_exit _ c.from_residual.ensures.1 c.in_err-rest.ensures.built

pub returns-clause-built : goal.returns-clause-built
unfolding signed_remainder
returns-clause-built g c =
    let p = c.in_ok-rest.ensures.built in
    let s = stands_after p (stands_sign c.args.x.now c.requires.left (omega arith) (omega arith) c.index-x-x.is) in
    let rest = rw (sym c.deref.ensures.value) at (builds_answer p) in
    builds_then _ p (rw (s.stands_for, rest.stand_for) at c.negated_where.ensures.built)

pub returns-clause-value : goal.returns-clause-value
returns-clause-value g c =
    let m = g.B.Builder.meaning c.args.b.now in
    let n : length (edges m c.args.x.now) ≡ length (edges m c.args.y.now) = simp length-map c.requires.lengths in
    let one : 1 ≤ length (edges m c.args.x.now) = simp length-map (omega arith) in
    answers_with _ (returns-clause-built g c) (λ v s bits. rw s.stand_for (signed_remainder-word bits (edges m c.args.x.now) (edges m c.args.y.now) n one))
