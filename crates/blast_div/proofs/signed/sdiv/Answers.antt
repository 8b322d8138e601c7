use Rattle.std.proofs.Common.{◌≡◌, ◌≤◌, sym, length, arith}
use Rattle.std.proofs.lemmas.List.{length-map}
use Rattle.gate_shape.specs.Row.{differ}
use Rattle.gate_shape.specs.Builds.{edges}
use Rattle.gate_shape.proofs.Building.{stand_self, stand_after, stands_after, builds_then, builds_exit, builds_answer, builds_at_lists, builds_at_two, answers_with}
use Rattle.blast_div.specs.Division.{quotient}
use Rattle.blast_div.specs.Signed.{signed_quotient}
use Rattle.blast_div.proofs.Signing.{stands_sign, signed_quotient-word}
use Rattle.blast_div.proofs.signed.sdiv.Goals as goal

pub returns-in_err-left-clause-built : goal.returns-in_err-left-clause-built
unfolding signed_quotient
returns-in_err-left-clause-built g c = builds_exit _ c.from_residual.ensures.1 c.in_err-left.ensures.built

pub returns-in_err-right-clause-built : goal.returns-in_err-right-clause-built
unfolding signed_quotient
returns-in_err-right-clause-built g c =
    let p = c.in_ok-left.ensures.built in
    let q = rw (stand_after p (stand_self c.requires.right)).stand_for at c.in_err-right.ensures.built in
    builds_then _ p (builds_exit _ c.from_residual-in_err-right.ensures.1 q)

pub returns-in_err-quotient-clause-built : goal.returns-in_err-quotient-clause-built
unfolding signed_quotient
returns-in_err-quotient-clause-built g c =
    let p = c.in_ok-left.ensures.built in
    let q = rw (stand_after p (stand_self c.requires.right)).stand_for at c.in_ok-right.ensures.built in
    let left = rw (sym c.deref.ensures.value) at (stand_after q (builds_answer p)) in
    let right = rw (sym c.deref-2.ensures.value) at (builds_answer q) in
    builds_then _ p (builds_then _ q (builds_exit _ c.from_residual-in_err-quotient.ensures.1 (builds_at_lists quotient left right c.in_err-quotient.ensures.built)))

pub returns-in_err-differ-clause-built : goal.returns-in_err-differ-clause-built
unfolding signed_quotient
returns-in_err-differ-clause-built g c =
    let p = c.in_ok-left.ensures.built in
    let q = rw (stand_after p (stand_self c.requires.right)).stand_for at c.in_ok-right.ensures.built in
    let left = rw (sym c.deref.ensures.value) at (stand_after q (builds_answer p)) in
    let right = rw (sym c.deref-2.ensures.value) at (builds_answer q) in
    let r = builds_at_lists quotient left right c.in_ok-quotient.ensures.built in
    let sx = stands_sign c.args.x.now c.requires.left (omega arith) (omega arith) c.index-x-top.is in
    let sy = stands_sign c.args.y.now c.requires.right (omega arith) (omega arith) c.index-y-top.is in
    let d = builds_at_two differ (stands_after r (stands_after q (stands_after p sx))) (stands_after r (stands_after q (stands_after p sy))) c.in_err-differ.ensures in
    builds_then _ p (builds_then _ q (builds_then _ r (builds_exit _ c.from_residual-in_err-differ.ensures.1 d)))

pub returns-clause-built : goal.returns-clause-built
unfolding signed_quotient
returns-clause-built g c =
    let p = c.in_ok-left.ensures.built in
    let q = rw (stand_after p (stand_self c.requires.right)).stand_for at c.in_ok-right.ensures.built in
    let left = rw (sym c.deref.ensures.value) at (stand_after q (builds_answer p)) in
    let right = rw (sym c.deref-2.ensures.value) at (builds_answer q) in
    let r = builds_at_lists quotient left right c.in_ok-quotient.ensures.built in
    let sx = stands_sign c.args.x.now c.requires.left (omega arith) (omega arith) c.index-x-top.is in
    let sy = stands_sign c.args.y.now c.requires.right (omega arith) (omega arith) c.index-y-top.is in
    let d = builds_at_two differ (stands_after r (stands_after q (stands_after p sx))) (stands_after r (stands_after q (stands_after p sy))) c.in_ok-differ.ensures in
    let bits = rw (sym c.deref-3.ensures.value) at (stand_after d (builds_answer r)) in
    builds_then _ p (builds_then _ q (builds_then _ r (builds_then _ d (rw ((builds_answer d).stands_for, bits.stand_for) at c.negated_where.ensures.built))))

pub returns-clause-value : goal.returns-clause-value
returns-clause-value g c =
    let m = g.B.Builder.meaning c.args.b.now in
    let n : length (edges m c.args.x.now) ≡ length (edges m c.args.y.now) = simp length-map c.requires.lengths in
    let one : 1 ≤ length (edges m c.args.x.now) = simp length-map (omega arith) in
    answers_with _ (returns-clause-built g c) (λ v s bits. rw s.stand_for (signed_quotient-word bits (edges m c.args.x.now) (edges m c.args.y.now) n one))
