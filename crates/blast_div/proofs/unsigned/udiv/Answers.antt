use Rattle.std.proofs.Common.{◌≡◌, sym, length}
use Rattle.std.proofs.lemmas.List.{length-map}
use Rattle.gate_shape.specs.Builds.{edges}
use Rattle.gate_shape.proofs.Building.{stand_self, stand_after, stands_not, builds_then, builds_exit, builds_answer, answers_with}
use Rattle.blast_div.specs.Division.{quotient}
use Rattle.blast_div.proofs.Zeros.{quotient-word}
use Rattle.blast_div.proofs.unsigned.udiv.Goals as goal

pub is_zero-requires : goal.is_zero-requires
is_zero-requires g c = (stand_after c.in_ok-bits.ensures.built (stand_self c.requires.right)).known

pub masked-requires-clause-mask : goal.masked-requires-clause-mask
masked-requires-clause-mask g c = (stands_not c.not.ensures (builds_answer c.in_ok-zero.ensures)).known

pub masked-requires-clause-known : goal.masked-requires-clause-known
masked-requires-clause-known g c = (rw (sym c.deref.ensures.value) at (stand_after c.in_ok-zero.ensures (builds_answer c.in_ok-bits.ensures.built).0)).known

pub returns-in_err-bits-clause-built : goal.returns-in_err-bits-clause-built
unfolding quotient
returns-in_err-bits-clause-built g c = builds_exit _ c.from_residual.ensures.1 c.in_err-bits.ensures.built

pub returns-in_err-zero-clause-built : goal.returns-in_err-zero-clause-built
unfolding quotient
returns-in_err-zero-clause-built g c =
    let p = c.in_ok-bits.ensures.built in
    let q = rw (stand_after p (stand_self c.requires.right)).stand_for at c.in_err-zero.ensures in
    builds_then _ p (builds_exit _ c.from_residual-in_err-zero.ensures.1 q)

pub returns-clause-built : goal.returns-clause-built
unfolding quotient
returns-clause-built g c =
    let p = c.in_ok-bits.ensures.built in
    let q = rw (stand_after p (stand_self c.requires.right)).stand_for at c.in_ok-zero.ensures in
    let z = stands_not c.not.ensures (builds_answer q) in
    let bits = rw (sym c.deref.ensures.value) at (stand_after q (builds_answer p).0) in
    builds_then _ p (builds_then _ q (rw (z.stands_for, bits.stand_for) at c.masked.ensures))

pub returns-clause-value : goal.returns-clause-value
returns-clause-value g c =
    let m = g.B.Builder.meaning c.args.b.now in
    let n : length (edges m c.args.x.now) ≡ length (edges m c.args.y.now) = simp length-map c.requires.lengths in
    answers_with _ (returns-clause-built g c) (λ v s bits. rw s.stand_for (quotient-word bits (edges m c.args.x.now) (edges m c.args.y.now) n))
