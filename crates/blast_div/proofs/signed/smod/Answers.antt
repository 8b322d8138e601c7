use Rattle.std.proofs.Common.{◌≡◌, ◌≤◌, sym, length, arith}
use Rattle.std.proofs.lemmas.List.{length-map}
use Rattle.gate_shape.specs.Row.{both, differ}
use Rattle.gate_shape.specs.Builds.{edges}
use Rattle.gate_shape.proofs.Building.{stand_self, stand_after, stands_after, stands_not, stands_false, builds_then, builds_exit, builds_answer, builds_at_two, builds_at_lists_and_one, builds_at_one_and_lists, answers_with}
use Rattle.blast_arith.specs.Sums.{adder}
use Rattle.blast_logic.specs.Chosen.{chosen}
use Rattle.blast_div.specs.Signed.{signed_modulus}
use Rattle.blast_div.proofs.Signing.{stands_sign, signed_modulus-word}
use Rattle.blast_div.proofs.signed.smod.Goals as goal

pub returns-in_err-rest-clause-built : goal.returns-in_err-rest-clause-built
unfolding signed_modulus
returns-in_err-rest-clause-built g c =
    let u = c.in_err-rest.ensures.built in
    builds_exit _ c.from_residual.ensures.1 u

pub returns-in_err-signed-clause-built : goal.returns-in_err-signed-clause-built
unfolding signed_modulus
returns-in_err-signed-clause-built g c =
    let u = c.in_ok-rest.ensures.built in
    let sx = stands_sign c.args.x.now c.requires.left (omega arith) (omega arith) c.index-x-top.is in
    let rest = rw (sym c.deref.ensures.value) at (builds_answer u) in
    let v = rw ((stands_after u sx).stands_for, rest.stand_for) at c.in_err-signed.ensures.built in
    builds_then _ u (builds_exit _ c.from_residual-in_err-signed.ensures.1 v)

pub returns-in_err-zero-clause-built : goal.returns-in_err-zero-clause-built
unfolding signed_modulus
returns-in_err-zero-clause-built g c =
    let u = c.in_ok-rest.ensures.built in
    let sx = stands_sign c.args.x.now c.requires.left (omega arith) (omega arith) c.index-x-top.is in
    let rest = rw (sym c.deref.ensures.value) at (builds_answer u) in
    let v = rw ((stands_after u sx).stands_for, rest.stand_for) at c.in_ok-signed.ensures.built in
    let rest_2 = rw (sym c.deref-2.ensures.value) at (stand_after v (builds_answer u)) in
    let e = rw rest_2.stand_for at c.in_err-zero.ensures in
    builds_then _ u (builds_then _ v (builds_exit _ c.from_residual-in_err-zero.ensures.1 e))

pub returns-in_err-differ-clause-built : goal.returns-in_err-differ-clause-built
unfolding signed_modulus
returns-in_err-differ-clause-built g c =
    let u = c.in_ok-rest.ensures.built in
    let sx = stands_sign c.args.x.now c.requires.left (omega arith) (omega arith) c.index-x-top.is in
    let rest = rw (sym c.deref.ensures.value) at (builds_answer u) in
    let v = rw ((stands_after u sx).stands_for, rest.stand_for) at c.in_ok-signed.ensures.built in
    let rest_2 = rw (sym c.deref-2.ensures.value) at (stand_after v (builds_answer u)) in
    let e = rw rest_2.stand_for at c.in_ok-zero.ensures in
    let sx_2 = stands_after e (stands_after v (stands_after u (stands_sign c.args.x.now c.requires.left (omega arith) (omega arith) c.index-x-top-2.is))) in
    let sy = stands_after e (stands_after v (stands_after u (stands_sign c.args.y.now c.requires.right (omega arith) (omega arith) c.index-y-top.is))) in
    let d = builds_at_two differ sx_2 sy c.in_err-differ.ensures in
    builds_then _ u (builds_then _ v (builds_then _ e (builds_exit _ c.from_residual-in_err-differ.ensures.1 d)))

pub returns-in_err-turned-clause-built : goal.returns-in_err-turned-clause-built
unfolding signed_modulus
returns-in_err-turned-clause-built g c =
    let u = c.in_ok-rest.ensures.built in
    let sx = stands_sign c.args.x.now c.requires.left (omega arith) (omega arith) c.index-x-top.is in
    let rest = rw (sym c.deref.ensures.value) at (builds_answer u) in
    let v = rw ((stands_after u sx).stands_for, rest.stand_for) at c.in_ok-signed.ensures.built in
    let rest_2 = rw (sym c.deref-2.ensures.value) at (stand_after v (builds_answer u)) in
    let e = rw rest_2.stand_for at c.in_ok-zero.ensures in
    let sx_2 = stands_after e (stands_after v (stands_after u (stands_sign c.args.x.now c.requires.left (omega arith) (omega arith) c.index-x-top-2.is))) in
    let sy = stands_after e (stands_after v (stands_after u (stands_sign c.args.y.now c.requires.right (omega arith) (omega arith) c.index-y-top.is))) in
    let d = builds_at_two differ sx_2 sy c.in_ok-differ.ensures in
    let k = builds_at_two both (builds_answer d) (stands_not c.not.ensures (stands_after d (builds_answer e))) c.in_err-turned.ensures.built in
    builds_then _ u (builds_then _ v (builds_then _ e (builds_then _ d (builds_exit _ c.from_residual-in_err-turned.ensures.1 k))))

pub returns-in_err-sums-clause-built : goal.returns-in_err-sums-clause-built
unfolding signed_modulus
returns-in_err-sums-clause-built g c =
    let u = c.in_ok-rest.ensures.built in
    let sx = stands_sign c.args.x.now c.requires.left (omega arith) (omega arith) c.index-x-top.is in
    let rest = rw (sym c.deref.ensures.value) at (builds_answer u) in
    let v = rw ((stands_after u sx).stands_for, rest.stand_for) at c.in_ok-signed.ensures.built in
    let rest_2 = rw (sym c.deref-2.ensures.value) at (stand_after v (builds_answer u)) in
    let e = rw rest_2.stand_for at c.in_ok-zero.ensures in
    let sx_2 = stands_after e (stands_after v (stands_after u (stands_sign c.args.x.now c.requires.left (omega arith) (omega arith) c.index-x-top-2.is))) in
    let sy = stands_after e (stands_after v (stands_after u (stands_sign c.args.y.now c.requires.right (omega arith) (omega arith) c.index-y-top.is))) in
    let d = builds_at_two differ sx_2 sy c.in_ok-differ.ensures in
    let k = builds_at_two both (builds_answer d) (stands_not c.not.ensures (stands_after d (builds_answer e))) c.in_ok-turned.ensures.built in
    let before = rw (sym c.deref-3.ensures.value) at (stand_after k (stand_after d (stand_after e (builds_answer v)))) in
    let y = stand_after k (stand_after d (stand_after e (stand_after v (stand_after u (stand_self c.requires.right))))) in
    let s = builds_at_lists_and_one adder before y (stands_false c.new.ensures) c.in_err-sums.ensures.built in
    builds_then _ u (builds_then _ v (builds_then _ e (builds_then _ d (builds_then _ k (builds_exit _ c.from_residual-in_err-sums.ensures.1 s)))))

pub returns-clause-built : goal.returns-clause-built
unfolding signed_modulus
returns-clause-built g c =
    let sx = stands_sign c.args.x.now c.requires.left (omega arith) (omega arith) c.index-x-top.is in
    let sx_first = stands_sign c.args.x.now c.requires.left (omega arith) (omega arith) c.index-x-top-2.is in
    let sy_first = stands_sign c.args.y.now c.requires.right (omega arith) (omega arith) c.index-y-top.is in
    let u = c.in_ok-rest.ensures.built in
    let rest = rw (sym c.deref.ensures.value) at (builds_answer u) in
    let v = rw ((stands_after u sx).stands_for, rest.stand_for) at c.in_ok-signed.ensures.built in
    let rest_2 = rw (sym c.deref-2.ensures.value) at (stand_after v (builds_answer u)) in
    let e = rw rest_2.stand_for at c.in_ok-zero.ensures in
    let sx_2 = stands_after e (stands_after v (stands_after u sx_first)) in
    let sy = stands_after e (stands_after v (stands_after u sy_first)) in
    let d = builds_at_two differ sx_2 sy c.in_ok-differ.ensures in
    let k = builds_at_two both (builds_answer d) (stands_not c.not.ensures (stands_after d (builds_answer e))) c.in_ok-turned.ensures.built in
    let before = rw (sym c.deref-3.ensures.value) at (stand_after k (stand_after d (stand_after e (builds_answer v)))) in
    let y = stand_after k (stand_after d (stand_after e (stand_after v (stand_after u (stand_self c.requires.right))))) in
    let s = builds_at_lists_and_one adder before y (stands_false c.new.ensures) c.in_ok-sums.ensures.built in
    let sums = rw (sym c.deref-4.ensures.value) at (builds_answer s).0 in
    let kept = rw (sym c.deref-5.ensures.value) at (stand_after s (stand_after k (stand_after d (stand_after e (builds_answer v))))) in
    builds_then _ u (builds_then _ v (builds_then _ e (builds_then _ d (builds_then _ k (builds_then _ s (builds_at_one_and_lists chosen (stands_after s (builds_answer k)) sums kept c.choose.ensures.built))))))

pub returns-clause-value : goal.returns-clause-value
returns-clause-value g c =
    let m = g.B.Builder.meaning c.args.b.now in
    let n : length (edges m c.args.x.now) ≡ length (edges m c.args.y.now) = simp length-map c.requires.lengths in
    let one : 1 ≤ length (edges m c.args.x.now) = simp length-map (omega arith) in
    answers_with _ (returns-clause-built g c) (λ v s bits. rw s.stand_for (signed_modulus-word bits (edges m c.args.x.now) (edges m c.args.y.now) n one))
