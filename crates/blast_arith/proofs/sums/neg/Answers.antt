use Rattle.std.proofs.Common.{◌≡◌, ◌∙◌, length}
use Rattle.std.proofs.lemmas.List.{length-map}
use Rattle.gate_shape.specs.Builds.{edges}
use Rattle.gate_shape.proofs.Building.{builds_then, builds_exit, builds_plain, builds_answer, known_opposites, stand_self, stand_not, stand_falses, stands_true, builds_at_lists_and_one}
use Rattle.blast_arith.specs.Sums.{adder, negative}
use Rattle.blast_arith.proofs.Adding.{negative-word}
use Rattle.blast_arith.proofs.sums.neg.Goals as goal

pub add-requires-clause-left : goal.add-requires-clause-left
add-requires-clause-left g c = rw (c.deref.ensures.value, c.in_ok-negated.ensures) (known_opposites _ _ c.requires)

pub returns-in_err-sums-clause-built : goal.returns-in_err-sums-clause-built
unfolding negative
returns-in_err-sums-clause-built g c =
    let m = g.B.Builder.meaning c.args.b.now in
    let n : length c.args.x.now ≡ length (edges m c.args.x.now) = simp length-map in
    let x = stand_not (c.deref.ensures.value ∙ c.in_ok-negated.ensures) (stand_self c.requires) in
    let z = stand_falses {m = m} (length (edges m c.args.x.now)) (length c.args.x.now) n (c.deref-2.ensures.value ∙ c.in_ok-zeros.ensures) in
    builds_exit _ c.from_residual-in_err-sums.ensures.1 (builds_at_lists_and_one adder x z (stands_true c.new.ensures) c.in_err-sums.ensures.built)

pub returns-clause-built : goal.returns-clause-built
unfolding negative
returns-clause-built g c =
    let m = g.B.Builder.meaning c.args.b.now in
    let n : length c.args.x.now ≡ length (edges m c.args.x.now) = simp length-map in
    let x = stand_not (c.deref.ensures.value ∙ c.in_ok-negated.ensures) (stand_self c.requires) in
    let z = stand_falses {m = m} (length (edges m c.args.x.now)) (length c.args.x.now) n (c.deref-2.ensures.value ∙ c.in_ok-zeros.ensures) in
    let p = builds_at_lists_and_one adder x z (stands_true c.new.ensures) c.in_ok-sums.ensures.built in
    builds_then _ p (builds_plain (builds_answer p).0)

pub returns-clause-value : goal.returns-clause-value
returns-clause-value g c = λ bits.
    let m = g.B.Builder.meaning c.args.b.now in
    rw (builds_answer (returns-clause-built g c)).stand_for (negative-word bits (edges m c.args.x.now))
