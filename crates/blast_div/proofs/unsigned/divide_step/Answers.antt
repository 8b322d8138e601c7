use Rattle.std.proofs.Common.{◌≡◌, ◌+◌, ◌∷◌, ◌∙◌, sym, ap, true, length, arith}
use Rattle.std.proofs.lemmas.List.{length-map, length-take-le}
use Rattle.gate_shape.specs.Edge.{constant}
use Rattle.gate_shape.specs.Builds.{edge, edges}
use Rattle.gate_shape.proofs.Building.{stand_self, stand_after, stands_self, stands_after, stand_cons, stands_true, stand_lengths, builds_then, builds_exit, builds_plain, builds_answer, builds_at_lists_and_one, builds_at_one_and_lists}
use Rattle.blast_arith.specs.Sums.{adder}
use Rattle.blast_arith.proofs.Adding.{adder-length}
use Rattle.blast_logic.specs.Chosen.{chosen}
use Rattle.blast_div.specs.Division.{divide_step}
use Rattle.blast_div.proofs.Dividing.{step-length, stand_first}
use Rattle.blast_div.proofs.unsigned.divide_step.Goals as goal

pub returns-in_err-sums-clause-built : goal.returns-in_err-sums-clause-built
unfolding divide_step
returns-in_err-sums-clause-built g c =
    let grown = stand_cons (c.deref.ensures.value ∙ c.in_ok-grown.ensures) (stands_self c.requires.bit) (stand_self c.requires.rest) in
    builds_exit _ c.from_residual-in_err-sums.ensures.1 (builds_at_lists_and_one adder grown (stand_self c.requires.divisor) (stands_true c.new.ensures) c.in_err-sums.ensures.built)

pub slice_bounds-choose-end : goal.slice_bounds-choose-end
slice_bounds-choose-end g c =
    let m = g.B.Builder.meaning c.args.b.now in
    let grown = stand_cons (c.deref.ensures.value ∙ c.in_ok-grown.ensures) (stands_self c.requires.bit) (stand_self c.requires.rest) in
    let q = builds_at_lists_and_one adder grown (stand_self c.requires.divisor) (stands_true c.new.ensures) c.in_ok-sums.ensures.built in
    let r : length (edges m c.args.rest.now) ≡ length c.args.rest.now = simp length-map in
    let d : length (edges m c.args.negated.now) ≡ length c.args.negated.now = simp length-map in
    let a = adder-length (edge m c.args.bit ∷ edges m c.args.rest.now) (edges m c.args.negated.now) (constant true) (omega arith) in
    let n = ap length c.deref-2.ensures.value ∙ (stand_lengths (builds_answer q).0 ∙ a) in
    sym (length-take-le (length c.args.rest.now) c.deref-2.result.now (omega (arith, n)))

pub choose-requires-clause-lengths : goal.choose-requires-clause-lengths
choose-requires-clause-lengths g c =
    let k : length c.deref-3.result.now ≡ length c.args.rest.now + 1 = ap length (c.deref-3.ensures.value ∙ c.in_ok-grown.ensures) ∙ omega arith in
    let m = g.B.Builder.meaning c.args.b.now in
    let grown = stand_cons (c.deref.ensures.value ∙ c.in_ok-grown.ensures) (stands_self c.requires.bit) (stand_self c.requires.rest) in
    let q = builds_at_lists_and_one adder grown (stand_self c.requires.divisor) (stands_true c.new.ensures) c.in_ok-sums.ensures.built in
    let r : length (edges m c.args.rest.now) ≡ length c.args.rest.now = simp length-map in
    let d : length (edges m c.args.negated.now) ≡ length c.args.negated.now = simp length-map in
    let a = adder-length (edge m c.args.bit ∷ edges m c.args.rest.now) (edges m c.args.negated.now) (constant true) (omega arith) in
    let n = ap length c.deref-2.ensures.value ∙ (stand_lengths (builds_answer q).0 ∙ a) in
    length-take-le (length c.args.rest.now) c.deref-2.result.now (omega (arith, n)) ∙ sym (length-take-le (length c.args.rest.now) c.deref-3.result.now (omega (arith, k)))

pub returns-in_err-left-clause-built : goal.returns-in_err-left-clause-built
unfolding divide_step
returns-in_err-left-clause-built g c =
    let m = g.B.Builder.meaning c.args.b.now in
    let n : length c.args.rest.now ≡ length (edges m c.args.rest.now) = simp length-map in
    let grown = stand_cons (c.deref.ensures.value ∙ c.in_ok-grown.ensures) (stands_self c.requires.bit) (stand_self c.requires.rest) in
    let q = builds_at_lists_and_one adder grown (stand_self c.requires.divisor) (stands_true c.new.ensures) c.in_ok-sums.ensures.built in
    let sums = stand_first _ _ n c.deref-2.ensures.value (builds_answer q).0 in
    let kept = stand_first _ _ n c.deref-3.ensures.value (stand_after q (stand_cons c.in_ok-grown.ensures (stands_self c.requires.bit) (stand_self c.requires.rest))) in
    builds_then _ q (builds_exit _ c.from_residual-in_err-left.ensures.1 (builds_at_one_and_lists chosen (builds_answer q).1 sums kept c.in_err-left.ensures.built))

pub returns-clause-built : goal.returns-clause-built
unfolding divide_step
returns-clause-built g c =
    let m = g.B.Builder.meaning c.args.b.now in
    let n : length c.args.rest.now ≡ length (edges m c.args.rest.now) = simp length-map in
    let grown = stand_cons (c.deref.ensures.value ∙ c.in_ok-grown.ensures) (stands_self c.requires.bit) (stand_self c.requires.rest) in
    let q = builds_at_lists_and_one adder grown (stand_self c.requires.divisor) (stands_true c.new.ensures) c.in_ok-sums.ensures.built in
    let sums = stand_first _ _ n c.deref-2.ensures.value (builds_answer q).0 in
    let kept = stand_first _ _ n c.deref-3.ensures.value (stand_after q (stand_cons c.in_ok-grown.ensures (stands_self c.requires.bit) (stand_self c.requires.rest))) in
    let r = builds_at_one_and_lists chosen (builds_answer q).1 sums kept c.in_ok-left.ensures.built in
    builds_then _ q (builds_then _ r (builds_plain (stands_after r (builds_answer q).1, builds_answer r)))

pub returns-clause-lengths : goal.returns-clause-lengths
returns-clause-lengths g c =
    let m = g.B.Builder.meaning c.args.b.now in
    let r : length (edges m c.args.rest.now) ≡ length c.args.rest.now = simp length-map in
    let d : length (edges m c.args.negated.now) ≡ length c.args.negated.now = simp length-map in
    stand_lengths (builds_answer (returns-clause-built g c)).1 ∙ (step-length (edges m c.args.negated.now) (edges m c.args.rest.now) (edge m c.args.bit) (omega arith) ∙ r)
