use Rattle.std.proofs.Common.{◌∙◌, sym, List}
use Rattle.gate_shape.specs.Edge.{Edge}
use Rattle.gate_shape.specs.Row.{choice}
use Rattle.gate_shape.proofs.Building.{builds_exit, builds_then, builds_answer, builds_at_lists, stand_after}
use Rattle.blast_logic.specs.Chosen.{chosen}
use Rattle.blast_logic.proofs.Wiring.{stand_given}
use Rattle.blast_goal.specs.Circuit.{truth_of, single, unary_row, binary_row, circuit}
use Rattle.blast_goal.proofs.Meaning.{unary_positive, binary_parts, choice_parts, truth_choice_parts}
use Rattle.blast_goal.proofs.Falsifying.{circuit_values}
use Rattle.blast_goal.proofs.Rows.{builds_single, builds_at_list, builds_at_three_lists, long_as, same_as}
use Rattle.blast_goal.proofs.circuits.+circuit.Goals as goal

pub returns-in-Constant-clause-built : goal.returns-in-Constant-clause-built
unfolding circuit
returns-in-Constant-clause-built g t c =
    let e = c.in-Constant.ensures ∙ c.node.ensures.tree in
    rw (sym e) c.constant.ensures.built

pub returns-in-Variable-clause-built : goal.returns-in-Variable-clause-built
unfolding circuit
returns-in-Variable-clause-built g t c =
    let e = c.in-Variable.ensures ∙ c.node.ensures.tree in
    rw (sym e) c.variable.ensures.built

pub returns-in-Truth-clause-built : goal.returns-in-Truth-clause-built
unfolding circuit
returns-in-Truth-clause-built g t c =
    let e = c.in-Truth.ensures ∙ c.node.ensures.tree in
    rw (sym e) (builds_single _ c.truth_const.ensures.built c.single.ensures)

pub returns-in-TruthVariable-clause-built : goal.returns-in-TruthVariable-clause-built
unfolding circuit
returns-in-TruthVariable-clause-built g t c =
    let e = c.in-TruthVariable.ensures ∙ c.node.ensures.tree in
    rw (sym e) (builds_single _ c.truth_var.ensures.built c.single-in-TruthVariable.ensures)

pub returns-in_err-part-in-Unary-clause-built : goal.returns-in_err-part-in-Unary-clause-built
unfolding circuit
returns-in_err-part-in-Unary-clause-built g t c =
    let e = c.in-Unary.ensures ∙ c.node.ensures.tree in
    rw (sym e) (builds_exit _ c.from_residual.ensures.1 c.in_err-part-in-Unary.ensures.built)

pub of_one-requires-clause-positive : goal.of_one-requires-clause-positive
of_one-requires-clause-positive g t c =
    let e = c.in-Unary.ensures ∙ c.node.ensures.tree in
    long_as c.deref.ensures.value (builds_answer c.in_ok-part-in-Unary.ensures.built) (unary_positive _ _ _ e c.node.ensures.expr)

pub returns-in_ok-part-in-Unary-clause-built : goal.returns-in_ok-part-in-Unary-clause-built
unfolding circuit
returns-in_ok-part-in-Unary-clause-built g t c =
    let e = c.in-Unary.ensures ∙ c.node.ensures.tree in
    let p = c.in_ok-part-in-Unary.ensures.built in
    rw (sym e) (builds_then _ p (builds_at_list (unary_row c.in-Unary.op) (stand_given c.deref.ensures.value (builds_answer p)) c.of_one.ensures))

pub returns-in_err-left-in-Binary-clause-built : goal.returns-in_err-left-in-Binary-clause-built
unfolding circuit
returns-in_err-left-in-Binary-clause-built g t c =
    let e = c.in-Binary.ensures ∙ c.node.ensures.tree in
    rw (sym e) (builds_exit _ c.from_residual-in_err-left-in-Binary.ensures.1 c.in_err-left-in-Binary.ensures.built)

pub returns-in_err-right-in-Binary-clause-built : goal.returns-in_err-right-in-Binary-clause-built
unfolding circuit
returns-in_err-right-in-Binary-clause-built g t c =
    let e = c.in-Binary.ensures ∙ c.node.ensures.tree in
    rw (sym e) (builds_then _ c.in_ok-left-in-Binary.ensures.built (builds_exit _ c.from_residual-in_err-right-in-Binary.ensures.1 c.in_err-right-in-Binary.ensures.built))

pub of_two-requires-clause-left_positive : goal.of_two-requires-clause-left_positive
of_two-requires-clause-left_positive g t c =
    let e = c.in-Binary.ensures ∙ c.node.ensures.tree in
    long_as c.deref-in-Binary.ensures.value (builds_answer c.in_ok-left-in-Binary.ensures.built) (binary_parts _ _ _ _ e c.node.ensures.expr).left

pub of_two-requires-clause-right_positive : goal.of_two-requires-clause-right_positive
of_two-requires-clause-right_positive g t c =
    let e = c.in-Binary.ensures ∙ c.node.ensures.tree in
    long_as c.deref-in-Binary-2.ensures.value (builds_answer c.in_ok-right-in-Binary.ensures.built) (binary_parts _ _ _ _ e c.node.ensures.expr).right

pub of_two-requires-clause-suits : goal.of_two-requires-clause-suits
of_two-requires-clause-suits g t c =
    let e = c.in-Binary.ensures ∙ c.node.ensures.tree in
    let l = same_as c.deref-in-Binary.ensures.value (builds_answer c.in_ok-left-in-Binary.ensures.built) in
    let r = same_as c.deref-in-Binary-2.ensures.value (builds_answer c.in_ok-right-in-Binary.ensures.built) in
    rw (l, r) (binary_parts _ _ _ _ e c.node.ensures.expr).suit

pub returns-in_ok-right-in-Binary-clause-built : goal.returns-in_ok-right-in-Binary-clause-built
unfolding circuit
returns-in_ok-right-in-Binary-clause-built g t c =
    let e = c.in-Binary.ensures ∙ c.node.ensures.tree in
    let p = c.in_ok-left-in-Binary.ensures.built in
    let q = c.in_ok-right-in-Binary.ensures.built in
    let left = stand_given c.deref-in-Binary.ensures.value (stand_after q (builds_answer p)) in
    let right = stand_given c.deref-in-Binary-2.ensures.value (builds_answer q) in
    rw (sym e) (builds_then _ p (builds_then _ q (builds_at_lists (binary_row c.in-Binary.op) left right c.of_two.ensures)))

pub returns-in_err-test-in-Choice-clause-built : goal.returns-in_err-test-in-Choice-clause-built
unfolding circuit
returns-in_err-test-in-Choice-clause-built g t c =
    let e = c.in-Choice.ensures ∙ c.node.ensures.tree in
    rw (sym e) (builds_exit _ c.from_residual-in_err-test-in-Choice.ensures.1 c.in_err-test-in-Choice.ensures.built)

pub returns-in_err-left-in-Choice-clause-built : goal.returns-in_err-left-in-Choice-clause-built
unfolding circuit
returns-in_err-left-in-Choice-clause-built g t c =
    let e = c.in-Choice.ensures ∙ c.node.ensures.tree in
    rw (sym e) (builds_then _ c.in_ok-test-in-Choice.ensures.built (builds_exit _ c.from_residual-in_err-left-in-Choice.ensures.1 c.in_err-left-in-Choice.ensures.built))

pub returns-in_err-right-in-Choice-clause-built : goal.returns-in_err-right-in-Choice-clause-built
unfolding circuit
returns-in_err-right-in-Choice-clause-built g t c =
    let e = c.in-Choice.ensures ∙ c.node.ensures.tree in
    rw (sym e) (builds_then _ c.in_ok-test-in-Choice.ensures.built (builds_then _ c.in_ok-left-in-Choice.ensures.built (builds_exit _ c.from_residual-in_err-right-in-Choice.ensures.1 c.in_err-right-in-Choice.ensures.built)))

pub returns-in_ok-right-in-Choice-clause-built : goal.returns-in_ok-right-in-Choice-clause-built
unfolding circuit
returns-in_ok-right-in-Choice-clause-built g t c =
    let e = c.in-Choice.ensures ∙ c.node.ensures.tree in
    let p = c.in_ok-test-in-Choice.ensures.built in
    let q = c.in_ok-left-in-Choice.ensures.built in
    let r = c.in_ok-right-in-Choice.ensures.built in
    let test = stand_given c.deref-in-Choice.ensures.value (stand_after r (stand_after q (builds_answer p))) in
    let left = stand_given c.deref-in-Choice-2.ensures.value (stand_after r (builds_answer q)) in
    let right = stand_given c.deref-in-Choice-3.ensures.value (builds_answer r) in
    rw (sym e) (builds_then _ p (builds_then _ q (builds_then _ r (builds_at_three_lists (λ (cs xs ys : List Edge). chosen (truth_of cs) xs ys) test left right c.vector_choice.ensures))))

pub vector_choice-requires-clause-positive : goal.vector_choice-requires-clause-positive
vector_choice-requires-clause-positive g t c =
    let e = c.in-Choice.ensures ∙ c.node.ensures.tree in
    long_as c.deref-in-Choice.ensures.value (builds_answer c.in_ok-test-in-Choice.ensures.built) (choice_parts _ _ _ _ e c.node.ensures.expr).0.test

pub vector_choice-requires-clause-lengths : goal.vector_choice-requires-clause-lengths
vector_choice-requires-clause-lengths g t c =
    let e = c.in-Choice.ensures ∙ c.node.ensures.tree in
    let l = same_as c.deref-in-Choice-2.ensures.value (builds_answer c.in_ok-left-in-Choice.ensures.built) in
    let r = same_as c.deref-in-Choice-3.ensures.value (builds_answer c.in_ok-right-in-Choice.ensures.built) in
    l ∙ ((choice_parts _ _ _ _ e c.node.ensures.expr).1 ∙ sym r)

pub returns-in_err-test-in-TruthChoice-clause-built : goal.returns-in_err-test-in-TruthChoice-clause-built
unfolding circuit
returns-in_err-test-in-TruthChoice-clause-built g t c =
    let e = c.in-TruthChoice.ensures ∙ c.node.ensures.tree in
    rw (sym e) (builds_exit _ c.from_residual-in_err-test-in-TruthChoice.ensures.1 c.in_err-test-in-TruthChoice.ensures.built)

pub returns-in_err-left-in-TruthChoice-clause-built : goal.returns-in_err-left-in-TruthChoice-clause-built
unfolding circuit
returns-in_err-left-in-TruthChoice-clause-built g t c =
    let e = c.in-TruthChoice.ensures ∙ c.node.ensures.tree in
    rw (sym e) (builds_then _ c.in_ok-test-in-TruthChoice.ensures.built (builds_exit _ c.from_residual-in_err-left-in-TruthChoice.ensures.1 c.in_err-left-in-TruthChoice.ensures.built))

pub returns-in_err-right-in-TruthChoice-clause-built : goal.returns-in_err-right-in-TruthChoice-clause-built
unfolding circuit
returns-in_err-right-in-TruthChoice-clause-built g t c =
    let e = c.in-TruthChoice.ensures ∙ c.node.ensures.tree in
    rw (sym e) (builds_then _ c.in_ok-test-in-TruthChoice.ensures.built (builds_then _ c.in_ok-left-in-TruthChoice.ensures.built (builds_exit _ c.from_residual-in_err-right-in-TruthChoice.ensures.1 c.in_err-right-in-TruthChoice.ensures.built)))

pub returns-in_ok-right-in-TruthChoice-clause-built : goal.returns-in_ok-right-in-TruthChoice-clause-built
unfolding circuit
returns-in_ok-right-in-TruthChoice-clause-built g t c =
    let e = c.in-TruthChoice.ensures ∙ c.node.ensures.tree in
    let p = c.in_ok-test-in-TruthChoice.ensures.built in
    let q = c.in_ok-left-in-TruthChoice.ensures.built in
    let r = c.in_ok-right-in-TruthChoice.ensures.built in
    let test = stand_given c.deref-in-TruthChoice.ensures.value (stand_after r (stand_after q (builds_answer p))) in
    let left = stand_given c.deref-in-TruthChoice-2.ensures.value (stand_after r (builds_answer q)) in
    let right = stand_given c.deref-in-TruthChoice-3.ensures.value (builds_answer r) in
    rw (sym e) (builds_then _ p (builds_then _ q (builds_then _ r (builds_at_three_lists (λ (cs xs ys : List Edge). single (choice (truth_of cs) (truth_of xs) (truth_of ys))) test left right c.truth_choice.ensures))))

pub truth_choice-requires-clause-positive : goal.truth_choice-requires-clause-positive
truth_choice-requires-clause-positive g t c =
    let e = c.in-TruthChoice.ensures ∙ c.node.ensures.tree in
    long_as c.deref-in-TruthChoice.ensures.value (builds_answer c.in_ok-test-in-TruthChoice.ensures.built) (truth_choice_parts _ _ _ _ e c.node.ensures.expr).test

pub truth_choice-requires-clause-left_positive : goal.truth_choice-requires-clause-left_positive
truth_choice-requires-clause-left_positive g t c =
    let e = c.in-TruthChoice.ensures ∙ c.node.ensures.tree in
    long_as c.deref-in-TruthChoice-2.ensures.value (builds_answer c.in_ok-left-in-TruthChoice.ensures.built) (truth_choice_parts _ _ _ _ e c.node.ensures.expr).left

pub truth_choice-requires-clause-right_positive : goal.truth_choice-requires-clause-right_positive
truth_choice-requires-clause-right_positive g t c =
    let e = c.in-TruthChoice.ensures ∙ c.node.ensures.tree in
    long_as c.deref-in-TruthChoice-3.ensures.value (builds_answer c.in_ok-right-in-TruthChoice.ensures.built) (truth_choice_parts _ _ _ _ e c.node.ensures.expr).right

pub returns-in-Constant-clause-value : goal.returns-in-Constant-clause-value
returns-in-Constant-clause-value g t c = circuit_values _ c.args.term.now c.node.ensures.expr (returns-in-Constant-clause-built g t c)

pub returns-in-Variable-clause-value : goal.returns-in-Variable-clause-value
returns-in-Variable-clause-value g t c = circuit_values _ c.args.term.now c.node.ensures.expr (returns-in-Variable-clause-built g t c)

pub returns-in-Truth-clause-value : goal.returns-in-Truth-clause-value
returns-in-Truth-clause-value g t c = circuit_values _ c.args.term.now c.node.ensures.expr (returns-in-Truth-clause-built g t c)

pub returns-in-TruthVariable-clause-value : goal.returns-in-TruthVariable-clause-value
returns-in-TruthVariable-clause-value g t c = circuit_values _ c.args.term.now c.node.ensures.expr (returns-in-TruthVariable-clause-built g t c)

pub returns-in_ok-part-in-Unary-clause-value : goal.returns-in_ok-part-in-Unary-clause-value
returns-in_ok-part-in-Unary-clause-value g t c = circuit_values _ c.args.term.now c.node.ensures.expr (returns-in_ok-part-in-Unary-clause-built g t c)

pub returns-in_ok-right-in-Binary-clause-value : goal.returns-in_ok-right-in-Binary-clause-value
returns-in_ok-right-in-Binary-clause-value g t c = circuit_values _ c.args.term.now c.node.ensures.expr (returns-in_ok-right-in-Binary-clause-built g t c)

pub returns-in_ok-right-in-Choice-clause-value : goal.returns-in_ok-right-in-Choice-clause-value
returns-in_ok-right-in-Choice-clause-value g t c = circuit_values _ c.args.term.now c.node.ensures.expr (returns-in_ok-right-in-Choice-clause-built g t c)

pub returns-in_ok-right-in-TruthChoice-clause-value : goal.returns-in_ok-right-in-TruthChoice-clause-value
returns-in_ok-right-in-TruthChoice-clause-value g t c = circuit_values _ c.args.term.now c.node.ensures.expr (returns-in_ok-right-in-TruthChoice-clause-built g t c)
