use Rattle.std.proofs.Common.{◌≡◌, Err, subst, arith}
use Rattle.gate_shape.specs.Edge.{Edge}
use Rattle.gate_shape.specs.Literal.{Literal}
use Rattle.gate_shape.specs.Builds.{Builds, Stands}
use Rattle.gate_shape.specs.Listed.{listed, note_new}
use Rattle.gate_shape.specs.declared.builder.GateStop.{GateStop}
use Rattle.goal_alone.specs.declared.formula.FormulaStop.TheVariants as stop
use Rattle.blast_goal.specs.Circuit.{goal_row}
use Rattle.goal_alone.proofs.Ended.{ends_made, ends_deep, ends_full}
use Rattle.goal_alone.proofs.formula.circuit.Goals as goal

pub returns-in-Ok-clause-made : goal.returns-in-Ok-clause-made
returns-in-Ok-clause-made c =
    ends_made 4000000 c.new-gates.result c.edge-end.new.b c.in-Ok.root (goal_row c.args.goal.now.hyps c.args.goal.now.concl) c.new-gates.ensures c.in-Ok.ensures.built
    (omega (arith, c.len-kept.ensures.count, c.len-kept.ensures.within))

pub returns-in-Err-clause-deep : goal.returns-in-Err-clause-deep
returns-in-Err-clause-deep c = λ e.
    let row = goal_row c.args.goal.now.hyps c.args.goal.now.concl in
    let is : c.stop_of.result ≡ stop.Deep = cc in
    let P : GateStop → Type 0 = λ s. Builds {T = Literal} {E = Edge} note_new Stands (listed c.new-gates.result) (listed c.edge-end.new.b) (Err s) row in
    ends_deep 4000000 c.new-gates.result c.edge-end.new.b row c.new-gates.ensures (subst P (c.stop_of.ensures.deep is) c.in-Err.ensures.built)
    (omega (arith, c.len-kept.ensures.count, c.len-kept.ensures.within))

pub returns-in-Err-clause-large : goal.returns-in-Err-clause-large
returns-in-Err-clause-large c = λ e.
    let row = goal_row c.args.goal.now.hyps c.args.goal.now.concl in
    let is : c.stop_of.result ≡ stop.Large = cc in
    let P : GateStop → Type 0 = λ s. Builds {T = Literal} {E = Edge} note_new Stands (listed c.new-gates.result) (listed c.edge-end.new.b) (Err s) row in
    ends_full 4000000 c.new-gates.result c.edge-end.new.b row c.new-gates.ensures (subst P (c.stop_of.ensures.large is) c.in-Err.ensures.built)
    (omega (arith, c.len-kept.ensures.count, c.len-kept.ensures.within))

pub returns-in-Ok-clause-of_values : goal.returns-in-Ok-clause-of_values
returns-in-Ok-clause-of_values c = λ values are. rw c.in-Ok.ensures.built.outcome.0.stands_for at (c.in-Ok.ensures.value values are)

pub returns-in-Ok-clause-of_bits : goal.returns-in-Ok-clause-of_bits
returns-in-Ok-clause-of_bits c = λ bits. rw c.in-Ok.ensures.built.outcome.0.stands_for at (c.in-Ok.ensures.read bits)
