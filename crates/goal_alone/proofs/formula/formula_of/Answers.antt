use Rattle.tseitin.specs.Clauses.{AreConeOf}
use Rattle.goal_alone.specs.Formula.{goal_edge}
use Rattle.goal_alone.proofs.Satisfied.{IsEdgeOf, satisfiable_where_falsifiable, falsified_at}
use Rattle.goal_alone.proofs.formula.formula_of.Goals as goal

pub returns-clause-satisfiable : goal.returns-clause-satisfiable
returns-clause-satisfiable c =
    let g = c.args.goal.now in
    let law : IsEdgeOf g.binders g.hyps g.concl = record { of_values = c.in_ok-gates.ensures.of_values; of_bits = c.in_ok-gates.ensures.of_bits } in
    let of : AreConeOf (goal_edge g.hyps g.concl) c.in_ok-cone.cone.nodes.items c.in_ok-cone.cone.root = rw c.in_ok-gates.ensures.stands.stands_for at c.in_ok-cone.ensures in
    satisfiable_where_falsifiable g.binders g.hyps g.concl g.fits law c.in_ok-cnf.cnf.clauses (c.in_ok-cnf.ensures.edge (goal_edge g.hyps g.concl) of).1

pub returns-clause-falsified : goal.returns-clause-falsified
returns-clause-falsified c =
    let g = c.args.goal.now in
    let law : IsEdgeOf g.binders g.hyps g.concl = record { of_values = c.in_ok-gates.ensures.of_values; of_bits = c.in_ok-gates.ensures.of_bits } in
    let of : AreConeOf (goal_edge g.hyps g.concl) c.in_ok-cone.cone.nodes.items c.in_ok-cone.cone.root = rw c.in_ok-gates.ensures.stands.stands_for at c.in_ok-cone.ensures in
    falsified_at g.binders g.hyps g.concl g.fits law c.in_ok-cnf.cnf.clauses (c.in_ok-cnf.ensures.edge (goal_edge g.hyps g.concl) of).1
