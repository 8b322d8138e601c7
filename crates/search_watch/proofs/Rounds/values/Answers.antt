use Rattle.std.proofs.Common.{◌&&◌, ◌^◌, nat_lt, length, take}
use Rattle.sat_form.specs.Shape.{variables_within}
use Rattle.sat_form.proofs.Sets.{both}
use Rattle.search_learn.proofs.Solved.{sat_solves}
use Rattle.search_watch.proofs.Rounds.values.Goals as goal

pub returns-in-Sat-clause-satisfied : goal.returns-in-Sat-clause-satisfied
returns-in-Sat-clause-satisfied c =
    let inside = c.self.inside in
    let f = c.self.invariant c.if-self.false in
    let given = take inside.inputs inside.watches.clauses in
    let within = (both (nat_lt inside.vars (2 ^ 31) && nat_lt (length given) (2 ^ 62)) (variables_within inside.vars given) f.formula).1 in
    rw (c.as_slice.ensures.value, ← c.self.view_is)
    (sat_solves inside.vars given inside.budget _ within f.holds.reached c.in-Sat.is)
