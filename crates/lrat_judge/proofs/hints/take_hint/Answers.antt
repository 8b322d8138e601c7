use Rattle.lrat_judge.proofs.Hinted.{unit_free, took_false, took_unit, took_neither}
use Rattle.lrat_judge.proofs.hints.take_hint.Goals as goal

pub assign-requires : goal.assign-requires
assign-requires c = unit_free c.args.marks.now c.in-Some.clause.now c.in-Unit.lit c.in-Unit.ensures.1

pub returns-in-False-clause-taken : goal.returns-in-False-clause-taken
returns-in-False-clause-taken c a same = took_false c.args.known.now c.args.id c.args.marks.now a c.in-Some.clause.now c.in-Some.ensures same c.in-False.ensures

pub returns-in_ok-assign-in-Unit-clause-taken : goal.returns-in_ok-assign-in-Unit-clause-taken
returns-in_ok-assign-in-Unit-clause-taken c a same = took_unit c.args.known.now c.args.id c.args.marks.now a c.in-Some.clause.now c.in-Some.ensures same c.in-Unit.lit c.assign.new.self c.in-Unit.ensures c.in_ok-assign-in-Unit.ensures.ok

pub returns-in-Neither-clause-taken : goal.returns-in-Neither-clause-taken
returns-in-Neither-clause-taken c a same = took_neither c.args.known.now c.args.id c.args.marks.now a c.in-Some.clause.now c.in-Some.ensures same c.in-Neither.ensures
