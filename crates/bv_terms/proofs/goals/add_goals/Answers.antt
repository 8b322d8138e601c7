use Rattle.std.proofs.Common.{◌<◌, ◌∙◌, length, map, ap, arith, length-drop}
use Rattle.bv_expr.specs.Statement.{statement_of}
use Rattle.bv_terms.proofs.Stating.{AreSplit, IsPassed, next_passed, of_next, all_found, all_added}
use Rattle.bv_terms.proofs.goals.add_goals.Goals as goal

pub goals-smaller : goal.goals-smaller
goals-smaller c =
    let some : 0 < length c.goals.rest.now = grind arith in
    let more : 0 < c.goal_end.result = c.goal_end.ensures.some some in
    omega (arith, some, more, ap length c.split_at.ensures.back, length-drop c.goal_end.result c.goals.rest.now)

pub add_goal-requires-clause-goal : goal.add_goal-requires-clause-goal
add_goal-requires-clause-goal c =
    let some : 0 < length c.goals.rest.now = grind arith in
    let split : AreSplit c.goals.rest.now c.split_at.result.0.now c.split_at.result.1.now = record {
      first = λ g gs e. c.split_at.ensures.front ∙ c.goal_end.ensures.first g gs e;
      others = λ g gs e. c.split_at.ensures.back ∙ c.goal_end.ensures.others g gs e;
    } in
    of_next c.args.file.now c.args.pieces.now c.goals.rest.now c.split_at.result.0.now c.split_at.result.1.now c.goals.found (map statement_of c.args.goals.now.items) (map statement_of c.goals.goals.items) some split c.requires.pieces c.goals.invariant

pub goals-preserved : goal.goals-preserved
goals-preserved c =
    let some : 0 < length c.goals.rest.now = grind arith in
    let split : AreSplit c.goals.rest.now c.split_at.result.0.now c.split_at.result.1.now = record {
      first = λ g gs e. c.split_at.ensures.front ∙ c.goal_end.ensures.first g gs e;
      others = λ g gs e. c.split_at.ensures.back ∙ c.goal_end.ensures.others g gs e;
    } in
    let passed : IsPassed c.args.file.now c.split_at.result.0.now c.goals.found c.in_ok-found.found (map statement_of c.goals.goals.items) (map statement_of c.add_goal.new.goals.items) = record {
      found = c.in_ok-found.ensures.found;
      added = c.in_ok-found.ensures.added;
    } in
    next_passed c.args.file.now c.args.pieces.now c.goals.rest.now c.split_at.result.0.now c.split_at.result.1.now c.goals.found c.in_ok-found.found
    (map statement_of c.args.goals.now.items) (map statement_of c.goals.goals.items) (map statement_of c.add_goal.new.goals.items) some split passed c.goals.invariant

pub returns-clause-found : goal.returns-clause-found
returns-clause-found c = all_found c.args.file.now c.args.pieces.now c.goals.rest.now c.goals.found (map statement_of c.args.goals.now.items) (map statement_of c.goals.goals.items) (grind arith) c.goals.invariant

pub returns-clause-added : goal.returns-clause-added
returns-clause-added c = all_added c.args.file.now c.args.pieces.now c.goals.rest.now c.goals.found (map statement_of c.args.goals.now.items) (map statement_of c.goals.goals.items) (grind arith) c.goals.invariant
