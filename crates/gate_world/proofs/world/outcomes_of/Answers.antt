use Rattle.std.proofs.Common.{◌≡◌, ◌∷◌, ◌++◌, [], Some, length, map, sym, ap, ◌∙◌, subst, rules, map-id}
use Rattle.std.proofs.lemmas.Iterator.Consumers.{YieldsList-turn, YieldsList-end}
use Rattle.std.proofs.lemmas.Iterator.Adapters.{YieldsList-from_vec}
use Rattle.gate_world.specs.Tasks.{outcome_in}
use Rattle.gate_world.proofs.Happening.{outcomes_push}
use Rattle.gate_world.proofs.world.outcomes_of.Goals as goal

pub outcome_of-requires : goal.outcome_of-requires
outcome_of-requires c =
    let turn = YieldsList-turn (YieldsList-from_vec {s = c.into_iter-task-iterator.result} c.args.tasks.items (search rules) (search rules)) c.loop-task.yielded c.loop-task.task-iterator c.loop-task.yielded_by c.next.result c.next.new.self c.in-Some.task c.in-Some.is c.next.ensures.steps in
    λ none. c.requires (length c.loop-task.yielded) c.in-Some.task turn.0 (ap outcome_in (sym turn.1) ∙ none)

pub loop-task-preserved : goal.loop-task-preserved
loop-task-preserved c =
    subst (λ os. map outcome_in (c.loop-task.yielded ++ c.in-Some.task ∷ []) ≡ map (λ o. Some o) os) (sym c.in_ok-push.ensures.items) (outcomes_push c.loop-task.yielded c.loop-task.outcomes.items c.in-Some.task c.outcome_of.result c.loop-task.invariant c.outcome_of.ensures)

pub returns : goal.returns
returns c =
    let end = YieldsList-end (YieldsList-from_vec {s = c.into_iter-task-iterator.result} c.args.tasks.items (search rules) (search rules)) c.loop-task.yielded c.loop-task.task-iterator c.loop-task.yielded_by c.next.result c.next.new.self c.in-None.is c.next.ensures.steps in
    ap (map outcome_in) (sym end.0 ∙ map-id c.loop-task.yielded) ∙ c.loop-task.invariant
