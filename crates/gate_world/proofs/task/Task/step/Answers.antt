use Rattle.std.proofs.Common.{sym, subst}
use Rattle.gate_world.specs.Tasks.{FollowsWalk, TaskMoves}
use Rattle.gate_world.specs.declared.task.Task.{Task}
use Rattle.gate_world.proofs.Begun.{if_ok}
use Rattle.gate_world.proofs.Behind.{walk_follows, idles_unless, idle_follows}
use Rattle.gate_world.proofs.task.Task.step.Goals as goal

pub returns-in_ok-step-in-Walking-clause-moves : goal.returns-in_ok-step-in-Walking-clause-moves
returns-in_ok-step-in-Walking-clause-moves c =
    if_ok c.behind_walk.result (FollowsWalk c.args.budget c.in_ok-step-in-Walking.field-0) (λ next. TaskMoves c.args.words.now c.args.budget c.args.goal.now c.args.self c.args.words.now next)
    (λ t k. subst (λ (x : Task). TaskMoves c.args.words.now c.args.budget c.args.goal.now x c.args.words.now t) (sym c.in-Walking.is) (walk_follows c.args.words.now c.args.budget c.args.goal.now c.in-Walking.walking c.in_ok-step-in-Walking.field-0 t c.in_ok-step-in-Walking.ensures k))
    c.behind_walk.ensures

pub returns-in_default-clause-moves : goal.returns-in_default-clause-moves
returns-in_default-clause-moves c = idle_follows c.args.words.now c.args.budget c.args.goal.now c.args.self (idles_unless c.args.self c.in_default.not-Building c.in_default.not-Walking)
