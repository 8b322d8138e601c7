use Rattle.std.proofs.Common.{sym, subst}
use Rattle.goal_reply.specs.declared.reply.Outcome.TheVariants as outcome
use Rattle.gate_world.specs.Tasks.{TaskTurns}
use Rattle.gate_world.specs.declared.task.Task.{Task}
use Rattle.gate_world.specs.declared.task.Task.TheVariants as task
use Rattle.gate_world.proofs.Behind.{more_turns, ended_turns}
use Rattle.gate_world.proofs.task.Task.turn.Goals as goal

pub returns-in-More : goal.returns-in-More
returns-in-More c = λ budget.
    subst (λ (x : Task). TaskTurns budget c.args.goal.now x (task.Searching c.in-More.solving c.in-Searching.nodes)) (sym c.in-Searching.is)
    (more_turns budget c.args.goal.now c.in-Searching.solving c.in-More.solving c.in-Searching.nodes c.in_ok-solving-in-Searching.field-0 c.in-More.is c.in_ok-solving-in-Searching.ensures.turned)

pub returns-in-Ended : goal.returns-in-Ended
returns-in-Ended c = λ budget.
    subst (λ (x : Task). TaskTurns budget c.args.goal.now x (task.Ended (outcome.Replied c.in-Ended.reply) c.in-Searching.nodes)) (sym c.in-Searching.is)
    (ended_turns budget c.args.goal.now c.in-Searching.solving c.in-Ended.reply c.in-Searching.nodes c.in_ok-solving-in-Searching.field-0 c.in-Ended.is c.in_ok-solving-in-Searching.ensures.turned c.in_ok-solving-in-Searching.ensures.backed)
