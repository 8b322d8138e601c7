use Rattle.std.proofs.Common.{◌≡◌, Some, set, slice_get, refl, ap, ◌∙◌}
use Rattle.gate_world.specs.World.{Turn, actor_at}
use Rattle.gate_world.specs.Shown.{goals_of}
use Rattle.gate_world.proofs.Shown.{world_on, read_goal, its_task_is, turn_ended, turns_set}
use Rattle.gate_world.proofs.world.World.turn.Goals as goal

pub returns-then-has_outcome-clause-happens : goal.returns-then-has_outcome-clause-happens
returns-then-has_outcome-clause-happens c =
    let s = c.args.self.now in
    turn_ended (goals_of s) s.words.items s.budget s.tasks.items c.known.ensures c.args.goal c.requires c.has_outcome.result c.if-has_outcome.true c.has_outcome.ensures

pub turned-next-requires : goal.turned-next-requires
turned-next-requires c =
    let s = c.args.self.now in
    let goal' = c.index.result.now.now in
    let at : slice_get (goals_of s) c.args.goal ≡ Some goal' = read_goal s.goals.items c.args.goal c.index.result.now c.requires c.index.ensures in
    (actor_at c.known.ensures.world c.args.goal, s.words.items, s.budget, its_task_is (goals_of s) s.words.items s.budget s.tasks.items c.known.ensures c.args.goal c.requires goal' c.take-task.result at c.take-task.ensures.taken)

pub invariant_of-self : goal.invariant_of-self
invariant_of-self c =
    let s = c.args.self.now in
    let goal' = c.index.result.now.now in
    let at : slice_get (goals_of s) c.args.goal ≡ Some goal' = read_goal s.goals.items c.args.goal c.index.result.now c.requires c.index.ensures in
    let after : c.put.new.tasks.items ≡ set (set s.tasks.items c.args.goal c.take-task.ensures.rest.0) c.args.goal c.turned-next.result = c.put.ensures ∙ ap (λ ts. set ts c.args.goal c.turned-next.result) c.take-task.ensures.rest.1 in
    let on = turns_set (goals_of s) s.words.items s.budget s.tasks.items c.known.ensures c.args.goal c.requires c.has_outcome.result c.if-has_outcome.false c.has_outcome.ensures goal' c.take-task.result c.take-task.ensures.rest.0 c.turned-next.result c.put.new.tasks.items at c.take-task.ensures.taken after c.turned-next.ensures in
    record { reached = ∣ world_on (Turn c.args.goal) (goals_of s) s.words.items s.budget s.tasks.items s.words.items c.put.new.tasks.items c.known.ensures refl on ∣₁ }

pub returns-clause-happens : goal.returns-clause-happens
returns-clause-happens c =
    let s = c.args.self.now in
    let goal' = c.index.result.now.now in
    let at : slice_get (goals_of s) c.args.goal ≡ Some goal' = read_goal s.goals.items c.args.goal c.index.result.now c.requires c.index.ensures in
    let after : c.put.new.tasks.items ≡ set (set s.tasks.items c.args.goal c.take-task.ensures.rest.0) c.args.goal c.turned-next.result = c.put.ensures ∙ ap (λ ts. set ts c.args.goal c.turned-next.result) c.take-task.ensures.rest.1 in
    turns_set (goals_of s) s.words.items s.budget s.tasks.items c.known.ensures c.args.goal c.requires c.has_outcome.result c.if-has_outcome.false c.has_outcome.ensures goal' c.take-task.result c.take-task.ensures.rest.0 c.turned-next.result c.put.new.tasks.items at c.take-task.ensures.taken after c.turned-next.ensures
