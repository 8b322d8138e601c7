use Rattle.std.proofs.Common.{arith}
use Rattle.gate_world.specs.World.{actor_at}
use Rattle.gate_world.specs.Shown.{goals_of}
use Rattle.gate_world.proofs.Shown.{there, in_tasks, read_task}
use Rattle.gate_world.proofs.world.World.phase.Goals as goal

pub index-requires : goal.index-requires
index-requires c =
    let s = c.args.self.now in
    let l = in_tasks (goals_of s) s.words.items s.budget s.tasks.items c.known.ensures c.args.goal c.requires in
    omega (arith, s.tasks.ok.0)

pub returns : goal.returns
returns c =
    let s = c.args.self.now in
    let x = there (goals_of s) c.args.goal c.requires in
    let at = read_task s.tasks.items c.args.goal c.index.result.now (in_tasks (goals_of s) s.words.items s.budget s.tasks.items c.known.ensures c.args.goal c.requires) c.index.ensures in
    λ w h. c.phase.ensures x.0 (actor_at w c.args.goal) s.words.items s.budget (h.tasks_are c.args.goal x.0 c.index.result.now x.1 at)
