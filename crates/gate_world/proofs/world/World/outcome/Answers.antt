use Rattle.std.proofs.Common.{arith}
use Rattle.gate_world.specs.World.{actor_at}
use Rattle.gate_world.specs.Shown.{goals_of}
use Rattle.gate_world.proofs.Tasked.{outcome_as}
use Rattle.gate_world.proofs.Shown.{there, in_tasks, read_task}
use Rattle.gate_world.proofs.Happening.{not_over, if_some, if_none}
use Rattle.gate_world.proofs.world.World.outcome.Goals as goal

pub index-requires : goal.index-requires
index-requires c =
    let s = c.args.self.now in
    let l = in_tasks (goals_of s) s.words.items s.budget s.tasks.items c.known.ensures c.args.goal c.requires in
    omega (arith, s.tasks.ok.0)

pub returns : goal.returns
returns c =
    let s = c.args.self.now in
    let g = c.args.goal in
    let t = c.index.result.now in
    let x = there (goals_of s) g c.requires in
    let at = read_task s.tasks.items g t (in_tasks (goals_of s) s.words.items s.budget s.tasks.items c.known.ensures g c.requires) c.index.ensures in
    record {
      some = if_some c.outcome.result _ _ (λ o p w h. let r = outcome_as (actor_at w g) s.words.items s.budget x.0 t o.now (h.tasks_are g x.0 t x.1 at) p in (r.0, r.1, r.2)) c.outcome.ensures.some;
      backed = if_some c.outcome.result _ _ (λ o p y e. let r = outcome_as (actor_at c.known.ensures.world g) s.words.items s.budget y t o.now (c.known.ensures.shown.tasks_are g y t e at) p in r.3) c.outcome.ensures.some;
      none = if_none c.outcome.result _ _ (λ p w h. not_over (actor_at w g) s.words.items s.budget x.0 t (h.tasks_are g x.0 t x.1 at) p) c.outcome.ensures.none;
    }
