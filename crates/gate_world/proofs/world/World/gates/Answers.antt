use Rattle.std.proofs.Common.{◌≡◌, ◌∙◌, List, [], All, length, nat_eq, sym, ap, subst, arith}
use Rattle.std.proofs.lemmas.Result.{IfOk-weaker}
use Rattle.indexmap.specs.IndexSet.{insert_all}
use Rattle.gate_world.specs.World.{World}
use Rattle.gate_world.specs.Nodes.{all_nodes}
use Rattle.gate_world.specs.Counted.{gates_in_cones, distinct_gates}
use Rattle.gate_world.specs.Shown.{Shows, goals_of}
use Rattle.gate_world.specs.declared.task.Task.{Task}
use Rattle.gate_world.proofs.Nodes.{IsSmall}
use Rattle.gate_world.proofs.Counted.{counts_right, few_shown}
use Rattle.gate_world.proofs.world.World.gates.Goals as goal

pub gate_counts-requires : goal.gate_counts-requires
gate_counts-requires c =
    let s = c.args.self.now in
    let tasks : c.deref.result.now ≡ s.tasks.items = c.deref.ensures.value in
    let count = ap (λ (ts : List Task). length ts) tasks in
    let same = c.known.ensures.shown.count in
    let few = c.known.ensures.few_goals in
    record { tasks = omega arith; nodes = subst (All IsSmall) (sym tasks) (few_shown (goals_of s) s.words.items s.budget s.tasks.items c.known.ensures) }

pub returns : goal.returns
returns c =
    let s = c.args.self.now in
    let nodes = ap all_nodes c.deref.ensures.value in
    IfOk-weaker c.gate_counts.result
    (λ counts. (counts.in_cones ≡ length (all_nodes c.deref.result.now)) × (counts.distinct ≡ length (insert_all nat_eq [] (all_nodes c.deref.result.now))))
    (λ counts. (w : World) → Shows s w → (counts.in_cones ≡ gates_in_cones w.actors) × (counts.distinct ≡ distinct_gates w.actors))
    (λ counts h w shows.
    let right = counts_right (goals_of s) s.words.items s.budget s.tasks.items w shows in
    (h.0 ∙ ap length nodes ∙ right.0, h.1 ∙ ap (λ ns. length (insert_all nat_eq [] ns)) nodes ∙ right.1)) c.gate_counts.ensures
