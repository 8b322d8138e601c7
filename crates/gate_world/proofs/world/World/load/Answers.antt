use Rattle.std.proofs.Common.{◌≡◌, Some, length, set, slice_get, refl, sym, ap, ◌∙◌, subst}
use Rattle.gate_world.specs.World.{Step, actor_at}
use Rattle.gate_world.specs.Tasks.{IsTask}
use Rattle.gate_world.specs.Reached.{IsWorld, StepsTo}
use Rattle.gate_world.specs.Shown.{goals_of}
use Rattle.gate_world.proofs.Shown.{PartsBecome, world_on, lent_words, read_goal, its_task_is, load_ended, loads_set}
use Rattle.gate_world.proofs.world.World.load.Goals as goal

pub returns-then-has_outcome-clause-happens : goal.returns-then-has_outcome-clause-happens
returns-then-has_outcome-clause-happens c =
    let s = c.args.self.now in
    load_ended (goals_of s) s.words.items s.budget s.tasks.items c.known.ensures c.args.goal c.requires c.has_outcome.result c.if-has_outcome.true c.has_outcome.ensures

pub stepped-next-requires-clause-budget : goal.stepped-next-requires-clause-budget
stepped-next-requires-clause-budget c = c.known.ensures.steps

pub stepped-next-requires-clause-task : goal.stepped-next-requires-clause-task
stepped-next-requires-clause-task c =
    let s = c.args.self.now in
    let goal' = c.index.result.now.now in
    let at : slice_get (goals_of s) c.args.goal ≡ Some goal' = read_goal s.goals.items c.args.goal c.index.result.now c.requires c.index.ensures in
    let a = actor_at c.known.ensures.world c.args.goal in
    (a, subst (λ ws. IsTask a ws s.budget goal' c.take-task.result) (sym c.deref_mut.ensures.value) (its_task_is (goals_of s) s.words.items s.budget s.tasks.items c.known.ensures c.args.goal c.requires goal' c.take-task.result at c.take-task.ensures.taken))

pub invariant_of-self : goal.invariant_of-self
invariant_of-self c =
    let s = c.args.self.now in
    let goal' = c.index.result.now.now in
    let at : slice_get (goals_of s) c.args.goal ≡ Some goal' = read_goal s.goals.items c.args.goal c.index.result.now c.requires c.index.ensures in
    let steps : StepsTo s.words.items s.budget goal' c.take-task.result c.stepped-next.new.words c.stepped-next.result = subst (λ ws. StepsTo ws s.budget goal' c.take-task.result c.stepped-next.new.words c.stepped-next.result) c.deref_mut.ensures.value c.stepped-next.ensures in
    let after : c.put.new.tasks.items ≡ set (set s.tasks.items c.args.goal c.take-task.ensures.rest.0) c.args.goal c.stepped-next.result = c.put.ensures ∙ ap (λ ts. set ts c.args.goal c.stepped-next.result) c.take-task.ensures.rest.1 in
    let on = loads_set (goals_of s) s.words.items s.budget s.tasks.items c.known.ensures c.args.goal c.requires c.has_outcome.result c.if-has_outcome.false c.has_outcome.ensures goal' c.take-task.result c.take-task.ensures.rest.0 c.stepped-next.result c.stepped-next.new.words c.put.new.tasks.items at c.take-task.ensures.taken after steps in
    let size : length c.stepped-next.new.words ≡ length s.words.items = c.stepped-next.auto.words ∙ ap length c.deref_mut.ensures.value in
    let world : IsWorld (goals_of s) c.stepped-next.new.words s.budget c.put.new.tasks.items = world_on (Step c.args.goal) (goals_of s) s.words.items s.budget s.tasks.items c.stepped-next.new.words c.put.new.tasks.items c.known.ensures size on in
    record { reached = ∣ subst (λ ws. IsWorld (goals_of s) ws s.budget c.put.new.tasks.items) (sym (lent_words s.words.len c.stepped-next.new.words s.words.items s.words.ok.0 size)) world ∣₁ }

pub returns-clause-happens : goal.returns-clause-happens
returns-clause-happens c =
    let s = c.args.self.now in
    let goal' = c.index.result.now.now in
    let at : slice_get (goals_of s) c.args.goal ≡ Some goal' = read_goal s.goals.items c.args.goal c.index.result.now c.requires c.index.ensures in
    let steps : StepsTo s.words.items s.budget goal' c.take-task.result c.stepped-next.new.words c.stepped-next.result = subst (λ ws. StepsTo ws s.budget goal' c.take-task.result c.stepped-next.new.words c.stepped-next.result) c.deref_mut.ensures.value c.stepped-next.ensures in
    let after : c.put.new.tasks.items ≡ set (set s.tasks.items c.args.goal c.take-task.ensures.rest.0) c.args.goal c.stepped-next.result = c.put.ensures ∙ ap (λ ts. set ts c.args.goal c.stepped-next.result) c.take-task.ensures.rest.1 in
    let size : length c.stepped-next.new.words ≡ length s.words.items = c.stepped-next.auto.words ∙ ap length c.deref_mut.ensures.value in
    subst (λ ws. PartsBecome (Step c.args.goal) (goals_of s) s.words.items s.budget s.tasks.items ws c.put.new.tasks.items) (sym (lent_words s.words.len c.stepped-next.new.words s.words.items s.words.ok.0 size))
    (loads_set (goals_of s) s.words.items s.budget s.tasks.items c.known.ensures c.args.goal c.requires c.has_outcome.result c.if-has_outcome.false c.has_outcome.ensures goal' c.take-task.result c.take-task.ensures.rest.0 c.stepped-next.result c.stepped-next.new.words c.put.new.tasks.items at c.take-task.ensures.taken after steps)

pub returns-clause-same : goal.returns-clause-same
returns-clause-same c =
    let s = c.args.self.now in
    let size : length c.stepped-next.new.words ≡ length s.words.items = c.stepped-next.auto.words ∙ ap length c.deref_mut.ensures.value in
    record { goals = refl; size = ap length (lent_words s.words.len c.stepped-next.new.words s.words.items s.words.ok.0 size) ∙ size; budget = refl }
