use Rattle.std.proofs.Common.{take, get_or, length, sym, ap, subst}
use Rattle.std.proofs.lemmas.Grind.{take_at_read}
use Rattle.gate_world.specs.Shown.{AllHappen, NamesGoals, goals_of}
use Rattle.gate_world.specs.declared.event.Event.TheVariants as code
use Rattle.gate_world.proofs.Shown.{right}
use Rattle.gate_world.proofs.Happening.{HaveHappened, none_happened, one_more, take_past}
use Rattle.gate_world.proofs.world.World.run.Goals as goal

pub loop-event-init : goal.loop-event-init
loop-event-init c = none_happened c.args.self.now

pub step-requires : goal.step-requires
step-requires c =
    let event = get_or c.args.events.now c.loop-event.event-index (code.Step 0) in
    subst (λ n. NamesGoals n event) (sym (ap length c.loop-event.invariant.same.goals)) (c.requires c.loop-event.event-index (code.Step 0) c.loop-event-test.true)

pub loop-event-preserved : goal.loop-event-preserved
loop-event-preserved c =
    let event = get_or c.args.events.now c.loop-event.event-index (code.Step 0) in
    let cut = take_at_read c.args.events.now c.loop-event.event-index (code.Step 0) c.loop-event-test.true in
    subst (λ es. HaveHappened es c.args.self.now c.step.new.self) (sym cut.1)
    (one_more (take c.loop-event.event-index c.args.events.now) event c.args.self.now c.loop-event.self c.step.new.self c.loop-event.invariant c.step.ensures.happens c.step.ensures.same)

pub returns-clause-happen : goal.returns-clause-happen
returns-clause-happen c = subst (λ es. AllHappen es c.args.self.now c.loop-event.self) (take_past c.args.events.now c.loop-event.event-index c.loop-event-test.false) c.loop-event.invariant.happen

pub returns-clause-same : goal.returns-clause-same
returns-clause-same c = c.loop-event.invariant.same

pub returns-clause-right : goal.returns-clause-right
returns-clause-right c =
    let s = c.loop-event.self in
    λ w h. right (goals_of s) s.words.items s.budget s.tasks.items w h c.known.ensures.some c.known.ensures.few c.known.ensures.scripted
