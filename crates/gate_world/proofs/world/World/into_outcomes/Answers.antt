use Rattle.gate_world.specs.Shown.{goals_of}
use Rattle.gate_world.proofs.Begun.{if_ok}
use Rattle.gate_world.proofs.Happening.{all_over, ended_so, backed_so}
use Rattle.gate_world.proofs.world.World.into_outcomes.Goals as goal

pub outcomes_of-requires : goal.outcomes_of-requires
outcomes_of-requires c =
    let s = c.args.self in
    let k = c.known.ensures in
    all_over (goals_of s) s.words.items s.budget s.tasks.items k.world k.shown (c.requires k.world k.shown)

pub returns : goal.returns
returns c =
    let s = c.args.self in
    let k = c.known.ensures in
    record {
      outcomes = if_ok c.outcomes_of.result _ _ (λ os e w h. ended_so (goals_of s) s.words.items s.budget s.tasks.items w h os.items e) c.outcomes_of.ensures;
      backed = if_ok c.outcomes_of.result _ _ (λ os e. backed_so (goals_of s) s.words.items s.budget s.tasks.items k.world k.shown os.items e) c.outcomes_of.ensures;
    }
