use Rattle.gate_probe.specs.Sound.{IsSound, IsWithin}
use Rattle.gate_world.specs.Coding.{BuildingMoves, IsAtWork}
use Rattle.gate_world.proofs.Begun.{if_ok}
use Rattle.gate_world.proofs.Going.{step_sound, step_grows, step_goes_on}
use Rattle.gate_world.proofs.build.Building.step.Goals as goal

pub returns-clause-sound : goal.returns-clause-sound
returns-clause-sound c =
    if_ok c.advance.result (BuildingMoves c.args.words.now c.args.self c.advance.new.words) (λ work. IsSound c.advance.new.words)
    (λ work to. step_sound c.args.words.now c.advance.new.words c.args.self work c.requires to) c.advance.ensures.ok

pub returns-clause-grows : goal.returns-clause-grows
returns-clause-grows c =
    if_ok c.advance.result (BuildingMoves c.args.words.now c.args.self c.advance.new.words) (λ work. IsWithin c.args.words.now c.advance.new.words)
    (λ work to. step_grows c.args.words.now c.advance.new.words c.args.self work c.requires to) c.advance.ensures.ok

pub returns-clause-goes_on : goal.returns-clause-goes_on
returns-clause-goes_on c =
    if_ok c.advance.result (BuildingMoves c.args.words.now c.args.self c.advance.new.words) (IsAtWork c.advance.new.words)
    (λ work to. step_goes_on c.args.words.now c.advance.new.words c.args.self work c.requires to) c.advance.ensures.ok
