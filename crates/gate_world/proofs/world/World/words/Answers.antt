use Rattle.std.proofs.Common.{sym, ◌∙◌, subst}
use Rattle.gate_probe.specs.Sound.{IsSound}
use Rattle.gate_world.specs.Shown.{goals_of}
use Rattle.gate_world.proofs.Shown.{good}
use Rattle.gate_world.proofs.world.World.words.Goals as goal

pub returns : goal.returns
returns c =
    let s = c.args.self.now in
    let k = c.known.ensures in
    let w = good (goals_of s) s.words.items s.budget s.tasks.items k.world k.shown k.some k.few k.scripted in
    record {
      words = λ v h. c.as_slice.ensures.value ∙ sym h.words_are;
      sound = subst IsSound (k.shown.words_are ∙ sym c.as_slice.ensures.value) w.sound;
    }
