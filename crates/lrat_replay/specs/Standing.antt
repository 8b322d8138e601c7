-- Where a replay stands: what it makes of the text to come.
use Rattle.std.specs.Prelude.{ℕ, ◌+◌, List, ◌++◌, length, Result}
use Rattle.lrat_lines.specs.Replay.{Verdict, ComesTo, lines_within}
use Rattle.lrat_replay.specs.Answer.{IsAnswerOn}
use Rattle.lrat_replay.specs.declared.progress.Progress.{Progress}
use Rattle.lrat_replay.specs.declared.stop.ReplayStop.{ReplayStop}

-- the verdict on a text to come, of which so many bytes may be taken
abbrev pub WillComeTo : Progress → ℕ → List ℕ → Verdict → Type 0
WillComeTo p most text v = ComesTo p.judge (p.judged + 1) (lines_within (length p.begun.items + most) (p.begun.items ++ text)) v

-- the answer on a text to come
abbrev pub WillAnswer : Progress → List ℕ → Result (Unit {0}) ReplayStop → Type 0
WillAnswer p text r = (v : Verdict) × WillComeTo p p.left text v × IsAnswerOn p.left text v r
