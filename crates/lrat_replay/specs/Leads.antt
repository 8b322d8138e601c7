-- What a step of a replay says of the verdict on the lines.
use Rattle.std.specs.Prelude.{◌≡◌, ℕ, Bool, true, false, Result, Ok, Err}
use Rattle.lrat_lines.specs.Replay.{Fault, Verdict}
use Rattle.lrat_lines.specs.Replay.Verdict.{Accepted, Refused}
use Rattle.lrat_replay.specs.Answer.{refusal}
use Rattle.lrat_replay.specs.Memory.{IsMemory}
use Rattle.lrat_replay.specs.declared.stop.ReplayStop.{ReplayStop}

-- Where a step leads, from the verdicts that the lines before it come to, to those of the lines behind it: a `true` accepts, a `false` leaves the verdict to what follows, and want of memory says nothing.
abbrev pub Leads : Result Bool ReplayStop → (Verdict → Type 0) → (Verdict → Type 0) → Type 0
Leads (Ok true) before after = before Accepted
Leads (Ok false) before after = (v : Verdict) → after v → before v
Leads (Err stop) before after = ¬ (IsMemory stop) → (n : ℕ) × (fault : Fault) × (stop ≡ refusal n fault) × before (Refused n fault)
