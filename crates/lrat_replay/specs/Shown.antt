-- The code's faults, as those of the definitions.
use Rattle.lrat_lines.specs.Replay as replay
use Rattle.lrat_judge.specs.Judged.{cause_shown}
use Rattle.lrat_replay.specs.declared.fault.Fault.{Fault}
use Rattle.lrat_replay.specs.declared.fault.Fault.TheVariants.{Malformed, Because}

-- the fault of the definitions that a fault stands for
abbrev pub fault_shown : Fault → replay.Fault
fault_shown Malformed = replay.Fault.Malformed
fault_shown (Because cause) = replay.Fault.Because (cause_shown cause)
