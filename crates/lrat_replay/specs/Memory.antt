-- Causes outside the text.
use Rattle.lrat_replay.specs.declared.stop.ReplayStop.{ReplayStop}
use Rattle.lrat_replay.specs.declared.stop.ReplayStop.TheVariants.{ReadFault, Memory}

-- it is want of memory
abbrev pub IsMemory : ReplayStop → Type 0
IsMemory (Memory e) = Unit {0}
IsMemory stop = ⊥

-- it is want of memory or a read that failed
abbrev pub IsOutside : ReplayStop → Type 0
IsOutside (Memory e) = Unit {0}
IsOutside ReadFault = Unit {0}
IsOutside stop = ⊥
