-- What a report has words for.
use Rattle.std.specs.Prelude.{All, Result, Err}
use Rattle.bv_lex.specs.Cut.{IsMemory}
use Rattle.bv_expr.specs.Goal.{Binders, AreValues}
use Rattle.lrat_replay.specs.declared.stop.ReplayStop.{ReplayStop}
use Rattle.lrat_replay.specs.declared.stop.ReplayStop.TheVariants as stop
use Rattle.bvd_report.specs.declared.told.Line.{Line}
use Rattle.bvd_report.specs.declared.told.Found.{Found}
use Rattle.bvd_report.specs.declared.told.Found.TheVariants.{Absent, TooLong, Faulty, Goals}
use Rattle.bvd_report.specs.declared.told.Part.{Part}
use Rattle.bvd_report.specs.Report.{Told}
use Rattle.bvd_report.specs.Report.Told.{False, Replayed}
use Rattle.bvd_report.specs.Shown.{told_shown}

-- the replay was decided by the certificate's text
abbrev pub IsDecided : Result (Unit {0}) ReplayStop → Type 0
IsDecided (Err stop.TooLong) = ⊥
IsDecided (Err stop.ReadFault) = ⊥
IsDecided (Err (stop.Memory e)) = ⊥
IsDecided end = Unit {0}

-- what is told of a goal over these variables: the values of a false goal are theirs, and a replay was decided
abbrev pub IsTellable : Binders → Told → Type 0
IsTellable binders (False values) = AreValues binders values
IsTellable binders (Replayed end) = IsDecided end
IsTellable binders told = Unit {0}

abbrev pub IsLine : Line → Type 0
IsLine line = IsTellable line.goal.now.binders (told_shown line.told)

-- a file's fault isn't want of memory, and its goals' lines are tellable
abbrev pub IsFound : Found → Type 0
IsFound Absent = Unit {0}
IsFound TooLong = Unit {0}
IsFound (Faulty fault) = ¬ (IsMemory fault.kind)
IsFound (Goals lines) = All IsLine lines.items

abbrev pub IsPart : Part → Type 0
IsPart part = IsFound part.found
