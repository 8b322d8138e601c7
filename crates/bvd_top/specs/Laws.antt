-- What the runs of the commands say of one another.
use Rattle.std.specs.Prelude.{◌≡◌, ◌⊎◌, ◌≤◌, List, [], ◌∷◌, Some, None, Ok, ⊤, length, All, Contains}
use Rattle.bvd_host.specs.Files.{Files}
use Rattle.bvd_words.specs.Requests.{Command, Prove, Alone, Check, Schedule, Cnf, Show, Request}
use Rattle.bvd_report.specs.Report.{Told, Proved, Replayed, OutOfMemory, Line, Part, all_goals, certificates}
use Rattle.bvd_top.specs.Parts.{ArePartsOf}
use Rattle.bvd_top.specs.Storing.{with_all}

-- the commands that search
abbrev pub IsSolving : Command → Type 0
IsSolving Prove = ⊤
IsSolving Alone = ⊤
IsSolving Schedule = ⊤
IsSolving Check = ⊥
IsSolving Cnf = ⊥
IsSolving Show = ⊥

-- a goal that was told proved is told accepted later, or that there is no memory
abbrev pub IsConfirmed : Told → Told → Type 0
IsConfirmed (Proved text) later = (later ≡ Replayed (Ok tt)) ⊎ (later ≡ OutOfMemory)
IsConfirmed told later = ⊤

-- the same of goals in order, where they name no stored certificate
abbrev pub AreConfirmed : List Line → List Line → Type 0
AreConfirmed [] [] = ⊤
AreConfirmed [] (later ∷ laters) = ⊥
AreConfirmed (line ∷ lines) [] = ⊥
AreConfirmed (line ∷ lines) (later ∷ laters) =
    (later.goal ≡ line.goal) × (line.goal.stored ≡ None → IsConfirmed line.told later.told) × AreConfirmed lines laters

-- A run of a command that searches, over some files, and a run of `check` for the same theorem files, over what that run
-- left: its certificates are written, and nothing else is. `missing` and `missing_later` are as in `ArePartsOf`.
pub record IsCheckedBehind (missing missing_later : Type 0) (request check : Request) (files : Files) (parts checked : List Part) : Type 0 where
  pub solves : IsSolving request.command
  pub checks : check.command ≡ Check
  pub same_files : check.files ≡ request.files
  -- as in each request that the words of a command line ask for
  pub few : length request.files ≤ 64
  pub run : ArePartsOf (Some files) missing request parts
  pub run_behind : ArePartsOf (Some (with_all (certificates parts) files)) missing_later check checked
  -- no certificate has the name of a theorem file
  pub apart : All (λ file. ¬ (Contains request.files file.0)) (certificates parts)

-- What a run proved is accepted by a check of the same files behind it, goal by goal.
abbrev pub LaterCheckAccepts : (missing missing_later : Type 0) → Type 0
LaterCheckAccepts missing missing_later = (request check : Request) (files : Files) (parts checked : List Part)
    → IsCheckedBehind missing missing_later request check files parts checked → AreConfirmed (all_goals parts) (all_goals checked)
