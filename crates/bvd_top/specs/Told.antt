-- What may be told of a goal, by each command.
use Rattle.std.specs.Prelude.{◌≡◌, ℕ, ◌+◌, List, [], ◌∷◌, Option, ⊤}
use Rattle.bvd_host.specs.Files.{Files}
use Rattle.bvd_words.specs.Requests.{Command, Prove, Alone, Check, Schedule, Cnf, Show, Request}
use Rattle.bv_expr.specs.Statement.{Statement}
use Rattle.bvd_report.specs.Report.{Told, Nothing, Line}
use Rattle.bvd_top.specs.Names.{certificate_of}
use Rattle.bvd_top.specs.Answered.{IsAnswered, IsAnsweredOrFull}
use Rattle.bvd_top.specs.Checked.{IsChecked}
use Rattle.bvd_top.specs.Clauses.{IsClausesTold}

-- What a command tells of a goal: the answer within a budget of steps, how the replay of its certificate ends, which has
-- this name among the files, its clauses, or nothing.
abbrev pub IsTold : Command → ℕ → Option Files → Type 0 → List ℕ → Statement → Told → Type 0
IsTold Prove steps files missing name goal told = IsAnswered steps goal told
IsTold Alone steps files missing name goal told = IsAnswered steps goal told
IsTold Schedule steps files missing name goal told = IsAnsweredOrFull steps goal told
IsTold Check steps files missing name goal told = IsChecked files missing name goal told
IsTold Cnf steps files missing name goal told = IsClausesTold goal told
IsTold Show steps files missing name goal told = told ≡ Nothing

-- the line of the run's k-th goal
pub record IsLineOf (request : Request) (files : Option Files) (missing : Type 0) (k : ℕ) (goal : Statement) (line : Line) : Type 0 where
  pub same_goal : line.goal ≡ goal
  pub named : line.certificate ≡ certificate_of request.command k goal
  pub told : IsTold request.command request.steps files missing line.certificate goal line.told

-- the lines of goals that are numbered from k on
abbrev pub AreTold : Request → Option Files → Type 0 → ℕ → List Statement → List Line → Type 0
AreTold request files missing k [] [] = ⊤
AreTold request files missing k [] (line ∷ lines) = ⊥
AreTold request files missing k (goal ∷ goals) [] = ⊥
AreTold request files missing k (goal ∷ goals) (line ∷ lines) = IsLineOf request files missing k goal line × AreTold request files missing (k + 1) goals lines
