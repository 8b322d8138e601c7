-- What is told of a goal by its stored certificate.
use Rattle.std.specs.Prelude.{◌≡◌, ℕ, List, Option, ⊤, OnOk}
use Rattle.bvd_host.specs.Files.{Files}
use Rattle.bv_expr.specs.Goal.{IsValid}
use Rattle.bv_expr.specs.Statement.{Statement}
use Rattle.goal_alone.specs.Ends.{Made, TooDeep, TooMany}
use Rattle.goal_alone.specs.Formula.{goal_clauses, goal_end}
use Rattle.bvd_report.specs.Report.{Told, Proved, False, Budget, Deep, Large, Full, Cancelled, OutOfMemory, Clauses, Replayed, AbsentCertificate, Nothing}
use Rattle.bvd_top.specs.Replayed.{IsReplayed, IsAbsent}

-- What `check` tells of a goal whose certificate has this name: that its circuit is too deep or too large; or how the
-- certificate's replay over its clauses ends. Where it is accepted the goal is valid, whatever the files hold.
abbrev pub IsChecked : Option Files → Type 0 → List ℕ → Statement → Told → Type 0
IsChecked files missing name goal (Replayed end) =
    (goal_end goal.hyps goal.concl ≡ Made) × IsReplayed files name (goal_clauses goal.hyps goal.concl) end × OnOk end (IsValid goal.binders goal.hyps goal.concl)
IsChecked files missing name goal AbsentCertificate = (goal_end goal.hyps goal.concl ≡ Made) × IsAbsent files missing name
IsChecked files missing name goal Deep = goal_end goal.hyps goal.concl ≡ TooDeep
IsChecked files missing name goal Large = goal_end goal.hyps goal.concl ≡ TooMany
IsChecked files missing name goal OutOfMemory = ⊤
IsChecked files missing name goal (Proved text) = ⊥
IsChecked files missing name goal (False values) = ⊥
IsChecked files missing name goal (Budget spent) = ⊥
IsChecked files missing name goal Full = ⊥
IsChecked files missing name goal (Cancelled by) = ⊥
IsChecked files missing name goal (Clauses text) = ⊥
IsChecked files missing name goal Nothing = ⊥
