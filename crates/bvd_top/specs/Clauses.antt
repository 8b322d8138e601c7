-- What is told of a goal by its clauses.
use Rattle.std.specs.Prelude.{◌≡◌, ◌↔◌}
use Rattle.sat_form.specs.Dimacs.{dimacs_text}
use Rattle.goal_alone.specs.Ends.{Made, TooDeep, TooMany}
use Rattle.goal_alone.specs.Formula.{goal_clauses, goal_end, goal_variables}
use Rattle.goal_alone.specs.Satisfying.{IsSatisfiable, IsFalsifiable}
use Rattle.bv_expr.specs.Statement.{Statement}
use Rattle.bvd_report.specs.Report.{Told, Proved, False, Budget, Deep, Large, Full, Cancelled, OutOfMemory, Clauses, Replayed, AbsentCertificate, Nothing}

-- What `cnf` tells of a goal: the text of its clauses, which some values satisfy exactly where some values falsify the
-- goal; or that the circuit is too deep or too large.
abbrev pub IsClausesTold : Statement → Told → Type 0
IsClausesTold goal (Clauses text) =
    (goal_end goal.hyps goal.concl ≡ Made) × (text ≡ dimacs_text (goal_variables goal.hyps goal.concl) (goal_clauses goal.hyps goal.concl))
    × (IsSatisfiable (goal_clauses goal.hyps goal.concl) ↔ IsFalsifiable goal.binders goal.hyps goal.concl)
IsClausesTold goal Deep = goal_end goal.hyps goal.concl ≡ TooDeep
IsClausesTold goal Large = goal_end goal.hyps goal.concl ≡ TooMany
IsClausesTold goal (Proved text) = ⊥
IsClausesTold goal (False values) = ⊥
IsClausesTold goal (Budget spent) = ⊥
IsClausesTold goal Full = ⊥
IsClausesTold goal (Cancelled by) = ⊥
IsClausesTold goal OutOfMemory = ⊥
IsClausesTold goal (Replayed end) = ⊥
IsClausesTold goal AbsentCertificate = ⊥
IsClausesTold goal Nothing = ⊥
