-- What is told of a goal by a search over its clauses.
use Rattle.std.specs.Prelude.{◌≡◌, ◌≤◌, ℕ, List, ⊤, length}
use Rattle.bv_expr.specs.Term.{Term}
use Rattle.bv_expr.specs.Goal.{AreValues, Falsifies, IsValid}
use Rattle.bv_expr.specs.Statement.{Statement}
use Rattle.bvd_report.specs.Report.{Told, Proved, False, Budget, Deep, Large, Full, Cancelled, OutOfMemory, Clauses, Replayed, AbsentCertificate, Nothing}
use Rattle.lrat_lines.specs.Replay.{Verdict, TextComesTo}
use Rattle.goal_alone.specs.Formula.{goal_clauses}
use Rattle.goal_alone.specs.Alone.{Answer, alone}

-- a text is a certificate for these terms: replayed over their clauses it is accepted
abbrev pub IsCertificateFor : List Term → Term → List ℕ → Type 0
IsCertificateFor hyps concl text = (most : ℕ) → length text ≤ most → TextComesTo (goal_clauses hyps concl) most text Verdict.Accepted

-- What is told of a goal by what it comes to within the budget: proved by a certificate, and then the goal is valid; false
-- at values, and then these falsify it; or why it isn't decided. Want of memory may be told of any goal.
abbrev pub IsAnswered : ℕ → Statement → Told → Type 0
IsAnswered steps goal (Proved text) =
    (alone goal.binders goal.hyps goal.concl steps ≡ Answer.Proved text) × IsCertificateFor goal.hyps goal.concl text × IsValid goal.binders goal.hyps goal.concl
IsAnswered steps goal (False values) =
    (alone goal.binders goal.hyps goal.concl steps ≡ Answer.False values) × AreValues goal.binders values × Falsifies goal.hyps goal.concl values
IsAnswered steps goal (Budget spent) = alone goal.binders goal.hyps goal.concl steps ≡ Answer.Budget spent
IsAnswered steps goal Deep = alone goal.binders goal.hyps goal.concl steps ≡ Answer.Deep
IsAnswered steps goal Large = alone goal.binders goal.hyps goal.concl steps ≡ Answer.Large
IsAnswered steps goal OutOfMemory = ⊤
IsAnswered steps goal Full = ⊥
IsAnswered steps goal (Cancelled by) = ⊥
IsAnswered steps goal (Clauses text) = ⊥
IsAnswered steps goal (Replayed end) = ⊥
IsAnswered steps goal AbsentCertificate = ⊥
IsAnswered steps goal Nothing = ⊥

-- the same, or that a shared table had no room for the goal's circuit
abbrev pub IsAnsweredOrFull : ℕ → Statement → Told → Type 0
IsAnsweredOrFull steps goal (Proved text) = IsAnswered steps goal (Proved text)
IsAnsweredOrFull steps goal (False values) = IsAnswered steps goal (False values)
IsAnsweredOrFull steps goal (Budget spent) = IsAnswered steps goal (Budget spent)
IsAnsweredOrFull steps goal Deep = IsAnswered steps goal Deep
IsAnsweredOrFull steps goal Large = IsAnswered steps goal Large
IsAnsweredOrFull steps goal OutOfMemory = ⊤
IsAnsweredOrFull steps goal Full = ⊤
IsAnsweredOrFull steps goal (Cancelled by) = ⊥
IsAnsweredOrFull steps goal (Clauses text) = ⊥
IsAnsweredOrFull steps goal (Replayed end) = ⊥
IsAnsweredOrFull steps goal AbsentCertificate = ⊥
IsAnsweredOrFull steps goal Nothing = ⊥
