-- What a check tells of a goal, by what is told of its certificate.
use Rattle.std.proofs.Common.{◌≡◌, ℕ, true, false, List, sym, ◌∙◌, subst, Some, None}
use Rattle.std.specs.Prelude.{◌↔◌, Option, Result, Ok, Err, OnOk}
use Rattle.sat_form.specs.Literals.{Literal}
use Rattle.sat_form.specs.Truth.{HaveNoValues}
use Rattle.bvd_host.specs.Files.{Files}
use Rattle.bv_expr.specs.Term.{Term}
use Rattle.bv_expr.specs.Goal.{Binders, IsValid}
use Rattle.bv_expr.specs.Statement.{Statement}
use Rattle.lrat_replay.specs.declared.stop.ReplayStop.{ReplayStop}
use Rattle.goal_alone.specs.Ends.{Made}
use Rattle.goal_alone.specs.Formula.{goal_clauses, goal_end}
use Rattle.goal_alone.specs.Satisfying.{IsSatisfiable, IsFalsifiable}
use Rattle.bvd_report.specs.Report.{Told, Proved, False, Budget, Deep, Large, Full, Cancelled, OutOfMemory, Clauses, Replayed, AbsentCertificate, Nothing}
use Rattle.bvd_top.specs.Replayed.{IsReplayed, IsAbsent, IsToldBy}
use Rattle.bvd_top.specs.Checked.{IsChecked}

-- a goal whose clauses have no satisfying values is valid
valid_of_none : (binders : Binders) (hyps : List Term) (concl : Term) (cs : List (List Literal)) → HaveNoValues cs → (IsSatisfiable cs ↔ IsFalsifiable binders hyps concl)
    → IsValid binders hyps concl
valid_of_none binders hyps concl cs none same = λ values fit falsify.
    let found = same.1 (values, fit, falsify) in
    let not_true : true ≡ false = sym found.1 ∙ none found.0 in
    absurd cc

valid_where : (end : Result (Unit {0}) ReplayStop) (binders : Binders) (hyps : List Term) (concl : Term) (cs : List (List Literal)) → (IsSatisfiable cs ↔ IsFalsifiable binders hyps concl)
    → OnOk end (HaveNoValues cs) → OnOk end (IsValid binders hyps concl)
valid_where (Ok u) binders hyps concl cs same none = valid_of_none binders hyps concl cs none same
valid_where (Err e) binders hyps concl cs same none = tt

-- what is told by the certificate is told of the goal
pub checked : (files : Option Files) (missing : Type 0) (name : List ℕ) (goal : Statement) (cs : List (List Literal)) → goal_end goal.hyps goal.concl ≡ Made → cs ≡ goal_clauses goal.hyps goal.concl
    → (IsSatisfiable cs ↔ IsFalsifiable goal.binders goal.hyps goal.concl) → (told : Told) → IsToldBy files missing name cs told → IsChecked files missing name goal told
checked files missing name goal cs made e same (Replayed end) is =
    (made, subst (λ c. IsReplayed files name c end) e is.0, valid_where end goal.binders goal.hyps goal.concl cs same is.1)
checked files missing name goal cs made e same AbsentCertificate is = (made, is)
checked files missing name goal cs made e same OutOfMemory is = tt
checked files missing name goal cs made e same Deep is = absurd is
checked files missing name goal cs made e same Large is = absurd is
checked files missing name goal cs made e same (Proved text) is = absurd is
checked files missing name goal cs made e same (False values) is = absurd is
checked files missing name goal cs made e same (Budget spent) is = absurd is
checked files missing name goal cs made e same Full is = absurd is
checked files missing name goal cs made e same (Cancelled by) is = absurd is
checked files missing name goal cs made e same (Clauses text) is = absurd is
checked files missing name goal cs made e same Nothing is = absurd is

absent_later : (files : Option Files) (m n : Type 0) (name : List ℕ) → (m → n) → IsAbsent files m name → IsAbsent files n name
absent_later None m n name f is = f is
absent_later (Some files) m n name f is = is

-- the same while the count of missing files rises
pub checked_later : (files : Option Files) (m n : Type 0) (name : List ℕ) (goal : Statement) (told : Told) → (m → n) → IsChecked files m name goal told → IsChecked files n name goal told
checked_later files m n name goal AbsentCertificate f is = (is.0, absent_later files m n name f is.1)
checked_later files m n name goal (Replayed end) f is = is
checked_later files m n name goal OutOfMemory f is = is
checked_later files m n name goal Deep f is = is
checked_later files m n name goal Large f is = is
checked_later files m n name goal (Proved text) f is = is
checked_later files m n name goal (False values) f is = is
checked_later files m n name goal (Budget spent) f is = is
checked_later files m n name goal Full f is = is
checked_later files m n name goal (Cancelled by) f is = is
checked_later files m n name goal (Clauses text) f is = is
checked_later files m n name goal Nothing f is = is

-- where the files are told, nothing hangs on missing files
pub checked_told : (files : Files) (m n : Type 0) (name : List ℕ) (goal : Statement) (told : Told) → IsChecked (Some files) m name goal told → IsChecked (Some files) n name goal told
checked_told files m n name goal AbsentCertificate is = is
checked_told files m n name goal (Replayed end) is = is
checked_told files m n name goal OutOfMemory is = is
checked_told files m n name goal Deep is = is
checked_told files m n name goal Large is = is
checked_told files m n name goal (Proved text) is = is
checked_told files m n name goal (False values) is = is
checked_told files m n name goal (Budget spent) is = is
checked_told files m n name goal Full is = is
checked_told files m n name goal (Cancelled by) is = is
checked_told files m n name goal (Clauses text) is = is
checked_told files m n name goal Nothing is = is
