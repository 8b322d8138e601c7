-- A kept certificate and a later check of it.
use Rattle.std.proofs.Common.{◌≡◌, ◌⊎◌, inl, inr, ℕ, List, refl, sym, ap, subst}
use Rattle.std.specs.Prelude.{◌^◌, ◌-◌, ◌≤◌, Some, None, Ok, length, Result}
use Rattle.bvd_host.specs.Files.{Files, file_at}
use Rattle.bv_expr.specs.Term.{Term}
use Rattle.bv_expr.specs.Goal.{Binders}
use Rattle.bv_expr.specs.Statement.{Statement}
use Rattle.lrat_lines.specs.Judge.{given}
use Rattle.lrat_lines.specs.Replay.{Verdict, TextComesTo, lines_within}
use Rattle.lrat_lines.proofs.Verdicts.{one_verdict}
use Rattle.lrat_replay.specs.Answer.{IsAnswerOn}
use Rattle.lrat_replay.specs.declared.stop.ReplayStop.{ReplayStop}
use Rattle.goal_alone.specs.Ends.{End, Made, TooDeep, TooMany}
use Rattle.goal_alone.specs.Formula.{goal_clauses, goal_end}
use Rattle.goal_alone.specs.Alone.{Answer, solved, alone}
use Rattle.bvd_report.specs.Report.{Told, Proved, False, Budget, Deep, Large, Full, Cancelled, OutOfMemory, Clauses, Replayed, AbsentCertificate, Nothing}
use Rattle.bvd_top.specs.Answered.{IsAnswered, IsCertificateFor}
use Rattle.bvd_top.specs.Replayed.{IsReplayed}
use Rattle.bvd_top.specs.Checked.{IsChecked}

-- only a goal whose gates are made is proved
made_of_end : (end : End) (searched : Answer) (text : List ℕ) → elim end as (λ _. Answer) [ TooDeep ↦ Answer.Deep | TooMany ↦ Answer.Large | Made ↦ searched ] ≡ Answer.Proved text → end ≡ Made
made_of_end Made searched text e = refl
made_of_end TooDeep searched text e = absurd cc
made_of_end TooMany searched text e = absurd cc

made_of_proved : (binders : Binders) (hyps : List Term) (concl : Term) (steps : ℕ) (text : List ℕ) → alone binders hyps concl steps ≡ Answer.Proved text → goal_end hyps concl ≡ Made
unfolding alone
made_of_proved binders hyps concl steps text e = made_of_end (goal_end hyps concl) (solved binders hyps concl steps) text e

-- a file whose text is a certificate for a goal's clauses is answered with Ok alone
only_accepted : (files : Files) (name text : List ℕ) (hyps : List Term) (concl : Term) → file_at files name ≡ Some text → IsCertificateFor hyps concl text
    → (end : Result (Unit {0}) ReplayStop) → IsReplayed (Some files) name (goal_clauses hyps concl) end → end ≡ Ok tt
only_accepted files name text hyps concl held certificate end is =
    let (verdict, comes, on) = is.answer in
    let same : is.bytes ≡ text = cc (is.certificate.0) in
    let accepted : Verdict.Accepted ≡ verdict =
    one_verdict (given (goal_clauses hyps concl)) 1 (lines_within (2 ^ 64 - 1) text) Verdict.Accepted verdict
    (certificate (2 ^ 64 - 1) (subst (λ b. length b ≤ 2 ^ 64 - 1) same is.certificate.1))
    (subst (λ b. TextComesTo (goal_clauses hyps concl) (2 ^ 64 - 1) b verdict) same comes) in
    subst (λ v. IsAnswerOn (2 ^ 64 - 1) is.bytes v end) (sym accepted) on

-- a check by such a file tells that it is accepted
checked_by : (files : Files) (missing : Type 0) (name text : List ℕ) (goal : Statement) → file_at files name ≡ Some text → goal_end goal.hyps goal.concl ≡ Made
    → IsCertificateFor goal.hyps goal.concl text → (told : Told) → IsChecked (Some files) missing name goal told → (told ≡ Replayed (Ok tt)) ⊎ (told ≡ OutOfMemory)
checked_by files missing name text goal held made certificate (Replayed end) is = inl (ap Replayed (only_accepted files name text goal.hyps goal.concl held certificate end is.1))
checked_by files missing name text goal held made certificate OutOfMemory is = inr refl
checked_by files missing name text goal held made certificate Deep is = absurd cc
checked_by files missing name text goal held made certificate Large is = absurd cc
checked_by files missing name text goal held made certificate AbsentCertificate is = let here : file_at files name ≡ None = is.1 in absurd cc
checked_by files missing name text goal held made certificate (Proved own) is = absurd is
checked_by files missing name text goal held made certificate (False values) is = absurd is
checked_by files missing name text goal held made certificate (Budget spent) is = absurd is
checked_by files missing name text goal held made certificate Full is = absurd is
checked_by files missing name text goal held made certificate (Cancelled by) is = absurd is
checked_by files missing name text goal held made certificate (Clauses own) is = absurd is
checked_by files missing name text goal held made certificate Nothing is = absurd is

-- where a goal was told proved by a text that a file holds, a check of the goal by that file tells that it is accepted, or that there is no memory
pub kept_is_accepted : (steps : ℕ) (goal : Statement) (text : List ℕ) (files : Files) (missing : Type 0) (name : List ℕ) (told : Told) → IsAnswered steps goal (Proved text)
    → file_at files name ≡ Some text → IsChecked (Some files) missing name goal told → (told ≡ Replayed (Ok tt)) ⊎ (told ≡ OutOfMemory)
kept_is_accepted steps goal text files missing name told proved held checked =
    checked_by files missing name text goal held (made_of_proved goal.binders goal.hyps goal.concl steps text proved.0) proved.1 told checked
