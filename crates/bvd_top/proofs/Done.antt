-- What follows where no device fails.
use Rattle.std.proofs.Common.{◌≡◌, ◌⊎◌, inl, inr, ℕ, ◌+◌, ◌≤◌, ◌≢◌, max, length, List, [], ◌∷◌, ◌++◌, refl, sym, ap, ◌∙◌, subst, arith, Some, None}
use Rattle.std.specs.Prelude.{Option, option_map, Ok, Err}
use Rattle.bvd_host.specs.Files.{Files}
use Rattle.bvd_host.specs.Causes.{Rose}
use Rattle.bvd_host.specs.Outside.{Outside, SinkFailed, IsHonest}
use Rattle.bv_expr.specs.Statement.{Statement}
use Rattle.bvd_words.specs.Requests.{Command, Prove, Alone, Check, Schedule, Cnf, Show, Request}
use Rattle.bvd_report.specs.Report.{Told, Proved, False, Budget, Deep, Large, Full, Cancelled, OutOfMemory, Clauses, Replayed, AbsentCertificate, Nothing, Line, Found, Part, goals_of, certificates, status_of, found_status, goals_status, told_status}
use Rattle.bvd_top.specs.Words.{usage}
use Rattle.bvd_top.specs.Scheduled.{report_of}
use Rattle.bvd_top.specs.Storing.{with_all}
use Rattle.bvd_top.specs.Stated.{Stated, Absent, TooLong, Faulty, Goals, File, AreStated}
use Rattle.bvd_top.specs.Told.{IsTold, IsLineOf, AreTold}
use Rattle.bvd_top.specs.Parts.{IsFound, AreFound, ArePartsOf}
use Rattle.bvd_top.proofs.Checks.{checked_told}
use Rattle.bvd_top.specs.Ending.{Stops, Tells, Untold, AnsweredIf, Does, IsFaultTold}

not_stopped : (before now status : ℕ) → ¬ (Rose before now) → status ≢ 7 → Stops before now status → ⊥
not_stopped before now status holds seven (inl s) = holds s.1.rose
not_stopped before now status holds seven (inr s) = seven s.0

whole : (text added : List ℕ) (own status : ℕ) (before after : Outside) → before.written ≡ Some text → ¬ (SinkFailed before after) → status ≢ 7 → Tells added own before after status
    → (after.written ≡ Some (text ++ added)) × (status ≡ own)
whole text added own status before after told holds seven (inl t) = (t.0 ∙ ap (option_map (λ w. w ++ added)) told, t.1)
whole text added own status before after told holds seven (inr t) = absurd (not_stopped before.sink_faults after.sink_faults status holds seven t.3)

-- where the files are told, nothing hangs on missing files
all_stated_told : (files : Files) (m n : Type 0) (names : List (List ℕ)) (stated : List File) → AreStated (Some files) m names stated → AreStated (Some files) n names stated
all_stated_told files m n [] [] are = are
all_stated_told files m n [] (file ∷ rest) are = are
all_stated_told files m n (name ∷ names) [] are = are
all_stated_told files m n (name ∷ names) (file ∷ rest) are = (are.0, are.1, all_stated_told files m n names rest are.2)

goal_told : (command : Command) (steps : ℕ) (files : Files) (m n : Type 0) (name : List ℕ) (goal : Statement) (told : Told) → IsTold command steps (Some files) m name goal told
    → IsTold command steps (Some files) n name goal told
goal_told Prove steps files m n name goal told is = is
goal_told Alone steps files m n name goal told is = is
goal_told Check steps files m n name goal told is = checked_told files m n name goal told is
goal_told Schedule steps files m n name goal told is = is
goal_told Cnf steps files m n name goal told is = is
goal_told Show steps files m n name goal told is = is

line_told : (request : Request) (files : Files) (m n : Type 0) (k : ℕ) (goal : Statement) (line : Line) → IsLineOf request (Some files) m k goal line → IsLineOf request (Some files) n k goal line
line_told request files m n k goal line is = record {
  same_goal = is.same_goal;
  named = is.named;
  told = goal_told request.command request.steps files m n line.certificate goal line.told is.told;
}

goals_told : (request : Request) (files : Files) (m n : Type 0) (k : ℕ) (goals : List Statement) (lines : List Line) → AreTold request (Some files) m k goals lines
    → AreTold request (Some files) n k goals lines
goals_told request files m n k [] [] are = are
goals_told request files m n k [] (line ∷ lines) are = are
goals_told request files m n k (goal ∷ goals) [] are = are
goals_told request files m n k (goal ∷ goals) (line ∷ lines) are = (line_told request files m n k goal line are.0, goals_told request files m n (k + 1) goals lines are.1)

file_told : (request : Request) (files : Files) (m n : Type 0) (k : ℕ) (s : Stated) (found : Found) → IsFound request (Some files) m k s found → IsFound request (Some files) n k s found
file_told request files m n k Absent found is = is
file_told request files m n k TooLong found is = is
file_told request files m n k (Faulty fault) found is = is
file_told request files m n k (Goals goals) Found.Absent is = is
file_told request files m n k (Goals goals) Found.TooLong is = is
file_told request files m n k (Goals goals) (Found.Faulty fault) is = is
file_told request files m n k (Goals goals) (Found.Goals lines) is = goals_told request files m n k goals lines is

files_told : (request : Request) (files : Files) (m n : Type 0) (k : ℕ) (stated : List File) (parts : List Part) → AreFound request (Some files) m k stated parts
    → AreFound request (Some files) n k stated parts
files_told request files m n k [] [] are = are
files_told request files m n k [] (part ∷ parts) are = are
files_told request files m n k (file ∷ rest) [] are = are
files_told request files m n k (file ∷ rest) (part ∷ parts) are =
    (are.0, file_told request files m n k file.stated part.found are.1, files_told request files m n (k + length (goals_of part.found)) rest parts are.2)

parts_told : (request : Request) (files : Files) (m n : Type 0) (parts : List Part) → ArePartsOf (Some files) m request parts → ArePartsOf (Some files) n request parts
parts_told request files m n parts are = (are.0, all_stated_told files m n request.files are.0 are.1, files_told request files m n 1 are.0 parts are.2, are.3)

pub done : (o : Option Request) (files : Files) (text : List ℕ) (before after : Outside) (status : ℕ) → IsHonest before after files text → status ≢ 7 → AnsweredIf o before after status → Does o files text after status
done None files text before after status honest seven r =
    let t = whole text usage 2 status before after honest.written_told honest.sink_holds seven r.tells in
    record { told = t.0; stored = r.files_stay ∙ honest.files_told; answered = t.1 }
done (Some request) files text before after status honest seven (inl u) = absurd (not_stopped before.keeper_faults after.keeper_faults status honest.keeper_holds seven u.stops)
done (Some request) files text before after status honest seven (inr (inl u)) = absurd (not_stopped before.keeper_faults after.keeper_faults status honest.keeper_holds seven u.stops)
done (Some request) files text before after status honest seven (inr (inr r)) =
    let missing = Rose before.missing after.missing in
    let t = whole text (report_of request r.parts) (status_of r.parts) status before after honest.written_told honest.sink_holds seven r.tells in (
      r.parts,
      parts_told request files missing ⊥ r.parts (subst (λ f. ArePartsOf f missing request r.parts) honest.files_told r.found),
      record {
        told = t.0;
        stored = r.stored ∙ ap (option_map (with_all (certificates r.parts))) honest.files_told;
        answered = t.1;
      },
    )

-- statuses that goals and files ask for: none is 2 or 6
record IsOwn (n : ℕ) : Type 0 where
  below : (n ≤ 5) ⊎ (n ≡ 7)
  apart : (n ≤ 1) ⊎ (3 ≤ n)

both_below : (a b : ℕ) → (a ≤ 5) ⊎ (a ≡ 7) → (b ≤ 5) ⊎ (b ≡ 7) → (max a b ≤ 5) ⊎ (max a b ≡ 7)
both_below a b (inl h) (inl k) = inl (omega arith)
both_below a b (inl h) (inr k) = inr (omega arith)
both_below a b (inr h) (inl k) = inr (omega arith)
both_below a b (inr h) (inr k) = inr (omega arith)

both_apart : (a b : ℕ) → (a ≤ 1) ⊎ (3 ≤ a) → (b ≤ 1) ⊎ (3 ≤ b) → (max a b ≤ 1) ⊎ (3 ≤ max a b)
both_apart a b (inl h) (inl k) = inl (omega arith)
both_apart a b (inl h) (inr k) = inr (omega arith)
both_apart a b (inr h) (inl k) = inr (omega arith)
both_apart a b (inr h) (inr k) = inr (omega arith)

both_own : (a b : ℕ) → IsOwn a → IsOwn b → IsOwn (max a b)
both_own a b p q = record { below = both_below a b p.below q.below; apart = both_apart a b p.apart q.apart }

low : (n : ℕ) → n ≤ 1 → IsOwn n
low n h = record { below = inl (omega arith); apart = inl h }

high : (n : ℕ) → 3 ≤ n → n ≤ 5 → IsOwn n
high n h k = record { below = inl k; apart = inr h }

told_own : (told : Told) → IsOwn (told_status told)
told_own (Proved text) = low 0 (omega arith)
told_own (Clauses text) = low 0 (omega arith)
told_own (Replayed (Ok done)) = low 0 (omega arith)
told_own Nothing = low 0 (omega arith)
told_own (False values) = low 1 (omega arith)
told_own (Replayed (Err refused)) = low 1 (omega arith)
told_own (Budget spent) = high 3 (omega arith) (omega arith)
told_own Deep = high 3 (omega arith) (omega arith)
told_own Large = high 3 (omega arith) (omega arith)
told_own (Cancelled by) = high 3 (omega arith) (omega arith)
told_own AbsentCertificate = high 4 (omega arith) (omega arith)
told_own Full = high 5 (omega arith) (omega arith)
told_own OutOfMemory = record { below = inr refl; apart = inr (omega arith) }

goals_own : (lines : List Line) → IsOwn (goals_status lines)
goals_own [] = low 0 (omega arith)
goals_own (line ∷ lines) = both_own (told_status line.told) (goals_status lines) (told_own line.told) (goals_own lines)

found_own : (found : Found) → IsOwn (found_status found)
found_own Found.Absent = high 4 (omega arith) (omega arith)
found_own Found.TooLong = high 4 (omega arith) (omega arith)
found_own (Found.Faulty fault) = high 4 (omega arith) (omega arith)
found_own (Found.Goals lines) = goals_own lines

parts_own : (parts : List Part) → IsOwn (status_of parts)
parts_own [] = low 0 (omega arith)
parts_own (part ∷ parts) = both_own (found_status part.found) (status_of parts) (found_own part.found) (parts_own parts)

never_six : (n : ℕ) → (n ≤ 5) ⊎ (n ≡ 7) → n ≢ 6
never_six n (inl h) e = omega arith
never_six n (inr h) e = omega arith

never_two : (n : ℕ) → (n ≤ 1) ⊎ (3 ≤ n) → n ≢ 2
never_two n (inl h) e = omega arith
never_two n (inr h) e = omega arith

-- the keeper's faults are told, where the sink isn't asked
keeper_told : (before after : Outside) (status : ℕ) → Untold before after → Stops before.keeper_faults after.keeper_faults status → IsFaultTold before after status
keeper_told before after status untold (inl s) = record {
  failed = λ e. inl s.1.rose;
  once = omega (arith, s.1.once, untold.sink_stays);
  spared = λ other. absurd (other s.0);
}
keeper_told before after status untold (inr s) = record {
  failed = λ e. absurd (omega (arith, e, s.0));
  once = omega (arith, s.1, untold.sink_stays);
  spared = λ other. (s.1, untold.sink_stays);
}

-- the sink's faults are told, where the keeper hasn't failed
sink_told : (text : List ℕ) (own : ℕ) (before after : Outside) (status : ℕ) → own ≢ 6 → after.keeper_faults ≡ before.keeper_faults → Tells text own before after status → IsFaultTold before after status
sink_told text own before after status apart kept (inl t) = record {
  failed = λ e. absurd (apart (sym t.1 ∙ e));
  once = omega (arith, t.2, kept);
  spared = λ other. (kept, t.2);
}
sink_told text own before after status apart kept (inr (n, part, written, inl s)) = record {
  failed = λ e. inr s.1.rose;
  once = omega (arith, s.1.once, kept);
  spared = λ other. absurd (other s.0);
}
sink_told text own before after status apart kept (inr (n, part, written, inr s)) = record {
  failed = λ e. absurd (omega (arith, e, s.0));
  once = omega (arith, s.1, kept);
  spared = λ other. (kept, s.1);
}

pub device : (o : Option Request) (before after : Outside) (status : ℕ) → AnsweredIf o before after status → IsFaultTold before after status
device None before after status r = sink_told usage 2 before after status (λ e. omega arith) r.keeper_stays r.tells
device (Some request) before after status (inl u) = keeper_told before after status u.untold u.stops
device (Some request) before after status (inr (inl u)) = keeper_told before after status u.untold u.stops
device (Some request) before after status (inr (inr r)) =
    sink_told (report_of request r.parts) (status_of r.parts) before after status (never_six (status_of r.parts) (parts_own r.parts).below) r.keeper_stays r.tells

stops_not : (before now status : ℕ) → Stops before now status → status ≢ 2
stops_not before now status (inl s) e = omega (arith, e, s.0)
stops_not before now status (inr s) e = omega (arith, e, s.0)

tells_not : (added : List ℕ) (own status : ℕ) (before after : Outside) → own ≢ 2 → Tells added own before after status → status ≢ 2
tells_not added own status before after apart (inl t) e = apart (sym t.1 ∙ e)
tells_not added own status before after apart (inr t) e = stops_not before.sink_faults after.sink_faults status t.3 e

pub words : (o : Option Request) (before after : Outside) (status : ℕ) → AnsweredIf o before after status → status ≡ 2 → o ≡ None
words None before after status r e = refl
words (Some request) before after status (inl u) e = absurd (stops_not before.keeper_faults after.keeper_faults status u.stops e)
words (Some request) before after status (inr (inl u)) e = absurd (stops_not before.keeper_faults after.keeper_faults status u.stops e)
words (Some request) before after status (inr (inr r)) e = absurd (tells_not (report_of request r.parts) (status_of r.parts) status before after (never_two (status_of r.parts) (parts_own r.parts).apart) r.tells e)
