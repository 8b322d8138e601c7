-- A run that proves goals, and a later check of them over the files that it left.
use Rattle.std.proofs.Common.{◌≡◌, ℕ, suc, ◌+◌, ◌*◌, ◌≤◌, ◌^◌, List, [], ◌∷◌, ◌++◌, length, length-append, refl, sym, ap, ◌∙◌, subst, arith, Some, None}
use Rattle.std.specs.Prelude.{All, Contains, Option, unwrap_or}
use Rattle.bvd_host.specs.Files.{Files, file_at}
use Rattle.bv_lex.specs.declared.fault.Fault.{Fault}
use Rattle.bv_expr.specs.Statement.{Statement}
use Rattle.bv_parse.specs.Laws.{OneFault, OneReading, NotBoth}
use Rattle.bvd_words.specs.Requests.{Command, Prove, Alone, Check, Schedule, Cnf, Show, Request}
use Rattle.bvd_report.specs.Report.{Told, Proved, Line, Found, Part, goals_of, all_goals, certificates}
use Rattle.bvd_top.specs.Stated.{Stated, Absent, TooLong, Faulty, Goals, File, IsStatedBy, IsStatedIn, AreStated, IsSmall, goals_stated}
use Rattle.bvd_top.specs.Storing.{with_all}
use Rattle.bvd_top.specs.Names.{numbered, certificate_of}
use Rattle.bvd_top.specs.Answered.{IsAnsweredOrFull}
use Rattle.bvd_top.specs.Checked.{IsChecked}
use Rattle.bvd_top.specs.Told.{IsTold, IsLineOf, AreTold}
use Rattle.bvd_top.specs.Parts.{IsFound, AreFound}
use Rattle.bvd_top.specs.Laws.{IsSolving, IsConfirmed, AreConfirmed, LaterCheckAccepts}
use Rattle.bvd_top.proofs.FilesStated.{by_small}
use Rattle.bvd_top.proofs.Replies.{or_full}
use Rattle.bvd_top.proofs.GoalsTold.{lines_count}
use Rattle.bvd_top.proofs.CertificatesKept.{IsKept, AreKept, AreNumbered, all_kept, stays}
use Rattle.bvd_top.proofs.Kept.{kept_is_accepted}

-- ---- both runs read the same

-- a file reads as one list of goals at most, it has one fault at most, and one that reads as goals has none
pub record OneAnswer : Type 0 where
  pub fault : (bytes : List ℕ) (f g : Fault) → OneFault bytes f g
  pub reading : (bytes : List ℕ) (goals others : List Statement) → OneReading bytes goals others
  pub not_both : (bytes : List ℕ) (goals : List Statement) (f : Fault) → NotBoth bytes goals f

one_by : OneAnswer → (bytes : List ℕ) (s t : Stated) → IsStatedBy bytes s → IsStatedBy bytes t → s ≡ t
one_by once bytes Absent t p q = absurd p
one_by once bytes TooLong Absent p q = absurd q
one_by once bytes TooLong TooLong p q = refl
one_by once bytes TooLong (Faulty g) p q = absurd (omega (arith, p, q.0))
one_by once bytes TooLong (Goals hs) p q = absurd (omega (arith, p, q.0))
one_by once bytes (Faulty f) Absent p q = absurd q
one_by once bytes (Faulty f) TooLong p q = absurd (omega (arith, q, p.0))
one_by once bytes (Faulty f) (Faulty g) p q = ap Faulty (once.fault bytes f g p.1 q.1)
one_by once bytes (Faulty f) (Goals hs) p q = absurd (once.not_both bytes hs f q.1 p.1)
one_by once bytes (Goals gs) Absent p q = absurd q
one_by once bytes (Goals gs) TooLong p q = absurd (omega (arith, q, p.0))
one_by once bytes (Goals gs) (Faulty g) p q = absurd (once.not_both bytes gs g p.1 q.1)
one_by once bytes (Goals gs) (Goals hs) p q = ap Goals (once.reading bytes gs hs p.1 q.1)

one_in : OneAnswer → (content : Option (List ℕ)) (s t : Stated) → IsStatedIn content s → IsStatedIn content t → s ≡ t
one_in once None s t p q = p ∙ sym q
one_in once (Some bytes) s t p q = one_by once bytes s t p q

same_files : OneAnswer → (files final : Files) (m n : Type 0) (names : List (List ℕ)) (stated others : List File) → ((name : List ℕ) → Contains names name → file_at final name ≡ file_at files name)
    → AreStated (Some files) m names stated → AreStated (Some final) n names others → others ≡ stated
same_files once files final m n [] [] [] same are were = refl
same_files once files final m n [] (file ∷ stated) others same are were = absurd are
same_files once files final m n [] [] (other ∷ others) same are were = absurd were
same_files once files final m n (name ∷ names) [] others same are were = absurd are
same_files once files final m n (name ∷ names) (file ∷ stated) [] same are were = absurd were
same_files once files final m n (name ∷ names) (file ∷ stated) (other ∷ others) same are were =
    let path : other.path ≡ file.path = were.0 ∙ sym are.0 in
    let here : IsStatedIn (file_at files name) other.stated = subst (λ o. IsStatedIn o other.stated) (same name (0, omega arith, refl)) were.1 in
    let one : other.stated ≡ file.stated = one_in once (file_at files name) other.stated file.stated here are.1 in
    let rest : others ≡ stated = same_files once files final m n names stated others (λ other_name in_rest. same other_name (suc in_rest.0, omega (arith, in_rest.1), in_rest.2)) are.2 were.2 in
    λ i. record { path = path i; stated = one i } ∷ rest i

-- ---- how many goals files state

in_small : (content : Option (List ℕ)) (s : Stated) → IsStatedIn content s → IsSmall s
in_small None s is = subst IsSmall (sym is) (omega arith)
in_small (Some bytes) s is = by_small bytes s is

-- the goals that files state, in order
abbrev pub all_stated : List File → List Statement
all_stated [] = []
all_stated (file ∷ rest) = goals_stated file.stated ++ all_stated rest

-- each file states at most 1,024 goals
few_stated : (files : Files) (missing : Type 0) (names : List (List ℕ)) (stated : List File) → AreStated (Some files) missing names stated → length (all_stated stated) ≤ 1024 * length names
few_stated files missing [] [] are = omega arith
few_stated files missing [] (file ∷ rest) are = absurd are
few_stated files missing (name ∷ names) [] are = absurd are
few_stated files missing (name ∷ names) (file ∷ rest) are =
    omega (arith, in_small (file_at files name) file.stated are.1, few_stated files missing names rest are.2, length-append (goals_stated file.stated) (all_stated rest))

-- ---- the goals of all files as those of one

told_append : (request : Request) (files : Files) (missing : Type 0) (k : ℕ) (goals : List Statement) (lines : List Line) (others : List Statement) (later : List Line)
    → AreTold request (Some files) missing k goals lines → AreTold request (Some files) missing (k + length lines) others later → AreTold request (Some files) missing k (goals ++ others) (lines ++ later)
told_append request files missing k [] [] others later are behind = let same : k + 0 ≡ k = omega arith in subst (λ n. AreTold request (Some files) missing n others later) same behind
told_append request files missing k [] (line ∷ lines) others later are behind = absurd are
told_append request files missing k (goal ∷ goals) [] others later are behind = absurd are
told_append request files missing k (goal ∷ goals) (line ∷ lines) others later are behind =
    let same : k + suc (length lines) ≡ k + 1 + length lines = omega arith in
    (are.0, told_append request files missing (k + 1) goals lines others later are.1 (subst (λ n. AreTold request (Some files) missing n others later) same behind))

told_in : (request : Request) (files : Files) (missing : Type 0) (k : ℕ) (stated : Stated) (found : Found) → IsFound request (Some files) missing k stated found
    → AreTold request (Some files) missing k (goals_stated stated) (goals_of found)
told_in request files missing k Absent found is = subst (λ f. AreTold request (Some files) missing k [] (goals_of f)) (sym is) tt
told_in request files missing k TooLong found is = subst (λ f. AreTold request (Some files) missing k [] (goals_of f)) (sym is) tt
told_in request files missing k (Faulty fault) found is = subst (λ f. AreTold request (Some files) missing k [] (goals_of f)) (sym is) tt
told_in request files missing k (Goals goals) Found.Absent is = absurd is
told_in request files missing k (Goals goals) Found.TooLong is = absurd is
told_in request files missing k (Goals goals) (Found.Faulty fault) is = absurd is
told_in request files missing k (Goals goals) (Found.Goals lines) is = is

all_told : (request : Request) (files : Files) (missing : Type 0) (k : ℕ) (stated : List File) (parts : List Part) → AreFound request (Some files) missing k stated parts
    → AreTold request (Some files) missing k (all_stated stated) (all_goals parts)
all_told request files missing k [] [] are = tt
all_told request files missing k [] (part ∷ parts) are = absurd are
all_told request files missing k (file ∷ rest) [] are = absurd are
all_told request files missing k (file ∷ rest) (part ∷ parts) are =
    told_append request files missing k (goals_stated file.stated) (goals_of part.found) (all_stated rest) (all_goals parts)
    (told_in request files missing k file.stated part.found are.1) (all_told request files missing (k + length (goals_of part.found)) rest parts are.2)

-- ---- goal by goal

solving_name : (command : Command) (k : ℕ) (goal : Statement) → IsSolving command → certificate_of command k goal ≡ numbered k
solving_name Prove k goal solving = refl
solving_name Alone k goal solving = refl
solving_name Check k goal solving = absurd solving
solving_name Schedule k goal solving = refl
solving_name Cnf k goal solving = absurd solving
solving_name Show k goal solving = absurd solving

-- a run that searches names certificates by the goals' numbers
all_numbered : (request : Request) (files : Files) (missing : Type 0) (k : ℕ) (goals : List Statement) (lines : List Line) → IsSolving request.command
    → AreTold request (Some files) missing k goals lines → AreNumbered k lines
all_numbered request files missing k [] [] solving are = tt
all_numbered request files missing k [] (line ∷ lines) solving are = absurd are
all_numbered request files missing k (goal ∷ goals) [] solving are = absurd are
all_numbered request files missing k (goal ∷ goals) (line ∷ lines) solving are =
    (are.0.named ∙ solving_name request.command k goal solving, all_numbered request files missing (k + 1) goals lines solving are.1)

solved : (command : Command) (steps : ℕ) (files : Files) (missing : Type 0) (name : List ℕ) (goal : Statement) (told : Told) → IsSolving command
    → IsTold command steps (Some files) missing name goal told → IsAnsweredOrFull steps goal told
solved Prove steps files missing name goal told solving is = or_full steps goal told is
solved Alone steps files missing name goal told solving is = or_full steps goal told is
solved Schedule steps files missing name goal told solving is = is
solved Check steps files missing name goal told solving is = absurd solving
solved Cnf steps files missing name goal told solving is = absurd solving
solved Show steps files missing name goal told solving is = absurd solving

confirmed : (steps : ℕ) (final : Files) (missing : Type 0) (name : List ℕ) (goal : Statement) (told later : Told) → IsAnsweredOrFull steps goal told → IsKept final name told
    → IsChecked (Some final) missing name goal later → IsConfirmed told later
confirmed steps final missing name goal (Proved text) later is kept checked = kept_is_accepted steps goal text final missing name later is kept checked
confirmed steps final missing name goal told later is kept checked = tt

-- the certificate that a check reads for a goal that names none
checked_name : (command : Command) (k : ℕ) (goal : Statement) → command ≡ Check → goal.stored ≡ None → certificate_of command k goal ≡ numbered k
checked_name Check k goal is none = ap (λ o. unwrap_or o (numbered k)) none
checked_name Prove k goal is none = refl
checked_name Alone k goal is none = refl
checked_name Schedule k goal is none = refl
checked_name Cnf k goal is none = refl
checked_name Show k goal is none = refl

line_confirmed : (request check : Request) (files final : Files) (m n : Type 0) (k : ℕ) (goal : Statement) (line later : Line) → IsSolving request.command → check.command ≡ Check
    → IsLineOf request (Some files) m k goal line → IsLineOf check (Some final) n k goal later → IsKept final line.certificate line.told → line.goal.stored ≡ None → IsConfirmed line.told later.told
line_confirmed request check files final m n k goal line later solving checks is was kept none =
    let stored : goal.stored ≡ None = subst (λ (g : Statement). g.stored ≡ None) is.same_goal none in
    let name : later.certificate ≡ line.certificate = was.named ∙ (checked_name check.command k goal checks stored ∙ sym (is.named ∙ solving_name request.command k goal solving)) in
    let checked : IsChecked (Some final) n later.certificate goal later.told = subst (λ c. IsTold c check.steps (Some final) n later.certificate goal later.told) checks was.told in
    confirmed request.steps final n line.certificate goal line.told later.told (solved request.command request.steps files m line.certificate goal line.told solving is.told) kept
    (subst (λ l. IsChecked (Some final) n l goal later.told) name checked)

all_confirmed : (request check : Request) (files final : Files) (m n : Type 0) (k : ℕ) (goals : List Statement) (lines laters : List Line)
    → IsSolving request.command → check.command ≡ Check → AreTold request (Some files) m k goals lines → AreTold check (Some final) n k goals laters → AreKept final lines → AreConfirmed lines laters
all_confirmed request check files final m n k [] [] [] solving checks are were kept = tt
all_confirmed request check files final m n k [] (line ∷ lines) laters solving checks are were kept = absurd are
all_confirmed request check files final m n k [] [] (later ∷ laters) solving checks are were kept = absurd were
all_confirmed request check files final m n k (goal ∷ goals) [] laters solving checks are were kept = absurd are
all_confirmed request check files final m n k (goal ∷ goals) (line ∷ lines) [] solving checks are were kept = absurd were
all_confirmed request check files final m n k (goal ∷ goals) (line ∷ lines) (later ∷ laters) solving checks are were kept = (
  were.0.same_goal ∙ sym are.0.same_goal,
  line_confirmed request check files final m n k goal line later solving checks are.0 were.0 kept.0,
  all_confirmed request check files final m n (k + 1) goals lines laters solving checks are.1 were.1 kept.1,
)

-- ---- the law

-- no certificate is written over a theorem file
untouched : (files : Files) (names : List (List ℕ)) (all : List (List ℕ × List ℕ)) → All (λ file. ¬ (Contains names file.0)) all
    → (name : List ℕ) → Contains names name → file_at (with_all all files) name ≡ file_at files name
untouched files names all apart name among = stays all files name (λ i d lt e. apart i d lt (subst (Contains names) e among))

pub later_accepts : OneAnswer → (missing missing_later : Type 0) → LaterCheckAccepts missing missing_later
later_accepts once missing missing_later request check files parts checked is =
    let final : Files = with_all (certificates parts) files in
    let same = same_files once files final missing missing_later request.files is.run.0 is.run_behind.0 (untouched files request.files (certificates parts) is.apart) is.run.1
    (subst (λ names. AreStated (Some final) missing_later names is.run_behind.0) is.same_files is.run_behind.1) in
    let told = all_told request files missing 1 is.run.0 parts is.run.2 in
    let behind = all_told check final missing_later 1 is.run.0 checked (subst (λ stated. AreFound check (Some final) missing_later 1 stated checked) same is.run_behind.2) in
    let count = lines_count request (Some files) missing 1 (all_stated is.run.0) (all_goals parts) told in
    let few = few_stated files missing request.files is.run.0 is.run.1 in
    let small : 1 + length (all_goals parts) ≤ 2 ^ 64 = omega (arith, count, few, is.few) in
    let numbered = all_numbered request files missing 1 (all_stated is.run.0) (all_goals parts) is.solves told in
    all_confirmed request check files final missing missing_later 1 (all_stated is.run.0) (all_goals parts) (all_goals checked) is.solves is.checks told behind
    (all_kept (all_goals parts) 1 files numbered small)
