-- The goals of all files that are answered together.
use Rattle.std.proofs.Common.{◌≡◌, ℕ, suc, ◌+◌, ◌*◌, ◌<◌, ◌≤◌, List, [], ◌∷◌, ◌++◌, length, length-append, append-nil, append_assoc, map, take, drop, get_or, refl, sym, ap, ◌∙◌, subst, arith, Some, if◌then◌else◌}
use Rattle.std.specs.Prelude.{All, Option}
use Rattle.std.proofs.lemmas.List.{length-map, length-drop, drop-drop, take-append-drop}
use Rattle.std.proofs.lemmas.List.Elements.{All-nil, All-cons, All-head, All-tail}
use Rattle.cone_walk.specs.Order.{firsts}
use Rattle.bvd_host.specs.Files.{Files}
use Rattle.bv_expr.specs.declared.goal.Goal.{Goal}
use Rattle.bv_expr.specs.Statement.{Statement, statement_of}
use Rattle.goal_reply.specs.declared.counts.GateCounts.{GateCounts}
use Rattle.goal_reply.specs.declared.reply.Outcome.{Outcome}
use Rattle.goal_reply.specs.declared.reply.Outcome.TheVariants as outcome
use Rattle.gate_world.specs.Work.{Problem, Ended, cone_of}
use Rattle.gate_world.specs.World.{Actor, begun, run}
use Rattle.gate_world.specs.Coding.{problem_of}
use Rattle.gate_world.specs.Counted.{work_searched, cones_counted}
use Rattle.gate_world.specs.Drawn.{generator, AreDrawn}
use Rattle.gate_world.specs.Shown.{problems_of}
use Rattle.gate_world.specs.Scheduled.{AreOutcomesOf, IsScheduled, IsRightOutcome, AreRightOutcomes}
use Rattle.bvd_words.specs.Requests.{Command, Schedule, Request}
use Rattle.bvd_report.specs.declared.told.Line.{Line as CodeLine}
use Rattle.bvd_report.specs.declared.told.Found.{Found as CodeFound}
use Rattle.bvd_report.specs.declared.told.Found.TheVariants as found
use Rattle.bvd_report.specs.declared.told.Part.{Part as CodePart}
use Rattle.bvd_report.specs.Report.{Line, Found, Part, goals_of, all_goals}
use Rattle.bvd_report.specs.Shown.{told_shown, outcome_shown, reply_shown, line_shown, lines_shown, found_shown, parts_shown, gates_shown}
use Rattle.bvd_report.specs.Tellable.{IsTellable, IsLine, IsFound as IsFoundTellable, IsPart}
use Rattle.bvd_top.specs.declared.parsing.File.{File}
use Rattle.bvd_top.specs.declared.parsing.Stated.{Stated}
use Rattle.bvd_top.specs.declared.parsing.Stated.TheVariants as stated
use Rattle.bvd_top.specs.Names.{numbered, certificate_of}
use Rattle.bvd_top.specs.Stated.{IsSmall, goals_stated}
use Rattle.bvd_top.specs.Shown.{stated_shown, files_shown}
use Rattle.bvd_top.specs.Parsed.{IsOfFile}
use Rattle.bvd_top.specs.Listed.{goals_held, all_held, lines_by, found_by, parts_by}
use Rattle.bvd_top.specs.Answered.{IsAnsweredOrFull}
use Rattle.bvd_top.specs.Told.{IsTold, IsLineOf, AreTold}
use Rattle.bvd_top.specs.Parts.{IsFound, AreFound, AreAnswered}
use Rattle.bvd_top.specs.Scheduled.{problem_in, AreEndsTold, IsSchedule, AreToldTogether, is_searched, cones_told, gates_of}
use Rattle.bvd_top.proofs.Replies.{answered, or_full}
use Rattle.bvd_top.proofs.Tellable.{told_tellable}
use Rattle.bvd_top.proofs.FilesRead.{next_taken}
use Rattle.bvd_top.proofs.Ended.{problems_kept, outcome_told, outcome_counts}

-- ---- the goals in order

pub held_more : (files : List File) (file : File) → all_held (files ++ file ∷ []) ≡ all_held files ++ goals_held file.stated
held_more [] file = append-nil (goals_held file.stated)
held_more (f ∷ files) file = ap (λ l. goals_held f.stated ++ l) (held_more files file) ∙ sym (append_assoc (goals_held f.stated) (all_held files) (goals_held file.stated))

held_split : (front behind : List File) → all_held (front ++ behind) ≡ all_held front ++ all_held behind
held_split [] behind = refl
held_split (f ∷ front) behind = ap (λ l. goals_held f.stated ++ l) (held_split front behind) ∙ sym (append_assoc (goals_held f.stated) (all_held front) (all_held behind))

-- a file's goals and those before it are among the goals of all files
pub held_within : (files : List File) (i : ℕ) (file : File) → i < length files → file ≡ get_or files i file → length (all_held (take i files)) + length (goals_held file.stated) ≤ length (all_held files)
held_within files i file lt is =
    let whole : all_held files ≡ all_held (take (i + 1) files) ++ all_held (drop (i + 1) files) = ap all_held (sym (take-append-drop (i + 1) files)) ∙ held_split (take (i + 1) files) (drop (i + 1) files) in
    let next : all_held (take (i + 1) files) ≡ all_held (take i files) ++ goals_held file.stated = ap all_held (next_taken files i file lt is) ∙ held_more (take i files) file in
    omega (arith, ap length whole, ap length next, length-append (all_held (take (i + 1) files)) (all_held (drop (i + 1) files)), length-append (all_held (take i files)) (goals_held file.stated))

held_count : (s : Stated) → length (goals_held s) ≡ length (goals_stated (stated_shown s))
held_count stated.Absent = refl
held_count stated.TooLong = refl
held_count (stated.Faulty fault) = refl
held_count (stated.Goals goals) = sym (length-map goals.items statement_of)

-- no file states more goals than it may have
pub few_held : (files : List File) → All (λ f. IsSmall (stated_shown f.stated)) files → length (all_held files) ≤ 1024 * length files
few_held [] small = omega arith
few_held (file ∷ rest) small =
    let P : File → Type 0 = λ f. IsSmall (stated_shown f.stated) in
    let here : length (goals_stated (stated_shown file.stated)) ≤ 1024 = All-head P file rest small in
    omega (arith, here, held_count file.stated, few_held rest (All-tail P file rest small), length-append (goals_held file.stated) (all_held rest))

-- ---- the lines of goals by their outcomes

pub lines_split : (k : ℕ) (goals more : List Goal) (outcomes : List Outcome) → length goals ≤ length outcomes
    → lines_by k (goals ++ more) outcomes ≡ lines_by k goals outcomes ++ lines_by (k + length goals) more (drop (length goals) outcomes)
lines_split k [] more outcomes enough = let same : k ≡ k + 0 = omega arith in ap (λ n. lines_by n more outcomes) same
lines_split k (goal ∷ goals) more [] enough = absurd (omega arith)
lines_split k (goal ∷ goals) more (outcome ∷ outcomes) enough =
    let later : k + 1 + length goals ≡ k + suc (length goals) = omega arith in
    let rest : length goals ≤ length outcomes = omega arith in
    ap (λ l. record { goal = statement_of goal; certificate = numbered k; told = outcome_shown outcome } ∷ l)
    (lines_split (k + 1) goals more outcomes rest ∙ ap (λ n. lines_by (k + 1) goals outcomes ++ lines_by n more (drop (length goals) outcomes)) later)

-- a goal more
pub line_more : (k n : ℕ) (goals : List Goal) (goal : Goal) (outcomes rest : List Outcome) (outcome : Outcome) → n ≡ k + length goals → length goals ≤ length outcomes → drop (length goals) outcomes ≡ outcome ∷ rest
    → lines_by k (goals ++ goal ∷ []) outcomes ≡ lines_by k goals outcomes ++ record { goal = statement_of goal; certificate = numbered n; told = outcome_shown outcome } ∷ []
line_more k n goals goal outcomes rest outcome at enough next =
    lines_split k goals (goal ∷ []) outcomes enough
    ∙ ap (λ l. lines_by k goals outcomes ++ lines_by (k + length goals) (goal ∷ []) l) next
    ∙ ap (λ i. lines_by k goals outcomes ++ lines_by i (goal ∷ []) (outcome ∷ rest)) (sym at)

goals_by : (k : ℕ) (s : Stated) (outcomes : List Outcome) → goals_of (found_by k s outcomes) ≡ lines_by k (goals_held s) outcomes
goals_by k stated.Absent outcomes = refl
goals_by k stated.TooLong outcomes = refl
goals_by k (stated.Faulty fault) outcomes = refl
goals_by k (stated.Goals goals) outcomes = refl

lines_count : (k : ℕ) (goals : List Goal) (outcomes : List Outcome) → length goals ≤ length outcomes → length (lines_by k goals outcomes) ≡ length goals
lines_count k [] outcomes enough = refl
lines_count k (goal ∷ goals) [] enough = absurd (omega arith)
lines_count k (goal ∷ goals) (outcome ∷ outcomes) enough = let rest : length goals ≤ length outcomes = omega arith in omega (arith, lines_count (k + 1) goals outcomes rest)

pub found_lines : (k : ℕ) (s : Stated) (outcomes : List Outcome) → length (goals_held s) ≤ length outcomes → length (goals_of (found_by k s outcomes)) ≡ length (goals_held s)
found_lines k s outcomes enough = ap length (goals_by k s outcomes) ∙ lines_count k (goals_held s) outcomes enough

pub parts_split : (k : ℕ) (front behind : List File) (outcomes : List Outcome)
    → parts_by k (front ++ behind) outcomes ≡ parts_by k front outcomes ++ parts_by (k + length (all_held front)) behind (drop (length (all_held front)) outcomes)
parts_split k [] behind outcomes = let same : k ≡ k + 0 = omega arith in ap (λ n. parts_by n behind outcomes) same
parts_split k (file ∷ front) behind outcomes =
    let n = length (goals_held file.stated) in
    let m = length (all_held front) in
    let both : length (goals_held file.stated ++ all_held front) ≡ n + m = length-append (goals_held file.stated) (all_held front) in
    let later : k + n + m ≡ k + length (goals_held file.stated ++ all_held front) = omega (arith, both) in
    ap (λ l. record { path = file.path.now; found = found_by k file.stated outcomes } ∷ l)
    (parts_split (k + n) front behind (drop n outcomes)
    ∙ ap (λ i. parts_by (k + n) front (drop n outcomes) ++ parts_by i behind (drop m (drop n outcomes))) later
    ∙ ap (λ l. parts_by (k + n) front (drop n outcomes) ++ parts_by (k + length (goals_held file.stated ++ all_held front)) behind l) (drop-drop m n outcomes ∙ ap (λ i. drop i outcomes) (sym both)))

-- the goals of all parts are those of all files
pub parts_goals : (k : ℕ) (files : List File) (outcomes : List Outcome) → length (all_held files) ≤ length outcomes → all_goals (parts_by k files outcomes) ≡ lines_by k (all_held files) outcomes
parts_goals k [] outcomes enough = refl
parts_goals k (file ∷ rest) outcomes enough =
    let goals = goals_held file.stated in
    let both : length (goals ++ all_held rest) ≡ length goals + length (all_held rest) = length-append goals (all_held rest) in
    let here : length goals ≤ length outcomes = omega arith in
    let behind : length (all_held rest) ≤ length (drop (length goals) outcomes) = omega (arith, length-drop (length goals) outcomes) in
    ap (λ l. l ++ all_goals (parts_by (k + length goals) rest (drop (length goals) outcomes))) (goals_by k file.stated outcomes)
    ∙ ap (λ l. lines_by k goals outcomes ++ l) (parts_goals (k + length goals) rest (drop (length goals) outcomes) behind)
    ∙ sym (lines_split k goals (all_held rest) outcomes here)

pub parts_count : (files : List File) (outcomes : List Outcome) → length outcomes ≡ length (all_held files) → length (all_goals (parts_by 1 files outcomes)) ≡ length (all_held files)
parts_count files outcomes same =
    let enough : length (all_held files) ≤ length outcomes = omega (arith, same) in ap length (parts_goals 1 files outcomes enough) ∙ lines_count 1 (all_held files) outcomes enough

-- ---- what is told of them

pub right_count : (budget : ℕ) (goals : List Goal) (outcomes : List Outcome) → AreRightOutcomes budget goals outcomes → length outcomes ≡ length goals
right_count budget [] [] right = refl
right_count budget [] (o ∷ os) right = absurd right
right_count budget (g ∷ gs) [] right = absurd right
right_count budget (g ∷ gs) (o ∷ os) right = omega (arith, right_count budget gs os right.1)

right_answered : (steps : ℕ) (goal : Goal) (o : Outcome) → IsRightOutcome steps goal o → IsAnsweredOrFull steps (statement_of goal) (outcome_shown o)
right_answered steps goal (outcome.Replied r) right = or_full steps (statement_of goal) (reply_shown r) (answered steps (statement_of goal) r right.0 right.1.proved right.1.refuted right.1.accepted)
right_answered steps goal outcome.Full right = tt
right_answered steps goal (outcome.Cancelled by) right = absurd right

line_told : (request : Request) (files : Option Files) (missing : Type 0) (k : ℕ) (goal : Goal) (o : Outcome) → request.command ≡ Schedule → IsRightOutcome request.steps goal o
    → IsLineOf request files missing k (statement_of goal) (record { goal = statement_of goal; certificate = numbered k; told = outcome_shown o })
line_told request files missing k goal o is right = record {
  same_goal = refl;
  named = ap (λ c. certificate_of c k (statement_of goal)) (sym is);
  told = subst (λ c. IsTold c request.steps files missing (numbered k) (statement_of goal) (outcome_shown o)) (sym is) (right_answered request.steps goal o right);
}

lines_told : (request : Request) (files : Option Files) (missing : Type 0) (k : ℕ) (goals more : List Goal) (outcomes : List Outcome) → request.command ≡ Schedule
    → AreRightOutcomes request.steps (goals ++ more) outcomes → AreTold request files missing k (map statement_of goals) (lines_by k goals outcomes)
lines_told request files missing k [] more outcomes is right = tt
lines_told request files missing k (goal ∷ goals) more [] is right = absurd right
lines_told request files missing k (goal ∷ goals) more (o ∷ os) is right = (line_told request files missing k goal o is right.0, lines_told request files missing (k + 1) goals more os is right.1)

behind_right : (budget : ℕ) (goals more : List Goal) (outcomes : List Outcome) → AreRightOutcomes budget (goals ++ more) outcomes → AreRightOutcomes budget more (drop (length goals) outcomes)
behind_right budget [] more outcomes right = right
behind_right budget (goal ∷ goals) more [] right = absurd right
behind_right budget (goal ∷ goals) more (o ∷ os) right = behind_right budget goals more os right.1

found_told : (request : Request) (files : Option Files) (missing : Type 0) (k : ℕ) (s : Stated) (more : List Goal) (outcomes : List Outcome) → request.command ≡ Schedule
    → AreRightOutcomes request.steps (goals_held s ++ more) outcomes → IsFound request files missing k (stated_shown s) (found_by k s outcomes)
found_told request files missing k stated.Absent more outcomes is right = refl
found_told request files missing k stated.TooLong more outcomes is right = refl
found_told request files missing k (stated.Faulty fault) more outcomes is right = refl
found_told request files missing k (stated.Goals goals) more outcomes is right = lines_told request files missing k goals.items more outcomes is right

parts_told : (request : Request) (keeper : Option Files) (missing : Type 0) (k : ℕ) (files : List File) (outcomes : List Outcome) → request.command ≡ Schedule
    → AreRightOutcomes request.steps (all_held files) outcomes → AreFound request keeper missing k (files_shown files) (parts_by k files outcomes)
parts_told request keeper missing k [] outcomes is right = tt
parts_told request keeper missing k (file ∷ rest) outcomes is right =
    let goals = goals_held file.stated in
    let later = drop (length goals) outcomes in
    let enough : length goals ≤ length outcomes = omega (arith, right_count request.steps (goals ++ all_held rest) outcomes right, length-append goals (all_held rest)) in (
      refl,
      found_told request keeper missing k file.stated (all_held rest) outcomes is right,
      subst (λ n. AreFound request keeper missing (k + n) (files_shown rest) (parts_by (k + length goals) rest later)) (sym (found_lines k file.stated outcomes enough))
          (parts_told request keeper missing (k + length goals) rest later is (behind_right request.steps goals (all_held rest) outcomes right)),
    )

-- ---- the words of the report

lines_tellable : (request : Request) (files : Option Files) (missing : Type 0) (k : ℕ) (goals : List Statement) (lines : List CodeLine) → AreTold request files missing k goals (lines_shown lines) → All IsLine lines
lines_tellable request files missing k goals [] are = All-nil IsLine
lines_tellable request files missing k [] (line ∷ lines) are = absurd are
lines_tellable request files missing k (goal ∷ goals) (line ∷ lines) are =
    let told = told_tellable request.command request.steps files missing (line_shown line).certificate goal (told_shown line.told) are.0.told in
    All-cons IsLine line lines (subst (λ (g : Statement). IsTellable g.binders (told_shown line.told)) (sym are.0.same_goal) told) (lines_tellable request files missing (k + 1) goals lines are.1)

found_tellable : (request : Request) (files : Option Files) (missing : Type 0) (k : ℕ) (s : Stated) (f : CodeFound) → IsOfFile s → IsFound request files missing k (stated_shown s) (found_shown f) → IsFoundTellable f
found_tellable request files missing k s found.Absent of is = tt
found_tellable request files missing k s found.TooLong of is = tt
found_tellable request files missing k stated.Absent (found.Faulty fault) of is = absurd cc
found_tellable request files missing k stated.TooLong (found.Faulty fault) of is = absurd cc
found_tellable request files missing k (stated.Faulty own) (found.Faulty fault) of is = let same : fault ≡ own = cc in subst (λ f. IsOfFile (stated.Faulty f)) (sym same) of
found_tellable request files missing k (stated.Goals goals) (found.Faulty fault) of is = absurd is
found_tellable request files missing k stated.Absent (found.Goals lines) of is = absurd cc
found_tellable request files missing k stated.TooLong (found.Goals lines) of is = absurd cc
found_tellable request files missing k (stated.Faulty own) (found.Goals lines) of is = absurd cc
found_tellable request files missing k (stated.Goals goals) (found.Goals lines) of is = lines_tellable request files missing k (map statement_of goals.items) lines.items is

pub parts_tellable : (request : Request) (keeper : Option Files) (missing : Type 0) (k : ℕ) (files : List File) (parts : List CodePart) → All (λ f. IsOfFile f.stated) files
    → AreFound request keeper missing k (files_shown files) (parts_shown parts) → All IsPart parts
parts_tellable request keeper missing k files [] of are = All-nil IsPart
parts_tellable request keeper missing k [] (part ∷ parts) of are = absurd are
parts_tellable request keeper missing k (file ∷ rest) (part ∷ parts) of are =
    let P : File → Type 0 = λ f. IsOfFile f.stated in
    All-cons IsPart part parts (found_tellable request keeper missing k file.stated part.found (All-head P file rest of) are.1)
    (parts_tellable request keeper missing (k + length (goals_of (found_shown part.found))) rest parts (All-tail P file rest of) are.2)

-- ---- what they have to do with one another

ends_told : (k : ℕ) (actors : List Actor) (goals : List Goal) (outcomes : List Outcome) → length outcomes ≡ length goals → AreOutcomesOf actors outcomes → AreEndsTold actors (lines_by k goals outcomes)
ends_told k [] [] [] same are = tt
ends_told k [] (g ∷ gs) [] same are = absurd (omega arith)
ends_told k [] goals (o ∷ os) same are = absurd are
ends_told k (a ∷ more) goals [] same are = absurd are
ends_told k (a ∷ more) [] (o ∷ os) same are = absurd (omega arith)
ends_told k (a ∷ more) (g ∷ gs) (o ∷ os) same are =
    let rest : length os ≡ length gs = omega arith in
    ((are.0.0, are.0.1, outcome_told o are.0.0 are.0.2), ends_told (k + 1) more gs os rest are.1)

line_problems : (k : ℕ) (goals : List Goal) (outcomes : List Outcome) → length outcomes ≡ length goals → map (λ line. problem_in line.goal) (lines_by k goals outcomes) ≡ problems_of goals
line_problems k [] outcomes same = refl
line_problems k (g ∷ gs) [] same = absurd (omega arith)
line_problems k (g ∷ gs) (o ∷ os) same = let rest : length os ≡ length gs = omega arith in ap (λ l. problem_of g ∷ l) (line_problems (k + 1) gs os rest)

cones_same : (k : ℕ) (actors : List Actor) (goals : List Goal) (outcomes : List Outcome) → length outcomes ≡ length goals → map (λ a. a.problem) actors ≡ problems_of goals → AreOutcomesOf actors outcomes
    → cones_counted actors ≡ cones_told (lines_by k goals outcomes)
cones_same k [] [] [] same problems are = refl
cones_same k [] (g ∷ gs) [] same problems are = absurd (omega arith)
cones_same k [] goals (o ∷ os) same problems are = absurd are
cones_same k (a ∷ more) goals [] same problems are = absurd are
cones_same k (a ∷ more) [] (o ∷ os) same problems are = absurd (omega arith)
cones_same k (a ∷ more) (g ∷ gs) (o ∷ os) same problems are =
    let rest : length os ≡ length gs = omega arith in
    let first : a.problem ≡ problem_of g = cc in
    let others : map (λ (b : Actor). b.problem) more ≡ problems_of gs = cc in
    ap (λ p. (if work_searched a.work then cone_of p else []) ++ cones_counted more) first
    ∙ ap (λ b. (if b then cone_of (problem_of g) else []) ++ cones_counted more) (outcome_counts o a.work are.0.0 are.0.1 are.0.2)
    ∙ ap (λ l. (if is_searched (outcome_shown o) then cone_of (problem_of g) else []) ++ l) (cones_same (k + 1) more gs os rest others are.1)

abbrev with_command : Request → Command → Request
with_command r c = record { command = c; steps = r.steps; seed = r.seed; table = r.table; quiet = r.quiet; files = r.files }

scheduled_together : (request : Request) (goals : List Goal) (outcomes : List Outcome) (counts : GateCounts) → request.command ≡ Schedule → length outcomes ≡ length goals
    → IsScheduled goals request.seed request.table request.steps outcomes counts → AreToldTogether request (lines_by 1 goals outcomes)
scheduled_together request goals outcomes counts is same s =
    let lines = lines_by 1 goals outcomes in
    let problems : problems_of goals ≡ map (λ line. problem_in line.goal) lines = sym (line_problems 1 goals outcomes same) in
    let schedule : IsSchedule request.seed request.table request.steps lines = record {
      events = s.events;
      drawn = subst (λ l. AreDrawn (generator request.seed) (begun l request.table request.steps) s.events) problems s.drawn;
      told = subst (λ l. AreEndsTold (run s.events (begun l request.table request.steps)).actors lines) problems
          (ends_told 1 (run s.events (begun (problems_of goals) request.table request.steps)).actors goals outcomes same s.outcomes_are);
    } in
    subst (λ c. AreToldTogether (with_command request c) lines) (sym is) schedule

-- the goals of all files are answered together
pub together : (request : Request) (keeper : Option Files) (missing : Type 0) (files : List File) (outcomes : List Outcome) (counts : GateCounts) → request.command ≡ Schedule
    → IsScheduled (all_held files) request.seed request.table request.steps outcomes counts → AreRightOutcomes request.steps (all_held files) outcomes
    → AreAnswered request keeper missing (files_shown files) (parts_by 1 files outcomes)
together request keeper missing files outcomes counts is s right =
    let same = right_count request.steps (all_held files) outcomes right in (
      parts_told request keeper missing 1 files outcomes is right,
      subst (AreToldTogether request) (sym (parts_goals 1 files outcomes (omega (arith, same)))) (scheduled_together request (all_held files) outcomes counts is same s),
    )

-- the gates are those of the goals that are told so
pub gates_told : (files : List File) (outcomes : List Outcome) (counts : GateCounts) (seed table steps : ℕ) → length outcomes ≡ length (all_held files)
    → IsScheduled (all_held files) seed table steps outcomes counts → Some (gates_shown counts) ≡ gates_of Schedule (all_goals (parts_by 1 files outcomes))
gates_told files outcomes counts seed table steps same s =
    let goals = all_held files in
    let actors = (run s.events (begun (problems_of goals) table steps)).actors in
    let cones = cones_same 1 actors goals outcomes same (problems_kept s.events (problems_of goals) table steps) s.outcomes_are in
    let in_cones = s.in_cones ∙ ap length cones in
    let distinct = s.distinct ∙ ap (λ l. length (firsts [] l)) cones in
    ap (λ n. Some (record { in_cones = n; distinct = counts.distinct })) in_cones
    ∙ ap (λ n. Some (record { in_cones = length (cones_told (lines_by 1 goals outcomes)); distinct = n })) distinct
    ∙ ap (gates_of Schedule) (sym (parts_goals 1 files outcomes (omega (arith, same))))
