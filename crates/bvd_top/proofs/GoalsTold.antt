-- Goals that are answered one after the other.
use Rattle.std.proofs.Common.{◌≡◌, ℕ, ◌+◌, ◌≤◌, List, [], ◌∷◌, ◌++◌, length, refl, sym, ap, ◌∙◌, subst, arith, length-append}
use Rattle.std.specs.Prelude.{Option}
use Rattle.bvd_host.specs.Files.{Files}
use Rattle.bvd_host.specs.Causes.{Rose}
use Rattle.bv_expr.specs.Statement.{Statement}
use Rattle.bvd_words.specs.Requests.{Command, Prove, Alone, Check, Schedule, Cnf, Show, Request}
use Rattle.bvd_report.specs.Report.{Told, Line, Found, Part, goals_of, all_goals}
use Rattle.bvd_top.specs.Stated.{Stated, Absent, TooLong, Faulty, Goals, File, goals_stated}
use Rattle.bvd_top.specs.Told.{IsTold, IsLineOf, AreTold}
use Rattle.bvd_top.specs.Parts.{IsFound, AreFound}
use Rattle.bvd_top.proofs.Checks.{checked_later}
use Rattle.bvd_top.proofs.Rising.{rose_later, rose_earlier}

told_later : (command : Command) (steps : ℕ) (files : Option Files) (m n : Type 0) (name : List ℕ) (goal : Statement) (told : Told) → (m → n)
    → IsTold command steps files m name goal told → IsTold command steps files n name goal told
told_later Prove steps files m n name goal told f is = is
told_later Alone steps files m n name goal told f is = is
told_later Check steps files m n name goal told f is = checked_later files m n name goal told f is
told_later Schedule steps files m n name goal told f is = is
told_later Cnf steps files m n name goal told f is = is
told_later Show steps files m n name goal told f is = is

line_later : (request : Request) (files : Option Files) (m n : Type 0) (k : ℕ) (goal : Statement) (line : Line) → (m → n) → IsLineOf request files m k goal line → IsLineOf request files n k goal line
line_later request files m n k goal line f is = record {
  same_goal = is.same_goal;
  named = is.named;
  told = told_later request.command request.steps files m n line.certificate goal line.told f is.told;
}

all_later : (request : Request) (files : Option Files) (m n : Type 0) (k : ℕ) (goals : List Statement) (lines : List Line) → (m → n)
    → AreTold request files m k goals lines → AreTold request files n k goals lines
all_later request files m n k [] [] f are = tt
all_later request files m n k [] (line ∷ lines) f are = are
all_later request files m n k (goal ∷ goals) [] f are = are
all_later request files m n k (goal ∷ goals) (line ∷ lines) f are =
    (line_later request files m n k goal line f are.0, all_later request files m n (k + 1) goals lines f are.1)

-- there are as many lines as goals
pub lines_count : (request : Request) (files : Option Files) (missing : Type 0) (k : ℕ) (goals : List Statement) (lines : List Line) → AreTold request files missing k goals lines → length lines ≡ length goals
lines_count request files missing k [] [] are = refl
lines_count request files missing k [] (line ∷ lines) are = absurd are
lines_count request files missing k (goal ∷ goals) [] are = absurd are
lines_count request files missing k (goal ∷ goals) (line ∷ lines) are = omega (arith, lines_count request files missing (k + 1) goals lines are.1)

-- a goal more is answered
all_more : (request : Request) (files : Option Files) (missing : Type 0) (k n : ℕ) (goals : List Statement) (lines : List Line) (goal : Statement) (line : Line) → AreTold request files missing k goals lines
    → n ≡ k + length lines → IsLineOf request files missing n goal line → AreTold request files missing k (goals ++ goal ∷ []) (lines ++ line ∷ [])
all_more request files missing k n [] [] goal line are at is =
    let same : n ≡ k = omega arith in (subst (λ i. IsLineOf request files missing i goal line) same is, tt)
all_more request files missing k n [] (l ∷ lines) goal line are at is = absurd are
all_more request files missing k n (g ∷ goals) [] goal line are at is = absurd are
all_more request files missing k n (g ∷ goals) (l ∷ lines) goal line are at is =
    let later : n ≡ k + 1 + length lines = omega arith in (are.0, all_more request files missing (k + 1) n goals lines goal line are.1 later is)

-- the next goal is answered, while the count of missing files may rise
pub told_next : (request : Request) (files mid : Option Files) (m0 m1 m2 k n : ℕ) (goals after : List Statement) (lines new : List Line) (goal : Statement) (line : Line)
    → AreTold request files (Rose m0 m1) k goals lines → mid ≡ files → m0 ≤ m1 → m1 ≤ m2 → n ≡ k + length goals
    → IsLineOf request mid (Rose m1 m2) n goal line → after ≡ goals ++ goal ∷ [] → new ≡ lines ++ line ∷ [] → AreTold request files (Rose m0 m2) k after new
told_next request files mid m0 m1 m2 k n goals after lines new goal line are same h j at is more are_now =
    let before = all_later request files (Rose m0 m1) (Rose m0 m2) k goals lines (rose_later m0 m1 m2 j) are in
    let this = line_later request files (Rose m1 m2) (Rose m0 m2) n goal line (rose_earlier m0 m1 m2 h) (subst (λ f. IsLineOf request f (Rose m1 m2) n goal line) same is) in
    let count : length lines ≡ length goals = lines_count request files (Rose m0 m1) k goals lines are in
    let here : n ≡ k + length lines = omega arith in
    subst (λ l. AreTold request files (Rose m0 m2) k l new) (sym more)
    (subst (AreTold request files (Rose m0 m2) k (goals ++ goal ∷ [])) (sym are_now) (all_more request files (Rose m0 m2) k n goals lines goal line before here this))

found_later : (request : Request) (files : Option Files) (m n : Type 0) (k : ℕ) (s : Stated) (found : Found) → (m → n) → IsFound request files m k s found → IsFound request files n k s found
found_later request files m n k Absent found f is = is
found_later request files m n k TooLong found f is = is
found_later request files m n k (Faulty fault) found f is = is
found_later request files m n k (Goals goals) Found.Absent f is = is
found_later request files m n k (Goals goals) Found.TooLong f is = is
found_later request files m n k (Goals goals) (Found.Faulty fault) f is = is
found_later request files m n k (Goals goals) (Found.Goals lines) f is = all_later request files m n k goals lines f is

pub parts_later : (request : Request) (files : Option Files) (m n : Type 0) (k : ℕ) (stated : List File) (parts : List Part) → (m → n) → AreFound request files m k stated parts → AreFound request files n k stated parts
parts_later request files m n k [] [] f are = tt
parts_later request files m n k [] (part ∷ parts) f are = are
parts_later request files m n k (file ∷ rest) [] f are = are
parts_later request files m n k (file ∷ rest) (part ∷ parts) f are =
    (are.0, found_later request files m n k file.stated part.found f are.1, parts_later request files m n (k + length (goals_of part.found)) rest parts f are.2)

-- a file has as many lines of goals as it states goals
pub found_count : (request : Request) (files : Option Files) (missing : Type 0) (k : ℕ) (s : Stated) (found : Found) → IsFound request files missing k s found
    → length (goals_of found) ≡ length (goals_stated s)
found_count request files missing k Absent found is = ap (λ f. length (goals_of f)) is
found_count request files missing k TooLong found is = ap (λ f. length (goals_of f)) is
found_count request files missing k (Faulty fault) found is = ap (λ f. length (goals_of f)) is
found_count request files missing k (Goals goals) Found.Absent is = absurd is
found_count request files missing k (Goals goals) Found.TooLong is = absurd is
found_count request files missing k (Goals goals) (Found.Faulty fault) is = absurd is
found_count request files missing k (Goals goals) (Found.Goals lines) is = lines_count request files missing k goals lines is

length-all_goals : (parts : List Part) (part : Part) → length (all_goals (parts ++ part ∷ [])) ≡ length (all_goals parts) + length (goals_of part.found)
length-all_goals [] part = simp (length-append) (omega arith)
length-all_goals (p ∷ parts) part =
    let here = length-append (goals_of p.found) (all_goals (parts ++ part ∷ [])) in
    let there = length-append (goals_of p.found) (all_goals parts) in
    omega (arith, here, there, length-all_goals parts part)

-- the goals of a part more
pub goals_more : (parts new : List Part) (part : Part) → new ≡ parts ++ part ∷ [] → length (all_goals new) ≡ length (all_goals parts) + length (goals_of part.found)
goals_more parts new part is = ap (λ l. length (all_goals l)) is ∙ length-all_goals parts part

-- a file more is answered
parts_more : (request : Request) (files : Option Files) (missing : Type 0) (k n : ℕ) (stated : List File) (parts : List Part) (file : File) (part : Part) → AreFound request files missing k stated parts
    → n ≡ k + length (all_goals parts) → part.path ≡ file.path → IsFound request files missing n file.stated part.found → AreFound request files missing k (stated ++ file ∷ []) (parts ++ part ∷ [])
parts_more request files missing k n [] [] file part are at path found =
    let same : n ≡ k = omega arith in (path, subst (λ i. IsFound request files missing i file.stated part.found) same found, tt)
parts_more request files missing k n [] (p ∷ parts) file part are at path found = absurd are
parts_more request files missing k n (f ∷ stated) [] file part are at path found = absurd are
parts_more request files missing k n (f ∷ stated) (p ∷ parts) file part are at path found =
    let later : n ≡ k + length (goals_of p.found) + length (all_goals parts) = omega (arith, length-append (goals_of p.found) (all_goals parts)) in
    (are.0, are.1, parts_more request files missing (k + length (goals_of p.found)) n stated parts file part are.2 later path found)

-- the next file is answered
pub found_next : (request : Request) (files mid : Option Files) (m0 m1 m2 k n : ℕ) (stated after : List File) (parts new : List Part) (file : File) (part : Part)
    → AreFound request files (Rose m0 m1) k stated parts → mid ≡ files → m0 ≤ m1 → m1 ≤ m2 → n ≡ k + length (all_goals parts) → part.path ≡ file.path
    → IsFound request mid (Rose m1 m2) n file.stated part.found → after ≡ stated ++ file ∷ [] → new ≡ parts ++ part ∷ [] → AreFound request files (Rose m0 m2) k after new
found_next request files mid m0 m1 m2 k n stated after parts new file part are same h j at path found is are_now =
    let before = parts_later request files (Rose m0 m1) (Rose m0 m2) k stated parts (rose_later m0 m1 m2 j) are in
    let this = found_later request files (Rose m1 m2) (Rose m0 m2) n file.stated part.found (rose_earlier m0 m1 m2 h)
    (subst (λ f. IsFound request f (Rose m1 m2) n file.stated part.found) same found) in
    subst (λ l. AreFound request files (Rose m0 m2) k l new) (sym is)
    (subst (AreFound request files (Rose m0 m2) k (stated ++ file ∷ [])) (sym are_now) (parts_more request files (Rose m0 m2) k n stated parts file part before at path this))
