-- The goals of files in order, and what is told of them by their outcomes, which come in the same order.
use Rattle.std.specs.Prelude.{ℕ, ◌+◌, List, [], ◌∷◌, ◌++◌, length, drop}
use Rattle.bv_lex.specs.declared.fault.Fault.{Fault}
use Rattle.bv_expr.specs.declared.goal.Goal.{Goal}
use Rattle.bv_expr.specs.Statement.{statement_of}
use Rattle.goal_reply.specs.declared.reply.Outcome.{Outcome}
use Rattle.bvd_report.specs.Report.{Line, Found, Part}
use Rattle.bvd_report.specs.Shown.{outcome_shown}
use Rattle.bvd_top.specs.declared.parsing.File.{File}
use Rattle.bvd_top.specs.declared.parsing.Stated.{Stated}
use Rattle.bvd_top.specs.declared.parsing.Stated.TheVariants.{Absent, TooLong, Faulty, Goals}
use Rattle.bvd_top.specs.Names.{numbered}

-- the goals that a file states
abbrev pub goals_held : Stated → List Goal
goals_held Absent = []
goals_held TooLong = []
goals_held (Faulty fault) = []
goals_held (Goals goals) = goals.items

-- those of all files
abbrev pub all_held : List File → List Goal
all_held [] = []
all_held (file ∷ rest) = goals_held file.stated ++ all_held rest

-- the lines of goals that are numbered from k on, by the outcomes that are next
abbrev pub lines_by : ℕ → List Goal → List Outcome → List Line
lines_by k [] outcomes = []
lines_by k (goal ∷ goals) [] = []
lines_by k (goal ∷ goals) (outcome ∷ outcomes) = record { goal = statement_of goal; certificate = numbered k; told = outcome_shown outcome } ∷ lines_by (k + 1) goals outcomes

-- what became of a file that states this
abbrev pub found_by : ℕ → Stated → List Outcome → Found
found_by k Absent outcomes = Found.Absent
found_by k TooLong outcomes = Found.TooLong
found_by k (Faulty fault) outcomes = Found.Faulty fault
found_by k (Goals goals) outcomes = Found.Goals (lines_by k goals.items outcomes)

-- the same of files, in order
abbrev pub parts_by : ℕ → List File → List Outcome → List Part
parts_by k [] outcomes = []
parts_by k (file ∷ rest) outcomes =
    record { path = file.path.now; found = found_by k file.stated outcomes }
    ∷ parts_by (k + length (goals_held file.stated)) rest (drop (length (goals_held file.stated)) outcomes)
