-- The report of a run, its certificates and its status, from what became of each file. A new answer is a case of each function on `Told`.
use Rattle.std.specs.Prelude.{ℕ, ◌+◌, max, List, [], ◌∷◌, ◌++◌, length, codes, decimal, Bool, true, false, count_by, if◌then◌else◌, Result, Ok, Err, Option, Some, None}
use Rattle.bvd_text.specs.declared.cursor.Place.{Place}
use Rattle.bv_lex.specs.declared.fault.Fault.{Fault}
use Rattle.bv_lex.specs.declared.fault.FaultKind.{FaultKind}
use Rattle.bv_lex.specs.declared.fault.FaultKind.TheVariants as kind
use Rattle.bv_lex.specs.declared.fault.What.{What}
use Rattle.bv_lex.specs.declared.fault.What.TheVariants as what
use Rattle.bv_expr.specs.declared.ops.Val.{Val}
use Rattle.bv_expr.specs.Goal.{Binders}
use Rattle.bv_expr.specs.Statement.{Statement}
use Rattle.bv_print.specs.Values.{values_text}
use Rattle.bv_print.specs.Canonical.{goal_text}
use Rattle.lrat_replay.specs.declared.stop.ReplayStop.{ReplayStop}
use Rattle.lrat_replay.specs.declared.stop.ReplayStop.TheVariants as stop
use Rattle.bvd_words.specs.Requests.{Command, Prove, Alone, Check, Schedule, Cnf, Show, Request}

-- what is told of a goal
pub data Told : Type 0 where
  -- it is proved by the text of a certificate
  Proved : (text : List ℕ) → Told
  -- it is false at values, one for each variable
  False : (values : List Val) → Told
  -- its search spent its steps
  Budget : (spent : ℕ) → Told
  -- it has a gate that is too deep
  Deep : Told
  -- it has too many gates
  Large : Told
  -- a shared table had no room for its gates
  Full : Told
  -- it was cancelled, for the goal of this number, from 0, is false
  Cancelled : (by : ℕ) → Told
  OutOfMemory : Told
  -- its clauses, as text
  Clauses : (text : List ℕ) → Told
  -- how the replay of its certificate ended
  Replayed : (end : Result (Unit {0}) ReplayStop) → Told
  -- its certificate isn't there
  AbsentCertificate : Told
  -- nothing but what it states
  Nothing : Told

-- a goal with the name of its certificate and what is told of it
pub record Line : Type 0 where
  pub goal : Statement
  pub certificate : List ℕ
  pub told : Told

-- what became of a file: it isn't there, it is too long, it has a fault, or its goals have these lines
pub data Found : Type 0 where
  Absent : Found
  TooLong : Found
  Faulty : Fault → Found
  Goals : List Line → Found

-- a file of the run
pub record Part : Type 0 where
  pub path : List ℕ
  pub found : Found

-- ---- the certificates

-- the certificate of a goal, in front of others
abbrev pub with_certificate : List ℕ → Told → List (List ℕ × List ℕ) → List (List ℕ × List ℕ)
with_certificate name (Proved text) others = (name, text) ∷ others
with_certificate name told others = others

-- names and bytes of the certificates, in the order of goals
abbrev pub certificates_of : List Line → List (List ℕ × List ℕ)
certificates_of [] = []
certificates_of (line ∷ rest) = with_certificate line.certificate line.told (certificates_of rest)

-- ---- the lines

-- line and column
abbrev pub place_text : Place → List ℕ
place_text p = decimal p.line ++ codes ":" ++ decimal p.column

abbrev pub limit_text : What → List ℕ
limit_text what.Number = codes "number"
limit_text what.Width = codes "width"
limit_text what.Depth = codes "depth"
limit_text what.Nodes = codes "nodes"
limit_text what.Variables = codes "variables"
limit_text what.Goals = codes "goals"

-- what is wrong with a file
abbrev pub kind_text : FaultKind → List ℕ
kind_text kind.Lex = codes "lex"
kind_text kind.Syntax = codes "syntax"
kind_text kind.Typing = codes "type"
kind_text (kind.Limit w) = codes "limit " ++ limit_text w
-- want of memory has no line
kind_text (kind.Memory e) = []

-- the line of a file's fault
abbrev pub fault_line : List ℕ → Fault → List ℕ
fault_line path fault = codes "file " ++ path ++ codes ": " ++ kind_text fault.kind ++ codes " " ++ place_text fault.place ++ codes "\n"

-- why a certificate is refused, behind its name; the numbers are those of a line and of a clause
abbrev pub refusal_text : ReplayStop → List ℕ
refusal_text (stop.Bad n) = codes " line " ++ decimal n ++ codes ": bad line"
refusal_text (stop.IdInUse n) = codes " line " ++ decimal n ++ codes ": id in use"
refusal_text (stop.NoClause n id) = codes " line " ++ decimal n ++ codes ": no clause " ++ decimal id
refusal_text (stop.NotUnit n id) = codes " line " ++ decimal n ++ codes ": not unit " ++ decimal id
refusal_text (stop.NoConflict n) = codes " line " ++ decimal n ++ codes ": no conflict"
refusal_text (stop.MissingGroup n id) = codes " line " ++ decimal n ++ codes ": missing group " ++ decimal id
refusal_text (stop.StrangeGroup n id) = codes " line " ++ decimal n ++ codes ": strange group " ++ decimal id
refusal_text stop.NoEmpty = codes ": no empty clause"
-- these refuse no certificate
refusal_text stop.TooLong = []
refusal_text stop.ReadFault = []
refusal_text (stop.Memory e) = []

abbrev pub replay_text : List ℕ → Result (Unit {0}) ReplayStop → List ℕ
replay_text certificate (Ok done) = codes "accepted " ++ certificate
replay_text certificate (Err refused) = codes "refused " ++ certificate ++ refusal_text refused

-- the values of variables, behind a space; a goal without variables has none
abbrev pub false_text : Binders → List Val → List ℕ
false_text [] values = codes "false"
false_text (b ∷ bs) values = codes "false " ++ values_text (b ∷ bs) values

-- what is told of a goal over these variables, in words
abbrev pub told_text : Binders → List ℕ → Told → List ℕ
told_text binders certificate (Proved text) = codes "proved " ++ certificate
told_text binders certificate (False values) = false_text binders values
told_text binders certificate (Budget spent) = codes "budget " ++ decimal spent
told_text binders certificate Deep = codes "deep"
told_text binders certificate Large = codes "large"
told_text binders certificate Full = codes "full"
told_text binders certificate (Cancelled by) = codes "cancelled by " ++ decimal (by + 1)
told_text binders certificate OutOfMemory = codes "out of memory"
told_text binders certificate (Clauses text) = codes "clauses"
told_text binders certificate (Replayed end) = replay_text certificate end
told_text binders certificate AbsentCertificate = codes "absent " ++ certificate
told_text binders certificate Nothing = []

-- the numbered line of a goal
abbrev pub numbered_line : ℕ → Line → List ℕ
numbered_line k line = decimal k ++ codes ". " ++ line.goal.name ++ codes ": " ++ told_text line.goal.binders line.certificate line.told ++ codes "\n"

-- what follows a goal's name in `cnf`: its clauses, or why there are none
abbrev pub clauses_text : Line → Told → List ℕ
clauses_text line (Clauses text) = codes "\n" ++ text
clauses_text line told = codes ": " ++ told_text line.goal.binders line.certificate told ++ codes "\n"

-- the canonical line of a goal
abbrev pub statement_text : Statement → List ℕ
statement_text goal = goal_text goal.name goal.binders goal.hyps goal.concl goal.stored

-- the line of the k-th goal; in `cnf` a comment, and its clauses; in `show` the goal itself
abbrev pub goal_line : Command → ℕ → Line → List ℕ
goal_line Cnf k line = codes "c " ++ decimal k ++ codes " " ++ line.goal.name ++ clauses_text line line.told
goal_line Show k line = statement_text line.goal
goal_line command k line = numbered_line k line

-- the lines of goals that are numbered from k on
abbrev pub goal_lines : Command → ℕ → List Line → List ℕ
goal_lines command k [] = []
goal_lines command k (line ∷ rest) = goal_line command k line ++ goal_lines command (k + 1) rest

-- the goals of a file
abbrev pub goals_of : Found → List Line
goals_of (Found.Goals lines) = lines
goals_of found = []

-- the line before the goals of a file
abbrev pub path_line : Command → List ℕ → List ℕ
path_line Cnf path = []
path_line Show path = []
path_line command path = codes "file " ++ path ++ codes "\n"

-- the lines of a file: its fault, or its goals, which are left out where the run is quiet
abbrev pub file_lines : Command → Bool → ℕ → List ℕ → Found → List ℕ
file_lines command quiet k path Found.Absent = codes "file " ++ path ++ codes ": absent\n"
file_lines command quiet k path Found.TooLong = codes "file " ++ path ++ codes ": too long\n"
file_lines command quiet k path (Found.Faulty fault) = fault_line path fault
file_lines command quiet k path (Found.Goals lines) = if quiet then [] else path_line command path ++ goal_lines command k lines

-- the lines of files whose goals are numbered from k on
abbrev pub lines_from : Command → Bool → ℕ → List Part → List ℕ
lines_from command quiet k [] = []
lines_from command quiet k (part ∷ rest) = file_lines command quiet k part.path part.found ++ lines_from command quiet (k + length (goals_of part.found)) rest

-- the goals of the run, in order
abbrev pub all_goals : List Part → List Line
all_goals [] = []
all_goals (part ∷ rest) = goals_of part.found ++ all_goals rest

-- how a goal is counted
pub data Verdict : Type 0 where
  Holds : Verdict
  Fails : Verdict
  Other : Verdict

abbrev pub verdict_of : Told → Verdict
verdict_of (Proved text) = Holds
verdict_of (Replayed (Ok done)) = Holds
verdict_of (False values) = Fails
verdict_of (Replayed (Err refused)) = Fails
verdict_of told = Other

abbrev pub same_verdict : Verdict → Verdict → Bool
same_verdict Holds Holds = true
same_verdict Fails Fails = true
same_verdict Other Other = true
same_verdict v w = false

-- how many goals have this verdict
abbrev pub count_of : Verdict → List Line → ℕ
count_of verdict lines = count_by (λ line. same_verdict verdict (verdict_of line.told)) lines

-- how many goals hold, fail, or neither, with a command's words for the first two
abbrev pub counts_line : (holds fails : List ℕ) → List Line → List ℕ
counts_line holds fails lines = codes "goals: " ++ decimal (count_of Holds lines) ++ codes " " ++ holds ++ codes ", " ++ decimal (count_of Fails lines) ++ codes " " ++ fails ++ codes ", " ++ decimal (count_of Other lines) ++ codes " other\n"

-- the counts of a command's goals
abbrev pub summary : Command → List Line → List ℕ
summary Prove lines = counts_line (codes "proved") (codes "false") lines
summary Alone lines = counts_line (codes "proved") (codes "false") lines
summary Schedule lines = counts_line (codes "proved") (codes "false") lines
summary Check lines = counts_line (codes "accepted") (codes "refused") lines
summary Cnf lines = []
summary Show lines = []

-- the gates in the cones of the goals that were searched to an end
pub record Gates : Type 0 where
  -- in all cones together
  pub in_cones : ℕ
  -- different ones
  pub distinct : ℕ

-- the line of gates, of a run that counts them
abbrev pub gates_line : Option Gates → List ℕ
gates_line None = []
gates_line (Some g) = codes "gates: " ++ decimal g.in_cones ++ codes " in cones, " ++ decimal g.distinct ++ codes " distinct\n"

-- the report of a request
abbrev pub report : Request → List Part → Option Gates → List ℕ
report request parts gates = lines_from request.command request.quiet 1 parts ++ summary request.command (all_goals parts) ++ gates_line gates

-- the certificates of a run
abbrev pub certificates : List Part → List (List ℕ × List ℕ)
certificates parts = certificates_of (all_goals parts)

-- ---- the status

-- the status that a goal asks for
abbrev pub told_status : Told → ℕ
told_status (Proved text) = 0
told_status (Clauses text) = 0
told_status (Replayed (Ok done)) = 0
told_status Nothing = 0
told_status (False values) = 1
told_status (Replayed (Err refused)) = 1
told_status (Budget spent) = 3
told_status Deep = 3
told_status Large = 3
told_status (Cancelled by) = 3
told_status AbsentCertificate = 4
told_status Full = 5
told_status OutOfMemory = 7

abbrev pub goals_status : List Line → ℕ
goals_status [] = 0
goals_status (line ∷ rest) = max (told_status line.told) (goals_status rest)

abbrev pub found_status : Found → ℕ
found_status Found.Absent = 4
found_status Found.TooLong = 4
found_status (Found.Faulty fault) = 4
found_status (Found.Goals lines) = goals_status lines

-- the greatest that applies
abbrev pub status_of : List Part → ℕ
status_of [] = 0
status_of (part ∷ rest) = max (found_status part.found) (status_of rest)
