-- Literals that are assumed to be false.
use Rattle.std.specs.Prelude.{◌≡◌, ℕ, Bool, true, false, ◌||◌, List, map, ◌++◌, Option, if◌then◌else◌, None, Some}
use Rattle.std.specs.List.{list_any}
use Rattle.sat_form.specs.Literals.{Literal, negate}
use Rattle.sat_form.specs.Assignment.{is_true}
use Rattle.lrat_lines.specs.Judge.{Clauses, Hints, Cause, two_opposite, others, judge_first, take_hints, group_done}
use Rattle.lrat_judge.specs.Marked.{Same}

-- the literals but the one that is left out
abbrev pub rest_of : Option Literal → List Literal → List Literal
rest_of None c = c
rest_of (Some l) c = others c l

-- one of them is true, or two are opposite
abbrev pub blocked : List Literal → List Literal → Bool
blocked a c = list_any (is_true a) c || two_opposite c

abbrev pub Assumes : List Literal → List Literal → List Literal → Bool → Type 0
Assumes marks a rest true = (blocked a rest ≡ false) × Same marks (map negate rest ++ a)
Assumes marks a rest false = blocked a rest ≡ true

-- the judgement on an addition whose id isn't in use
abbrev pub judge_new : Clauses → List Literal → Hints → Option Cause
judge_new db lits h = if two_opposite lits then None else judge_first db lits h.groups (take_hints db (map negate lits) h.first)

-- what a group comes to, with the other literals of its clause
abbrev pub judge_others : Clauses → List Literal → List Literal → List ℕ → Option Cause
judge_others db a rest hints = if blocked a rest then None else group_done (take_hints db (map negate rest ++ a) hints)
