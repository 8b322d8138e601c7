-- The search machine: its state, and its step.
use Rattle.std.specs.Prelude.{◌≡◌, ℕ, zero, suc, ◌+◌, ◌-◌, ◌*◌, Bool, true, false, not, ◌&&◌, ◌||◌, if◌then◌else◌, nat_eq, nat_lt, nat_le, List, [], ◌∷◌, ◌++◌, length, get_or, set, replicate, Some, None, is_none}
use Rattle.std.specs.List.{list_any, list_all, find, range_with_len}
use Rattle.std.specs.Option.{option_map_or}
use Rattle.std.specs.declared.option.Option.{Option}
use Rattle.sat_form.specs.Literals.{Literal}
use Rattle.sat_form.specs.Log.{Logged}
use Rattle.search_learn.specs.declared.Step.{Step}
use Rattle.search_learn.specs.declared.Turn.{Turn}
use Rattle.search_learn.specs.declared.Turn.TheVariants.{More, Sat, Unsat, Budget}
use Rattle.search_learn.specs.Luby.{luby}
use Rattle.search_learn.specs.Trail.{is_assigned, clause_false, unit_literal, level, cut}
use Rattle.search_learn.specs.Analysis.{Lesson, lesson}

-- A clause and its id.
pub record Clause : Type 0 where
  pub id : ℕ
  pub lits : List Literal

-- The state but for the log.
pub record State : Type 0 where
  -- The variables are 1 to vars.
  pub vars : ℕ
  -- how many clauses were given; these have the ids 1 to inputs
  pub inputs : ℕ
  -- the clauses in order of their ids, the learnt ones behind those given
  pub clauses : List Clause
  -- the oldest entry first
  pub trail : List Step
  -- the score of each variable, and its sign: the value of its latest assignment
  pub scores : List ℕ
  pub signs : List Bool
  pub spent : ℕ
  pub conflicts : ℕ
  pub restarts : ℕ
  pub since : ℕ
  -- More, until the machine has ended
  pub end : Turn

-- What a step leaves, and what it learns.
pub record Moved : Type 0 where
  pub state : State
  pub learnt : Option Lesson

abbrev pub numbered : ℕ → List (List Literal) → List Clause
numbered id [] = []
numbered id (c ∷ cs) = record { id = id; lits = c } ∷ numbered (id + 1) cs

abbrev pub start : ℕ → List (List Literal) → State
start vars cs = record {
  vars = vars;
  inputs = length cs;
  clauses = numbered 1 cs;
  trail = [];
  scores = replicate vars 0;
  signs = replicate vars false;
  spent = 0;
  conflicts = 0;
  restarts = 0;
  since = 0;
  end = More;
}

-- the literals of the clause with this id
abbrev pub clause_at : List Clause → ℕ → List Literal
clause_at cs id = option_map_or (λ c. c.lits) (find (λ c. nat_eq c.id id) cs) []

-- The false clause of least id.
abbrev pub false_clause : State → Option Clause
false_clause m = find (λ c. clause_false m.trail c.lits) m.clauses

abbrev pub has_unit : State → Bool
has_unit m = list_any (λ c. not (is_none (unit_literal m.trail c.lits))) m.clauses

abbrev pub all_assigned : State → Bool
all_assigned m = list_all (λ v. is_assigned m.trail (record { var = v; positive = true })) (range_with_len 1 m.vars)

-- An assignment: an entry of the trail, and the variable's sign.
abbrev pub assign : State → Step → State
assign m e = record m { trail = m.trail ++ e ∷ []; signs = set m.signs (e.lit.var - 1) e.lit.positive; spent = m.spent + 1 }

-- Case 4: each clause that is unit on the trail `seen`, in rising id, unless its variable is there by now.
abbrev pub propagate_one : List Step → Clause → Option Literal → State → State
propagate_one seen c None m = m
propagate_one seen c (Some l) m = if is_assigned m.trail l then m else assign m (record { lit = l; level = level seen; reason = c.id })

abbrev pub propagate : List Step → List Clause → State → State
propagate seen [] m = m
propagate seen (c ∷ cs) m = propagate seen cs (propagate_one seen c (unit_literal seen c.lits) m)

-- Case 5: the unassigned variable of greatest score, then of least number, as a decision with its sign.
-- best: the best of those before v, or 0
abbrev pub is_better : List Step → List ℕ → ℕ → ℕ → Bool
is_better trail scores best v = not (is_assigned trail (record { var = v; positive = true })) && (nat_eq best 0 || nat_lt (get_or scores (best - 1) 0) (get_or scores (v - 1) 0))

abbrev pub choose : State → ℕ → List ℕ → ℕ
choose m best [] = best
choose m best (v ∷ vs) = if is_better m.trail m.scores best v then choose m v vs else choose m best vs

abbrev pub decide : State → ℕ → State
decide m v = assign m (record { lit = record { var = v; positive = get_or m.signs (v - 1) false }; level = level m.trail + 1; reason = 0 })

-- Case 3, its parts in this order.
abbrev pub raise : ℕ → List ℕ → List Literal → List ℕ
raise by scores [] = scores
raise by scores (l ∷ ls) = raise by (set scores (l.var - 1) (get_or scores (l.var - 1) 0 + by)) ls

-- the next id: each conflict before this one has taken one
abbrev pub next_id : State → ℕ
next_id m = m.inputs + m.conflicts + 1

abbrev pub count_conflict : State → State
count_conflict m = record m { spent = m.spent + 1; conflicts = m.conflicts + 1 }

-- m: as it is behind count_conflict
abbrev pub add_lesson : State → Lesson → State
add_lesson m s = record m {
  clauses = m.clauses ++ record { id = m.inputs + m.conflicts; lits = s.lits } ∷ [];
  trail = cut s.back m.trail;
  scores = raise m.conflicts m.scores s.lits;
  since = m.since + 1;
}

abbrev pub restart : State → State
restart m = elim (nat_eq m.since (64 * luby (m.restarts + 1))) as (λ _. State) [
  | true ↦ record m { trail = cut 0 m.trail; restarts = m.restarts + 1; since = 0 }
  | false ↦ m
]

abbrev pub after_lesson : State → Lesson → List Literal → State
after_lesson m s [] = record m { end = Unsat }
after_lesson m s (l ∷ ls) = restart (add_lesson m s)

abbrev pub conflict_with : State → Lesson → Moved
conflict_with m s = record { state = after_lesson (count_conflict m) s s.lits; learnt = Some s }

abbrev pub conflict : State → Clause → Moved
conflict m c = conflict_with m (lesson (clause_at m.clauses) m.trail (level m.trail) c.id)

-- The first of the five cases that applies.
abbrev pub quietly : State → Moved
quietly m = record { state = m; learnt = None }

abbrev pub move : State → Option Clause → Moved
move m (Some c) = conflict m c
move m None = elim (has_unit m) as (λ _. Moved) [
  | true ↦ quietly (propagate m.trail m.clauses m)
  | false ↦ quietly (decide m (choose m 0 (range_with_len 1 m.vars)))
]

abbrev pub is_sat : State → Bool
is_sat m = (is_none (false_clause m) && not (has_unit m)) && all_assigned m

abbrev pub step_if : Bool → Bool → State → Moved
step_if sat spent m = elim sat as (λ _. Moved) [
  | true ↦ quietly (record m { end = Sat })
  | false ↦ elim spent as (λ _. Moved) [ true ↦ quietly (record m { end = Budget m.spent }) | false ↦ move m (false_clause m) ]
]

-- What has ended stays.
abbrev pub step_from : Turn → ℕ → State → Moved
step_from More budget m = step_if (is_sat m) (nat_le budget m.spent) m
step_from Sat budget m = quietly m
step_from Unsat budget m = quietly m
step_from (Budget n) budget m = quietly m

-- One step.
unfoldable pub step : ℕ → State → Moved
step budget m = step_from m.end budget m

-- The machine: its state with the log.
pub record Machine : Type 0 where
  pub state : State
  pub log : List Logged

-- the line of what a step from m learns
abbrev pub logged : State → Option Lesson → List Logged
logged m None = []
logged m (Some s) = record { id = next_id m; lits = s.lits; hints = s.hints } ∷ []

abbrev pub after_move : Machine → Moved → Machine
after_move m r = record { state = r.state; log = m.log ++ logged m.state r.learnt }

abbrev pub advance : ℕ → Machine → Machine
advance budget m = after_move m (step budget m.state)

-- n steps
abbrev pub steps : ℕ → ℕ → Machine → Machine
steps zero budget m = m
steps (suc n) budget m = steps n budget (advance budget m)

abbrev pub machine : ℕ → List (List Literal) → Machine
machine vars cs = record { state = start vars cs; log = [] }

-- The state may be one of the machine of these clauses.
abbrev pub Reached : ℕ → List (List Literal) → ℕ → State → Type 0
Reached vars cs budget m = (n : ℕ) × (m ≡ (steps n budget (machine vars cs)).state)

-- Where the machine ends. Each step before the end spends at least 1.
abbrev pub run : ℕ → List (List Literal) → ℕ → Machine
run vars cs budget = steps (budget + 1) budget (machine vars cs)
