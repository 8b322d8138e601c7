-- The cases of a step, as a program takes them.
use Rattle.std.specs.Prelude.{◌≡◌, ℕ, ◌<◌, false, List, [], ◌∷◌, ◌++◌, if◌then◌else◌, Some, None, nat_eq}
use Rattle.std.specs.List.{range_with_len, count_by}
use Rattle.std.specs.declared.option.Option.{Option}
use Rattle.sat_form.specs.Literals.{Literal}
use Rattle.search_learn.specs.declared.Step.{Step}
use Rattle.search_learn.specs.declared.Turn.TheVariants.{More}
use Rattle.search_learn.specs.Trail.{level, is_assigned, unit_literal}
use Rattle.search_learn.specs.Analysis.{Lesson, lesson}
use Rattle.search_learn.specs.Machine.{Clause, State, clause_at, false_clause, all_assigned, assign, propagate, choose, decide, conflict_with, quietly, step}

-- A step in which this is learnt.
pub record Teaches (budget : ℕ) (m : State) (s : Lesson) : Type 0 where
  pub clause : Clause
  pub found : false_clause m ≡ Some clause
  pub is : s ≡ lesson (clause_at m.clauses) m.trail (level m.trail) clause.id
  pub before : m.end ≡ More
  pub going : m.spent < budget
  pub moves : step budget m ≡ conflict_with m s

-- A step on the false clause of this id.
pub record IsConflict (budget : ℕ) (m : State) (id : ℕ) : Type 0 where
  pub clause : Clause
  pub found : false_clause m ≡ Some clause
  pub is : clause.id ≡ id
  pub before : m.end ≡ More
  pub going : m.spent < budget
  pub moves : step budget m ≡ conflict_with m (lesson (clause_at m.clauses) m.trail (level m.trail) id)

pub record IsRound (budget : ℕ) (m : State) : Type 0 where
  pub going : m.spent < budget
  pub moves : step budget m ≡ quietly (propagate m.trail m.clauses m)

pub record IsChoice (budget : ℕ) (m : State) : Type 0 where
  pub unassigned : all_assigned m ≡ false
  pub going : m.spent < budget
  pub moves : step budget m ≡ quietly (decide m (choose m 0 (range_with_len 1 m.vars)))

-- A round in two parts: the entries of the unit clauses, in rising id, and putting each of them unless its variable is there by now.
abbrev pub unit_entry : ℕ → ℕ → Option Literal → List Step
unit_entry d id None = []
unit_entry d id (Some l) = record { lit = l; level = d; reason = id } ∷ []

abbrev pub unit_entries : List Step → ℕ → List Clause → List Step
unit_entries seen d [] = []
unit_entries seen d (c ∷ cs) = unit_entry d c.id (unit_literal seen c.lits) ++ unit_entries seen d cs

abbrev pub put_one : State → Step → State
put_one m e = if is_assigned m.trail e.lit then m else assign m e

abbrev pub put_entries : List Step → State → State
put_entries [] m = m
put_entries (e ∷ es) m = put_entries es (put_one m e)

-- how many times a variable stands in a clause
abbrev pub times : ℕ → List Literal → ℕ
times v lits = count_by (λ l. nat_eq l.var v) lits
