-- What the trail of a machine keeps.
use Rattle.std.specs.Prelude.{◌∷◌, ◌++◌, [], ◌≡◌, ◌≢◌, ℕ, ◌-◌, nat_eq, if◌then◌else◌, ◌+◌, ◌<◌, ◌≤◌, false, List, get_or, Some}
use Rattle.sat_form.specs.Literals.{Literal}
use Rattle.search_learn.specs.declared.Step.{Step}
use Rattle.search_learn.specs.Trail.{is_assigned, level, unit_literal}

-- Entry e follows from those before it.
pub record EntryFollows (clause_of : ℕ → List Literal) (vars : ℕ) (before : List Step) (e : Step) : Type 0 where
  pub above : 0 < e.lit.var
  pub within : e.lit.var ≤ vars
  pub new : is_assigned before e.lit ≡ false
  -- a decision begins a level
  pub decided : e.reason ≡ 0 → e.level ≡ level before + 1
  -- anything else is at the current level, and its reason was unit
  pub at_level : e.reason ≢ 0 → e.level ≡ level before
  pub implied : e.reason ≢ 0 → unit_literal before (clause_of e.reason) ≡ Some e.lit

-- Behind the entries `before` come these, each of which follows from those before it.
abbrev pub Continues : (ℕ → List Literal) → ℕ → List Step → List Step → Type 0
Continues clause_of vars before [] = Unit {0}
Continues clause_of vars before (e ∷ later) = EntryFollows clause_of vars before e × Continues clause_of vars (before ++ e ∷ []) later

-- The trail is one of the machine.
abbrev pub IsTrail : (ℕ → List Literal) → ℕ → List Step → Type 0
IsTrail clause_of vars trail = Continues clause_of vars [] trail

-- the clause with an id, which is its place from 1; no literals where there is none
abbrev pub clause_with : List (List Literal) → ℕ → List Literal
clause_with cs id = if nat_eq id 0 then [] else get_or cs (id - 1) []

-- the same where the learnt clauses stand behind those given
abbrev pub clause_by_id : List (List Literal) → List (List Literal) → ℕ → List Literal
clause_by_id cs learnt = clause_with (cs ++ learnt)
