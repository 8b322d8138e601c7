-- A clause that is added to those that are watched.
use Rattle.std.specs.Prelude.{ℕ, ◌+◌, ◌-◌, ◌*◌, Bool, true, false, List, [], ◌∷◌, ◌++◌, length, get_or, set, replicate, if◌then◌else◌, nat_lt, None}
use Rattle.search_learn.specs.Trail.{level}
use Rattle.std.specs.declared.option.Option.{Option}
use Rattle.sat_form.specs.Literals.{Literal}
use Rattle.search_learn.specs.declared.Step.{Step}
use Rattle.search_watch.specs.declared.watch.Outcome.{Outcome}
use Rattle.search_watch.specs.declared.watch.Outcome.TheVariants.{Stays, Moves, Implies, Fails}
use Rattle.search_watch.specs.declared.watch.Pair.{Pair}
use Rattle.search_watch.specs.declared.watch.UnitClause.{UnitClause}
use Rattle.search_watch.specs.Nets.{Net}
use Rattle.search_watch.specs.Visits.{list_at, outcome}
use Rattle.search_watch.specs.Watched.{index_of, lesser}

-- What looking at a clause by one of its literals notes.
abbrev pub units_with : Outcome → ℕ → Literal → List UnitClause → List UnitClause
units_with Stays i l us = us
units_with (Moves next) i l us = us
units_with Implies i l us = us ++ record { clause = i; lit = l } ∷ []
units_with Fails i l us = us

abbrev pub least_with : Outcome → ℕ → Option ℕ → Option ℕ
least_with Stays i o = o
least_with (Moves next) i o = o
least_with Implies i o = o
least_with Fails i o = lesser o i

-- A list with one entry more.
abbrev pub entered : List (List ℕ) → Literal → ℕ → List (List ℕ)
entered ls w i = set ls (index_of w) (list_at ls w ++ i ∷ [])

-- the net with a clause that is watched at two of its literals
abbrev pub joined : List Step → List Literal → Literal → Literal → Net → Net
joined t c l k n = record {
  clauses = n.clauses ++ c ∷ [];
  pairs = n.pairs ++ record { first = l; second = k } ∷ [];
  lists = entered (entered n.lists l (length n.clauses)) k (length n.clauses);
  units = units_with (outcome t c l) (length n.clauses) l n.units;
  least = least_with (outcome t c l) (length n.clauses) n.least;
}

-- the net without a clause, over the variables 1 to vars
abbrev pub no_clause : ℕ → Net
no_clause vars = record { clauses = []; pairs = []; lists = replicate (2 * vars + 2) []; units = []; least = None }

-- a variable as a decision with its sign
abbrev pub decision : List Step → List Bool → ℕ → Step
decision t signs v = record { lit = record { var = v; positive = get_or signs (v - 1) false }; level = level t + 1; reason = 0 }

-- pairs with one more at the place of a clause without literals, if there are variables
abbrev pub none_pair : Pair
none_pair = record { first = record { var = 1; positive = true }; second = record { var = 1; positive = true } }

abbrev pub filled : ℕ → List Pair → List Pair
filled vars ps = if nat_lt 0 vars then ps ++ none_pair ∷ [] else ps
