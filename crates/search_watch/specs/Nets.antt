-- The clauses of a search with their watches, and what was found of them.
use Rattle.std.specs.Prelude.{◌≡◌, ◌≢◌, ℕ, ◌≤◌, ◌<◌, true, List, [], length, map, set, Some, Contains}
use Rattle.std.specs.List.{All}
use Rattle.std.specs.declared.option.Option.{Option}
use Rattle.sat_form.specs.Literals.{Literal, negate}
use Rattle.search_learn.specs.declared.Step.{Step}
use Rattle.search_learn.specs.Trail.{clause_false, unit_literal}
use Rattle.search_watch.specs.declared.watch.Pair.{Pair}
use Rattle.search_watch.specs.declared.watch.UnitClause.{UnitClause}
use Rattle.search_watch.specs.declared.watches.Watches.{Watches}
use Rattle.search_watch.specs.Watched.{IsAtMost, IsNoted, IsCalmBelow, index_of}
use Rattle.search_watch.specs.Visits.{Table, ArePairsLow, IsLooked, clause_at, entries_of, has, list_at, pair_at, walk}

pub record Net : Type 0 where
  -- by their places from 0
  pub clauses : List (List Literal)
  -- the two watched literals of each
  pub pairs : List Pair
  -- for each literal the clauses that are watched at it
  pub lists : List (List ℕ)
  -- those that are unit, and the least that is false
  pub units : List UnitClause
  pub least : Option ℕ

abbrev pub net : Watches → Net
net w = record { clauses = w.clauses; pairs = w.pairs.items; lists = entries_of w.lists.items; units = w.found.units.items; least = w.found.false_clause }

-- A place has a clause with literals.
pub record IsThere (cs : List (List Literal)) (i : ℕ) : Type 0 where
  pub within : i < length cs
  pub some : clause_at cs i ≢ []

-- The watched literals and the lists' entries are in range.
pub record IsShaped (vars : ℕ) (n : Net) : Type 0 where
  pub size : (i : ℕ) → IsThere n.clauses i → i < length n.pairs
  -- where there are variables, each clause has its pair at its place
  pub aligned : 0 < vars → length n.pairs ≡ length n.clauses
  pub room : (k : Literal) → k.var ≤ vars → index_of k < length n.lists
  pub within : (i : ℕ) → All (λ l. l.var ≤ vars) (clause_at n.clauses i)
  pub low : ArePairsLow vars n.pairs
  pub entries : (w : Literal) (i : ℕ) → has (list_at n.lists w) i ≡ true → IsThere n.clauses i

-- What was found is so.
pub record IsSound (t : List Step) (cs : List (List Literal)) (units : List UnitClause) (least : Option ℕ) : Type 0 where
  pub units_are : (u : UnitClause) → Contains units u → unit_literal t (clause_at cs u.clause) ≡ Some u.lit
  pub least_is : (j : ℕ) → least ≡ Some j → clause_false t (clause_at cs j) ≡ true

-- The watches are right on a trail, but for the clauses that are to be looked at: those watched at a literal of `later`.
pub record IsNet (vars : ℕ) (t : List Step) (later : List Literal) (n : Net) : Type 0 where
  pub shape : IsShaped vars n
  pub looked : (i : ℕ) → IsThere n.clauses i → IsLooked t (clause_at n.clauses i) later i (pair_at n.pairs i) n.lists (IsNoted t (clause_at n.clauses i) n.units n.least i)
  pub calm : (i : ℕ) → IsThere n.clauses i → IsCalmBelow t (clause_at n.clauses i) (pair_at n.pairs i)
  pub sound : IsSound t n.clauses n.units n.least
  pub least_low : (j : ℕ) → n.least ≡ Some j → j < length n.clauses
  -- A clause without literals is noted, and nothing is assigned then.
  pub empty : (i : ℕ) → i < length n.clauses → clause_at n.clauses i ≡ [] → IsAtMost n.least i
  pub fresh : (i : ℕ) → i < length n.clauses → clause_at n.clauses i ≡ [] → t ≡ []

-- the literals that entries of a trail make false
abbrev pub negated : List Step → List Literal
negated es = map (λ e. negate e.lit) es

-- A visit of the list of a literal: it is taken out, walked along, and put back.
abbrev pub walked : List Step → Literal → Net → Table
walked t lit n = walk t n.clauses lit (list_at n.lists lit) (record { pairs = n.pairs; lists = set n.lists (index_of lit) []; units = n.units; least = n.least; kept = [] })

abbrev pub back_in : List (List Literal) → Literal → Table → Net
back_in cs lit s = record { clauses = cs; pairs = s.pairs; lists = set s.lists (index_of lit) s.kept; units = s.units; least = s.least }

abbrev pub visited : List Step → Literal → Net → Net
visited t lit n = back_in n.clauses lit (walked t lit n)
