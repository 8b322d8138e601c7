-- Clauses that are watched at two of their literals, and what was found of them.
use Rattle.std.specs.Prelude.{◌≡◌, ◌⊎◌, ℕ, ◌≤◌, ◌<◌, ◌+◌, ◌*◌, if◌then◌else◌, nat_lt, Bool, true, false, not, ◌&&◌, List, Some, None, Contains}
use Rattle.std.specs.List.{list_any, find}
use Rattle.std.specs.declared.option.Option.{Option}
use Rattle.sat_form.specs.Assignment as assignment
use Rattle.sat_form.specs.Literals.{Literal, member, same_literal}
use Rattle.search_learn.specs.declared.Step.{Step}
use Rattle.search_learn.specs.Trail.{assigned, is_true, is_assigned, clause_false, unit_literal, cut, level}
use Rattle.search_watch.specs.declared.watch.Pair.{Pair}
use Rattle.search_watch.specs.declared.watch.UnitClause.{UnitClause}

abbrev pub is_false : List Step → Literal → Bool
is_false t l = assignment.is_false (assigned t) l

abbrev pub is_satisfied : List Step → List Literal → Bool
is_satisfied t c = list_any (is_true t) c

-- the first literal that isn't false, other than the given one
abbrev pub replacement : List Step → List Literal → Literal → Option Literal
replacement t c other = find (λ l. not (is_false t l) && not (same_literal l other)) c

-- The pair is two literals of the clause, or the only one that it has.
pub record IsPair (c : List Literal) (p : Pair) : Type 0 where
  pub first : member c p.first ≡ true
  pub second : member c p.second ≡ true
  pub one : p.first ≡ p.second → (k : Literal) → member c k ≡ true → k ≡ p.first

abbrev pub IsAtMost : Option ℕ → ℕ → Type 0
IsAtMost None i = ⊥
IsAtMost (Some j) i = j ≤ i

-- A false clause is noted by one of its place or less, a unit clause with its literal.
pub record IsNotedFalse (t : List Step) (c : List Literal) (least : Option ℕ) (i : ℕ) : Type 0 where
  pub is : clause_false t c ≡ true
  pub at_most : IsAtMost least i

pub record IsNotedUnit (t : List Step) (c : List Literal) (units : List UnitClause) (i : ℕ) : Type 0 where
  pub lit : Literal
  pub is : unit_literal t c ≡ Some lit
  pub listed : Contains units (record { clause = i; lit = lit })

abbrev pub IsNoted : List Step → List Literal → List UnitClause → Option ℕ → ℕ → Type 0
IsNoted t c units least i = IsNotedFalse t c least i ⊎ IsNotedUnit t c units i

-- later: the literals that are false and haven't been visited
abbrev pub IsExcused : List Step → List Literal → List Literal → Type 0 → Literal → Type 0
IsExcused t c later noted w = is_false t w ≡ true → (is_satisfied t c ≡ true) ⊎ (noted ⊎ (member later w ≡ true))

-- Each watched literal that is false has a true literal of its clause beside it, or the clause was noted, or a visit is to come.
pub record IsWatched (t : List Step) (c : List Literal) (p : Pair) (later : List Literal) (noted : Type 0) : Type 0 where
  pub first : IsExcused t c later noted p.first
  pub second : IsExcused t c later noted p.second
  pub one : p.first ≡ p.second → (is_assigned t p.first ≡ true) ⊎ noted

-- The same on each earlier level, where nothing is left to note: so a cut leaves nothing to look at.
pub record IsCalm (t : List Step) (c : List Literal) (p : Pair) : Type 0 where
  pub first : is_false t p.first ≡ true → is_satisfied t c ≡ true
  pub second : is_false t p.second ≡ true → is_satisfied t c ≡ true
  pub one : p.first ≡ p.second → is_true t p.first ≡ true

abbrev pub IsCalmBelow : List Step → List Literal → Pair → Type 0
IsCalmBelow t c p = (k : ℕ) → k < level t → IsCalm (cut k t) c p

-- the watched literal beside one of the two
abbrev pub other : Pair → Literal → Literal
other p l = if same_literal p.first l then p.second else p.first

-- the place of a literal in a table by literals
abbrev pub index_of : Literal → ℕ
index_of l = 2 * l.var + (if l.positive then 0 else 1)

abbrev pub lesser : Option ℕ → ℕ → Option ℕ
lesser None i = Some i
lesser (Some j) i = if nat_lt i j then Some i else Some j

-- A walk changes a watched literal only for one that isn't false.
abbrev pub Watches : Pair → Literal → Type 0
Watches p w = (w ≡ p.first) ⊎ (w ≡ p.second)

abbrev pub Moves : List Step → Pair → Pair → Type 0
Moves t old new = (w : Literal) → Watches new w → Watches old w ⊎ (is_false t w ≡ false)
