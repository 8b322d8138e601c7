-- A set of literals that are false on a trail, as marks on their variables.
use Rattle.std.specs.Prelude.{◌≡◌, ℕ, ◌+◌, ◌-◌, ◌*◌, ◌^◌, ◌<◌, ◌≤◌, Bool, true, false, cond, nat_eq, List, [], ◌∷◌, length, get_or, count_by}
use Rattle.sat_form.specs.Assignment.{is_false}
use Rattle.sat_form.specs.Literals.{Literal, member}
use Rattle.search_learn.specs.declared.Step.{Step}
use Rattle.search_learn.specs.Cases.{times}
use Rattle.search_learn.specs.Trail.{assigned, level_of}
use Rattle.search_learn.specs.Values.{AreLevels, IsOfMachine}

-- The place of a literal in the order of sets.
abbrev pub key : Literal → ℕ
key l = 2 * l.var + cond l.positive 1 0

-- The keys rise, from low on.
abbrev pub Ordered : ℕ → List Literal → Type 0
Ordered low [] = Unit {0}
Ordered low (l ∷ ls) = (low ≤ key l) × Ordered (key l + 1) ls

-- All literals of a clause are false.
abbrev pub AreFalse : List Step → List Literal → Type 0
AreFalse trail c = (l : Literal) → member c l ≡ true → is_false (assigned trail) l ≡ true

-- no variable is marked
abbrev pub AreClear : List Bool → Type 0
AreClear marks = (i : ℕ) → get_or marks i false ≡ false

-- Only variables of these literals are marked.
abbrev pub AreMarksOf : List Bool → List Literal → Type 0
AreMarksOf marks s = (i : ℕ) → get_or marks i false ≡ true → (l : Literal) × (member s l ≡ true) × (l.var - 1 ≡ i)

-- The literals of a set in any order, no two of one variable.
pub record IsListing (s lits : List Literal) : Type 0 where
  pub members : (k : Literal) → member lits k ≡ member s k
  pub once : (v : ℕ) → times v lits ≤ 1

-- s: a set of false literals. count: how many of them are of level d
pub record AreMarks (d : ℕ) (trail : List Step) (levels : List ℕ) (marks : List Bool) (count : ℕ) (s : List Literal) : Type 0 where
  pub small : length marks < 2 ^ 31
  pub machine : IsOfMachine (length marks) trail
  pub levels_are : AreLevels (length marks) levels trail
  pub ordered : Ordered 0 s
  pub falsified : AreFalse trail s
  pub marked : (l : Literal) → is_false (assigned trail) l ≡ true → get_or marks (l.var - 1) false ≡ member s l
  pub only : AreMarksOf marks s
  pub counted : count ≡ count_by (λ l. nat_eq (level_of trail l) d) s
