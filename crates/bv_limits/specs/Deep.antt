-- The operators, methods and `if`s of terms that are deeper than 1,000, and the first of them.
use Rattle.std.specs.Prelude.{◌≡◌, ℕ, ◌<◌, ◌≤◌, List, [], ◌∷◌, ◌++◌, Option, Some, None}
use Rattle.bv_trees.specs.Trees.{Tree, Binder, variables, hypothesis, Goal}
use Rattle.bv_trees.specs.Complete.{Within, operator_of}
use Rattle.bv_limits.specs.Depths.{depth}

-- an operator at this place has a term in x that is deeper than 1,000
pub record HasDeep (x : Tree) (at : ℕ) : Type 0 where
  pub deep : Tree
  pub within : Within deep x
  pub operator : operator_of deep ≡ Some at
  pub deeper : 1000 < depth deep

-- it has one in one of these terms
pub data AnyDeep : List Tree → ℕ → Type 0 where
  this : {x : Tree} {xs : List Tree} {at : ℕ} → HasDeep x at → AnyDeep (x ∷ xs) at
  another : {x : Tree} {xs : List Tree} {at : ℕ} → AnyDeep xs at → AnyDeep (x ∷ xs) at

-- the first such place, or none
abbrev pub IsFirstDeep : List Tree → Option ℕ → Type 0
IsFirstDeep xs (Some at) = AnyDeep xs at × ((k : ℕ) → AnyDeep xs k → at ≤ k)
IsFirstDeep xs None = (k : ℕ) → AnyDeep xs k → ⊥

-- the terms of binders and of goals
abbrev pub hypotheses : List Binder → List Tree
hypotheses [] = []
hypotheses (variables i j s ∷ bs) = hypotheses bs
hypotheses (hypothesis x ∷ bs) = x ∷ hypotheses bs

abbrev pub terms_of : List Goal → List Tree
terms_of [] = []
terms_of (g ∷ gs) = hypotheses g.binders ++ g.conclusion ∷ terms_of gs
