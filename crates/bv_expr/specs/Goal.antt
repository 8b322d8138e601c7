-- Goals: variables with sorts, hypotheses and a conclusion; what falsifies one, and when one is valid.
use Rattle.std.specs.Prelude.{ℕ, ◌≡◌, ◌≤◌, ◌<◌, ◌≢◌, Bool, true, false, IsTrue, ◌&&◌, nat_le, List, [], ◌∷◌, ◌++◌, length, slice_get, Some, option_map, map, All}
use Rattle.bv_value.specs.BitVector.{IsBitVector}
use Rattle.bv_expr.specs.declared.ops.Sort.{Sort}
use Rattle.bv_expr.specs.declared.ops.Sort.TheVariants as sort
use Rattle.bv_expr.specs.declared.ops.Val.{Val}
use Rattle.bv_expr.specs.declared.ops.Val.TheVariants.{Truth, Vector}
use Rattle.bv_expr.specs.Term.{Term, constant, variable, truth, truth_variable, unary, binary, choice, truth_choice}
use Rattle.bv_expr.specs.Sorts.{sort_of}
use Rattle.bv_expr.specs.Meaning.{sort_of_value, meaning, HasValues}

-- The variables of a goal, names with sorts: variable k is the k-th.
abbrev pub Binders : Type 0
Binders = List (List ℕ × Sort)

-- A width is 1 to 128.
abbrev pub is_sort : Sort → Bool
is_sort sort.Truth = true
is_sort (sort.Vector w) = nat_le 1 w && nat_le w 128

-- The variables of a term: numbers with sorts.
abbrev pub variables : Term → List (ℕ × Sort)
variables (constant v) = []
variables (variable k w) = (k, sort.Vector w) ∷ []
variables (truth b) = []
variables (truth_variable k) = (k, sort.Truth) ∷ []
variables (unary op x) = variables x
variables (binary op x y) = variables x ++ variables y
variables (choice c x y) = variables c ++ (variables x ++ variables y)
variables (truth_choice c x y) = variables c ++ (variables x ++ variables y)

-- A truth over these variables.
pub record IsTruthOver (sorts : List Sort) (t : Term) : Type 0 where
  pub truth : sort_of t ≡ Some sort.Truth
  pub over : All (λ v. slice_get sorts v.0 ≡ Some v.1) (variables t)

-- The sorts of the variables, in order.
abbrev pub sorts_of : Binders → List Sort
sorts_of binders = map (λ b. b.1) binders

-- What holds of every goal: at most 64 variables, no two of one name, and truths over them.
pub record IsGoal (binders : Binders) (hyps : List Term) (concl : Term) : Type 0 where
  pub few : length binders ≤ 64
  pub named_apart : (i j : ℕ) → i < j → j < length binders → option_map (λ b. b.0) (slice_get binders i) ≢ option_map (λ b. b.0) (slice_get binders j)
  pub sorts : All (λ b. IsTrue (is_sort b.1)) binders
  pub hyps_fit : All (IsTruthOver (sorts_of binders)) hyps
  pub concl_fits : IsTruthOver (sorts_of binders) concl

-- Whether it is a value: a truth, or a bit vector.
abbrev pub IsValue : Val → Type 0
IsValue (Truth b) = Unit {0}
IsValue (Vector x) = IsBitVector x

-- One value for each variable, in the variables' order and of its sort.
pub record AreValues (binders : Binders) (values : List Val) : Type 0 where
  pub of_the_sorts : map sort_of_value values ≡ sorts_of binders
  pub are_values : All IsValue values

-- A term means true.
abbrev pub MeansTrue : List Val → Term → Type 0
MeansTrue values t = meaning t values ≡ Truth true

-- All hypotheses mean true, and the conclusion means false.
pub record Falsifies (hyps : List Term) (concl : Term) (values : List Val) : Type 0 where
  pub hyps_hold : All (MeansTrue values) hyps
  pub concl_fails : meaning concl values ≡ Truth false

-- No values falsify the goal.
abbrev pub IsValid : Binders → List Term → Term → Type 0
IsValid binders hyps concl = (values : List Val) → AreValues binders values → ¬ (Falsifies hyps concl values)

-- A truth whose variables have values.
pub record IsTruthAt (values : List Val) (t : Term) : Type 0 where
  pub truth : sort_of t ≡ Some sort.Truth
  pub has : HasValues values t
