-- What tests of constants tell of meanings, and what rules give.
use Rattle.std.proofs.Common.{◌≡◌, ℕ, zero, suc, ◌+◌, ◌^◌, Bool, true, false, List, [], Option, Some, None, refl}
use Rattle.std.specs.Prelude.{◌==◌, if◌then◌else◌, option_map}
use Rattle.std.proofs.lemmas.Bool.{eqb-true}
use Rattle.bv_expr.specs.declared.ops.Val.{Val}
use Rattle.bv_expr.specs.Term.{Term, constant, truth}
use Rattle.bv_expr.specs.Meaning.{vector, meaning}
use Rattle.bv_normal.specs.Constants.{number, is_number, is_all_ones, is_constant, exponent_to, exponent}
use Rattle.bv_normal.specs.Fitting.{gives, or_else, beside, the_one}

pub number_known : (n : ℕ) (y : Term) (values : List Val) → is_number n y ≡ true → (vector (meaning y values)).number ≡ n
number_known n (constant v) values e = eqb-true v.number n e
number_known n y values e = cc

pub ones_known : (y : Term) (values : List Val) → is_all_ones y ≡ true → (vector (meaning y values)).number + 1 ≡ 2 ^ (vector (meaning y values)).width
ones_known (constant v) values e = eqb-true (v.number + 1) (2 ^ v.width) e
ones_known y values e = cc

pub number_is : (y : Term) (n : ℕ) (values : List Val) → number y ≡ Some n → (vector (meaning y values)).number ≡ n
number_is (constant v) n values e = cc
number_is y n values e = cc

power_to : (bound n k : ℕ) → exponent_to bound n ≡ Some k → n ≡ 2 ^ k
unfolding exponent_to
power_to zero n k e = cc
power_to (suc b) n k e = by_test (n == 2 ^ suc b) (eqb-true n (2 ^ suc b)) e (λ g. power_to b n k g)
  where
    by_test : (t : Bool) → (t ≡ true → n ≡ 2 ^ suc b) → (if t then Some (suc b) else exponent_to b n) ≡ Some k → (exponent_to b n ≡ Some k → n ≡ 2 ^ k) → n ≡ 2 ^ k
    by_test true f g later = let d : suc b ≡ k = cc in rw (← d) (f refl)
    by_test false f g later = later g

pub power_known : (y : Term) (k : ℕ) (values : List Val) → exponent y ≡ Some k → (vector (meaning y values)).number ≡ 2 ^ k
power_known (constant v) k values e = power_to 127 v.number k e
power_known y k values e = cc

-- a constant means the same at all values
pub constant_means : (x : Term) (values : List Val) → is_constant x ≡ true → meaning x values ≡ meaning x []
constant_means (constant v) values e = refl
constant_means (truth b) values e = refl
constant_means x values e = cc

-- what a rule gives
pub given : (b : Bool) (t u : Term) → gives b t ≡ Some u → (b ≡ true) × (t ≡ u)
given true t u e = (refl, cc)
given false t u e = cc

pub mapped : {A B : Type 0} (f : A → B) (o : Option A) (u : B) → option_map f o ≡ Some u → (a : A) × (o ≡ Some a) × (f a ≡ u)
mapped f (Some a) u e = (a, refl, cc)
mapped f None u e = cc

-- one side or the other
pub beside_cases : (P : Term → Type 0) (test : Term → Bool) (x y u : Term) → beside test x y ≡ Some u → (test y ≡ true → P x) → (test x ≡ true → P y) → P u
beside_cases P test x y u e f g = by_tests (test y) (test x) e f g
  where
    by_tests : (a b : Bool) → or_else (gives a x) (gives b y) ≡ Some u → (a ≡ true → P x) → (b ≡ true → P y) → P u
    by_tests true b e f g = let k : x ≡ u = cc in rw (← k) (f refl)
    by_tests false true e f g = let k : y ≡ u = cc in rw (← k) (g refl)
    by_tests false false e f g = cc

pub one_cases : (P : Term → Type 0) (test : Term → Bool) (x y u : Term) → the_one test x y ≡ Some u → (test y ≡ true → P y) → (test x ≡ true → P x) → P u
one_cases P test x y u e f g = by_tests (test y) (test x) e f g
  where
    by_tests : (a b : Bool) → or_else (gives a y) (gives b x) ≡ Some u → (a ≡ true → P y) → (b ≡ true → P x) → P u
    by_tests true b e f g = let k : y ≡ u = cc in rw (← k) (f refl)
    by_tests false true e f g = let k : x ≡ u = cc in rw (← k) (g refl)
    by_tests false false e f g = cc

pub either_cases : (P : Term → Type 0) (o p : Option Term) (u : Term) → or_else o p ≡ Some u → (o ≡ Some u → P u) → (p ≡ Some u → P u) → P u
either_cases P (Some v) p u e f g = f e
either_cases P None p u e f g = g e
