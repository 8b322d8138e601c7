-- What a rule keeps of a term, for each way in which its result is made of the parts.
use Rattle.std.proofs.Common.{◌≡◌, ℕ, ◌+◌, ◌≤◌, Bool, true, List, [], ◌∷◌, ◌++◌, Some, refl, sym, ◌∙◌, ap, arith}
use Rattle.std.specs.Prelude.{IsSome, if◌then◌else◌, nat_le, slice_get, All}
use Rattle.std.proofs.lemmas.Grind.{common_steps}
use Rattle.std.proofs.lemmas.List.Elements.{All-nil, All-cons, All-head, All-tail}
use Rattle.bv_value.specs.BitVector.{BitVector, IsBitVector, of_number}
use Rattle.bv_value.proofs.Results.{reduced_fits}
use Rattle.bv_expr.specs.declared.ops.Unary.{Unary}
use Rattle.bv_expr.specs.declared.ops.Binary.{Binary}
use Rattle.bv_expr.specs.declared.ops.Binary.TheVariants as on
use Rattle.bv_expr.specs.declared.ops.Sort.{Sort}
use Rattle.bv_expr.specs.declared.ops.Sort.TheVariants as sort
use Rattle.bv_expr.specs.declared.ops.Val.{Val}
use Rattle.bv_expr.specs.declared.ops.Val.TheVariants.{Truth, Vector}
use Rattle.bv_expr.specs.Term.{Term, constant, variable, truth, truth_variable, unary, binary, choice, truth_choice, depth}
use Rattle.bv_expr.specs.Sorts.{sort_of, vectors, LeavesFit}
use Rattle.bv_expr.specs.Meaning.{unary_value, binary_value, is_true, meaning, HasValues}
use Rattle.bv_expr.specs.Goal.{IsValue, variables}
use Rattle.bv_normal.specs.Constants.{width, width_of_sort, number_like}
use Rattle.bv_normal.specs.Fitting.{Rule}
use Rattle.bv_normal.proofs.Sorting.{vector_within}

-- each variable has its sort by these
abbrev pub Over : List Sort → Term → Type 0
Over sorts t = All (λ v. slice_get sorts v.0 ≡ Some v.1) (variables t)

-- both terms have one sort and mean the same, and the second is no deeper and has no other variables
pub record Keeps (t u : Term) : Type 0 where
  pub sort_is : sort_of u ≡ sort_of t
  pub depth_within : depth u ≤ depth t
  pub leaves : LeavesFit u
  pub over : (sorts : List Sort) → Over sorts t → Over sorts u
  pub has : (values : List Val) → HasValues values t → HasValues values u
  pub means : (values : List Val) → All IsValue values → HasValues values t → meaning u values ≡ meaning t values

-- a term with a sort
pub record Fits (t : Term) : Type 0 where
  pub sorted : IsSome (sort_of t)
  pub leaves : LeavesFit t

-- whatever the rule gives keeps what it is given
abbrev pub Safe : Rule → Type 0
Safe rule = (t u : Term) → Fits t → rule t ≡ Some u → Keeps t u

all_left : {A : Type 0} (P : A → Type 0) (xs ys : List A) → All P (xs ++ ys) → All P xs
all_left P [] ys h = All-nil P
all_left P (x ∷ xs) ys h = All-cons P x xs (All-head P x (xs ++ ys) h) (all_left P xs ys (All-tail P x (xs ++ ys) h))

all_right : {A : Type 0} (P : A → Type 0) (xs ys : List A) → All P (xs ++ ys) → All P ys
all_right P [] ys h = h
all_right P (x ∷ xs) ys h = all_right P xs ys (All-tail P x (xs ++ ys) h)

all_both : {A : Type 0} (P : A → Type 0) (xs ys : List A) → All P xs → All P ys → All P (xs ++ ys)
all_both P [] ys h k = k
all_both P (x ∷ xs) ys h k = All-cons P x (xs ++ ys) (All-head P x xs h) (all_both P xs ys (All-tail P x xs h) k)

abbrev pub At : List Sort → ℕ × Sort → Type 0
At sorts v = slice_get sorts v.0 ≡ Some v.1

pub over_left : (sorts : List Sort) (op : Binary) (x y : Term) → Over sorts (binary op x y) → Over sorts x
over_left sorts op x y h = all_left (At sorts) (variables x) (variables y) h

pub over_right : (sorts : List Sort) (op : Binary) (x y : Term) → Over sorts (binary op x y) → Over sorts y
over_right sorts op x y h = all_right (At sorts) (variables x) (variables y) h

pub over_binary : (sorts : List Sort) (op : Binary) (x y : Term) → Over sorts x → Over sorts y → Over sorts (binary op x y)
over_binary sorts op x y h k = all_both (At sorts) (variables x) (variables y) h k

pub over_three : (sorts : List Sort) (c x y : Term) → All (At sorts) (variables c ++ (variables x ++ variables y)) → Over sorts c × Over sorts x × Over sorts y
over_three sorts c x y h =
    let rest = all_right (At sorts) (variables c) (variables x ++ variables y) h in
    (all_left (At sorts) (variables c) (variables x ++ variables y) h, all_left (At sorts) (variables x) (variables y) rest, all_right (At sorts) (variables x) (variables y) rest)

pub over_choice : (sorts : List Sort) (c x y : Term) → Over sorts c → Over sorts x → Over sorts y → All (At sorts) (variables c ++ (variables x ++ variables y))
over_choice sorts c x y h k l = all_both (At sorts) (variables c) (variables x ++ variables y) h (all_both (At sorts) (variables x) (variables y) k l)

-- the term itself, and one step after another
pub keeps_itself : (t : Term) → LeavesFit t → Keeps t t
keeps_itself t l = record { sort_is = refl; depth_within = omega arith; leaves = l; over = λ sorts h. h; has = λ values h. h; means = λ values f h. refl }

pub after : (t u v : Term) → Keeps t u → Keeps u v → Keeps t v
after t u v a b = record {
  sort_is = b.sort_is ∙ a.sort_is;
  depth_within = omega (arith, a.depth_within, b.depth_within);
  leaves = b.leaves;
  over = λ sorts h. b.over sorts (a.over sorts h);
  has = λ values h. b.has values (a.has values h);
  means = λ values f h. b.means values f (a.has values h) ∙ a.means values f h;
}

-- a part
pub keeps_left : (op : Binary) (x y : Term) → LeavesFit (binary op x y) → sort_of x ≡ sort_of (binary op x y)
    → ((values : List Val) → All IsValue values → HasValues values x → HasValues values y → meaning x values ≡ binary_value op (meaning x values) (meaning y values))
    → Keeps (binary op x y) x
keeps_left op x y l s m = record { sort_is = s; depth_within = omega arith; leaves = l.0; over = λ sorts h. over_left sorts op x y h; has = λ values h. h.0; means = λ values f h. m values f h.0 h.1 }

pub keeps_right : (op : Binary) (x y : Term) → LeavesFit (binary op x y) → sort_of y ≡ sort_of (binary op x y)
    → ((values : List Val) → All IsValue values → HasValues values x → HasValues values y → meaning y values ≡ binary_value op (meaning x values) (meaning y values))
    → Keeps (binary op x y) y
keeps_right op x y l s m = record { sort_is = s; depth_within = omega arith; leaves = l.1; over = λ sorts h. over_right sorts op x y h; has = λ values h. h.1; means = λ values f h. m values f h.0 h.1 }

pub keeps_part : (op : Unary) (x : Term) → LeavesFit x → sort_of x ≡ sort_of (unary op x)
    → ((values : List Val) → All IsValue values → HasValues values x → meaning x values ≡ unary_value op (meaning x values))
    → Keeps (unary op x) x
keeps_part op x l s m = record { sort_is = s; depth_within = omega arith; leaves = l; over = λ sorts h. h; has = λ values h. h; means = m }

pub keeps_inner : (op p : Unary) (x : Term) → LeavesFit x → sort_of x ≡ sort_of (unary op (unary p x))
    → ((values : List Val) → All IsValue values → HasValues values x → meaning x values ≡ unary_value op (unary_value p (meaning x values)))
    → Keeps (unary op (unary p x)) x
keeps_inner op p x l s m = record { sort_is = s; depth_within = omega arith; leaves = l; over = λ sorts h. h; has = λ values h. h; means = m }

-- an operator on a part
pub keeps_of_left : (op : Binary) (p : Unary) (x y : Term) → LeavesFit (binary op x y) → sort_of (unary p x) ≡ sort_of (binary op x y)
    → ((values : List Val) → All IsValue values → HasValues values x → HasValues values y → unary_value p (meaning x values) ≡ binary_value op (meaning x values) (meaning y values))
    → Keeps (binary op x y) (unary p x)
keeps_of_left op p x y l s m = record { sort_is = s; depth_within = omega arith; leaves = l.0; over = λ sorts h. over_left sorts op x y h; has = λ values h. h.0; means = λ values f h. m values f h.0 h.1 }

pub keeps_of_right : (op : Binary) (p : Unary) (x y : Term) → LeavesFit (binary op x y) → sort_of (unary p y) ≡ sort_of (binary op x y)
    → ((values : List Val) → All IsValue values → HasValues values x → HasValues values y → unary_value p (meaning y values) ≡ binary_value op (meaning x values) (meaning y values))
    → Keeps (binary op x y) (unary p y)
keeps_of_right op p x y l s m = record { sort_is = s; depth_within = omega arith; leaves = l.1; over = λ sorts h. over_right sorts op x y h; has = λ values h. h.1; means = λ values f h. m values f h.0 h.1 }

-- a constant
pub some_depth : (t : Term) → 1 ≤ depth t
some_depth (constant v) = omega arith
some_depth (variable k w) = omega arith
some_depth (truth b) = omega arith
some_depth (truth_variable k) = omega arith
some_depth (unary op x) = omega arith
some_depth (binary op x y) = omega arith
some_depth (choice c x y) = omega arith
some_depth (truth_choice c x y) = omega arith

pub vectors_is : (w : ℕ) → 1 ≤ w → w ≤ 128 → vectors w ≡ Some (sort.Vector w)
vectors_is w one wide =
    let a : nat_le 1 w ≡ true = grind (arith, common_steps) in
    let b : nat_le w 128 ≡ true = grind (arith, common_steps) in
    rw (a, b) refl

pub keeps_truth : (t : Term) (b : Bool) → sort_of t ≡ Some sort.Truth
    → ((values : List Val) → All IsValue values → HasValues values t → Truth b ≡ meaning t values)
    → Keeps t (truth b)
keeps_truth t b s m = record { sort_is = sym s; depth_within = some_depth t; leaves = tt; over = λ sorts h. All-nil (At sorts); has = λ values h. tt; means = m }

pub keeps_vector : (t : Term) (v : BitVector) → IsBitVector v → sort_of t ≡ Some (sort.Vector v.width)
    → ((values : List Val) → All IsValue values → HasValues values t → Vector v ≡ meaning t values)
    → Keeps t (constant v)
keeps_vector t v fits s m = record {
  sort_is = vectors_is v.width fits.positive fits.at_most_128 ∙ sym s;
  depth_within = some_depth t;
  leaves = fits;
  over = λ sorts h. All-nil (At sorts);
  has = λ values h. tt;
  means = m;
}

pub width_known : (x : Term) (w : ℕ) → sort_of x ≡ Some (sort.Vector w) → width x ≡ w
width_known x w s = ap width_of_sort s

pub keeps_number : (t x : Term) (w n : ℕ) → sort_of x ≡ Some (sort.Vector w) → sort_of t ≡ Some (sort.Vector w)
    → ((values : List Val) → All IsValue values → HasValues values t → Vector (of_number w n) ≡ meaning t values)
    → Keeps t (number_like x n)
keeps_number t x w n s a m =
    let within = vector_within x w s in
    let k : Keeps t (constant (of_number w n)) = keeps_vector t (of_number w n) (reduced_fits w n within.0 within.1) a m in
    rw (width_known x w s) k

-- a part and a mask
pub keeps_masked : (op : Binary) (x y : Term) (w n : ℕ) → LeavesFit (binary op x y) → sort_of x ≡ Some (sort.Vector w) → sort_of (binary op x y) ≡ Some (sort.Vector w)
    → sort_of (binary on.And x (constant (of_number w n))) ≡ Some (sort.Vector w)
    → ((values : List Val) → All IsValue values → HasValues values x → HasValues values y → binary_value on.And (meaning x values) (Vector (of_number w n)) ≡ binary_value op (meaning x values) (meaning y values))
    → Keeps (binary op x y) (binary on.And x (number_like x n))
keeps_masked op x y w n l s a b m =
    let within = vector_within x w s in
    let e = some_depth y in
    let k : Keeps (binary op x y) (binary on.And x (constant (of_number w n))) = record {
      sort_is = b ∙ sym a;
      depth_within = omega arith;
      leaves = (l.0, reduced_fits w n within.0 within.1);
      over = λ sorts h. over_binary sorts on.And x (constant (of_number w n)) (over_left sorts op x y h) (All-nil (At sorts));
      has = λ values h. (h.0, tt);
      means = λ values f h. m values f h.0 h.1;
    } in
    rw (width_known x w s) k

-- a branch
pub keeps_first : (c x y : Term) → LeavesFit (choice c x y) → sort_of x ≡ sort_of (choice c x y)
    → ((values : List Val) → meaning x values ≡ (if is_true (meaning c values) then meaning x values else meaning y values))
    → Keeps (choice c x y) x
keeps_first c x y l s m = record { sort_is = s; depth_within = omega arith; leaves = l.1; over = λ sorts h. (over_three sorts c x y h).1; has = λ values h. h.1; means = λ values f h. m values }

pub keeps_second : (c x y : Term) → LeavesFit (choice c x y) → sort_of y ≡ sort_of (choice c x y)
    → ((values : List Val) → meaning y values ≡ (if is_true (meaning c values) then meaning x values else meaning y values))
    → Keeps (choice c x y) y
keeps_second c x y l s m = record { sort_is = s; depth_within = omega arith; leaves = l.2; over = λ sorts h. (over_three sorts c x y h).2; has = λ values h. h.2; means = λ values f h. m values }

pub keeps_truth_first : (c x y : Term) → LeavesFit (truth_choice c x y) → sort_of x ≡ sort_of (truth_choice c x y)
    → ((values : List Val) → meaning x values ≡ (if is_true (meaning c values) then meaning x values else meaning y values))
    → Keeps (truth_choice c x y) x
keeps_truth_first c x y l s m = record { sort_is = s; depth_within = omega arith; leaves = l.1; over = λ sorts h. (over_three sorts c x y h).1; has = λ values h. h.1; means = λ values f h. m values }

pub keeps_truth_second : (c x y : Term) → LeavesFit (truth_choice c x y) → sort_of y ≡ sort_of (truth_choice c x y)
    → ((values : List Val) → meaning y values ≡ (if is_true (meaning c values) then meaning x values else meaning y values))
    → Keeps (truth_choice c x y) y
keeps_truth_second c x y l s m = record { sort_is = s; depth_within = omega arith; leaves = l.2; over = λ sorts h. (over_three sorts c x y h).2; has = λ values h. h.2; means = λ values f h. m values }
