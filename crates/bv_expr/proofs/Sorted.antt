-- A term's meaning has the term's sort.
use Rattle.std.proofs.Common.{◌≡◌, ℕ, zero, suc, ◌+◌, ◌<◌, Bool, true, false, List, [], ◌∷◌, Option, Some, None, length, refl, sym, ◌∙◌, ap, arith}
use Rattle.std.specs.Prelude.{◌==◌, IsSome, if◌then◌else◌, option_and_then, option_map, slice_get, slice_index_or}
use Rattle.std.proofs.lemmas.Bool.{eqb-true}
use Rattle.bv_value.specs.BitVector.{BitVector}
use Rattle.bv_value.specs.Operations as is
use Rattle.bv_expr.specs.declared.ops.Unary.{Unary}
use Rattle.bv_expr.specs.declared.ops.Unary.TheVariants as of
use Rattle.bv_expr.specs.declared.ops.Binary.{Binary}
use Rattle.bv_expr.specs.declared.ops.Binary.TheVariants as on
use Rattle.bv_expr.specs.declared.ops.Sort.{Sort}
use Rattle.bv_expr.specs.declared.ops.Sort.TheVariants as sort
use Rattle.bv_expr.specs.declared.ops.Val.{Val}
use Rattle.bv_expr.specs.declared.ops.Val.TheVariants.{Truth, Vector}
use Rattle.bv_expr.specs.Term.{Term, constant, variable, truth, truth_variable, unary, binary, choice, truth_choice}
use Rattle.bv_expr.specs.Sorts.{vectors, where_equal, unary_sort, vector_sort, truth_sort, binary_sort, choice_sort, truth_choice_sort, sort_of, IsExpr}
use Rattle.bv_expr.specs.Meaning.{sort_of_value, is_true, unary_value, binary_value, meaning, HasValues}

if_some : {A : Type 0} (b : Bool) (a : A) → IsSome (if b then Some a else None) → (if b then Some a else None) ≡ Some a
if_some true a h = refl
if_some false a h = cc

vectors_some : (w : ℕ) → IsSome (vectors w) → vectors w ≡ Some (sort.Vector w)
vectors_some w h = if_some _ (sort.Vector w) h

pub equal_some : (v w : ℕ) (s : Sort) → IsSome (where_equal v w s) → where_equal v w s ≡ Some s
equal_some v w s h = if_some _ s h

pub unary_sorted : (op : Unary) (a : Val) → IsSome (unary_sort op (sort_of_value a)) → unary_sort op (sort_of_value a) ≡ Some (sort_of_value (unary_value op a))
unary_sorted of.TNot (Truth b) h = refl
unary_sorted op (Truth b) h = cc
unary_sorted of.TNot (Vector x) h = cc
unary_sorted (of.Extract start len) (Vector x) h = vectors_some len h
unary_sorted (of.SetWidth v) (Vector x) h = vectors_some v h
unary_sorted (of.SignExtend v) (Vector x) h = vectors_some v h
unary_sorted op (Vector x) h = refl

width_of_choice : (b : Bool) (x y : BitVector) (w : ℕ) → x.width ≡ w → y.width ≡ w → (if b then x else y).width ≡ w
width_of_choice true x y w p q = p
width_of_choice false x y w p q = q

sdiv_width : (x y : BitVector) → (is.sdiv x y).width ≡ x.width
sdiv_width x y = width_of_choice (y.number == 0) _ _ x.width refl refl

srem_width : (x y : BitVector) → (is.srem x y).width ≡ x.width
srem_width x y = width_of_choice (y.number == 0) _ _ x.width refl refl

smod_width : (x y : BitVector) → (is.smod x y).width ≡ x.width
smod_width x y = width_of_choice (y.number == 0) _ _ x.width refl refl

truths_sorted : (op : Binary) (a b : Bool) → IsSome (truth_sort op) → truth_sort op ≡ Some (sort_of_value (binary_value op (Truth a) (Truth b)))
truths_sorted on.TAnd a b h = refl
truths_sorted on.TOr a b h = refl
truths_sorted on.TXor a b h = refl
truths_sorted on.Implies a b h = refl
truths_sorted on.TEq a b h = refl
truths_sorted op a b h = cc

vectors_sorted : (op : Binary) (x y : BitVector) → IsSome (vector_sort op x.width y.width)
    → vector_sort op x.width y.width ≡ Some (sort_of_value (binary_value op (Vector x) (Vector y)))
vectors_sorted on.And x y h = equal_some x.width y.width (sort.Vector x.width) h
vectors_sorted on.Or x y h = equal_some x.width y.width (sort.Vector x.width) h
vectors_sorted on.Xor x y h = equal_some x.width y.width (sort.Vector x.width) h
vectors_sorted on.Add x y h = equal_some x.width y.width (sort.Vector x.width) h
vectors_sorted on.Sub x y h = equal_some x.width y.width (sort.Vector x.width) h
vectors_sorted on.Mul x y h = equal_some x.width y.width (sort.Vector x.width) h
vectors_sorted on.Udiv x y h = equal_some x.width y.width (sort.Vector x.width) h
vectors_sorted on.Umod x y h = equal_some x.width y.width (sort.Vector x.width) h
vectors_sorted on.Sdiv x y h = equal_some x.width y.width (sort.Vector x.width) h ∙ ap (λ w. Some (sort.Vector w)) (sym (sdiv_width x y))
vectors_sorted on.Srem x y h = equal_some x.width y.width (sort.Vector x.width) h ∙ ap (λ w. Some (sort.Vector w)) (sym (srem_width x y))
vectors_sorted on.Smod x y h = equal_some x.width y.width (sort.Vector x.width) h ∙ ap (λ w. Some (sort.Vector w)) (sym (smod_width x y))
vectors_sorted on.Append x y h = vectors_some (x.width + y.width) h
vectors_sorted on.Shl x y h = refl
vectors_sorted on.Lshr x y h = refl
vectors_sorted on.Ashr x y h = refl
vectors_sorted on.Eq x y h = equal_some x.width y.width sort.Truth h
vectors_sorted on.Ult x y h = equal_some x.width y.width sort.Truth h
vectors_sorted on.Ule x y h = equal_some x.width y.width sort.Truth h
vectors_sorted on.Slt x y h = equal_some x.width y.width sort.Truth h
vectors_sorted on.Sle x y h = equal_some x.width y.width sort.Truth h
vectors_sorted op x y h = cc

pub binary_sorted : (op : Binary) (a b : Val) → IsSome (binary_sort op (sort_of_value a) (sort_of_value b))
    → binary_sort op (sort_of_value a) (sort_of_value b) ≡ Some (sort_of_value (binary_value op a b))
binary_sorted op (Truth a) (Truth b) h = truths_sorted op a b h
binary_sorted op (Truth a) (Vector y) h = cc
binary_sorted op (Vector x) (Truth b) h = cc
binary_sorted op (Vector x) (Vector y) h = vectors_sorted op x y h

-- the sort of a part that is there
unary_case : (op : Unary) (o : Option Sort) (a : Val) → (IsSome o → o ≡ Some (sort_of_value a)) → IsSome (option_and_then (unary_sort op) o)
    → option_and_then (unary_sort op) o ≡ Some (sort_of_value (unary_value op a))
unary_case op None a part h = cc
unary_case op (Some s) a part h =
    let e : Some s ≡ Some (sort_of_value a) = part refl in
    let f : s ≡ sort_of_value a = cc in
    rw f (unary_sorted op a (rw f at h))

binary_case : (op : Binary) (o p : Option Sort) (a b : Val) → (IsSome o → o ≡ Some (sort_of_value a)) → (IsSome p → p ≡ Some (sort_of_value b))
    → IsSome (option_and_then (λ s. option_and_then (binary_sort op s) p) o)
    → option_and_then (λ s. option_and_then (binary_sort op s) p) o ≡ Some (sort_of_value (binary_value op a b))
binary_case op None p a b left right h = cc
binary_case op (Some s) None a b left right h = cc
binary_case op (Some s) (Some t) a b left right h =
    let d : Some s ≡ Some (sort_of_value a) = left refl in
    let e : Some t ≡ Some (sort_of_value b) = right refl in
    let f : s ≡ sort_of_value a = cc in
    let g : t ≡ sort_of_value b = cc in
    rw (f, g) (binary_sorted op a b (rw (f, g) at h))

-- a value in its place
value_sorted : (values : List Val) (k : ℕ) (d : Val) (s : Sort) → option_map sort_of_value (slice_get values k) ≡ Some s → sort_of_value (slice_index_or values k d) ≡ s
value_sorted [] k d s h = cc
value_sorted (v ∷ vs) zero d s h = cc
value_sorted (v ∷ vs) (suc k) d s h = value_sorted vs k d s h

pub place_within : (values : List Val) (k : ℕ) (s : Sort) → option_map sort_of_value (slice_get values k) ≡ Some s → k < length values
place_within [] k s h = cc
place_within (v ∷ vs) zero s h = omega arith
place_within (v ∷ vs) (suc k) s h = let lt : k < length vs = place_within vs k s h in omega arith

pub equal_second : (v w : ℕ) → IsSome (where_equal v w (sort.Vector v)) → where_equal v w (sort.Vector v) ≡ Some (sort.Vector w)
equal_second v w h = along (v == w) (λ e. eqb-true v w e) h
  where
    along : (b : Bool) → (b ≡ true → v ≡ w) → IsSome (if b then Some (sort.Vector v) else None) → (if b then Some (sort.Vector v) else None) ≡ Some (sort.Vector w)
    along true e h = ap (λ n. Some (sort.Vector n)) (e refl)
    along false e h = cc

choice_sorted : (a b d : Val) → IsSome (choice_sort (sort_of_value a) (sort_of_value b) (sort_of_value d))
    → choice_sort (sort_of_value a) (sort_of_value b) (sort_of_value d) ≡ Some (sort_of_value (if is_true a then b else d))
choice_sorted (Truth true) (Vector x) (Vector y) h = equal_some x.width y.width (sort.Vector x.width) h
choice_sorted (Truth false) (Vector x) (Vector y) h = equal_second x.width y.width h
choice_sorted (Truth c) (Truth p) d h = cc
choice_sorted (Truth c) (Vector x) (Truth q) h = cc
choice_sorted (Vector x) b d h = cc

truth_choice_sorted : (a b d : Val) → IsSome (truth_choice_sort (sort_of_value a) (sort_of_value b) (sort_of_value d))
    → truth_choice_sort (sort_of_value a) (sort_of_value b) (sort_of_value d) ≡ Some (sort_of_value (if is_true a then b else d))
truth_choice_sorted (Truth true) (Truth p) (Truth q) h = refl
truth_choice_sorted (Truth false) (Truth p) (Truth q) h = refl
truth_choice_sorted (Truth c) (Vector x) d h = cc
truth_choice_sorted (Truth c) (Truth p) (Vector y) h = cc
truth_choice_sorted (Vector x) b d h = cc

three_case : (f : Sort → Sort → Sort → Option Sort) (o p q : Option Sort) (a b d v : Val)
    → (IsSome o → o ≡ Some (sort_of_value a)) → (IsSome p → p ≡ Some (sort_of_value b)) → (IsSome q → q ≡ Some (sort_of_value d))
    → (IsSome (f (sort_of_value a) (sort_of_value b) (sort_of_value d)) → f (sort_of_value a) (sort_of_value b) (sort_of_value d) ≡ Some (sort_of_value v))
    → IsSome (option_and_then (λ r. option_and_then (λ s. option_and_then (f r s) q) p) o)
    → option_and_then (λ r. option_and_then (λ s. option_and_then (f r s) q) p) o ≡ Some (sort_of_value v)
three_case f None p q a b d v x y z step h = cc
three_case f (Some r) None q a b d v x y z step h = cc
three_case f (Some r) (Some s) None a b d v x y z step h = cc
three_case f (Some r) (Some s) (Some t) a b d v x y z step h =
    let e : Some r ≡ Some (sort_of_value a) = x refl in
    let g : Some s ≡ Some (sort_of_value b) = y refl in
    let i : Some t ≡ Some (sort_of_value d) = z refl in
    let j : r ≡ sort_of_value a = cc in
    let k : s ≡ sort_of_value b = cc in
    let l : t ≡ sort_of_value d = cc in
    rw (j, k, l) (step (rw (j, k, l) at h))

-- The meaning has the sort of the term.
pub meaning_sorted : (t : Term) (values : List Val) → IsSome (sort_of t) → HasValues values t → sort_of t ≡ Some (sort_of_value (meaning t values))
meaning_sorted (constant v) values h has = vectors_some v.width h
meaning_sorted (variable k w) values h has = vectors_some w h ∙ ap Some (sym (value_sorted values k _ (sort.Vector w) has))
meaning_sorted (truth b) values h has = refl
meaning_sorted (truth_variable k) values h has = ap Some (sym (value_sorted values k _ sort.Truth has))
meaning_sorted (unary op x) values h has = unary_case op (sort_of x) (meaning x values) (λ p. meaning_sorted x values p has) h
meaning_sorted (binary op x y) values h has =
    binary_case op (sort_of x) (sort_of y) (meaning x values) (meaning y values) (λ p. meaning_sorted x values p has.0) (λ p. meaning_sorted y values p has.1) h
meaning_sorted (choice c x y) values h has =
    three_case choice_sort (sort_of c) (sort_of x) (sort_of y) (meaning c values) (meaning x values) (meaning y values) _
    (λ p. meaning_sorted c values p has.0) (λ p. meaning_sorted x values p has.1) (λ p. meaning_sorted y values p has.2)
    (choice_sorted (meaning c values) (meaning x values) (meaning y values)) h
meaning_sorted (truth_choice c x y) values h has =
    three_case truth_choice_sort (sort_of c) (sort_of x) (sort_of y) (meaning c values) (meaning x values) (meaning y values) _
    (λ p. meaning_sorted c values p has.0) (λ p. meaning_sorted x values p has.1) (λ p. meaning_sorted y values p has.2)
    (truth_choice_sorted (meaning c values) (meaning x values) (meaning y values)) h

part_some : (f : Sort → Option Sort) (o : Option Sort) → IsSome (option_and_then f o) → IsSome o
part_some f None h = cc
part_some f (Some s) h = refl

-- What an operator's parts mean fits the operator.
pub unary_fits : (op : Unary) (x : Term) (values : List Val) → IsSome (sort_of (unary op x)) → HasValues values x → IsSome (unary_sort op (sort_of_value (meaning x values)))
unary_fits op x values h has =
    let e : sort_of x ≡ Some (sort_of_value (meaning x values)) = meaning_sorted x values (part_some (unary_sort op) (sort_of x) h) has in
    let g : IsSome (option_and_then (unary_sort op) (sort_of x)) = h in
    rw e at g

pub binary_fits : (op : Binary) (x y : Term) (values : List Val) → IsSome (sort_of (binary op x y)) → HasValues values x → HasValues values y
    → IsSome (binary_sort op (sort_of_value (meaning x values)) (sort_of_value (meaning y values)))
binary_fits op x y values h left right =
    let e : sort_of x ≡ Some (sort_of_value (meaning x values)) = meaning_sorted x values (part_some (λ s. option_and_then (binary_sort op s) (sort_of y)) (sort_of x) h) left in
    let g : IsSome (option_and_then (λ s. option_and_then (binary_sort op s) (sort_of y)) (sort_of x)) = h in
    let i : IsSome (option_and_then (binary_sort op (sort_of_value (meaning x values))) (sort_of y)) = rw e at g in
    let f : sort_of y ≡ Some (sort_of_value (meaning y values)) = meaning_sorted y values (part_some (binary_sort op (sort_of_value (meaning x values))) (sort_of y) i) right in
    rw f at i

-- The same of a term that equals the node.
pub unary_fits_at : (t : Term) (op : Unary) (x : Term) (values : List Val) → unary op x ≡ t → IsExpr t → HasValues values t → IsSome (unary_sort op (sort_of_value (meaning x values)))
unary_fits_at t op x values e ex has =
    let sorted : IsSome (sort_of t) = ex.sorted in
    let here : IsSome (sort_of (unary op x)) = rw (← e) at sorted in
    let values_here : HasValues values (unary op x) = rw (← e) at has in
    unary_fits op x values here values_here

pub binary_fits_at : (t : Term) (op : Binary) (x y : Term) (values : List Val) → binary op x y ≡ t → IsExpr t → HasValues values t
    → IsSome (binary_sort op (sort_of_value (meaning x values)) (sort_of_value (meaning y values)))
binary_fits_at t op x y values e ex has =
    let sorted : IsSome (sort_of t) = ex.sorted in
    let here : IsSome (sort_of (binary op x y)) = rw (← e) at sorted in
    let values_here : HasValues values (binary op x y) = rw (← e) at has in
    binary_fits op x y values here values_here.0 values_here.1

pub variable_within : (t : Term) (k w : ℕ) (values : List Val) → variable k w ≡ t → HasValues values t → k < length values
variable_within t k w values e has =
    let here : HasValues values (variable k w) = rw (← e) at has in
    place_within values k (sort.Vector w) here

pub truth_variable_within : (t : Term) (k : ℕ) (values : List Val) → truth_variable k ≡ t → HasValues values t → k < length values
truth_variable_within t k values e has =
    let here : HasValues values (truth_variable k) = rw (← e) at has in
    place_within values k sort.Truth here
