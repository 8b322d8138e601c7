-- The sorts of terms have widths of 1 to 128.
use Rattle.std.proofs.Common.{◌≡◌, ◌+◌, ℕ, Bool, true, false, ◌&&◌, IsTrue, nat_le, refl, subst, None, Some, Option}
use Rattle.std.specs.Prelude.{option_and_then, ◌==◌, if◌then◌else◌}
use Rattle.bv_expr.specs.declared.ops.Unary.{Unary}
use Rattle.bv_expr.specs.declared.ops.Unary.TheVariants as of
use Rattle.bv_expr.specs.declared.ops.Binary.{Binary}
use Rattle.bv_expr.specs.declared.ops.Binary.TheVariants as on
use Rattle.bv_expr.specs.declared.ops.Sort.{Sort}
use Rattle.bv_expr.specs.declared.ops.Sort.TheVariants.{Truth, Vector}
use Rattle.bv_expr.specs.Term.{Term, constant, variable, truth, truth_variable, unary, binary, choice, truth_choice}
use Rattle.bv_expr.specs.Sorts.{vectors, where_equal, unary_sort, vector_sort, truth_sort, binary_sort, choice_sort, truth_choice_sort, sort_of}
use Rattle.bv_expr.specs.Goal.{is_sort}

pub some_same : {A : Type 0} {a b : A} → Some a ≡ Some b → a ≡ b
some_same e = cc

-- what two steps gave came from what the first one gave
pub opened : {A B : Type 0} (f : A → Option B) (o : Option A) (b : B) → option_and_then f o ≡ Some b → (a : A) × (o ≡ Some a) × (f a ≡ Some b)
opened f None b h = cc
opened f (Some a) b h = (a, refl, h)

where_then : {A : Type 0} (c : Bool) (a b : A) → (if c then Some a else None) ≡ Some b → (c ≡ true) × (a ≡ b)
where_then true a b h = (refl, some_same h)
where_then false a b h = cc

pub vectors_is : (w : ℕ) (s : Sort) → vectors w ≡ Some s → (IsTrue (is_sort (Vector w))) × (Vector w ≡ s)
vectors_is w s h = let p = where_then (nat_le 1 w && nat_le w 128) (Vector w) s h in (p.0, p.1)

pub equal_is : (v w : ℕ) (r s : Sort) → where_equal v w r ≡ Some s → r ≡ s
equal_is v w r s h = (where_then (v == w) r s h).1

fits_as : (r s : Sort) → r ≡ s → IsTrue (is_sort r) → IsTrue (is_sort s)
fits_as r s e p = let P : Sort → Type 0 = λ z. IsTrue (is_sort z) in subst P e p

vectors_fit : (w : ℕ) (s : Sort) → vectors w ≡ Some s → IsTrue (is_sort s)
vectors_fit w s h = let p = vectors_is w s h in fits_as (Vector w) s p.1 p.0

equal_fit : (v w : ℕ) (r s : Sort) → where_equal v w r ≡ Some s → IsTrue (is_sort r) → IsTrue (is_sort s)
equal_fit v w r s h p = fits_as r s (equal_is v w r s h) p

same_fit : (r s : Sort) → Some r ≡ Some s → IsTrue (is_sort r) → IsTrue (is_sort s)
same_fit r s h p = fits_as r s (some_same h) p

unary_fit : (op : Unary) (r s : Sort) → unary_sort op r ≡ Some s → IsTrue (is_sort r) → IsTrue (is_sort s)
unary_fit of.TNot Truth s h p = same_fit Truth s h p
unary_fit op Truth s h p = cc
unary_fit of.Not (Vector w) s h p = same_fit (Vector w) s h p
unary_fit of.Neg (Vector w) s h p = same_fit (Vector w) s h p
unary_fit of.Msb (Vector w) s h p = same_fit Truth s h refl
unary_fit of.TNot (Vector w) s h p = cc
unary_fit (of.ShlBy n) (Vector w) s h p = same_fit (Vector w) s h p
unary_fit (of.LshrBy n) (Vector w) s h p = same_fit (Vector w) s h p
unary_fit (of.AshrBy n) (Vector w) s h p = same_fit (Vector w) s h p
unary_fit (of.RotL n) (Vector w) s h p = same_fit (Vector w) s h p
unary_fit (of.RotR n) (Vector w) s h p = same_fit (Vector w) s h p
unary_fit (of.Bit i) (Vector w) s h p = same_fit Truth s h refl
unary_fit (of.Extract start len) (Vector w) s h p = vectors_fit len s h
unary_fit (of.SetWidth v) (Vector w) s h p = vectors_fit v s h
unary_fit (of.SignExtend v) (Vector w) s h p = vectors_fit v s h

vector_fit : (op : Binary) (v w : ℕ) (s : Sort) → vector_sort op v w ≡ Some s → IsTrue (is_sort (Vector v)) → IsTrue (is_sort s)
vector_fit on.And v w s h p = equal_fit v w (Vector v) s h p
vector_fit on.Or v w s h p = equal_fit v w (Vector v) s h p
vector_fit on.Xor v w s h p = equal_fit v w (Vector v) s h p
vector_fit on.Add v w s h p = equal_fit v w (Vector v) s h p
vector_fit on.Sub v w s h p = equal_fit v w (Vector v) s h p
vector_fit on.Mul v w s h p = equal_fit v w (Vector v) s h p
vector_fit on.Udiv v w s h p = equal_fit v w (Vector v) s h p
vector_fit on.Umod v w s h p = equal_fit v w (Vector v) s h p
vector_fit on.Sdiv v w s h p = equal_fit v w (Vector v) s h p
vector_fit on.Srem v w s h p = equal_fit v w (Vector v) s h p
vector_fit on.Smod v w s h p = equal_fit v w (Vector v) s h p
vector_fit on.Append v w s h p = vectors_fit (v + w) s h
vector_fit on.Shl v w s h p = same_fit (Vector v) s h p
vector_fit on.Lshr v w s h p = same_fit (Vector v) s h p
vector_fit on.Ashr v w s h p = same_fit (Vector v) s h p
vector_fit on.Eq v w s h p = equal_fit v w Truth s h refl
vector_fit on.Ult v w s h p = equal_fit v w Truth s h refl
vector_fit on.Ule v w s h p = equal_fit v w Truth s h refl
vector_fit on.Slt v w s h p = equal_fit v w Truth s h refl
vector_fit on.Sle v w s h p = equal_fit v w Truth s h refl
vector_fit op v w s h p = cc

truth_fit : (op : Binary) (s : Sort) → truth_sort op ≡ Some s → IsTrue (is_sort s)
truth_fit on.TAnd s h = same_fit Truth s h refl
truth_fit on.TOr s h = same_fit Truth s h refl
truth_fit on.TXor s h = same_fit Truth s h refl
truth_fit on.Implies s h = same_fit Truth s h refl
truth_fit on.TEq s h = same_fit Truth s h refl
truth_fit op s h = cc

binary_fit : (op : Binary) (q r s : Sort) → binary_sort op q r ≡ Some s → IsTrue (is_sort q) → IsTrue (is_sort s)
binary_fit op Truth Truth s h p = truth_fit op s h
binary_fit op (Vector v) (Vector w) s h p = vector_fit op v w s h p
binary_fit op Truth (Vector w) s h p = cc
binary_fit op (Vector v) Truth s h p = cc

choice_fit : (p q r s : Sort) → choice_sort p q r ≡ Some s → IsTrue (is_sort q) → IsTrue (is_sort s)
choice_fit Truth (Vector v) (Vector w) s h f = equal_fit v w (Vector v) s h f
choice_fit Truth Truth r s h f = cc
choice_fit Truth (Vector v) Truth s h f = cc
choice_fit (Vector u) q r s h f = cc

truth_choice_fit : (p q r s : Sort) → truth_choice_sort p q r ≡ Some s → IsTrue (is_sort s)
truth_choice_fit Truth Truth Truth s h = same_fit Truth s h refl
truth_choice_fit Truth Truth (Vector w) s h = cc
truth_choice_fit Truth (Vector v) r s h = cc
truth_choice_fit (Vector u) q r s h = cc

-- the sorts of the parts of a choice
pub record Parts (f : Sort → Sort → Sort → Option Sort) (c x y : Term) (s : Sort) : Type 0 where
  pub test : Sort
  pub left : Sort
  pub right : Sort
  pub test_is : sort_of c ≡ Some test
  pub left_is : sort_of x ≡ Some left
  pub right_is : sort_of y ≡ Some right
  pub whole : f test left right ≡ Some s

pub parts_of : (f : Sort → Sort → Sort → Option Sort) (c x y : Term) (s : Sort) → option_and_then (λ r. option_and_then (λ q. option_and_then (f r q) (sort_of y)) (sort_of x)) (sort_of c) ≡ Some s → Parts f c x y s
parts_of f c x y s h =
    let a = opened (λ r. option_and_then (λ q. option_and_then (f r q) (sort_of y)) (sort_of x)) (sort_of c) s h in
    let b = opened (λ q. option_and_then (f a.0 q) (sort_of y)) (sort_of x) s a.2 in
    let d = opened (f a.0 b.0) (sort_of y) s b.2 in
    record { test = a.0; left = b.0; right = d.0; test_is = a.1; left_is = b.1; right_is = d.1; whole = d.2 }

pub sort_fits : (t : Term) (s : Sort) → sort_of t ≡ Some s → IsTrue (is_sort s)
sort_fits (constant v) s h = vectors_fit v.width s h
sort_fits (variable k w) s h = vectors_fit w s h
sort_fits (truth b) s h = same_fit Truth s h refl
sort_fits (truth_variable k) s h = same_fit Truth s h refl
sort_fits (unary op x) s h =
    let o = opened (unary_sort op) (sort_of x) s h in
    unary_fit op o.0 s o.2 (sort_fits x o.0 o.1)
sort_fits (binary op x y) s h =
    let o = opened (λ r. option_and_then (binary_sort op r) (sort_of y)) (sort_of x) s h in
    let p = opened (binary_sort op o.0) (sort_of y) s o.2 in
    binary_fit op o.0 p.0 s p.2 (sort_fits x o.0 o.1)
sort_fits (choice c x y) s h = let p = parts_of choice_sort c x y s h in choice_fit p.test p.left p.right s p.whole (sort_fits x p.left p.left_is)
sort_fits (truth_choice c x y) s h = let p = parts_of truth_choice_sort c x y s h in truth_choice_fit p.test p.left p.right s p.whole
