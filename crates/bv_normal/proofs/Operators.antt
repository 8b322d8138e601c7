-- Operators by what they take and give, and what follows for a rule whose law on values is known.
use Rattle.std.proofs.Common.{◌≡◌, ℕ, Bool, true, false, List, Option, Some, None, refl, sym, ◌∙◌, ap}
use Rattle.std.specs.Prelude.{◌==◌, IsSome, if◌then◌else◌, option_and_then}
use Rattle.bv_value.specs.BitVector.{BitVector, IsBitVector, of_number}
use Rattle.bv_value.specs.Operations as is
use Rattle.bv_expr.specs.declared.ops.Unary.{Unary}
use Rattle.bv_expr.specs.declared.ops.Unary.TheVariants as of
use Rattle.bv_expr.specs.declared.ops.Binary.{Binary}
use Rattle.bv_expr.specs.declared.ops.Binary.TheVariants as on
use Rattle.bv_expr.specs.declared.ops.Sort.{Sort}
use Rattle.bv_expr.specs.declared.ops.Sort.TheVariants as sort
use Rattle.bv_expr.specs.declared.ops.Val.{Val}
use Rattle.bv_expr.specs.declared.ops.Val.TheVariants.{Truth, Vector}
use Rattle.bv_expr.specs.Term.{Term, constant, truth, unary, binary}
use Rattle.bv_expr.specs.Sorts.{where_equal, unary_sort, binary_sort, sort_of, LeavesFit}
use Rattle.bv_expr.specs.Meaning.{vector, unary_value, binary_value, meaning}
use Rattle.bv_expr.proofs.Sorted.{equal_some}
use Rattle.bv_normal.specs.Constants.{number_like}
use Rattle.bv_normal.proofs.Laws.{number_itself}
use Rattle.bv_normal.proofs.Sorting.{Word, word_of, widths_equal, vector_within}
use Rattle.bv_normal.proofs.Keeping.{Keeps, Fits, keeps_left, keeps_right, keeps_part, keeps_of_left, keeps_of_right, keeps_truth, keeps_number, keeps_masked, vectors_is}

-- an operator that takes two vectors of one width
pub record PairOp (op : Binary) (s : ℕ → Sort) : Type 0 where
  pub sorts : (v w : ℕ) → binary_sort op (sort.Vector v) (sort.Vector w) ≡ where_equal v w (s v)
  pub truths : binary_sort op sort.Truth sort.Truth ≡ None

-- the sorts of its parts and of the whole
pub record Sides (s : ℕ → Sort) (o p whole : Option Sort) : Type 0 where
  pub width : ℕ
  pub left : o ≡ Some (sort.Vector width)
  pub right : p ≡ Some (sort.Vector width)
  pub all : whole ≡ Some (s width)

pub sides : (op : Binary) (s : ℕ → Sort) (o p : Option Sort) → PairOp op s → IsSome (option_and_then (λ r. option_and_then (binary_sort op r) p) o)
    → Sides s o p (option_and_then (λ r. option_and_then (binary_sort op r) p) o)
sides op s None p q h = cc
sides op s (Some r) None q h = cc
sides op s (Some sort.Truth) (Some sort.Truth) q h = (let i : IsSome {T = Sort} None = rw q.truths at h in cc)
sides op s (Some sort.Truth) (Some (sort.Vector w)) q h = cc
sides op s (Some (sort.Vector v)) (Some sort.Truth) q h = cc
sides op s (Some (sort.Vector v)) (Some (sort.Vector w)) q h =
    let i : IsSome (where_equal v w (s v)) = rw (q.sorts v w) at h in
    let e : v ≡ w = widths_equal v w (s v) i in
    record { width = v; left = refl; right = ap (λ n. Some (sort.Vector n)) (sym e); all = q.sorts v w ∙ equal_some v w (s v) i }

-- an operator that gives a vector of that width, and one that gives a truth
pub record VectorOp (op : Binary) (f : BitVector → BitVector → BitVector) : Type 0 where
  pub pair : PairOp op sort.Vector
  pub gives : (a b : Val) → binary_value op a b ≡ Vector (f (vector a) (vector b))

pub record TestOp (op : Binary) (f : BitVector → BitVector → Bool) : Type 0 where
  pub pair : PairOp op (λ w. sort.Truth)
  pub gives : (a b : Val) → binary_value op a b ≡ Truth (f (vector a) (vector b))

vector_op : (op : Binary) (f : BitVector → BitVector → BitVector) → ((v w : ℕ) → binary_sort op (sort.Vector v) (sort.Vector w) ≡ where_equal v w (sort.Vector v)) → binary_sort op sort.Truth sort.Truth ≡ None
    → ((a b : Val) → binary_value op a b ≡ Vector (f (vector a) (vector b))) → VectorOp op f
vector_op op f s t g = record { pair = record { sorts = s; truths = t }; gives = g }

test_op : (op : Binary) (f : BitVector → BitVector → Bool) → ((v w : ℕ) → binary_sort op (sort.Vector v) (sort.Vector w) ≡ where_equal v w sort.Truth) → binary_sort op sort.Truth sort.Truth ≡ None
    → ((a b : Val) → binary_value op a b ≡ Truth (f (vector a) (vector b))) → TestOp op f
test_op op f s t g = record { pair = record { sorts = s; truths = t }; gives = g }

pub add : VectorOp on.Add is.add
add = vector_op on.Add is.add (λ v w. refl) refl (λ a b. refl)

pub sub : VectorOp on.Sub is.sub
sub = vector_op on.Sub is.sub (λ v w. refl) refl (λ a b. refl)

pub mul : VectorOp on.Mul is.mul
mul = vector_op on.Mul is.mul (λ v w. refl) refl (λ a b. refl)

pub conjunction : VectorOp on.And is.bitwise_and
conjunction = vector_op on.And is.bitwise_and (λ v w. refl) refl (λ a b. refl)

pub disjunction : VectorOp on.Or is.bitwise_or
disjunction = vector_op on.Or is.bitwise_or (λ v w. refl) refl (λ a b. refl)

pub exclusive : VectorOp on.Xor is.bitwise_xor
exclusive = vector_op on.Xor is.bitwise_xor (λ v w. refl) refl (λ a b. refl)

pub quotient : VectorOp on.Udiv is.udiv
quotient = vector_op on.Udiv is.udiv (λ v w. refl) refl (λ a b. refl)

pub remainder : VectorOp on.Umod is.umod
remainder = vector_op on.Umod is.umod (λ v w. refl) refl (λ a b. refl)

pub equals : TestOp on.Eq (λ x y. x.number == y.number)
equals = test_op on.Eq (λ x y. x.number == y.number) (λ v w. refl) refl (λ a b. refl)

pub below : TestOp on.Ult is.ult
below = test_op on.Ult is.ult (λ v w. refl) refl (λ a b. refl)

pub at_most : TestOp on.Ule is.ule
at_most = test_op on.Ule is.ule (λ v w. refl) refl (λ a b. refl)

pub signed_below : TestOp on.Slt is.slt
signed_below = test_op on.Slt is.slt (λ v w. refl) refl (λ a b. refl)

pub signed_at_most : TestOp on.Sle is.sle
signed_at_most = test_op on.Sle is.sle (λ v w. refl) refl (λ a b. refl)

-- two vectors of one width, at values
pub record AreWords (x y : BitVector) : Type 0 where
  pub left : IsBitVector x
  pub right : IsBitVector y
  pub widths : x.width ≡ y.width

-- what a vector term means
abbrev pub word : Term → List Val → BitVector
word x values = vector (meaning x values)

-- a law of the parts' meanings
abbrev pub Law : Term → Term → (BitVector → BitVector → Type 0) → Type 0
Law x y P = (values : List Val) → AreWords (word x values) (word y values) → P (word x values) (word y values)

are_words : {w : ℕ} {a b : Val} → Word w a → Word w b → AreWords (vector a) (vector b)
are_words p q = record { left = p.fits; right = q.fits; widths = p.width_is ∙ sym q.width_is }

-- the left part, the right part, a number, an operator on a part, a mask, a truth
pub left_by : {op : Binary} {f : BitVector → BitVector → BitVector} → VectorOp op f → (x y : Term) → Fits (binary op x y) → Law x y (λ a b. f a b ≡ a) → Keeps (binary op x y) x
left_by {op} {f} o x y fit law =
    let s = sides op sort.Vector (sort_of x) (sort_of y) o.pair fit.sorted in
    keeps_left op x y fit.leaves (s.left ∙ sym s.all) (λ values v h k.
    let a = word_of x s.width values s.left fit.leaves.0 v h in
    let b = word_of y s.width values s.right fit.leaves.1 v k in
    a.is ∙ (sym (ap Vector (law values (are_words a b))) ∙ sym (o.gives (meaning x values) (meaning y values))))

pub right_by : {op : Binary} {f : BitVector → BitVector → BitVector} → VectorOp op f → (x y : Term) → Fits (binary op x y) → Law x y (λ a b. f a b ≡ b) → Keeps (binary op x y) y
right_by {op} {f} o x y fit law =
    let s = sides op sort.Vector (sort_of x) (sort_of y) o.pair fit.sorted in
    keeps_right op x y fit.leaves (s.right ∙ sym s.all) (λ values v h k.
    let a = word_of x s.width values s.left fit.leaves.0 v h in
    let b = word_of y s.width values s.right fit.leaves.1 v k in
    b.is ∙ (sym (ap Vector (law values (are_words a b))) ∙ sym (o.gives (meaning x values) (meaning y values))))

pub number_by : {op : Binary} {f : BitVector → BitVector → BitVector} → VectorOp op f → (x y : Term) (n : ℕ) → Fits (binary op x y) → Law x y (λ a b. f a b ≡ of_number a.width n) → Keeps (binary op x y) (number_like x n)
number_by {op} {f} o x y n fit law =
    let s = sides op sort.Vector (sort_of x) (sort_of y) o.pair fit.sorted in
    keeps_number (binary op x y) x s.width n s.left s.all (λ values v h.
    let a = word_of x s.width values s.left fit.leaves.0 v h.0 in
    let b = word_of y s.width values s.right fit.leaves.1 v h.1 in
    ap (λ w. Vector (of_number w n)) (sym a.width_is) ∙ (sym (ap Vector (law values (are_words a b))) ∙ sym (o.gives (meaning x values) (meaning y values))))

pub truth_by : {op : Binary} {f : BitVector → BitVector → Bool} → TestOp op f → (x y : Term) (t : Bool) → Fits (binary op x y) → Law x y (λ a b. f a b ≡ t) → Keeps (binary op x y) (truth t)
truth_by {op} {f} o x y t fit law =
    let s = sides op (λ w. sort.Truth) (sort_of x) (sort_of y) o.pair fit.sorted in
    keeps_truth (binary op x y) t s.all (λ values v h.
    let a = word_of x s.width values s.left fit.leaves.0 v h.0 in
    let b = word_of y s.width values s.right fit.leaves.1 v h.1 in
    sym (ap Truth (law values (are_words a b))) ∙ sym (o.gives (meaning x values) (meaning y values)))

-- an operator on one vector that gives one of the same width
pub record PartOp (p : Unary) (g : BitVector → BitVector) : Type 0 where
  pub sorts : (w : ℕ) → unary_sort p (sort.Vector w) ≡ Some (sort.Vector w)
  pub truths : unary_sort p sort.Truth ≡ None
  pub gives : (a : Val) → unary_value p a ≡ Vector (g (vector a))

pub shl_by : (n : ℕ) → PartOp (of.ShlBy n) (λ x. is.shl_by x n)
shl_by n = record { sorts = λ w. refl; truths = refl; gives = λ a. refl }

pub lshr_by : (n : ℕ) → PartOp (of.LshrBy n) (λ x. is.lshr_by x n)
lshr_by n = record { sorts = λ w. refl; truths = refl; gives = λ a. refl }

pub ashr_by : (n : ℕ) → PartOp (of.AshrBy n) (λ x. is.ashr_by x n)
ashr_by n = record { sorts = λ w. refl; truths = refl; gives = λ a. refl }

pub rotl : (n : ℕ) → PartOp (of.RotL n) (λ x. is.rotl x n)
rotl n = record { sorts = λ w. refl; truths = refl; gives = λ a. refl }

pub rotr : (n : ℕ) → PartOp (of.RotR n) (λ x. is.rotr x n)
rotr n = record { sorts = λ w. refl; truths = refl; gives = λ a. refl }

pub sort_of_part : {p : Unary} {g : BitVector → BitVector} → PartOp p g → (x : Term) (w : ℕ) → sort_of x ≡ Some (sort.Vector w) → sort_of (unary p x) ≡ Some (sort.Vector w)
sort_of_part {p} o x w e = ap (option_and_then (unary_sort p)) e ∙ o.sorts w

pub of_left_by : {op : Binary} {f : BitVector → BitVector → BitVector} {p : Unary} {g : BitVector → BitVector} → VectorOp op f → PartOp p g → (x y : Term) → Fits (binary op x y) → Law x y (λ a b. f a b ≡ g a) → Keeps (binary op x y) (unary p x)
of_left_by {op} {f} {p} {g} o q x y fit law =
    let s = sides op sort.Vector (sort_of x) (sort_of y) o.pair fit.sorted in
    keeps_of_left op p x y fit.leaves (sort_of_part q x s.width s.left ∙ sym s.all) (λ values v h k.
    let a = word_of x s.width values s.left fit.leaves.0 v h in
    let b = word_of y s.width values s.right fit.leaves.1 v k in
    q.gives (meaning x values) ∙ (sym (ap Vector (law values (are_words a b))) ∙ sym (o.gives (meaning x values) (meaning y values))))

pub of_right_by : {op : Binary} {f : BitVector → BitVector → BitVector} {p : Unary} {g : BitVector → BitVector} → VectorOp op f → PartOp p g → (x y : Term) → Fits (binary op x y) → Law x y (λ a b. f a b ≡ g b) → Keeps (binary op x y) (unary p y)
of_right_by {op} {f} {p} {g} o q x y fit law =
    let s = sides op sort.Vector (sort_of x) (sort_of y) o.pair fit.sorted in
    keeps_of_right op p x y fit.leaves (sort_of_part q y s.width s.right ∙ sym s.all) (λ values v h k.
    let a = word_of x s.width values s.left fit.leaves.0 v h in
    let b = word_of y s.width values s.right fit.leaves.1 v k in
    q.gives (meaning y values) ∙ (sym (ap Vector (law values (are_words a b))) ∙ sym (o.gives (meaning x values) (meaning y values))))

same_where : (w : ℕ) → (if w == w then Some (sort.Vector w) else None) ≡ Some (sort.Vector w)
same_where w = equal_some w w (sort.Vector w) (given (w == w) (number_itself w))
  where
    given : (b : Bool) → b ≡ true → IsSome (if b then Some (sort.Vector w) else None)
    given true e = refl
    given false e = cc

pub masked_by : {op : Binary} {f : BitVector → BitVector → BitVector} → VectorOp op f → (x y : Term) (n : ℕ) → Fits (binary op x y)
    → Law x y (λ a b. f a b ≡ is.bitwise_and a (of_number a.width n)) → Keeps (binary op x y) (binary on.And x (number_like x n))
masked_by {op} {f} o x y n fit law =
    let s = sides op sort.Vector (sort_of x) (sort_of y) o.pair fit.sorted in
    let within = vector_within x s.width s.left in
    let mask : sort_of (constant (of_number s.width n)) ≡ Some (sort.Vector s.width) = vectors_is s.width within.0 within.1 in
    keeps_masked op x y s.width n fit.leaves s.left s.all (ap (λ r. option_and_then (λ t. option_and_then (binary_sort on.And t) (sort_of (constant (of_number s.width n)))) r) s.left ∙ (ap (option_and_then (binary_sort on.And (sort.Vector s.width))) mask ∙ same_where s.width)) (λ values v h k.
    let a = word_of x s.width values s.left fit.leaves.0 v h in
    let b = word_of y s.width values s.right fit.leaves.1 v k in
    ap (λ w. Vector (is.bitwise_and (vector (meaning x values)) (of_number w n))) (sym a.width_is) ∙ (sym (ap Vector (law values (are_words a b))) ∙ sym (o.gives (meaning x values) (meaning y values))))

-- one part
part_sort : {p : Unary} {g : BitVector → BitVector} → PartOp p g → (o : Option Sort) → IsSome (option_and_then (unary_sort p) o) → (w : ℕ) × (o ≡ Some (sort.Vector w))
part_sort {p} q None h = cc
part_sort {p} q (Some sort.Truth) h = (let i : IsSome {T = Sort} None = rw q.truths at h in cc)
part_sort {p} q (Some (sort.Vector w)) h = (w, refl)

pub part_known : (p : Unary) (g : BitVector → BitVector) (x : Term) (w : ℕ) → ((a : Val) → unary_value p a ≡ Vector (g (vector a))) → LeavesFit x → sort_of x ≡ Some (sort.Vector w) → sort_of (unary p x) ≡ Some (sort.Vector w)
    → ((a : BitVector) → IsBitVector a → a.width ≡ w → g a ≡ a) → Keeps (unary p x) x
part_known p g x w gives l s t law = keeps_part p x l (s ∙ sym t) (λ values v h.
    let a = word_of x w values s l v h in
    a.is ∙ (sym (ap Vector (law (vector (meaning x values)) a.fits a.width_is)) ∙ sym (gives (meaning x values))))

pub part_by : {p : Unary} {g : BitVector → BitVector} → PartOp p g → (x : Term) → Fits (unary p x) → ((a : BitVector) → IsBitVector a → sort_of x ≡ Some (sort.Vector a.width) → g a ≡ a) → Keeps (unary p x) x
part_by {p} {g} q x fit law =
    let s = part_sort q (sort_of x) fit.sorted in
    part_known p g x s.0 q.gives fit.leaves s.1 (sort_of_part q x s.0 s.1) (λ a f e. law a f (s.1 ∙ ap (λ n. Some (sort.Vector n)) (sym e)))

pub part_number_by : {p : Unary} {g : BitVector → BitVector} → PartOp p g → (x : Term) (n : ℕ) → Fits (unary p x) → ((a : BitVector) → IsBitVector a → sort_of x ≡ Some (sort.Vector a.width) → g a ≡ of_number a.width n) → Keeps (unary p x) (number_like x n)
part_number_by {p} {g} q x n fit law =
    let s = part_sort q (sort_of x) fit.sorted in
    keeps_number (unary p x) x s.0 n s.1 (sort_of_part q x s.0 s.1) (λ values v h.
    let a = word_of x s.0 values s.1 fit.leaves v h in
    ap (λ w. Vector (of_number w n)) (sym a.width_is) ∙ (sym (ap Vector (law (vector (meaning x values)) a.fits (s.1 ∙ ap (λ m. Some (sort.Vector m)) (sym a.width_is)))) ∙ sym (q.gives (meaning x values))))
