-- The rules on shifts and rotations, and on widths, keep sort, depth and meaning.
use Rattle.std.proofs.Common.{◌≡◌, ℕ, ◌%◌, ◌≤◌, Bool, true, ◌&&◌, Option, Some, None, refl, sym, ◌∙◌, ap, arith}
use Rattle.std.specs.Prelude.{◌==◌, nat_le, IsSome, option_and_then, option_map}
use Rattle.std.proofs.lemmas.Grind.{common_steps}
use Rattle.std.proofs.lemmas.Bool.{eqb-true}
use Rattle.bv_value.specs.BitVector.{BitVector, IsBitVector, of_number}
use Rattle.bv_value.specs.Operations as is
use Rattle.bv_expr.specs.declared.ops.Unary.{Unary}
use Rattle.bv_expr.specs.declared.ops.Unary.TheVariants as of
use Rattle.bv_expr.specs.declared.ops.Binary.{Binary}
use Rattle.bv_expr.specs.declared.ops.Binary.TheVariants as on
use Rattle.bv_expr.specs.declared.ops.Sort.{Sort}
use Rattle.bv_expr.specs.declared.ops.Sort.TheVariants as sort
use Rattle.bv_expr.specs.declared.ops.Val.{Val}
use Rattle.bv_expr.specs.declared.ops.Val.TheVariants.{Vector}
use Rattle.bv_expr.specs.Term.{Term, unary, binary}
use Rattle.bv_expr.specs.Sorts.{sort_of, unary_sort, binary_sort}
use Rattle.bv_expr.specs.Meaning.{vector, unary_value, binary_value, meaning}
use Rattle.bv_normal.specs.Constants.{number, width, number_like}
use Rattle.bv_normal.specs.Fitting.{gives}
use Rattle.bv_normal.specs.Shifts.{shift_by_constant, shift_by_nothing, shift_past_width}
use Rattle.bv_normal.specs.Widths.{same_width}
use Rattle.bv_normal.proofs.Laws as law
use Rattle.bv_normal.proofs.Equality.{both}
use Rattle.bv_normal.proofs.Sorting.{vector_within}
use Rattle.bv_normal.proofs.Knowing.{number_is, given, mapped}
use Rattle.bv_normal.proofs.Keeping.{Keeps, Fits, Safe, keeps_of_left, vectors_is, width_known}
use Rattle.bv_normal.proofs.Operators.{PartOp, part_by, part_number_by, part_known, shl_by, lshr_by, ashr_by, rotl, rotr}

-- a shift by a vector, and the shift by its number
record ShiftOp (op : Binary) (p : ℕ → Unary) (g : BitVector → ℕ → BitVector) : Type 0 where
  sorts : (v w : ℕ) → binary_sort op (sort.Vector v) (sort.Vector w) ≡ Some (sort.Vector v)
  truths : binary_sort op sort.Truth sort.Truth ≡ None
  part : (n : ℕ) → PartOp (p n) (λ x. g x n)
  gives : (a b : Val) → binary_value op a b ≡ Vector (g (vector a) (vector b).number)

shift_sort : {op : Binary} {p : ℕ → Unary} {g : BitVector → ℕ → BitVector} → ShiftOp op p g → (n : ℕ) (o q : Option Sort) → IsSome (option_and_then (λ s. option_and_then (binary_sort op s) q) o)
    → option_and_then (unary_sort (p n)) o ≡ option_and_then (λ s. option_and_then (binary_sort op s) q) o
shift_sort r n None q h = cc
shift_sort r n (Some s) None h = cc
shift_sort r n (Some sort.Truth) (Some sort.Truth) h = (let i : IsSome {T = Sort} None = rw r.truths at h in cc)
shift_sort r n (Some sort.Truth) (Some (sort.Vector w)) h = cc
shift_sort r n (Some (sort.Vector v)) (Some sort.Truth) h = cc
shift_sort r n (Some (sort.Vector v)) (Some (sort.Vector w)) h = (r.part n).sorts v ∙ sym (r.sorts v w)

shift_by : {op : Binary} {p : ℕ → Unary} {g : BitVector → ℕ → BitVector} → ShiftOp op p g → (x y u : Term) → Fits (binary op x y) → option_map (λ n. unary (p n) x) (number y) ≡ Some u → Keeps (binary op x y) u
shift_by {op} {p} {g} r x y u fit e =
    let m = mapped (λ n. unary (p n) x) (number y) u e in
    rw (← m.2) (keeps_of_left op (p m.0) x y fit.leaves (shift_sort r m.0 (sort_of x) (sort_of y) fit.sorted)
    (λ values v h k. (r.part m.0).gives (meaning x values) ∙ (ap (λ n. Vector (g (vector (meaning x values)) n)) (sym (number_is y m.0 values m.1)) ∙ sym (r.gives (meaning x values) (meaning y values)))))

pub shift_by_constant_safe : Safe shift_by_constant
unfolding shift_by_constant
shift_by_constant_safe (binary on.Shl x y) u fit e = shift_by {g = is.shl_by} (record { sorts = λ v w. refl; truths = refl; part = shl_by; gives = λ a b. refl }) x y u fit e
shift_by_constant_safe (binary on.Lshr x y) u fit e = shift_by {g = is.lshr_by} (record { sorts = λ v w. refl; truths = refl; part = lshr_by; gives = λ a b. refl }) x y u fit e
shift_by_constant_safe (binary on.Ashr x y) u fit e = shift_by {g = is.ashr_by} (record { sorts = λ v w. refl; truths = refl; part = ashr_by; gives = λ a b. refl }) x y u fit e
shift_by_constant_safe t u fit e = cc

nothing : {p : Unary} {g : BitVector → BitVector} → PartOp p g → (x u : Term) (b : Bool) → Fits (unary p x) → gives b x ≡ Some u → (b ≡ true → (a : BitVector) → IsBitVector a → sort_of x ≡ Some (sort.Vector a.width) → g a ≡ a) → Keeps (unary p x) u
nothing q x u b fit e l = let g = given b x u e in rw (← g.1) (part_by q x fit (l g.0))

by_zero : (g : BitVector → ℕ → BitVector) (n : ℕ) (a : BitVector) → (n == 0) ≡ true → g a 0 ≡ a → g a n ≡ a
by_zero g n a e h = ap (g a) (eqb-true n 0 e) ∙ h

full_turn : (n : ℕ) (x : Term) (a : BitVector) → (n % width x == 0) ≡ true → sort_of x ≡ Some (sort.Vector a.width) → n % a.width ≡ 0
full_turn n x a e s = ap (λ w. n % w) (sym (width_known x a.width s)) ∙ eqb-true (n % width x) 0 e

pub shift_by_nothing_safe : Safe shift_by_nothing
unfolding shift_by_nothing
shift_by_nothing_safe (unary (of.ShlBy n) x) u fit e = nothing (shl_by n) x u (n == 0) fit e (λ z a v s. by_zero is.shl_by n a z (law.shl_nothing a v))
shift_by_nothing_safe (unary (of.LshrBy n) x) u fit e = nothing (lshr_by n) x u (n == 0) fit e (λ z a v s. by_zero is.lshr_by n a z (law.lshr_nothing a))
shift_by_nothing_safe (unary (of.AshrBy n) x) u fit e = nothing (ashr_by n) x u (n == 0) fit e (λ z a v s. by_zero is.ashr_by n a z (law.ashr_nothing a v))
shift_by_nothing_safe (unary (of.RotL n) x) u fit e = nothing (rotl n) x u (n % width x == 0) fit e (λ z a v s. law.rotl_nothing a n v (full_turn n x a z s))
shift_by_nothing_safe (unary (of.RotR n) x) u fit e = nothing (rotr n) x u (n % width x == 0) fit e (λ z a v s. law.rotr_nothing a n (full_turn n x a z s))
shift_by_nothing_safe t u fit e = cc

past : {p : Unary} {g : BitVector → BitVector} → PartOp p g → (x u : Term) (n : ℕ) → Fits (unary p x) → gives (nat_le (width x) n) (number_like x 0) ≡ Some u → ((a : BitVector) → IsBitVector a → a.width ≤ n → g a ≡ of_number a.width 0) → Keeps (unary p x) u
past q x u n fit e l =
    let g = given (nat_le (width x) n) (number_like x 0) u e in
    rw (← g.1) (part_number_by q x 0 fit (λ a v s. l a v (at_least (width x) a.width n (width_known x a.width s) g.0)))
  where
    at_least : (v w n : ℕ) → v ≡ w → nat_le v n ≡ true → w ≤ n
    at_least v w n e h = grind (arith, common_steps)

pub shift_past_width_safe : Safe shift_past_width
unfolding shift_past_width
shift_past_width_safe (unary (of.ShlBy n) x) u fit e = past (shl_by n) x u n fit e (λ a v h. law.shl_past a n h)
shift_past_width_safe (unary (of.LshrBy n) x) u fit e = past (lshr_by n) x u n fit e (λ a v h. law.lshr_past a n v h)
shift_past_width_safe t u fit e = cc

-- an operator that sets the width to what it is
vector_part : (op : Unary) (o : Option Sort) → unary_sort op sort.Truth ≡ None → IsSome (option_and_then (unary_sort op) o) → (w : ℕ) × (o ≡ Some (sort.Vector w))
vector_part op None e h = cc
vector_part op (Some sort.Truth) e h = (let i : IsSome {T = Sort} None = rw e at h in cc)
vector_part op (Some (sort.Vector w)) e h = (w, refl)

unchanged : (op : Unary) (g : BitVector → BitVector) (x : Term) (v : ℕ) → Fits (unary op x) → unary_sort op sort.Truth ≡ None → v ≡ width x
    → ((w : ℕ) → v ≡ w → 1 ≤ w → w ≤ 128 → unary_sort op (sort.Vector w) ≡ Some (sort.Vector w)) → ((a : Val) → unary_value op a ≡ Vector (g (vector a))) → ((a : BitVector) → IsBitVector a → v ≡ a.width → g a ≡ a) → Keeps (unary op x) x
unchanged op g x v fit t e sorts gives l =
    let s = vector_part op (sort_of x) t fit.sorted in
    let known : v ≡ s.0 = e ∙ width_known x s.0 s.1 in
    let within = vector_within x s.0 s.1 in
    part_known op g x s.0 gives fit.leaves s.1 (ap (option_and_then (unary_sort op)) s.1 ∙ sorts s.0 known within.0 within.1) (λ a f w. l a f (known ∙ sym w))

pub same_width_safe : Safe same_width
unfolding same_width
same_width_safe (unary (of.SetWidth v) x) u fit e =
    let g = given (v == width x) x u e in
    rw (← g.1) (unchanged (of.SetWidth v) (λ a. is.set_width a v) x v fit refl (eqb-true v (width x) g.0) (λ w k one wide. rw k (vectors_is w one wide)) (λ a. refl) (λ a f k. ap (is.set_width a) k ∙ law.set_width_same a f))
same_width_safe (unary (of.SignExtend v) x) u fit e =
    let g = given (v == width x) x u e in
    rw (← g.1) (unchanged (of.SignExtend v) (λ a. is.sign_extend a v) x v fit refl (eqb-true v (width x) g.0) (λ w k one wide. rw k (vectors_is w one wide)) (λ a. refl) (λ a f k. ap (is.sign_extend a) k ∙ law.sign_extend_same a f))
same_width_safe (unary (of.Extract start len) x) u fit e =
    let g = given ((start == 0) && (len == width x)) x u e in
    let b = both (start == 0) (len == width x) g.0 in
    rw (← g.1) (unchanged (of.Extract start len) (λ a. is.extract a start len) x len fit refl (eqb-true len (width x) b.1) (λ w k one wide. rw k (vectors_is w one wide)) (λ a. refl)
    (λ a f k. ap (λ n. is.extract a n len) (eqb-true start 0 b.0) ∙ (ap (is.extract a 0) k ∙ law.extract_all a f)))
same_width_safe t u fit e = cc
