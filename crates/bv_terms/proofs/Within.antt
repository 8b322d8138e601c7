-- The sort of a term keeps to widths of 1 to 128.
use Rattle.std.proofs.Common.{◌≡◌, ℕ, ◌+◌, ◌≤◌, Bool, true, false, ◌&&◌, Option, Some, None, refl, arith}
use Rattle.std.specs.Prelude.{◌==◌, nat_le, if◌then◌else◌, option_and_then}
use Rattle.std.proofs.lemmas.Grind.{common_steps}
use Rattle.bv_expr.specs.declared.ops.Unary.{Unary}
use Rattle.bv_expr.specs.declared.ops.Unary.TheVariants as of
use Rattle.bv_expr.specs.declared.ops.Binary.{Binary}
use Rattle.bv_expr.specs.declared.ops.Binary.TheVariants as on
use Rattle.bv_expr.specs.declared.ops.Sort.{Sort}
use Rattle.bv_expr.specs.declared.ops.Sort.TheVariants as sort
use Rattle.bv_expr.specs.Term.{Term, constant, variable, truth, truth_variable, unary, binary, choice, truth_choice}
use Rattle.bv_expr.specs.Sorts.{vectors, where_equal, unary_sort, vector_sort, truth_sort, binary_sort, choice_sort, truth_choice_sort, sort_of}

-- a width, where it is one, is 1 to 128
abbrev pub Within : Option Sort → Type 0
Within None = Unit {0}
Within (Some sort.Truth) = Unit {0}
Within (Some (sort.Vector w)) = (1 ≤ w) × (w ≤ 128)

where_within : (b : Bool) (s : Sort) → (b ≡ true → Within (Some s)) → Within (if b then Some s else None)
where_within true s h = h refl
where_within false s h = tt

width_within : (w : ℕ) → nat_le 1 w && nat_le w 128 ≡ true → (1 ≤ w) × (w ≤ 128)
width_within w e = (grind (arith, common_steps), grind (arith, common_steps))

pub vectors_within : (w : ℕ) → Within (vectors w)
vectors_within w = where_within (nat_le 1 w && nat_le w 128) (sort.Vector w) (width_within w)

equal_within : (v w : ℕ) (s : Sort) → Within (Some s) → Within (where_equal v w s)
equal_within v w s h = where_within (v == w) s (λ e. h)

unary_within : (op : Unary) (o : Option Sort) → Within o → Within (option_and_then (unary_sort op) o)
unary_within op None h = tt
unary_within of.TNot (Some sort.Truth) h = tt
unary_within op (Some sort.Truth) h = tt
unary_within of.Msb (Some (sort.Vector w)) h = tt
unary_within of.TNot (Some (sort.Vector w)) h = tt
unary_within (of.Bit i) (Some (sort.Vector w)) h = tt
unary_within (of.Extract start len) (Some (sort.Vector w)) h = vectors_within len
unary_within (of.SetWidth v) (Some (sort.Vector w)) h = vectors_within v
unary_within (of.SignExtend v) (Some (sort.Vector w)) h = vectors_within v
unary_within op (Some (sort.Vector w)) h = h

truths_within : (op : Binary) → Within (truth_sort op)
truths_within on.TAnd = tt
truths_within on.TOr = tt
truths_within on.TXor = tt
truths_within on.Implies = tt
truths_within on.TEq = tt
truths_within op = tt

words_within : (op : Binary) (v w : ℕ) → Within (Some (sort.Vector v)) → Within (vector_sort op v w)
words_within on.And v w h = equal_within v w (sort.Vector v) h
words_within on.Or v w h = equal_within v w (sort.Vector v) h
words_within on.Xor v w h = equal_within v w (sort.Vector v) h
words_within on.Add v w h = equal_within v w (sort.Vector v) h
words_within on.Sub v w h = equal_within v w (sort.Vector v) h
words_within on.Mul v w h = equal_within v w (sort.Vector v) h
words_within on.Udiv v w h = equal_within v w (sort.Vector v) h
words_within on.Umod v w h = equal_within v w (sort.Vector v) h
words_within on.Sdiv v w h = equal_within v w (sort.Vector v) h
words_within on.Srem v w h = equal_within v w (sort.Vector v) h
words_within on.Smod v w h = equal_within v w (sort.Vector v) h
words_within on.Append v w h = vectors_within (v + w)
words_within on.Shl v w h = h
words_within on.Lshr v w h = h
words_within on.Ashr v w h = h
words_within on.Eq v w h = equal_within v w sort.Truth tt
words_within on.Ult v w h = equal_within v w sort.Truth tt
words_within on.Ule v w h = equal_within v w sort.Truth tt
words_within on.Slt v w h = equal_within v w sort.Truth tt
words_within on.Sle v w h = equal_within v w sort.Truth tt
words_within op v w h = tt

binary_within : (op : Binary) (o p : Option Sort) → Within o → Within (option_and_then (λ s. option_and_then (binary_sort op s) p) o)
binary_within op None p h = tt
binary_within op (Some s) None h = tt
binary_within op (Some sort.Truth) (Some sort.Truth) h = truths_within op
binary_within op (Some sort.Truth) (Some (sort.Vector w)) h = tt
binary_within op (Some (sort.Vector v)) (Some sort.Truth) h = tt
binary_within op (Some (sort.Vector v)) (Some (sort.Vector w)) h = words_within op v w h

choice_within : (o p q : Option Sort) → Within p → Within (option_and_then (λ r. option_and_then (λ s. option_and_then (choice_sort r s) q) p) o)
choice_within None p q h = tt
choice_within (Some r) None q h = tt
choice_within (Some r) (Some s) None h = tt
choice_within (Some sort.Truth) (Some (sort.Vector v)) (Some (sort.Vector w)) h = equal_within v w (sort.Vector v) h
choice_within (Some sort.Truth) (Some sort.Truth) (Some t) h = tt
choice_within (Some sort.Truth) (Some (sort.Vector v)) (Some sort.Truth) h = tt
choice_within (Some (sort.Vector u)) (Some s) (Some t) h = tt

truth_choice_within : (o p q : Option Sort) → Within (option_and_then (λ r. option_and_then (λ s. option_and_then (truth_choice_sort r s) q) p) o)
truth_choice_within None p q = tt
truth_choice_within (Some r) None q = tt
truth_choice_within (Some r) (Some s) None = tt
truth_choice_within (Some sort.Truth) (Some sort.Truth) (Some sort.Truth) = tt
truth_choice_within (Some sort.Truth) (Some sort.Truth) (Some (sort.Vector w)) = tt
truth_choice_within (Some sort.Truth) (Some (sort.Vector v)) (Some t) = tt
truth_choice_within (Some (sort.Vector u)) (Some s) (Some t) = tt

pub sort_within : (t : Term) → Within (sort_of t)
sort_within (constant v) = vectors_within v.width
sort_within (variable k w) = vectors_within w
sort_within (truth b) = tt
sort_within (truth_variable k) = tt
sort_within (unary op x) = unary_within op (sort_of x) (sort_within x)
sort_within (binary op x y) = binary_within op (sort_of x) (sort_of y) (sort_within x)
sort_within (choice c x y) = choice_within (sort_of c) (sort_of x) (sort_of y) (sort_within x)
sort_within (truth_choice c x y) = truth_choice_within (sort_of c) (sort_of x) (sort_of y)

pub vector_within : (t : Term) (w : ℕ) → sort_of t ≡ Some (sort.Vector w) → (1 ≤ w) × (w ≤ 128)
vector_within t w e = (let h = sort_within t in rw e at h)
