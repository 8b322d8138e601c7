-- The sorts and the values of terms: widths of 1 to 128, and vectors of those widths.
use Rattle.std.proofs.Common.{◌≡◌, ℕ, zero, suc, ◌+◌, ◌≤◌, Bool, true, false, ◌&&◌, List, [], ◌∷◌, Option, Some, None, refl, sym, ◌∙◌, arith}
use Rattle.std.specs.Prelude.{◌==◌, nat_le, IsSome, if◌then◌else◌, option_and_then, option_map, slice_get, slice_index_or, All}
use Rattle.std.proofs.lemmas.Grind.{common_steps}
use Rattle.std.proofs.lemmas.Bool.{eqb-true}
use Rattle.std.proofs.lemmas.List.Elements.{All-head, All-tail}
use Rattle.bv_value.specs.BitVector.{BitVector, IsBitVector}
use Rattle.bv_value.proofs.Results.{reduced_fits, whole_fits, not_fits, and_fits, or_fits, xor_fits, udiv_fits, umod_fits, lshr_fits, rotl_fits, rotr_fits, sdiv_fits, srem_fits, smod_fits, append_fits}
use Rattle.bv_expr.specs.declared.ops.Unary.{Unary}
use Rattle.bv_expr.specs.declared.ops.Unary.TheVariants as of
use Rattle.bv_expr.specs.declared.ops.Binary.{Binary}
use Rattle.bv_expr.specs.declared.ops.Binary.TheVariants as on
use Rattle.bv_expr.specs.declared.ops.Sort.{Sort}
use Rattle.bv_expr.specs.declared.ops.Sort.TheVariants as sort
use Rattle.bv_expr.specs.declared.ops.Val.{Val}
use Rattle.bv_expr.specs.declared.ops.Val.TheVariants.{Truth, Vector}
use Rattle.bv_expr.specs.Term.{Term, constant, variable, truth, truth_variable, unary, binary, choice, truth_choice}
use Rattle.bv_expr.specs.Sorts.{vectors, where_equal, unary_sort, vector_sort, truth_sort, binary_sort, choice_sort, truth_choice_sort, sort_of, LeavesFit}
use Rattle.bv_expr.specs.Meaning.{sort_of_value, vector, is_true, unary_value, binary_value, meaning, HasValues}
use Rattle.bv_expr.specs.Goal.{IsValue}
use Rattle.bv_expr.proofs.Sorted.{meaning_sorted, unary_fits, binary_fits}

-- a width, where it is one, is 1 to 128
abbrev pub Within : Option Sort → Type 0
Within None = Unit {0}
Within (Some sort.Truth) = Unit {0}
Within (Some (sort.Vector w)) = (1 ≤ w) × (w ≤ 128)

where_within : (b : Bool) (s : Sort) → (b ≡ true → Within (Some s)) → Within (if b then Some s else None)
where_within true s h = h refl
where_within false s h = tt

width_within : (w : ℕ) → nat_le 1 w && nat_le w 128 ≡ true → (1 ≤ w) × (w ≤ 128)
width_within w e = (grind (arith, common_steps), grind (arith, common_steps))

vectors_within : (w : ℕ) → Within (vectors w)
vectors_within w = where_within (nat_le 1 w && nat_le w 128) (sort.Vector w) (width_within w)

equal_within : (v w : ℕ) (s : Sort) → Within (Some s) → Within (where_equal v w s)
equal_within v w s h = where_within (v == w) s (λ e. h)

unary_within : (op : Unary) (o : Option Sort) → Within o → Within (option_and_then (unary_sort op) o)
unary_within op None h = tt
unary_within of.TNot (Some sort.Truth) h = tt
unary_within op (Some sort.Truth) h = tt
unary_within of.Msb (Some (sort.Vector w)) h = tt
unary_within of.TNot (Some (sort.Vector w)) h = tt
unary_within (of.Bit i) (Some (sort.Vector w)) h = tt
unary_within (of.Extract start len) (Some (sort.Vector w)) h = vectors_within len
unary_within (of.SetWidth v) (Some (sort.Vector w)) h = vectors_within v
unary_within (of.SignExtend v) (Some (sort.Vector w)) h = vectors_within v
unary_within op (Some (sort.Vector w)) h = h

truths_within : (op : Binary) → Within (truth_sort op)
truths_within on.TAnd = tt
truths_within on.TOr = tt
truths_within on.TXor = tt
truths_within on.Implies = tt
truths_within on.TEq = tt
truths_within op = tt

words_within : (op : Binary) (v w : ℕ) → Within (Some (sort.Vector v)) → Within (vector_sort op v w)
words_within on.And v w h = equal_within v w (sort.Vector v) h
words_within on.Or v w h = equal_within v w (sort.Vector v) h
words_within on.Xor v w h = equal_within v w (sort.Vector v) h
words_within on.Add v w h = equal_within v w (sort.Vector v) h
words_within on.Sub v w h = equal_within v w (sort.Vector v) h
words_within on.Mul v w h = equal_within v w (sort.Vector v) h
words_within on.Udiv v w h = equal_within v w (sort.Vector v) h
words_within on.Umod v w h = equal_within v w (sort.Vector v) h
words_within on.Sdiv v w h = equal_within v w (sort.Vector v) h
words_within on.Srem v w h = equal_within v w (sort.Vector v) h
words_within on.Smod v w h = equal_within v w (sort.Vector v) h
words_within on.Append v w h = vectors_within (v + w)
words_within on.Shl v w h = h
words_within on.Lshr v w h = h
words_within on.Ashr v w h = h
words_within on.Eq v w h = equal_within v w sort.Truth tt
words_within on.Ult v w h = equal_within v w sort.Truth tt
words_within on.Ule v w h = equal_within v w sort.Truth tt
words_within on.Slt v w h = equal_within v w sort.Truth tt
words_within on.Sle v w h = equal_within v w sort.Truth tt
words_within op v w h = tt

binary_within : (op : Binary) (o p : Option Sort) → Within o → Within (option_and_then (λ s. option_and_then (binary_sort op s) p) o)
binary_within op None p h = tt
binary_within op (Some s) None h = tt
binary_within op (Some sort.Truth) (Some sort.Truth) h = truths_within op
binary_within op (Some sort.Truth) (Some (sort.Vector w)) h = tt
binary_within op (Some (sort.Vector v)) (Some sort.Truth) h = tt
binary_within op (Some (sort.Vector v)) (Some (sort.Vector w)) h = words_within op v w h

choice_within : (o p q : Option Sort) → Within p → Within (option_and_then (λ r. option_and_then (λ s. option_and_then (choice_sort r s) q) p) o)
choice_within None p q h = tt
choice_within (Some r) None q h = tt
choice_within (Some r) (Some s) None h = tt
choice_within (Some sort.Truth) (Some (sort.Vector v)) (Some (sort.Vector w)) h = equal_within v w (sort.Vector v) h
choice_within (Some sort.Truth) (Some sort.Truth) (Some t) h = tt
choice_within (Some sort.Truth) (Some (sort.Vector v)) (Some sort.Truth) h = tt
choice_within (Some (sort.Vector u)) (Some s) (Some t) h = tt

truth_choice_within : (o p q : Option Sort) → Within (option_and_then (λ r. option_and_then (λ s. option_and_then (truth_choice_sort r s) q) p) o)
truth_choice_within None p q = tt
truth_choice_within (Some r) None q = tt
truth_choice_within (Some r) (Some s) None = tt
truth_choice_within (Some sort.Truth) (Some sort.Truth) (Some sort.Truth) = tt
truth_choice_within (Some sort.Truth) (Some sort.Truth) (Some (sort.Vector w)) = tt
truth_choice_within (Some sort.Truth) (Some (sort.Vector v)) (Some t) = tt
truth_choice_within (Some (sort.Vector u)) (Some s) (Some t) = tt

pub sort_within : (t : Term) → Within (sort_of t)
sort_within (constant v) = vectors_within v.width
sort_within (variable k w) = vectors_within w
sort_within (truth b) = tt
sort_within (truth_variable k) = tt
sort_within (unary op x) = unary_within op (sort_of x) (sort_within x)
sort_within (binary op x y) = binary_within op (sort_of x) (sort_of y) (sort_within x)
sort_within (choice c x y) = choice_within (sort_of c) (sort_of x) (sort_of y) (sort_within x)
sort_within (truth_choice c x y) = truth_choice_within (sort_of c) (sort_of x) (sort_of y)

pub vector_within : (t : Term) (w : ℕ) → sort_of t ≡ Some (sort.Vector w) → (1 ≤ w) × (w ≤ 128)
vector_within t w e = (let h = sort_within t in rw e at h)

-- values
pub len_within : (w : ℕ) → IsSome (vectors w) → (1 ≤ w) × (w ≤ 128)
len_within w h = given (nat_le 1 w && nat_le w 128) (width_within w) h
  where
    given : (b : Bool) → (b ≡ true → (1 ≤ w) × (w ≤ 128)) → IsSome (if b then Some (sort.Vector w) else None) → (1 ≤ w) × (w ≤ 128)
    given true f h = f refl
    given false f h = cc

unary_value_fits : (op : Unary) (a : Val) → IsSome (unary_sort op (sort_of_value a)) → IsValue a → IsValue (unary_value op a)
unary_value_fits of.TNot a h v = tt
unary_value_fits of.Msb a h v = tt
unary_value_fits (of.Bit i) a h v = tt
unary_value_fits op (Truth b) h v = cc
unary_value_fits of.Not (Vector x) h v = not_fits x v
unary_value_fits of.Neg (Vector x) h v = reduced_fits x.width _ v.positive v.at_most_128
unary_value_fits (of.ShlBy n) (Vector x) h v = reduced_fits x.width _ v.positive v.at_most_128
unary_value_fits (of.LshrBy n) (Vector x) h v = lshr_fits x n v
unary_value_fits (of.AshrBy n) (Vector x) h v = whole_fits x.width _ v.positive v.at_most_128
unary_value_fits (of.RotL n) (Vector x) h v = rotl_fits x n v
unary_value_fits (of.RotR n) (Vector x) h v = rotr_fits x n v
unary_value_fits (of.Extract start len) (Vector x) h v = (let l = len_within len h in reduced_fits len _ l.0 l.1)
unary_value_fits (of.SetWidth w) (Vector x) h v = (let l = len_within w h in reduced_fits w _ l.0 l.1)
unary_value_fits (of.SignExtend w) (Vector x) h v = (let l = len_within w h in whole_fits w _ l.0 l.1)

pub widths_equal : (v w : ℕ) (s : Sort) → IsSome (where_equal v w s) → v ≡ w
widths_equal v w s h = given (v == w) (eqb-true v w) h
  where
    given : (b : Bool) → (b ≡ true → v ≡ w) → IsSome (if b then Some s else None) → v ≡ w
    given true f h = f refl
    given false f h = cc

words_value_fits : (op : Binary) (x y : BitVector) → IsSome (vector_sort op x.width y.width) → IsBitVector x → IsBitVector y → IsValue (binary_value op (Vector x) (Vector y))
words_value_fits on.And x y h v w = and_fits x y v (widths_equal x.width y.width (sort.Vector x.width) h)
words_value_fits on.Or x y h v w = or_fits x y v (widths_equal x.width y.width (sort.Vector x.width) h)
words_value_fits on.Xor x y h v w = xor_fits x y v (widths_equal x.width y.width (sort.Vector x.width) h)
words_value_fits on.Add x y h v w = reduced_fits x.width _ v.positive v.at_most_128
words_value_fits on.Sub x y h v w = reduced_fits x.width _ v.positive v.at_most_128
words_value_fits on.Mul x y h v w = reduced_fits x.width _ v.positive v.at_most_128
words_value_fits on.Udiv x y h v w = udiv_fits x y v
words_value_fits on.Umod x y h v w = umod_fits x y v
words_value_fits on.Sdiv x y h v w = sdiv_fits x y v
words_value_fits on.Srem x y h v w = srem_fits x y v
words_value_fits on.Smod x y h v w = smod_fits x y v
words_value_fits on.Append x y h v w = append_fits x y v w (len_within (x.width + y.width) h).1
words_value_fits on.Shl x y h v w = reduced_fits x.width _ v.positive v.at_most_128
words_value_fits on.Lshr x y h v w = lshr_fits x y.number v
words_value_fits on.Ashr x y h v w = whole_fits x.width _ v.positive v.at_most_128
words_value_fits on.Eq x y h v w = tt
words_value_fits on.Ult x y h v w = tt
words_value_fits on.Ule x y h v w = tt
words_value_fits on.Slt x y h v w = tt
words_value_fits on.Sle x y h v w = tt
words_value_fits on.TAnd x y h v w = tt
words_value_fits on.TOr x y h v w = tt
words_value_fits on.TXor x y h v w = tt
words_value_fits on.Implies x y h v w = tt
words_value_fits on.TEq x y h v w = tt

truths_value_fits : (op : Binary) (a b : Bool) → IsSome (truth_sort op) → IsValue (binary_value op (Truth a) (Truth b))
truths_value_fits on.TAnd a b h = tt
truths_value_fits on.TOr a b h = tt
truths_value_fits on.TXor a b h = tt
truths_value_fits on.Implies a b h = tt
truths_value_fits on.TEq a b h = tt
truths_value_fits op a b h = cc

binary_value_fits : (op : Binary) (a b : Val) → IsSome (binary_sort op (sort_of_value a) (sort_of_value b)) → IsValue a → IsValue b → IsValue (binary_value op a b)
binary_value_fits op (Truth a) (Truth b) h v w = truths_value_fits op a b h
binary_value_fits op (Truth a) (Vector y) h v w = cc
binary_value_fits op (Vector x) (Truth b) h v w = cc
binary_value_fits op (Vector x) (Vector y) h v w = words_value_fits op x y h v w

value_fits : (values : List Val) (k : ℕ) (d : Val) (s : Sort) → option_map sort_of_value (slice_get values k) ≡ Some s → All IsValue values → IsValue (slice_index_or values k d)
value_fits [] k d s e h = cc
value_fits (v ∷ vs) zero d s e h = All-head IsValue v vs h
value_fits (v ∷ vs) (suc k) d s e h = value_fits vs k d s e (All-tail IsValue v vs h)

one_fits : (b : Bool) (a d : Val) → IsValue a → IsValue d → IsValue (if b then a else d)
one_fits true a d v w = v
one_fits false a d v w = w

pub unary_part : (op : Unary) (o : Option Sort) → IsSome (option_and_then (unary_sort op) o) → IsSome o
unary_part op None h = cc
unary_part op (Some s) h = refl

pub binary_left : (op : Binary) (o p : Option Sort) → IsSome (option_and_then (λ s. option_and_then (binary_sort op s) p) o) → IsSome o
binary_left op None p h = cc
binary_left op (Some s) p h = refl

pub binary_right : (op : Binary) (o p : Option Sort) → IsSome (option_and_then (λ s. option_and_then (binary_sort op s) p) o) → IsSome p
binary_right op None p h = cc
binary_right op (Some s) None h = cc
binary_right op (Some s) (Some t) h = refl

pub three_first : (f : Sort → Sort → Sort → Option Sort) (o p q : Option Sort) → IsSome (option_and_then (λ r. option_and_then (λ s. option_and_then (f r s) q) p) o) → IsSome o
three_first f None p q h = cc
three_first f (Some r) p q h = refl

pub three_second : (f : Sort → Sort → Sort → Option Sort) (o p q : Option Sort) → IsSome (option_and_then (λ r. option_and_then (λ s. option_and_then (f r s) q) p) o) → IsSome p
three_second f None p q h = cc
three_second f (Some r) None q h = cc
three_second f (Some r) (Some s) q h = refl

pub three_third : (f : Sort → Sort → Sort → Option Sort) (o p q : Option Sort) → IsSome (option_and_then (λ r. option_and_then (λ s. option_and_then (f r s) q) p) o) → IsSome q
three_third f None p q h = cc
three_third f (Some r) None q h = cc
three_third f (Some r) (Some s) None h = cc
three_third f (Some r) (Some s) (Some t) h = refl

-- the meaning of a term is a truth or a bit vector
pub meaning_fits : (t : Term) (values : List Val) → IsSome (sort_of t) → LeavesFit t → All IsValue values → HasValues values t → IsValue (meaning t values)
meaning_fits (constant v) values h l f has = l
meaning_fits (variable k w) values h l f has = value_fits values k _ (sort.Vector w) has f
meaning_fits (truth b) values h l f has = tt
meaning_fits (truth_variable k) values h l f has = value_fits values k _ sort.Truth has f
meaning_fits (unary op x) values h l f has =
    unary_value_fits op (meaning x values) (unary_fits op x values h has) (meaning_fits x values (unary_part op (sort_of x) h) l f has)
meaning_fits (binary op x y) values h l f has =
    binary_value_fits op (meaning x values) (meaning y values) (binary_fits op x y values h has.0 has.1)
    (meaning_fits x values (binary_left op (sort_of x) (sort_of y) h) l.0 f has.0) (meaning_fits y values (binary_right op (sort_of x) (sort_of y) h) l.1 f has.1)
meaning_fits (choice c x y) values h l f has =
    one_fits (is_true (meaning c values)) (meaning x values) (meaning y values)
    (meaning_fits x values (three_second choice_sort (sort_of c) (sort_of x) (sort_of y) h) l.1 f has.1) (meaning_fits y values (three_third choice_sort (sort_of c) (sort_of x) (sort_of y) h) l.2 f has.2)
meaning_fits (truth_choice c x y) values h l f has =
    one_fits (is_true (meaning c values)) (meaning x values) (meaning y values)
    (meaning_fits x values (three_second truth_choice_sort (sort_of c) (sort_of x) (sort_of y) h) l.1 f has.1) (meaning_fits y values (three_third truth_choice_sort (sort_of c) (sort_of x) (sort_of y) h) l.2 f has.2)

-- a vector of this width
pub record Word (w : ℕ) (v : Val) : Type 0 where
  pub is : v ≡ Vector (vector v)
  pub width_is : (vector v).width ≡ w
  pub fits : IsBitVector (vector v)

word_at : (w : ℕ) (v : Val) → Some (sort.Vector w) ≡ Some (sort_of_value v) → IsValue v → Word w v
word_at w (Truth b) e h = cc
word_at w (Vector x) e h = record { is = refl; width_is = cc; fits = h }

pub word_of : (t : Term) (w : ℕ) (values : List Val) → sort_of t ≡ Some (sort.Vector w) → LeavesFit t → All IsValue values → HasValues values t → Word w (meaning t values)
word_of t w values e l f has =
    let some : IsSome (sort_of t) = rw e refl in
    word_at w (meaning t values) (sym e ∙ meaning_sorted t values some has) (meaning_fits t values some l f has)
