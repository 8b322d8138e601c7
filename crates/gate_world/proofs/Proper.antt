-- Each gate of a goal's script is that of a conjunction that isn't simple, with its fanins in the order of their keys: each
-- row writes its gates by conjunctions, which write such gates alone.
use Rattle.std.proofs.Common.{◌≡◌, ℕ, Bool, true, false, not, ◌&&◌, ◌||◌, List, [], ◌∷◌, ◌++◌, length, map, take, replicate, reverse, refl, sym, ap, ◌∙◌, subst, arith, true≢false, nat_eq, nat_lt, if◌then◌else◌, Option, Some, None, All}
use Rattle.std.specs.Prelude.{◌^◌, ◌-◌}
use Rattle.std.specs.List.{zip, enumerate_from}
use Rattle.std.proofs.lemmas.Grind.{common_steps}
use Rattle.std.proofs.lemmas.List.Elements.{All-nil, All-cons, All-append, All-head, All-tail}
use Rattle.gate_shape.specs.Edge.{Edge, Gate, constant, input, gate, invert, same, simplified, ordered, key_below, level, leaf_number}
use Rattle.gate_shape.specs.Row.{Row, plain, ◌>>=◌, written, both, either, differ, choice, full_adder, along, gather, each_onto}
use Rattle.gate_shape.proofs.Sameness.{same-eq, same-self}
use Rattle.bv_expr.specs.declared.ops.Unary.{Unary}
use Rattle.bv_expr.specs.declared.ops.Unary.TheVariants as of
use Rattle.bv_expr.specs.declared.ops.Binary.{Binary}
use Rattle.bv_expr.specs.declared.ops.Binary.TheVariants as on
use Rattle.bv_expr.specs.Term.{Term, constant as vector, variable, truth, truth_variable, unary, binary, choice as vector_choice, truth_choice}
use Rattle.blast_logic.specs.Truths.{equivalence, implication}
use Rattle.blast_logic.specs.Words.{bit_at, top_bit}
use Rattle.blast_logic.specs.Vectors.{pairwise}
use Rattle.blast_logic.specs.Chosen.{chosen, masked}
use Rattle.blast_arith.specs.Sums.{add_bit, adder, difference, negative}
use Rattle.blast_arith.specs.Comparisons.{equal_bit, equal, less, at_most, with_top, signed_less, signed_at_most}
use Rattle.blast_mul.specs.Product.{partial_product, add_partial, product}
use Rattle.blast_div.specs.Division.{negated_divisor, divide_step, divide_bit, division, zero_bit, zero_test, quotient, remainder}
use Rattle.blast_div.specs.Signed.{negated_where, magnitude, signed_quotient, magnitude_remainder, signed_remainder, signed_modulus}
use Rattle.blast_shift.specs.Wires.{shifted_left, shifted_right, shifted_right_signed}
use Rattle.blast_shift.specs.Stages.{stage, stages, or_overflow, overflow, variable_shift, variable_shift_signed}
use Rattle.bv_normal.specs.Normal.{normal}
use Rattle.blast_goal.specs.Circuit.{truth_of, single, unary_row, sum, binary_row, circuit, truth_row, and_hypothesis, all_hypotheses, and_not_conclusion, falsifying_row, goal_row}
use Rattle.gate_world.specs.Coding.{IsProper}

-- ---- one conjunction

false_by : (b : Bool) → (b ≡ true → ⊥) → b ≡ false
false_by true h = absurd (h refl)
false_by false h = refl

same_turned : (a b : Edge) → same a b ≡ true → same b a ≡ true
same_turned a b h = subst (λ x. same x a ≡ true) (same-eq a b h) (same-self a)

other_turned : (a b : Edge) → same a b ≡ false → same b a ≡ false
other_turned a b h = false_by (same b a) (λ e. true≢false (sym (same_turned b a e) ∙ h))

not_twice : (s : Bool) → not (not s) ≡ s
not_twice true = refl
not_twice false = refl

invert_twice : (e : Edge) → invert (invert e) ≡ e
invert_twice (constant s) = ap constant (not_twice s)
invert_twice (input s k j) = ap (λ t. input t k j) (not_twice s)
invert_twice (gate s a b) = ap (λ t. gate t a b) (not_twice s)

opposite_turned : (a b : Edge) → same a (invert b) ≡ false → same b (invert a) ≡ false
opposite_turned a b h =
    false_by (same b (invert a)) (λ e.
    let q : invert b ≡ a = ap invert (same-eq b (invert a) e) ∙ invert_twice a in
    true≢false (sym (subst (λ x. same a x ≡ true) (sym q) (same-self a)) ∙ h))

record AreApart (p q r s t u : Bool) : Type 0 where
  pub p_false : p ≡ false
  pub q_false : q ≡ false
  pub r_false : r ≡ false
  pub s_false : s ≡ false
  pub t_false : t ≡ false
  pub u_false : u ≡ false

some_none : {A : Type 0} {x : Edge} → Some x ≡ None → A
some_none e = absurd (cc)

apart_by : (p q r s t u : Bool) (x y z : Edge) → (if p || q || r then Some x else (if s then Some y else (if t || u then Some z else None))) ≡ None → AreApart p q r s t u
apart_by true q r s t u x y z h = some_none h
apart_by false true r s t u x y z h = some_none h
apart_by false false true s t u x y z h = some_none h
apart_by false false false true t u x y z h = some_none h
apart_by false false false false true u x y z h = some_none h
apart_by false false false false false true x y z h = some_none h
apart_by false false false false false false x y z h = record { p_false = refl; q_false = refl; r_false = refl; s_false = refl; t_false = refl; u_false = refl }

none_by : (p q r s t u : Bool) (x y z : Edge) → p ≡ false → q ≡ false → r ≡ false → s ≡ false → t ≡ false → u ≡ false → (if p || q || r then Some x else (if s then Some y else (if t || u then Some z else None))) ≡ None
none_by p q r s t u x y z a b c d e f = rw (a, b, c, d, e, f) refl

-- a conjunction isn't simple where it isn't with its parts turned round
turned : (a b : Edge) → simplified a b ≡ None → simplified b a ≡ None
unfolding simplified
turned a b h =
    let k = apart_by (same a (constant false)) (same b (constant false)) (same a (invert b)) (same a (constant true)) (same b (constant true)) (same a b) (constant false) b a h in
    none_by (same b (constant false)) (same a (constant false)) (same b (invert a)) (same b (constant true)) (same a (constant true)) (same b a) (constant false) a b k.q_false k.p_false (opposite_turned a b k.r_false) k.t_false k.s_false (other_turned a b k.u_false)

below_one_way : (x y m n : ℕ) → nat_lt x y || (nat_eq x y && nat_lt m n) ≡ true → nat_lt y x || (nat_eq y x && nat_lt n m) ≡ false
below_one_way x y m n h = go (nat_lt x y) refl (nat_eq x y) refl (nat_lt m n) refl h
  where
    go : (a : Bool) → nat_lt x y ≡ a → (b : Bool) → nat_eq x y ≡ b → (c : Bool) → nat_lt m n ≡ c → a || (b && c) ≡ true → nat_lt y x || (nat_eq y x && nat_lt n m) ≡ false
    go true p b q c r h =
        let f : nat_lt y x ≡ false = grind (arith, common_steps) in
        let g : nat_eq y x ≡ false = grind (arith, common_steps) in
        rw (f, g) refl
    go false p true q true r h =
        let f : nat_lt y x ≡ false = grind (arith, common_steps) in
        let g : nat_lt n m ≡ false = grind (arith, common_steps) in
        let e : nat_eq y x ≡ true = grind (arith, common_steps) in
        rw (f, e, g) refl
    go false p true q false r h = absurd (true≢false (sym h))
    go false p false q c r h = absurd (true≢false (sym h))

one_way : (a b : Edge) → key_below b a ≡ true → key_below a b ≡ false
unfolding key_below
one_way a b h = below_one_way (level b) (level a) (leaf_number b) (leaf_number a) h

ordered_proper : (a b : Edge) → simplified a b ≡ None → IsProper (ordered a b)
unfolding ordered
ordered_proper a b none = go (key_below b a) refl
  where
    go : (t : Bool) → key_below b a ≡ t → IsProper (if t then record { left = b; right = a } else record { left = a; right = b })
    go true e = record { apart = turned a b none; ordered = one_way a b e }
    go false e = record { apart = none; ordered = e }

-- ---- rows

abbrev IsProperRow : {A : Type 0} → Row A → Type 0
IsProperRow r = All IsProper r.gates

plainly : {A : Type 0} (a : A) → IsProperRow (plain a)
plainly a = All-nil IsProper

then_row : {A B : Type 0} (r : Row A) (f : A → Row B) → IsProperRow r → ((a : A) → IsProperRow (f a)) → IsProperRow (r >>= f)
unfolding ◌>>=◌
then_row r f h k = All-append IsProper r.gates (f r.answer).gates h (k r.answer)

then_plain : {A B : Type 0} (r : Row A) (f : A → B) → IsProperRow r → IsProperRow (r >>= (λ a. plain (f a)))
then_plain r f h = then_row r (λ a. plain (f a)) h (λ a. All-nil IsProper)

along_row : {S A : Type 0} (step : S → A → Row S) → ((s : S) (x : A) → IsProperRow (step s x)) → (s : S) (xs : List A) → IsProperRow (along step s xs)
unfolding along
along_row step h s [] = All-nil IsProper
along_row step h s (x ∷ xs) = then_row (step s x) (λ next. along step next xs) (h s x) (λ next. along_row step h next xs)

each_row : {A : Type 0} (first : List Edge) (step : A → Row Edge) → ((x : A) → IsProperRow (step x)) → (xs : List A) → IsProperRow (each_onto first step xs)
unfolding each_onto
each_row first step h xs = along_row (gather step) (λ done x. then_plain (step x) (λ e. done ++ e ∷ []) (h x)) first xs

both_row : (a b : Edge) → IsProperRow (both a b)
unfolding both
both_row a b = go (simplified a b) refl
  where
    go : (o : Option Edge) → simplified a b ≡ o → IsProperRow (written (ordered a b) o)
    go None e = All-cons IsProper (ordered a b) [] (ordered_proper a b e) (All-nil IsProper)
    go (Some x) e = All-nil IsProper

either_row : (a b : Edge) → IsProperRow (either a b)
unfolding either
either_row a b = then_plain (both (invert a) (invert b)) invert (both_row (invert a) (invert b))

differ_row : (a b : Edge) → IsProperRow (differ a b)
unfolding differ
differ_row a b = then_row (both a b) _ (both_row a b) (λ p. then_row (both (invert a) (invert b)) _ (both_row (invert a) (invert b)) (λ q. both_row (invert p) (invert q)))

choice_row : (c a b : Edge) → IsProperRow (choice c a b)
unfolding choice
choice_row c a b = then_row (both c a) _ (both_row c a) (λ p. then_row (both (invert c) b) _ (both_row (invert c) b) (λ q. then_plain (both (invert p) (invert q)) invert (both_row (invert p) (invert q))))

full_adder_row : (a b c : Edge) → IsProperRow (full_adder a b c)
unfolding full_adder
full_adder_row a b c =
    then_row (differ a b) _ (differ_row a b)
    (λ t. then_row (differ t c) _ (differ_row t c)
    (λ s. then_row (both a b) _ (both_row a b)
    (λ p. then_row (both t c) _ (both_row t c)
    (λ q. then_plain (either p q) (λ carry. (s, carry)) (either_row p q)))))

-- ---- words

chosen_row : (c : Edge) (xs ys : List Edge) → IsProperRow (chosen c xs ys)
unfolding chosen
chosen_row c xs ys = each_row [] (λ p. choice c p.0 p.1) (λ p. choice_row c p.0 p.1) (zip xs ys)

masked_row : (c : Edge) (xs : List Edge) → IsProperRow (masked c xs)
masked_row c xs = each_row [] (both c) (both_row c) xs

pairwise_row : (row : Edge → Edge → Row Edge) → ((a b : Edge) → IsProperRow (row a b)) → (xs ys : List Edge) → IsProperRow (pairwise row xs ys)
unfolding pairwise
pairwise_row row h xs ys = each_row [] (λ p. row p.0 p.1) (λ p. h p.0 p.1) (zip xs ys)

adder_row : (xs ys : List Edge) (carry : Edge) → IsProperRow (adder xs ys carry)
unfolding adder
adder_row xs ys carry = along_row add_bit (λ s p. then_plain (full_adder p.0 p.1 s.1) (λ r. (s.0 ++ r.0 ∷ [], r.1)) (full_adder_row p.0 p.1 s.1)) ([], carry) (zip xs ys)

difference_row : (xs ys : List Edge) → IsProperRow (difference xs ys)
unfolding difference
difference_row xs ys = then_plain (adder xs (map invert ys) (constant true)) (λ r. r.0) (adder_row xs (map invert ys) (constant true))

negative_row : (xs : List Edge) → IsProperRow (negative xs)
unfolding negative
negative_row xs = then_plain (adder (map invert xs) (replicate (length xs) (constant false)) (constant true)) (λ r. r.0) (adder_row (map invert xs) (replicate (length xs) (constant false)) (constant true))

equal_row : (xs ys : List Edge) → IsProperRow (equal xs ys)
unfolding equal
equal_row xs ys = along_row equal_bit (λ e p. then_row (differ p.0 p.1) (λ d. both e (invert d)) (differ_row p.0 p.1) (λ d. both_row e (invert d))) (constant true) (zip xs ys)

less_row : (xs ys : List Edge) → IsProperRow (less xs ys)
unfolding less
less_row xs ys = then_plain (adder xs (map invert ys) (constant true)) (λ r. invert r.1) (adder_row xs (map invert ys) (constant true))

at_most_row : (xs ys : List Edge) → IsProperRow (at_most xs ys)
unfolding at_most
at_most_row xs ys = then_plain (less ys xs) invert (less_row ys xs)

signed_less_row : (xs ys : List Edge) → IsProperRow (signed_less xs ys)
unfolding signed_less
signed_less_row xs ys = less_row (with_top invert xs) (with_top invert ys)

signed_at_most_row : (xs ys : List Edge) → IsProperRow (signed_at_most xs ys)
unfolding signed_at_most
signed_at_most_row xs ys = then_plain (signed_less ys xs) invert (signed_less_row ys xs)

-- ---- products and quotients

partial_row : (xs : List Edge) (p : ℕ × Edge) → IsProperRow (partial_product xs p)
unfolding partial_product
partial_row xs p = each_row (replicate p.0 (constant false)) (both p.1) (both_row p.1) (take (length xs - p.0) xs)

add_partial_row : (xs s : List Edge) (p : ℕ × Edge) → IsProperRow (add_partial xs s p)
unfolding add_partial
add_partial_row xs s p = then_row (partial_product xs p) _ (partial_row xs p) (λ part. then_plain (adder s part (constant false)) (λ r. r.0) (adder_row s part (constant false)))

product_row : (xs ys : List Edge) → IsProperRow (product xs ys)
unfolding product
product_row xs ys = along_row (add_partial xs) (add_partial_row xs) (replicate (length xs) (constant false)) (enumerate_from 0 ys)

divide_step_row : (ns rest : List Edge) (x : Edge) → IsProperRow (divide_step ns rest x)
unfolding divide_step
divide_step_row ns rest x =
    then_row (adder (x ∷ rest) ns (constant true)) _ (adder_row (x ∷ rest) ns (constant true))
    (λ r. then_plain (chosen r.1 (take (length rest) r.0) (take (length rest) (x ∷ rest))) (λ left. (r.1, left)) (chosen_row r.1 (take (length rest) r.0) (take (length rest) (x ∷ rest))))

division_row : (xs ys : List Edge) → IsProperRow (division xs ys)
unfolding division
division_row xs ys =
    along_row (divide_bit (negated_divisor ys)) (λ s x. then_plain (divide_step (negated_divisor ys) s.1 x) (λ r. (r.0 ∷ s.0, r.1)) (divide_step_row (negated_divisor ys) s.1 x)) ([], replicate (length xs) (constant false)) (reverse xs)

zero_test_row : (ys : List Edge) → IsProperRow (zero_test ys)
unfolding zero_test
zero_test_row ys = along_row zero_bit (λ z y. both_row z (invert y)) (constant true) ys

quotient_row : (xs ys : List Edge) → IsProperRow (quotient xs ys)
unfolding quotient
quotient_row xs ys = then_row (division xs ys) _ (division_row xs ys) (λ r. then_row (zero_test ys) _ (zero_test_row ys) (λ z. masked_row (invert z) r.0))

remainder_row : (xs ys : List Edge) → IsProperRow (remainder xs ys)
unfolding remainder
remainder_row xs ys = then_row (division xs ys) _ (division_row xs ys) (λ r. then_row (zero_test ys) _ (zero_test_row ys) (λ z. chosen_row z xs r.1))

negated_where_row : (c : Edge) (xs : List Edge) → IsProperRow (negated_where c xs)
unfolding negated_where
negated_where_row c xs = then_row (negative xs) _ (negative_row xs) (λ n. chosen_row c n xs)

magnitude_row : (xs : List Edge) → IsProperRow (magnitude xs)
unfolding magnitude
magnitude_row xs = negated_where_row (top_bit xs) xs

signed_quotient_row : (xs ys : List Edge) → IsProperRow (signed_quotient xs ys)
unfolding signed_quotient
signed_quotient_row xs ys =
    then_row (magnitude xs) _ (magnitude_row xs)
    (λ ax. then_row (magnitude ys) _ (magnitude_row ys)
    (λ ay. then_row (quotient ax ay) _ (quotient_row ax ay)
    (λ q. then_row (differ (top_bit xs) (top_bit ys)) _ (differ_row (top_bit xs) (top_bit ys)) (λ s. negated_where_row s q))))

magnitude_remainder_row : (xs ys : List Edge) → IsProperRow (magnitude_remainder xs ys)
unfolding magnitude_remainder
magnitude_remainder_row xs ys = then_row (magnitude xs) _ (magnitude_row xs) (λ ax. then_row (magnitude ys) _ (magnitude_row ys) (λ ay. remainder_row ax ay))

signed_remainder_row : (xs ys : List Edge) → IsProperRow (signed_remainder xs ys)
unfolding signed_remainder
signed_remainder_row xs ys = then_row (magnitude_remainder xs ys) _ (magnitude_remainder_row xs ys) (λ u. negated_where_row (top_bit xs) u)

signed_modulus_row : (xs ys : List Edge) → IsProperRow (signed_modulus xs ys)
unfolding signed_modulus
signed_modulus_row xs ys =
    then_row (magnitude_remainder xs ys) _ (magnitude_remainder_row xs ys)
    (λ u. then_row (negated_where (top_bit xs) u) _ (negated_where_row (top_bit xs) u)
    (λ v. then_row (zero_test u) _ (zero_test_row u)
    (λ e. then_row (differ (top_bit xs) (top_bit ys)) _ (differ_row (top_bit xs) (top_bit ys))
    (λ d. then_row (both d (invert e)) _ (both_row d (invert e))
    (λ k. then_row (adder v ys (constant false)) _ (adder_row v ys (constant false)) (λ s. chosen_row k s.0 v))))))

-- ---- shifts

stage_row : (move : ℕ → List Edge → List Edge) (xs : List Edge) (p : ℕ × Edge) → IsProperRow (stage move xs p)
unfolding stage
stage_row move xs p = go (nat_lt (2 ^ p.0) (length xs))
  where
    go : (t : Bool) → IsProperRow (if t then chosen p.1 (move (2 ^ p.0) xs) xs else plain xs)
    go true = chosen_row p.1 (move (2 ^ p.0) xs) xs
    go false = All-nil IsProper

stages_row : (move : ℕ → List Edge → List Edge) (xs ys : List Edge) → IsProperRow (stages move xs ys)
unfolding stages
stages_row move xs ys = along_row (stage move) (stage_row move) xs (enumerate_from 0 ys)

or_overflow_row : (width : ℕ) (over : Edge) (p : ℕ × Edge) → IsProperRow (or_overflow width over p)
unfolding or_overflow
or_overflow_row width over p = go (nat_lt (2 ^ p.0) width)
  where
    go : (t : Bool) → IsProperRow (if t then plain over else either over p.1)
    go true = All-nil IsProper
    go false = either_row over p.1

overflow_row : (width : ℕ) (ys : List Edge) → IsProperRow (overflow width ys)
unfolding overflow
overflow_row width ys = along_row (or_overflow width) (or_overflow_row width) (constant false) (enumerate_from 0 ys)

shift_row : (move : ℕ → List Edge → List Edge) (xs ys : List Edge) → IsProperRow (variable_shift move xs ys)
unfolding variable_shift
shift_row move xs ys = then_row (stages move xs ys) _ (stages_row move xs ys) (λ moved. then_row (overflow (length xs) ys) _ (overflow_row (length xs) ys) (λ over. masked_row (invert over) moved))

shift_signed_row : (xs ys : List Edge) → IsProperRow (variable_shift_signed xs ys)
unfolding variable_shift_signed
shift_signed_row xs ys =
    then_row (stages shifted_right_signed xs ys) _ (stages_row shifted_right_signed xs ys)
    (λ moved. then_row (overflow (length xs) ys) _ (overflow_row (length xs) ys) (λ over. chosen_row over (replicate (length xs) (top_bit xs)) moved))

-- ---- terms

single_row : (r : Row Edge) → IsProperRow r → IsProperRow (single r)
unfolding single
single_row r h = then_plain r (λ e. e ∷ []) h

equivalence_row : (a b : Edge) → IsProperRow (equivalence a b)
unfolding equivalence
equivalence_row a b = then_plain (differ a b) invert (differ_row a b)

implication_row : (a b : Edge) → IsProperRow (implication a b)
unfolding implication
implication_row a b = then_plain (both a (invert b)) invert (both_row a (invert b))

sum_row : (xs ys : List Edge) → IsProperRow (sum xs ys)
unfolding sum
sum_row xs ys = then_plain (adder xs ys (constant false)) (λ r. r.0) (adder_row xs ys (constant false))

unary_proper : (op : Unary) (xs : List Edge) → IsProperRow (unary_row op xs)
unfolding unary_row
unary_proper of.Not xs = All-nil IsProper
unary_proper of.Neg xs = negative_row xs
unary_proper of.Msb xs = single_row (plain (top_bit xs)) (All-nil IsProper)
unary_proper of.TNot xs = single_row (plain (invert (truth_of xs))) (All-nil IsProper)
unary_proper (of.ShlBy n) xs = All-nil IsProper
unary_proper (of.LshrBy n) xs = All-nil IsProper
unary_proper (of.AshrBy n) xs = All-nil IsProper
unary_proper (of.RotL n) xs = All-nil IsProper
unary_proper (of.RotR n) xs = All-nil IsProper
unary_proper (of.Bit i) xs = single_row (plain (bit_at xs i)) (All-nil IsProper)
unary_proper (of.Extract start len) xs = All-nil IsProper
unary_proper (of.SetWidth width) xs = All-nil IsProper
unary_proper (of.SignExtend width) xs = All-nil IsProper

binary_proper : (op : Binary) (xs ys : List Edge) → IsProperRow (binary_row op xs ys)
unfolding binary_row
binary_proper on.And xs ys = pairwise_row both both_row xs ys
binary_proper on.Or xs ys = pairwise_row either either_row xs ys
binary_proper on.Xor xs ys = pairwise_row differ differ_row xs ys
binary_proper on.Add xs ys = sum_row xs ys
binary_proper on.Sub xs ys = difference_row xs ys
binary_proper on.Mul xs ys = product_row xs ys
binary_proper on.Udiv xs ys = quotient_row xs ys
binary_proper on.Umod xs ys = remainder_row xs ys
binary_proper on.Sdiv xs ys = signed_quotient_row xs ys
binary_proper on.Srem xs ys = signed_remainder_row xs ys
binary_proper on.Smod xs ys = signed_modulus_row xs ys
binary_proper on.Append xs ys = All-nil IsProper
binary_proper on.Shl xs ys = shift_row shifted_left xs ys
binary_proper on.Lshr xs ys = shift_row shifted_right xs ys
binary_proper on.Ashr xs ys = shift_signed_row xs ys
binary_proper on.Eq xs ys = single_row (equal xs ys) (equal_row xs ys)
binary_proper on.Ult xs ys = single_row (less xs ys) (less_row xs ys)
binary_proper on.Ule xs ys = single_row (at_most xs ys) (at_most_row xs ys)
binary_proper on.Slt xs ys = single_row (signed_less xs ys) (signed_less_row xs ys)
binary_proper on.Sle xs ys = single_row (signed_at_most xs ys) (signed_at_most_row xs ys)
binary_proper on.TAnd xs ys = single_row (both (truth_of xs) (truth_of ys)) (both_row (truth_of xs) (truth_of ys))
binary_proper on.TOr xs ys = single_row (either (truth_of xs) (truth_of ys)) (either_row (truth_of xs) (truth_of ys))
binary_proper on.TXor xs ys = single_row (differ (truth_of xs) (truth_of ys)) (differ_row (truth_of xs) (truth_of ys))
binary_proper on.Implies xs ys = single_row (implication (truth_of xs) (truth_of ys)) (implication_row (truth_of xs) (truth_of ys))
binary_proper on.TEq xs ys = single_row (equivalence (truth_of xs) (truth_of ys)) (equivalence_row (truth_of xs) (truth_of ys))

circuit_proper : (t : Term) → IsProperRow (circuit t)
unfolding circuit
circuit_proper (vector v) = All-nil IsProper
circuit_proper (variable k w) = All-nil IsProper
circuit_proper (truth b) = single_row (plain (constant b)) (All-nil IsProper)
circuit_proper (truth_variable k) = single_row (plain (input false k 0)) (All-nil IsProper)
circuit_proper (unary op x) = then_row (circuit x) (unary_row op) (circuit_proper x) (unary_proper op)
circuit_proper (binary op x y) = then_row (circuit x) _ (circuit_proper x) (λ xs. then_row (circuit y) _ (circuit_proper y) (λ ys. binary_proper op xs ys))
circuit_proper (vector_choice c x y) =
    then_row (circuit c) _ (circuit_proper c)
    (λ cs. then_row (circuit x) _ (circuit_proper x) (λ xs. then_row (circuit y) _ (circuit_proper y) (λ ys. chosen_row (truth_of cs) xs ys)))
circuit_proper (truth_choice c x y) =
    then_row (circuit c) _ (circuit_proper c)
    (λ cs. then_row (circuit x) _ (circuit_proper x)
    (λ xs. then_row (circuit y) _ (circuit_proper y) (λ ys. single_row (choice (truth_of cs) (truth_of xs) (truth_of ys)) (choice_row (truth_of cs) (truth_of xs) (truth_of ys)))))

truth_proper : (t : Term) → IsProperRow (truth_row t)
unfolding truth_row
truth_proper t = then_plain (circuit t) truth_of (circuit_proper t)

hypothesis_proper : (e : Edge) (t : Term) → IsProperRow (and_hypothesis e t)
unfolding and_hypothesis
hypothesis_proper e t = then_row (truth_row t) (both e) (truth_proper t) (both_row e)

hypotheses_proper : (hyps : List Term) → IsProperRow (all_hypotheses hyps)
unfolding all_hypotheses
hypotheses_proper hyps = along_row and_hypothesis hypothesis_proper (constant true) hyps

conclusion_proper : (e : Edge) (t : Term) → IsProperRow (and_not_conclusion e t)
unfolding and_not_conclusion
conclusion_proper e t = then_row (truth_row t) (λ c. both e (invert c)) (truth_proper t) (λ c. both_row e (invert c))

falsifying_proper : (hyps : List Term) (concl : Term) → IsProperRow (falsifying_row hyps concl)
unfolding falsifying_row
falsifying_proper hyps concl = then_row (all_hypotheses hyps) (λ e. and_not_conclusion e concl) (hypotheses_proper hyps) (λ e. conclusion_proper e concl)

pub goal_proper : (hyps : List Term) (concl : Term) → All IsProper (goal_row hyps concl).gates
unfolding goal_row
goal_proper hyps concl = falsifying_proper (map normal hyps) (normal concl)

-- what holds of all gates holds of one among them
behind : (before : List Gate) (g : Gate) (after : List Gate) → All IsProper (before ++ g ∷ after) → IsProper g
behind [] g after h = All-head IsProper g after h
behind (x ∷ xs) g after h = behind xs g after (All-tail IsProper x (xs ++ g ∷ after) h)

pub gate_proper : (hyps : List Term) (concl : Term) (before : List Gate) (g : Gate) (after : List Gate) → (goal_row hyps concl).gates ≡ before ++ g ∷ after → IsProper g
gate_proper hyps concl before g after cut = behind before g after (subst (All IsProper) cut (goal_proper hyps concl))
