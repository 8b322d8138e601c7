-- A goal's edge is true exactly for the values that falsify the goal.
use Rattle.std.proofs.Common.{Result, ◌≡◌, ◌+◌, ◌*◌, ◌/◌, ◌%◌, ◌^◌, ℕ, zero, suc, Bool, true, false, not, ◌&&◌, IsTrue, List, [], ◌∷◌, map, refl, sym, ◌∙◌, ap, ap₂, slice_index_or, arith, add-one, Some}
use Rattle.std.specs.Prelude.{IfOk, All, ◌↔◌, ◌==◌, slice_get, option_map}
use Rattle.std.specs.List.{range_with_len}
use Rattle.std.proofs.lemmas.List.Elements.{All-nil, All-cons, All-head, All-tail}
use Rattle.std.proofs.Math.Nat.{div-div-eq-div-mul}
use Rattle.gate_shape.specs.Literal.{Literal}
use Rattle.gate_shape.specs.Builds.{Meaning, Noting, edges, StandAll, Builds}
use Rattle.gate_shape.specs.declared.builder.GateStop.{GateStop}
use Rattle.gate_shape.proofs.Building.{answers_with}
use Rattle.gate_shape.specs.Edge.{Edge, constant, invert, value}
use Rattle.gate_shape.specs.Row.{◌>>=◌, along, both}
use Rattle.gate_shape.proofs.Values.{value-invert, both-value}
use Rattle.blast_logic.proofs.Meanings.{constant-value}
use Rattle.bv_value.specs.Bits.{bits_of}
use Rattle.bv_value.proofs.Bits.{pow_more, number-bits}
use Rattle.bv_expr.specs.declared.ops.Sort.{Sort}
use Rattle.bv_expr.specs.declared.ops.Sort.TheVariants as sort
use Rattle.bv_expr.specs.declared.ops.Val.{Val}
use Rattle.bv_expr.specs.declared.ops.Val.TheVariants.{Truth, Vector}
use Rattle.bv_expr.specs.Term.{Term}
use Rattle.bv_expr.specs.Sorts.{sort_of, LeavesFit, IsExpr}
use Rattle.bv_expr.specs.Meaning.{meaning, sort_of_value, HasValues}
use Rattle.bv_expr.specs.Goal.{Binders, sorts_of, AreValues, IsValue, IsGoal, IsTruthOver, MeansTrue, Falsifies}
use Rattle.bv_expr.proofs.Over.{has_values}
use Rattle.blast_goal.specs.Circuit.{truth_of, circuit, truth_row, and_hypothesis, all_hypotheses, and_not_conclusion, falsifying_row}
use Rattle.blast_goal.specs.Values.{bit_of, input_bits, all_bits, value_with, values_from, values_of}
use Rattle.blast_goal.proofs.Sorting.{some_same}
use Rattle.blast_goal.proofs.Laws.{Writes, truth_of-value}
use Rattle.blast_goal.proofs.Meaning.{read, read-sort, circuit-law, read-meaning, writes-bits, sorted}

both_true : (a b : Bool) → a && b ≡ true → (a ≡ true) × (b ≡ true)
both_true true b h = (refl, h)
both_true false b h = cc

true_both : (a b : Bool) → a ≡ true → b ≡ true → a && b ≡ true
true_both a b p q = rw (p, q) refl

-- each variable has the value that is read off the bits
abbrev pub AreRead : List Val → (ℕ → ℕ → Bool) → Type 0
AreRead values bits = (k : ℕ) (s : Sort) (d : Val) → option_map sort_of_value (slice_get values k) ≡ Some s → slice_index_or values k d ≡ value_with s (bits k)

-- the values that are read off the bits are
sort_same : (s : Sort) (bits : ℕ → Bool) → sort_of_value (value_with s bits) ≡ s
sort_same sort.Truth bits = refl
sort_same (sort.Vector w) bits = refl

read_from : (bits : ℕ → ℕ → Bool) (m : ℕ) (binders : Binders) (k : ℕ) (s : Sort) (d : Val) → option_map sort_of_value (slice_get (values_from m binders bits) k) ≡ Some s → slice_index_or (values_from m binders bits) k d ≡ value_with s (bits (k + m))
read_from bits m [] k s d h = cc
read_from bits m (b ∷ bs) zero s d h =
    let e : b.1 ≡ s = sym (sort_same b.1 (bits m)) ∙ some_same h in
    let z : 0 + m ≡ m = omega arith in
    rw (z, e) refl
read_from bits m (b ∷ bs) (suc k) s d h = let z : suc k + m ≡ k + (m + 1) = omega arith in rw z (read_from bits (m + 1) bs k s d h)

pub are_read : (binders : Binders) (bits : ℕ → ℕ → Bool) → AreRead (values_of binders bits) bits
are_read binders bits k s d h = let z : k + 0 ≡ k = omega arith in read_from bits 0 binders k s d h ∙ ap (λ n. value_with s (bits n)) z

pub sorts_same : (k : ℕ) (binders : Binders) (bits : ℕ → ℕ → Bool) → map sort_of_value (values_from k binders bits) ≡ sorts_of binders
sorts_same k [] bits = refl
sorts_same k (b ∷ bs) bits = ap₂ (λ s ss. s ∷ ss) (sort_same b.1 (bits k)) (sorts_same (k + 1) bs bits)

-- any values are read off their own bits
double : (p : ℕ) → 2 * p ≡ p * 2
double p = omega arith

bits_range : (n s w : ℕ) → map (λ j. n / 2 ^ j % 2 == 1) (range_with_len s w) ≡ bits_of w (n / 2 ^ s)
bits_range n s zero = refl
bits_range n s (suc w) =
    let p : 2 ^ (s + 1) ≡ 2 ^ s * 2 = ap (λ z. 2 ^ z) (add-one s) ∙ (pow_more s ∙ double (2 ^ s)) in
    let e : n / 2 ^ (s + 1) ≡ n / 2 ^ s / 2 = ap (λ z. n / z) p ∙ sym (div-div-eq-div-mul n (2 ^ s) 2) in
    ap (λ z. (n / 2 ^ s % 2 == 1) ∷ z) (bits_range n (s + 1) w ∙ ap (bits_of w) e)

and_true : (b : Bool) → b ≡ b && true
and_true true = refl
and_true false = refl

value_back : (v : Val) → IsValue v → v ≡ value_with (sort_of_value v) (bit_of v)
value_back (Truth b) h = ap Truth (and_true b)
value_back (Vector x) h =
    let one : x.number / 2 ^ 0 ≡ x.number = omega arith in
    ap (λ n. Vector (record { width = x.width; number = n })) (sym (rw (bits_range x.number 0 x.width, one) (number-bits x.width x.number h.below)))

pub are_own : (values : List Val) → All IsValue values → AreRead values (input_bits values)
are_own [] h k s d e = cc
are_own (v ∷ vs) h zero s d e = let f : sort_of_value v ≡ s = some_same e in value_back v (All-head IsValue v vs h) ∙ ap (λ z. value_with z (bit_of v)) f
are_own (v ∷ vs) h (suc k) s d e = are_own vs (All-tail IsValue v vs h) k s d e

-- The values of a circuit's edges are the bits of what the term means.
pub circuit-means : (t : Term) (values : List Val) → IsExpr t → All IsValue values → HasValues values t → map (value (input_bits values)) (circuit t).answer ≡ all_bits (meaning t values)
circuit-means t values ex are has =
    let s = sorted t ex.sorted in
    let bits : ℕ → ℕ → Bool = input_bits values in
    writes-bits bits (circuit t).answer (read bits t) (circuit-law bits t s.0 s.1 ex.leaves) ∙ ap all_bits (read-meaning bits values (are_own values are) t has)

pub circuit_values : {T : Type 0} {n : Noting} {a b : Meaning} {r : Result T GateStop} (items : T → List Literal) (t : Term) → IsExpr t → Builds n (λ m v. StandAll m (items v)) a b r (circuit t) → IfOk r (λ v. (values : List Val) → All IsValue values → HasValues values t → map (value (input_bits values)) (edges b (items v)) ≡ all_bits (meaning t values))
circuit_values {b} items t ex p =
    answers_with (λ v. (values : List Val) → All IsValue values → HasValues values t → map (value (input_bits values)) (edges b (items v)) ≡ all_bits (meaning t values)) p
    (λ v s values are has. ap (map (value (input_bits values))) s.stand_for ∙ circuit-means t values ex are has)

module _ (bits : ℕ → ℕ → Bool) (values : List Val) (are : AreRead values bits) where
  abbrev at : Edge → Bool
  at e = value bits e

  -- what is known of each term of a goal
  pub record IsFit (t : Term) : Type 0 where
    pub sorted : sort_of t ≡ Some sort.Truth
    pub leaves : LeavesFit t
    pub has : HasValues values t

  truth_written : (es : List Edge) (v : Val) → sort_of_value v ≡ sort.Truth → Writes bits es v → v ≡ Truth (at (truth_of es))
  truth_written es (Truth b) s h = ap Truth (sym (truth_of-value bits es b h))
  truth_written es (Vector x) s h = cc

  -- a truth's edge has the value that the truth means
  pub truth-value : (t : Term) → IsFit t → meaning t values ≡ Truth (at (truth_row t).answer)
  unfolding truth_row ◌>>=◌
  truth-value t f = sym (read-meaning bits values are t f.has) ∙ truth_written (circuit t).answer (read bits t) (read-sort bits t sort.Truth f.sorted) (circuit-law bits t sort.Truth f.sorted f.leaves)

  truth_same : (a b : Bool) → Truth a ≡ Truth b → a ≡ b
  truth_same a b e = cc

  hypotheses-value : (e : Edge) (hyps : List Term) → All IsFit hyps → (at (along and_hypothesis e hyps).answer ≡ true) ↔ ((at e ≡ true) × All (MeansTrue values) hyps)
  unfolding along and_hypothesis ◌>>=◌
  hypotheses-value e [] fit = (λ h. (h, All-nil (MeansTrue values)), λ p. p.0)
  hypotheses-value e (h ∷ hs) fit =
      let means = truth-value h (All-head IsFit h hs fit) in
      let more = hypotheses-value (both e (truth_row h).answer).answer hs (All-tail IsFit h hs fit) in (
        λ q.
            let r = more.0 q in
            let s = both_true (at e) (at (truth_row h).answer) (sym (both-value bits e (truth_row h).answer) ∙ r.0) in
            (s.0, All-cons (MeansTrue values) h hs (means ∙ ap Truth s.1) r.1),
        λ q.
            let c : at (truth_row h).answer ≡ true = truth_same _ _ (sym means ∙ All-head (MeansTrue values) h hs q.1) in
            more.1 (both-value bits e (truth_row h).answer ∙ true_both _ _ q.0 c, All-tail (MeansTrue values) h hs q.1),
      )

  not_true : (b : Bool) → not b ≡ true → b ≡ false
  not_true true h = cc
  not_true false h = refl

  goal-value : (hyps : List Term) (concl : Term) → All IsFit hyps → IsFit concl → IsTrue (at (falsifying_row hyps concl).answer) ↔ Falsifies hyps concl values
  unfolding falsifying_row all_hypotheses and_not_conclusion ◌>>=◌
  goal-value hyps concl fit fits =
      let e = (along and_hypothesis (constant true) hyps).answer in
      let c = (truth_row concl).answer in
      let whole : at (both e (invert c)).answer ≡ at e && not (at c) = both-value bits e (invert c) ∙ ap (λ z. at e && z) (value-invert bits c) in
      let means = truth-value concl fits in
      let hold = hypotheses-value (constant true) hyps fit in (
        λ q.
            let r = both_true (at e) (not (at c)) (sym whole ∙ q) in
            record { hyps_hold = (hold.0 r.0).1; concl_fails = means ∙ ap Truth (not_true _ r.1) },
        λ f.
            let z : at c ≡ false = truth_same _ _ (sym means ∙ f.concl_fails) in
            whole ∙ true_both _ _ (hold.1 (constant-value bits true, f.hyps_hold)) (rw z refl),
      )

module _ (binders : Binders) (hyps : List Term) (concl : Term) (goal : IsGoal binders hyps concl) (exprs : All IsExpr hyps) (expr : IsExpr concl) where
  fit_at : (values : List Val) (bits : ℕ → ℕ → Bool) (are : AreRead values bits) (t : Term) → map sort_of_value values ≡ sorts_of binders → IsTruthOver (sorts_of binders) t → IsExpr t → IsFit bits values are t
  fit_at values bits are t e over ex = record { sorted = over.truth; leaves = ex.leaves; has = has_values (sorts_of binders) values t e over.over }

  goal_at : (values : List Val) (bits : ℕ → ℕ → Bool) (are : AreRead values bits) → map sort_of_value values ≡ sorts_of binders → IsTrue (value bits (falsifying_row hyps concl).answer) ↔ Falsifies hyps concl values
  goal_at values bits are e =
      goal-value bits values are hyps concl
      (λ i d l. fit_at values bits are _ e (goal.hyps_fit i d l) (exprs i d l))
      (fit_at values bits are concl e goal.concl_fits expr)

  -- the same for the values of a goal's variables, and for those that are read off any bits
  pub edge-value : (values : List Val) → AreValues binders values → IsTrue (value (input_bits values) (falsifying_row hyps concl).answer) ↔ Falsifies hyps concl values
  edge-value values fit = goal_at values (input_bits values) (are_own values fit.are_values) fit.of_the_sorts

  pub edge-read : (bits : ℕ → ℕ → Bool) → IsTrue (value bits (falsifying_row hyps concl).answer) ↔ Falsifies hyps concl (values_of binders bits)
  edge-read bits = goal_at (values_of binders bits) bits (are_read binders bits) (sorts_same 0 binders bits)
