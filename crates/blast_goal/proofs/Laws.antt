-- The rows of operators write what the operators give.
use Rattle.std.proofs.Common.{◌≡◌, ◌≤◌, ◌-◌, ℕ, Bool, true, false, not, ◌&&◌, ◌||◌, IsTrue, List, [], ◌∷◌, map, refl, sym, ◌∙◌, ap, ap₂, length, get_or, arith, if◌then◌else◌}
use Rattle.std.specs.Prelude.{IsSome, ◌==◌}
use Rattle.std.proofs.lemmas.Grind.{common_steps}
use Rattle.gate_shape.specs.Edge.{Edge, constant, value}
use Rattle.gate_shape.specs.Row.{Row, ◌>>=◌, choice}
use Rattle.gate_shape.proofs.Values.{value-invert, both-value, either-value, choice-value}
use Rattle.bv_value.specs.Bits.{differ as differ_bits}
use Rattle.bv_value.specs.BitVector.{BitVector}
use Rattle.bv_value.specs.Operations as is
use Rattle.bv_expr.specs.declared.ops.Unary.{Unary}
use Rattle.bv_expr.specs.declared.ops.Unary.TheVariants as of
use Rattle.bv_expr.specs.declared.ops.Binary.{Binary}
use Rattle.bv_expr.specs.declared.ops.Binary.TheVariants as on
use Rattle.bv_expr.specs.declared.ops.Sort.{Sort}
use Rattle.bv_expr.specs.declared.ops.Sort.TheVariants as sort
use Rattle.bv_expr.specs.declared.ops.Val.{Val}
use Rattle.bv_expr.specs.declared.ops.Val.TheVariants.{Truth, Vector}
use Rattle.bv_expr.specs.Meaning.{sort_of_value, is_true, unary_value, binary_value}
use Rattle.bv_expr.specs.Sorts.{where_equal, unary_sort, vector_sort, truth_sort, binary_sort, choice_sort, truth_choice_sort}
use Rattle.bv_expr.specs.Goal.{is_sort}
use Rattle.blast_logic.specs.Words.{word}
use Rattle.blast_logic.specs.Chosen.{chosen}
use Rattle.blast_logic.proofs.Meanings.{differ_bits-value, equivalence-value, implication-value}
use Rattle.blast_logic.proofs.Picking.{chosen-word}
use Rattle.blast_logic.proofs.Vectoring.{inverts-word, and-word, or-word, xor-word}
use Rattle.blast_arith.proofs.Adding.{adder-word, difference-word, negative-word}
use Rattle.blast_arith.proofs.Comparing.{equal-value, less-value, at_most-value, signed_less-value, signed_at_most-value}
use Rattle.blast_mul.proofs.Multiplying.{product-word}
use Rattle.blast_div.proofs.Zeros.{remainder-word, quotient-word}
use Rattle.blast_div.proofs.Signing.{signed_quotient-word, signed_remainder-word, signed_modulus-word}
use Rattle.blast_shift.proofs.Values.{shifted_left-value, shifted_right-value, shifted_right_signed-value, rotated_left-value, rotated_right-value, appended-value, extracted-value, with_width-value, sign_extended-value, bit-value}
use Rattle.blast_shift.proofs.Moves.{is_move_up, is_move_down}
use Rattle.blast_shift.proofs.Shifting.{variable_shift-word, variable_shift_signed-word}
use Rattle.blast_goal.specs.Circuit.{truth_of, single, sum, unary_row, binary_row}

pub equal_widths : (v w : ℕ) (s : Sort) → IsSome (where_equal v w s) → v ≡ w
equal_widths v w s h = grind (arith, common_steps)

pub positive_width : (w : ℕ) → IsTrue (is_sort (sort.Vector w)) → 1 ≤ w
positive_width w h = grind (arith, common_steps)

module _ (bits : ℕ → ℕ → Bool) where
  -- these edges write this value
  abbrev pub Writes : List Edge → Val → Type 0
  Writes es (Vector x) = word bits es ≡ x
  Writes es (Truth b) = map (value bits) es ≡ b ∷ []

  width_is : (es : List Edge) (x : BitVector) → word bits es ≡ x → length es ≡ x.width
  width_is es x h = ap (λ z. z.width) h

  one_long : (es : List Edge) (x : BitVector) → word bits es ≡ x → IsTrue (is_sort (sort.Vector x.width)) → 1 ≤ length es
  one_long es x h p = let n = width_is es x h in let q = positive_width x.width p in omega arith

  same_long : (es fs : List Edge) (x y : BitVector) (s : Sort) → word bits es ≡ x → word bits fs ≡ y → IsSome (where_equal x.width y.width s) → length es ≡ length fs
  same_long es fs x y s h k e = width_is es x h ∙ (equal_widths x.width y.width s e ∙ sym (width_is fs y k))

  pub truth_of-value : (es : List Edge) (b : Bool) → map (value bits) es ≡ b ∷ [] → value bits (truth_of es) ≡ b
  truth_of-value [] b h = cc
  truth_of-value (e ∷ es) b h = ap (λ z. get_or z 0 b) h

  pub single-writes : (row : Row Edge) (b : Bool) → value bits row.answer ≡ b → Writes (single row).answer (Truth b)
  unfolding single ◌>>=◌
  single-writes row b h = ap (λ z. z ∷ []) h

  pub unary-law : (op : Unary) (es : List Edge) (v : Val) → IsSome (unary_sort op (sort_of_value v)) → IsTrue (is_sort (sort_of_value v)) → Writes es v → Writes (unary_row op es).answer (unary_value op v)
  unfolding unary_row
  unary-law of.TNot es (Truth b) f p h = single-writes _ (not b) (value-invert bits (truth_of es) ∙ ap not (truth_of-value es b h))
  unary-law op es (Truth b) f p h = cc
  unary-law of.TNot es (Vector x) f p h = cc
  unary-law of.Not es (Vector x) f p h = inverts-word bits es ∙ ap is.bitwise_not h
  unary-law of.Neg es (Vector x) f p h = negative-word bits es ∙ ap is.neg h
  unary-law of.Msb es (Vector x) f p h = single-writes _ (is.msb x) (bit-value bits (length es - 1) es ∙ ap is.msb h)
  unary-law (of.ShlBy n) es (Vector x) f p h = shifted_left-value bits n es ∙ ap (λ z. is.shl_by z n) h
  unary-law (of.LshrBy n) es (Vector x) f p h = shifted_right-value bits n es ∙ ap (λ z. is.lshr_by z n) h
  unary-law (of.AshrBy n) es (Vector x) f p h = shifted_right_signed-value bits n es (one_long es x h p) ∙ ap (λ z. is.ashr_by z n) h
  unary-law (of.RotL n) es (Vector x) f p h = rotated_left-value bits n es (one_long es x h p) ∙ ap (λ z. is.rotl z n) h
  unary-law (of.RotR n) es (Vector x) f p h = rotated_right-value bits n es (one_long es x h p) ∙ ap (λ z. is.rotr z n) h
  unary-law (of.Bit i) es (Vector x) f p h = single-writes _ (is.bit x i) (bit-value bits i es ∙ ap (λ z. is.bit z i) h)
  unary-law (of.Extract start len) es (Vector x) f p h = extracted-value bits start len es ∙ ap (λ z. is.extract z start len) h
  unary-law (of.SetWidth w) es (Vector x) f p h = with_width-value bits w es ∙ ap (λ z. is.set_width z w) h
  unary-law (of.SignExtend w) es (Vector x) f p h = sign_extended-value bits w es (one_long es x h p) ∙ ap (λ z. is.sign_extend z w) h

  truths-law : (op : Binary) (es fs : List Edge) (a b : Bool) → IsSome (truth_sort op) → Writes es (Truth a) → Writes fs (Truth b) → Writes (binary_row op es fs).answer (binary_value op (Truth a) (Truth b))
  unfolding binary_row
  truths-law on.TAnd es fs a b f h k = single-writes _ (a && b) (both-value bits (truth_of es) (truth_of fs) ∙ ap₂ (λ p q. p && q) (truth_of-value es a h) (truth_of-value fs b k))
  truths-law on.TOr es fs a b f h k = single-writes _ (a || b) (either-value bits (truth_of es) (truth_of fs) ∙ ap₂ (λ p q. p || q) (truth_of-value es a h) (truth_of-value fs b k))
  truths-law on.TXor es fs a b f h k = single-writes _ (differ_bits a b) (differ_bits-value bits (truth_of es) (truth_of fs) ∙ ap₂ differ_bits (truth_of-value es a h) (truth_of-value fs b k))
  truths-law on.Implies es fs a b f h k = single-writes _ (not a || b) (implication-value bits (truth_of es) (truth_of fs) ∙ ap₂ (λ p q. not p || q) (truth_of-value es a h) (truth_of-value fs b k))
  truths-law on.TEq es fs a b f h k = single-writes _ (not (differ_bits a b)) (equivalence-value bits (truth_of es) (truth_of fs) ∙ ap₂ (λ p q. not (differ_bits p q)) (truth_of-value es a h) (truth_of-value fs b k))
  truths-law op es fs a b f h k = cc

  sum-word : (es fs : List Edge) → length es ≡ length fs → word bits (sum es fs).answer ≡ is.add (word bits es) (word bits fs)
  unfolding sum ◌>>=◌ value
  sum-word es fs l = adder-word bits es fs (constant false) l refl

  vectors-law : (op : Binary) (es fs : List Edge) (x y : BitVector) → IsSome (vector_sort op x.width y.width) → IsTrue (is_sort (sort.Vector x.width)) → IsTrue (is_sort (sort.Vector y.width)) → word bits es ≡ x → word bits fs ≡ y → Writes (binary_row op es fs).answer (binary_value op (Vector x) (Vector y))
  unfolding binary_row
  vectors-law on.And es fs x y f p q h k = and-word bits es fs (same_long es fs x y _ h k f) ∙ ap₂ is.bitwise_and h k
  vectors-law on.Or es fs x y f p q h k = or-word bits es fs (same_long es fs x y _ h k f) ∙ ap₂ is.bitwise_or h k
  vectors-law on.Xor es fs x y f p q h k = xor-word bits es fs (same_long es fs x y _ h k f) ∙ ap₂ is.bitwise_xor h k
  vectors-law on.Add es fs x y f p q h k = sum-word es fs (same_long es fs x y _ h k f) ∙ ap₂ is.add h k
  vectors-law on.Sub es fs x y f p q h k = difference-word bits es fs (same_long es fs x y _ h k f) ∙ ap₂ is.sub h k
  vectors-law on.Mul es fs x y f p q h k = product-word bits es fs (same_long es fs x y _ h k f) ∙ ap₂ is.mul h k
  vectors-law on.Udiv es fs x y f p q h k = quotient-word bits es fs (same_long es fs x y _ h k f) ∙ ap₂ is.udiv h k
  vectors-law on.Umod es fs x y f p q h k = remainder-word bits es fs (same_long es fs x y _ h k f) ∙ ap₂ is.umod h k
  vectors-law on.Sdiv es fs x y f p q h k = signed_quotient-word bits es fs (same_long es fs x y _ h k f) (one_long es x h p) ∙ ap₂ is.sdiv h k
  vectors-law on.Srem es fs x y f p q h k = signed_remainder-word bits es fs (same_long es fs x y _ h k f) (one_long es x h p) ∙ ap₂ is.srem h k
  vectors-law on.Smod es fs x y f p q h k = signed_modulus-word bits es fs (same_long es fs x y _ h k f) (one_long es x h p) ∙ ap₂ is.smod h k
  vectors-law on.Append es fs x y f p q h k = appended-value bits es fs ∙ ap₂ is.append h k
  vectors-law on.Shl es fs x y f p q h k = variable_shift-word is_move_up bits es fs tt ∙ ap₂ (λ a b. is.shl_by a b.number) h k
  vectors-law on.Lshr es fs x y f p q h k = variable_shift-word is_move_down bits es fs tt ∙ ap₂ (λ a b. is.lshr_by a b.number) h k
  vectors-law on.Ashr es fs x y f p q h k = variable_shift_signed-word bits es fs (one_long es x h p) ∙ ap₂ (λ a b. is.ashr_by a b.number) h k
  vectors-law on.Eq es fs x y f p q h k = single-writes _ (x.number == y.number) (equal-value bits es fs (same_long es fs x y _ h k f) ∙ ap₂ (λ a b. a.number == b.number) h k)
  vectors-law on.Ult es fs x y f p q h k = single-writes _ (is.ult x y) (less-value bits es fs (same_long es fs x y _ h k f) ∙ ap₂ is.ult h k)
  vectors-law on.Ule es fs x y f p q h k = single-writes _ (is.ule x y) (at_most-value bits es fs (sym (same_long es fs x y _ h k f)) ∙ ap₂ is.ule h k)
  vectors-law on.Slt es fs x y f p q h k = single-writes _ (is.slt x y) (signed_less-value bits es fs (same_long es fs x y _ h k f) (one_long es x h p) ∙ ap₂ is.slt h k)
  vectors-law on.Sle es fs x y f p q h k = single-writes _ (is.sle x y) (signed_at_most-value bits es fs (sym (same_long es fs x y _ h k f)) (one_long fs y k q) ∙ ap₂ is.sle h k)
  vectors-law op es fs x y f p q h k = cc

  pub binary-law : (op : Binary) (es fs : List Edge) (v w : Val) → IsSome (binary_sort op (sort_of_value v) (sort_of_value w)) → IsTrue (is_sort (sort_of_value v)) → IsTrue (is_sort (sort_of_value w)) → Writes es v → Writes fs w → Writes (binary_row op es fs).answer (binary_value op v w)
  binary-law op es fs (Truth a) (Truth b) f p q h k = truths-law op es fs a b f h k
  binary-law op es fs (Vector x) (Vector y) f p q h k = vectors-law op es fs x y f p q h k
  binary-law op es fs (Truth a) (Vector y) f p q h k = cc
  binary-law op es fs (Vector x) (Truth b) f p q h k = cc

  pub choice-law : (cs es fs : List Edge) (u v w : Val) → IsSome (choice_sort (sort_of_value u) (sort_of_value v) (sort_of_value w)) → Writes cs u → Writes es v → Writes fs w → Writes (chosen (truth_of cs) es fs).answer (if is_true u then v else w)
  choice-law cs es fs (Truth true) (Vector x) (Vector y) f g h k = chosen-word bits (truth_of cs) es fs (same_long es fs x y _ h k f) ∙ rw (truth_of-value cs true g) h
  choice-law cs es fs (Truth false) (Vector x) (Vector y) f g h k = chosen-word bits (truth_of cs) es fs (same_long es fs x y _ h k f) ∙ rw (truth_of-value cs false g) k
  choice-law cs es fs (Vector u) v w f g h k = cc
  choice-law cs es fs (Truth b) (Truth a) w f g h k = cc
  choice-law cs es fs (Truth b) (Vector x) (Truth a) f g h k = cc

  pub truth_choice-law : (cs es fs : List Edge) (u v w : Val) → IsSome (truth_choice_sort (sort_of_value u) (sort_of_value v) (sort_of_value w)) → Writes cs u → Writes es v → Writes fs w → Writes (single (choice (truth_of cs) (truth_of es) (truth_of fs))).answer (if is_true u then v else w)
  truth_choice-law cs es fs (Truth true) (Truth a) (Truth b) f g h k = single-writes _ a (choice-value bits (truth_of cs) (truth_of es) (truth_of fs) ∙ rw (truth_of-value cs true g) (truth_of-value es a h))
  truth_choice-law cs es fs (Truth false) (Truth a) (Truth b) f g h k = single-writes _ b (choice-value bits (truth_of cs) (truth_of es) (truth_of fs) ∙ rw (truth_of-value cs false g) (truth_of-value fs b k))
  truth_choice-law cs es fs (Vector u) v w f g h k = cc
  truth_choice-law cs es fs (Truth b) (Vector x) w f g h k = cc
  truth_choice-law cs es fs (Truth b) (Truth a) (Vector y) f g h k = cc
