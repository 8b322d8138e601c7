-- The circuit of a term and the edge of a goal, as rows: what they stand for, and the gates that they write, in order.
-- The circuit of a vector is the list of its bits, bit 0 first, and that of a truth is the list of one edge.
use Rattle.std.specs.Prelude.{true, false, List, [], ◌∷◌, map}
use Rattle.gate_shape.specs.Edge.{Edge, constant, input, invert}
use Rattle.gate_shape.specs.Row.{Row, plain, ◌>>=◌, along, both, either, differ, choice}
use Rattle.bv_expr.specs.declared.ops.Unary.{Unary}
use Rattle.bv_expr.specs.declared.ops.Unary.TheVariants as of
use Rattle.bv_expr.specs.declared.ops.Binary.{Binary}
use Rattle.bv_expr.specs.declared.ops.Binary.TheVariants as on
use Rattle.bv_expr.specs.Term.{Term, constant as vector, variable, truth, truth_variable, unary, binary, choice as vector_choice, truth_choice}
use Rattle.blast_logic.specs.Truths.{equivalence, implication}
use Rattle.blast_logic.specs.Words.{bit_at, top_bit}
use Rattle.blast_logic.specs.Vectors.{constants, inputs, pairwise}
use Rattle.blast_logic.specs.Chosen.{chosen}
use Rattle.blast_arith.specs.Sums.{adder, difference, negative}
use Rattle.blast_arith.specs.Comparisons.{equal, less, at_most, signed_less, signed_at_most}
use Rattle.blast_mul.specs.Product.{product}
use Rattle.blast_div.specs.Division.{quotient, remainder}
use Rattle.blast_div.specs.Signed.{signed_quotient, signed_remainder, signed_modulus}
use Rattle.bv_normal.specs.Normal.{normal}
use Rattle.blast_shift.specs.Wires.{shifted_left, shifted_right, shifted_right_signed, rotated_left, rotated_right, appended, extracted, with_width, sign_extended}
use Rattle.blast_shift.specs.Stages.{variable_shift, variable_shift_signed}

-- the edge of a truth
abbrev pub truth_of : List Edge → Edge
truth_of es = bit_at es 0

-- a truth's row as a circuit
unfoldable pub single : Row Edge → Row (List Edge)
single row = do
  e ← row
  plain (e ∷ [])

-- The row of an operator on one part.
unfoldable pub unary_row : Unary → List Edge → Row (List Edge)
unary_row of.Not xs = plain (map invert xs)
unary_row of.Neg xs = negative xs
unary_row of.Msb xs = single (plain (top_bit xs))
unary_row of.TNot xs = single (plain (invert (truth_of xs)))
unary_row (of.ShlBy n) xs = plain (shifted_left n xs)
unary_row (of.LshrBy n) xs = plain (shifted_right n xs)
unary_row (of.AshrBy n) xs = plain (shifted_right_signed n xs)
unary_row (of.RotL n) xs = plain (rotated_left n xs)
unary_row (of.RotR n) xs = plain (rotated_right n xs)
unary_row (of.Bit i) xs = single (plain (bit_at xs i))
unary_row (of.Extract start len) xs = plain (extracted start len xs)
unary_row (of.SetWidth width) xs = plain (with_width width xs)
unary_row (of.SignExtend width) xs = plain (sign_extended width xs)

-- the sums of two vectors, without the last carry
unfoldable pub sum : List Edge → List Edge → Row (List Edge)
sum xs ys = do
  r ← adder xs ys (constant false)
  plain r.0

-- The row of an operator on two parts.
unfoldable pub binary_row : Binary → List Edge → List Edge → Row (List Edge)
binary_row on.And xs ys = pairwise both xs ys
binary_row on.Or xs ys = pairwise either xs ys
binary_row on.Xor xs ys = pairwise differ xs ys
binary_row on.Add xs ys = sum xs ys
binary_row on.Sub xs ys = difference xs ys
binary_row on.Mul xs ys = product xs ys
binary_row on.Udiv xs ys = quotient xs ys
binary_row on.Umod xs ys = remainder xs ys
binary_row on.Sdiv xs ys = signed_quotient xs ys
binary_row on.Srem xs ys = signed_remainder xs ys
binary_row on.Smod xs ys = signed_modulus xs ys
binary_row on.Append xs ys = plain (appended xs ys)
binary_row on.Shl xs ys = variable_shift shifted_left xs ys
binary_row on.Lshr xs ys = variable_shift shifted_right xs ys
binary_row on.Ashr xs ys = variable_shift_signed xs ys
binary_row on.Eq xs ys = single (equal xs ys)
binary_row on.Ult xs ys = single (less xs ys)
binary_row on.Ule xs ys = single (at_most xs ys)
binary_row on.Slt xs ys = single (signed_less xs ys)
binary_row on.Sle xs ys = single (signed_at_most xs ys)
binary_row on.TAnd xs ys = single (both (truth_of xs) (truth_of ys))
binary_row on.TOr xs ys = single (either (truth_of xs) (truth_of ys))
binary_row on.TXor xs ys = single (differ (truth_of xs) (truth_of ys))
binary_row on.Implies xs ys = single (implication (truth_of xs) (truth_of ys))
binary_row on.TEq xs ys = single (equivalence (truth_of xs) (truth_of ys))

-- The circuit of a term: its parts from left to right, then its node.
unfoldable pub circuit : Term → Row (List Edge)
circuit (vector v) = plain (constants v)
circuit (variable k w) = plain (inputs k w)
circuit (truth b) = single (plain (constant b))
circuit (truth_variable k) = single (plain (input false k 0))
circuit (unary op x) = do
  xs ← circuit x
  unary_row op xs
circuit (binary op x y) = do
  xs ← circuit x
  ys ← circuit y
  binary_row op xs ys
circuit (vector_choice c x y) = do
  cs ← circuit c
  xs ← circuit x
  ys ← circuit y
  chosen (truth_of cs) xs ys
circuit (truth_choice c x y) = do
  cs ← circuit c
  xs ← circuit x
  ys ← circuit y
  single (choice (truth_of cs) (truth_of xs) (truth_of ys))

-- The edge of a truth.
unfoldable pub truth_row : Term → Row Edge
truth_row t = do
  es ← circuit t
  plain (truth_of es)

-- an edge and a hypothesis
unfoldable pub and_hypothesis : Edge → Term → Row Edge
and_hypothesis e t = do
  c ← truth_row t
  both e c

-- all hypotheses, from the first on
unfoldable pub all_hypotheses : List Term → Row Edge
all_hypotheses hyps = along and_hypothesis (constant true) hyps

-- an edge and not the conclusion
unfoldable pub and_not_conclusion : Edge → Term → Row Edge
and_not_conclusion e t = do
  c ← truth_row t
  both e (invert c)

-- The edge that is true exactly for the values that make all hypotheses true and the conclusion false.
unfoldable pub falsifying_row : List Term → Term → Row Edge
falsifying_row hyps concl = do
  e ← all_hypotheses hyps
  and_not_conclusion e concl

-- The goal's edge: that of the goal in normal form.
unfoldable pub goal_row : List Term → Term → Row Edge
goal_row hyps concl = falsifying_row (map normal hyps) (normal concl)
