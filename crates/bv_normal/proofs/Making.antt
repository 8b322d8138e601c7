-- Which nodes are terms.
use Rattle.std.proofs.Common.{◌≡◌, ℕ, ◌≤◌, Bool, true, false, [], Some, None, refl, sym, ◌∙◌, arith}
use Rattle.std.specs.Prelude.{◌&&◌, if◌then◌else◌}
use Rattle.bv_value.specs.BitVector.{BitVector, IsBitVector}
use Rattle.bv_expr.specs.declared.ops.Unary.{Unary}
use Rattle.bv_expr.specs.declared.ops.Binary.{Binary}
use Rattle.bv_expr.specs.declared.ops.Binary.TheVariants as on
use Rattle.bv_expr.specs.Meaning.{meaning, HasValues}
use Rattle.bv_expr.specs.Term.{Term, constant, variable, truth, truth_variable, unary, binary, choice, truth_choice}
use Rattle.bv_expr.specs.Sorts.{IsExpr, KeepsNumberBelow64, sort_of}
use Rattle.bv_normal.specs.declared.rewrites.Rewrite.{Rewrite}
use Rattle.bv_normal.specs.declared.rewrites.Operand.{Operand}
use Rattle.bv_normal.specs.Constants.{literal, width, number_like, is_constant}
use Rattle.bv_normal.specs.Choices.{chosen}
use Rattle.bv_normal.specs.Fitting.{first_fit}
use Rattle.bv_normal.specs.Folding.{has_parts, has_constant_parts}
use Rattle.bv_normal.specs.Normal.{rules, rewritten}
use Rattle.bv_normal.specs.Parts.{choice_of}
use Rattle.bv_normal.specs.Rewrites.{has_one_part, of_one, of_two}
use Rattle.bv_normal.proofs.Finding.{constant_rewritten, found_rewritten, none_rewritten, choice_fit, truth_choice_fit}
use Rattle.bv_normal.proofs.Keeping.{vectors_is}
use Rattle.bv_normal.proofs.Normalising.{rewritten_ready}
use Rattle.bv_normal.proofs.SafeFolding.{closed}
use Rattle.bv_normal.proofs.Sorting.{binary_right, len_within}

pub numbered : (t : Term) → IsExpr t → KeepsNumberBelow64 t
numbered (constant v) ex = tt
numbered (variable k w) ex = ex.leaves
numbered (truth b) ex = tt
numbered (truth_variable k) ex = ex.leaves
numbered (unary op x) ex = tt
numbered (binary op x y) ex = tt
numbered (choice c x y) ex = tt
numbered (truth_choice c x y) ex = tt

pub vector_expr : (v : BitVector) → IsBitVector v → IsExpr (constant v)
vector_expr v fits = record { sorted = rw (vectors_is v.width fits.positive fits.at_most_128) refl; leaves = fits; shallow = omega arith }

pub truth_expr : (b : Bool) → IsExpr (truth b)
truth_expr b = record { sorted = refl; leaves = tt; shallow = omega arith }

pub one_has_parts : (t : Term) → has_one_part t ≡ true → has_parts t ≡ true
one_has_parts (unary op x) e = refl
one_has_parts t e = cc

-- the width of a constant that is a term
pub number_positive : (x : Term) (n : ℕ) → IsExpr (number_like x n) → 1 ≤ width x
number_positive x n ex = (len_within (width x) ex.sorted).0

pub number_within : (x : Term) (n : ℕ) → IsExpr (number_like x n) → width x ≤ 128
number_within x n ex = (len_within (width x) ex.sorted).1

pub mask_positive : (x : Term) (n : ℕ) → IsExpr (binary on.And x (number_like x n)) → 1 ≤ width x
mask_positive x n ex = (len_within (width x) (binary_right on.And (sort_of x) (sort_of (number_like x n)) ex.sorted)).0

pub mask_within : (x : Term) (n : ℕ) → IsExpr (binary on.And x (number_like x n)) → width x ≤ 128
mask_within x n ex = (len_within (width x) (binary_right on.And (sort_of x) (sort_of (number_like x n)) ex.sorted)).1

-- a node of constants
pub closed_values : (t : Term) → has_constant_parts t ≡ true → HasValues [] t
closed_values t e = (closed t e).has

-- what was found, in the node's place
pub found_one : (op : Unary) (x : Term) (r : Rewrite) → first_fit rules (unary op x) ≡ Some (of_one x r) → rewritten (unary op x) ≡ of_one x r
found_one op x r e = found_rewritten (unary op x) (of_one x r) e

pub one_ready : (op : Unary) (x : Term) (r : Rewrite) → IsExpr (unary op x) → first_fit rules (unary op x) ≡ Some (of_one x r) → IsExpr (of_one x r)
one_ready op x r ex e = rewritten_ready (unary op x) (of_one x r) ex e

pub found_two : (op : Binary) (x y : Term) (r : Operand) → first_fit rules (binary op x y) ≡ Some (of_two x y r) → rewritten (binary op x y) ≡ of_two x y r
found_two op x y r e = found_rewritten (binary op x y) (of_two x y r) e

pub two_ready : (op : Binary) (x y : Term) (r : Operand) → IsExpr (binary op x y) → first_fit rules (binary op x y) ≡ Some (of_two x y r) → IsExpr (of_two x y r)
two_ready op x y r ex e = rewritten_ready (binary op x y) (of_two x y r) ex e

choice_of_fit : (truths : Bool) (c x y : Term) → is_constant c && (is_constant x && is_constant y) ≡ false → first_fit rules (choice_of truths c x y) ≡ chosen c x y
choice_of_fit true c x y e = truth_choice_fit c x y e
choice_of_fit false c x y e = choice_fit c x y e

pub choice_found : (truths : Bool) (c x y : Term) (b : Bool) → is_constant c && (is_constant x && is_constant y) ≡ false → Some (if b then x else y) ≡ chosen c x y
    → rewritten (choice_of truths c x y) ≡ (if b then x else y)
choice_found truths c x y b e h = found_rewritten (choice_of truths c x y) (if b then x else y) (choice_of_fit truths c x y e ∙ sym h)

pub choice_stays : (truths : Bool) (c x y : Term) → is_constant c && (is_constant x && is_constant y) ≡ false → None ≡ chosen c x y
    → rewritten (choice_of truths c x y) ≡ choice_of truths c x y
choice_stays truths c x y e h = none_rewritten (choice_of truths c x y) (choice_of_fit truths c x y e ∙ sym h)

choice_parts : (truths : Bool) (c x y : Term) → is_constant c && (is_constant x && is_constant y) ≡ true → has_constant_parts (choice_of truths c x y) ≡ true
choice_parts true c x y e = e
choice_parts false c x y e = e

pub closed_choice : (truths : Bool) (c x y : Term) → is_constant c && (is_constant x && is_constant y) ≡ true → HasValues [] (choice_of truths c x y)
closed_choice truths c x y e = closed_values (choice_of truths c x y) (choice_parts truths c x y e)

pub choice_evaluated : (truths : Bool) (c x y : Term) → is_constant c && (is_constant x && is_constant y) ≡ true
    → rewritten (choice_of truths c x y) ≡ literal (meaning (choice_of truths c x y) [])
choice_evaluated truths c x y e = constant_rewritten (choice_of truths c x y) (choice_parts truths c x y e)
