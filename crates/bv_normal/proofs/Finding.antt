-- Which of the rules can fit a node of each kind.
use Rattle.std.proofs.Common.{◌≡◌, true, false, List, [], ◌∷◌, ◌++◌, Option, Some, None, refl, sym, ◌∙◌, ap}
use Rattle.std.specs.Prelude.{◌&&◌}
use Rattle.bv_expr.specs.declared.ops.Unary.{Unary}
use Rattle.bv_expr.specs.declared.ops.Binary.{Binary}
use Rattle.bv_expr.specs.Term.{Term, constant, variable, truth, truth_variable, unary, binary, choice, truth_choice}
use Rattle.bv_expr.specs.Meaning.{meaning}
use Rattle.bv_normal.specs.Constants.{literal, is_constant}
use Rattle.bv_normal.specs.Fitting.{Rule, or_else, first_fit}
use Rattle.bv_normal.specs.Folding.{has_parts, has_constant_parts, constant_parts, undone}
use Rattle.bv_normal.specs.Operands.{equal_cancelled, zero_dropped, zero_kept, one_dropped, ones_kept, equal_joined, operand_rules}
use Rattle.bv_normal.specs.Comparisons.{equal_holds, equal_fails, comparison_rules}
use Rattle.bv_normal.specs.Shifts.{shift_by_constant, shift_by_nothing, shift_past_width}
use Rattle.bv_normal.specs.Choices.{chosen, decided_choice}
use Rattle.bv_normal.specs.Quotients.{product_by_power, division_by_zero, division_by_one, division_by_power, quotient_rules}
use Rattle.bv_normal.specs.Widths.{same_width}
use Rattle.bv_normal.specs.Normal.{rules, rewritten, normal}

or_none : (o : Option Term) → or_else o None ≡ o
or_none (Some t) = refl
or_none None = refl

or_again : (o p q : Option Term) → or_else (or_else o p) q ≡ or_else o (or_else p q)
or_again (Some t) p q = refl
or_again None p q = refl

-- the rules of two lists
both_fit : (list more : List Rule) (t : Term) → first_fit (list ++ more) t ≡ or_else (first_fit list t) (first_fit more t)
unfolding first_fit
both_fit [] more t = refl
both_fit (rule ∷ rest) more t = ap (or_else (rule t)) (both_fit rest more t) ∙ sym (or_again (rule t) (first_fit rest t) (first_fit more t))

-- a leaf stays
pub leaf_normal : (t : Term) → has_parts t ≡ false → normal t ≡ t
unfolding normal rewritten first_fit constant_parts undone equal_cancelled zero_dropped zero_kept one_dropped ones_kept equal_joined equal_holds equal_fails shift_by_constant shift_by_nothing shift_past_width decided_choice product_by_power division_by_zero division_by_one division_by_power same_width
leaf_normal (constant v) e = refl
leaf_normal (variable k w) e = refl
leaf_normal (truth b) e = refl
leaf_normal (truth_variable k) e = refl
leaf_normal t e = cc

pub unary_fit : (op : Unary) (x : Term) → is_constant x ≡ false
    → first_fit rules (unary op x) ≡ or_else (undone (unary op x)) (or_else (shift_by_nothing (unary op x)) (or_else (shift_past_width (unary op x)) (or_else (same_width (unary op x)) None)))
unfolding first_fit constant_parts equal_cancelled zero_dropped zero_kept one_dropped ones_kept equal_joined equal_holds equal_fails shift_by_constant decided_choice product_by_power division_by_zero division_by_one division_by_power
unary_fit op x e = rw e refl

later : List Rule
later = shift_by_constant ∷ shift_by_nothing ∷ shift_past_width ∷ decided_choice ∷ (quotient_rules ++ same_width ∷ [])

begun : (op : Binary) (x y : Term) → is_constant x && is_constant y ≡ false → first_fit rules (binary op x y) ≡ first_fit (operand_rules ++ (comparison_rules ++ later)) (binary op x y)
unfolding first_fit constant_parts undone later
begun op x y e = rw e refl

shifts : (op : Binary) (x y : Term) → first_fit later (binary op x y) ≡ or_else (shift_by_constant (binary op x y)) (first_fit (quotient_rules ++ same_width ∷ []) (binary op x y))
unfolding first_fit shift_by_nothing shift_past_width decided_choice later
shifts op x y = refl

no_width : (op : Binary) (x y : Term) → first_fit (same_width ∷ []) (binary op x y) ≡ None
unfolding first_fit same_width
no_width op x y = refl

ended : (op : Binary) (x y : Term) → first_fit (quotient_rules ++ same_width ∷ []) (binary op x y) ≡ first_fit quotient_rules (binary op x y)
ended op x y = both_fit quotient_rules (same_width ∷ []) (binary op x y) ∙ (ap (or_else (first_fit quotient_rules (binary op x y))) (no_width op x y) ∙ or_none (first_fit quotient_rules (binary op x y)))

pub binary_fit : (op : Binary) (x y : Term) → is_constant x && is_constant y ≡ false
    → first_fit rules (binary op x y) ≡ or_else (first_fit operand_rules (binary op x y)) (or_else (first_fit comparison_rules (binary op x y)) (or_else (shift_by_constant (binary op x y)) (first_fit quotient_rules (binary op x y))))
binary_fit op x y e =
    begun op x y e ∙ (both_fit operand_rules (comparison_rules ++ later) (binary op x y)
    ∙ ap (or_else (first_fit operand_rules (binary op x y))) (both_fit comparison_rules later (binary op x y)
    ∙ ap (or_else (first_fit comparison_rules (binary op x y))) (shifts op x y
    ∙ ap (or_else (shift_by_constant (binary op x y))) (ended op x y))))

pub choice_fit : (c x y : Term) → is_constant c && (is_constant x && is_constant y) ≡ false → first_fit rules (choice c x y) ≡ chosen c x y
unfolding first_fit constant_parts undone equal_cancelled zero_dropped zero_kept one_dropped ones_kept equal_joined equal_holds equal_fails shift_by_constant shift_by_nothing shift_past_width decided_choice product_by_power division_by_zero division_by_one division_by_power same_width
choice_fit c x y e = rw e (or_none (chosen c x y))

pub truth_choice_fit : (c x y : Term) → is_constant c && (is_constant x && is_constant y) ≡ false → first_fit rules (truth_choice c x y) ≡ chosen c x y
unfolding first_fit constant_parts undone equal_cancelled zero_dropped zero_kept one_dropped ones_kept equal_joined equal_holds equal_fails shift_by_constant shift_by_nothing shift_past_width decided_choice product_by_power division_by_zero division_by_one division_by_power same_width
truth_choice_fit c x y e = rw e (or_none (chosen c x y))

-- where all parts are constants, the first rule fits
pub constant_rewritten : (t : Term) → has_constant_parts t ≡ true → rewritten t ≡ literal (meaning t [])
unfolding rewritten first_fit constant_parts
constant_rewritten t e = rw e refl

-- what is found decides what becomes of the node
pub found_rewritten : (t u : Term) → first_fit rules t ≡ Some u → rewritten t ≡ u
unfolding rewritten
found_rewritten t u e = rw e refl

pub none_rewritten : (t : Term) → first_fit rules t ≡ None → rewritten t ≡ t
unfolding rewritten
none_rewritten t e = rw e refl
