-- Prefix operators make their terms of what their part puts on the stack, and the part of an ascription is read at its sort.
use Rattle.std.proofs.Common.{◌≡◌, ℕ, Option, Some, None, ◌∙◌, ap}
use Rattle.bv_grammar.specs.declared.words.Word.{Word}
use Rattle.bv_grammar.specs.declared.words.Word.TheVariants as words
use Rattle.bv_expr.specs.declared.ops.Sort.{Sort}
use Rattle.bv_expr.specs.declared.ops.Sort.TheVariants.{Truth, Vector}
use Rattle.bv_expr.specs.declared.ops.Unary.{Unary}
use Rattle.bv_expr.specs.Term.{Term, unary}
use Rattle.bv_typing.specs.declared.item.Item.{Item}
use Rattle.bv_typing.specs.declared.item.Item.TheVariants.{Made}
use Rattle.bv_typing.specs.declared.kind.Kind.{Kind}
use Rattle.bv_typing.specs.declared.kind.Kind.TheVariants as kind
use Rattle.bv_typing.specs.declared.kind.Row.TheVariants as row
use Rattle.bv_typing.specs.Rows.{negation_row, prefix_row}
use Rattle.bv_typing.specs.Readings.{told_or, width_of_sort, ascribed_to}
use Rattle.bv_terms.specs.Sorting.{Readable}
use Rattle.bv_terms.specs.Building.{unary_item}
use Rattle.bv_terms.proofs.Within.{Within}
use Rattle.bv_terms.proofs.Joining.{arithmetic_parts}
use Rattle.bv_terms.proofs.Built.{checked_made}
use Rattle.bv_terms.proofs.FoldParts.{Fitting}

-- ---- prefix operators

negated : (w : ℕ) (j k : Kind) → negation_row j ≡ row.Typed k → Readable w j
negated w (kind.Sorted Truth) k h = tt
negated w (kind.Sorted (Vector u)) k h = cc
negated w kind.Bare k h = cc
negated w (kind.Number n) k h = cc

-- its part is read as the whole
pub prefix_part : (o : Word) (w : ℕ) (j k : Kind) → prefix_row o j ≡ row.Typed k → Readable w k → Readable w j
prefix_part words.Complement w j k h r = (arithmetic_parts w j k h r).3
prefix_part words.Minus w j k h r = (arithmetic_parts w j k h r).3
prefix_part words.Not w j k h r = negated w j k h
prefix_part words.BoolNot w j k h r = negated w j k h
prefix_part _ w j k h r = cc

pub prefix_made : (op : Unary) (x : Item) (s : Term) → x ≡ Made s → Fitting (unary op s) → unary_item op x ≡ Some (Made (unary op s))
prefix_made op x s e c = ap (unary_item op) e ∙ checked_made (unary op s) c.0 c.1 c.2

-- ---- ascriptions

-- its part is read at the width that is written, or at that of the whole
pub ascribed_part_read : (o : Option Sort) → Within o → (w : ℕ) (j k : Kind) → ascribed_to o j ≡ row.Typed k → Readable (told_or w (width_of_sort o)) j
ascribed_part_read None b w j k h = cc
ascribed_part_read (Some Truth) b w (kind.Sorted s) k h = tt
ascribed_part_read (Some Truth) b w kind.Bare k h = cc
ascribed_part_read (Some Truth) b w (kind.Number n) k h = cc
ascribed_part_read (Some (Vector u)) b w (kind.Sorted s) k h = tt
ascribed_part_read (Some (Vector u)) b w kind.Bare k h = b
ascribed_part_read (Some (Vector u)) b w (kind.Number n) k h = b
