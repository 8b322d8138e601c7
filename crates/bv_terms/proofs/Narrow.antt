-- A number of bits above 128 fits no term.
use Rattle.std.proofs.Common.{◌≡◌, ℕ, Bool, true, false, ◌&&◌, Option, Some, None, refl, sym, ◌∙◌, ap}
use Rattle.std.specs.Prelude.{nat_le, is_some, if◌then◌else◌, option_and_then}
use Rattle.bv_expr.specs.declared.ops.Sort.{Sort}
use Rattle.bv_expr.specs.declared.ops.Sort.TheVariants.{Truth, Vector}
use Rattle.bv_expr.specs.declared.ops.Unary.{Unary}
use Rattle.bv_expr.specs.declared.ops.Unary.TheVariants as of
use Rattle.bv_expr.specs.Term.{Term, unary, depth}
use Rattle.bv_expr.specs.Sorts.{vectors, unary_sort, sort_of}
use Rattle.bv_typing.specs.declared.item.Item.TheVariants.{Made}
use Rattle.bv_terms.specs.Building.{checked, is_narrow, narrow}

and_false : (b : Bool) → b && false ≡ false
and_false true = refl
and_false false = refl

no_vectors : (w : ℕ) → nat_le w 128 ≡ false → vectors w ≡ None
no_vectors w h = ap (λ b. if nat_le 1 w && b then Some (Vector w) else None) h ∙ ap (λ b. if b then Some (Vector w) else None) (and_false (nat_le 1 w))

-- such an operator has no sort
wide_sort : (op : Unary) (s : Option Sort) → is_narrow op ≡ false → option_and_then (unary_sort op) s ≡ None
wide_sort op None h = refl
wide_sort (of.Extract start w) (Some Truth) h = refl
wide_sort (of.SetWidth w) (Some Truth) h = refl
wide_sort (of.SignExtend w) (Some Truth) h = refl
wide_sort (of.Extract start w) (Some (Vector v)) h = no_vectors w h
wide_sort (of.SetWidth w) (Some (Vector v)) h = no_vectors w h
wide_sort (of.SignExtend w) (Some (Vector v)) h = no_vectors w h
wide_sort of.Not (Some s) h = cc
wide_sort of.Neg (Some s) h = cc
wide_sort of.Msb (Some s) h = cc
wide_sort of.TNot (Some s) h = cc
wide_sort (of.ShlBy n) (Some s) h = cc
wide_sort (of.LshrBy n) (Some s) h = cc
wide_sort (of.AshrBy n) (Some s) h = cc
wide_sort (of.RotL n) (Some s) h = cc
wide_sort (of.RotR n) (Some s) h = cc
wide_sort (of.Bit n) (Some s) h = cc

wide_item : (op : Unary) (x : Term) → is_narrow op ≡ false → checked (unary op x) ≡ None
wide_item op x h = ap (λ s. if is_some s && nat_le (depth (unary op x)) 1000 then Some (Made (unary op x)) else None) (wide_sort op (sort_of x) h)

narrowed : (op : Unary) (x : Term) (b : Bool) → is_narrow op ≡ b → option_and_then (λ o. checked (unary o x)) (if b then Some op else None) ≡ checked (unary op x)
narrowed op x true h = refl
narrowed op x false h = sym (wide_item op x h)

-- what is made by an operator is made by a narrow one
pub narrow_checked : (op : Unary) (x : Term) → option_and_then (λ o. checked (unary o x)) (narrow op) ≡ checked (unary op x)
narrow_checked op x = narrowed op x (is_narrow op) refl
