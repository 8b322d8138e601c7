-- A term with a part that is 1,000 deep isn't held.
use Rattle.std.proofs.Common.{◌≡◌, ℕ, ◌+◌, ◌≤◌, Bool, true, false, ◌&&◌, Option, Some, None, refl, ◌∙◌, ap, arith}
use Rattle.std.specs.Prelude.{nat_le, max, is_some, if◌then◌else◌}
use Rattle.std.proofs.lemmas.Grind.{common_steps}
use Rattle.bv_expr.specs.declared.ops.Sort.{Sort}
use Rattle.bv_expr.specs.declared.ops.Sort.TheVariants.{Truth, Vector}
use Rattle.bv_expr.specs.declared.ops.Binary.{Binary}
use Rattle.bv_expr.specs.Term.{Term, binary, choice, truth_choice, depth}
use Rattle.bv_expr.specs.Sorts.{sort_of}
use Rattle.bv_typing.specs.declared.item.Item.TheVariants.{Made}
use Rattle.bv_terms.specs.Building.{checked, choice_as}

and_false : (b : Bool) → b && false ≡ false
and_false true = refl
and_false false = refl

deep : (t : Term) → nat_le (depth t) 1000 ≡ false → checked t ≡ None
deep t h = ap (λ b. if is_some (sort_of t) && b then Some (Made t) else None) h ∙ ap (λ b. if b then Some (Made t) else None) (and_false (is_some (sort_of t)))

too_deep : (d : ℕ) → 1000 ≤ d → nat_le (d + 1) 1000 ≡ false
too_deep d h = grind (arith, common_steps)

pub deep_binary : (op : Binary) (x y : Term) → 1000 ≤ max (depth x) (depth y) → checked (binary op x y) ≡ None
deep_binary op x y h = deep (binary op x y) (too_deep (max (depth x) (depth y)) h)

pub deep_choice : (s : Option Sort) (c x y : Term) → 1000 ≤ max (depth c) (max (depth x) (depth y)) → checked (choice_as s c x y) ≡ None
deep_choice (Some Truth) c x y h = deep (truth_choice c x y) (too_deep (max (depth c) (max (depth x) (depth y))) h)
deep_choice (Some (Vector w)) c x y h = deep (choice c x y) (too_deep (max (depth c) (max (depth x) (depth y))) h)
deep_choice None c x y h = deep (choice c x y) (too_deep (max (depth c) (max (depth x) (depth y))) h)
