-- Names that are bound one after another.
use Rattle.std.proofs.Common.{◌≡◌, ℕ, ◌+◌, ◌-◌, ◌≤◌, List, [], ◌∷◌, ◌++◌, Option, sym, ap, arith, ◌∙◌, append_assoc}
use Rattle.std.proofs.lemmas.List.FromFn.{map-range_with_len_more}
use Rattle.bv_expr.specs.declared.ops.Sort.{Sort}
use Rattle.bv_typing.specs.declared.variables.Binding.{Binding}
use Rattle.bv_typing.specs.Variables.{placed}

-- one more
pub placed_more : (s : Option Sort) (i j : ℕ) → i ≤ j → placed s i (j + 1 - i) ≡ placed s i (j - i) ++ record { at = j; sort = s } ∷ []
placed_more s i j h =
    let more : j + 1 - i ≡ (j - i) + 1 = omega (arith, h) in
    let last : i + (j - i) ≡ j = omega (arith, h) in
    let make : ℕ → Binding = λ k. record { at = k; sort = s } in
    ap (placed s i) more ∙ map-range_with_len_more make i (j - i) j last

pub placed_next : (s : Option Sort) (i j : ℕ) (xs ys zs : List Binding) → i ≤ j → ys ≡ xs ++ placed s i (j - i) → zs ≡ ys ++ record { at = j; sort = s } ∷ [] → zs ≡ xs ++ placed s i (j + 1 - i)
placed_next s i j xs ys zs h e f =
    f ∙ ap (λ v. v ++ record { at = j; sort = s } ∷ []) e ∙ append_assoc xs (placed s i (j - i)) (record { at = j; sort = s } ∷ []) ∙ ap (λ v. xs ++ v) (sym (placed_more s i j h))

-- all of them
pub placed_all : (s : Option Sort) (i j k : ℕ) → j - i ≤ k - i → k ≤ j → placed s i (j - i) ≡ placed s i (k - i)
placed_all s i j k h l = let same : j - i ≡ k - i = omega (arith, h, l) in ap (placed s i) same
