-- Paths, token by token.
use Rattle.std.proofs.Common.{◌≡◌, ℕ, zero, suc, ◌+◌, ◌-◌, ◌≤◌, List, ◌++◌, ap, arith, ◌∙◌, sym, append-nil, append_assoc}
use Rattle.std.specs.Prelude.{flat_map}
use Rattle.std.specs.List.{range_with_len}
use Rattle.bv_typing.specs.Source.{Source, text_at}
use Rattle.bv_typing.specs.Goals.{path_text}

flat_range : (f : ℕ → List ℕ) (i n j : ℕ) → i + n ≡ j → flat_map f (range_with_len i (suc n)) ≡ flat_map f (range_with_len i n) ++ f j
flat_range f i zero j e = let same : i ≡ j = omega (arith, e) in append-nil (f i) ∙ ap f same
flat_range f i (suc n) j e = ap (λ v. f i ++ v) (flat_range f (i + 1) n j (omega (arith, e))) ∙ sym (append_assoc (f i) (flat_map f (range_with_len (i + 1) n)) (f j))

-- one token more
pub path_more : (s : Source) (i j : ℕ) → i ≤ j → path_text s i (j + 1 - i) ≡ path_text s i (j - i) ++ text_at s j
path_more s i j h = let more : j + 1 - i ≡ suc (j - i) = omega (arith, h) in ap (path_text s i) more ∙ flat_range (text_at s) i (j - i) j (omega (arith, h))
