-- What stands at a place, and what is read there.
use Rattle.std.proofs.Common.{◌≡◌, Bool, ℕ, suc, ◌+◌, ◌<◌, ◌≤◌, ◌⊎◌, inl, inr, List, [], ◌∷◌, ◌++◌, length, get_or, drop, Some, sym, arith, ap, ◌∙◌}
use Rattle.std.specs.Prelude.{slice_get}
use Rattle.std.specs.Char.{encode_utf8}
use Rattle.std.proofs.lemmas.Option.{slice_get_within, slice_get-get_or, get_or_from_slice_get}
use Rattle.std.proofs.lemmas.List.{drop_more, get_or_past}
use Rattle.std.proofs.lemmas.Str.{encode_same}
use Rattle.bv_lex.specs.Words.{Stands, IsCharacter}

within_or_past : (i n : ℕ) → (i < n) ⊎ (n ≤ i)
within_or_past i n = grind arith

-- a byte that isn't 0 is read only where it stands
pub here : (bs : List ℕ) (i b : ℕ) → get_or bs i 0 ≡ b → 0 < b → slice_get bs i ≡ Some b
here bs i b e h = elim (within_or_past i (length bs)) [
  | inl lt ↦ slice_get-get_or bs i 0 lt ∙ ap Some e
  | inr ge ↦ absurd (let z : get_or bs i 0 ≡ 0 = get_or_past bs i 0 ge in omega arith)
]

pub read : (bs : List ℕ) (i b : ℕ) → slice_get bs i ≡ Some b → get_or bs i 0 ≡ b
read bs i b h = get_or_from_slice_get bs i b 0 h

pub same_byte : (bs : List ℕ) (i b c : ℕ) → slice_get bs i ≡ Some b → slice_get bs i ≡ Some c → b ≡ c
same_byte bs i b c e f = cc

pub stands_within : (bs w : List ℕ) (i : ℕ) → i ≤ length bs → Stands bs i w → i + length w ≤ length bs
stands_within bs [] i h s = omega arith
stands_within bs (b ∷ w) i h s =
    let lt : i < length bs = slice_get_within bs i b s.0 in
    let rest : i + 1 + length w ≤ length bs = stands_within bs w (i + 1) (omega arith) s.1 in
    omega arith

pub drop_stands : (bs w : List ℕ) (i : ℕ) → Stands bs i w → drop i bs ≡ w ++ drop (i + length w) bs
drop_stands bs [] i s = ap (λ n. drop n bs) (omega arith)
drop_stands bs (b ∷ w) i s =
    let lt : i < length bs = slice_get_within bs i b s.0 in
    let first : get_or bs i 0 ≡ b = read bs i b s.0 in
    let rest : drop (i + 1) bs ≡ w ++ drop (i + 1 + length w) bs = drop_stands bs w (i + 1) s.1 in
    let same : i + 1 + length w ≡ i + suc (length w) = omega arith in
    drop_more bs i 0 lt ∙ (ap (λ x. x ∷ drop (i + 1) bs) first ∙ ap (λ t. b ∷ t) (rest ∙ ap (λ n. w ++ drop n bs) same))

-- one character stands at a place
pub one_character : {p q : ℕ → Bool} (bs : List ℕ) (i n m : ℕ) → IsCharacter p bs i n → IsCharacter q bs i m → n ≡ m
one_character bs i n m x y =
    let a = drop_stands bs (encode_utf8 x.code) i x.here in
    let b = drop_stands bs (encode_utf8 y.code) i y.here in
    let same = (encode_same x.code y.code _ _ (sym a ∙ b)).0 in
    x.bytes ∙ (ap (λ c. length (encode_utf8 c)) same ∙ sym y.bytes)
