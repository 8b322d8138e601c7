-- What stands at a place of a text. A text is a list of bytes, and a place is how many bytes stand before it.
use Rattle.std.specs.Prelude.{◌≡◌, ℕ, ◌+◌, ◌<◌, ◌≤◌, List, [], ◌∷◌, length, Some, slice_get, Bool, IsTrue}
use Rattle.std.specs.Char.{encode_utf8, is_digit}

-- the word w stands at i
abbrev pub Stands : List ℕ → ℕ → List ℕ → Type 0
Stands bs i [] = Unit {0}
Stands bs i (b ∷ w) = (slice_get bs i ≡ Some b) × Stands bs (i + 1) w

-- each byte from i up to j passes the test p
abbrev pub Each : (ℕ → Bool) → List ℕ → ℕ → ℕ → Type 0
Each p bs i j = (k : ℕ) → i ≤ k → k < j → (b : ℕ) × (slice_get bs k ≡ Some b) × IsTrue (p b)

-- one or more digits of a base stand from i up to j
pub record Digits (base : ℕ) (bs : List ℕ) (i j : ℕ) : Type 0 where
  pub some : i < j
  pub each : Each (λ b. is_digit b base) bs i j

-- a character that passes the test p stands at i, with n bytes
pub record IsCharacter (p : ℕ → Bool) (bs : List ℕ) (i n : ℕ) : Type 0 where
  pub code : ℕ
  pub passes : IsTrue (p code)
  pub here : Stands bs i (encode_utf8 code)
  pub bytes : n ≡ length (encode_utf8 code)

-- characters that pass the test p stand from i up to j
pub data Characters (p : ℕ → Bool) (bs : List ℕ) : ℕ → ℕ → Type 0 where
  no_more : {i : ℕ} → Characters p bs i i
  one_more : {i j n : ℕ} → IsCharacter p bs i n → Characters p bs (i + n) j → Characters p bs i j
