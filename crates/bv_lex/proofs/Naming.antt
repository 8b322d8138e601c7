-- Where the characters of a name end.
use Rattle.std.proofs.Common.{◌≡◌, Bool, ℕ, ◌+◌, ◌<◌, ◌≤◌, ◌⊎◌, inl, inr, List, length, subst, arith}
use Rattle.std.specs.Char.{encode_utf8, len_utf8}
use Rattle.std.proofs.lemmas.Str.{length-encode, len_utf8_bounds}
use Rattle.bv_lex.specs.Words.{IsCharacter, Characters, no_more, one_more}
use Rattle.bv_lex.proofs.Reading.{one_character, stands_within}

pub append_one : {p : ℕ → Bool} {bs : List ℕ} {i k n : ℕ} → Characters p bs i k → IsCharacter p bs k n → Characters p bs i (k + n)
append_one no_more x = one_more x no_more
append_one (one_more y r) x = one_more y (append_one r x)

pub step_on : {p : ℕ → Bool} (bs : List ℕ) (i n m : ℕ) → IsCharacter p bs i n → Characters p bs i m → (m ≤ i + n) ⊎ Characters p bs (i + n) m
step_on bs i n m x no_more = inl (omega arith)
step_on {p} bs i n m x (one_more {n = k} y r) = inr (subst (λ l. Characters p bs (i + l) m) (one_character bs i k n y x) r)

pub ends_here : {p : ℕ → Bool} {bs : List ℕ} {i m : ℕ} → ((n : ℕ) → IsCharacter p bs i n → ⊥) → Characters p bs i m → m ≤ i
ends_here h no_more = omega arith
ends_here h (one_more {n} y r) = absurd (h n y)

pub character_within : {p : ℕ → Bool} (bs : List ℕ) (i n : ℕ) → i ≤ length bs → IsCharacter p bs i n → i + n ≤ length bs
character_within bs i n h x =
    let w = stands_within bs (encode_utf8 x.code) i h x.here in
    omega (arith, x.bytes)

pub characters_ahead : {p : ℕ → Bool} (bs : List ℕ) (i m : ℕ) → Characters p bs i m → i ≤ m
characters_ahead bs i m no_more = omega arith
characters_ahead bs i m (one_more {n} y r) = let k = characters_ahead bs (i + n) m r in omega arith

pub some_bytes : {p : ℕ → Bool} (bs : List ℕ) (i n : ℕ) → IsCharacter p bs i n → 0 < n
some_bytes bs i n x =
    let size : length (encode_utf8 x.code) ≡ len_utf8 x.code = length-encode x.code in
    let some : 1 ≤ len_utf8 x.code = (len_utf8_bounds x.code).0 in
    omega (arith, x.bytes)
