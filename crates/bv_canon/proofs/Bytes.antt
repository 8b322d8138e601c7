-- Bytes that stand in a text, in parts.
use Rattle.std.proofs.Common.{◌≡◌, Bool, true, ℕ, zero, suc, ◌+◌, ◌-◌, ◌<◌, List, [], ◌∷◌, ◌++◌, length, Some, refl, subst, arith, ap₂, ◌∙◌, length-append, append_assoc}
use Rattle.std.specs.Prelude.{slice_get, slice_range, take, drop, nat_lt, All}
use Rattle.std.specs.List.{list_all}
use Rattle.std.specs.Str.{IsUtf8}
use Rattle.std.proofs.lemmas.Grind.{common_steps}
use Rattle.std.proofs.lemmas.List.Elements.{All-nil, All-cons}
use Rattle.std.proofs.lemmas.Str.{IsUtf8-from_ascii}
use Rattle.std.proofs.lemmas.Str.Ascii.{IsAscii-from_all}
use Rattle.std.proofs.Math.Seq.{take-append_seam}
use Rattle.bv_lex.specs.Words.{Stands, IsCharacter, Characters, no_more, one_more}
use Rattle.bv_lex.proofs.Encoding.{and_parts}
use Rattle.bv_lex.proofs.Reading.{drop_stands}

pub front_stands : (bs : List ℕ) (i : ℕ) (u v : List ℕ) → Stands bs i (u ++ v) → Stands bs i u
front_stands bs i [] v h = tt
front_stands bs i (b ∷ u) v h = (h.0, front_stands bs (i + 1) u v h.1)

pub behind_stands : (bs : List ℕ) (i : ℕ) (u v : List ℕ) → Stands bs i (u ++ v) → Stands bs (i + length u) v
behind_stands bs i [] v h = subst (λ k. Stands bs k v) (omega arith) h
behind_stands bs i (b ∷ u) v h = subst (λ k. Stands bs k v) (omega arith) (behind_stands bs (i + 1) u v h.1)

-- the bytes up to the end of a word are that word
pub range_is : (bs : List ℕ) (i : ℕ) (w : List ℕ) → Stands bs i w → slice_range bs i (i + length w) ≡ w
range_is bs i w h = ap₂ take (count i (length w)) (drop_stands bs w i h) ∙ take-append_seam w (drop (i + length w) bs)
  where
    count : (i n : ℕ) → i + n - i ≡ n
    count i n = omega arith

-- a byte of a word that stands in a text
pub byte_at : (bs : List ℕ) (i : ℕ) (w : List ℕ) (k b : ℕ) → Stands bs i w → slice_get w k ≡ Some b → slice_get bs (i + k) ≡ Some b
byte_at bs i [] zero b h e = cc
byte_at bs i [] (suc k) b h e = cc
byte_at bs i (c ∷ w) zero b h e = subst (λ n. slice_get bs n ≡ Some b) (omega arith) (h.0 ∙ e)
byte_at bs i (c ∷ w) (suc k) b h e = subst (λ n. slice_get bs n ≡ Some b) (omega arith) (byte_at bs (i + 1) w k b h.1 e)

-- what stands in a word stands in the text
pub deep_stands : (bs : List ℕ) (i : ℕ) (w : List ℕ) (k : ℕ) (e : List ℕ) → Stands bs i w → Stands w k e → Stands bs (i + k) e
deep_stands bs i w k [] h s = tt
deep_stands bs i w k (b ∷ e) h s = (byte_at bs i w k b h s.0, subst (λ n. Stands bs n e) (omega arith) (deep_stands bs i w (k + 1) e h s.1))

pub deep_character : {p : ℕ → Bool} (bs : List ℕ) (i : ℕ) (w : List ℕ) (k n : ℕ) → Stands bs i w → IsCharacter p w k n → IsCharacter p bs (i + k) n
deep_character bs i w k n h x = record { code = x.code; passes = x.passes; here = deep_stands bs i w k _ h x.here; bytes = x.bytes }

pub deep_characters : {p : ℕ → Bool} (bs : List ℕ) (i : ℕ) (w : List ℕ) (k m : ℕ) → Stands bs i w → Characters p w k m → Characters p bs (i + k) (i + m)
deep_characters bs i w k m h no_more = no_more
deep_characters {p} bs i w k m h (one_more {n} x r) = one_more (deep_character bs i w k n h x) (subst (λ l. Characters p bs l (i + m)) (omega arith) (deep_characters bs i w (k + n) m h r))

-- a text has its own end
pub end_stands : (u w : List ℕ) → Stands (u ++ w) (length u) w
end_stands u [] = tt
end_stands u (b ∷ w) = (middle u b w, subst (λ s. Stands s (length u + 1) w) (append_assoc u (b ∷ []) w) (subst (λ k. Stands ((u ++ b ∷ []) ++ w) k w) (omega (arith, length-append u (b ∷ []))) (end_stands (u ++ b ∷ []) w)))
  where
    middle : (u : List ℕ) (b : ℕ) (w : List ℕ) → slice_get (u ++ b ∷ w) (length u) ≡ Some b
    middle [] b w = refl
    middle (a ∷ u) b w = middle u b w

-- ASCII is UTF-8
abbrev pub is_ascii : ℕ → Bool
is_ascii b = nat_lt b 128

pub ascii_utf8 : (w : List ℕ) → list_all is_ascii w ≡ true → IsUtf8 w
ascii_utf8 w h = IsUtf8-from_ascii w (IsAscii-from_all w (each w h))
  where
    low : (b : ℕ) → nat_lt b 128 ≡ true → b < 128
    low b h = grind (arith, common_steps)

    each : (w : List ℕ) → list_all is_ascii w ≡ true → All (λ b. b < 128) w
    each [] h = All-nil (λ b. b < 128)
    each (b ∷ w) h = let p = and_parts (is_ascii b) (list_all is_ascii w) h in All-cons (λ b. b < 128) b w (low b p.0) (each w p.1)
