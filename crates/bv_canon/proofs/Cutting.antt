-- The bytes of tokens of which each is ready are cut into these tokens.
use Rattle.std.proofs.Common.{◌≡◌, Bool, true, false, ℕ, suc, ◌+◌, List, [], ◌∷◌, ◌++◌, length, take, Some, None, refl, sym, subst, arith, ap, ◌∙◌, codes, length-append, append_assoc}
use Rattle.std.specs.Prelude.{slice_get, slice_range, if◌then◌else◌}
use Rattle.std.specs.Str.{IsUtf8}
use Rattle.std.proofs.lemmas.Str.{IsUtf8-append, utf8_valid_len-IsUtf8}
use Rattle.bvd_text.specs.Places.{place_behind}
use Rattle.bv_lex.specs.declared.token.Token.{Token}
use Rattle.bv_lex.specs.Words.{Stands}
use Rattle.bv_lex.specs.Pieces.{IsFront}
use Rattle.bv_lex.specs.Cut.{utf8_front, Cut, done, skip, token, AreTokens}
use Rattle.bv_lex.specs.Classes.{class_of}
use Rattle.bv_lex.proofs.Longest.{blank_cut}
use Rattle.bv_typing.specs.Source.{source}
use Rattle.bv_canon.specs.Written.{Written, bytes, text}
use Rattle.bv_canon.specs.Reading.{Stand}
use Rattle.bv_canon.proofs.Bytes.{ascii_utf8, front_stands, behind_stands, range_is, end_stands}
use Rattle.bv_canon.proofs.Ready.{Ready, AreReady}

-- the token is of this kind, and spelled so
record IsOf (file : List ℕ) (u : Token) (w : Written) : Type 0 where
  kind : u.kind ≡ w.kind
  text : slice_range file u.from u.to ≡ w.text
  span : u.to ≡ u.from + length w.text

-- and so is each of them
abbrev AreOf : List ℕ → List Token → List Written → Type 0
AreOf file [] [] = Unit {0}
AreOf file [] (w ∷ ws) = ⊥
AreOf file (u ∷ us) [] = ⊥
AreOf file (u ∷ us) (w ∷ ws) = IsOf file u w × AreOf file us ws

-- from i on the file is cut into these tokens
record IsCutInto (file : List ℕ) (i : ℕ) (ws : List Written) : Type 0 where
  tokens : List Token
  cut : Cut file i tokens None
  are : AreOf file tokens ws

-- the bytes behind a token
behind : List Written → List ℕ
behind ws = text ws ++ codes "\n"

space_skipped : (file : List ℕ) (i b : ℕ) (ws : List Written) → utf8_front file ≡ file → slice_get file i ≡ Some b → class_of b ≡ class_of 32 → IsCutInto file (i + 1) ws → IsCutInto file i ws
space_skipped file i b ws utf8 here class r = record {
  tokens = r.tokens;
  cut = skip (subst (λ bs. IsFront bs None i (i + 1)) (sym utf8) (blank_cut file i (record { byte = b; here = here; class = class })).front) r.cut;
  are = r.are;
}

-- a token is cut off
token_cut : (file : List ℕ) (i : ℕ) (w : Written) (ws : List Written) → utf8_front file ≡ file → Stands file i (w.text ++ behind ws) → Ready w (behind ws) → IsCutInto file (i + length w.text) ws → IsCutInto file i (w ∷ ws)
token_cut file i w ws utf8 h ready r =
    let c = ready.1 file i h in
    record {
      tokens = record { kind = w.kind; from = i; to = i + length w.text; place = place_behind (take i file) } ∷ r.tokens;
      cut = token (subst (λ bs. IsFront bs (Some w.kind) i (i + length w.text)) (sym utf8) c.front) c.within r.cut;
      are = (record { kind = refl; text = range_is file i w.text (front_stands file i w.text (behind ws) h); span = refl }, r.are);
    }

spaced_cut : (file : List ℕ) (i : ℕ) (b : Bool) (w : Written) (ws : List Written) → utf8_front file ≡ file → Stands file i ((((if b then codes " " else []) ++ w.text) ++ text ws) ++ codes "\n") → Ready w (behind ws)
    → ((j : ℕ) → Stands file j (behind ws) → j ≡ i + length ((if b then codes " " else []) ++ w.text) → IsCutInto file j ws) → IsCutInto file i (w ∷ ws)
unfolding behind
spaced_cut file i false w ws utf8 h ready rest =
    let here = subst (λ v. Stands file i v) (append_assoc w.text (text ws) (codes "\n")) h in
    token_cut file i w ws utf8 here ready (rest (i + length w.text) (behind_stands file i w.text (behind ws) here) refl)
spaced_cut file i true w ws utf8 h ready rest =
    let here = subst (λ v. Stands file (i + 1) v) (append_assoc w.text (text ws) (codes "\n")) h.1 in
    space_skipped file i 32 (w ∷ ws) utf8 h.0 refl (token_cut file (i + 1) w ws utf8 here ready (rest (i + 1 + length w.text) (behind_stands file (i + 1) w.text (behind ws) here) (omega arith)))

cut_into : (file : List ℕ) (ws : List Written) (i : ℕ) → utf8_front file ≡ file → Stands file i (behind ws) → AreReady ws (codes "\n") → i + length (behind ws) ≡ length file → IsCutInto file i ws
unfolding behind
cut_into file [] i utf8 h ready long = space_skipped file i 10 [] utf8 h.0 refl (record { tokens = []; cut = done long; are = tt })
cut_into file (w ∷ ws) i utf8 h ready long =
    spaced_cut file i w.spaced w ws utf8 h ready.0
    (λ j s e. cut_into file ws j utf8 s ready.1 (omega (arith, e, long, length-append ((if w.spaced then codes " " else []) ++ w.text) (text ws), length-append (text (w ∷ ws)) (codes "\n"), length-append (text ws) (codes "\n"))))

-- ---- what is cut is shown

length-push : (xs : List Token) (x : Token) → length (xs ++ x ∷ []) ≡ length xs + 1
length-push xs x = length-append xs (x ∷ [])

shown : (file : List ℕ) (old us : List Token) (ws : List Written) → AreOf file us ws → Stand (source file (old ++ us)) (length old) ws
shown file old [] [] h = tt
shown file old [] (w ∷ ws) h = absurd h
shown file old (u ∷ us) [] h = tt
shown file old (u ∷ us) (w ∷ ws) h =
    let same : (old ++ u ∷ []) ++ us ≡ old ++ u ∷ us = append_assoc old (u ∷ []) us in (
      record { token = u; here = middle old u us; kind = h.0.kind; text = h.0.text; span = h.0.span },
      subst (λ ts. Stand (source file ts) (length old + 1) ws) same (subst (λ n. Stand (source file ((old ++ u ∷ []) ++ us)) n ws) (length-push old u) (shown file (old ++ u ∷ []) us ws h.1)),
    )
  where
    middle : (old : List Token) (u : Token) (us : List Token) → slice_get (old ++ u ∷ us) (length old) ≡ Some u
    middle [] u us = refl
    middle (x ∷ old) u us = middle old u us

as_many : (file : List ℕ) (us : List Token) (ws : List Written) → AreOf file us ws → length us ≡ length ws
as_many file [] [] h = refl
as_many file [] (w ∷ ws) h = absurd h
as_many file (u ∷ us) [] h = absurd h
as_many file (u ∷ us) (w ∷ ws) h = ap suc (as_many file us ws h.1)

-- the bytes of ready tokens are UTF-8
are_utf8 : (ws : List Written) (r : List ℕ) → AreReady ws r → IsUtf8 (text ws)
are_utf8 [] r h = ascii_utf8 [] refl
are_utf8 (w ∷ ws) r h = IsUtf8-append (bytes w) (text ws) (IsUtf8-append (if w.spaced then codes " " else []) w.text (space_utf8 w.spaced) h.0.0) (are_utf8 ws r h.1)
  where
    space_utf8 : (b : Bool) → IsUtf8 (if b then codes " " else [])
    space_utf8 true = ascii_utf8 (codes " ") refl
    space_utf8 false = ascii_utf8 [] refl

-- the line of ready tokens, as a file, is cut into these tokens
pub record IsLine (file : List ℕ) (ws : List Written) : Type 0 where
  pub tokens : List Token
  pub cut : AreTokens file tokens
  pub stand : Stand (source file tokens) 0 ws
  pub many : length tokens ≡ length ws

pub line_cut : (ws : List Written) → AreReady ws (codes "\n") → IsLine (text ws ++ codes "\n") ws
unfolding behind
line_cut ws ready =
    let file = text ws ++ codes "\n" in
    let valid = utf8_valid_len-IsUtf8 file (IsUtf8-append (text ws) (codes "\n") (are_utf8 ws (codes "\n") ready) (ascii_utf8 (codes "\n") refl)) in
    let utf8 : utf8_front file ≡ file = ap (λ n. take n file) valid ∙ take_whole file in
    let c = cut_into file ws 0 utf8 (all_stands file) ready (omega arith) in
    record { tokens = c.tokens; cut = c.cut; stand = shown file [] c.tokens ws c.are; many = as_many file c.tokens ws c.are }
  where
    take_whole : (xs : List ℕ) → take (length xs) xs ≡ xs
    take_whole [] = refl
    take_whole (x ∷ xs) = ap (λ v. x ∷ v) (take_whole xs)

    all_stands : (file : List ℕ) → Stands file 0 file
    all_stands file = end_stands [] file
