-- Tokens are whole characters, so what they spell is text, and so is what stands between the quotes of strings.
use Rattle.std.proofs.Common.{◌≡◌, Bool, true, false, ℕ, zero, suc, ◌+◌, ◌-◌, ◌<◌, ◌≤◌, List, [], ◌∷◌, length, take, Option, Some, None, refl, sym, subst, ap, arith, ◌∙◌}
use Rattle.std.specs.Prelude.{IsUtf8, slice_get, slice_range, if◌then◌else◌}
use Rattle.std.specs.Str.{IsCharBoundary}
use Rattle.std.proofs.lemmas.Str.{IsUtf8-nil, IsUtf8-between, IsCharBoundary-start, utf8_valid_len-IsUtf8}
use Rattle.bv_lex.specs.declared.token.Token.{Token}
use Rattle.bv_lex.specs.declared.token.TokenKind.{TokenKind}
use Rattle.bv_lex.specs.declared.token.TokenKind.TheVariants as kinds
use Rattle.bv_lex.specs.declared.fault.Fault.{Fault}
use Rattle.bv_lex.specs.Pieces.{Piece, blank, line_comment, nested_comment, name, decimal_numeral, prefixed_numeral, string, sign, IsFront}
use Rattle.bv_lex.specs.Cut.{utf8_front, Cut, done, skip, token, stop, AreTokens}
use Rattle.bv_lex.proofs.Bounds.{ahead}
use Rattle.bv_typing.specs.Source.{source, text_of, quoted_in, quoted_of}
use Rattle.bv_terms.specs.Goals.{AreTexts}
use Rattle.bv_terms.proofs.TextPlaces.{before, behind, behind_piece}

-- what is spelled from i up to j by a token of this kind, and what stands inside, where it is a string
pub record IsText (bs : List ℕ) (k : TokenKind) (i j : ℕ) : Type 0 where
  pub spelled : IsUtf8 (slice_range bs i j)
  pub inside : IsUtf8 (quoted_in k (slice_range bs (i + 1) (j - 1)))

word_inside : (t : Bool) (xs : List ℕ) → IsUtf8 (quoted_in (if t then kinds.Reserved else kinds.Name) xs)
word_inside true xs = IsUtf8-nil
word_inside false xs = IsUtf8-nil

-- what stands between two quotes
between_quotes : (bs : List ℕ) → IsUtf8 bs → (i j : ℕ) → slice_get bs i ≡ Some 34 → i + 1 ≤ j → slice_get bs j ≡ Some 34 → IsUtf8 (slice_range bs (i + 1) (j + 1 - 1))
between_quotes bs u i j e h f =
    let same : j + 1 - 1 ≡ j = omega arith in
    subst (λ n. IsUtf8 (slice_range bs (i + 1) n)) (sym same) (IsUtf8-between bs (i + 1) j u h (behind bs u i 34 e (omega arith)) (before bs j 34 f (omega arith)))

carry : {k l : TokenKind} (xs : List ℕ) → Some k ≡ Some l → IsUtf8 (quoted_in k xs) → IsUtf8 (quoted_in l xs)
carry {k} {l} xs e h = let same : k ≡ l = cc in subst (λ v. IsUtf8 (quoted_in v xs)) same h

inside_piece : (bs : List ℕ) → IsUtf8 bs → (k : TokenKind) (i j : ℕ) → Piece bs (Some k) i j → IsUtf8 (quoted_in k (slice_range bs (i + 1) (j - 1)))
inside_piece bs u k i j p = by (Some k) j p k refl
  where
    -- of any piece, where it is a token
    by : (o : Option TokenKind) (j : ℕ) → Piece bs o i j → (k : TokenKind) → o ≡ Some k → IsUtf8 (quoted_in k (slice_range bs (i + 1) (j - 1)))
    by o j (blank g t) k e = cc
    by o j (line_comment s le each) k e = cc
    by o j (nested_comment s c) k e = cc
    by o j (name x r) k e = carry _ e (word_inside _ _)
    by o j (decimal_numeral d) k e = carry _ e IsUtf8-nil
    by o j (prefixed_numeral p s d) k e = carry _ e IsUtf8-nil
    by o j (string {j = q} s le each t) k e = carry _ e (between_quotes bs u i q s.0 le t.0)
    by o j (sign w m s) k e = carry _ e IsUtf8-nil

-- a text is its own front
whole_front : (bytes : List ℕ) → IsUtf8 bytes → utf8_front bytes ≡ bytes
whole_front bytes u = ap (λ n. take n bytes) (utf8_valid_len-IsUtf8 bytes u) ∙ take_all bytes
  where
    take_all : (xs : List ℕ) → take (length xs) xs ≡ xs
    take_all [] = refl
    take_all (x ∷ xs) = ap (λ v. x ∷ v) (take_all xs)

behind_front : (bytes : List ℕ) → IsUtf8 bytes → (k : Option TokenKind) (i j : ℕ) → IsCharBoundary bytes i → IsFront bytes k i j → IsCharBoundary bytes j
behind_front bytes u k i j b f = behind_piece bytes u k i j b f.longest f.piece

-- each token of a cut spells text
tokens_texts : (bytes : List ℕ) → IsUtf8 bytes → (i : ℕ) (ts : List Token) (f : Option Fault) → IsCharBoundary bytes i → Cut bytes i ts f → (n : ℕ) (t : Token) → slice_get ts n ≡ Some t → IsText bytes t.kind t.from t.to
tokens_texts bytes u i ts f b (done h) n t e = cc
tokens_texts bytes u i ts f b (stop h s) n t e = cc
tokens_texts bytes u i ts f b (skip {j} front r) n t e =
    let here = subst (λ v. IsFront v None i j) (whole_front bytes u) front in
    tokens_texts bytes u j ts f (behind_front bytes u None i j b here) r n t e
tokens_texts bytes u i ts f b (token {j} {k} front w r) zero t e =
    let here = subst (λ v. IsFront v (Some k) i j) (whole_front bytes u) front in
    let end = behind_front bytes u (Some k) i j b here in
    let order : i < j = ahead bytes i j (Some k) here.piece in
    let own : IsText bytes k i j = record { spelled = IsUtf8-between bytes i j u (omega arith) b end; inside = inside_piece bytes u k i j here.piece } in
    subst (λ (o : Token). IsText bytes o.kind o.from o.to) (first e) own
  where
    first : {x y : Token} → Some x ≡ Some y → x ≡ y
    first h = cc
tokens_texts bytes u i ts f b (token {j} {k} {ts = us} front w r) (suc n) t e =
    let here = subst (λ v. IsFront v (Some k) i j) (whole_front bytes u) front in
    tokens_texts bytes u j us f (behind_front bytes u (Some k) i j b here) r n t e

-- what the tokens of a text spell
pub are_texts : (bytes : List ℕ) (ts : List Token) → AreTokens bytes ts → IsUtf8 bytes → AreTexts (source bytes ts)
are_texts bytes ts c u = record {
  spelled = λ i. spelled_by (slice_get ts i) (λ t e. (texts i t e).spelled);
  quoted = λ i. quoted_by (slice_get ts i) (λ t e. (texts i t e).inside);
}
  where
    texts : (i : ℕ) (t : Token) → slice_get ts i ≡ Some t → IsText bytes t.kind t.from t.to
    texts = tokens_texts bytes u 0 ts None (IsCharBoundary-start bytes u) c

    spelled_by : (o : Option Token) → ((t : Token) → o ≡ Some t → IsUtf8 (slice_range bytes t.from t.to)) → IsUtf8 (text_of bytes o)
    spelled_by None h = IsUtf8-nil
    spelled_by (Some t) h = h t refl

    quoted_by : (o : Option Token) → ((t : Token) → o ≡ Some t → IsUtf8 (quoted_in t.kind (slice_range bytes (t.from + 1) (t.to - 1)))) → IsUtf8 (quoted_of bytes o)
    quoted_by None h = IsUtf8-nil
    quoted_by (Some t) h = h t refl
