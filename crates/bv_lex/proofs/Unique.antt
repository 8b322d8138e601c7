-- Bytes have one cut.
use Rattle.std.proofs.Common.{◌≡◌, ℕ, ◌+◌, ◌<◌, ◌^◌, List, ◌∷◌, length, get_or, take, Option, Some, None, refl, sym, subst, arith, ap, ◌∙◌}
use Rattle.std.specs.Prelude.{slice_range}
use Rattle.std.specs.Str.Parse.{digits_value}
use Rattle.std.proofs.lemmas.Option.{slice_get-get_or}
use Rattle.bvd_text.specs.declared.cursor.Place.{Place}
use Rattle.bvd_text.specs.Places.{place_behind}
use Rattle.bv_lex.specs.declared.token.Token.{Token}
use Rattle.bv_lex.specs.declared.token.TokenKind.{TokenKind}
use Rattle.bv_lex.specs.declared.token.TokenKind.TheVariants.{Numeral}
use Rattle.bv_lex.specs.declared.classes.Class.{Class}
use Rattle.bv_lex.specs.declared.fault.Fault.{Fault}
use Rattle.bv_lex.specs.declared.fault.FaultKind.{FaultKind}
use Rattle.bv_lex.specs.Signs.{kind_of_word}
use Rattle.bv_lex.specs.Pieces.{Piece, IsFront}
use Rattle.bv_lex.specs.Cut.{utf8_front, IsWithin, Stops, bad, large, Cut, done, skip, token, stop}
use Rattle.bv_lex.specs.Laws.{OneCut}
use Rattle.bv_lex.specs.Classes.{class_of, Begins}
use Rattle.bv_lex.proofs.Nesting.{closes_ahead}
use Rattle.bv_lex.proofs.Bounds.{starts}
use Rattle.bv_lex.proofs.Shapes.{Shape, a_blank, a_word, a_decimal, a_prefixed, a_string, a_line, a_nested, a_sign, shape, short_sign}
use Rattle.bv_lex.proofs.Longest.{one_prefix, short_decimal}
use Rattle.bv_lex.proofs.Kept.{front_within}

-- of pieces with the same ends at a byte of one class the kind is one
same_kind : (bs : List ℕ) (i j m : ℕ) (x : Class) (k l : Option TokenKind) → Shape bs i x k j → Shape bs i x l m → j ≡ m → k ≡ l
same_kind bs i j m x k l a_blank a_blank e = refl
same_kind bs i j m x k l a_blank (a_sign w out c t) e = absurd out
same_kind bs i j m x k l (a_word y r) (a_word z q) e = ap (λ n. Some (kind_of_word (slice_range bs i n))) e
same_kind bs i j m x k l (a_word y r) (a_sign w out c t) e = absurd out
same_kind bs i j m x k l (a_decimal d) (a_decimal g) e = ap (λ n. Some (Numeral (digits_value 10 (slice_range bs i n)))) e
same_kind bs i j m x k l (a_decimal d) (a_prefixed {base} {w} p s g) e = absurd (let short = short_decimal bs i j w base p s d in let lt = g.some in omega arith)
same_kind bs i j m x k l (a_decimal d) (a_sign w out c t) e = absurd out
same_kind bs i j m x k l (a_prefixed {base} {w} p s d) (a_decimal g) e = absurd (let short = short_decimal bs i m w base p s g in let lt = d.some in omega arith)
same_kind bs i j m x k l (a_prefixed {base} {w} p s d) (a_prefixed {base = c} {w = v} q t g) e =
    ap (λ n. Some (Numeral (digits_value base (slice_range bs (i + 2) n)))) e ∙ ap (λ b. Some (Numeral (digits_value b (slice_range bs (i + 2) m)))) (one_prefix bs i w v base c p s q t)
same_kind bs i j m x k l (a_prefixed p s d) (a_sign w out c t) e = absurd out
same_kind bs i j m x k l (a_string le r q) (a_string ge s t) e = refl
same_kind bs i j m x k l (a_string le r q) (a_sign w out c t) e = absurd out
same_kind bs i j m x k l (a_line s le r) (a_line t ge q) e = refl
same_kind bs i j m x k l (a_line s le r) (a_sign w of_sign c t) e = absurd (let short = short_sign bs i w c t 45 refl s.0 s.1.0 in omega arith)
same_kind bs i j m x k l (a_nested s c) (a_nested t d) e = refl
same_kind bs i j m x k l (a_nested s c) (a_sign w of_sign d t) e = absurd (let short = short_sign bs i w d t 47 refl s.0 s.1.0 in let le = closes_ahead c in omega arith)
same_kind bs i j m x k l (a_sign w out c t) a_blank e = absurd out
same_kind bs i j m x k l (a_sign w out c t) (a_word y r) e = absurd out
same_kind bs i j m x k l (a_sign w out c t) (a_decimal d) e = absurd out
same_kind bs i j m x k l (a_sign w out c t) (a_prefixed p s d) e = absurd out
same_kind bs i j m x k l (a_sign w out c t) (a_string le r q) e = absurd out
same_kind bs i j m x k l (a_sign w of_sign c t) (a_line s le r) e = absurd (let short = short_sign bs i w c t 45 refl s.0 s.1.0 in omega arith)
same_kind bs i j m x k l (a_sign w of_sign c t) (a_nested s d) e = absurd (let short = short_sign bs i w c t 47 refl s.0 s.1.0 in let le = closes_ahead d in omega arith)
same_kind bs i j m x k l (a_sign w a c t) (a_sign v b d s) e = refl

-- a byte stands where a piece begins
some_class : (bs : List ℕ) (i j : ℕ) (k : Option TokenKind) → Piece bs k i j → (x : Class) × Begins bs i x
some_class bs i j k p = let lt = starts bs i j k p in (class_of (get_or bs i 0), record { byte = get_or bs i 0; here = slice_get-get_or bs i 0 lt; class = refl })

one_end : (bs : List ℕ) (i j m : ℕ) (k l : Option TokenKind) → IsFront bs k i j → IsFront bs l i m → j ≡ m
one_end bs i j m k l f g = let le = f.longest l m g.piece in let ge = g.longest k j f.piece in omega arith

one_kind : (bs : List ℕ) (i j m : ℕ) (k l : Option TokenKind) → IsFront bs k i j → IsFront bs l i m → k ≡ l
one_kind bs i j m k l f g =
    let x = some_class bs i j k f.piece in
    same_kind bs i j m x.0 k l (shape bs i j k x.0 f.piece x.1) (shape bs i m l x.0 g.piece x.1) (one_end bs i j m k l f g)

begins_within : (bytes : List ℕ) (i j : ℕ) (k : Option TokenKind) → IsFront (utf8_front bytes) k i j → i < length bytes
begins_within bytes i j k f = let lt = starts (utf8_front bytes) i j k f.piece in let le = front_within bytes in omega arith

no_stop : (bs : List ℕ) (i j : ℕ) (k : Option TokenKind) (x : FaultKind) → IsFront bs k i j → ((n : ℕ) → k ≡ Some (Numeral n) → n < 2 ^ 128) → Stops bs i x → ⊥
no_stop bs i j k x f small (bad b) = f.sound b
no_stop bs i j k x f small (large {n} {j = m} g h) = let lt = small n (one_kind bs i j m k (Some (Numeral n)) f g) in omega arith

one_stop : (bs : List ℕ) (i : ℕ) (x y : FaultKind) → Stops bs i x → Stops bs i y → x ≡ y
one_stop bs i x y (bad b) (bad c) = refl
one_stop bs i x y (bad b) (large g h) = absurd (g.sound b)
one_stop bs i x y (large g h) (bad c) = absurd (g.sound c)
one_stop bs i x y (large g h) (large f k) = refl

token_within : (k : TokenKind) → IsWithin k → (n : ℕ) → Some k ≡ Some (Numeral n) → n < 2 ^ 128
token_within k w n e = let same : k ≡ Numeral n = (cc) in subst IsWithin same w

one_from : (bytes : List ℕ) (i : ℕ) (ts us : List Token) (f g : Option Fault) → Cut bytes i ts f → Cut bytes i us g → (ts ≡ us) × (f ≡ g)
one_from bytes i ts us f g (done e) (done h) = (refl, refl)
one_from bytes i ts us f g (done e) (skip {j} x r) = absurd (let lt = begins_within bytes i j None x in omega arith)
one_from bytes i ts us f g (done e) (token {j} {k} x w r) = absurd (let lt = begins_within bytes i j (Some k) x in omega arith)
one_from bytes i ts us f g (done e) (stop lt s) = absurd (omega arith)
one_from bytes i ts us f g (skip {j} x r) (done h) = absurd (let lt = begins_within bytes i j None x in omega arith)
one_from bytes i ts us f g (skip {j} x r) (skip {j = m} y q) = one_from bytes j ts us f g r (subst (λ n. Cut bytes n us g) (one_end (utf8_front bytes) i m j None None y x) q)
one_from bytes i ts us f g (skip {j} x r) (token {j = m} {k} y w q) = absurd (let e = one_kind (utf8_front bytes) i j m None (Some k) x y in (cc))
one_from bytes i ts us f g (skip {j} x r) (stop {k} lt s) = absurd (no_stop (utf8_front bytes) i j None k x (λ n e. absurd (cc)) s)
one_from bytes i ts us f g (token {j} {k} x w r) (done h) = absurd (let lt = begins_within bytes i j (Some k) x in omega arith)
one_from bytes i ts us f g (token {j} {k} x w r) (skip {j = m} y q) = absurd (let e = one_kind (utf8_front bytes) i j m (Some k) None x y in (cc))
one_from bytes i ts us f g (token {j} {k} {ts = vs} x w r) (token {j = m} {k = l} {ts = ws} y v q) =
    let ends : j ≡ m = one_end (utf8_front bytes) i j m (Some k) (Some l) x y in
    let kinds : Some k ≡ Some l = one_kind (utf8_front bytes) i j m (Some k) (Some l) x y in
    let rest = one_from bytes j vs ws f g r (subst (λ n. Cut bytes n ws g) (sym ends) q) in
    (same_tokens k l i j m (place_behind (take i bytes)) vs ws (cc) ends rest.0, rest.1)
  where
    same_tokens : (k l : TokenKind) (i j m : ℕ) (p : Place) (vs ws : List Token) → k ≡ l → j ≡ m → vs ≡ ws
        → (let t : Token = record { kind = k; from = i; to = j; place = p } in let u : Token = record { kind = l; from = i; to = m; place = p } in ◌≡◌ {A = List Token} (t ∷ vs) (u ∷ ws))
    same_tokens k l i j m p vs ws a b c = rw (a, b, c) refl
one_from bytes i ts us f g (token {j} {k} x w r) (stop {k = l} lt s) = absurd (no_stop (utf8_front bytes) i j (Some k) l x (token_within k w) s)
one_from bytes i ts us f g (stop lt s) (done h) = absurd (omega arith)
one_from bytes i ts us f g (stop {k} lt s) (skip {j} x r) = absurd (no_stop (utf8_front bytes) i j None k x (λ n e. absurd (cc)) s)
one_from bytes i ts us f g (stop {k} lt s) (token {j} {k = l} x w r) = absurd (no_stop (utf8_front bytes) i j (Some l) k x (token_within l w) s)
one_from bytes i ts us f g (stop {k} lt s) (stop {k = l} gt t) = (refl, same_fault k l (place_behind (take i bytes)) (one_stop (utf8_front bytes) i k l s t))
  where
    same_fault : (k l : FaultKind) (p : Place) → k ≡ l → (let x : Fault = record { kind = k; place = p } in let y : Fault = record { kind = l; place = p } in ◌≡◌ {A = Option Fault} (Some x) (Some y))
    same_fault k l p e = rw e refl

pub one_cut : (bytes : List ℕ) → OneCut bytes
one_cut bytes ts us f g c d = one_from bytes 0 ts us f g c d
