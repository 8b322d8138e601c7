-- What is cut so far, and what is cut then.
use Rattle.std.proofs.Common.{◌≡◌, ℕ, zero, suc, ◌<◌, ◌≤◌, List, [], ◌∷◌, ◌++◌, length, get_or, take, Option, Some, None, refl, sym, subst, arith, ap, ◌∙◌, append_assoc}
use Rattle.std.specs.Str.Lossy.{utf8_valid_len}
use Rattle.std.proofs.lemmas.List.{append-nil, length-take-le}
use Rattle.std.proofs.lemmas.Str.{utf8_valid_len_le}
use Rattle.bvd_text.specs.declared.cursor.Place.{Place}
use Rattle.bvd_text.specs.Places.{place_behind}
use Rattle.bv_lex.specs.declared.token.Token.{Token}
use Rattle.bv_lex.specs.declared.token.TokenKind.{TokenKind}
use Rattle.bv_lex.specs.declared.fault.Fault.{Fault}
use Rattle.bv_lex.specs.declared.fault.FaultKind.{FaultKind}
use Rattle.bv_lex.specs.declared.fault.FaultKind.TheVariants.{Lex}
use Rattle.bv_lex.specs.Pieces.{IsFront, stray}
use Rattle.bv_lex.specs.Cut.{utf8_front, Stops, bad, Cut, done, skip, token, stop, AreTokens, IsTokenFault, IsSpanWithin}
use Rattle.bv_lex.specs.Fronts.{IsCutOff}
use Rattle.bv_lex.specs.Kept.{tokens_of}
use Rattle.bv_lex.proofs.Bounds.{ahead, within, starts}

pub front_within : (bytes : List ℕ) → length (utf8_front bytes) ≤ length bytes
front_within bytes = let e = length-take-le (utf8_valid_len bytes) bytes (utf8_valid_len_le bytes) in let le = utf8_valid_len_le bytes in omega arith

same_place : (k : TokenKind) (i j : ℕ) (p q : Place) → p ≡ q → (let t : Token = record { kind = k; from = i; to = j; place = p } in let u : Token = record { kind = k; from = i; to = j; place = q } in t ≡ u)
same_place k i j p q e = rw e refl

-- a piece that is cut off goes before what is cut behind it
pub piece_kept : (bytes : List ℕ) (k : Option TokenKind) (i j : ℕ) (p : Place) (ts : List Token) (f : Option Fault) → IsCutOff (utf8_front bytes) k i j → p ≡ place_behind (take i bytes) → Cut bytes j ts f → Cut bytes i (tokens_of k i j p ++ ts) f
piece_kept bytes None i j p ts f c e r = skip c.front r
piece_kept bytes (Some k) i j p ts f c e r = subst (λ t. Cut bytes i (t ∷ ts) f) (same_place k i j (place_behind (take i bytes)) p (sym e)) (token c.front c.within r)

pub kept_on : (bytes : List ℕ) (k : Option TokenKind) (i j : ℕ) (p : Place) (old new : List Token) → ((ts : List Token) (f : Option Fault) → Cut bytes i ts f → Cut bytes 0 (old ++ ts) f) → IsCutOff (utf8_front bytes) k i j → p ≡ place_behind (take i bytes)
    → new ≡ old ++ tokens_of k i j p → (ts : List Token) (f : Option Fault) → Cut bytes j ts f → Cut bytes 0 (new ++ ts) f
kept_on bytes k i j p old new before c e h ts f r =
    let whole : (old ++ tokens_of k i j p) ++ ts ≡ old ++ (tokens_of k i j p ++ ts) = append_assoc old (tokens_of k i j p) ts in
    subst (λ us. Cut bytes 0 us f) (sym (ap (λ us. us ++ ts) h ∙ whole)) (before (tokens_of k i j p ++ ts) f (piece_kept bytes k i j p ts f c e r))

-- nothing begins at the end
end_stops : (bs : List ℕ) (i : ℕ) → length bs ≤ i → Stops bs i Lex
end_stops bs i h = bad (stray (λ k j p. let lt = starts bs i j k p in omega arith))

pub stopped : (bytes : List ℕ) (i : ℕ) (k : FaultKind) (p : Place) (old : List Token) → ((ts : List Token) (f : Option Fault) → Cut bytes i ts f → Cut bytes 0 (old ++ ts) f) → i < length bytes → p ≡ place_behind (take i bytes) → Stops (utf8_front bytes) i k
    → IsTokenFault bytes (record { kind = k; place = p })
stopped bytes i k p old before lt e s =
    (old ++ [], subst (λ q. Cut bytes 0 (old ++ []) (Some (record { kind = k; place = q }))) (sym e) (before [] (Some (record { kind = k; place = place_behind (take i bytes) })) (stop lt s)))

pub ended : (bytes : List ℕ) (i : ℕ) (p : Place) (old : List Token) → ((ts : List Token) (f : Option Fault) → Cut bytes i ts f → Cut bytes 0 (old ++ ts) f) → i < length bytes → p ≡ place_behind (take i bytes) → length (utf8_front bytes) ≤ i
    → IsTokenFault bytes (record { kind = Lex; place = p })
ended bytes i p old before lt e h = stopped bytes i Lex p old before lt e (end_stops (utf8_front bytes) i h)

pub whole_cut : (bytes : List ℕ) (i : ℕ) (old : List Token) → ((ts : List Token) (f : Option Fault) → Cut bytes i ts f → Cut bytes 0 (old ++ ts) f) → i ≡ length bytes → AreTokens bytes old
whole_cut bytes i old before e = subst (λ ts. Cut bytes 0 ts None) (append-nil old) (before [] None (done e))

-- spans

pub front_ahead : (bytes : List ℕ) (i j : ℕ) (k : Option TokenKind) → IsFront (utf8_front bytes) k i j → (i < j) × (j ≤ length bytes)
front_ahead bytes i j k f = let le = within (utf8_front bytes) i j k f.piece in (ahead (utf8_front bytes) i j k f.piece, (let most = front_within bytes in omega arith))

record IsSpanFrom (n i : ℕ) (t : Token) : Type 0 where
  pub behind : i ≤ t.from
  pub span : IsSpanWithin n t

span_from : (n i j : ℕ) (t : Token) → i ≤ j → IsSpanFrom n j t → IsSpanFrom n i t
span_from n i j t h s = record { behind = (let le = s.behind in omega arith); span = s.span }

spans_from : (bytes : List ℕ) (i : ℕ) (ts : List Token) (f : Option Fault) → Cut bytes i ts f → (k : ℕ) (d : Token) → k < length ts → IsSpanFrom (length bytes) i (get_or ts k d)
spans_from bytes i ts f (done e) k d lt = absurd (omega arith)
spans_from bytes i ts f (skip {j} x r) k d lt = let a = front_ahead bytes i j None x in span_from (length bytes) i j (get_or ts k d) (let ahead = a.0 in omega arith) (spans_from bytes j ts f r k d lt)
spans_from bytes i ts f (token {j} {k = kind} {ts = us} x w r) zero d lt = let a = front_ahead bytes i j (Some kind) x in record { behind = omega arith; span = a }
spans_from bytes i ts f (token {j} {k = kind} {ts = us} x w r) (suc k) d lt =
    let a = front_ahead bytes i j (Some kind) x in span_from (length bytes) i j (get_or us k d) (let ahead = a.0 in omega arith) (spans_from bytes j us f r k d (omega arith))
spans_from bytes i ts f (stop h s) k d lt = absurd (omega arith)

pub spans : (bytes : List ℕ) (ts : List Token) → AreTokens bytes ts → (k : ℕ) (d : Token) → k < length ts → IsSpanWithin (length bytes) (get_or ts k d)
spans bytes ts c k d lt = (spans_from bytes 0 ts None c k d lt).span

rise_from : (bytes : List ℕ) (i : ℕ) (ts : List Token) (f : Option Fault) → Cut bytes i ts f → (m k : ℕ) (d : Token) → m < k → k < length ts → (get_or ts m d).to ≤ (get_or ts k d).from
rise_from bytes i ts f (done e) m k d lt h = absurd (omega arith)
rise_from bytes i ts f (skip {j} x r) m k d lt h = rise_from bytes j ts f r m k d lt h
rise_from bytes i ts f (token {j} {ts = us} x w r) m zero d lt h = absurd (omega arith)
rise_from bytes i ts f (token {j} {ts = us} x w r) zero (suc k) d lt h = (spans_from bytes j us f r k d (omega arith)).behind
rise_from bytes i ts f (token {j} {ts = us} x w r) (suc m) (suc k) d lt h = rise_from bytes j us f r m k d (omega arith) (omega arith)
rise_from bytes i ts f (stop g s) m k d lt h = absurd (omega arith)

pub rise : (bytes : List ℕ) (ts : List Token) → AreTokens bytes ts → (m k : ℕ) (d : Token) → m < k → k < length ts → (get_or ts m d).to ≤ (get_or ts k d).from
rise bytes ts c = rise_from bytes 0 ts None c
