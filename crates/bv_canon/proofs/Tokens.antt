-- The tokens of a file: each is a piece of the file's bytes, and those that stand for names are names.
use Rattle.std.proofs.Common.{◌≡◌, Bool, true, false, not, ◌||◌, ℕ, zero, suc, ◌+◌, ◌-◌, ◌<◌, ◌≤◌, List, [], ◌∷◌, length, take, drop, Option, Some, None, refl, sym, subst, arith, ap, ◌∙◌, codes}
use Rattle.std.specs.Prelude.{slice_get, slice_range, option_map, bytes_eq, if◌then◌else◌}
use Rattle.std.specs.List.{list_all}
use Rattle.std.specs.Char.{encode_utf8}
use Rattle.std.proofs.Math.Seq.{take-length}
use Rattle.std.proofs.lemmas.List.{length-take-le}
use Rattle.std.proofs.lemmas.Option.{slice_get-map}
use Rattle.std.proofs.lemmas.Slice.Eq.{bytes_eq-Decides}
use Rattle.std.proofs.lemmas.Str.{utf8_valid_len_le}
use Rattle.std.specs.Str.Lossy.{utf8_valid_len}
use Rattle.bv_lex.specs.declared.token.Token.{Token}
use Rattle.bv_lex.specs.declared.token.TokenKind.{TokenKind}
use Rattle.bv_lex.specs.declared.token.TokenKind.TheVariants as kinds
use Rattle.bvd_text.specs.Places.{place_behind}
use Rattle.bv_lex.specs.declared.fault.Fault.{Fault}
use Rattle.bv_lex.specs.Letters.{begins_name, goes_on_name}
use Rattle.bv_lex.specs.Words.{Stands, IsCharacter, Characters, no_more, one_more}
use Rattle.bv_lex.specs.Pieces.{Piece, blank, line_comment, nested_comment, name, decimal_numeral, prefixed_numeral, string, sign}
use Rattle.bv_lex.specs.Cut.{utf8_front, IsWithin, Cut, done, skip, token, stop, AreTokens}
use Rattle.bv_lex.proofs.Bounds.{within}
use Rattle.bv_lex.proofs.Encoding.{and_parts}
use Rattle.bv_lex.proofs.Naming.{characters_ahead}
use Rattle.bv_lex.proofs.Values.{range_length}
use Rattle.bv_grammar.specs.declared.words.Word.{Word}
use Rattle.bv_grammar.specs.declared.words.Word.TheVariants as words
use Rattle.bv_grammar.specs.declared.words.Terminal.{Terminal}
use Rattle.bv_grammar.specs.declared.words.Terminal.TheVariants as terminal_kinds
use Rattle.bv_terminals.specs.Spellings.{Table, reserved, signs, look_up, or_comma, terminal_of, terminal_of_kind}
use Rattle.bv_trees.specs.Terms.{IsAt, IsWord}
use Rattle.bv_trees.specs.Files as f
use Rattle.bv_typing.specs.Source.{Source, text_of, text_at}
use Rattle.bv_canon.specs.Names.{IsWordText, IsName, IsPart, a_name, a_bool, a_bitvec}
use Rattle.bv_canon.specs.Reading.{terminals}

-- ---- the bytes are UTF-8

ends : (bytes : List ℕ) (i : ℕ) (ts : List Token) (f : Option Fault) → Cut bytes i ts f → f ≡ None → i ≤ length (utf8_front bytes) → length bytes ≤ length (utf8_front bytes)
ends bytes i ts f (done e) n h = omega arith
ends bytes i ts f (skip {j} x r) n h = ends bytes j ts f r n (within (utf8_front bytes) i j None x.piece)
ends bytes i ts f (token {j} {k} {ts = us} x w r) n h = ends bytes j us f r n (within (utf8_front bytes) i j (Some k) x.piece)
ends bytes i ts f (stop lt s) n h = absurd (cc)

pub all_utf8 : (bytes : List ℕ) (ts : List Token) → AreTokens bytes ts → utf8_valid_len bytes ≡ length bytes
all_utf8 bytes ts c =
    let le = utf8_valid_len_le bytes in
    let size = length-take-le (utf8_valid_len bytes) bytes le in
    let most = ends bytes 0 ts None c refl (omega arith) in
    omega arith

pub front_whole : (bytes : List ℕ) (ts : List Token) → AreTokens bytes ts → utf8_front bytes ≡ bytes
front_whole bytes ts c = ap (λ n. take n bytes) (all_utf8 bytes ts c) ∙ take-length bytes

-- ---- each token is a piece

-- a token of the file
pub record IsToken (bytes : List ℕ) (t : Token) : Type 0 where
  pub piece : Piece bytes (Some t.kind) t.from t.to
  pub within : IsWithin t.kind

front_token : (bytes : List ℕ) (i : ℕ) (ts : List Token) (f : Option Fault) → Cut bytes i ts f → (k : ℕ) (t : Token) → slice_get ts k ≡ Some t → IsToken (utf8_front bytes) t
front_token bytes i ts f (done e) zero t h = absurd (cc)
front_token bytes i ts f (done e) (suc k) t h = absurd (cc)
front_token bytes i ts f (skip {j} x r) k t h = front_token bytes j ts f r k t h
front_token bytes i ts f (token {j} {k = kind} {ts = us} x w r) zero t h =
    let same : record { kind = kind; from = i; to = j; place = place_behind (take i bytes) } ≡ t = cc in
    subst (IsToken (utf8_front bytes)) same (record { piece = x.piece; within = w })
front_token bytes i ts f (token {j} {k = kind} {ts = us} x w r) (suc k) t h = front_token bytes j us f r k t h
front_token bytes i ts f (stop lt s) zero t h = absurd (cc)
front_token bytes i ts f (stop lt s) (suc k) t h = absurd (cc)

pub token_in : (bytes : List ℕ) (ts : List Token) → AreTokens bytes ts → (k : ℕ) (t : Token) → slice_get ts k ≡ Some t → IsToken bytes t
token_in bytes ts c k t h = subst (λ bs. IsToken bs t) (front_whole bytes ts c) (front_token bytes 0 ts None c k t h)

-- ---- pieces as words of their own

pub get_drop : (bs : List ℕ) (i k : ℕ) → slice_get (drop i bs) k ≡ slice_get bs (i + k)
get_drop bs zero k = ap (slice_get bs) (omega arith)
get_drop [] (suc i) zero = sym (none (suc i + zero))
  where
    none : (n : ℕ) → ◌≡◌ {A = Option ℕ} (slice_get [] n) None
    none zero = refl
    none (suc n) = refl
get_drop [] (suc i) (suc k) = sym (none (suc i + suc k))
  where
    none : (n : ℕ) → ◌≡◌ {A = Option ℕ} (slice_get [] n) None
    none zero = refl
    none (suc n) = refl
get_drop (b ∷ bs) (suc i) k = get_drop bs i k ∙ ap (slice_get (b ∷ bs)) (more i k)
  where
    more : (i k : ℕ) → suc (i + k) ≡ suc i + k
    more i k = omega arith

get_take : (bs : List ℕ) (n k : ℕ) → k < n → slice_get (take n bs) k ≡ slice_get bs k
get_take bs zero k h = absurd (omega arith)
get_take [] (suc n) k h = refl
get_take (b ∷ bs) (suc n) zero h = refl
get_take (b ∷ bs) (suc n) (suc k) h = get_take bs n k (omega arith)

pub range_get : (bs : List ℕ) (i j k : ℕ) → i + k < j → slice_get (slice_range bs i j) k ≡ slice_get bs (i + k)
range_get bs i j k h = get_take (drop i bs) (j - i) k (omega arith) ∙ get_drop bs i k

range_stands : (bs : List ℕ) (i j k : ℕ) (e : List ℕ) → i + k + length e ≤ j → Stands bs (i + k) e → Stands (slice_range bs i j) k e
range_stands bs i j k [] h s = tt
range_stands bs i j k (b ∷ e) h s = (range_get bs i j k (omega arith) ∙ s.0, range_stands bs i j (k + 1) e (omega arith) (subst (λ n. Stands bs n e) (omega arith) s.1))

range_character : {p : ℕ → Bool} (bs : List ℕ) (i j k n : ℕ) → i + k + n ≤ j → IsCharacter p bs (i + k) n → IsCharacter p (slice_range bs i j) k n
range_character bs i j k n h x = record { code = x.code; passes = x.passes; here = range_stands bs i j k (encode_utf8 x.code) (omega (arith, h, x.bytes)) x.here; bytes = x.bytes }

range_characters : {p : ℕ → Bool} (bs : List ℕ) (i j a m k : ℕ) → a ≡ i + k → m ≡ j → Characters p bs a m → Characters p (slice_range bs i j) k (j - i)
range_characters {p} bs i j a m k e f no_more = let same : k ≡ j - i = omega (arith, e, f) in subst (λ n. Characters p (slice_range bs i j) k n) same no_more
range_characters {p} bs i j a m k e f (one_more {n} x r) =
    let ahead = characters_ahead bs (a + n) m r in
    one_more (range_character bs i j k n (omega (arith, e, f, ahead)) (subst (λ l. IsCharacter p bs l n) e x)) (range_characters bs i j (a + n) m (k + n) (omega (arith, e)) f r)

word_text : (bs : List ℕ) (i j n : ℕ) → j ≤ length bs → IsCharacter begins_name bs i n → Characters goes_on_name bs (i + n) j → IsWordText (slice_range bs i j)
word_text bs i j n h x r =
    let ahead = characters_ahead bs (i + n) j r in
    let size = range_length bs i j (omega arith) h in
    record {
      first = n;
      begins = range_character bs i j 0 n (omega arith) (subst (λ l. IsCharacter begins_name bs l n) (omega arith) x);
      goes_on = subst (λ l. Characters goes_on_name (slice_range bs i j) n l) (sym size) (range_characters bs i j (i + n) j n refl refl r);
    }

-- a piece that is a name
name_of_piece : (bs : List ℕ) (k : Option TokenKind) (i j : ℕ) → Piece bs k i j → k ≡ Some kinds.Name → IsName (slice_range bs i j)
name_of_piece bs k i j (blank g t) e = absurd (cc)
name_of_piece bs k i j (line_comment s le each) e = absurd (cc)
name_of_piece bs k i j (nested_comment s c) e = absurd (cc)
name_of_piece bs k i j (name {n} x r) e = record { spelled = word_text bs i j n (within bs i j k (name x r)) x r; free = cc }
name_of_piece bs k i j (decimal_numeral d) e = absurd (cc)
name_of_piece bs k i j (prefixed_numeral p s d) e = absurd (cc)
name_of_piece bs k i j (string s le r q) e = absurd (cc)
name_of_piece bs k i j (sign w m s) e = absurd (cc)

-- ---- what terminals tell

-- the token at i, which is this terminal
pub record HasToken (s : Source) (a : Terminal) (i : ℕ) : Type 0 where
  pub token : Token
  pub here : slice_get s.tokens i ≡ Some token
  pub text : text_at s i ≡ slice_range s.bytes token.from token.to
  pub is : terminal_of_kind token.kind (text_at s i) ≡ a

pub has_token : (s : Source) (a : Terminal) (i : ℕ) → IsAt (terminals s) a i → HasToken s a i
has_token s a i h = go (slice_get s.tokens i) refl
  where
    go : (t : Option Token) → slice_get s.tokens i ≡ t → HasToken s a i
    go None e = let none = sym (slice_get-map (terminal_of s.bytes) s.tokens i ∙ ap (option_map (terminal_of s.bytes)) e) ∙ h in absurd (cc)
    go (Some t) e =
        let some = sym (slice_get-map (terminal_of s.bytes) s.tokens i ∙ ap (option_map (terminal_of s.bytes)) e) ∙ h in
        let is : terminal_of s.bytes t ≡ a = cc in
        let text = ap (text_of s.bytes) e in
        record { token = t; here = e; text = text; is = ap (terminal_of_kind t.kind) text ∙ is }

kind_is_name : (k : TokenKind) (text : List ℕ) → terminal_of_kind k text ≡ terminal_kinds.Name → k ≡ kinds.Name
kind_is_name kinds.Name text e = refl
kind_is_name (kinds.Numeral n) text e = absurd (cc)
kind_is_name kinds.Text text e = absurd (cc)
kind_is_name kinds.Reserved text e = absurd (cc)
kind_is_name kinds.Sign text e = absurd (cc)

pub name_is : (s : Source) (i : ℕ) → AreTokens s.bytes s.tokens → IsAt (terminals s) terminal_kinds.Name i → IsName (text_at s i)
name_is s i c h =
    let t = has_token s terminal_kinds.Name i h in
    let piece = (token_in s.bytes s.tokens c i t.token t.here).piece in
    subst IsName (sym t.text) (name_of_piece s.bytes (Some t.token.kind) t.token.from t.token.to piece (ap Some (kind_is_name t.token.kind (text_at s i) t.is)))

-- ---- the spelling of a word

-- whether an entry with such a word is spelled so
spelled_so : (Word → Bool) → List ℕ → List ℕ × Word → Bool
spelled_so p text entry = not (p entry.1) || bytes_eq entry.0 text

looked_up : (table : Table) (p : Word → Bool) (want text : List ℕ) (w : Word) → list_all (spelled_so p want) table ≡ true → look_up table text ≡ Some w → p w ≡ true → text ≡ want
unfolding spelled_so
looked_up [] p want text w h e q = absurd (cc)
looked_up (entry ∷ table) p want text w h e q = go (bytes_eq entry.0 text) refl e (λ found. looked_up table p want text w parts.1 found q)
  where
    parts : (spelled_so p want entry ≡ true) × (list_all (spelled_so p want) table ≡ true)
    parts = and_parts (spelled_so p want entry) (list_all (spelled_so p want) table) h

    second : (a b : Bool) → a ≡ true → not a || b ≡ true → b ≡ true
    second a true e f = refl
    second true false e f = cc
    second false false e f = cc

    go : (b : Bool) → bytes_eq entry.0 text ≡ b → (if b then Some entry.1 else look_up table text) ≡ Some w → (look_up table text ≡ Some w → text ≡ want) → text ≡ want
    go true same found others =
        let word : entry.1 ≡ w = cc in
        sym ((bytes_eq-Decides entry.0 text).0 same) ∙ (bytes_eq-Decides entry.0 want).0 (second (p entry.1) (bytes_eq entry.0 want) (ap p word ∙ q) parts.0)
    go false same found others = others found

word_spelled : (s : Source) (i : ℕ) (w : Word) (p : Word → Bool) (want : List ℕ) → list_all (spelled_so p want) reserved ≡ true → list_all (spelled_so p want) signs ≡ true → p w ≡ true → p words.Comma ≡ false → IsWord (terminals s) w i → text_at s i ≡ want
word_spelled s i w p want a b q no_comma h = let t = has_token s (terminal_kinds.Word w) i h in by_kind t.token.kind t.is
  where
    by_table : (table : Table) → list_all (spelled_so p want) table ≡ true → (o : Option Word) → look_up table (text_at s i) ≡ o → or_comma o ≡ w → text_at s i ≡ want
    by_table table all None e f = let yes_ : p words.Comma ≡ true = ap p f ∙ q in absurd (cc)
    by_table table all (Some v) e f = looked_up table p want (text_at s i) v all e (ap p f ∙ q)

    by_kind : (k : TokenKind) → terminal_of_kind k (text_at s i) ≡ terminal_kinds.Word w → text_at s i ≡ want
    by_kind kinds.Name e = absurd (cc)
    by_kind (kinds.Numeral n) e = absurd (cc)
    by_kind kinds.Text e = absurd (cc)
    by_kind kinds.Reserved e = by_table reserved a (look_up reserved (text_at s i)) refl (cc)
    by_kind kinds.Sign e = by_table signs b (look_up signs (text_at s i)) refl (cc)

abbrev is_bool : Word → Bool
is_bool words.Bool = true
is_bool _ = false

abbrev is_bitvec : Word → Bool
is_bitvec words.BitVec = true
is_bitvec _ = false

abbrev is_dot : Word → Bool
is_dot words.Dot = true
is_dot _ = false

bool_spelled : (s : Source) (i : ℕ) → IsWord (terminals s) words.Bool i → text_at s i ≡ codes "Bool"
unfolding spelled_so encode_utf8
bool_spelled s i h = word_spelled s i words.Bool is_bool (codes "Bool") refl refl refl refl h

bitvec_spelled : (s : Source) (i : ℕ) → IsWord (terminals s) words.BitVec i → text_at s i ≡ codes "BitVec"
unfolding spelled_so encode_utf8
bitvec_spelled s i h = word_spelled s i words.BitVec is_bitvec (codes "BitVec") refl refl refl refl h

pub dot_spelled : (s : Source) (i : ℕ) → IsWord (terminals s) words.Dot i → text_at s i ≡ codes "."
unfolding spelled_so encode_utf8
dot_spelled s i h = word_spelled s i words.Dot is_dot (codes ".") refl refl refl refl h

-- a part of a path
pub part_is : (s : Source) (i : ℕ) → AreTokens s.bytes s.tokens → f.PartAt (terminals s) i → IsPart (text_at s i)
part_is s i c (f.a_name h) = a_name (name_is s i c h)
part_is s i c (f.a_bool h) = subst IsPart (sym (bool_spelled s i h)) a_bool
part_is s i c (f.a_bitvec h) = subst IsPart (sym (bitvec_spelled s i h)) a_bitvec
