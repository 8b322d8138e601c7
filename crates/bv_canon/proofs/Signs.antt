-- The signs of canonical text: each is the longest piece where it stands, by the byte behind it.
use Rattle.std.proofs.Common.{◌≡◌, ◌≢◌, Bool, true, false, not, ◌||◌, ℕ, ◌+◌, ◌<◌, ◌≤◌, List, [], ◌∷◌, ◌++◌, length, get_or, Some, refl, sym, subst, arith, ap, ap₂, ◌∙◌, codes, length-append}
use Rattle.std.specs.Prelude.{slice_get, nat_le, ◌==◌, bytes_eq, take}
use Rattle.std.specs.List.{Contains, list_all}
use Rattle.std.specs.Char.{encode_utf8}
use Rattle.std.specs.Str.{IsUtf8}
use Rattle.std.proofs.lemmas.Grind.{common_steps}
use Rattle.std.proofs.lemmas.Slice.Eq.{bytes_eq-Decides}
use Rattle.bv_lex.specs.declared.token.TokenKind.TheVariants as kinds
use Rattle.bv_lex.specs.Words.{Stands}
use Rattle.bv_lex.specs.Signs.{signs}
use Rattle.bv_lex.specs.Fronts.{IsCutOff, OnlySigns}
use Rattle.bv_lex.proofs.Reading.{same_byte}
use Rattle.bv_lex.proofs.Shapes.{first_stands, sign_some, sign_passes}
use Rattle.bv_lex.proofs.Longest.{sign_cut, only_minus, only_slash, only_other}
use Rattle.bv_expr.specs.declared.ops.Unary.{Unary}
use Rattle.bv_expr.specs.declared.ops.Unary.TheVariants as of
use Rattle.bv_expr.specs.declared.ops.Binary.{Binary}
use Rattle.bv_expr.specs.declared.ops.Binary.TheVariants as on
use Rattle.bv_print.specs.Spelling.{Form, Prefix, Infix, Method, unary_form, binary_form}
use Rattle.bv_canon.proofs.Bytes.{ascii_utf8, front_stands}

-- This sign before this byte begins no comment, and no longer sign begins there.
pub record IsSign (w : List ℕ) (c : ℕ) : Type 0 where
  pub listed : Contains signs w
  pub utf8 : IsUtf8 w
  pub only : (bs : List ℕ) (i : ℕ) (r : List ℕ) → Stands bs i (w ++ c ∷ r) → OnlySigns bs i
  pub longest : (bs : List ℕ) (i : ℕ) (r v : List ℕ) → Stands bs i (w ++ c ∷ r) → Contains signs v → Stands bs i v → length v ≤ length w

pub sign_is_cut : (w : List ℕ) (c : ℕ) (r : List ℕ) → IsSign w c → (bs : List ℕ) (i : ℕ) → Stands bs i (w ++ c ∷ r) → IsCutOff bs (Some kinds.Sign) i (i + length w)
sign_is_cut w c r f bs i h = sign_cut bs i (length w) w (f.only bs i r h) f.listed (front_stands bs i w (c ∷ r) h) refl (λ v listed s. f.longest bs i r v h listed s)

-- ---- longer signs

-- of two words at one place the shorter begins the other
begins_other : (bs : List ℕ) (i : ℕ) (u v : List ℕ) → Stands bs i u → Stands bs i v → length u ≤ length v → take (length u) v ≡ u
begins_other bs i [] v h s l = refl
begins_other bs i (b ∷ u) [] h s l = absurd (omega arith)
begins_other bs i (b ∷ u) (c ∷ v) h s l = ap₂ (λ x xs. x ∷ xs) (same_byte bs i c b s.0 h.0) (begins_other bs (i + 1) u v h.1 s.1 (omega arith))

-- this sign is no longer, or doesn't begin with the other and the byte
is_no_longer : List ℕ → ℕ → List ℕ → Bool
is_no_longer w c v = nat_le (length v) (length w) || not (bytes_eq (take (length (w ++ c ∷ [])) v) (w ++ c ∷ []))

by_test : (w : List ℕ) (c : ℕ) → list_all (is_no_longer w c) signs ≡ true → (bs : List ℕ) (i : ℕ) (r v : List ℕ) → Stands bs i (w ++ c ∷ r) → Contains signs v → Stands bs i v → length v ≤ length w
unfolding is_no_longer
by_test w c t bs i r v h listed s = go (nat_le (length v) (length w)) refl
  where
    word : (w : List ℕ) → w ++ c ∷ r ≡ (w ++ c ∷ []) ++ r
    word [] = refl
    word (b ∷ w) = ap (λ v. b ∷ v) (word w)

    most : (m n : ℕ) → nat_le m n ≡ true → m ≤ n
    most m n h = grind (arith, common_steps)

    above : (m n : ℕ) → nat_le m n ≡ false → n < m
    above m n h = grind (arith, common_steps)

    go : (b : Bool) → nat_le (length v) (length w) ≡ b → length v ≤ length w
    go true e = most (length v) (length w) e
    go false e =
        let longer = above (length v) (length w) e in
        let front = front_stands bs i (w ++ c ∷ []) r (subst (λ u. Stands bs i u) (word w) h) in
        let begins = begins_other bs i (w ++ c ∷ []) v front s (omega (arith, length-append w (c ∷ []))) in
        let same = (bytes_eq-Decides (take (length (w ++ c ∷ [])) v) (w ++ c ∷ [])).1 begins in
        let passes = sign_passes (is_no_longer w c) v t listed in
        let fails = ap₂ (λ a b. a || not b) e same in
        absurd (clash _ passes fails)
      where
        clash : (b : Bool) → b ≡ true → b ≡ false → ⊥
        clash b p q = cc

second_stands : (bs : List ℕ) (i : ℕ) (w : List ℕ) → 1 < length w → Stands bs i w → slice_get bs (i + 1) ≡ Some (get_or w 1 0)
second_stands bs i [] h s = absurd (omega arith)
second_stands bs i (b ∷ []) h s = absurd (omega arith)
second_stands bs i (b ∷ (c ∷ w)) h s = s.1.0

-- the only longer signs have this byte next
is_followed : ℕ → ℕ → List ℕ → Bool
is_followed b d v = nat_le (length v) 1 || (not (get_or v 0 0 == b) || get_or v 1 0 == d)

by_second : (b d c : ℕ) → list_all (is_followed b d) signs ≡ true → c ≢ d → (bs : List ℕ) (i : ℕ) (r v : List ℕ) → Stands bs i ((b ∷ []) ++ c ∷ r) → Contains signs v → Stands bs i v → length v ≤ 1
unfolding is_followed
by_second b d c t apart bs i r v h listed s = go (nat_le (length v) 1) refl
  where
    most : (m n : ℕ) → nat_le m n ≡ true → m ≤ n
    most m n h = grind (arith, common_steps)

    above : (m n : ℕ) → nat_le m n ≡ false → n < m
    above m n h = grind (arith, common_steps)

    equal : (m n : ℕ) → m ≡ n → (m == n) ≡ true
    equal m n h = grind (arith, common_steps)

    differ : (m n : ℕ) → (m ≡ n → ⊥) → (m == n) ≡ false
    differ m n h = go (m == n) refl
      where
        same : (m == n) ≡ true → m ≡ n
        same h = grind (arith, common_steps)

        go : (x : Bool) → (m == n) ≡ x → (m == n) ≡ false
        go false e = e
        go true e = absurd (h (same e))

    go : (x : Bool) → nat_le (length v) 1 ≡ x → length v ≤ 1
    go true e = most (length v) 1 e
    go false e =
        let longer = above (length v) 1 e in
        let first = same_byte bs i (get_or v 0 0) b (first_stands bs i v (sign_some v listed) s) h.0 in
        let second = same_byte bs (i + 1) (get_or v 1 0) c (second_stands bs i v longer s) h.1.0 in
        let passes = sign_passes (is_followed b d) v t listed in
        let fails = ap₂ (λ x y. x || y) e (ap₂ (λ x y. not x || y) (equal (get_or v 0 0) b first) (differ (get_or v 1 0) d (λ n. apart (sym second ∙ n)))) in
        absurd (clash _ passes fails)
      where
        clash : (b : Bool) → b ≡ true → b ≡ false → ⊥
        clash b p q = cc

-- ---- the signs
pub left_sign : (c : ℕ) → IsSign (codes "(") c
unfolding encode_utf8 is_no_longer
left_sign c = record {
  listed = (0, omega arith, refl);
  utf8 = ascii_utf8 (codes "(") refl;
  only = λ bs i r h. only_other bs i (record { byte = 40; here = h.0; class = refl });
  longest = by_test (codes "(") c refl;
}

pub right_sign : (c : ℕ) → IsSign (codes ")") c
unfolding encode_utf8 is_no_longer
right_sign c = record {
  listed = (1, omega arith, refl);
  utf8 = ascii_utf8 (codes ")") refl;
  only = λ bs i r h. only_other bs i (record { byte = 41; here = h.0; class = refl });
  longest = by_test (codes ")") c refl;
}

pub point_sign : (c : ℕ) → IsSign (codes ".") c
unfolding encode_utf8 is_no_longer
point_sign c = record {
  listed = (6, omega arith, refl);
  utf8 = ascii_utf8 (codes ".") refl;
  only = λ bs i r h. only_other bs i (record { byte = 46; here = h.0; class = refl });
  longest = by_test (codes ".") c refl;
}

pub hash_sign : (c : ℕ) → IsSign (codes "#") c
unfolding encode_utf8 is_no_longer
hash_sign c = record {
  listed = (9, omega arith, refl);
  utf8 = ascii_utf8 (codes "#") refl;
  only = λ bs i r h. only_other bs i (record { byte = 35; here = h.0; class = refl });
  longest = by_test (codes "#") c refl;
}

pub complement_sign : (c : ℕ) → IsSign (codes "~~~") c
unfolding encode_utf8 is_no_longer
complement_sign c = record {
  listed = (10, omega arith, refl);
  utf8 = ascii_utf8 (codes "~~~") refl;
  only = λ bs i r h. only_other bs i (record { byte = 126; here = h.0; class = refl });
  longest = by_test (codes "~~~") c refl;
}

pub colon_sign : IsSign (codes ":") 32
unfolding encode_utf8 is_no_longer
colon_sign = record {
  listed = (4, omega arith, refl);
  utf8 = ascii_utf8 (codes ":") refl;
  only = λ bs i r h. only_other bs i (record { byte = 58; here = h.0; class = refl });
  longest = by_test (codes ":") 32 refl;
}

pub assign_sign : IsSign (codes ":=") 32
unfolding encode_utf8 is_no_longer
assign_sign = record {
  listed = (5, omega arith, refl);
  utf8 = ascii_utf8 (codes ":=") refl;
  only = λ bs i r h. only_other bs i (record { byte = 58; here = h.0; class = refl });
  longest = by_test (codes ":=") 32 refl;
}

pub shift_left_sign : IsSign (codes "<<<") 32
unfolding encode_utf8 is_no_longer
shift_left_sign = record {
  listed = (11, omega arith, refl);
  utf8 = ascii_utf8 (codes "<<<") refl;
  only = λ bs i r h. only_other bs i (record { byte = 60; here = h.0; class = refl });
  longest = by_test (codes "<<<") 32 refl;
}

pub shift_right_sign : IsSign (codes ">>>") 32
unfolding encode_utf8 is_no_longer
shift_right_sign = record {
  listed = (12, omega arith, refl);
  utf8 = ascii_utf8 (codes ">>>") refl;
  only = λ bs i r h. only_other bs i (record { byte = 62; here = h.0; class = refl });
  longest = by_test (codes ">>>") 32 refl;
}

pub plus_sign : IsSign (codes "+") 32
unfolding encode_utf8 is_no_longer
plus_sign = record {
  listed = (17, omega arith, refl);
  utf8 = ascii_utf8 (codes "+") refl;
  only = λ bs i r h. only_other bs i (record { byte = 43; here = h.0; class = refl });
  longest = by_test (codes "+") 32 refl;
}

pub minus_sign : IsSign (codes "-") 32
unfolding encode_utf8 is_no_longer
minus_sign = record {
  listed = (13, omega arith, refl);
  utf8 = ascii_utf8 (codes "-") refl;
  only = λ bs i r h. only_minus bs i (record { byte = 45; here = h.0; class = refl }) (λ s. let same = same_byte bs (i + 1) 45 32 s.1.0 h.1.0 in (omega arith));
  longest = by_test (codes "-") 32 refl;
}

pub times_sign : IsSign (codes "*") 32
unfolding encode_utf8 is_no_longer
times_sign = record {
  listed = (14, omega arith, refl);
  utf8 = ascii_utf8 (codes "*") refl;
  only = λ bs i r h. only_other bs i (record { byte = 42; here = h.0; class = refl });
  longest = by_test (codes "*") 32 refl;
}

pub divide_sign : IsSign (codes "/") 32
unfolding encode_utf8 is_no_longer
divide_sign = record {
  listed = (15, omega arith, refl);
  utf8 = ascii_utf8 (codes "/") refl;
  only = λ bs i r h. only_slash bs i (record { byte = 47; here = h.0; class = refl }) (λ s. let same = same_byte bs (i + 1) 45 32 s.1.0 h.1.0 in (omega arith));
  longest = by_test (codes "/") 32 refl;
}

pub modulo_sign : IsSign (codes "%") 32
unfolding encode_utf8 is_no_longer
modulo_sign = record {
  listed = (16, omega arith, refl);
  utf8 = ascii_utf8 (codes "%") refl;
  only = λ bs i r h. only_other bs i (record { byte = 37; here = h.0; class = refl });
  longest = by_test (codes "%") 32 refl;
}

pub bit_and_sign : IsSign (codes "&&&") 32
unfolding encode_utf8 is_no_longer
bit_and_sign = record {
  listed = (19, omega arith, refl);
  utf8 = ascii_utf8 (codes "&&&") refl;
  only = λ bs i r h. only_other bs i (record { byte = 38; here = h.0; class = refl });
  longest = by_test (codes "&&&") 32 refl;
}

pub bit_or_sign : IsSign (codes "|||") 32
unfolding encode_utf8 is_no_longer
bit_or_sign = record {
  listed = (21, omega arith, refl);
  utf8 = ascii_utf8 (codes "|||") refl;
  only = λ bs i r h. only_other bs i (record { byte = 124; here = h.0; class = refl });
  longest = by_test (codes "|||") 32 refl;
}

pub bit_xor_sign : IsSign (codes "^^^") 32
unfolding encode_utf8 is_no_longer
bit_xor_sign = record {
  listed = (20, omega arith, refl);
  utf8 = ascii_utf8 (codes "^^^") refl;
  only = λ bs i r h. only_other bs i (record { byte = 94; here = h.0; class = refl });
  longest = by_test (codes "^^^") 32 refl;
}

pub append_sign : IsSign (codes "++") 32
unfolding encode_utf8 is_no_longer
append_sign = record {
  listed = (18, omega arith, refl);
  utf8 = ascii_utf8 (codes "++") refl;
  only = λ bs i r h. only_other bs i (record { byte = 43; here = h.0; class = refl });
  longest = by_test (codes "++") 32 refl;
}

pub equal_sign : IsSign (codes "=") 32
unfolding encode_utf8 is_no_longer
equal_sign = record {
  listed = (22, omega arith, refl);
  utf8 = ascii_utf8 (codes "=") refl;
  only = λ bs i r h. only_other bs i (record { byte = 61; here = h.0; class = refl });
  longest = by_test (codes "=") 32 refl;
}

pub less_sign : IsSign (codes "<") 32
unfolding encode_utf8 is_no_longer
less_sign = record {
  listed = (26, omega arith, refl);
  utf8 = ascii_utf8 (codes "<") refl;
  only = λ bs i r h. only_other bs i (record { byte = 60; here = h.0; class = refl });
  longest = by_test (codes "<") 32 refl;
}

pub at_most_sign : IsSign (codes "<=") 32
unfolding encode_utf8 is_no_longer
at_most_sign = record {
  listed = (28, omega arith, refl);
  utf8 = ascii_utf8 (codes "<=") refl;
  only = λ bs i r h. only_other bs i (record { byte = 60; here = h.0; class = refl });
  longest = by_test (codes "<=") 32 refl;
}

pub and_sign : IsSign (codes "&&") 32
unfolding encode_utf8 is_no_longer
and_sign = record {
  listed = (36, omega arith, refl);
  utf8 = ascii_utf8 (codes "&&") refl;
  only = λ bs i r h. only_other bs i (record { byte = 38; here = h.0; class = refl });
  longest = by_test (codes "&&") 32 refl;
}

pub or_sign : IsSign (codes "||") 32
unfolding encode_utf8 is_no_longer
or_sign = record {
  listed = (40, omega arith, refl);
  utf8 = ascii_utf8 (codes "||") refl;
  only = λ bs i r h. only_other bs i (record { byte = 124; here = h.0; class = refl });
  longest = by_test (codes "||") 32 refl;
}

pub exclusive_sign : IsSign (codes "^^") 32
unfolding encode_utf8 is_no_longer
exclusive_sign = record {
  listed = (37, omega arith, refl);
  utf8 = ascii_utf8 (codes "^^") refl;
  only = λ bs i r h. only_other bs i (record { byte = 94; here = h.0; class = refl });
  longest = by_test (codes "^^") 32 refl;
}

pub implies_sign : IsSign (codes "->") 32
unfolding encode_utf8 is_no_longer
implies_sign = record {
  listed = (42, omega arith, refl);
  utf8 = ascii_utf8 (codes "->") refl;
  only = λ bs i r h. only_minus bs i (record { byte = 45; here = h.0; class = refl }) (λ s. let same = same_byte bs (i + 1) 45 62 s.1.0 h.1.0 in (omega arith));
  longest = by_test (codes "->") 32 refl;
}

-- a prefix operator before what isn't part of a longer sign or of a comment
pub negative_sign : (c : ℕ) → c ≢ 62 → c ≢ 45 → IsSign (codes "-") c
unfolding encode_utf8 is_followed
negative_sign c greater minus = record {
  listed = (13, omega arith, refl);
  utf8 = ascii_utf8 (codes "-") refl;
  only = λ bs i r h. only_minus bs i (record { byte = 45; here = h.0; class = refl }) (λ s. minus (same_byte bs (i + 1) c 45 h.1.0 s.1.0));
  longest = by_second 45 62 c refl greater;
}

pub not_sign : (c : ℕ) → c ≢ 61 → IsSign (codes "!") c
unfolding encode_utf8 is_followed
not_sign c equal = record {
  listed = (33, omega arith, refl);
  utf8 = ascii_utf8 (codes "!") refl;
  only = λ bs i r h. only_other bs i (record { byte = 33; here = h.0; class = refl });
  longest = by_second 33 61 c refl equal;
}

-- ---- the signs of operators

-- a byte that an operand begins with goes on with no prefix operator
pub record BeginsOperand (c : ℕ) : Type 0 where
  pub no_greater : c ≢ 62
  pub no_minus : c ≢ 45
  pub no_equal : c ≢ 61

abbrev pub SignsOf : Form → Type 0
SignsOf (Prefix w) = (c : ℕ) → BeginsOperand c → IsSign w c
SignsOf (Infix w) = IsSign w 32
SignsOf (Method w) = Unit {0}

pub unary_signs : (op : Unary) → SignsOf (unary_form op)
unary_signs of.Not = λ c b. complement_sign c
unary_signs of.Neg = λ c b. negative_sign c b.no_greater b.no_minus
unary_signs of.TNot = λ c b. not_sign c b.no_equal
unary_signs (of.ShlBy n) = shift_left_sign
unary_signs (of.LshrBy n) = shift_right_sign
unary_signs _ = tt

pub binary_signs : (op : Binary) → SignsOf (binary_form op)
binary_signs on.And = bit_and_sign
binary_signs on.Or = bit_or_sign
binary_signs on.Xor = bit_xor_sign
binary_signs on.Add = plus_sign
binary_signs on.Sub = minus_sign
binary_signs on.Mul = times_sign
binary_signs on.Udiv = divide_sign
binary_signs on.Umod = modulo_sign
binary_signs on.Append = append_sign
binary_signs on.Shl = shift_left_sign
binary_signs on.Lshr = shift_right_sign
binary_signs on.Eq = equal_sign
binary_signs on.TEq = equal_sign
binary_signs on.Ult = less_sign
binary_signs on.Ule = at_most_sign
binary_signs on.TAnd = and_sign
binary_signs on.TOr = or_sign
binary_signs on.TXor = exclusive_sign
binary_signs on.Implies = implies_sign
binary_signs _ = tt
