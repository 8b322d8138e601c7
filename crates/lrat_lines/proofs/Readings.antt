-- No bytes are two lines.
use Rattle.std.proofs.Common.{◌≡◌, ℕ, ℤ, pos, negsuc, suc, ◌<◌, ◌^◌, Bool, true, false, ◌&&◌, List, [], ◌∷◌, ◌++◌, refl, ap, sym, ◌∙◌, subst, map, arith, get_or, length}
use Rattle.std.specs.List.{list_all}
use Rattle.std.specs.Fmt.{decimal, signed_decimal}
use Rattle.std.specs.Str.{all_ascii_digits}
use Rattle.std.specs.Char.{is_ascii_digit}
use Rattle.std.proofs.lemmas.Fmt.{digits_decimal, decimal_nonempty, decimal_injective, signed_decimal_injective}
use Rattle.std.proofs.lemmas.Grind.{common_steps}
use lib.Signed.{mag}
use Rattle.sat_form.specs.Literals.{Literal}
use Rattle.lrat_lines.specs.Lines.{Line, IsLine, AreWords, IsSkipped, words, is_id, is_literal, is_hint, literal_number}
use Rattle.lrat_lines.specs.Lines.Line.{Add, Delete, Skip}
use Rattle.lrat_lines.specs.Sign.{with_sign}
use Rattle.lrat_lines.proofs.Numbers.{both, own, id_range, not_zero, literal_word, literal_range, signed_zero, hint_range}
use Rattle.lrat_lines.proofs.Cases.{d_adds, skipped}

module _ {T : Type 0} (spelling : T → List ℕ) (fits : T → Bool) (zero_word : List ℕ) (nonzero : (x : T) → fits x ≡ true → spelling x ≡ zero_word → ⊥) (one : (x y : T) → fits x ≡ true → fits y ≡ true → spelling x ≡ spelling y → x ≡ y) where
  same_lists : (xs ys : List T) (ws vs : List (List ℕ)) → list_all fits xs ≡ true → list_all fits ys ≡ true → map spelling xs ++ zero_word ∷ ws ≡ map spelling ys ++ zero_word ∷ vs → (xs ≡ ys) × (ws ≡ vs)
  same_lists [] [] ws vs f g e = (refl, cc)
  same_lists [] (y ∷ ys) ws vs f g e = absurd (nonzero y (both (fits y) (list_all fits ys) g).0 (cc))
  same_lists (x ∷ xs) [] ws vs f g e = absurd (nonzero x (both (fits x) (list_all fits xs) f).0 (cc))
  same_lists (x ∷ xs) (y ∷ ys) ws vs f g e =
      let p = both (fits x) (list_all fits xs) f in
      let q = both (fits y) (list_all fits ys) g in
      let here : x ≡ y = one x y p.0 q.0 (cc) in
      let rest = same_lists xs ys ws vs p.1 q.1 (cc) in
      (ap (λ z. z ∷ xs) here ∙ ap (λ zs. y ∷ zs) rest.0, rest.1)

id_nonzero : (n : ℕ) → is_id n ≡ true → decimal n ≡ decimal 0 → ⊥
id_nonzero n h e = let r = id_range n h in not_zero n r.0 r.1 e

one_id : (m n : ℕ) → is_id m ≡ true → is_id n ≡ true → decimal m ≡ decimal n → m ≡ n
one_id m n f g e =
    let p = id_range m f in
    let q = id_range n g in
    decimal_injective m n (omega (arith, p.1)) (omega (arith, q.1)) e

hint_nonzero : (z : ℤ) → is_hint z ≡ true → signed_decimal z ≡ decimal 0 → ⊥
hint_nonzero (pos n) h e = id_nonzero n h e
hint_nonzero (negsuc n) h e = let r = id_range (suc n) h in signed_zero (45 ∷ decimal (suc n)) (decimal (suc n)) false (suc n) refl refl r.0 r.1 e

small_hint : (z : ℤ) → is_hint z ≡ true → mag z < 2 ^ 63
small_hint (pos n) h = (hint_range (pos n) h).1
small_hint (negsuc n) h = let r = (hint_range (negsuc n) h).1 in omega (arith, r)

one_hint : (y z : ℤ) → is_hint y ≡ true → is_hint z ≡ true → signed_decimal y ≡ signed_decimal z → y ≡ z
one_hint y z f g e = signed_decimal_injective y z (small_hint y f) (small_hint z g) e

literal_nonzero : (l : Literal) → is_literal l ≡ true → signed_decimal (literal_number l) ≡ decimal 0 → ⊥
literal_nonzero l h e =
    let r = literal_range l h in
    signed_zero (signed_decimal (literal_number l)) (decimal l.var) l.positive l.var (literal_word l r.0) refl r.0 (omega (arith, r.1)) e

-- with signs
unsigned_first : (n : ℕ) → n < 2 ^ 64 → get_or (decimal n) 0 0 ≡ 45 → ⊥
unsigned_first n small e = digit_first (decimal n) (digits_decimal own n small) (decimal_nonempty n small) e
  where
    digit_first : (w : List ℕ) → all_ascii_digits w ≡ true → 0 < length w → get_or w 0 0 ≡ 45 → ⊥
    digit_first [] h some e = omega arith
    digit_first (c ∷ cs) h some e = let p = both (is_ascii_digit c) (all_ascii_digits cs) h in not_minus c p.0 e
      where
        not_minus : (c : ℕ) → is_ascii_digit c ≡ true → c ≡ 45 → ⊥
        not_minus c h e = grind (arith, common_steps)

one_signed : (a b : Bool) (m n : ℕ) → m < 2 ^ 64 → n < 2 ^ 64 → with_sign a (decimal m) ≡ with_sign b (decimal n) → (a ≡ b) × (m ≡ n)
one_signed true true m n f g e = (refl, decimal_injective m n f g e)
one_signed false false m n f g e = (refl, decimal_injective m n f g (cc))
one_signed true false m n f g e = absurd (unsigned_first m f (ap (λ w. get_or w 0 0) e))
one_signed false true m n f g e = absurd (unsigned_first n g (sym (ap (λ w. get_or w 0 0) e)))

one_literal : (k l : Literal) → is_literal k ≡ true → is_literal l ≡ true → signed_decimal (literal_number k) ≡ signed_decimal (literal_number l) → k ≡ l
one_literal k l f g e =
    let p = literal_range k f in
    let q = literal_range l g in
    let same = one_signed k.positive l.positive k.var l.var (omega (arith, p.1)) (omega (arith, q.1)) (sym (literal_word k p.0) ∙ e ∙ literal_word l q.0) in
    λ i. record { var = same.1 i; positive = same.0 i }

-- a number doesn't begin with c
no_comment : (id : ℕ) (rest : List (List ℕ)) → is_id id ≡ true → IsSkipped (decimal id ∷ rest) → ⊥
no_comment id rest f h =
    let r = id_range id f in
    let small : id < 2 ^ 64 = omega (arith, r.1) in
    no_c (decimal id) (digits_decimal own id small) (decimal_nonempty id small) (skipped (decimal id) rest h)
  where
    no_c : (w : List ℕ) → all_ascii_digits w ≡ true → 0 < length w → get_or w 0 0 ≡ 99 → ⊥
    no_c [] h some e = omega arith
    no_c (c ∷ cs) h some e = let p = both (is_ascii_digit c) (all_ascii_digits cs) h in not_c c p.0 e
      where
        not_c : (c : ℕ) → is_ascii_digit c ≡ true → c ≡ 99 → ⊥
        not_c c h e = grind (arith, common_steps)

skip_or : (ws rest : List (List ℕ)) (id : ℕ) → IsSkipped ws → ws ≡ decimal id ∷ rest → is_id id ≡ true → ⊥
skip_or ws rest id h e f = no_comment id rest f (subst (λ (v : List (List ℕ)). IsSkipped v) e h)

add_or_delete : (ws : List (List ℕ)) (id : ℕ) (lits : List Literal) (hints : List ℤ) (other : ℕ) (ids : List ℕ) → AreWords ws (Add id lits hints) → AreWords ws (Delete other ids) → ⊥
add_or_delete ws id lits hints other ids h k =
    let f = (both (list_all is_literal lits) (list_all is_hint hints) (both (is_id id) (list_all is_literal lits && list_all is_hint hints) h.1).1).0 in
    let e = h.0 in
    let g = k.0 in
    d_adds lits (map signed_decimal hints ++ decimal 0 ∷ []) (map decimal ids ++ decimal 0 ∷ []) f (cc)

one : (ws : List (List ℕ)) (k l : Line) → AreWords ws k → AreWords ws l → k ≡ l
one ws Skip Skip h k = refl
one ws Skip (Add id lits hints) h k = absurd (skip_or ws (map (λ l. signed_decimal (literal_number l)) lits ++ decimal 0 ∷ (map signed_decimal hints ++ decimal 0 ∷ [])) id h k.0 (both (is_id id) (list_all is_literal lits && list_all is_hint hints) k.1).0)
one ws Skip (Delete id ids) h k = absurd (skip_or ws ((100 ∷ []) ∷ (map decimal ids ++ decimal 0 ∷ [])) id h k.0 (both (is_id id) (list_all is_id ids) k.1).0)
one ws (Add id lits hints) Skip k h = absurd (skip_or ws (map (λ l. signed_decimal (literal_number l)) lits ++ decimal 0 ∷ (map signed_decimal hints ++ decimal 0 ∷ [])) id h k.0 (both (is_id id) (list_all is_literal lits && list_all is_hint hints) k.1).0)
one ws (Delete id ids) Skip k h = absurd (skip_or ws ((100 ∷ []) ∷ (map decimal ids ++ decimal 0 ∷ [])) id h k.0 (both (is_id id) (list_all is_id ids) k.1).0)
one ws (Add id lits hints) (Delete other ids) h k = absurd (add_or_delete ws id lits hints other ids h k)
one ws (Delete other ids) (Add id lits hints) k h = absurd (add_or_delete ws id lits hints other ids h k)
one ws (Delete id ids) (Delete other others) h k =
    let p = both (is_id id) (list_all is_id ids) h.1 in
    let q = both (is_id other) (list_all is_id others) k.1 in
    let e = h.0 in
    let f = k.0 in
    let first = one_id id other p.0 q.0 (cc) in
    let rest = same_lists decimal is_id (decimal 0) id_nonzero one_id ids others [] [] p.1 q.1 (cc) in
    λ i. Delete (first i) (rest.0 i)
one ws (Add id lits hints) (Add other kits tips) h k =
    let p = both (is_id id) (list_all is_literal lits && list_all is_hint hints) h.1 in
    let q = both (is_id other) (list_all is_literal kits && list_all is_hint tips) k.1 in
    let p2 = both (list_all is_literal lits) (list_all is_hint hints) p.1 in
    let q2 = both (list_all is_literal kits) (list_all is_hint tips) q.1 in
    let e = h.0 in
    let f = k.0 in
    let first = one_id id other p.0 q.0 (cc) in
    let clause = same_lists (λ l. signed_decimal (literal_number l)) is_literal (decimal 0) literal_nonzero one_literal lits kits (map signed_decimal hints ++ decimal 0 ∷ []) (map signed_decimal tips ++ decimal 0 ∷ []) p2.0 q2.0 (cc) in
    let rest = same_lists signed_decimal is_hint (decimal 0) hint_nonzero one_hint hints tips [] [] p2.1 q2.1 clause.1 in
    λ i. Add (first i) (clause.0 i) (rest.0 i)

-- No bytes are two lines.
pub one_reading : (bytes : List ℕ) (k l : Line) → IsLine bytes k → IsLine bytes l → k ≡ l
one_reading bytes k l h g = one (words bytes) k l h g
