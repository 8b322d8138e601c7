-- What a text that begins so isn't.
use Rattle.std.proofs.Common.{subst, ◌^◌, ◌≡◌, ◌≢◌, ℕ, ℤ, Bool, true, false, ◌&&◌, List, [], ◌∷◌, ◌++◌, ap, sym, ◌∙◌, map, arith, ◌<◌, get_or}
use Rattle.std.specs.List.{list_all}
use Rattle.std.specs.Fmt.{decimal, signed_decimal}
use Rattle.std.specs.Str.{all_ascii_digits}
use Rattle.std.proofs.lemmas.Fmt.{digits_decimal}
use Rattle.sat_form.specs.Literals.{Literal}
use Rattle.lrat_lines.specs.Lines.{Line, AreWords, IsSkipped, is_id, is_literal, is_hint, literal_number}
use Rattle.lrat_lines.specs.Lines.Line.{Add, Delete, Skip}
use Rattle.lrat_lines.specs.Sign.{with_sign}
use Rattle.lrat_lines.proofs.Numbers.{both, own, literal_word, literal_range}

-- the word d is no number
no_decimal : (n : ℕ) → n < 2 ^ 64 → decimal n ≡ 100 ∷ [] → ⊥
no_decimal n small e = let a : all_ascii_digits (100 ∷ []) ≡ true = sym (ap all_ascii_digits e) ∙ digits_decimal own n small in cc

no_signed : (n : ℕ) (up : Bool) → n < 2 ^ 64 → with_sign up (decimal n) ≡ 100 ∷ [] → ⊥
no_signed n true small e = no_decimal n small e
no_signed n false small e = omega (arith, ap (λ w. get_or w 0 0) e)

pub d_adds : (lits : List Literal) (after rest : List (List ℕ)) → list_all is_literal lits ≡ true → (100 ∷ []) ∷ rest ≡ map (λ l. signed_decimal (literal_number l)) lits ++ decimal 0 ∷ after → ⊥
d_adds [] after rest fits e = no_decimal 0 (omega arith) (cc)
d_adds (l ∷ lits) after rest fits e =
    let r = literal_range l (both (is_literal l) (list_all is_literal lits) fits).0 in
    no_signed l.var l.positive (omega (arith, r.1)) (sym (literal_word l r.0) ∙ (cc))

pub skipped : (first : List ℕ) (rest : List (List ℕ)) → IsSkipped (first ∷ rest) → get_or first 0 0 ≡ 99
skipped [] rest h = absurd h
skipped (b ∷ bs) rest h = h

abbrev NoDeletion : List (List ℕ) → Type 0
NoDeletion rest = (ids : List ℕ) → list_all is_id ids ≡ true → rest ≡ map decimal ids ++ decimal 0 ∷ [] → ⊥

abbrev NoAddition : List (List ℕ) → Type 0
NoAddition rest = (lits : List Literal) (hints : List ℤ) → list_all is_literal lits ≡ true → list_all is_hint hints ≡ true → rest ≡ map (λ l. signed_decimal (literal_number l)) lits ++ decimal 0 ∷ (map signed_decimal hints ++ decimal 0 ∷ []) → ⊥

pub no_deletion : (ws rest behind : List (List ℕ)) (first word : List ℕ) → ws ≡ first ∷ rest → rest ≡ word ∷ behind → word ≡ 100 ∷ [] → get_or first 0 0 ≢ 99 → NoDeletion behind → (l : Line) → AreWords ws l → ⊥
no_deletion ws rest behind first word a b d c unread Skip h = c (skipped first rest (subst (λ (v : List (List ℕ)). IsSkipped v) a h))
no_deletion ws rest behind first word a b d c unread (Delete id ids) h = unread ids (both (is_id id) (list_all is_id ids) h.1).1 (let e = h.0 in cc)
no_deletion ws rest behind first word a b d c unread (Add id lits hints) h =
    let f = (both (list_all is_literal lits) (list_all is_hint hints) (both (is_id id) (list_all is_literal lits && list_all is_hint hints) h.1).1).0 in
    let e = h.0 in
    d_adds lits (map signed_decimal hints ++ decimal 0 ∷ []) behind f (cc)

pub no_addition : (ws rest : List (List ℕ)) (first : List ℕ) → ws ≡ first ∷ rest → ((behind : List (List ℕ)) → rest ≡ (100 ∷ []) ∷ behind → ⊥) → get_or first 0 0 ≢ 99 → NoAddition rest → (l : Line) → AreWords ws l → ⊥
no_addition ws rest first a d c unread Skip h = c (skipped first rest (subst (λ (v : List (List ℕ)). IsSkipped v) a h))
no_addition ws rest first a d c unread (Delete id ids) h = d (map decimal ids ++ decimal 0 ∷ []) (let e = h.0 in cc)
no_addition ws rest first a d c unread (Add id lits hints) h =
    let p = both (is_id id) (list_all is_literal lits && list_all is_hint hints) h.1 in
    let q = both (list_all is_literal lits) (list_all is_hint hints) p.1 in
    let e = h.0 in
    unread lits hints q.0 q.1 (cc)

pub no_id : (ws rest : List (List ℕ)) (first : List ℕ) → ws ≡ first ∷ rest → get_or first 0 0 ≢ 99 → ((n : ℕ) → is_id n ≡ true → first ≡ decimal n → ⊥) → (l : Line) → AreWords ws l → ⊥
no_id ws rest first a c unread Skip h = c (skipped first rest (subst (λ (v : List (List ℕ)). IsSkipped v) a h))
no_id ws rest first a c unread (Delete id ids) h = unread id (both (is_id id) (list_all is_id ids) h.1).0 (let e = h.0 in cc)
no_id ws rest first a c unread (Add id lits hints) h = unread id (both (is_id id) (list_all is_literal lits && list_all is_hint hints) h.1).0 (let e = h.0 in cc)
