-- A line at the end of a log.
use Rattle.std.proofs.Common.{◌≡◌, ℕ, suc, ◌+◌, true, List, [], ◌∷◌, ◌++◌, length, refl, ap, sym, subst, arith}
use Rattle.sat_form.proofs.Sets.{both, join}
use Rattle.lrat_trim.specs.Derivation.{LogLine, logged_from, are_earlier, hints_earlier}

pub length_logged : (id : ℕ) (ls : List LogLine) → length (logged_from id ls) ≡ length ls
length_logged id [] = refl
length_logged id (l ∷ ls) = ap suc (length_logged (id + 1) ls)

pub logged_push : (id : ℕ) (ls : List LogLine) (l : LogLine) (last : ℕ) → last ≡ id + length ls → logged_from id (ls ++ l ∷ []) ≡ logged_from id ls ++ record { id = last; lits = l.lits; hints = l.hints } ∷ []
logged_push id [] l last h = let e : id ≡ last = omega arith in ap (λ n. record { id = n; lits = l.lits; hints = l.hints } ∷ []) e
logged_push id (x ∷ ls) l last h = ap (λ t. record { id = id; lits = x.lits; hints = x.hints } ∷ t) (logged_push (id + 1) ls l last (omega arith))

pub earlier_push : (id : ℕ) (ls : List LogLine) (l : LogLine) (last : ℕ) → last ≡ id + length ls → hints_earlier id ls ≡ true → are_earlier last l.hints ≡ true → hints_earlier id (ls ++ l ∷ []) ≡ true
earlier_push id [] l last h all one = let e : id ≡ last = omega arith in join _ _ (subst (λ (n : ℕ). are_earlier n l.hints ≡ true) (sym e) one) refl
earlier_push id (x ∷ ls) l last h all one =
    let parts = both (are_earlier id x.hints) (hints_earlier (id + 1) ls) all in
    join _ _ parts.0 (earlier_push (id + 1) ls l last (omega arith) parts.1 one)
