-- The pieces of a list of literals.
use Rattle.std.proofs.Common.{◌≡◌, ℕ, zero, suc, ◌+◌, ◌-◌, ◌<◌, ◌≤◌, true, nat_eq, nat_le, List, [], ◌∷◌, ◌++◌, length, get_or, take, drop, refl, ap, ◌∙◌, arith, length-append, length-drop}
use Rattle.std.specs.Prelude.{slice_get, slice_range, Some}
use Rattle.std.proofs.lemmas.List.{drop_at, take-append-le, drop-append-le, take_all}
use Rattle.sat_form.specs.Literals.{Literal}
use Rattle.sat_form.specs.Flat.{pieces, are_ends}
use Rattle.sat_form.proofs.Numbers.{is_le, le_is}
use Rattle.sat_form.proofs.Sets.{both, join, nat_is, nat_itself}

pub pieces_count : (from : ℕ) (ends : List ℕ) (lits : List Literal) → length (pieces from ends lits) ≡ length ends
pieces_count from [] lits = refl
pieces_count from (end ∷ ends) lits = ap (λ n. suc n) (pieces_count end ends lits)

-- what lies before the last end
pub ends_within : (from : ℕ) (ends : List ℕ) (len : ℕ) → are_ends from ends len ≡ true → from ≤ len
ends_within from [] len h = let e = nat_is from len h in omega (arith, e)
ends_within from (end ∷ ends) len h =
    let parts = both (nat_le from end) (are_ends end ends len) h in
    let here = le_is from end parts.0 in
    let rest = ends_within end ends len parts.1 in
    omega (arith, here, rest)

pub ends_pushed : (from : ℕ) (ends : List ℕ) (len more : ℕ) → are_ends from ends len ≡ true → len ≤ more → are_ends from (ends ++ more ∷ []) more ≡ true
ends_pushed from [] len more h le =
    let e = nat_is from len h in
    join (nat_le from more) (nat_eq more more) (is_le from more (omega (arith, e, le))) (nat_itself more)
ends_pushed from (end ∷ ends) len more h le =
    let parts = both (nat_le from end) (are_ends end ends len) h in
    join (nat_le from end) (are_ends end (ends ++ more ∷ []) more) parts.0 (ends_pushed end ends len more parts.1 le)

range_of_longer : (lits new : List Literal) (from end : ℕ) → from ≤ end → end ≤ length lits → slice_range (lits ++ new) from end ≡ slice_range lits from end
range_of_longer lits new from end le within =
    let l = length-drop from lits in
    ap (take (end - from)) (drop-append-le from lits new (omega (arith, le, within))) ∙ take-append-le (end - from) (drop from lits) new (omega (arith, le, within, l))

range_behind : (lits new : List Literal) (from more : ℕ) → from ≡ length lits → more ≡ length lits + length new → slice_range (lits ++ new) from more ≡ new
range_behind lits new from more here is = rw (here) (rw is (ap (take (length lits + length new - length lits)) (drop_at lits new (length lits) refl) ∙ take_all (length lits + length new - length lits) new (omega arith)))

pub pieces_pushed : (from : ℕ) (ends : List ℕ) (lits new : List Literal) (more : ℕ) → are_ends from ends (length lits) ≡ true → more ≡ length lits + length new
    → pieces from (ends ++ more ∷ []) (lits ++ new) ≡ pieces from ends lits ++ new ∷ []
pieces_pushed from [] lits new more h is = ap (λ p. p ∷ []) (range_behind lits new from more (nat_is from (length lits) h) is)
pieces_pushed from (end ∷ ends) lits new more h is =
    let parts = both (nat_le from end) (are_ends end ends (length lits)) h in
    ap (λ p. p ∷ pieces end (ends ++ more ∷ []) (lits ++ new)) (range_of_longer lits new from end (le_is from end parts.0) (ends_within end ends (length lits) parts.1))
    ∙ ap (λ ps. slice_range lits from end ∷ ps) (pieces_pushed end ends lits new more parts.1 is)

pub piece_at : (from : ℕ) (ends : List ℕ) (lits : List Literal) (at d : ℕ) → at < length ends → slice_get (pieces from ends lits) at ≡ Some (slice_range lits (get_or (from ∷ ends) at d) (get_or ends at d))
piece_at from [] lits at d h = absurd (omega (arith, h))
piece_at from (end ∷ ends) lits zero d h = refl
piece_at from (end ∷ ends) lits (suc at) d h = piece_at end ends lits at d (omega (arith, h))

pub piece_bounds : (from : ℕ) (ends : List ℕ) (len at d : ℕ) → are_ends from ends len ≡ true → at < length ends → (get_or (from ∷ ends) at d ≤ get_or ends at d) × (get_or ends at d ≤ len)
piece_bounds from [] len at d h lt = absurd (omega (arith, lt))
piece_bounds from (end ∷ ends) len zero d h lt =
    let parts = both (nat_le from end) (are_ends end ends len) h in
    (le_is from end parts.0, ends_within end ends len parts.1)
piece_bounds from (end ∷ ends) len (suc at) d h lt =
    let parts = both (nat_le from end) (are_ends end ends len) h in
    piece_bounds end ends len at d parts.1 (omega (arith, lt))

-- what adding a clause leaves
pub ends_after : (ends ends_new : List ℕ) (lits lits_new new : List Literal) (end : ℕ) → are_ends 0 ends (length lits) ≡ true → lits_new ≡ lits ++ new → ends_new ≡ ends ++ end ∷ [] → end ≡ length lits_new
    → are_ends 0 ends_new (length lits_new) ≡ true
ends_after ends ends_new lits lits_new new end h items behind size =
    let l = ap length items ∙ length-append lits new in
    rw behind (rw (← size) (ends_pushed 0 ends (length lits) end h (omega (arith, l, size))))

pub pieces_after : (ends ends_new : List ℕ) (lits lits_new new : List Literal) (end : ℕ) → are_ends 0 ends (length lits) ≡ true → lits_new ≡ lits ++ new → ends_new ≡ ends ++ end ∷ [] → end ≡ length lits_new
    → pieces 0 ends_new lits_new ≡ pieces 0 ends lits ++ new ∷ []
pieces_after ends ends_new lits lits_new new end h items behind size =
    let l = ap length items ∙ length-append lits new in
    rw behind (rw items (pieces_pushed 0 ends lits new end h (size ∙ l)))
