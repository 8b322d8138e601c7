-- Lines that are kept flat.
use Rattle.std.proofs.Common.{◌≡◌, ℕ, zero, suc, ◌+◌, ◌-◌, ◌<◌, ◌≤◌, true, nat_le, List, [], ◌∷◌, ◌++◌, length, get_or, take, drop, refl, ap, sym, ◌∙◌, arith, append_assoc, length-append, length-drop}
use Rattle.std.specs.Prelude.{slice_get, slice_range, Some, None}
use Rattle.std.proofs.lemmas.List.{drop_at, take-append-le, drop-append-le, take_all, take_at}
use Rattle.sat_form.specs.Literals.{Literal}
use Rattle.sat_form.specs.Flat.{are_ends}
use Rattle.sat_form.proofs.Numbers.{le_is}
use Rattle.sat_form.proofs.Pieces.{ends_pushed, ends_within}
use Rattle.sat_form.proofs.Sets.{both, nat_is}
use Rattle.lrat_trim.specs.Derivation.{LogLine}
use Rattle.lrat_trim.specs.Flat.{no_line, paired, pieces}

pieces_count : (from : ℕ) (ends ids : List ℕ) → length (pieces from ends ids) ≡ length ends
pieces_count from [] ids = refl
pieces_count from (end ∷ ends) ids = ap (λ n. suc n) (pieces_count end ends ids)

range_of_longer : (ids new : List ℕ) (from end : ℕ) → from ≤ end → end ≤ length ids → slice_range (ids ++ new) from end ≡ slice_range ids from end
range_of_longer ids new from end le within =
    let l = length-drop from ids in
    ap (take (end - from)) (drop-append-le from ids new (omega (arith, le, within))) ∙ take-append-le (end - from) (drop from ids) new (omega (arith, le, within, l))

range_behind : (ids new : List ℕ) (from more : ℕ) → from ≡ length ids → more ≡ length ids + length new → slice_range (ids ++ new) from more ≡ new
range_behind ids new from more here is = rw (here) (rw is (ap (take (length ids + length new - length ids)) (drop_at ids new (length ids) refl) ∙ take_all (length ids + length new - length ids) new (omega arith)))

pieces_pushed : (from : ℕ) (ends ids new : List ℕ) (more : ℕ) → are_ends from ends (length ids) ≡ true → more ≡ length ids + length new
    → pieces from (ends ++ more ∷ []) (ids ++ new) ≡ pieces from ends ids ++ new ∷ []
pieces_pushed from [] ids new more h is = ap (λ p. p ∷ []) (range_behind ids new from more (nat_is from (length ids) h) is)
pieces_pushed from (end ∷ ends) ids new more h is =
    let parts = both (nat_le from end) (are_ends end ends (length ids)) h in
    ap (λ p. p ∷ pieces end (ends ++ more ∷ []) (ids ++ new)) (range_of_longer ids new from end (le_is from end parts.0) (ends_within end ends (length ids) parts.1))
    ∙ ap (λ ps. slice_range ids from end ∷ ps) (pieces_pushed end ends ids new more parts.1 is)

piece_at : (from : ℕ) (ends ids : List ℕ) (at : ℕ) → at < length ends → get_or (pieces from ends ids) at [] ≡ slice_range ids (get_or (from ∷ ends) at 0) (get_or ends at 0)
piece_at from [] ids at h = absurd (omega (arith, h))
piece_at from (end ∷ ends) ids zero h = refl
piece_at from (end ∷ ends) ids (suc at) h = piece_at end ends ids at (omega (arith, h))

paired_length : (cs : List (List Literal)) (hs : List (List ℕ)) → length cs ≡ length hs → length (paired cs hs) ≡ length hs
paired_length [] [] same = refl
paired_length [] (h ∷ hs) same = absurd (omega arith)
paired_length (c ∷ cs) [] same = absurd (omega arith)
paired_length (c ∷ cs) (h ∷ hs) same = ap (λ n. suc n) (paired_length cs hs (omega arith))

paired_push : (cs : List (List Literal)) (hs : List (List ℕ)) (c : List Literal) (h : List ℕ) → length cs ≡ length hs → paired (cs ++ c ∷ []) (hs ++ h ∷ []) ≡ paired cs hs ++ record { lits = c; hints = h } ∷ []
paired_push [] [] c h same = refl
paired_push [] (k ∷ hs) c h same = absurd (omega arith)
paired_push (d ∷ cs) [] c h same = absurd (omega arith)
paired_push (d ∷ cs) (k ∷ hs) c h same = ap (λ (ls : List LogLine). record { lits = d; hints = k } ∷ ls) (paired_push cs hs c h (omega arith))

paired_at : (cs : List (List Literal)) (hs : List (List ℕ)) (at : ℕ) → length cs ≡ length hs → at < length hs → get_or (paired cs hs) at no_line ≡ record { lits = get_or cs at []; hints = get_or hs at [] }
paired_at cs [] at same inside = absurd (omega arith)
paired_at [] (h ∷ hs) at same inside = absurd (omega arith)
paired_at (c ∷ cs) (h ∷ hs) zero same inside = refl
paired_at (c ∷ cs) (h ∷ hs) (suc at) same inside = paired_at cs hs at (omega arith) (omega arith)

-- what stands at a place
pub some_at : (cs : List (List Literal)) (at : ℕ) (c : List Literal) → slice_get cs at ≡ Some c → get_or cs at [] ≡ c
some_at [] at c e = cc
some_at (d ∷ cs) zero c e = cc
some_at (d ∷ cs) (suc at) c e = some_at cs at c e

pub none_at : (cs : List (List Literal)) (at : ℕ) → slice_get cs at ≡ None → at < length cs → ⊥
none_at [] at e h = omega arith
none_at (d ∷ cs) zero e h = cc
none_at (d ∷ cs) (suc at) e h = none_at cs at e (omega arith)

-- How many lines there are.
pub count : (cs : List (List Literal)) (ends ids : List ℕ) → length cs ≡ length ends → length (paired cs (pieces 0 ends ids)) ≡ length ends
count cs ends ids same = let n = pieces_count 0 ends ids in paired_length cs (pieces 0 ends ids) (omega arith) ∙ n

-- A line more.
pub pushed : (cs cs_new : List (List Literal)) (c : List Literal) (ends ends_new ids ids_new hints : List ℕ) → length cs ≡ length ends → are_ends 0 ends (length ids) ≡ true
    → cs_new ≡ cs ++ c ∷ [] → ids_new ≡ ids ++ hints → ends_new ≡ ends ++ length ids_new ∷ []
    → paired cs_new (pieces 0 ends_new ids_new) ≡ paired cs (pieces 0 ends ids) ++ record { lits = c; hints = hints } ∷ []
pushed cs cs_new c ends ends_new ids ids_new hints same are clauses items behind =
    let n = pieces_count 0 ends ids in
    let size : length ids_new ≡ length ids + length hints = ap length items ∙ length-append ids hints in
    let flat : pieces 0 ends_new ids_new ≡ pieces 0 ends ids ++ hints ∷ [] = rw behind (rw items (pieces_pushed 0 ends ids hints (length (ids ++ hints)) are (length-append ids hints))) in
    (λ i. paired (clauses i) (flat i)) ∙ paired_push cs (pieces 0 ends ids) c hints (omega arith)

-- The line at a place.
pub line_at : (cs : List (List Literal)) (ends ids : List ℕ) (at : ℕ) (c : List Literal) (hints : List ℕ) → length cs ≡ length ends → at < length ends
    → slice_get cs at ≡ Some c → hints ≡ slice_range ids (get_or (0 ∷ ends) at 0) (get_or ends at 0) → get_or (paired cs (pieces 0 ends ids)) at no_line ≡ record { lits = c; hints = hints }
line_at cs ends ids at c hints same inside clause is =
    let n = pieces_count 0 ends ids in
    let found = some_at cs at c clause in
    let piece = piece_at 0 ends ids at inside ∙ sym is in
    paired_at cs (pieces 0 ends ids) at (omega arith) (omega arith) ∙ (λ i. record { lits = found i; hints = piece i })

-- What was there before stays.
pub front_kept : (before out more : List ℕ) → out ≡ before ++ more → take (length before) out ≡ before
front_kept before out more is = ap (take (length before)) is ∙ take_at before more (length before) refl

-- Also where more follows.
pub front_kept_more : (before out longer more last : List ℕ) → out ≡ before ++ more → longer ≡ out ++ last → take (length before) longer ≡ before
front_kept_more before out longer more last is then = front_kept before longer (more ++ last) (then ∙ ap (λ (z : List ℕ). z ++ last) is ∙ append_assoc before more last)

-- What a line more keeps.
pub whole_pushed : (cs cs_new : List (List Literal)) (c : List Literal) (ends ends_new ids ids_new hints : List ℕ) → length cs ≡ length ends → are_ends 0 ends (length ids) ≡ true
    → cs_new ≡ cs ++ c ∷ [] → ids_new ≡ ids ++ hints → ends_new ≡ ends ++ length ids_new ∷ []
    → (length cs_new ≡ length ends_new) × (are_ends 0 ends_new (length ids_new) ≡ true)
whole_pushed cs cs_new c ends ends_new ids ids_new hints same are clauses items behind =
    let size : length ids_new ≡ length ids + length hints = ap length items ∙ length-append ids hints in
    let more : length cs_new ≡ length cs + 1 = ap length clauses ∙ length-append cs (c ∷ []) in
    let longer : length ends_new ≡ length ends + 1 = ap length behind ∙ length-append ends (length ids_new ∷ []) in
    (omega arith, rw behind (ends_pushed 0 ends (length ids) (length ids_new) are (omega arith)))
