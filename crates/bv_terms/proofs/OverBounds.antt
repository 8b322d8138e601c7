-- Names without misfits: they are few, they differ, and each has a sort, whose width is 1 to 128 where it is one of vectors.
use Rattle.std.proofs.Common.{◌≡◌, ℕ, zero, suc, ◌+◌, ◌-◌, ◌<◌, ◌≤◌, Bool, true, false, not, ◌&&◌, List, [], ◌∷◌, ◌++◌, length, Option, Some, None, refl, sym, ◌∙◌, ap, subst, arith}
use Rattle.std.specs.Prelude.{◌≢◌, codes, bytes_eq, is_some, nat_le, nat_lt, slice_get, option_map, map, All, IsTrue, if◌then◌else◌}
use Rattle.std.specs.List.{list_any, range_with_len}
use Rattle.std.proofs.lemmas.Bool.{and_from, le-leb, ltb-true, or_parts, true≢false}
use Rattle.std.proofs.lemmas.List.{length-map, length_push}
use Rattle.std.proofs.lemmas.List.Elements.{All-nil, All-cons, All-head, All-tail, All-append, All-map}
use Rattle.std.proofs.lemmas.List.Folds.{list_any-append}
use Rattle.std.proofs.lemmas.Option.{same_Some, some_pair_parts, slice_get-map, slice_get_within}
use Rattle.std.proofs.lemmas.Slice.Eq.{bytes_eq-Decides}
use Rattle.bv_expr.specs.declared.ops.Sort.{Sort}
use Rattle.bv_expr.specs.declared.ops.Sort.TheVariants.{Truth, Vector}
use Rattle.bv_expr.specs.Goal.{is_sort, sorts_of}
use Rattle.bv_trees.specs.declared.pieces.Sort.{Sort as Written}
use Rattle.bv_trees.specs.declared.pieces.Sort.TheVariants as written
use Rattle.bv_trees.specs.Trees.{Binder, variables, hypothesis, Goal}
use Rattle.bv_typing.specs.declared.misfit.Misfit.{Misfit}
use Rattle.bv_typing.specs.Source.{Source, text_at, number_at}
use Rattle.bv_typing.specs.Variables.{Bound, sort_at, bounds, all_bounds, bound_from, variable_of, may_bind, sorted_binder, binders_of}
use Rattle.bv_typing.specs.Readings.{variable_at}
use Rattle.bv_typing.specs.Goals.{bound_misfits, env_of}
use Rattle.bv_terms.specs.Sorting.{Bounded}
use Rattle.bv_terms.proofs.Within.{Within, vectors_within}
use Rattle.bv_terms.proofs.Built.{Numbered}

-- these names may be bound, one behind another
abbrev pub Fit : List Bound → Type 0
Fit bs = bound_misfits [] bs ≡ []

-- ---- one name behind others

-- another name, with a sort, behind fewer than 64
record Binds (before : List Bound) (b : Bound) : Type 0 where
  pub apart : list_any (λ a. bytes_eq a.name b.name) before ≡ false
  pub sorted : is_some b.sort ≡ true
  pub few : length before < 64

three_tests : (x y z : Bool) → (not x && y && z) ≡ true → (x ≡ false) × (y ≡ true) × (z ≡ true)
three_tests true y z h = cc
three_tests false true true h = (refl, refl, refl)
three_tests false true false h = cc
three_tests false false z h = cc

binds : (before : List Bound) (b : Bound) → may_bind before b ≡ true → Binds before b
binds before b h =
    let p = three_tests (list_any (λ a. bytes_eq a.name b.name) before) (is_some b.sort) (nat_lt (length before) 64) h in
    record { apart = p.0; sorted = p.1; few = ltb-true (length before) 64 p.2 }

no_misfit : (t : Bool) (f : Misfit) (fs : List Misfit) → (if t then [] else f ∷ []) ++ fs ≡ [] → (t ≡ true) × (fs ≡ [])
no_misfit true f fs h = (refl, h)
no_misfit false f fs h = cc

first_binds : (before : List Bound) (b : Bound) (bs : List Bound) → bound_misfits before (b ∷ bs) ≡ [] → Binds before b × (bound_misfits (before ++ b ∷ []) bs ≡ [])
first_binds before b bs h = let p = no_misfit (may_bind before b) _ (bound_misfits (before ++ b ∷ []) bs) h in (binds before b p.0, p.1)

-- ---- few names

few_behind : (before bs : List Bound) → length before ≤ 64 → bound_misfits before bs ≡ [] → length before + length bs ≤ 64
few_behind before [] l h = omega (arith, l)
few_behind before (b ∷ bs) l h =
    let p = first_binds before b bs h in
    let more : length (before ++ b ∷ []) ≡ length before + 1 = length_push before b in
    let room : length before < 64 = p.0.few in
    let rest : length (before ++ b ∷ []) + length bs ≤ 64 = few_behind (before ++ b ∷ []) bs (omega (arith, more, room)) p.1 in
    omega (arith, more, rest)

pub few : (bs : List Bound) → Fit bs → length bs ≤ 64
few bs h = let most : 0 + length bs ≤ 64 = few_behind [] bs (omega arith) h in omega (arith, most)

-- ---- different names

named_behind : (before bs : List Bound) → bound_misfits before bs ≡ [] → (j : ℕ) (n : List ℕ) → slice_get (map (λ b. b.name) bs) j ≡ Some n → list_any (λ a. bytes_eq a.name n) before ≡ false
named_behind before [] h j n e = cc
named_behind before (b ∷ bs) h zero n e = subst (λ m. list_any (λ a. bytes_eq a.name m) before ≡ false) (same_Some b.name n e) (first_binds before b bs h).0.apart
named_behind before (b ∷ bs) h (suc j) n e =
    let later = named_behind (before ++ b ∷ []) bs (first_binds before b bs h).1 j n e in
    (or_parts (list_any (λ a. bytes_eq a.name n) before) (list_any (λ a. bytes_eq a.name n) (b ∷ [])) (sym (list_any-append (λ a. bytes_eq a.name n) before (b ∷ [])) ∙ later)).0

other_name : (before : List Bound) (b : Bound) → list_any (λ a. bytes_eq a.name b.name) (before ++ b ∷ []) ≡ false → ⊥
other_name before b h =
    let last = (or_parts (list_any (λ a. bytes_eq a.name b.name) before) (list_any (λ a. bytes_eq a.name b.name) (b ∷ [])) (sym (list_any-append (λ a. bytes_eq a.name b.name) before (b ∷ [])) ∙ h)).1 in
    let differs = (or_parts (bytes_eq b.name b.name) false last).0 in
    true≢false (sym ((bytes_eq-Decides b.name b.name).1 refl) ∙ differs)

differ_behind : (before bs : List Bound) → bound_misfits before bs ≡ [] → (i j : ℕ) → i < j → j < length bs → slice_get (map (λ b. b.name) bs) i ≢ slice_get (map (λ b. b.name) bs) j
differ_behind before [] h i j l m e = absurd (omega (arith, m))
differ_behind before (b ∷ bs) h i zero l m e = absurd (omega (arith, l))
differ_behind before (b ∷ bs) h zero (suc j) l m e = other_name before b (named_behind (before ++ b ∷ []) bs (first_binds before b bs h).1 j b.name (sym e))
differ_behind before (b ∷ bs) h (suc i) (suc j) l m e = differ_behind (before ++ b ∷ []) bs (first_binds before b bs h).1 i j (omega (arith, l)) (omega (arith, m)) e

pub differ : (bs : List Bound) → Fit bs → (i j : ℕ) → i < j → j < length bs → slice_get (map (λ b. b.name) bs) i ≢ slice_get (map (λ b. b.name) bs) j
differ bs h = differ_behind [] bs h

-- ---- names with sorts

abbrev pub AllSorted : List Bound → Type 0
AllSorted [] = Unit {0}
AllSorted (b ∷ bs) = (is_some b.sort ≡ true) × AllSorted bs

sorted_behind : (before bs : List Bound) → bound_misfits before bs ≡ [] → AllSorted bs
sorted_behind before [] h = tt
sorted_behind before (b ∷ bs) h = let p = first_binds before b bs h in (p.0.sorted, sorted_behind (before ++ b ∷ []) bs p.1)

pub all_sorted : (bs : List Bound) → Fit bs → AllSorted bs
all_sorted bs h = sorted_behind [] bs h

-- the variables have the names and the sorts that are bound
pub names_are : (bs : List Bound) → AllSorted bs → map (λ v. v.0) (binders_of bs) ≡ map (λ b. b.name) bs
names_are [] s = refl
names_are (b ∷ bs) s = go b.sort s.0 (names_are bs s.1)
  where
    go : (o : Option Sort) → is_some o ≡ true → map (λ v. v.0) (binders_of bs) ≡ map (λ c. c.name) bs → map (λ v. v.0) (sorted_binder b.name o ++ binders_of bs) ≡ b.name ∷ map (λ c. c.name) bs
    go None h e = cc
    go (Some t) h e = ap (λ ns. b.name ∷ ns) e

pub sorts_are : (bs : List Bound) → AllSorted bs → map (λ s. Some s) (sorts_of (binders_of bs)) ≡ map (λ b. b.sort) bs
sorts_are [] s = refl
sorts_are (b ∷ bs) s = go b.sort s.0 (sorts_are bs s.1)
  where
    go : (o : Option Sort) → is_some o ≡ true → map (λ s. Some s) (sorts_of (binders_of bs)) ≡ map (λ c. c.sort) bs → map (λ s. Some s) (sorts_of (sorted_binder b.name o ++ binders_of bs)) ≡ o ∷ map (λ c. c.sort) bs
    go None h e = cc
    go (Some t) h e = ap (λ os. Some t ∷ os) e

pub as_many : (bs : List Bound) → Fit bs → length (binders_of bs) ≡ length bs
as_many bs h = sym (length-map (binders_of bs) (λ v. v.0)) ∙ ap length (names_are bs (all_sorted bs h)) ∙ length-map bs (λ b. b.name)

pub named_apart : (bs : List Bound) → Fit bs → (i j : ℕ) → i < j → j < length (binders_of bs) → option_map (λ v. v.0) (slice_get (binders_of bs) i) ≢ option_map (λ v. v.0) (slice_get (binders_of bs) j)
named_apart bs h i j l m e =
    let within : j < length bs = subst (λ n. j < n) (as_many bs h) m in
    differ bs h i j l within (sym (name_at i) ∙ e ∙ name_at j)
  where
    name_at : (k : ℕ) → option_map (λ v. v.0) (slice_get (binders_of bs) k) ≡ slice_get (map (λ b. b.name) bs) k
    name_at k = sym (slice_get-map (λ v. v.0) (binders_of bs) k) ∙ ap (λ ns. slice_get ns k) (names_are bs (all_sorted bs h))

-- ---- widths of 1 to 128

abbrev pub IsWithin : Bound → Type 0
IsWithin b = Within b.sort

written_within : (s : Source) (t : Written) → Within (sort_at s t)
written_within s written.Truth = tt
written_within s (written.Vector i) = vectors_within (number_at s i)

bounds_within : (s : Source) (o : Option Sort) (i n : ℕ) → Within o → All IsWithin (bounds s o i n)
bounds_within s o i n w = All-map IsWithin (λ k. record { at = k; name = text_at s k; sort = o }) (range_with_len i n) (λ k d lt. w)

-- those that a goal binds have them, fitting or not
pub all_within : (s : Source) (bs : List Binder) → All IsWithin (all_bounds s bs)
all_within s [] = All-nil IsWithin
all_within s (variables i j t ∷ bs) = All-append IsWithin (bounds s (sort_at s t) i (j - i)) (all_bounds s bs) (bounds_within s (sort_at s t) i (j - i) (written_within s t)) (all_within s bs)
all_within s (hypothesis x ∷ bs) = all_within s bs

each_fits : (bs : List Bound) → AllSorted bs → All IsWithin bs → All (λ v. IsTrue (is_sort v.1)) (binders_of bs)
each_fits [] s h = All-nil _
each_fits (b ∷ bs) s h = go b.sort s.0 (All-head IsWithin b bs h) (each_fits bs s.1 (All-tail IsWithin b bs h))
  where
    fits : (t : Sort) → Within (Some t) → IsTrue (is_sort t)
    fits Truth w = refl
    fits (Vector u) w = and_from (nat_le 1 u) (nat_le u 128) (le-leb 1 u w.0) (le-leb u 128 w.1)

    go : (o : Option Sort) → is_some o ≡ true → Within o → All (λ v. IsTrue (is_sort v.1)) (binders_of bs) → All (λ v. IsTrue (is_sort v.1)) (sorted_binder b.name o ++ binders_of bs)
    go None e w rest = cc
    go (Some t) e w rest = All-cons (λ v. IsTrue (is_sort v.1)) (b.name, t) (binders_of bs) (fits t w) rest

pub sorts_fit : (bs : List Bound) → Fit bs → All IsWithin bs → All (λ v. IsTrue (is_sort v.1)) (binders_of bs)
sorts_fit bs h w = each_fits bs (all_sorted bs h) w

-- ---- the variable of a name

found_from : (j : ℕ) (n : List ℕ) (bs : List Bound) (k : ℕ) (o : Option Sort) → bound_from j n bs ≡ Some (k, o) → (m : ℕ) × (k ≡ j + m) × (slice_get (map (λ b. b.sort) bs) m ≡ Some o)
found_from j n [] k o h = cc
found_from j n (b ∷ bs) k o h = go (bytes_eq b.name n) (found_from (j + 1) n bs k o) h
  where
    next : (m : ℕ) → k ≡ j + 1 + m → k ≡ j + suc m
    next m e = omega (arith, e)

    here : j ≡ k → k ≡ j + 0
    here e = omega (arith, e)

    go : (t : Bool) → (bound_from (j + 1) n bs ≡ Some (k, o) → (m : ℕ) × (k ≡ j + 1 + m) × (slice_get (map (λ c. c.sort) bs) m ≡ Some o))
        → (if t then Some (j, b.sort) else bound_from (j + 1) n bs) ≡ Some (k, o) → (m : ℕ) × (k ≡ j + m) × (slice_get (b.sort ∷ map (λ c. c.sort) bs) m ≡ Some o)
    go true rest e = let p = some_pair_parts j k b.sort o e in (zero, here p.0, ap Some p.1)
    go false rest e = let p = rest e in (suc p.0, next p.0 p.1, p.2)

-- its number is its place, and its sort the one that is bound there
pub found : (bs : List Bound) (n : List ℕ) (k : ℕ) (o : Option Sort) → variable_of bs n ≡ Some (k, o) → slice_get (map (λ b. b.sort) bs) k ≡ Some o
found bs n k o h = go (bytes_eq n (codes "_")) h
  where
    go : (t : Bool) → (if t then None else bound_from 0 n bs) ≡ Some (k, o) → slice_get (map (λ b. b.sort) bs) k ≡ Some o
    go true e = cc
    go false e =
        let p = found_from 0 n bs k o e in
        let same : p.0 ≡ k = omega (arith, p.1) in
        subst (λ m. slice_get (map (λ b. b.sort) bs) m ≡ Some o) same p.2

found_within : (bs : List Bound) (n : List ℕ) (k : ℕ) (o : Option Sort) → variable_of bs n ≡ Some (k, o) → k < length bs
found_within bs n k o h = subst (λ l. k < l) (length-map bs (λ b. b.sort)) (slice_get_within (map (λ b. b.sort) bs) k o (found bs n k o h))

within_at : (bs : List Bound) → All IsWithin bs → (m : ℕ) (o : Option Sort) → slice_get (map (λ b. b.sort) bs) m ≡ Some o → Within o
within_at [] h m o e = cc
within_at (b ∷ bs) h zero o e = subst Within (same_Some b.sort o e) (All-head IsWithin b bs h)
within_at (b ∷ bs) h (suc m) o e = within_at bs (All-tail IsWithin b bs h) m o e

sort_given : (o : Option Sort) (s : Sort) → option_map (λ t. Some t) o ≡ Some (Some s) → o ≡ Some s
sort_given None s h = cc
sort_given (Some t) s h = let e : t ≡ s = cc in ap Some e

-- the sort of a variable stands at its number
pub sort_found : (bs : List Bound) → Fit bs → (n : List ℕ) (k : ℕ) (s : Sort) → variable_of bs n ≡ Some (k, Some s) → slice_get (sorts_of (binders_of bs)) k ≡ Some s
sort_found bs f n k s h =
    sort_given (slice_get (sorts_of (binders_of bs)) k) s
    (sym (slice_get-map (λ t. Some t) (sorts_of (binders_of bs)) k) ∙ ap (λ os. slice_get os k) (sorts_are bs (all_sorted bs f)) ∙ found bs n k (Some s) h)

-- ---- in a goal

pub bounded : (s : Source) (g : Goal) → Bounded (env_of s g)
bounded s g i k u h = within_at (all_bounds s g.binders) (all_within s g.binders) k (Some (Vector u)) (found (all_bounds s g.binders) (text_at s i) k (Some (Vector u)) h)

pub numbered : (s : Source) (g : Goal) → Fit (all_bounds s g.binders) → Numbered (env_of s g)
numbered s g f i k t h = omega (arith, found_within (all_bounds s g.binders) (text_at s i) k (Some t) h, few (all_bounds s g.binders) f)

pub sort_in_place : (s : Source) (g : Goal) → Fit (all_bounds s g.binders) → (i k : ℕ) (t : Sort) → variable_at (env_of s g) i ≡ Some (k, Some t) → slice_get (sorts_of (binders_of (all_bounds s g.binders))) k ≡ Some t
sort_in_place s g f i k t h = sort_found (all_bounds s g.binders) f (text_at s i) k t h
