-- Counting the names of binders counts variables.
use Rattle.std.proofs.Common.{◌≡◌, ℕ, zero, suc, ◌+◌, ◌-◌, ◌<◌, ◌≤◌, ◌==◌, ◌&&◌, Bool, true, false, List, [], ◌∷◌, length, drop, get_or, Option, Some, None, IfSome, refl, sym, ap, subst, arith, ◌∙◌, ◌⊎◌, inl, inr}
use Rattle.std.specs.Prelude.{slice_get, if◌then◌else◌, option_map}
use Rattle.std.proofs.lemmas.List.{drop_more, length-drop, drop_all}
use Rattle.std.proofs.lemmas.Option.{slice_get-get_or, slice_get_within, get_or_from_slice_get}
use Rattle.bv_grammar.specs.declared.words.Word.TheVariants as words
use Rattle.bv_grammar.specs.declared.words.Terminal.{Terminal}
use Rattle.bv_grammar.specs.declared.words.Role.{Role}
use Rattle.bv_grammar.specs.declared.words.Role.TheVariants as roles
use Rattle.bv_grammar.specs.declared.reading.Taken.{Taken}
use Rattle.bv_grammar.specs.Taking.{AreTaken}
use Rattle.bv_limits.specs.Roles.{IsRole, IsHead, BeginsSort, of_truths, of_vectors, IsVariable, in_braces, in_brackets}
use Rattle.bv_limits.specs.Counts.{Count, none, passed}
use Rattle.bv_limits.specs.Counts as c
use Rattle.bv_limits.specs.Limits.{IsHeadOf, IsTooMany, IsFirstTooMany}
use Rattle.bv_limits.specs.Counting.{is_head}
use Rattle.bv_limits.specs.Naming.{role_of, is_binder, is_colon, begins_sort, is_sort, names_sort, sorted, is_variable, is_full, counted}
use Rattle.bv_limits.proofs.Loops.{plus_one}
use Rattle.bv_limits.proofs.Counted.{Here, here, role_is, head_of, head_true, is_not, one_count, head_further, one_head}

-- what stands first among the rest
pub rest_is : (xs : List Taken) (i : ℕ) (x : Taken) → slice_get xs i ≡ Some x → drop i xs ≡ x ∷ drop (i + 1) xs
rest_is xs i x e = drop_more xs i x (slice_get_within xs i x e) ∙ ap (λ y. y ∷ drop (i + 1) xs) (get_or_from_slice_get xs i x x e)

record First (xs : List Taken) (i : ℕ) (x : Taken) (ys : List Taken) : Type 0 where
  pub there : slice_get xs i ≡ Some x
  pub rest : drop (i + 1) xs ≡ ys

first_of_rest : (xs : List Taken) (i : ℕ) (x : Taken) (ys : List Taken) → drop i xs ≡ x ∷ ys → First xs i x ys
first_of_rest xs i x ys e =
    let within : i < length xs = omega (arith, length-drop i xs, ap length e) in
    let split : get_or xs i x ∷ drop (i + 1) xs ≡ x ∷ ys = sym (drop_more xs i x within) ∙ e in
    let same : get_or xs i x ≡ x = cc in
    record { there = slice_get-get_or xs i x within ∙ ap Some same; rest = (cc) }

-- roles
binder_role : (r : Role) → is_binder r ≡ true → r ≡ roles.Binder
binder_role roles.Binder e = refl
binder_role r e = cc

colon_role : (r : Role) → is_colon r ≡ true → r ≡ roles.Word words.Colon
colon_role (roles.Word words.Colon) e = refl
colon_role r e = cc

both : (a b : Bool) → (a && b) ≡ true → (a ≡ true) × (b ≡ true)
both true true e = (refl, refl)
both true false e = cc
both false b e = cc

role_at : (ts : List Terminal) (xs : List Taken) (i : ℕ) (x : Taken) (r : Role) → AreTaken ts xs → slice_get xs i ≡ Some x → x.role ≡ r → IsRole ts r i
role_at ts xs i x r a e f = let t = a i x e in subst (λ q. IsRole ts q i) f (t.0, t.1)

sort_by : {ts : List Terminal} {i : ℕ} (r : Role) → begins_sort r ≡ true → IsRole ts r i → BeginsSort ts i
sort_by (roles.Word words.Bool) e h = of_truths h
sort_by (roles.Word words.BitVec) e h = of_vectors h
sort_by r e h = cc

-- a sort begins at k
sort_here : (ts : List Terminal) (xs : List Taken) (k : ℕ) (ys : List Taken) → AreTaken ts xs → drop k xs ≡ ys → is_sort ys ≡ true → BeginsSort ts k × (k < length xs)
sort_here ts xs k [] a e f = cc
sort_here ts xs k (x ∷ ys) a e f =
    let h = first_of_rest xs k x ys e in
    (sort_by x.role f (role_at ts xs k x x.role a h.there refl), slice_get_within xs k x h.there)

sort_role : {ts : List Terminal} {i : ℕ} (xs : List Taken) (k : Here ts xs i) → BeginsSort ts i → begins_sort k.x.role ≡ true
sort_role xs k (of_truths h) = ap begins_sort (role_is k h.1).0
sort_role xs k (of_vectors h) = ap begins_sort (role_is k h.1).0

is_sort_there : (ts : List Terminal) (xs : List Taken) (k : ℕ) → AreTaken ts xs → k < length xs → BeginsSort ts k → is_sort (drop k xs) ≡ true
is_sort_there ts xs k a l s = let h = here ts xs k a l in ap is_sort (rest_is xs k h.x h.there) ∙ sort_role xs h s

-- from i on stand names up to a colon, and behind it a sort
record Run (ts : List Terminal) (xs : List Taken) (i : ℕ) : Type 0 where
  pub colon : ℕ
  pub behind : i ≤ colon
  pub names : (m : ℕ) → i ≤ m → m < colon → IsRole ts roles.Binder m
  pub at_colon : IsRole ts (roles.Word words.Colon) colon
  pub sort : BeginsSort ts (colon + 1)
  pub reached : colon + 1 < length xs

from_cases : (i m : ℕ) → i ≤ m → (i ≡ m) ⊎ (i + 1 ≤ m)
from_cases i m h = grind arith

one_name : (ts : List Terminal) (xs : List Taken) (i : ℕ) → IsRole ts roles.Binder i → Run ts xs (i + 1) → Run ts xs i
one_name ts xs i h r = record {
  colon = r.colon;
  behind = omega (arith, r.behind);
  names = λ m p q. elim (from_cases i m p) [ inl same ↦ subst (λ k. IsRole ts roles.Binder k) same h | inr more ↦ r.names m more q ];
  at_colon = r.at_colon;
  sort = r.sort;
  reached = r.reached;
}

run_by : (ts : List Terminal) (xs : List Taken) (i : ℕ) (x : Taken) (ys : List Taken) (b : Bool) → AreTaken ts xs → First xs i x ys → is_binder x.role ≡ b → (names_sort ys ≡ true → Run ts xs (i + 1)) → (if b then names_sort ys else is_colon x.role && is_sort ys) ≡ true → Run ts xs i
run_by ts xs i x ys true a h e more f = one_name ts xs i (role_at ts xs i x roles.Binder a h.there (binder_role x.role e)) (more f)
run_by ts xs i x ys false a h e more f =
    let g = both _ _ f in
    let s = sort_here ts xs (i + 1) ys a h.rest g.1 in
    record {
      colon = i;
      behind = omega arith;
      names = λ m p q. absurd (omega (arith, p, q));
      at_colon = role_at ts xs i x (roles.Word words.Colon) a h.there (colon_role x.role g.0);
      sort = s.0;
      reached = s.1;
    }

run_of : (ts : List Terminal) (xs : List Taken) (i : ℕ) (ys : List Taken) → AreTaken ts xs → drop i xs ≡ ys → names_sort ys ≡ true → Run ts xs i
run_of ts xs i [] a e f = cc
run_of ts xs i (x ∷ ys) a e f =
    let h = first_of_rest xs i x ys e in
    run_by ts xs i x ys (is_binder x.role) a h refl (run_of ts xs (i + 1) ys a h.rest) f

-- and they are told
abbrev told : Role → List Taken → Bool
told r ys = if is_binder r then names_sort ys else is_colon r && is_sort ys

names_told : (ts : List Terminal) (xs : List Taken) (d i k : ℕ) → AreTaken ts xs → i + d ≡ k → ((m : ℕ) → i ≤ m → m < k → IsRole ts roles.Binder m) → IsRole ts (roles.Word words.Colon) k → BeginsSort ts (k + 1) → k + 1 < length xs → names_sort (drop i xs) ≡ true
names_told ts xs zero i k a e names colon sort l =
    let same : i ≡ k = omega (arith, e) in
    let h = here ts xs i a (omega (arith, l, same)) in
    let is : h.x.role ≡ roles.Word words.Colon = (role_is h (subst (λ q. IsRole ts (roles.Word words.Colon) q) (sym same) colon).1).0 in
    ap names_sort (rest_is xs i h.x h.there) ∙ ap (λ r. told r (drop (i + 1) xs)) is ∙ ap (λ q. is_sort (drop (q + 1) xs)) same ∙ is_sort_there ts xs (k + 1) a l sort
names_told ts xs (suc d) i k a e names colon sort l =
    let h = here ts xs i a (omega (arith, l, e)) in
    let is : h.x.role ≡ roles.Binder = (role_is h (names i (omega arith) (omega (arith, e))).1).0 in
    ap names_sort (rest_is xs i h.x h.there) ∙ ap (λ r. told r (drop (i + 1) xs)) is ∙ names_told ts xs d (i + 1) k a (omega (arith, e)) (λ m p q. names m (omega (arith, p)) q) colon sort l

-- a name is a variable where it is told so
abbrev pub variable_at : List Taken → ℕ → Role → Bool
variable_at xs i r = is_variable r (sorted r (drop i xs))

variable_role : (r : Role) (ys : List Taken) → is_variable r (sorted r ys) ≡ true → (r ≡ roles.BraceBinder) ⊎ ((r ≡ roles.Binder) × (names_sort ys ≡ true))
variable_role roles.BraceBinder ys e = inl refl
variable_role roles.Binder ys e = inr (refl, e)
variable_role r ys e = cc

variable_run : (ts : List Terminal) (xs : List Taken) (i : ℕ) → AreTaken ts xs → IsRole ts roles.Binder i → Run ts xs i → i < length xs → IsVariable ts (length xs) i
variable_run ts xs i a h r l = elim (from_cases i r.colon r.behind) [
  | inl same ↦ absurd (no_name (subst (λ k. IsRole ts (roles.Word words.Colon) k) (sym same) r.at_colon))
  | inr more ↦ in_brackets (omega (arith, more)) r.names r.at_colon r.sort r.reached
]
  where
    no_name : IsRole ts (roles.Word words.Colon) i → ⊥
    no_name g = let k = here ts xs i a l in let e = (role_is k h.1).0 in let f = (role_is k g.1).0 in cc

pub variable_of : (ts : List Terminal) (xs : List Taken) (i : ℕ) (k : Here ts xs i) → AreTaken ts xs → variable_at xs i k.x.role ≡ true → IsVariable ts (length xs) i
variable_of ts xs i k a e = elim (variable_role k.x.role (drop i xs) e) [
  | inl brace ↦ in_braces (role_at ts xs i k.x roles.BraceBinder a k.there brace)
  | inr round ↦ variable_run ts xs i a (role_at ts xs i k.x roles.Binder a k.there round.0) (run_of ts xs i (drop i xs) a refl round.1) (slice_get_within xs i k.x k.there)
]

pub variable_true : (ts : List Terminal) (xs : List Taken) (i : ℕ) (k : Here ts xs i) → AreTaken ts xs → IsVariable ts (length xs) i → variable_at xs i k.x.role ≡ true
variable_true ts xs i k a (in_braces h) = ap (λ r. variable_at xs i r) (role_is k h.1).0
variable_true ts xs i k a (in_brackets {k = j} l names colon sort reached) =
    let d : i + (j - i) ≡ j = omega (arith, l) in
    ap (λ r. variable_at xs i r) (role_is k (names i (omega arith) l).1).0 ∙ names_told ts xs (j - i) i j a d names colon sort reached

head_no_variable : (r : Role) (ys : List Taken) → is_head r ≡ true → is_variable r (sorted r ys) ≡ true → ⊥
head_no_variable (roles.Word words.Theorem) ys e f = cc
head_no_variable (roles.Word words.Example) ys e f = cc
head_no_variable r ys e f = cc

-- the variables are counted since the last head
pub record Since (ts : List Terminal) (end n k : ℕ) : Type 0 where
  pub at : ℕ
  pub head : IsHeadOf ts at n
  pub count : Count (IsVariable ts end) at n k

pub record Counting (ts : List Terminal) (end n : ℕ) (o : Option ℕ) : Type 0 where
  pub since : (k : ℕ) → o ≡ Some k → Since ts end n k
  pub behind : (h : ℕ) → IsHeadOf ts h n → (k : ℕ) × (o ≡ Some k)

pub at_start : (ts : List Terminal) (end : ℕ) → Counting ts end 0 None
at_start ts end = record { since = λ k e. (cc); behind = λ h i. absurd (omega (arith, i.before)) }

same_some : {m n : ℕ} → Some m ≡ Some n → m ≡ n
same_some e = cc

since_next : (ts : List Terminal) (xs : List Taken) (n : ℕ) (a : Here ts xs n) (h v : Bool) (o : Option ℕ) (k : ℕ) → is_head a.x.role ≡ h → (v ≡ true → IsVariable ts (length xs) n) → (IsVariable ts (length xs) n → v ≡ true) → (h ≡ true → v ≡ true → ⊥)
    → ((j : ℕ) → o ≡ Some j → Since ts (length xs) n j) → counted h v o ≡ Some k → Since ts (length xs) (suc n) k
since_next ts xs n a true v o k e makes shows other since g = record {
  at = n;
  head = record { head = head_of a e; before = omega arith; last = λ j l m i. absurd (omega (arith, l, m)) };
  count = subst (λ j. Count (IsVariable ts (length xs)) n (suc n) j) (same_some g) (passed (λ i. other refl (shows i)) none);
}
since_next ts xs n a false true None k e makes shows other since g = cc
since_next ts xs n a false true (Some j) k e makes shows other since g =
    let s = since j refl in
    record {
      at = s.at;
      head = head_further ts s.at n s.head (λ i. is_not e (head_true a i));
      count = subst (λ m. Count (IsVariable ts (length xs)) s.at (suc n) m) (sym (plus_one j) ∙ same_some g) (c.counted (makes refl) s.count);
    }
since_next ts xs n a false false o k e makes shows other since g =
    let s = since k g in
    record { at = s.at; head = head_further ts s.at n s.head (λ i. is_not e (head_true a i)); count = passed (λ i. is_not refl (shows i)) s.count }

behind_next : (h v : Bool) (o : Option ℕ) → (h ≡ false → (j : ℕ) × (o ≡ Some j)) → (k : ℕ) × (counted h v o ≡ Some k)
behind_next true v o s = (0, refl)
behind_next false true o s = let j = s refl in (j.0 + 1, ap (option_map (λ m. m + 1)) j.1)
behind_next false false o s = s refl

place_cases : (k n : ℕ) → k < suc n → (k < n) ⊎ (k ≡ n)
place_cases k n h = grind arith

nearer : (ts : List Terminal) (xs : List Taken) (n h : ℕ) (a : Here ts xs n) → is_head a.x.role ≡ false → IsHeadOf ts h (suc n) → IsHeadOf ts h n
nearer ts xs n h a f i = record {
  head = i.head;
  before = elim (place_cases h n i.before) [ inl less ↦ less | inr same ↦ absurd (is_not f (head_true a (subst (λ j. IsHead ts j) same i.head))) ];
  last = λ k m p q. i.last k m (omega (arith, p)) q;
}

-- one token more
counting_next : (ts : List Terminal) (xs : List Taken) (n : ℕ) (a : Here ts xs n) (o : Option ℕ) → AreTaken ts xs → Counting ts (length xs) n o → Counting ts (length xs) (suc n) (counted (is_head a.x.role) (variable_at xs n a.x.role) o)
counting_next ts xs n a o all s = record {
  since = λ k g. since_next ts xs n a (is_head a.x.role) (variable_at xs n a.x.role) o k refl (variable_of ts xs n a all) (variable_true ts xs n a all) (head_no_variable a.x.role (drop n xs)) s.since g;
  behind = λ h i. behind_next (is_head a.x.role) (variable_at xs n a.x.role) o (λ f. s.behind h (nearer ts xs n h a f i));
}

-- what a loop over tokens keeps
pub role_there : (xs : List Taken) (n : ℕ) (r : Role) → role_of (slice_get xs n) ≡ Some r → (x : Taken) × (slice_get xs n ≡ Some x) × (x.role ≡ r)
role_there xs n r e = of_option (slice_get xs n) refl e
  where
    of_option : (o : Option Taken) → slice_get xs n ≡ o → role_of o ≡ Some r → (x : Taken) × (slice_get xs n ≡ Some x) × (x.role ≡ r)
    of_option None f g = cc
    of_option (Some x) f g = (x, f, (cc))

pub within_by : (xs : List Taken) (n : ℕ) (r : Role) → role_of (slice_get xs n) ≡ Some r → n < length xs
within_by xs n r e = let h = role_there xs n r e in slice_get_within xs n h.0 h.1

here_as : (ts : List Terminal) (xs : List Taken) (n : ℕ) (r : Role) → AreTaken ts xs → role_of (slice_get xs n) ≡ Some r → (k : Here ts xs n) × (k.x.role ≡ r)
here_as ts xs n r a e = let h = role_there xs n r e in (record { x = h.0; there = h.1; taken = a n h.0 h.1 }, h.2)

pub counting_more : (xs : List Taken) (n : ℕ) (r : Role) (o p : Option ℕ) (h v : Bool) → role_of (slice_get xs n) ≡ Some r → h ≡ is_head r → v ≡ variable_at xs n r → p ≡ counted h v o → ((ts : List Terminal) → AreTaken ts xs → Counting ts (length xs) n o) → (ts : List Terminal) → AreTaken ts xs → Counting ts (length xs) (n + 1) p
counting_more xs n r o p h v e f g q s ts a =
    let k = here_as ts xs n r a e in
    let same : counted (is_head k.0.x.role) (variable_at xs n k.0.x.role) o ≡ p = ap (λ w. counted (is_head w) (variable_at xs n w) o) k.1 ∙ (λ i. counted (sym f i) (sym g i) o) ∙ sym q in
    subst (λ w. Counting ts (length xs) (n + 1) w) same (subst (λ m. Counting ts (length xs) m (counted (is_head k.0.x.role) (variable_at xs n k.0.x.role) o)) (sym (plus_one n)) (counting_next ts xs n k.0 o a (s ts a)))

full_is : (o : Option ℕ) → is_full o ≡ true → o ≡ Some 64
full_is None e = cc
full_is (Some n) e = ap Some (equal n e)
  where
    equal : (m : ℕ) → (m == 64) ≡ true → m ≡ 64
    equal m f = grind arith

-- a place with too many is told
pub too_many : (xs : List Taken) (n : ℕ) (r : Role) (o : Option ℕ) (v : Bool) → role_of (slice_get xs n) ≡ Some r → v ≡ variable_at xs n r → v ≡ true → is_full o ≡ true → ((ts : List Terminal) → AreTaken ts xs → Counting ts (length xs) n o) → (ts : List Terminal) → AreTaken ts xs → IsTooMany ts (length xs) n
too_many xs n r o v e g t f s ts a =
    let k = here_as ts xs n r a e in
    let since = (s ts a).since 64 (full_is o f) in
    (since.at, within_by xs n r e, since.head, variable_of ts xs n k.0 a (ap (variable_at xs n) k.1 ∙ sym g ∙ t), since.count)

pub not_too_many : (xs : List Taken) (n : ℕ) (r : Role) (o : Option ℕ) (v : Bool) → role_of (slice_get xs n) ≡ Some r → v ≡ variable_at xs n r → (v ≡ true → is_full o ≡ true → ⊥) → ((ts : List Terminal) → AreTaken ts xs → Counting ts (length xs) n o) → (ts : List Terminal) → AreTaken ts xs → IsTooMany ts (length xs) n → ⊥
not_too_many xs n r o v e g not s ts a (h, l, head, variable, count) =
    let k = here_as ts xs n r a e in
    let one = (s ts a).behind h head in
    let since = (s ts a).since one.0 one.1 in
    let same : one.0 ≡ 64 = one_count since.count count (one_head ts since.at h n since.head head) refl in
    not (g ∙ sym (ap (variable_at xs n) k.1) ∙ variable_true ts xs n k.0 a variable) (ap is_full (one.1 ∙ ap Some same))

later_cases : (k n : ℕ) → k < n + 1 → (k < n) ⊎ (k ≡ n)
later_cases k n h = grind arith

pub clean_more : (xs : List Taken) (n : ℕ) → ((ts : List Terminal) → AreTaken ts xs → (k : ℕ) → k < n → IsTooMany ts (length xs) k → ⊥) → ((ts : List Terminal) → AreTaken ts xs → IsTooMany ts (length xs) n → ⊥) → (ts : List Terminal) → AreTaken ts xs → (k : ℕ) → k < n + 1 → IsTooMany ts (length xs) k → ⊥
clean_more xs n h e ts a k l m = elim (later_cases k n l) [ inl less ↦ h ts a k less m | inr same ↦ e ts a (subst (λ q. IsTooMany ts (length xs) q) same m) ]

-- the first
not_less : (m n : ℕ) → (m < n → ⊥) → n ≤ m
not_less m n h = grind arith

pub is_first : (xs : List Taken) (n : ℕ) → ((ts : List Terminal) → AreTaken ts xs → (k : ℕ) → k < n → IsTooMany ts (length xs) k → ⊥) → ((ts : List Terminal) → AreTaken ts xs → IsTooMany ts (length xs) n) → (ts : List Terminal) → AreTaken ts xs → IsFirstTooMany ts (length xs) (Some n)
is_first xs n h e ts a = (e ts a, λ k m. not_less k n (λ l. h ts a k l m))

pub is_none : (xs : List Taken) (n : ℕ) → length xs ≤ n → ((ts : List Terminal) → AreTaken ts xs → (k : ℕ) → k < n → IsTooMany ts (length xs) k → ⊥) → (ts : List Terminal) → AreTaken ts xs → IsFirstTooMany ts (length xs) None
is_none xs n e h ts a k m = h ts a k (omega (arith, e, m.1)) m

-- the names behind the first are known
pub known_more : (xs : List Taken) (n : ℕ) (r : Role) (s : Option Bool) → role_of (slice_get xs n) ≡ Some r → s ≡ sorted r (drop n xs) → (b : Bool) → s ≡ Some b → b ≡ names_sort (drop (n + 1) xs)
known_more xs n r s e f b g =
    let h = role_there xs n r e in
    by_binder h.0 (is_binder r) refl (sym g ∙ f ∙ ap (sorted r) (rest_is xs n h.0 h.1)) (h.2)
  where
    same_bool : {p q : Bool} → Some p ≡ Some q → p ≡ q
    same_bool w = cc

    by_binder : (x : Taken) (d : Bool) → is_binder r ≡ d → Some b ≡ sorted r (x ∷ drop (n + 1) xs) → x.role ≡ r → b ≡ names_sort (drop (n + 1) xs)
    by_binder x true w q k = same_bool (q ∙ ap (λ d. if d then Some (told x.role (drop (n + 1) xs)) else None) w ∙ ap (λ d. Some (if d then names_sort (drop (n + 1) xs) else is_colon x.role && is_sort (drop (n + 1) xs))) (ap is_binder k ∙ w))
    by_binder x false w q k = let none_is : Some b ≡ None = q ∙ ap (λ d. if d then Some (told x.role (drop (n + 1) xs)) else None) w in cc

-- the loop over names
pub name_more : (xs : List Taken) (n : ℕ) (r : Role) → role_of (slice_get xs n) ≡ Some r → is_binder r ≡ true → names_sort (drop (n + 1) xs) ≡ names_sort (drop n xs)
name_more xs n r e f =
    let h = role_there xs n r e in
    sym (ap names_sort (rest_is xs n h.0 h.1) ∙ ap (λ d. if d then names_sort (drop (n + 1) xs) else is_colon h.0.role && is_sort (drop (n + 1) xs)) (ap is_binder h.2 ∙ f))

pub name_ends : (xs : List Taken) (n : ℕ) (r : Role) → role_of (slice_get xs n) ≡ Some r → is_binder r ≡ false → (is_colon r && is_sort (drop (n + 1) xs)) ≡ names_sort (drop n xs)
name_ends xs n r e f =
    let h = role_there xs n r e in
    sym (ap names_sort (rest_is xs n h.0 h.1) ∙ ap (λ q. told q (drop (n + 1) xs)) h.2 ∙ ap (λ d. if d then names_sort (drop (n + 1) xs) else is_colon r && is_sort (drop (n + 1) xs)) f)

pub no_name_left : (xs : List Taken) (n : ℕ) → length xs ≤ n → false ≡ names_sort (drop n xs)
no_name_left xs n h = sym (ap names_sort (drop_all n xs h))

-- a sort begins there
pub sort_told : (xs : List Taken) (n : ℕ) (r : Role) → role_of (slice_get xs n) ≡ Some r → begins_sort r ≡ is_sort (drop n xs)
sort_told xs n r e = let h = role_there xs n r e in sym (ap is_sort (rest_is xs n h.0 h.1) ∙ ap begins_sort h.2)

pub no_sort_told : (xs : List Taken) (n : ℕ) → length xs ≤ n → false ≡ is_sort (drop n xs)
no_sort_told xs n h = sym (ap is_sort (drop_all n xs h))

-- where a name ends
pub at_colon : (xs : List Taken) (from n : ℕ) (r : Role) (b s : Bool) → role_of (slice_get xs n) ≡ Some r → is_binder r ≡ false → b ≡ is_colon r → b ≡ true → s ≡ is_sort (drop (n + 1) xs) → names_sort (drop n xs) ≡ names_sort (drop from xs) → s ≡ names_sort (drop from xs)
at_colon xs from n r b s e f g h k m = k ∙ ap (λ q. q && is_sort (drop (n + 1) xs)) (sym h ∙ g) ∙ name_ends xs n r e f ∙ m

pub at_other : (xs : List Taken) (from n : ℕ) (r : Role) (b : Bool) → role_of (slice_get xs n) ≡ Some r → is_binder r ≡ false → b ≡ is_colon r → b ≡ false → names_sort (drop n xs) ≡ names_sort (drop from xs) → b ≡ names_sort (drop from xs)
at_other xs from n r b e f g h m = h ∙ ap (λ q. q && is_sort (drop (n + 1) xs)) (sym h ∙ g) ∙ name_ends xs n r e f ∙ m

-- few are counted
not_at_limit : (n : ℕ) → ((n == 64) ≡ true → ⊥) → n ≤ 64 → n + 1 ≤ 64
not_at_limit n h l = less (n == 64) refl
  where
    differs : (n == 64) ≡ false → n + 1 ≤ 64
    differs e = grind arith

    less : (b : Bool) → (n == 64) ≡ b → n + 1 ≤ 64
    less true e = absurd (h e)
    less false e = differs e

pub few_more : (h v : Bool) (o p : Option ℕ) → p ≡ counted h v o → IfSome o (λ n. n ≤ 64) → (v ≡ true → is_full o ≡ true → ⊥) → IfSome p (λ n. n ≤ 64)
few_more h v o p e f g = subst (λ q. IfSome q (λ n. n ≤ 64)) (sym e) (few h v o f g)
  where
    few : (k w : Bool) (q : Option ℕ) → IfSome q (λ n. n ≤ 64) → (w ≡ true → is_full q ≡ true → ⊥) → IfSome (counted k w q) (λ n. n ≤ 64)
    few true w q a b = omega arith
    few false true None a b = tt
    few false true (Some n) a b = not_at_limit n (b refl) a
    few false false q a b = a
