-- Counting the roles of tokens counts head words and the tokens of terms.
use Rattle.std.proofs.Common.{◌≡◌, ℕ, zero, suc, ◌+◌, ◌<◌, ◌≤◌, Bool, true, false, List, length, Option, Some, None, refl, sym, ap, subst, arith, ◌∙◌, ◌⊎◌, inl, inr}
use Rattle.std.specs.Prelude.{slice_get, if◌then◌else◌, option_map}
use Rattle.std.proofs.lemmas.Option.{slice_get-get_or}
use Rattle.bv_grammar.specs.declared.words.Word.TheVariants as words
use Rattle.bv_grammar.specs.declared.words.Terminal.{Terminal}
use Rattle.bv_grammar.specs.declared.words.Role.{Role}
use Rattle.bv_grammar.specs.declared.words.Role.TheVariants as roles
use Rattle.bv_grammar.specs.declared.reading.Taken.{Taken}
use Rattle.bv_grammar.specs.Grammar.{Symbol}
use Rattle.bv_grammar.specs.Taking.{IsTakenAs, IsTaken, AreTaken, waiting}
use Rattle.bv_grammar.proofs.Unique.{one_role}
use Rattle.bv_limits.specs.declared.plain.Counters.{Counters}
use Rattle.bv_limits.specs.Roles.{IsRole, IsHead, of_theorem, of_example, IsTermToken, of_name, of_numeral, of_constant, of_prefix, of_infix, of_method, of_if}
use Rattle.bv_limits.specs.Counts.{Count, none, counted, passed}
use Rattle.bv_limits.specs.Limits.{IsHeadOf}
use Rattle.bv_limits.specs.Counting as spec
use Rattle.bv_limits.specs.Counting.{counters, is_head, is_term_token}
use Rattle.bv_limits.proofs.Loops.{plus_one}

-- what is taken at i
pub record Here (ts : List Terminal) (xs : List Taken) (i : ℕ) : Type 0 where
  pub x : Taken
  pub there : slice_get xs i ≡ Some x
  pub taken : IsTaken ts i x

pub here : (ts : List Terminal) (xs : List Taken) (i : ℕ) → AreTaken ts xs → i < length xs → Here ts xs i
here ts xs i h l =
    let found = slice_get-get_or xs i (record { role = roles.Part; waiting = 0 }) l in
    record { x = _; there = found; taken = h i _ found }

pub role_is : {ts : List Terminal} {xs : List Taken} {i : ℕ} {r : Role} {b : List Symbol} (k : Here ts xs i) → IsTakenAs ts i r b → (k.x.role ≡ r) × (k.x.waiting ≡ waiting b)
role_is {ts} {i = i} {r = r} {b = b} k t = let same = one_role ts i k.x.role r k.taken.0 b k.taken.1 t in (same.0, k.taken.2 ∙ ap waiting same.1)

-- head words
pub head_true : {ts : List Terminal} {xs : List Taken} {i : ℕ} (k : Here ts xs i) → IsHead ts i → is_head k.x.role ≡ true
head_true k (of_theorem h) = ap is_head (role_is k h.1).0
head_true k (of_example h) = ap is_head (role_is k h.1).0

head_by : {ts : List Terminal} {i : ℕ} (r : Role) → is_head r ≡ true → IsRole ts r i → IsHead ts i
head_by (roles.Word words.Theorem) e h = of_theorem h
head_by (roles.Word words.Example) e h = of_example h
head_by r e h = cc

pub head_of : {ts : List Terminal} {xs : List Taken} {i : ℕ} (k : Here ts xs i) → is_head k.x.role ≡ true → IsHead ts i
head_of k e = head_by k.x.role e (k.taken.0, k.taken.1)

-- tokens of terms
pub term_true : {ts : List Terminal} {xs : List Taken} {i : ℕ} (k : Here ts xs i) → IsTermToken ts i → is_term_token k.x.role ≡ true
term_true k (of_name h) = ap is_term_token (role_is k h.1).0
term_true k (of_numeral h) = ap is_term_token (role_is k h.1).0
term_true k (of_constant h) = ap is_term_token (role_is k h.1).0
term_true k (of_prefix h) = ap is_term_token (role_is k h.1).0
term_true k (of_infix h) = ap is_term_token (role_is k h.1).0
term_true k (of_method h) = ap is_term_token (role_is k h.1).0
term_true k (of_if h) = ap is_term_token (role_is k h.1).0

term_by : {ts : List Terminal} {i : ℕ} (r : Role) → is_term_token r ≡ true → IsRole ts r i → IsTermToken ts i
term_by roles.Variable e h = of_name h
term_by roles.Numeral e h = of_numeral h
term_by (roles.Constant w) e h = of_constant h
term_by (roles.Prefix w) e h = of_prefix h
term_by (roles.Infix w) e h = of_infix h
term_by roles.Method e h = of_method h
term_by (roles.Word words.If) e h = of_if h
term_by r e h = cc

pub term_of : {ts : List Terminal} {xs : List Taken} {i : ℕ} (k : Here ts xs i) → is_term_token k.x.role ≡ true → IsTermToken ts i
term_of k e = term_by k.x.role e (k.taken.0, k.taken.1)

not_both : (r : Role) → is_head r ≡ true → is_term_token r ≡ true → ⊥
not_both (roles.Word words.Theorem) e f = cc
not_both (roles.Word words.Example) e f = cc
not_both r e f = cc

pub is_not : {b : Bool} → b ≡ false → b ≡ true → ⊥
is_not e f = cc

-- what the counts become
next_counters : (xs : List Taken) (i : ℕ) (x : Taken) → slice_get xs i ≡ Some x → counters xs (suc i) ≡ spec.count x.role (counters xs i)
next_counters xs i x e = ap (λ o. spec.counted o (counters xs i)) e

abbrev pick : Bool → Bool → Counters → Counters
pick h t c = if h then record { heads = c.heads + 1; nodes = Some 0 } else (if t then record { heads = c.heads; nodes = option_map (λ n. n + 1) c.nodes } else c)

next_picked : (xs : List Taken) (i : ℕ) (x : Taken) (h t : Bool) → slice_get xs i ≡ Some x → is_head x.role ≡ h → is_term_token x.role ≡ t → counters xs (suc i) ≡ pick h t (counters xs i)
next_picked xs i x h t e f g = next_counters xs i x e ∙ (λ k. pick (f k) (g k) (counters xs i))

-- a count is one
count_grows : {P : ℕ → Type 0} {i j n : ℕ} → Count P i j n → i ≤ j
count_grows none = omega arith
count_grows (counted p c) = omega (arith, count_grows c)
count_grows (passed p c) = omega (arith, count_grows c)

back : (m n : ℕ) → suc m ≡ suc n → m ≡ n
back m n e = omega arith

pub one_count : {P : ℕ → Type 0} {i i' j j' m n : ℕ} → Count P i j m → Count P i' j' n → i ≡ i' → j ≡ j' → m ≡ n
one_count none none e f = refl
one_count none (counted p c) e f = absurd (omega (arith, e, f, count_grows c))
one_count none (passed p c) e f = absurd (omega (arith, e, f, count_grows c))
one_count (counted p c) none e f = absurd (omega (arith, e, f, count_grows c))
one_count (passed p c) none e f = absurd (omega (arith, e, f, count_grows c))
one_count (counted {j = j} p c) (counted {j = j'} q d) e f = ap suc (one_count c d e (back j j' f))
one_count (passed {j = j} p c) (passed {j = j'} q d) e f = one_count c d e (back j j' f)
one_count {P} (counted {j = j} p c) (passed {j = j'} q d) e f = absurd (q (subst P (back j j' f) p))
one_count {P} (passed {j = j} p c) (counted {j = j'} q d) e f = absurd (p (subst P (sym (back j j' f)) q))

-- the heads are counted
more_heads : (ts : List Terminal) (xs : List Taken) (n : ℕ) (k : Here ts xs n) (h t : Bool) → is_head k.x.role ≡ h → is_term_token k.x.role ≡ t → Count (IsHead ts) 0 n (counters xs n).heads → Count (IsHead ts) 0 (suc n) (pick h t (counters xs n)).heads
more_heads ts xs n k true t e f c = subst (λ m. Count (IsHead ts) 0 (suc n) m) (sym (plus_one (counters xs n).heads)) (counted (head_of k e) c)
more_heads ts xs n k false true e f c = passed (λ h. is_not e (head_true k h)) c
more_heads ts xs n k false false e f c = passed (λ h. is_not e (head_true k h)) c

pub heads_counted : (ts : List Terminal) (xs : List Taken) (n : ℕ) → AreTaken ts xs → n ≤ length xs → Count (IsHead ts) 0 n (counters xs n).heads
heads_counted ts xs zero a l = none
heads_counted ts xs (suc n) a l =
    let k = here ts xs n a (omega (arith, l)) in
    subst (λ c. Count (IsHead ts) 0 (suc n) c.heads) (sym (next_picked xs n k.x _ _ k.there refl refl)) (more_heads ts xs n k _ _ refl refl (heads_counted ts xs n a (omega (arith, l))))

-- the tokens of terms are counted since the last head
pub record Since (ts : List Terminal) (n k : ℕ) : Type 0 where
  pub at : ℕ
  pub head : IsHeadOf ts at n
  pub count : Count (IsTermToken ts) at n k

same_some : {m n : ℕ} → Some m ≡ Some n → m ≡ n
same_some e = cc

pub head_further : (ts : List Terminal) (h n : ℕ) → IsHeadOf ts h n → (IsHead ts n → ⊥) → IsHeadOf ts h (suc n)
head_further ts h n a b = record { head = a.head; before = omega (arith, a.before); last = λ k l m i. elim (place_cases k n m) [ inl less ↦ a.last k l less i | inr same ↦ b (subst (λ j. IsHead ts j) same i) ] }
  where
    place_cases : (k n : ℕ) → k < suc n → (k < n) ⊎ (k ≡ n)
    place_cases k n h = grind arith

more_nodes : (ts : List Terminal) (xs : List Taken) (n : ℕ) (a : Here ts xs n) (h t : Bool) (o : Option ℕ) (k : ℕ) → is_head a.x.role ≡ h → is_term_token a.x.role ≡ t → ((j : ℕ) → o ≡ Some j → Since ts n j) → (pick h t (record { heads = (counters xs n).heads; nodes = o })).nodes ≡ Some k → Since ts (suc n) k
more_nodes ts xs n a true t o k e f since g = record {
  at = n;
  head = record { head = head_of a e; before = omega arith; last = λ j l m i. absurd (omega (arith, l, m)) };
  count = subst (λ j. Count (IsTermToken ts) n (suc n) j) (same_some g) (passed (λ i. not_both a.x.role e (term_true a i)) none);
}
more_nodes ts xs n a false true None k e f since g = cc
more_nodes ts xs n a false true (Some j) k e f since g =
    let s = since j refl in
    record {
      at = s.at;
      head = head_further ts s.at n s.head (λ i. is_not e (head_true a i));
      count = subst (λ m. Count (IsTermToken ts) s.at (suc n) m) (sym (plus_one j) ∙ same_some g) (counted (term_of a f) s.count);
    }
more_nodes ts xs n a false false o k e f since g =
    let s = since k g in
    record { at = s.at; head = head_further ts s.at n s.head (λ i. is_not e (head_true a i)); count = passed (λ i. is_not f (term_true a i)) s.count }

pub nodes_counted : (ts : List Terminal) (xs : List Taken) (n k : ℕ) → AreTaken ts xs → n ≤ length xs → (counters xs n).nodes ≡ Some k → Since ts n k
nodes_counted ts xs zero k a l e = cc
nodes_counted ts xs (suc n) k a l e =
    let x = here ts xs n a (omega (arith, l)) in
    more_nodes ts xs n x _ _ (counters xs n).nodes k refl refl (λ j f. nodes_counted ts xs n j a (omega (arith, l)) f) (sym (ap (λ c. c.nodes) (next_picked xs n x.x _ _ x.there refl refl)) ∙ e)

-- behind a head they are counted
some_nodes : (ts : List Terminal) (xs : List Taken) (n : ℕ) (a : Here ts xs n) (h t : Bool) (o : Option ℕ) → is_head a.x.role ≡ h → ((is_head a.x.role ≡ false) → (j : ℕ) × (o ≡ Some j)) → (k : ℕ) × ((pick h t (record { heads = (counters xs n).heads; nodes = o })).nodes ≡ Some k)
some_nodes ts xs n a true t o e s = (0, refl)
some_nodes ts xs n a false true o e s = let j = s e in (j.0 + 1, ap (option_map (λ m. m + 1)) j.1)
some_nodes ts xs n a false false o e s = s e

nodes_from : (ts : List Terminal) (xs : List Taken) (h n : ℕ) → AreTaken ts xs → n ≤ length xs → IsHeadOf ts h n → (k : ℕ) × ((counters xs n).nodes ≡ Some k)
nodes_from ts xs h zero a l i = absurd (omega (arith, i.before))
nodes_from ts xs h (suc n) a l i =
    let x = here ts xs n a (omega (arith, l)) in
    let r = some_nodes ts xs n x _ (is_term_token x.x.role) (counters xs n).nodes refl (λ f. nodes_from ts xs h n a (omega (arith, l)) (nearer x f)) in
    (r.0, ap (λ c. c.nodes) (next_picked xs n x.x _ _ x.there refl refl) ∙ r.1)
  where
    place_cases : (k m : ℕ) → k < suc m → (k < m) ⊎ (k ≡ m)
    place_cases k m h = grind arith

    nearer : (x : Here ts xs n) → is_head x.x.role ≡ false → IsHeadOf ts h n
    nearer x f = record {
      head = i.head;
      before = elim (place_cases h n i.before) [ inl less ↦ less | inr same ↦ absurd (is_not f (head_true x (subst (λ j. IsHead ts j) same i.head))) ];
      last = λ k m p q. i.last k m (omega (arith, p)) q;
    }

pub one_head : (ts : List Terminal) (h h' n : ℕ) → IsHeadOf ts h n → IsHeadOf ts h' n → h ≡ h'
one_head ts h h' n a b = elim (order h h') [
  | inl same ↦ same
  | inr other ↦ elim other [ inl less ↦ absurd (a.last h' less b.before b.head) | inr more ↦ absurd (b.last h more a.before a.head) ]
]
  where
    order : (m k : ℕ) → (m ≡ k) ⊎ ((m < k) ⊎ (k < m))
    order m k = grind arith

pub nodes_are : (ts : List Terminal) (xs : List Taken) (h n m : ℕ) → AreTaken ts xs → n ≤ length xs → IsHeadOf ts h n → Count (IsTermToken ts) h n m → (counters xs n).nodes ≡ Some m
nodes_are ts xs h n m a l i c =
    let k = nodes_from ts xs h n a l i in
    let s = nodes_counted ts xs n k.0 a l k.1 in
    k.1 ∙ ap Some (one_count s.count c (one_head ts s.at h n s.head i) refl)
