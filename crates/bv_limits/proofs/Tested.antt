-- The limit that a token meets by the counts is the plain limit there.
use Rattle.std.proofs.Common.{◌≡◌, ℕ, ◌==◌, ◌&&◌, ◌||◌, ◌<◌, ◌≤◌, Bool, true, false, nat_lt, List, length, Option, Some, None, refl, sym, ap, subst, arith, ◌∙◌, ◌⊎◌, inl, inr}
use Rattle.std.specs.Prelude.{slice_get, if◌then◌else◌}
use Rattle.bv_lex.specs.declared.token.Token.{Token}
use Rattle.bv_lex.specs.declared.token.TokenKind.{TokenKind}
use Rattle.bv_lex.specs.declared.token.TokenKind.TheVariants as kinds
use Rattle.bv_lex.specs.declared.fault.What.{What}
use Rattle.bv_lex.specs.declared.fault.What.TheVariants as what
use Rattle.bv_grammar.specs.declared.words.Terminal.{Terminal}
use Rattle.bv_grammar.specs.declared.words.Role.{Role}
use Rattle.bv_grammar.specs.declared.words.Role.TheVariants as roles
use Rattle.bv_grammar.specs.declared.reading.Taken.{Taken}
use Rattle.bv_grammar.specs.Taking.{AreTaken}
use Rattle.bv_limits.specs.declared.plain.Met.{Met}
use Rattle.bv_limits.specs.Roles.{IsRole, IsHead}
use Rattle.bv_limits.specs.Counts.{Count}
use Rattle.bv_limits.specs.Limits.{IsNoWidth, IsPlainLimit, width, nested, nodes, goals, rank, IsBefore}
use Rattle.bv_limits.specs.Files.{IsLeast}
use Rattle.bv_limits.specs.Counting.{limit_there, counters, is_head, is_term_token, is_width, is_wide, is_wide_kind, is_full, limit_at}
use Rattle.bv_limits.specs.Answers.{IsFirstOf}
use Rattle.bv_limits.proofs.Counted.{Here, here, role_is, head_of, head_true, term_true, term_of, heads_counted, one_count, nodes_counted, nodes_are}

-- one of four, the first that holds
abbrev chosen : Bool → Bool → Bool → Bool → Option What
chosen a b c d = if a then Some what.Width else (if b then Some what.Depth else (if c then Some what.Nodes else (if d then Some what.Goals else None)))

data Chosen (a b c d : Bool) : What → Type 0 where
  wide : a ≡ true → Chosen a b c d what.Width
  deep : b ≡ true → Chosen a b c d what.Depth
  many : c ≡ true → Chosen a b c d what.Nodes
  last : d ≡ true → Chosen a b c d what.Goals

the_same : {v w : What} → Some v ≡ Some w → v ≡ w
the_same e = cc

is_chosen : (a b c d : Bool) (w : What) → chosen a b c d ≡ Some w → Chosen a b c d w
is_chosen true b c d w e = subst (λ v. Chosen true b c d v) (the_same e) (wide refl)
is_chosen false true c d w e = subst (λ v. Chosen false true c d v) (the_same e) (deep refl)
is_chosen false false true d w e = subst (λ v. Chosen false false true d v) (the_same e) (many refl)
is_chosen false false false true w e = subst (λ v. Chosen false false false true v) (the_same e) (last refl)
is_chosen false false false false w e = cc

-- one that holds is chosen, or one before it
chooses : (a b c d : Bool) (w : What) → Chosen a b c d w → (v : What) × (chosen a b c d ≡ Some v) × (rank v ≤ rank w)
chooses true b c d w (wide e) = (what.Width, refl, omega arith)
chooses true b c d w (deep e) = (what.Width, refl, omega arith)
chooses true b c d w (many e) = (what.Width, refl, omega arith)
chooses true b c d w (last e) = (what.Width, refl, omega arith)
chooses false true c d w (deep e) = (what.Depth, refl, omega arith)
chooses false true c d w (many e) = (what.Depth, refl, omega arith)
chooses false true c d w (last e) = (what.Depth, refl, omega arith)
chooses false false true d w (many e) = (what.Nodes, refl, omega arith)
chooses false false true d w (last e) = (what.Nodes, refl, omega arith)
chooses false false false true w (last e) = (what.Goals, refl, omega arith)
chooses false b c d w (wide e) = cc
chooses false false c d w (deep e) = cc
chooses false false false d w (many e) = cc
chooses false false false false w (last e) = cc

both : (a b : Bool) → (a && b) ≡ true → (a ≡ true) × (b ≡ true)
both true true e = (refl, refl)
both true false e = cc
both false b e = cc

pair : {a b : Bool} → a ≡ true → b ≡ true → (a && b) ≡ true
pair e f = λ k. e k && f k

-- a number that is no width
no_width : (n : ℕ) → (n == 0 || nat_lt 128 n) ≡ true → (n ≡ 0) ⊎ (128 < n)
no_width n e = grind arith

is_no_width : (n : ℕ) → (n ≡ 0) ⊎ (128 < n) → (n == 0 || nat_lt 128 n) ≡ true
is_no_width n e = grind arith

wide_kind : (tokens : List Token) (i : ℕ) (t : Token) (k : TokenKind) → slice_get tokens i ≡ Some t → t.kind ≡ k → is_wide_kind k ≡ true → IsNoWidth tokens i
wide_kind tokens i t (kinds.Numeral n) e f g = record { number = n; token = t; there = e; value = f; wide = no_width n g }
wide_kind tokens i t kinds.Name e f g = cc
wide_kind tokens i t kinds.Reserved e f g = cc
wide_kind tokens i t kinds.Text e f g = cc
wide_kind tokens i t kinds.Sign e f g = cc

wide_token : (tokens : List Token) (i : ℕ) (o : Option Token) → slice_get tokens i ≡ o → is_wide o ≡ true → IsNoWidth tokens i
wide_token tokens i None e g = cc
wide_token tokens i (Some t) e g = wide_kind tokens i t t.kind e refl g

token_wide : (tokens : List Token) (i : ℕ) → IsNoWidth tokens i → is_wide (slice_get tokens i) ≡ true
token_wide tokens i h = ap is_wide h.there ∙ ap is_wide_kind h.value ∙ is_no_width h.number h.wide

width_role : (r : Role) → is_width r ≡ true → r ≡ roles.Width
width_role roles.Width e = refl
width_role r e = cc

more_than : (m n : ℕ) → nat_lt m n ≡ true → m < n
more_than m n e = grind arith

is_more : (m n : ℕ) → m < n → nat_lt m n ≡ true
is_more m n h = grind arith

equal : (m n : ℕ) → (m == n) ≡ true → m ≡ n
equal m n e = grind arith

is_equal : (m n : ℕ) → m ≡ n → (m == n) ≡ true
is_equal m n e = grind arith

full : (o : Option ℕ) → is_full o ≡ true → o ≡ Some 100000
full None e = cc
full (Some n) e = ap Some (equal n 100000 e)

-- what is tested there
abbrev tests : List Token → List Taken → ℕ → Taken → Option What
tests tokens xs i x = chosen (is_wide (slice_get tokens i) && is_width x.role) (nat_lt 1000 x.waiting) (is_full (counters xs i).nodes && is_term_token x.role) ((counters xs i).heads == 1024 && is_head x.role)

tested : (tokens : List Token) (xs : List Taken) (i : ℕ) (x : Taken) → slice_get xs i ≡ Some x → limit_at tokens xs i ≡ tests tokens xs i x
tested tokens xs i x e = ap (λ o. limit_with o) e
  where
    limit_with : Option Taken → Option What
    limit_with o = limit_there (slice_get tokens i) o (counters xs i)

by_test : (tokens : List Token) (ts : List Terminal) (xs : List Taken) (i : ℕ) (w : What) → AreTaken ts xs → i < length xs → (k : Here ts xs i) → Chosen (is_wide (slice_get tokens i) && is_width k.x.role) (nat_lt 1000 k.x.waiting) (is_full (counters xs i).nodes && is_term_token k.x.role) ((counters xs i).heads == 1024 && is_head k.x.role) w
    → IsPlainLimit tokens ts (length xs) w i
by_test tokens ts xs i w a l k (wide e) =
    let h = both _ _ e in
    width l (subst (λ r. IsRole ts r i) (width_role k.x.role h.1) (k.taken.0, k.taken.1)) (wide_token tokens i _ refl h.0)
by_test tokens ts xs i w a l k (deep e) = nested l k.taken.1 (subst (λ n. 1000 < n) k.taken.2 (more_than 1000 k.x.waiting e))
by_test tokens ts xs i w a l k (many e) =
    let h = both _ _ e in
    let s = nodes_counted ts xs i 100000 a (omega (arith, l)) (full _ h.0) in
    nodes l s.head (term_of k h.1) s.count
by_test tokens ts xs i w a l k (last e) =
    let h = both _ _ e in
    goals l (head_of k h.1) (subst (λ n. Count (IsHead ts) 0 i n) (equal _ 1024 h.0) (heads_counted ts xs i a (omega (arith, l))))

pub met : (tokens : List Token) (ts : List Terminal) (xs : List Taken) (i : ℕ) (w : What) → AreTaken ts xs → i < length xs → limit_at tokens xs i ≡ Some w → IsPlainLimit tokens ts (length xs) w i
met tokens ts xs i w a l e = let k = here ts xs i a l in by_test tokens ts xs i w a l k (is_chosen _ _ _ _ w (sym (tested tokens xs i k.x k.there) ∙ e))

-- where a plain limit is met, it is found, or one that goes before it
found_by : (tokens : List Token) (ts : List Terminal) (xs : List Taken) (i : ℕ) (w : What) → AreTaken ts xs → IsPlainLimit tokens ts (length xs) w i → (i < length xs) × ((k : Here ts xs i) → Chosen (is_wide (slice_get tokens i) && is_width k.x.role) (nat_lt 1000 k.x.waiting) (is_full (counters xs i).nodes && is_term_token k.x.role) ((counters xs i).heads == 1024 && is_head k.x.role) w)
found_by tokens ts xs i w a (width l r n) = (l, λ k. wide (pair (token_wide tokens i n) (ap is_width (role_is k r.1).0)))
found_by tokens ts xs i w a (nested l t m) = (l, λ k. deep (is_more 1000 k.x.waiting (subst (λ n. 1000 < n) (sym (role_is k t).1) m)))
found_by tokens ts xs i w a (nodes {h} l s t c) = (l, λ k. many (pair (ap is_full (nodes_are ts xs h i 100000 a (omega (arith, l)) s c)) (term_true k t)))
found_by tokens ts xs i w a (goals l h c) = (l, λ k. last (pair (is_equal _ 1024 (one_count (heads_counted ts xs i a (omega (arith, l))) c refl refl)) (head_true k h)))

pub found : (tokens : List Token) (ts : List Terminal) (xs : List Taken) (i : ℕ) (w : What) → AreTaken ts xs → IsPlainLimit tokens ts (length xs) w i → (i < length xs) × ((v : What) × (limit_at tokens xs i ≡ Some v) × (rank v ≤ rank w))
found tokens ts xs i w a p =
    let f = found_by tokens ts xs i w a p in
    let k = here ts xs i a f.0 in
    let c = chooses _ _ _ _ w (f.1 k) in
    (f.0, (c.0, tested tokens xs i k.x k.there ∙ c.1, c.2))

order : (m n : ℕ) → (m < n) ⊎ ((n < m) ⊎ (m ≡ n))
order m n = grind arith

none_some : {o : Option What} {w : What} → o ≡ None → o ≡ Some w → ⊥
none_some e f = cc

before_all : (tokens : List Token) (ts : List Terminal) (xs : List Taken) (m : Met) → AreTaken ts xs → IsFirstOf tokens xs (Some m) → (w : What) (at : ℕ) → IsPlainLimit tokens ts (length xs) w at → IsBefore m.at m.what at w
before_all tokens ts xs m a h w at p =
    let f = found tokens ts xs at w a p in
    elim (order m.at at) [
      | inl less ↦ inl less
      | inr other ↦ elim other [
        | inl more ↦ absurd (none_some (h.2 at more) f.1.1)
        | inr same ↦ inr (same, subst (λ v. rank v ≤ rank w) (sym (the_same (sym h.1 ∙ ap (limit_at tokens xs) same ∙ f.1.1))) f.1.2)
      ]
    ]

pub first_plain : (tokens : List Token) (ts : List Terminal) (xs : List Taken) (o : Option Met) → AreTaken ts xs → IsFirstOf tokens xs o → IsLeast (IsPlainLimit tokens ts (length xs)) o
first_plain tokens ts xs (Some m) a h = (met tokens ts xs m.at m.what a h.0 h.1, before_all tokens ts xs m a h)
first_plain tokens ts xs None a h = λ w at p. let f = found tokens ts xs at w a p in none_some (h at f.0) f.1.1
