-- A whole file that is within the limits has 1,024 goals at most: each has its head word, and head words are counted.
use Rattle.std.proofs.Common.{◌≡◌, ℕ, zero, suc, ◌+◌, ◌<◌, ◌≤◌, Bool, true, false, List, length, Option, Some, None, refl, sym, subst, arith, ◌⊎◌, inl, inr}
use Rattle.std.specs.Prelude.{slice_get, if◌then◌else◌}
use Rattle.bv_lex.specs.declared.token.Token.{Token}
use Rattle.bv_lex.specs.declared.fault.What.TheVariants as what
use Rattle.bv_grammar.specs.declared.words.Terminal.{Terminal}
use Rattle.bv_grammar.specs.declared.words.Role.{Role}
use Rattle.bv_grammar.specs.declared.words.Role.TheVariants as roles
use Rattle.bv_grammar.specs.declared.words.Word.TheVariants as words
use Rattle.bv_grammar.specs.declared.reading.Taken.{Taken}
use Rattle.bv_grammar.specs.Taking.{AreTaken}
use Rattle.bv_trees.specs.Trees.{Goal}
use Rattle.bv_trees.specs.Files.{AreGoals}
use Rattle.bv_trees.proofs.Heads.{number_at, total, as_many_heads}
use Rattle.bv_limits.specs.Roles.{IsHead}
use Rattle.bv_limits.specs.Counts.{Count}
use Rattle.bv_limits.specs.Limits as limits
use Rattle.bv_limits.specs.Counting.{counters, is_head, counted}
use Rattle.bv_limits.specs.Counting as counting
use Rattle.bv_limits.specs.Files.{IsLeast, IsMetIn}
use Rattle.bv_limits.specs.Files as files
use Rattle.bv_limits.proofs.Counted.{Here, here, head_of, heads_counted}

-- 1 for a head word
abbrev one_head : Role → ℕ
one_head r = if is_head r then 1 else 0

next_heads : (xs : List Taken) (n : ℕ) (r : Role) → (counting.count r (counters xs n)).heads ≡ (counters xs n).heads + one_head r
next_heads xs n roles.Part = omega arith
next_heads xs n roles.Binder = omega arith
next_heads xs n roles.BraceBinder = omega arith
next_heads xs n roles.Variable = omega arith
next_heads xs n roles.Method = omega arith
next_heads xs n roles.Numeral = omega arith
next_heads xs n roles.Width = omega arith
next_heads xs n roles.File = omega arith
next_heads xs n roles.Bracket = omega arith
next_heads xs n roles.Ascription = omega arith
next_heads xs n (roles.Prefix w) = omega arith
next_heads xs n (roles.Infix w) = omega arith
next_heads xs n (roles.Constant w) = omega arith
next_heads xs n (roles.Word words.Theorem) = omega arith
next_heads xs n (roles.Word words.Example) = omega arith
next_heads xs n (roles.Word words.Import) = omega arith
next_heads xs n (roles.Word words.Open) = omega arith
next_heads xs n (roles.Word words.By) = omega arith
next_heads xs n (roles.Word words.If) = omega arith
next_heads xs n (roles.Word words.Then) = omega arith
next_heads xs n (roles.Word words.Else) = omega arith
next_heads xs n (roles.Word words.True) = omega arith
next_heads xs n (roles.Word words.False) = omega arith
next_heads xs n (roles.Word words.TrueProposition) = omega arith
next_heads xs n (roles.Word words.FalseProposition) = omega arith
next_heads xs n (roles.Word words.Bool) = omega arith
next_heads xs n (roles.Word words.BitVec) = omega arith
next_heads xs n (roles.Word words.Intros) = omega arith
next_heads xs n (roles.Word words.Decide) = omega arith
next_heads xs n (roles.Word words.Check) = omega arith
next_heads xs n (roles.Word words.LeftRound) = omega arith
next_heads xs n (roles.Word words.RightRound) = omega arith
next_heads xs n (roles.Word words.LeftBrace) = omega arith
next_heads xs n (roles.Word words.RightBrace) = omega arith
next_heads xs n (roles.Word words.Colon) = omega arith
next_heads xs n (roles.Word words.Assign) = omega arith
next_heads xs n (roles.Word words.Dot) = omega arith
next_heads xs n (roles.Word words.Comma) = omega arith
next_heads xs n (roles.Word words.Semicolon) = omega arith
next_heads xs n (roles.Word words.Hash) = omega arith
next_heads xs n (roles.Word words.Complement) = omega arith
next_heads xs n (roles.Word words.ShiftLeft) = omega arith
next_heads xs n (roles.Word words.ShiftRight) = omega arith
next_heads xs n (roles.Word words.Minus) = omega arith
next_heads xs n (roles.Word words.Times) = omega arith
next_heads xs n (roles.Word words.Divide) = omega arith
next_heads xs n (roles.Word words.Modulo) = omega arith
next_heads xs n (roles.Word words.Plus) = omega arith
next_heads xs n (roles.Word words.Append) = omega arith
next_heads xs n (roles.Word words.BitAnd) = omega arith
next_heads xs n (roles.Word words.BitXor) = omega arith
next_heads xs n (roles.Word words.BitOr) = omega arith
next_heads xs n (roles.Word words.Equal) = omega arith
next_heads xs n (roles.Word words.NotEqual) = omega arith
next_heads xs n (roles.Word words.BoolEqual) = omega arith
next_heads xs n (roles.Word words.BoolNotEqual) = omega arith
next_heads xs n (roles.Word words.Less) = omega arith
next_heads xs n (roles.Word words.AtMost) = omega arith
next_heads xs n (roles.Word words.Greater) = omega arith
next_heads xs n (roles.Word words.AtLeast) = omega arith
next_heads xs n (roles.Word words.Not) = omega arith
next_heads xs n (roles.Word words.BoolNot) = omega arith
next_heads xs n (roles.Word words.And) = omega arith
next_heads xs n (roles.Word words.BoolAnd) = omega arith
next_heads xs n (roles.Word words.BoolXor) = omega arith
next_heads xs n (roles.Word words.Or) = omega arith
next_heads xs n (roles.Word words.BoolOr) = omega arith
next_heads xs n (roles.Word words.Implies) = omega arith
next_heads xs n (roles.Word words.Iff) = omega arith

counted_heads : (xs : List Taken) (n : ℕ) (x : Option Taken) → (counted x (counters xs n)).heads ≡ (counters xs n).heads + number_at one_head x
counted_heads xs n None = omega arith
counted_heads xs n (Some x) = next_heads xs n x.role

all_heads : (xs : List Taken) (n : ℕ) → (counters xs n).heads ≡ total one_head xs n
all_heads xs zero = refl
all_heads xs (suc n) = omega (arith, counted_heads xs n (slice_get xs n), all_heads xs n)

below_or_at : (m n : ℕ) → m ≤ n → (m < n) ⊎ (m ≡ n)
below_or_at m n h = grind arith

by_one_head : (h : Bool) (n m : ℕ) → m ≡ n + (if h then 1 else 0) → n ≤ 1024 → (h ≡ true → n ≡ 1024 → ⊥) → m ≤ 1024
by_one_head false n m e few none = omega (arith, e, few)
by_one_head true n m e few none = by_place (below_or_at n 1024 few)
  where
    by_place : (n < 1024) ⊎ (n ≡ 1024) → m ≤ 1024
    by_place (inl less) = omega (arith, e, less)
    by_place (inr full) = absurd (none refl full)

one_more : (tokens : List Token) (ts : List Terminal) (xs : List Taken) (n : ℕ) → AreTaken ts xs → n < length xs → (limits.IsPlainLimit tokens ts (length xs) what.Goals n → ⊥) → (k : Here ts xs n) → (counters xs n).heads ≤ 1024
    → (counting.count k.x.role (counters xs n)).heads ≤ 1024
one_more tokens ts xs n t l none k few =
    by_one_head (is_head k.x.role) (counters xs n).heads _ (next_heads xs n k.x.role) few
    (λ h full. none (limits.goals l (head_of k h) (subst (Count (IsHead ts) 0 n) full (heads_counted ts xs n t (omega (arith, l))))))

few_heads : (tokens : List Token) (ts : List Terminal) (xs : List Taken) → AreTaken ts xs → ((at : ℕ) → limits.IsPlainLimit tokens ts (length xs) what.Goals at → ⊥) → (n : ℕ) → n ≤ length xs → (counters xs n).heads ≤ 1024
few_heads tokens ts xs t none zero l = omega arith
few_heads tokens ts xs t none (suc n) l =
    let before : n < length xs = omega (arith, l) in
    let k = here ts xs n t before in
    subst (λ o. (counted o (counters xs n)).heads ≤ 1024) (sym k.there) (one_more tokens ts xs n t before (none n) k (few_heads tokens ts xs t none n (omega (arith, l))))

pub few : (tokens : List Token) (ts : List Terminal) (xs : List Taken) (gs : List Goal) → AreGoals ts gs → AreTaken ts xs → length xs ≡ length ts → IsLeast (IsMetIn tokens ts gs) None → length gs ≤ 1024
few tokens ts xs gs g t e none =
    let met : (at : ℕ) → limits.IsPlainLimit tokens ts (length xs) what.Goals at → ⊥ = λ at l. none what.Goals at (files.counted (limits.plain (subst (λ n. limits.IsPlainLimit tokens ts n what.Goals at) e l))) in
    let heads = few_heads tokens ts xs t met (length xs) (omega arith) in
    omega (arith, heads, all_heads xs (length xs), as_many_heads one_head (record { theorems = omega arith; examples = omega arith }) xs ts gs g t e)
