-- The sooner of two limits is the first of both kinds.
use Rattle.std.proofs.Common.{◌≡◌, ℕ, ◌==◌, ◌&&◌, ◌||◌, ◌<◌, ◌≤◌, nat_lt, Bool, true, false, List, Option, Some, None, refl, sym, ap, subst, arith, ◌∙◌, ◌⊎◌, inl, inr}
use Rattle.std.specs.Prelude.{nat_le, if◌then◌else◌}
use Rattle.bv_lex.specs.declared.token.Token.{Token}
use Rattle.bv_lex.specs.declared.fault.What.{What}
use Rattle.bv_lex.specs.declared.fault.What.TheVariants as what
use Rattle.bv_grammar.specs.declared.words.Terminal.{Terminal}
use Rattle.bv_limits.specs.declared.plain.Met.{Met}
use Rattle.bv_limits.specs.Limits.{IsTooMany, IsPlainLimit, IsCountedLimit, plain, variables, rank, IsBefore, IsFirstTooMany}
use Rattle.bv_limits.specs.Files.{IsLeast}
use Rattle.bv_limits.specs.Choosing.{is_before, sooner, variable}

pub before : (a b p q : ℕ) → (nat_lt a b || (a == b && nat_le p q)) ≡ true → (a < b) ⊎ ((a ≡ b) × (p ≤ q))
before a b p q e = grind arith

pub not_before : (a b p q : ℕ) → (nat_lt a b || (a == b && nat_le p q)) ≡ false → (b < a) ⊎ ((b ≡ a) × (q ≤ p))
not_before a b p q e = grind arith

pub onward : (a b c p q r : ℕ) → (a < b) ⊎ ((a ≡ b) × (p ≤ q)) → (b < c) ⊎ ((b ≡ c) × (q ≤ r)) → (a < c) ⊎ ((a ≡ c) × (p ≤ r))
onward a b c p q r (inl h) (inl k) = inl (omega (arith, h, k))
onward a b c p q r (inl h) (inr k) = inl (omega (arith, h, k.0))
onward a b c p q r (inr h) (inl k) = inl (omega (arith, h.0, k))
onward a b c p q r (inr h) (inr k) = inr (omega (arith, h.0, k.0), omega (arith, h.1, k.1))

within : (m n : ℕ) → m ≤ n → (m < n) ⊎ ((m ≡ n) × (4 ≤ 4))
within m n h = grind arith

variable_before : (ts : List Terminal) (end at k : ℕ) → IsFirstTooMany ts end (Some at) → IsTooMany ts end k → IsBefore at what.Variables k what.Variables
variable_before ts end at k h m = within at k (h.1 k m)

by_both : (tokens : List Token) (ts : List Terminal) (end : ℕ) (m : Met) (at : ℕ) (b : Bool) → IsLeast (IsPlainLimit tokens ts end) (Some m) → IsFirstTooMany ts end (Some at) → is_before m (record { what = what.Variables; at = at }) ≡ b
    → IsLeast (IsCountedLimit tokens ts end) (if b then Some m else Some (record { what = what.Variables; at = at }))
by_both tokens ts end m at true f g e = (plain f.0, all)
  where
    all : (w : What) (k : ℕ) → IsCountedLimit tokens ts end w k → IsBefore m.at m.what k w
    all w k (plain p) = f.1 w k p
    all w k (variables v) = onward m.at at k (rank m.what) 4 4 (before m.at at (rank m.what) 4 e) (variable_before ts end at k g v)
by_both tokens ts end m at false f g e = (variables g.0, all)
  where
    all : (w : What) (k : ℕ) → IsCountedLimit tokens ts end w k → IsBefore at what.Variables k w
    all w k (plain p) = onward at m.at k 4 (rank m.what) (rank w) (not_before m.at at (rank m.what) 4 e) (f.1 w k p)
    all w k (variables v) = variable_before ts end at k g v

first_counted : (tokens : List Token) (ts : List Terminal) (end : ℕ) (p : Option Met) (v : Option ℕ) → IsLeast (IsPlainLimit tokens ts end) p → IsFirstTooMany ts end v → IsLeast (IsCountedLimit tokens ts end) (sooner p (variable v))
first_counted tokens ts end None None f g = none
  where
    none : (w : What) (k : ℕ) → IsCountedLimit tokens ts end w k → ⊥
    none w k (plain p) = f w k p
    none w k (variables v) = g k v
first_counted tokens ts end None (Some at) f g = (variables g.0, all)
  where
    all : (w : What) (k : ℕ) → IsCountedLimit tokens ts end w k → IsBefore at what.Variables k w
    all w k (plain p) = absurd (f w k p)
    all w k (variables v) = variable_before ts end at k g v
first_counted tokens ts end (Some m) None f g = (plain f.0, all)
  where
    all : (w : What) (k : ℕ) → IsCountedLimit tokens ts end w k → IsBefore m.at m.what k w
    all w k (plain p) = f.1 w k p
    all w k (variables v) = absurd (g k v)
first_counted tokens ts end (Some m) (Some at) f g = by_both tokens ts end m at (is_before m (record { what = what.Variables; at = at })) f g refl

pub counted_is_first : (tokens : List Token) (ts : List Terminal) (end : ℕ) (p o q : Option Met) (v : Option ℕ) → IsLeast (IsPlainLimit tokens ts end) p → IsFirstTooMany ts end v → q ≡ variable v → o ≡ sooner p q → IsLeast (IsCountedLimit tokens ts end) o
counted_is_first tokens ts end p o q v f g e h = subst (λ r. IsLeast (IsCountedLimit tokens ts end) r) (sym (h ∙ ap (sooner p) e)) (first_counted tokens ts end p v f g)
