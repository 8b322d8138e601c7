-- The sooner of two limits is the first of both kinds, and the first is one.
use Rattle.std.proofs.Common.{◌≡◌, ℕ, ◌<◌, ◌≤◌, Bool, true, false, List, Option, Some, None, length, refl, sym, ap, subst, arith, ◌∙◌, ◌⊎◌, inl, inr}
use Rattle.std.specs.Prelude.{if◌then◌else◌}
use Rattle.bv_lex.specs.declared.token.Token.{Token}
use Rattle.bv_lex.specs.declared.fault.What.{What}
use Rattle.bv_lex.specs.declared.fault.What.TheVariants as what
use Rattle.bv_grammar.specs.declared.words.Terminal.{Terminal}
use Rattle.bv_trees.specs.Trees.{Tree, Goal}
use Rattle.bv_limits.specs.declared.plain.Met.{Met}
use Rattle.bv_limits.specs.Limits.{rank, IsBefore, IsCountedLimit}
use Rattle.bv_limits.specs.Deep.{AnyDeep, IsFirstDeep, terms_of}
use Rattle.bv_limits.specs.Choosing.{is_before, sooner, depth}
use Rattle.bv_limits.specs.Files.{IsLeast, IsMetIn, counted, deep}
use Rattle.bv_limits.proofs.Chosen.{before, not_before, onward}
use Rattle.bv_limits.proofs.First.{rank_back, rank_again, both_before}

-- the limits of one kind and of another
abbrev pub Both : (What → ℕ → Type 0) → (What → ℕ → Type 0) → (What → ℕ → Type 0) → Type 0
Both p q r = ((w : What) (k : ℕ) → p w k → r w k) × ((w : What) (k : ℕ) → q w k → r w k) × ((w : What) (k : ℕ) → r w k → p w k ⊎ q w k)

of_two : (p q r : What → ℕ → Type 0) → Both p q r → (m n : Met) (b : Bool) → IsLeast p (Some m) → IsLeast q (Some n) → is_before m n ≡ b → IsLeast r (if b then Some m else Some n)
of_two p q r u m n true f g e = (u.0 m.what m.at f.0, all)
  where
    either : (w : What) (k : ℕ) → p w k ⊎ q w k → IsBefore m.at m.what k w
    either w k (inl h) = f.1 w k h
    either w k (inr h) = onward m.at n.at k (rank m.what) (rank n.what) (rank w) (before m.at n.at (rank m.what) (rank n.what) e) (g.1 w k h)

    all : (w : What) (k : ℕ) → r w k → IsBefore m.at m.what k w
    all w k h = either w k (u.2 w k h)
of_two p q r u m n false f g e = (u.1 n.what n.at g.0, all)
  where
    either : (w : What) (k : ℕ) → p w k ⊎ q w k → IsBefore n.at n.what k w
    either w k (inl h) = onward n.at m.at k (rank n.what) (rank m.what) (rank w) (not_before m.at n.at (rank m.what) (rank n.what) e) (f.1 w k h)
    either w k (inr h) = g.1 w k h

    all : (w : What) (k : ℕ) → r w k → IsBefore n.at n.what k w
    all w k h = either w k (u.2 w k h)

pub sooner_least : (p q r : What → ℕ → Type 0) → Both p q r → (m n : Option Met) → IsLeast p m → IsLeast q n → IsLeast r (sooner m n)
sooner_least p q r u None None f g = none
  where
    either : (w : What) (k : ℕ) → p w k ⊎ q w k → ⊥
    either w k (inl h) = f w k h
    either w k (inr h) = g w k h

    none : (w : What) (k : ℕ) → r w k → ⊥
    none w k h = either w k (u.2 w k h)
sooner_least p q r u None (Some n) f g = (u.1 n.what n.at g.0, all)
  where
    either : (w : What) (k : ℕ) → p w k ⊎ q w k → IsBefore n.at n.what k w
    either w k (inl h) = absurd (f w k h)
    either w k (inr h) = g.1 w k h

    all : (w : What) (k : ℕ) → r w k → IsBefore n.at n.what k w
    all w k h = either w k (u.2 w k h)
sooner_least p q r u (Some m) None f g = (u.0 m.what m.at f.0, all)
  where
    either : (w : What) (k : ℕ) → p w k ⊎ q w k → IsBefore m.at m.what k w
    either w k (inl h) = f.1 w k h
    either w k (inr h) = absurd (g w k h)

    all : (w : What) (k : ℕ) → r w k → IsBefore m.at m.what k w
    all w k h = either w k (u.2 w k h)
sooner_least p q r u (Some m) (Some n) f g = of_two p q r u m n (is_before m n) f g refl

-- the depth of terms, as a kind of limit
abbrev IsDeep : List Tree → What → ℕ → Type 0
IsDeep xs w k = (w ≡ what.Depth) × AnyDeep xs k

pub at_or_behind : (m n : ℕ) → m ≤ n → (m < n) ⊎ ((m ≡ n) × (2 ≤ 2))
at_or_behind m n h = grind arith

deep_least : (xs : List Tree) (found : Option ℕ) → IsFirstDeep xs found → IsLeast (IsDeep xs) (depth found)
deep_least xs None f = λ w k h. f k h.1
deep_least xs (Some at) f = ((refl, f.0), all)
  where
    all : (w : What) (k : ℕ) → IsDeep xs w k → IsBefore at what.Depth k w
    all w k (e, h) = subst (λ v. IsBefore at what.Depth k v) (sym e) (at_or_behind at k (f.1 k h))

both_kinds : (tokens : List Token) (ts : List Terminal) (gs : List Goal) → Both (IsCountedLimit tokens ts (length ts)) (IsDeep (terms_of gs)) (IsMetIn tokens ts gs)
both_kinds tokens ts gs = (λ w k h. counted h, put, split)
  where
    put : (w : What) (k : ℕ) → IsDeep (terms_of gs) w k → IsMetIn tokens ts gs w k
    put w k (e, h) = subst (λ v. IsMetIn tokens ts gs v k) (sym e) (deep h)

    split : (w : What) (k : ℕ) → IsMetIn tokens ts gs w k → IsCountedLimit tokens ts (length ts) w k ⊎ IsDeep (terms_of gs) w k
    split w k (counted h) = inl h
    split w k (deep h) = inr (refl, h)

pub met_least : (tokens : List Token) (ts : List Terminal) (gs : List Goal) (m n o : Option Met) (found : Option ℕ) → IsLeast (IsCountedLimit tokens ts (length ts)) m → IsFirstDeep (terms_of gs) found → n ≡ depth found → o ≡ sooner m n
    → IsLeast (IsMetIn tokens ts gs) o
met_least tokens ts gs m n o found f g e h = subst (λ x. IsLeast (IsMetIn tokens ts gs) x) (sym (h ∙ ap (sooner m) e))
    (sooner_least (IsCountedLimit tokens ts (length ts)) (IsDeep (terms_of gs)) (IsMetIn tokens ts gs) (both_kinds tokens ts gs) m (depth found) f (deep_least (terms_of gs) found g))

pub one_least : (p : What → ℕ → Type 0) (m n : Met) → IsLeast p (Some m) → IsLeast p (Some n) → m ≡ n
one_least p m n f g =
    let both = both_before m.at n.at (rank m.what) (rank n.what) (f.1 n.what n.at g.0) (g.1 m.what m.at f.0) in
    same m n (sym (rank_again m.what) ∙ ap rank_back both.0 ∙ rank_again n.what) both.1
  where
    same : (m n : Met) → m.what ≡ n.what → m.at ≡ n.at → m ≡ n
    same m n e h = ap (λ w. record { what = w; at = m.at }) e ∙ ap (λ i. record { what = n.what; at = i }) h
