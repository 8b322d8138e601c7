-- A file is derived whole exactly where it has goals.
use Rattle.std.proofs.Common.{◌≡◌, ℕ, ◌+◌, List, length, arith, refl, subst}
use Rattle.std.proofs.lemmas.Option.{slice_get_past}
use Rattle.bv_grammar.specs.declared.words.Terminal.{Terminal}
use Rattle.bv_grammar.specs.Derivation.{here, at_end, IsFile}
use Rattle.bv_trees.specs.Trees.{Goal}
use Rattle.bv_trees.specs.Files.{Items, AreGoals}
use Rattle.bv_trees.proofs.Means.{means}
use Rattle.bv_trees.proofs.Derived.{by_items}
use Rattle.bv_trees.proofs.Reading.{one_items}

same_end : (k n : ℕ) → k + 1 ≡ n + 1 → k ≡ n
same_end k n e = omega arith

pub has_goals : (ts : List Terminal) → IsFile ts → (gs : List Goal) × AreGoals ts gs
has_goals ts d =
    let m = means d in
    (m.1.0, subst (λ k. Items ts 0 m.1.0 k) (same_end m.0 (length ts) m.2.1) m.1.1)

pub is_whole : (ts : List Terminal) (gs : List Goal) → AreGoals ts gs → IsFile ts
is_whole ts gs h = by_items h (at_end (slice_get_past ts (length ts) (omega arith)) here)

pub one_reading : (ts : List Terminal) (gs hs : List Goal) → AreGoals ts gs → AreGoals ts hs → gs ≡ hs
one_reading ts gs hs a b = (one_items a b refl).0
