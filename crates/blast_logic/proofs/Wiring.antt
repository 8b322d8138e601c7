-- Calls that make no gate: what their lists stand for, and what that means.
use Rattle.std.proofs.Common.{◌≡◌, ◌≤◌, ◌-◌, ℕ, zero, suc, Bool, List, ◌++◌, refl, sym, ◌∙◌, ap, subst, arith, length, take, drop, replicate, Result, Ok, Err}
use Rattle.std.specs.Prelude.{MatchResult, IfOk}
use Rattle.std.proofs.lemmas.List.{drop-map, length-map, length-drop, take_all}
use Rattle.std.proofs.lemmas.List.Elements.{All-drop}
use Rattle.gate_shape.specs.Literal.{Literal}
use Rattle.gate_shape.specs.Edge.{Edge}
use Rattle.gate_shape.specs.Row.{Row, plain}
use Rattle.gate_shape.specs.Builds.{Meaning, Noting, Known, edge, edges, Stands, StandAll, Builds, IsMemory}
use Rattle.gate_shape.specs.declared.builder.GateStop.{GateStop}
use Rattle.gate_shape.specs.declared.builder.GateStop.TheVariants.{Deep, Full, Memory}
use Rattle.gate_shape.proofs.Building.{builds_plain, builds_memory, keeps_self, answers_with, stand_none, stand_cons}
use Rattle.bv_value.specs.BitVector.{BitVector}
use Rattle.blast_logic.specs.Words.{word}

-- a list that was made, or want of memory
pub wired : {T : Type 0} {n : Noting} {m : Meaning} {ls : List Literal} {es : List Edge} (items : T → List Literal) {r : Result T GateStop} → StandAll m ls es → MatchResult r (λ v. items v ≡ ls) IsMemory → Builds n (λ m v. StandAll m (items v)) m m r (plain es)
wired {T} {n} {m} {ls} {es} items {r} s h = go r h
  where
    go : (r : Result T GateStop) → MatchResult r (λ v. items v ≡ ls) IsMemory → Builds n (λ m v. StandAll m (items v)) m m r (plain es)
    go (Ok v) e = builds_plain (rw e s)
    go (Err Deep) e = absurd e
    go (Err Full) e = absurd e
    go (Err (Memory a)) e = builds_memory (keeps_self m)

-- the same of a list that is written otherwise
pub wired_as : {T : Type 0} {n : Noting} {m : Meaning} {ls ks : List Literal} {es : List Edge} (items : T → List Literal) {r : Result T GateStop} → ks ≡ ls → StandAll m ls es → MatchResult r (λ v. items v ≡ ks) IsMemory → Builds n (λ m v. StandAll m (items v)) m m r (plain es)
wired_as {m} {es} items e s h = wired items (let P : List Literal → Type 0 = λ z. StandAll m z es in subst P (sym e) s) h

-- what is left behind the first places, as a slice
left-is : (ls : List Literal) (k : ℕ) → take (length ls - k) (drop k ls) ≡ drop k ls
left-is ls k = take_all (length ls - k) (drop k ls) (rw length-drop (omega arith))

pub resized_left : (l : Literal) (ls : List Literal) (k width : ℕ) → take width (take (length ls - k) (drop k ls)) ++ replicate (width - length (take (length ls - k) (drop k ls))) l ≡ take width (drop k ls) ++ replicate (width - length (drop k ls)) l
resized_left l ls k width = ap (λ z. take width z ++ replicate (width - length z) l) (left-is ls k)

pub joined_left : (ls : List Literal) (k j : ℕ) → take (length ls - k) (drop k ls) ++ take j ls ≡ drop k ls ++ take j ls
joined_left ls k j = ap (λ z. z ++ take j ls) (left-is ls k)

-- what a list that was answered writes, where the row's answer writes it
pub written : {T : Type 0} {n : Noting} {a b : Meaning} {row : Row (List Edge)} (items : T → List Literal) {r : Result T GateStop} (f : (ℕ → ℕ → Bool) → BitVector) → Builds n (λ m v. StandAll m (items v)) a b r row → ((bits : ℕ → ℕ → Bool) → word bits row.answer ≡ f bits) → IfOk r (λ v. (bits : ℕ → ℕ → Bool) → word bits (edges b (items v)) ≡ f bits)
written {b} items f p h = answers_with (λ v. (bits : ℕ → ℕ → Bool) → word bits (edges b (items v)) ≡ f bits) p (λ v s bits. ap (word bits) s.stand_for ∙ h bits)

pub stand_copies : {m : Meaning} {l : Literal} {e : Edge} (n : ℕ) → Stands m l e → StandAll m (replicate n l) (replicate n e)
stand_copies zero s = stand_none refl
stand_copies (suc n) s = stand_cons refl s (stand_copies n s)

pub stand_drop : {m : Meaning} {ls : List Literal} {es : List Edge} (n : ℕ) → StandAll m ls es → StandAll m (drop n ls) (drop n es)
stand_drop {m} {ls} n s = record { known = All-drop (Known m) n ls s.known; stand_for = sym (drop-map (edge m) n ls) ∙ ap (λ z. drop n z) s.stand_for }

-- the same list of edges, written otherwise
pub stand_as : {m : Meaning} {ls : List Literal} {es fs : List Edge} → es ≡ fs → StandAll m ls es → StandAll m ls fs
stand_as e s = record { known = s.known; stand_for = s.stand_for ∙ e }

-- as many edges as literals
pub at_least : (m : Meaning) (ls : List Literal) → 1 ≤ length ls → 1 ≤ length (edges m ls)
at_least m ls h = simp length-map h

-- a list given as an equal one
pub stand_given : {m : Meaning} {ls ks : List Literal} {es : List Edge} → ls ≡ ks → StandAll m ks es → StandAll m ls es
stand_given {m} {es} e s = let P : List Literal → Type 0 = λ z. StandAll m z es in subst P (sym e) s

-- a call on a list and a literal that stand for edges builds the row of these edges
pub builds_at_list_and_one : {T E : Type 0} {n : Noting} {A : Meaning → T → E → Type 0} {a b : Meaning} {r : Result T GateStop} {xs : List Literal} {z : Literal} {X : List Edge} {Z : Edge} (row : List Edge → Edge → Row E) → StandAll a xs X → Stands a z Z → Builds n A a b r (row (edges a xs) (edge a z)) → Builds n A a b r (row X Z)
builds_at_list_and_one row p s h = rw (p.stand_for, s.stands_for) at h
