-- Calls at a literal or a list, and lists of one literal.
use Rattle.std.proofs.lemmas.Bool.{cases_lt}
use Rattle.std.proofs.Common.{◌≡◌, ◌≤◌, ◌<◌, ◌+◌, ℕ, zero, suc, subst, inl, inr, false, List, [], ◌∷◌, length, refl, sym, ◌∙◌, ap, arith, slice_index_or, Result, Ok, Err}
use Rattle.std.proofs.lemmas.List.{get_or-map}
use Rattle.gate_shape.specs.Literal.{Literal}
use Rattle.gate_shape.specs.Edge.{Edge, constant}
use Rattle.gate_shape.specs.Row.{Row, plain, ◌>>=◌}
use Rattle.gate_shape.specs.Builds.{Meaning, Noting, edge, edges, Stands, StandAll, Builds}
use Rattle.gate_shape.specs.declared.builder.GateStop.{GateStop}
use Rattle.gate_shape.proofs.Building.{builds_then, builds_stop, stands_answer, stand_cons, stand_none, stand_lengths, known_item}
use Rattle.blast_logic.proofs.Wiring.{wired}
use Rattle.blast_logic.specs.Words.{bit_at}
use Rattle.blast_goal.specs.Circuit.{truth_of, single}
use Rattle.blast_goal.specs.Fitting.{Wrapped}

-- a call on a literal or a list that stands for edges builds the row of these edges
pub builds_at_one : {T E : Type 0} {n : Noting} {A : Meaning → T → E → Type 0} {a b : Meaning} {r : Result T GateStop} {x : Literal} {X : Edge} (row : Edge → Row E) → Stands a x X → Builds n A a b r (row (edge a x)) → Builds n A a b r (row X)
builds_at_one row p h = rw p.stands_for at h

pub builds_at_list : {T E : Type 0} {n : Noting} {A : Meaning → T → E → Type 0} {a b : Meaning} {r : Result T GateStop} {xs : List Literal} {X : List Edge} (row : List Edge → Row E) → StandAll a xs X → Builds n A a b r (row (edges a xs)) → Builds n A a b r (row X)
builds_at_list row p h = rw p.stand_for at h

-- a truth as a list of one
pub builds_single : {T : Type 0} {n : Noting} {a b : Meaning} {r : Result Literal GateStop} {row : Row Edge} (items : T → List Literal) {s : Result T GateStop} → Builds n Stands a b r row → Wrapped items r s → Builds n (λ m v. StandAll m (items v)) a b s (single row)
unfolding single
builds_single {T} {n} {a} {b} {r} {row} items {s} p h = go r p h
  where
    go : (r : Result Literal GateStop) → Builds n Stands a b r row → Wrapped items r s → Builds n (λ m v. StandAll m (items v)) a b s (row >>= (λ e. plain (e ∷ [])))
    go (Ok l) p h = builds_then (λ e. plain (e ∷ [])) p (wired items (stand_cons refl (stands_answer p) (stand_none refl)) h)
    go (Err e) p h = rw h (builds_stop (λ e. plain (e ∷ [])) p)

-- the first literal of a list stands for the list's truth
pub stands_first : {m : Meaning} {ls : List Literal} {es : List Edge} {l : Literal} → StandAll m ls es → 1 ≤ length ls → l ≡ slice_index_or ls 0 l → Stands m l (truth_of es)
stands_first {m} {ls} {es} {l} s one e = record {
  known = known_item ls s.known one e;
  stands_for = sym (ap (λ z. bit_at z 0) (sym s.stand_for) ∙ (get_or-map (edge m) ls 0 l (constant false) one ∙ ap (edge m) (sym e)));
}

pub builds_at_three_lists : {T E : Type 0} {n : Noting} {A : Meaning → T → E → Type 0} {a b : Meaning} {r : Result T GateStop} {xs ys zs : List Literal} {X Y Z : List Edge} (row : List Edge → List Edge → List Edge → Row E) → StandAll a xs X → StandAll a ys Y → StandAll a zs Z → Builds n A a b r (row (edges a xs) (edges a ys) (edges a zs)) → Builds n A a b r (row X Y Z)
builds_at_three_lists row p q s h = rw (p.stand_for, q.stand_for, s.stand_for) at h

-- as many literals as edges, in a list that is given as an equal one
pub same_as : {m : Meaning} {ls ks : List Literal} {es : List Edge} → ks ≡ ls → StandAll m ls es → length ks ≡ length es
same_as e s = ap length e ∙ stand_lengths s

pub long_as : {m : Meaning} {ls ks : List Literal} {es : List Edge} → ks ≡ ls → StandAll m ls es → 1 ≤ length es → 1 ≤ length ks
long_as e s l = rw (same_as e s) l

in_bounds : {A : Type 0} (xs : List A) (i : ℕ) (d e : A) → i < length xs → slice_index_or xs i d ≡ slice_index_or xs i e
in_bounds [] i d e l = absurd (omega (arith, l))
in_bounds (x ∷ xs) zero d e l = refl
in_bounds (x ∷ xs) (suc i) d e l = in_bounds xs i d e (omega (arith, l))

-- what holds of the items before one holds of one item more
pub one_more_holds : {A : Type 0} (P : A → Type 0) (xs : List A) {i : ℕ} {x : A} → i < length xs → x ≡ slice_index_or xs i x → ((k : ℕ) (d : A) → k < i → P (slice_index_or xs k d)) → P x → (k : ℕ) (d : A) → k < i + 1 → P (slice_index_or xs k d)
one_more_holds P xs {i} {x} inside e before here k d l = elim (cases_lt k i) [
  | inl below ↦ before k d below
  | inr over ↦ (let s : i ≡ k = omega (arith, l, over) in subst (λ n. P (slice_index_or xs n d)) s (subst P (e ∙ in_bounds xs i x d inside) here))
]
