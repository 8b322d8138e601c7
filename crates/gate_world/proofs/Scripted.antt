-- From what a script says to what the world asks of it.
use Rattle.std.proofs.Common.{◌≡◌, ◌-◌, ◌<◌, ◌≤◌, Bool, true, false, ◌||◌, List, [], ◌∷◌, ◌++◌, length, slice_index_or, refl, sym, ◌∙◌, subst, arith, true≢false, nat_lt, Result}
use Rattle.std.proofs.lemmas.Grind.{common_steps}
use Rattle.gate_shape.specs.Literal.{Literal}
use Rattle.gate_shape.specs.Edge.{Edge, Gate, constant, input, gate, same_gate}
use Rattle.gate_shape.specs.Builds.{Stands}
use Rattle.gate_shape.specs.Listed.{has_gate, no_gate}
use Rattle.gate_shape.specs.declared.builder.GateStop.{GateStop}
use Rattle.gate_shape.proofs.Listing.{has_gate-at, note_known, note_unknown}
use Rattle.gate_probe.specs.Standing.{StandsIn}
use Rattle.gate_probe.proofs.Standing.{stands_leaf, edge_gate}
use Rattle.blast_goal.specs.Script.{list_of, kept_with, kept_after, IsCall, AreCalls, EndsAs, calls_of}
use Rattle.gate_world.specs.Work.{Problem, script_of}
use Rattle.gate_world.specs.Right.{IsMade, IsScripted}
use Rattle.gate_world.specs.Coding.{IsProper}
use Rattle.gate_world.proofs.Proper.{gate_proper}
use Rattle.gate_world.proofs.Coded.{known_place, calls_at, call_there}

or_by : (a b : Bool) {P : Type 0} → a || b ≡ true → (a ≡ true → P) → (b ≡ true → P) → P
or_by true b h f g = f refl
or_by false b h f g = g h

or_first : (a b : Bool) → a ≡ true → a || b ≡ true
or_first a b e = rw e refl

or_second : (a b : Bool) → b ≡ true → a || b ≡ true
or_second true b e = refl
or_second false b e = e

by_bool : (b : Bool) {P : Type 0} → (b ≡ true → P) → (b ≡ false → P) → P
by_bool true f g = f refl
by_bool false f g = g refl

pushed_in : (xs : List Gate) (y g : Gate) → has_gate (xs ++ y ∷ []) g ≡ true → (has_gate xs g || same_gate y g) ≡ true
unfolding has_gate
pushed_in [] y g h = or_by (same_gate y g) false h (λ e. e) (λ e. absurd (true≢false (sym e)))
pushed_in (x ∷ xs) y g h = or_by (same_gate x g) (has_gate (xs ++ y ∷ []) g) h
    (λ e. or_first (same_gate x g || has_gate xs g) (same_gate y g) (or_first (same_gate x g) (has_gate xs g) e))
    (λ e. or_by (has_gate xs g) (same_gate y g) (pushed_in xs y g e)
    (λ f. or_first (same_gate x g || has_gate xs g) (same_gate y g) (or_second (same_gate x g) (has_gate xs g) f))
    (λ f. or_second (same_gate x g || has_gate xs g) (same_gate y g) f))

-- a gate that is kept was called for
kept_in : (kept gs : List Gate) (g : Gate) → has_gate (kept_after kept gs) g ≡ true → (has_gate kept g || has_gate gs g) ≡ true
unfolding has_gate
kept_in kept [] g h = or_first (has_gate kept g) false h
kept_in kept (x ∷ xs) g h = or_by (has_gate (kept_with kept x) g) (has_gate xs g) (kept_in (kept_with kept x) xs g h)
    (λ e. by_bool (has_gate kept x)
    (λ k. or_first (has_gate kept g) (same_gate x g || has_gate xs g) (subst (λ t. has_gate t g ≡ true) (note_known kept x k) e))
    (λ n. or_by (has_gate kept g) (same_gate x g) (pushed_in kept x g (subst (λ t. has_gate t g ≡ true) (note_unknown kept x n) e))
    (λ f. or_first (has_gate kept g) (same_gate x g || has_gate xs g) f)
    (λ f. or_second (has_gate kept g) (same_gate x g || has_gate xs g) (or_first (same_gate x g) (has_gate xs g) f))))
    (λ e. or_second (has_gate kept g) (same_gate x g || has_gate xs g) (or_second (same_gate x g) (has_gate xs g) e))

nothing_kept : (gs : List Gate) (g : Gate) → has_gate (kept_after [] gs) g ≡ true → has_gate gs g ≡ true
unfolding has_gate
nothing_kept gs g h = kept_in [] gs g h

-- a literal of the list stands for a fanin over the gates that were called for
pub made_by : (before : List Gate) (l : Literal) (e : Edge) → Stands (list_of (kept_after [] before)) l e → IsMade before e
made_by before l e s = go (nat_lt l.node 8193) refl
  where
    leaf : (x : Edge) → StandsIn [] l x → IsMade before x
    leaf (constant t) h = tt
    leaf (input t k j) h = (h.0, h.1)
    leaf (gate t a b) h = absurd (h.1 refl)

    gate_there : (t : Bool) (a b : Edge) → has_gate before (record { left = a; right = b }) ≡ true → IsMade before (gate t a b)
    gate_there t a b h = h

    go : (b : Bool) → nat_lt l.node 8193 ≡ b → IsMade before e
    go true q =
        let low : l.node < 8193 = grind (arith, common_steps) in
        leaf e (subst (StandsIn [] l) s.stands_for (stands_leaf [] (list_of (kept_after [] before)) l low))
    go false q =
        let le : 8193 ≤ l.node = grind (arith, common_steps) in
        let g : Gate = slice_index_or (kept_after [] before) (l.node - 8193) no_gate in
        let there : has_gate (kept_after [] before) g ≡ true = has_gate-at (kept_after [] before) g (l.node - 8193) (known_place (kept_after [] before) l s.known le) refl in
        subst (IsMade before) (sym (edge_gate (list_of (kept_after [] before)) l le) ∙ s.stands_for) (gate_there l.sign g.left g.right (nothing_kept before g there))

-- the calls of a script are what the world asks for
pub scripted_by : (p : Problem) (calls : List (Literal × Literal)) (answers : List Literal) (end : Result Literal GateStop) → AreCalls [] (script_of p) calls → EndsAs [] (script_of p) answers end → length calls ≡ calls_of (length answers) end
    → IsScripted p
scripted_by p calls answers end are ends count before g after cut made =
    let there : length before < calls_of (length answers) end = call_there before g after answers end (subst (λ k. EndsAs [] k answers end) cut ends) made in
    let inside : length before < length calls = omega arith in
    let nothing : Literal × Literal = (record { node = 0; sign = false }, record { node = 0; sign = false }) in
    let c : IsCall (kept_after [] before) g (slice_index_or calls (length before) nothing) = calls_at [] before g after calls nothing (subst (λ k. AreCalls [] k calls) cut are) inside in
    let q : IsProper g = gate_proper p.hyps p.concl before g after cut in
    record {
      left = made_by before (slice_index_or calls (length before) nothing).0 g.left c.left;
      right = made_by before (slice_index_or calls (length before) nothing).1 g.right c.right;
      apart = q.apart;
      ordered = q.ordered;
    }
