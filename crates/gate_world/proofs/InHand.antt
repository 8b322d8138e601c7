-- From what a goal has in hand to one load or claim of it.
use Rattle.std.proofs.Common.{◌≡◌, ℕ, ◌≤◌, List, [], ◌∷◌, ◌++◌, length, length-append, refl, sym, ap, ◌∙◌, subst, arith}
use Rattle.gate_shape.specs.Literal.{Literal}
use Rattle.gate_shape.specs.Edge.{Edge, Gate, constant, input, gate, level}
use Rattle.gate_probe.specs.Words.{word_at}
use Rattle.gate_probe.specs.Sound.{IsWithin}
use Rattle.gate_probe.specs.Standing.{StandsIn}
use Rattle.gate_probe.specs.Views.{learnt}
use Rattle.gate_probe.specs.Moves.{Probe}
use Rattle.gate_probe.proofs.Keeping.{learnt_within}
use Rattle.gate_probe.proofs.Standing.{stands_more}
use Rattle.gate_probe.proofs.Searching.{learnt_keeps}
use Rattle.gate_world.specs.Literals.{place_in, if_gate, fanin_gates}
use Rattle.gate_world.specs.Work.{Work, Loading, Probing, Walking, Searching, Ended, to_probe, to_load}
use Rattle.gate_world.specs.World.{Actor, moved}
use Rattle.gate_world.specs.Doing.{IsBuilding}
use Rattle.gate_world.specs.Coding.{IsCalls, IsReadBy, IsAtSearch, IsInHand, IsMovedTo, ShowsBuilding, ShowsWork}
use Rattle.gate_world.specs.declared.build.Calls.{Calls}
use Rattle.gate_world.specs.declared.build.Stage.{Stage}
use Rattle.gate_world.specs.declared.build.Stage.TheVariants as stage
use Rattle.gate_world.specs.declared.build.Work.{Work as CodeWork}
use Rattle.gate_world.specs.declared.build.Work.TheVariants as code
use Rattle.gate_world.proofs.Doing.{next_seen}
use Rattle.gate_world.proofs.Begun.{one_gate}

-- a fanin that is a gate
pub gate_of_one : (words : List ℕ) (e : Edge) (l : Literal) → StandsIn words l e → length (if_gate e) ≡ 1 → 8193 ≤ l.node
gate_of_one words (constant s) l h n = absurd (omega arith)
gate_of_one words (input s k j) l h n = absurd (omega arith)
gate_of_one words (gate s a b) l h n = h.0

behind_one : (e : Edge) (es xs ys : List Edge) → length xs ≡ 1 → e ∷ es ≡ xs ++ ys → es ≡ ys
behind_one e es [] ys n h = absurd (omega arith)
behind_one e es (x ∷ []) ys n h = cc
behind_one e es (x ∷ y ∷ zs) ys n h = absurd (omega arith)

alone_there : (e : Edge) (es xs : List Edge) → length xs ≡ 1 → e ∷ es ≡ xs → es ≡ []
alone_there e es [] n h = absurd (omega arith)
alone_there e es (x ∷ []) n h = cc
alone_there e es (x ∷ y ∷ zs) n h = absurd (omega arith)

same_front : (xs ys zs : List Gate) → length xs ≡ length ys → xs ++ zs ≡ ys ++ zs → xs ≡ ys
same_front [] [] zs n h = refl
same_front [] (y ∷ ys) zs n h = absurd (omega arith)
same_front (x ∷ xs) [] zs n h = absurd (omega arith)
same_front (x ∷ xs) (y ∷ ys) zs n h =
    let e : x ≡ y = cc in
    let t : xs ++ zs ≡ ys ++ zs = cc in
    let r = same_front xs ys zs (omega arith) t in
    λ i. e i ∷ r i

same_done : (xs ys zs : List Gate) → xs ++ zs ≡ ys ++ zs → xs ≡ ys
same_done xs ys zs h =
    let a = length-append xs zs in
    let b = length-append ys zs in
    let c : length (xs ++ zs) ≡ length (ys ++ zs) = ap length h in
    same_front xs ys zs (omega arith) h

pub record IsLoading (a : Actor) (w : Work) (words : List ℕ) (c : Calls) : Type 0 where
  pub first : Edge
  pub behind : List Edge
  pub gate : Gate
  pub ahead : List Gate
  pub done : List Gate
  pub is : w ≡ Loading first behind gate ahead
  pub calls : IsCalls a.problem words done (gate ∷ ahead) c
  pub read : IsReadBy words a.seen gate

read_by : (a : Actor) (words : List ℕ) (s : Stage) (c : Calls) (e : Edge) (es : List Edge) (g : Gate) (gs : List Gate) → IsInHand a (Loading e es g gs) words (record { calls = c; stage = s }) → IsReadBy words a.seen g
read_by a words s c e es g gs h =
    let d = h.doing in
    let n = next_seen (length words) 0 words (λ _. Unit {0}) a.problem a.seen h.sound h.within refl h.some h.few h.scripted d.0 g gs d.1 in
    record { sound = h.sound; within = h.within; left = n.0; right = n.1 }

pub left_in_hand : (a : Actor) (w : Work) (words : List ℕ) (c : Calls) → IsInHand a w words (record { calls = c; stage = stage.Left }) → (k : IsLoading a w words c) × (length (if_gate k.gate.left) ≡ 1) × (k.first ∷ k.behind ≡ fanin_gates k.gate)
left_in_hand a (Loading e es g gs) words c h =
    let s = h.shows in
    (record { first = e; behind = es; gate = g; ahead = gs; done = s.0; is = refl; calls = s.1; read = read_by a words stage.Left c e es g gs h }, s.2.0, s.2.1)
left_in_hand a (Probing g gs q) words c h = let s = h.shows in absurd (other s.2)
  where
    other : stage.Left ≡ stage.Probe q → ⊥
    other e = cc
left_in_hand a (Walking e es) words c h = absurd h.shows
left_in_hand a (Searching m) words c h = absurd h.shows
left_in_hand a (Ended end) words c h = absurd h.shows

pub right_in_hand : (a : Actor) (w : Work) (words : List ℕ) (c : Calls) (lev : ℕ) → IsInHand a w words (record { calls = c; stage = stage.Right lev })
    → (k : IsLoading a w words c) × (length (if_gate k.gate.right) ≡ 1) × (k.first ∷ k.behind ≡ if_gate k.gate.right) × (lev ≡ level k.gate.left) × (lev ≤ 262143)
right_in_hand a (Loading e es g gs) words c lev h =
    let s = h.shows in
    (record { first = e; behind = es; gate = g; ahead = gs; done = s.0; is = refl; calls = s.1; read = read_by a words (stage.Right lev) c e es g gs h }, s.2.0, s.2.1, s.2.2, s.2.3)
right_in_hand a (Probing g gs q) words c lev h = let s = h.shows in absurd (other s.2)
  where
    other : stage.Right lev ≡ stage.Probe q → ⊥
    other e = cc
right_in_hand a (Walking e es) words c lev h = absurd h.shows
right_in_hand a (Searching m) words c lev h = absurd h.shows
right_in_hand a (Ended end) words c lev h = absurd h.shows

pub record IsProbed (a : Actor) (w : Work) (words : List ℕ) (c : Calls) (q : Probe) : Type 0 where
  pub gate : Gate
  pub ahead : List Gate
  pub done : List Gate
  pub is : w ≡ Probing gate ahead q
  pub search : IsAtSearch a.problem words a.seen done gate ahead c q

at_search : (a : Actor) (words : List ℕ) (c : Calls) (s : Stage) (g : Gate) (gs : List Gate) (q : Probe) → IsInHand a (Probing g gs q) words (record { calls = c; stage = s }) → (done : List Gate) × IsAtSearch a.problem words a.seen done g gs c q
at_search a words c s g gs q h =
    let t = h.shows in
    let d = h.doing in
    let same : d.0 ≡ t.0 = same_done d.0 t.0 (g ∷ gs) (sym d.1.cut ∙ t.1.cut) in (
      t.0,
      record {
        calls = t.1;
        sound = h.sound;
        some = h.some;
        few = h.few;
        within = h.within;
        scripted = h.scripted;
        building = subst (λ k. IsBuilding a.problem a.seen k (g ∷ gs)) same d.1;
        shallow = d.2;
        probing = d.3;
        ongoing = d.4;
      },
    )

pub probe_in_hand : (a : Actor) (w : Work) (words : List ℕ) (c : Calls) (q : Probe) → IsInHand a w words (record { calls = c; stage = stage.Probe q }) → IsProbed a w words c q
probe_in_hand a (Loading e es g gs) words c q h = let s = h.shows in absurd s.2
probe_in_hand a (Probing g gs r) words c q h =
    let s = h.shows in
    let k = at_search a words c (stage.Probe q) g gs r h in
    let same : r ≡ q = sym (one s.2) in
    record { gate = g; ahead = gs; done = k.0; is = ap (Probing g gs) same; search = subst (IsAtSearch a.problem words a.seen k.0 g gs c) same k.1 }
  where
    one : {x y : Probe} → stage.Probe x ≡ stage.Probe y → x ≡ y
    one e = cc
probe_in_hand a (Walking e es) words c q h = absurd h.shows
probe_in_hand a (Searching m) words c q h = absurd h.shows
probe_in_hand a (Ended end) words c q h = absurd h.shows

-- behind a load of a word that was seen
loaded : (a : Actor) (words : List ℕ) (e : Edge) (g : Gate) → IsReadBy words a.seen g → IsReadBy words (learnt a.seen (place_in a.seen e) (word_at words (place_in a.seen e))) g
loaded a words e g r =
    let s : ℕ = place_in a.seen e in
    let more : IsWithin a.seen (learnt a.seen s (word_at words s)) = learnt_keeps a.seen s (word_at words s) (λ z. r.within s z) in
    record {
      sound = r.sound;
      within = learnt_within words a.seen s (word_at words s) r.within refl;
      left = (r.left.0, stands_more a.seen (learnt a.seen s (word_at words s)) more g.left r.left.0 r.left.1);
      right = (r.right.0, stands_more a.seen (learnt a.seen s (word_at words s)) more g.right r.right.0 r.right.1);
    }

-- the left fanin was loaded
pub left_then_right : (a : Actor) (w : Work) (words : List ℕ) (c : Calls) (first : ℕ) (k : IsLoading a w words c) (r : Literal) → length (if_gate k.gate.left) ≡ 1 → k.first ∷ k.behind ≡ fanin_gates k.gate → StandsIn words r k.gate.right → 8193 ≤ r.node → first ≡ level k.gate.left → first ≤ 262143
    → IsMovedTo (moved words a w) words (code.Building (record { calls = c; stage = stage.Right first }))
left_then_right a w words c first k r one all s le lev small =
    let rest : k.behind ≡ if_gate k.gate.right = behind_one k.first k.behind (if_gate k.gate.left) (if_gate k.gate.right) one all in
    let x = one_gate words k.gate.right r s le in
    let seen : List ℕ = learnt a.seen (place_in a.seen k.first) (word_at words (place_in a.seen k.first)) in
    let shown : ShowsBuilding a.problem words (record { calls = c; stage = stage.Right first }) (to_load (length words) seen k.behind k.gate k.ahead) =
    subst (λ es. ShowsBuilding a.problem words (record { calls = c; stage = stage.Right first }) (to_load (length words) seen es k.gate k.ahead)) (sym (rest ∙ x.1)) (k.done, k.calls, (ap length x.1, sym x.1, lev, small)) in
    subst (λ (v : Work). IsMovedTo (moved words a v) words (code.Building (record { calls = c; stage = stage.Right first }))) (sym k.is) (refl, shown)

pub left_then_probe : (a : Actor) (w : Work) (words : List ℕ) (c : Calls) (work : CodeWork) (k : IsLoading a w words c) → length (if_gate k.gate.left) ≡ 1 → k.first ∷ k.behind ≡ fanin_gates k.gate → if_gate k.gate.right ≡ []
    → ((seen : List ℕ) → IsReadBy words seen k.gate → ShowsWork a.problem words work (to_probe (length words) seen k.gate k.ahead)) → IsMovedTo (moved words a w) words work
left_then_probe a w words c work k one all none f =
    let rest : k.behind ≡ [] = behind_one k.first k.behind (if_gate k.gate.left) (if_gate k.gate.right) one all ∙ none in
    let seen : List ℕ = learnt a.seen (place_in a.seen k.first) (word_at words (place_in a.seen k.first)) in
    let shown : ShowsWork a.problem words work (to_load (length words) seen k.behind k.gate k.ahead) = subst (λ es. ShowsWork a.problem words work (to_load (length words) seen es k.gate k.ahead)) (sym rest) (f seen (loaded a words k.first k.gate k.read)) in
    subst (λ (v : Work). IsMovedTo (moved words a v) words work) (sym k.is) (refl, shown)

-- the right fanin was loaded
pub right_then_probe : (a : Actor) (w : Work) (words : List ℕ) (c : Calls) (work : CodeWork) (k : IsLoading a w words c) → length (if_gate k.gate.right) ≡ 1 → k.first ∷ k.behind ≡ if_gate k.gate.right
    → ((seen : List ℕ) → IsReadBy words seen k.gate → ShowsWork a.problem words work (to_probe (length words) seen k.gate k.ahead)) → IsMovedTo (moved words a w) words work
right_then_probe a w words c work k one all f =
    let rest : k.behind ≡ [] = alone_there k.first k.behind (if_gate k.gate.right) one all in
    let seen : List ℕ = learnt a.seen (place_in a.seen k.first) (word_at words (place_in a.seen k.first)) in
    let shown : ShowsWork a.problem words work (to_load (length words) seen k.behind k.gate k.ahead) = subst (λ es. ShowsWork a.problem words work (to_load (length words) seen es k.gate k.ahead)) (sym rest) (f seen (loaded a words k.first k.gate k.read)) in
    subst (λ (v : Work). IsMovedTo (moved words a v) words work) (sym k.is) (refl, shown)
