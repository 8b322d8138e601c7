-- The gates that a walk has met, and that it asks for each one once.
use Rattle.std.proofs.Common.{◌≡◌, ◌<◌, ◌≤◌, ◌-◌, ℕ, Bool, true, false, ◌||◌, List, [], ◌∷◌, ◌++◌, refl, sym, ◌∙◌, ap, arith, length, map, nat_eq, nat_lt, Option, Some, None, subst, take}
use Rattle.std.proofs.lemmas.Grind.{common_steps}
use Rattle.std.proofs.lemmas.List.Folds.{list_any-append}
use Rattle.std.specs.List.{list_any, slice_get}
use Rattle.gate_shape.specs.Literal.{Literal}
use Rattle.gate_shape.specs.Edge.{Edge, gate, same}
use Rattle.gate_shape.specs.Builds.{Meaning, node_edge}
use Rattle.gate_shape.proofs.Sameness.{same-eq}
use Rattle.cone_walk.specs.declared.node.ConeNode.{ConeNode}
use Rattle.cone_walk.specs.declared.walk.Frame.{Frame}
use Rattle.cone_walk.specs.declared.walk.Stage.{Stage}
use Rattle.cone_walk.specs.declared.walk.Stage.TheVariants.{Begun, Asks, Done, Failed}
use Rattle.cone_walk.specs.declared.walk.Walk.{Walk}
use Rattle.cone_walk.specs.Order.{listed_edge}
use Rattle.cone_walk.specs.Numbered.{Numbered, is_numbered, with_node, with_input}
use Rattle.cone_walk.specs.Walk.{Walks, Wants, IsReply, IsAtEnd, asked_now, opened, open_nodes, is_met, was_asked, asks_made, MeetsSame, AsksFor, AskedForAll}
use Rattle.cone_walk.proofs.Trees.{listed_or, by_bool}
use Rattle.cone_walk.proofs.Steps.{open_push, top_of, or_true, nat_eq-eq, nat_eq-self, by_node, asked_in_cone, asked_not_done, asked_not_open, all_done}

or_false : (a : Bool) → a || false ≡ a
or_false true = refl
or_false false = refl

or_assoc : (a b c : Bool) → (a || b) || c ≡ a || (b || c)
or_assoc true b c = refl
or_assoc false b c = refl

between : (a b c : Bool) → a || (b || c) ≡ (a || c) || (b || false)
between true b c = refl
between false true true = refl
between false true false = refl
between false false true = refl
between false false false = refl

apart : (k n : ℕ) → k < 8193 → 8193 ≤ n → nat_eq n k ≡ false
apart k n l g = grind (arith, common_steps)

below : (k : ℕ) → nat_lt k 8193 ≡ true → k < 8193
below k h = grind (arith, common_steps)

-- an input's variable is no gate's
pub input_same : (d : Numbered) (k n : ℕ) → 8193 ≤ n → list_any (nat_eq n) (with_input d k).numbers ≡ list_any (nat_eq n) d.numbers
input_same d k n g = by_bool (nat_lt k 8193)
    (λ a. by_bool (is_numbered d k)
    (λ h. rw (a, h) refl)
    (λ h. rw (a, h) (rw (list_any-append (nat_eq n) d.numbers (k ∷ []), apart k n (below k a) g) (or_false (list_any (nat_eq n) d.numbers)))))
    (λ a. rw a refl)

-- a gate that gets its variable is numbered behind it
pub node_more : (d : Numbered) (k n : ℕ) (node : ConeNode) → 8193 ≤ n → list_any (nat_eq n) (with_node d k node).numbers ≡ (list_any (nat_eq n) d.numbers || nat_eq n k)
node_more d k n node g = by_bool (is_numbered d k)
    (λ h. rw h (by_bool (nat_eq n k)
    (λ e. rw e (there (ap (is_numbered d) (nat_eq-eq n k e) ∙ h) ∙ sym (or_true (list_any (nat_eq n) d.numbers))))
    (λ e. rw e (sym (or_false (list_any (nat_eq n) d.numbers))))))
    (λ h. rw h (list_any-append (nat_eq n) d.numbers (k ∷ []) ∙ ap (λ b. list_any (nat_eq n) d.numbers || b) (or_false (nat_eq n k))))
  where
    there : is_numbered d n ≡ true → list_any (nat_eq n) d.numbers ≡ true
    there h = listed_or (nat_eq n 0) (list_any (nat_eq n) d.numbers) h (λ z. let e : n ≡ 0 = nat_eq-eq n 0 z in absurd (omega (arith, g, e))) (λ t. t)

pub met_then : {a b c : Numbered} {p q r : List Frame} → MeetsSame a p b q → MeetsSame b q c r → MeetsSame a p c r
met_then h k = record { same = λ n g. k.same n g ∙ h.same n g }

-- inputs alone get variables
pub met_input : (d new : Numbered) (path : List Frame) (k : ℕ) → new ≡ with_input d k → MeetsSame d path new path
met_input d new path k e = rw e record { same = λ n g. ap (λ b. b || list_any (nat_eq n) (open_nodes path [])) (input_same d k n g) }

-- the innermost gate waits for a fanin
pub moves_left : (path : List Frame) (f : Frame) (d new : Numbered) (k : ℕ) → new ≡ with_input d k → MeetsSame d (path ++ f ∷ []) new (path ++ f ∷ [])
moves_left path f d new k e = met_input d new (path ++ f ∷ []) k e

pub moves_right : (path : List Frame) (f : Frame) (d more new : Numbered) (k j : ℕ) → more ≡ with_input d k → new ≡ with_input more j → MeetsSame d (path ++ f ∷ []) new (path ++ f ∷ [])
moves_right path f d more new k j e h = met_then (met_input d more (path ++ f ∷ []) k e) (met_input more new (path ++ f ∷ []) j h)

closes : (path : List Frame) (f : Frame) (d : Numbered) (node : ConeNode) → MeetsSame d (path ++ f ∷ []) (with_node d f.gate.node node) path
closes path f d node = record {
  same = λ n g. rw (node_more d f.gate.node n node g, open_push path f []) (or_assoc (list_any (nat_eq n) d.numbers) (nat_eq n f.gate.node) (list_any (nat_eq n) (open_nodes path [])));
}

-- it is done
pub moves_gate : (path : List Frame) (f : Frame) (d more both new : Numbered) (k j : ℕ) (node : ConeNode) → more ≡ with_input d k → both ≡ with_input more j → new ≡ with_node both f.gate.node node → MeetsSame d (path ++ f ∷ []) new path
moves_gate path f d more both new k j node e h q = met_then (moves_right path f d more both k j e h) (rw q (closes path f both node))

-- the same at the end of the path
pub top_waits_met : (d new : Numbered) (path : List Frame) (f : Frame) → slice_get path (length path - 1) ≡ Some f → ((before : List Frame) → MeetsSame d (before ++ f ∷ []) new (before ++ f ∷ [])) → MeetsSame d path new path
top_waits_met d new path f h c =
    let P : List Frame → Type 0 = λ p. MeetsSame d p new p in
    subst P (sym (top_of path f h)) (c (take (length path - 1) path))

pub top_done_met : (d new : Numbered) (path : List Frame) (f : Frame) → slice_get path (length path - 1) ≡ Some f → ((before : List Frame) → MeetsSame d (before ++ f ∷ []) new before) → MeetsSame d path new (take (length path - 1) path)
top_done_met d new path f h c =
    let P : List Frame → Type 0 = λ p. MeetsSame d p new (take (length path - 1) path) in
    subst P (sym (top_of path f h)) (c (take (length path - 1) path))

-- what is opened was asked for
pub opened_met : (m : Meaning) (d : Numbered) (path : List Frame) (stage : Stage) (fanins : Option (Literal × Literal)) (n : ℕ) → IsReply m stage fanins → is_met d (opened path stage fanins) n ≡ (is_met d path n || list_any (nat_eq n) (asked_now stage))
opened_met m d path (Asks l) (Some p) n r =
    rw (open_push path record { gate = l; left = p.0; right = p.1 } []) (between (list_any (nat_eq n) d.numbers) (nat_eq n l.node) (list_any (nat_eq n) (open_nodes path [])))
opened_met m d path (Asks l) None n r = absurd r
opened_met m d path Begun (Some p) n r = absurd r
opened_met m d path Begun None n r = sym (or_false (is_met d path n))
opened_met m d path Done (Some p) n r = absurd r
opened_met m d path Done None n r = sym (or_false (is_met d path n))
opened_met m d path Failed (Some p) n r = absurd r
opened_met m d path Failed None n r = sym (or_false (is_met d path n))

-- a gate that is asked for is one of the cone, asked for the first time
pub asks_for : (m : Meaning) (old mid : Walk) (fanins : Option (Literal × Literal)) (l : Literal) → IsReply m old.stage fanins → mid.root ≡ old.root → Wants m old.root mid.numbering mid.path.items (asks_made old) (Some l)
    → MeetsSame old.numbering (opened old.path.items old.stage fanins) mid.numbering mid.path.items → AsksFor m old (record mid { stage = Asks l }) l.node
asks_for m old mid fanins l reply root w met =
    let before = λ (n : ℕ) (g : 8193 ≤ n). met.same n g ∙ opened_met m old.numbering old.path.items old.stage fanins n reply in
    let count = w.2 in
    record {
      follows = rw root w.0;
      is_gate = w.1;
      known = w.0.asked_known l.node (rw (nat_eq-self l.node) refl);
      in_cone = asked_in_cone m old.root mid.numbering mid.path.items l.node w.0 w.1;
      first_time = sym (before l.node w.1) ∙ not_met w.0 w.1;
      asked = λ k g. ap (λ b. b || (nat_eq k l.node || false)) (before k g) ∙ ap (λ b. was_asked old k || b) (or_false (nat_eq k l.node));
      one_more = omega (arith, count);
    }
  where
    not_met : Walks m old.root mid.numbering mid.path.items (l.node ∷ []) → 8193 ≤ l.node → is_met mid.numbering mid.path.items l.node ≡ false
    not_met v g = rw (asked_not_done m old.root mid.numbering mid.path.items l.node v (omega (arith, g))) (by_bool (list_any (nat_eq l.node) (open_nodes mid.path.items [])) (λ h. absurd (asked_not_open m old.root mid.numbering mid.path.items l.node v h)) (λ h. h))

-- a node that has this tree
record Has (m : Meaning) (ns : List ℕ) (x : Edge) : Type 0 where
  node : ℕ
  among : list_any (nat_eq node) ns ≡ true
  is : node_edge m node ≡ x

node_of : (m : Meaning) (ns : List ℕ) (x : Edge) → listed_edge x (map (node_edge m) ns) ≡ true → Has m ns x
node_of m [] x h = absurd (cc)
node_of m (n ∷ ns) x h = by_bool (same x (node_edge m n))
    (λ e. record { node = n; among = rw (nat_eq-self n) refl; is = sym (same-eq x (node_edge m n) e) })
    (λ e. let r = node_of m ns x (rw e at h) in record { node = r.node; among = rw r.among (or_true (nat_eq r.node n)); is = r.is })

gate_number : (m : Meaning) (n : ℕ) (l r : Edge) → node_edge m n ≡ gate false l r → 8193 ≤ n
gate_number m n l r h = by_node m n (λ z e. absurd (cc)) (λ z s e. absurd (cc)) (λ z e. z)

-- at the end each gate of the cone was asked for
pub asked_all : (m : Meaning) (old mid : Walk) (fanins : Option (Literal × Literal)) → IsReply m old.stage fanins → mid.root ≡ old.root → Wants m old.root mid.numbering mid.path.items (asks_made old) None → IsAtEnd mid
    → MeetsSame old.numbering (opened old.path.items old.stage fanins) mid.numbering mid.path.items → AskedForAll m old (record mid { stage = Done })
asked_all m old mid fanins reply root w end met =
    let before = λ (n : ℕ) (g : 8193 ≤ n). met.same n g ∙ opened_met m old.numbering old.path.items old.stage fanins n reply in
    let count = w.1 in
    record {
      follows = rw root w.0;
      all = λ l r h.
          let x = node_of m mid.numbering.numbers (gate false l r) (rw (sym (all_done m old.root mid.numbering (rw end.0 at w.0) (rw root at end.1))) at h) in
          (x.node, gate_number m x.node l r x.is, x.is, rw x.among refl);
      asked = λ k g. or_false (is_met mid.numbering mid.path.items k) ∙ before k g;
      no_more = omega (arith, count);
    }
