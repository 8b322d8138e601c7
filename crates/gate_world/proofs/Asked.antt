-- A walk asks for each gate of the cone once, so it comes to its end when no gate is left.
use Rattle.std.proofs.Common.{◌≡◌, ℕ, ◌+◌, ◌-◌, ◌≤◌, le_antisymm, Bool, true, false, ◌||◌, List, [], ◌∷◌, ◌++◌, length, length-append, map, nat_eq, Option, refl, sym, ap, ◌∙◌, subst, arith, true≢false}
use Rattle.std.specs.List.{list_any, IsDistinct, AllByRecursion}
use Rattle.std.proofs.lemmas.List.{length-map}
use Rattle.std.proofs.lemmas.List.Folds.{list_any-append}
use Rattle.std.proofs.lemmas.Map.Made.{length-le_from_is_member}
use Rattle.gate_shape.specs.Literal.{Literal}
use Rattle.gate_shape.specs.Edge.{Edge, constant, input, gate, same}
use Rattle.gate_shape.specs.Builds.{Meaning, Known, OneEach, node_edge, edge}
use Rattle.gate_shape.proofs.Sameness.{same-eq, same-self}
use Rattle.gate_probe.specs.Sound.{IsPart}
use Rattle.gate_probe.specs.Standing.{StandsIn}
use Rattle.gate_probe.proofs.Standing.{meant_stands, stands_meant, edge_gate}
use Rattle.gate_probe.proofs.Meaning.{meant_once}
use Rattle.sat_form.specs.Literals.{Literal as SatLiteral}
use Rattle.cone_walk.specs.declared.node.ConeNode.{ConeNode}
use Rattle.cone_walk.specs.declared.walk.Walk.{Walk}
use Rattle.cone_walk.specs.Order.{listed_edge, order}
use Rattle.cone_walk.specs.Cone.{cone_nodes, cone_root}
use Rattle.cone_walk.specs.Walk.{Follows, AsksFor, AskedForAll, root_of, asked_now, asks_made}
use Rattle.tseitin.specs.Clauses.{AreConeOf}
use Rattle.gate_world.specs.Literals.{arrivals, cone_gates}
use Rattle.gate_world.specs.Work.{Problem, edge_of, cone_of, to_walk}
use Rattle.gate_world.specs.Cone.{meaning_of, StandsAt, AreNodesOf, HasAsked, IsTold, ShowsWalk}
use Rattle.gate_world.specs.declared.walk.Walking.{Walking as CodeWalking}
use Rattle.gate_world.proofs.Standing.{number_same, number_self}
use Rattle.gate_world.proofs.Cones.{by_bool, or_cases, or_left, or_right, in_either, same_equiv, listed_is, some_listed, once_firsts, none_once, firsts_of, has_gates, gates_of, order_came, came_in_order}

-- the gates of a cone have no sign
arrival_plain : (e x : Edge) → listed_edge x (arrivals e) ≡ true → (a : Edge) × (b : Edge) × (x ≡ gate false a b)
unfolding arrivals
arrival_plain (constant s) x h = absurd (true≢false (sym h))
arrival_plain (input s k j) x h = absurd (true≢false (sym h))
arrival_plain (gate s a b) x h = or_cases (same x (gate false a b)) (listed_edge x (arrivals a ++ arrivals b)) h
    (λ e. (a, b, same-eq x (gate false a b) e))
    (λ t. in_either x (arrivals a) (arrivals b) t (λ f. arrival_plain a x f) (λ f. arrival_plain b x f))

cone_plain : (e x : Edge) → listed_edge x (cone_gates e) ≡ true → (a : Edge) × (b : Edge) × (x ≡ gate false a b)
cone_plain e x h = arrival_plain e x (firsts_of [] (arrivals e) x h)

cone_has : (e a b : Edge) → listed_edge (gate false a b) (order e) ≡ true → listed_edge (gate false a b) (cone_gates e) ≡ true
cone_has e a b h = order_came e (gate false a b) (has_gates false a b (order e) h)

cone_once : (e : Edge) → IsDistinct same (cone_gates e)
cone_once e = once_firsts [] (arrivals e) none_once

-- ---- nodes and their trees

abbrev plain : ℕ → Literal
plain n = record { node = n; sign = false }

plain_edge : (m : Meaning) (n : ℕ) → edge m (plain n) ≡ node_edge m n
unfolding edge
plain_edge m n = refl

-- different nodes have different trees
apart_edges : (m : Meaning) → OneEach m → (n k : ℕ) → Known m (plain n) → Known m (plain k) → nat_eq n k ≡ false → same (node_edge m n) (node_edge m k) ≡ false
apart_edges m once n k hn hk apart = by_bool (same (node_edge m n) (node_edge m k))
    (λ e.
    let l : plain n ≡ plain k = once (plain n) (plain k) hn hk (plain_edge m n ∙ same-eq (node_edge m n) (node_edge m k) e ∙ sym (plain_edge m k)) in
    let is : n ≡ k = ap (λ (x : Literal). x.node) l in
    absurd (true≢false (sym (subst (λ j. nat_eq n j ≡ true) is (number_self n)) ∙ apart)))
    (λ e. e)

behind : (m : Meaning) (n : ℕ) (ns : List ℕ) → ((k : ℕ) → list_any (nat_eq k) (n ∷ ns) ≡ true → Known m (plain k)) → (k : ℕ) → list_any (nat_eq k) ns ≡ true → Known m (plain k)
behind m n ns all k h = all k (or_right (nat_eq k n) (list_any (nat_eq k) ns) h)

first : (m : Meaning) (n : ℕ) (ns : List ℕ) → ((k : ℕ) → list_any (nat_eq k) (n ∷ ns) ≡ true → Known m (plain k)) → Known m (plain n)
first m n ns all = all n (or_left (nat_eq n n) (list_any (nat_eq n) ns) (number_self n))

all_apart : (m : Meaning) → OneEach m → (n : ℕ) (ns : List ℕ) → Known m (plain n) → ((k : ℕ) → list_any (nat_eq k) ns ≡ true → Known m (plain k)) → AllByRecursion (λ k. nat_eq n k ≡ false) ns → AllByRecursion (λ y. same (node_edge m n) y ≡ false) (map (node_edge m) ns)
all_apart m once n [] h all d = tt
all_apart m once n (k ∷ ks) h all d = (apart_edges m once n k h (first m k ks all) d.0, all_apart m once n ks h (behind m k ks all) d.1)

edges_once : (m : Meaning) → OneEach m → (ns : List ℕ) → ((k : ℕ) → list_any (nat_eq k) ns ≡ true → Known m (plain k)) → IsDistinct nat_eq ns → IsDistinct same (map (node_edge m) ns)
unfolding IsDistinct
edges_once m once [] all d = tt
edges_once m once (n ∷ ns) all d = (all_apart m once n ns (first m n ns all) (behind m n ns all) d.0, edges_once m once ns (behind m n ns all) d.1)

node_of : (m : Meaning) (ns : List ℕ) (x : Edge) → listed_edge x (map (node_edge m) ns) ≡ true → (n : ℕ) × (list_any (nat_eq n) ns ≡ true) × (node_edge m n ≡ x)
node_of m [] x h = absurd (true≢false (sym h))
node_of m (n ∷ ns) x h = or_cases (same x (node_edge m n)) (listed_edge x (map (node_edge m) ns)) h
    (λ e. (n, or_left (nat_eq n n) (list_any (nat_eq n) ns) (number_self n), sym (same-eq x (node_edge m n) e)))
    (λ t. let r = node_of m ns x t in (r.0, or_right (nat_eq r.0 n) (list_any (nat_eq r.0) ns) r.1, r.2))

edge_there : (m : Meaning) (ns : List ℕ) (n : ℕ) → list_any (nat_eq n) ns ≡ true → listed_edge (node_edge m n) (map (node_edge m) ns) ≡ true
edge_there m [] n h = absurd (true≢false (sym h))
edge_there m (k ∷ ks) n h = or_cases (nat_eq n k) (list_any (nat_eq n) ks) h
    (λ e. or_left (same (node_edge m n) (node_edge m k)) (listed_edge (node_edge m n) (map (node_edge m) ks)) (subst (λ j. same (node_edge m n) (node_edge m j) ≡ true) (number_same n k e) (same-self (node_edge m n))))
    (λ t. or_right (same (node_edge m n) (node_edge m k)) (listed_edge (node_edge m n) (map (node_edge m) ks)) (edge_there m ks n t))

apart_push : (n : ℕ) (ns : List ℕ) (k : ℕ) → AllByRecursion (λ j. nat_eq n j ≡ false) ns → nat_eq n k ≡ false → AllByRecursion (λ j. nat_eq n j ≡ false) (ns ++ k ∷ [])
apart_push n [] k a e = (e, tt)
apart_push n (j ∷ js) k a e = (a.0, apart_push n js k a.1 e)

or_none : (a b : Bool) → a || b ≡ false → (a ≡ false) × (b ≡ false)
or_none true b h = absurd (true≢false h)
or_none false b h = (refl, h)

number_swap : (a b : ℕ) → nat_eq a b ≡ false → nat_eq b a ≡ false
number_swap a b h = by_bool (nat_eq b a) (λ e. absurd (true≢false (sym (subst (λ k. nat_eq a k ≡ true) (sym (number_same b a e)) (number_self a)) ∙ h))) (λ e. e)

once_push : (ns : List ℕ) (k : ℕ) → IsDistinct nat_eq ns → list_any (nat_eq k) ns ≡ false → IsDistinct nat_eq (ns ++ k ∷ [])
unfolding IsDistinct
once_push [] k d h = (tt, tt)
once_push (n ∷ ns) k d h = let p = or_none (nat_eq k n) (list_any (nat_eq k) ns) h in (apart_push n ns k d.0 (number_swap k n p.0), once_push ns k d.1 p.1)

or_false : (a : Bool) → a || false ≡ a
or_false true = refl
or_false false = refl

in_push : (ns : List ℕ) (k n : ℕ) → list_any (nat_eq n) (ns ++ k ∷ []) ≡ (list_any (nat_eq n) ns || nat_eq n k)
in_push ns k n = list_any-append (nat_eq n) ns (k ∷ []) ∙ ap (λ b. list_any (nat_eq n) ns || b) (or_false (nat_eq n k))

-- ---- what a walk by a view asked for

module _ (p : Problem) (view : List ℕ) (part : IsPart view) where
  abbrev m : Meaning
  m = meaning_of view

  abbrev Each : List ℕ → Type 0
  Each nodes = (n : ℕ) → list_any (nat_eq n) nodes ≡ true → (e : Edge) × (listed_edge e (cone_of p) ≡ true) × StandsAt view n e

  each_known : (nodes : List ℕ) → Each nodes → (n : ℕ) → list_any (nat_eq n) nodes ≡ true → Known m (plain n)
  each_known nodes each n h = (stands_meant view false [] part (plain n) (each n h).0 (each n h).2.1).known

  each_edge : (nodes : List ℕ) → (each : Each nodes) → (n : ℕ) (h : list_any (nat_eq n) nodes ≡ true) → node_edge m n ≡ (each n h).0
  each_edge nodes each n h = sym (plain_edge m n) ∙ (stands_meant view false [] part (plain n) (each n h).0 (each n h).2.1).stands_for

  -- no more gates than the cone has
  asked_few : (nodes : List ℕ) → IsDistinct nat_eq nodes → Each nodes → length nodes ≤ length (cone_of p)
  asked_few nodes once each =
      let trees : List Edge = map (node_edge m) nodes in
      let low : length trees ≤ length (cone_of p) = length-le_from_is_member same_equiv trees (cone_of p) (edges_once m (meant_once view false [] part) nodes (each_known nodes each) once)
      (λ x h.
      let r = node_of m nodes x (some_listed trees x h) in
      let is : (each r.0 r.1).0 ≡ x = sym (each_edge nodes each r.0 r.1) ∙ r.2 in
      sym (listed_is x (cone_of p)) ∙ subst (λ y. listed_edge y (cone_of p) ≡ true) is (each r.0 r.1).1) in
      subst (λ k. k ≤ length (cone_of p)) (length-map nodes (node_edge m)) low

  -- as many where each gate of the cone was asked for
  asked_many : (nodes : List ℕ) → ((e : Edge) → listed_edge e (cone_of p) ≡ true → (n : ℕ) × (list_any (nat_eq n) nodes ≡ true) × (node_edge m n ≡ e)) → length (cone_of p) ≤ length nodes
  asked_many nodes all =
      let trees : List Edge = map (node_edge m) nodes in
      let high : length (cone_of p) ≤ length trees = length-le_from_is_member same_equiv (cone_of p) trees (cone_once (edge_of p))
      (λ x h.
      let r = all x (some_listed (cone_of p) x h) in
      sym (listed_is x trees) ∙ subst (λ y. listed_edge y trees ≡ true) r.2 (edge_there m nodes r.0 r.1)) in
      subst (λ k. length (cone_of p) ≤ k) (length-map nodes (node_edge m)) high

  -- the node that is asked for is that of a gate of the cone
  asked_gate : (w new : Walk) (n : ℕ) → StandsIn view (root_of w) (edge_of p) → AsksFor m w new n → (e : Edge) × (listed_edge e (cone_of p) ≡ true) × StandsAt view n e
  asked_gate w new n root a =
      let g = m.gate_at (n - 8193) in
      let is : node_edge m n ≡ gate false g.left g.right = sym (plain_edge m n) ∙ edge_gate m (plain n) a.is_gate in
      let from : edge m (root_of w) ≡ edge_of p = (stands_meant view false [] part (root_of w) (edge_of p) root).stands_for in
      let there : listed_edge (gate false g.left g.right) (order (edge_of p)) ≡ true = subst (λ y. listed_edge y (order (edge_of p)) ≡ true) is (subst (λ y. listed_edge (node_edge m n) (order y) ≡ true) from a.in_cone) in (
        gate false g.left g.right,
        cone_has (edge_of p) g.left g.right there,
        (a.is_gate, subst (StandsIn view (plain n)) (edge_gate m (plain n) a.is_gate) (meant_stands view false [] (plain n) a.known)),
      )

  asks_more : (w new : Walk) (nodes : List ℕ) (n : ℕ) → StandsIn view (root_of w) (edge_of p) → HasAsked p view w nodes → AsksFor m w new n → HasAsked p view new (nodes ++ n ∷ [])
  asks_more w new nodes n root h a = record {
    many = length-append nodes (n ∷ []) ∙ ap (λ k. k + 1) h.many ∙ sym a.one_more;
    once = once_push nodes n h.once (h.asked n a.is_gate ∙ a.first_time);
    each = λ k l. or_cases (list_any (nat_eq k) nodes) (nat_eq k n) (sym (in_push nodes n k) ∙ l)
        (λ t. h.each k t)
        (λ t. subst (λ j. (e : Edge) × (listed_edge e (cone_of p) ≡ true) × StandsAt view j e) (sym (number_same k n t)) (asked_gate w new n root a));
    asked = λ k l. in_push nodes n k ∙ ap (λ b. b || nat_eq k n) (h.asked k l) ∙ sym (a.asked k l);
  }

  module _ (w new : Walk) (nodes : List ℕ) (root : StandsIn view (root_of w) (edge_of p)) (h : HasAsked p view w nodes) (done : AskedForAll m w new) where
    found : (e : Edge) → listed_edge e (cone_of p) ≡ true → (n : ℕ) × (list_any (nat_eq n) nodes ≡ true) × (node_edge m n ≡ e)
    found e l =
        let g = cone_plain (edge_of p) e l in
        let from : edge m (root_of w) ≡ edge_of p = (stands_meant view false [] part (root_of w) (edge_of p) root).stands_for in
        let there : listed_edge (gate false g.0 g.1) (order (edge_of p)) ≡ true = subst (λ y. listed_edge y (order (edge_of p)) ≡ true) g.2 (gates_of (order (edge_of p)) e (came_in_order (edge_of p) e l)) in
        let r = done.all g.0 g.1 (subst (λ y. listed_edge (gate false g.0 g.1) (order y) ≡ true) (sym from) there) in
        (r.0, h.asked r.0 r.1 ∙ sym (done.asked r.0 r.1) ∙ r.3, r.2 ∙ sym g.2)

    asked_whole : length nodes ≡ length (cone_of p)
    asked_whole = le_antisymm (asked_few nodes h.once h.each) (asked_many nodes found)

    nodes_whole : AreNodesOf view (cone_of p) nodes
    nodes_whole = record {
      count = asked_whole;
      each = h.each;
      all = λ e l.
          let r = found e l in
          let is : (h.each r.0 r.1).0 ≡ e = sym (each_edge nodes h.each r.0 r.1) ∙ r.2 in
          (r.0, r.1, subst (StandsAt view r.0) is (h.each r.0 r.1).2);
    }

-- ---- what it comes to

none_ahead : (p : Problem) (es : List Edge) → length es ≡ 0 → to_walk p es ≡ to_walk p []
none_ahead p [] h = refl
none_ahead p (e ∷ es) h = absurd (omega arith)

-- it asks for one more gate
pub asks_shows : (p : Problem) (view : List ℕ) (es : List Edge) (w : Walk) (nodes : List ℕ) (fanins : Option (Literal × Literal)) (k : CodeWalking) → IsTold p view (length es) w nodes fanins → root_of k.walk ≡ root_of w → asked_now k.walk.stage ≡ k.node ∷ []
    → AsksFor (meaning_of view) w k.walk k.node → k.nodes.items ≡ nodes ++ k.node ∷ [] → ShowsWalk p view k (to_walk p es)
asks_shows p view es w nodes fanins k t same waits a pushed = go es t.count
  where
    asked : HasAsked p view k.walk k.nodes.items
    asked = subst (HasAsked p view k.walk) (sym pushed) (asks_more p view t.part w k.walk nodes k.node t.root t.asked a)

    few : asks_made k.walk ≤ length (cone_of p)
    few = subst (λ x. x ≤ length (cone_of p)) asked.many (asked_few p view t.part k.nodes.items asked.once asked.each)

    go : (es : List Edge) → asks_made w + length es ≡ length (cone_of p) → ShowsWalk p view k (to_walk p es)
    go [] count = let f = few in let o = a.one_more in absurd (omega arith)
    go (e ∷ es) count = (
      view,
      (λ s z. refl),
      record {
        root = subst (λ l. StandsIn view l (edge_of p)) (sym same) t.root;
        follows = a.follows;
        gate = a.is_gate;
        waits = waits;
        count = (let o = a.one_more in omega arith);
        asked = asked;
      },
    )

-- or it has asked for all
pub whole_shows : (p : Problem) (view : List ℕ) (es : List Edge) (w new : Walk) (nodes : List ℕ) (fanins : Option (Literal × Literal)) (cone : List ConeNode) (root : SatLiteral) → IsTold p view (length es) w nodes fanins → root_of new ≡ root_of w
    → AskedForAll (meaning_of view) w new → ((m : Meaning) → Follows m new → cone ≡ cone_nodes (edge m (root_of new))) → ((m : Meaning) → Follows m new → root ≡ cone_root (edge m (root_of new)))
    → (to_walk p es ≡ to_walk p []) × AreConeOf (edge_of p) cone root × AreNodesOf view (cone_of p) nodes
whole_shows p view es w new nodes fanins cone root t same done is_cone is_root =
    let all = asked_whole p view t.part w new nodes t.root t.asked done in
    let from : edge (meaning_of view) (root_of new) ≡ edge_of p = ap (edge (meaning_of view)) same ∙ (stands_meant view false [] t.part (root_of w) (edge_of p) t.root).stands_for in
    let many = t.asked.many in
    let count = t.count in (
      none_ahead p es (omega arith),
      record {
        nodes_are = is_cone (meaning_of view) done.follows ∙ ap cone_nodes from;
        root_is = is_root (meaning_of view) done.follows ∙ ap cone_root from;
      },
      nodes_whole p view t.part w new nodes t.root t.asked done,
    )
