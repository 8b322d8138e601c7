-- The clauses of an edge say what the edge says.
use Rattle.std.proofs.Common.{◌≡◌, ◌<◌, ◌≤◌, ◌+◌, ◌-◌, ℕ, zero, suc, Bool, true, false, not, ◌&&◌, ◌||◌, ◌↔◌, List, [], ◌∷◌, ◌++◌, refl, sym, ◌∙◌, ap, arith, length, map, slice_index_or, nat_eq}
use Rattle.std.proofs.lemmas.Grind.{common_steps}
use Rattle.std.proofs.lemmas.List.{get_or-map, length-map}
use Rattle.gate_shape.specs.Edge.{Edge, constant, input, gate, same, value, signed}
use Rattle.gate_shape.proofs.Sameness.{same-eq, same-self}
use Rattle.sat_form.specs.Literals.{Literal, negate, same_sign}
use Rattle.sat_form.specs.Truth.{literal_true, clause_true, satisfies}
use Rattle.cone_walk.specs.declared.node.ConeNode.{ConeNode}
use Rattle.cone_walk.specs.declared.node.ConeNode.TheVariants.{Input, Gate}
use Rattle.cone_walk.specs.Order.{order, completions, firsts, listed_edge}
use Rattle.cone_walk.specs.Cone.{cone_node, cone_nodes, cone_root, literal, place}
use Rattle.cone_walk.specs.Visits.{HasAll, IsSettled}
use Rattle.cone_walk.proofs.Trees.{listed_or, by_bool, listed-append, listed-left, listed-right, listed-one, firsts-has}
use Rattle.tseitin.specs.Clauses.{variable, node_clauses, all_clauses, clauses, variables, Extends, node_values, AreConeOf, cone_clauses, SatisfiableExactly}

-- the values of the constant and of the nodes in the order
record AreValues (bits : ℕ → ℕ → Bool) (e : Edge) (values : ℕ → Bool) : Type 0 where
  one : values 1 ≡ true
  nodes : (i : ℕ) → i < length (order e) → values (i + 2) ≡ value bits (slice_index_or (order e) i (constant false))

or_true : (a : Bool) → a || true ≡ true
or_true true = refl
or_true false = refl

both_true : (a b : Bool) → a && b ≡ true → (a ≡ true) × (b ≡ true)
both_true true b h = (refl, h)
both_true false b h = absurd (cc)

all-append : (values : ℕ → Bool) (xs ys : List (List Literal)) → satisfies values (xs ++ ys) ≡ satisfies values xs && satisfies values ys
all-append values [] ys = refl
all-append values (x ∷ xs) ys = ap (λ b. clause_true values x && b) (all-append values xs ys) ∙ assoc (clause_true values x) _ _
  where
    assoc : (a b c : Bool) → a && (b && c) ≡ (a && b) && c
    assoc true b c = refl
    assoc false b c = refl

-- the values make each gate the conjunction of its fanins
abbrev HoldsAt : (ℕ → Bool) → ℕ → ConeNode → Type 0
HoldsAt values v (Input k j) = Unit {0}
HoldsAt values v (Gate a b) = values v ≡ literal_true values a && literal_true values b

literal-negate : (values : ℕ → Bool) (l : Literal) → literal_true values (negate l) ≡ not (literal_true values l)
literal-negate values l = go (values l.var) l.positive
  where
    go : (a p : Bool) → same_sign a (not p) ≡ not (same_sign a p)
    go true true = refl
    go true false = refl
    go false true = refl
    go false false = refl

same_sign-true : (a : Bool) → same_sign a true ≡ a
same_sign-true true = refl
same_sign-true false = refl

gate_table : (g a b : Bool) → ((not g || (a || false)) && ((not g || (b || false)) && ((g || (not a || (not b || false))) && true)) ≡ true) ↔ (g ≡ a && b)
gate_table true true true = (λ h. refl, λ h. refl)
gate_table true true false = (λ h. absurd (cc), λ h. absurd (cc))
gate_table true false true = (λ h. absurd (cc), λ h. absurd (cc))
gate_table true false false = (λ h. absurd (cc), λ h. absurd (cc))
gate_table false true true = (λ h. absurd (cc), λ h. absurd (cc))
gate_table false true false = (λ h. refl, λ h. refl)
gate_table false false true = (λ h. refl, λ h. refl)
gate_table false false false = (λ h. refl, λ h. refl)

node_law : (values : ℕ → Bool) (v : ℕ) (n : ConeNode) → (satisfies values (node_clauses v n) ≡ true) ↔ HoldsAt values v n
node_law values v (Input k j) = (λ h. tt, λ h. refl)
node_law values v (Gate a b) = rw (literal-negate values (variable v), literal-negate values a, literal-negate values b, same_sign-true (values v)) (gate_table (values v) (literal_true values a) (literal_true values b))

abbrev HoldAll : (ℕ → Bool) → ℕ → List ConeNode → Type 0
HoldAll values v [] = Unit {0}
HoldAll values v (n ∷ ns) = HoldsAt values v n × HoldAll values (v + 1) ns

nodes_law : (values : ℕ → Bool) (v : ℕ) (ns : List ConeNode) → (satisfies values (all_clauses v ns) ≡ true) ↔ HoldAll values v ns
nodes_law values v [] = (λ h. tt, λ h. refl)
nodes_law values v (n ∷ ns) = (
  λ h. let p = both_true _ _ (sym (all-append values (node_clauses v n) (all_clauses (v + 1) ns)) ∙ h) in ((node_law values v n).0 p.0, (nodes_law values (v + 1) ns).0 p.1),
  λ h. all-append values (node_clauses v n) (all_clauses (v + 1) ns) ∙ rw ((node_law values v n).1 h.0, (nodes_law values (v + 1) ns).1 h.1) refl,
)

holds_at : (values : ℕ → Bool) (v : ℕ) (ns : List ConeNode) (i : ℕ) (d : ConeNode) → HoldAll values v ns → i < length ns → HoldsAt values (i + v) (slice_index_or ns i d)
holds_at values v [] i d h l = absurd (omega (arith, l))
holds_at values v (n ∷ ns) zero d h l = (let e : 0 + v ≡ v = omega arith in rw e h.0)
holds_at values v (n ∷ ns) (suc i) d h l = (let e : suc i + v ≡ i + (v + 1) = omega arith in rw e (holds_at values (v + 1) ns i d h.1 (omega (arith, l))))

all_hold : (values : ℕ → Bool) (v : ℕ) (ns : List ConeNode) (d : ConeNode) → ((i : ℕ) → i < length ns → HoldsAt values (i + v) (slice_index_or ns i d)) → HoldAll values v ns
all_hold values v [] d h = tt
all_hold values v (n ∷ ns) d h = (
  (let e : 0 + v ≡ v = omega arith in rw e at (h 0 (omega arith))),
  all_hold values (v + 1) ns d (λ i l. let e : suc i + v ≡ i + (v + 1) = omega arith in rw e at (h (suc i) (omega (arith, l)))),
)

-- where a listed tree stands
pub record Standing (done : List Edge) (e : Edge) (at : ℕ) : Type 0 where
  pub index : ℕ
  pub within : index < length done
  pub here : slice_index_or done index (constant false) ≡ e
  pub place : place at done e ≡ index + at

standing : (at : ℕ) (done : List Edge) (e : Edge) → listed_edge e done ≡ true → Standing done e at
standing at [] e h = absurd (cc)
standing at (x ∷ done) e h = by_bool (same e x)
    (λ s. record { index = 0; within = omega arith; here = sym (same-eq e x s); place = rw s (omega arith) })
    (λ s. let r = standing (at + 1) done e (rw s at h) in let l = r.within in record { index = suc r.index; within = omega (arith, l); here = r.here; place = rw s (r.place ∙ omega arith) })

firsts-from : (x : Edge) (done xs : List Edge) {P : Type 0} → listed_edge x (firsts done xs) ≡ true → (listed_edge x done ≡ true → P) → (listed_edge x xs ≡ true → P) → P
unfolding firsts
firsts-from x done [] h f g = f h
firsts-from x done (y ∷ xs) h f g = by_bool (listed_edge y done)
    (λ e. firsts-from x done xs (rw e at h) f (λ t. g (rw t (or_true (same x y)))))
    (λ e. firsts-from x (done ++ y ∷ []) xs (rw e at h)
    (λ t. listed_or (listed_edge x done) (listed_edge x (y ∷ [])) (sym (listed-append x done (y ∷ [])) ∙ t) f (λ u. g (listed-left x (y ∷ []) xs u)))
    (λ t. g (rw t (or_true (same x y)))))

-- what a walk completes, it completes with all below it
below : (e x : Edge) → listed_edge x (completions e) ≡ true → HasAll (completions e) (completions x)
unfolding completions
below (constant s) x h y t = absurd (cc)
below (input s k j) x h y t = listed_or (same x (input false k j)) false h (λ e. rw (same-eq x (input false k j) e) at t) (λ e. absurd (cc))
below (gate s l r) x h y t =
    listed_or (listed_edge x (completions l ++ completions r)) (listed_edge x (gate false l r ∷ [])) (sym (listed-append x (completions l ++ completions r) (gate false l r ∷ [])) ∙ h)
    (λ a. listed-left y (completions l ++ completions r) _ (listed_or (listed_edge x (completions l)) (listed_edge x (completions r)) (sym (listed-append x (completions l) (completions r)) ∙ a)
    (λ b. listed-left y (completions l) (completions r) (below l x b y t))
    (λ b. listed-right y (completions l) (completions r) (below r x b y t))))
    (λ a. listed_or (same x (gate false l r)) false a (λ e. rw (same-eq x (gate false l r) e) at t) (λ e. absurd (cc)))

root_settled : (e : Edge) → IsSettled (order e) e
unfolding order
root_settled e = firsts-has [] (completions e)

order_closed : (e x : Edge) → listed_edge x (order e) ≡ true → IsSettled (order e) x
unfolding order
order_closed e x h y t = firsts-from x [] (completions e) h (λ a. absurd (cc)) (λ a. firsts-has [] (completions e) y (below e x a y t))

-- what a walk completes is an input or a gate, without a sign
kinds : (e x : Edge) {P : Type 0} → listed_edge x (completions e) ≡ true → ((k j : ℕ) → x ≡ input false k j → P) → ((l r : Edge) → x ≡ gate false l r → P) → P
unfolding completions
kinds (constant s) x h f g = absurd (cc)
kinds (input s k j) x h f g = listed_or (same x (input false k j)) false h (λ e. f k j (same-eq x (input false k j) e)) (λ e. absurd (cc))
kinds (gate s l r) x h f g =
    listed_or (listed_edge x (completions l ++ completions r)) (listed_edge x (gate false l r ∷ [])) (sym (listed-append x (completions l ++ completions r) (gate false l r ∷ [])) ∙ h)
    (λ a. listed_or (listed_edge x (completions l)) (listed_edge x (completions r)) (sym (listed-append x (completions l) (completions r)) ∙ a) (λ b. kinds l x b f g) (λ b. kinds r x b f g))
    (λ a. listed_or (same x (gate false l r)) false a (λ e. g l r (same-eq x (gate false l r) e)) (λ e. absurd (cc)))

pub order_kinds : (e x : Edge) {P : Type 0} → listed_edge x (order e) ≡ true → ((k j : ℕ) → x ≡ input false k j → P) → ((l r : Edge) → x ≡ gate false l r → P) → P
unfolding order
order_kinds e x h f g = firsts-from x [] (completions e) h (λ a. absurd (cc)) (λ a. kinds e x a f g)

pub listed_at : (done : List Edge) (i : ℕ) (d : Edge) → i < length done → listed_edge (slice_index_or done i d) done ≡ true
listed_at [] i d l = absurd (omega (arith, l))
listed_at (x ∷ done) zero d l = rw (same-self x) refl
listed_at (x ∷ done) (suc i) d l = rw (listed_at done i d (omega (arith, l))) (or_true _)

-- the fanins of a settled gate are settled
left_settled : (done : List Edge) (s : Bool) (l r : Edge) → IsSettled done (gate s l r) → IsSettled done l
unfolding completions
left_settled done s l r h y t = h y (listed-left y (completions l ++ completions r) _ (listed-left y (completions l) (completions r) t))

right_settled : (done : List Edge) (s : Bool) (l r : Edge) → IsSettled done (gate s l r) → IsSettled done r
unfolding completions
right_settled done s l r h y t = h y (listed-left y (completions l ++ completions r) _ (listed-right y (completions l) (completions r) t))

itself_listed : (done : List Edge) (s : Bool) (l r : Edge) → IsSettled done (gate s l r) → listed_edge (gate false l r) done ≡ true
unfolding completions
itself_listed done s l r h = h (gate false l r) (listed-right (gate false l r) (completions l ++ completions r) (gate false l r ∷ []) (listed-one (gate false l r)))

input_listed : (done : List Edge) (s : Bool) (k j : ℕ) → IsSettled done (input s k j) → listed_edge (input false k j) done ≡ true
unfolding completions
input_listed done s k j h = h (input false k j) (listed-one (input false k j))

signed_literal : (s a : Bool) → same_sign a (not s) ≡ signed s a
signed_literal true true = refl
signed_literal true false = refl
signed_literal false true = refl
signed_literal false false = refl

signed_constant : (s : Bool) → same_sign true s ≡ signed s false
signed_constant true = refl
signed_constant false = refl

-- a literal of a tree in the list has its value, where the nodes have theirs
module _ (bits : ℕ → ℕ → Bool) (values : ℕ → Bool) (done : List Edge) (one : values 1 ≡ true) where
  abbrev NodeAt : Type 0
  NodeAt = (i : ℕ) → i < length done → values (i + 2) ≡ value bits (slice_index_or done i (constant false))

  literal_value : NodeAt → (e : Edge) → IsSettled done e → literal_true values (literal done e) ≡ value bits e
  unfolding literal value
  literal_value nodes (constant s) h = rw one (signed_constant s)
  literal_value nodes (input s k j) h =
      let r = standing 2 done (input false k j) (input_listed done s k j h) in
      let v : values (r.index + 2) ≡ bits k j = nodes r.index r.within ∙ rw r.here refl in
      rw (r.place, v) (signed_literal s (bits k j))
  literal_value nodes (gate s a b) h =
      let r = standing 2 done (gate false a b) (itself_listed done s a b h) in
      let v : values (r.index + 2) ≡ value bits a && value bits b = nodes r.index r.within ∙ rw r.here refl in
      rw (r.place, v) (signed_literal s (value bits a && value bits b))

  -- where the values make each gate the conjunction of its fanins, literals have the values of their trees
  tree_value : HoldAll values 2 (map (cone_node done) done) → ((i k j : ℕ) → i < length done → slice_index_or done i (constant false) ≡ input false k j → values (i + 2) ≡ bits k j) → (e : Edge) → IsSettled done e → literal_true values (literal done e) ≡ value bits e
  unfolding literal value cone_node
  tree_value all inputs (constant s) h = rw one (signed_constant s)
  tree_value all inputs (input s k j) h =
      let r = standing 2 done (input false k j) (input_listed done s k j h) in
      rw (r.place, inputs r.index k j r.within r.here) (signed_literal s (bits k j))
  tree_value all inputs (gate s a b) h =
      let r = standing 2 done (gate false a b) (itself_listed done s a b h) in
      let n = holds_at values 2 (map (cone_node done) done) r.index (Input 0 0) all (rw (length-map done (cone_node done)) r.within) in
      let p = tree_value all inputs a (left_settled done s a b h) in
      let q = tree_value all inputs b (right_settled done s a b h) in
      let m = get_or-map (cone_node done) done r.index (constant false) (Input 0 0) r.within in
      let v : values (r.index + 2) ≡ value bits a && value bits b = rw (m, r.here, p, q) at n in
      rw (r.place, v) (signed_literal s (value bits a && value bits b))

  -- a node whose literals have their values
  node_holds : NodeAt → (v : ℕ) (l r : Edge) → IsSettled done l → IsSettled done r → values v ≡ value bits (gate false l r) → HoldsAt values v (cone_node done (gate false l r))
  unfolding value cone_node
  node_holds nodes v l r a b h = rw (literal_value nodes l a, literal_value nodes r b) h

module _ (bits : ℕ → ℕ → Bool) (values : ℕ → Bool) (e : Edge) (extends : Extends bits e values) where
  abbrev cut : List (List Literal)
  cut = all_clauses 2 (map (cone_node (order e)) (order e))

  split : satisfies values (clauses e) ≡ true → (values 1 ≡ true) × (satisfies values cut ≡ true) × (literal_true values (literal (order e) e) ≡ true)
  unfolding clauses cone_nodes cone_root
  split h =
      let p = both_true _ _ h in
      let q = both_true _ _ (sym (all-append values cut ((literal (order e) e ∷ []) ∷ [])) ∙ p.1) in
      (alone (values 1) p.0, q.0, plain (literal_true values (literal (order e) e)) q.1)
    where
      alone : (a : Bool) → same_sign a true || false ≡ true → a ≡ true
      alone true h = refl
      alone false h = h

      plain : (a : Bool) → (a || false) && true ≡ true → a ≡ true
      plain true h = refl
      plain false h = h

  join : values 1 ≡ true → satisfies values cut ≡ true → literal_true values (literal (order e) e) ≡ true → satisfies values (clauses e) ≡ true
  unfolding clauses cone_nodes cone_root
  join a b c = rw a (all-append values cut ((literal (order e) e ∷ []) ∷ []) ∙ rw (b, c) refl)

  only_if : satisfies values (clauses e) ≡ true → AreValues bits e values × (value bits e ≡ true)
  unfolding value cone_node
  only_if h =
      let p = split h in
      let all = (nodes_law values 2 (map (cone_node (order e)) (order e))).0 p.1 in
      let tree = tree_value bits values (order e) p.0 all extends in
      (record { one = p.0; nodes = λ i l. at_node p.0 all i l }, sym (tree e (root_settled e)) ∙ p.2)
    where
      at_node : values 1 ≡ true → HoldAll values 2 (map (cone_node (order e)) (order e)) → (i : ℕ) → i < length (order e) → values (i + 2) ≡ value bits (slice_index_or (order e) i (constant false))
      at_node one all i l =
          let x = slice_index_or (order e) i (constant false) in
          let h = listed_at (order e) i (constant false) l in
          let n = holds_at values 2 (map (cone_node (order e)) (order e)) i (Input 0 0) all (rw (length-map (order e) (cone_node (order e))) l) in
          let m = get_or-map (cone_node (order e)) (order e) i (constant false) (Input 0 0) l in
          order_kinds e x h
          (λ k j q. extends i k j l q ∙ rw q refl)
          (λ a b q.
          let s = rw q at (order_closed e x h) in
          let u = tree_value bits values (order e) one all extends a (left_settled (order e) false a b s) in
          let v = tree_value bits values (order e) one all extends b (right_settled (order e) false a b s) in
          rw (m, q, u, v) at n ∙ rw q refl)

  if_so : AreValues bits e values → value bits e ≡ true → satisfies values (clauses e) ≡ true
  unfolding cone_node
  if_so are h =
      let nodes = are.nodes in
      join are.one
      ((nodes_law values 2 (map (cone_node (order e)) (order e))).1 (all_hold values 2 (map (cone_node (order e)) (order e)) (Input 0 0) at_node))
      (literal_value bits values (order e) are.one nodes e (root_settled e) ∙ h)
    where
      at_node : (i : ℕ) → i < length (map (cone_node (order e)) (order e)) → HoldsAt values (i + 2) (slice_index_or (map (cone_node (order e)) (order e)) i (Input 0 0))
      at_node i n =
          let l : i < length (order e) = rw (length-map (order e) (cone_node (order e))) at n in
          let x = slice_index_or (order e) i (constant false) in
          let t = listed_at (order e) i (constant false) l in
          let m = get_or-map (cone_node (order e)) (order e) i (constant false) (Input 0 0) l in
          order_kinds e x t
          (λ k j q. rw (m, q) (input_holds k j))
          (λ a b q.
          let s = rw q at (order_closed e x t) in
          rw (m, q) (node_holds bits values (order e) are.one are.nodes (i + 2) a b (left_settled (order e) false a b s) (right_settled (order e) false a b s) (are.nodes i l ∙ rw q refl)))
        where
          input_holds : (k j : ℕ) → HoldsAt values (i + 2) (cone_node (order e) (input false k j))
          input_holds k j = tt

-- the values of the nodes are such
at_node_value : (bits : ℕ → ℕ → Bool) (e : Edge) (i : ℕ) → node_values bits e (i + 2) ≡ value bits (slice_index_or (order e) i (constant false))
at_node_value bits e i =
    let z : nat_eq (i + 2) 1 ≡ false = grind (arith, common_steps) in
    let n : i + 2 - 2 ≡ i = omega arith in
    rw z (ap (λ k. value bits (slice_index_or (order e) k (constant false))) n)

node_values_are : (bits : ℕ → ℕ → Bool) (e : Edge) → AreValues bits e (node_values bits e)
node_values_are bits e = record { one = refl; nodes = λ i l. at_node_value bits e i }

node_values_extend : (bits : ℕ → ℕ → Bool) (e : Edge) → Extends bits e (node_values bits e)
unfolding value
node_values_extend bits e i k j l h = at_node_value bits e i ∙ ap (value bits) h

from_two : (v : ℕ) → 2 ≤ v → v - 2 + 2 ≡ v
from_two v l = omega (arith, l)

same_values : (bits : ℕ → ℕ → Bool) (e : Edge) (values : ℕ → Bool) → AreValues bits e values → (v : ℕ) → 0 < v → v ≤ variables e → values v ≡ node_values bits e v
same_values bits e values are v p l = by_bool (nat_eq v 1)
    (λ h. let o : v ≡ 1 = grind (arith, common_steps) in rw h (ap values o ∙ are.one))
    (λ h. let two : 2 ≤ v = grind (arith, common_steps) in rw h (ap values (sym (from_two v two)) ∙ are.nodes (v - 2) (omega (arith, two, l))))

pub satisfiable_exactly : (e : Edge) → SatisfiableExactly e (clauses e)
satisfiable_exactly e = record {
  extends = λ bits. node_values_extend bits e;
  where_true = λ bits h. if_so bits (node_values bits e) e (node_values_extend bits e) (node_values_are bits e) h;
  only_where_true = λ bits values extends h. (only_if bits values e extends h).1;
  in_one_way = λ bits values extends h. same_values bits e values (only_if bits values e extends h).0;
}

-- the same of the clauses of a cone
pub cone_satisfiable : (nodes : List ConeNode) (root : Literal) (cs : List (List Literal)) → cs ≡ cone_clauses nodes root → (e : Edge) → AreConeOf e nodes root → SatisfiableExactly e cs
unfolding clauses
cone_satisfiable nodes root cs are e of = rw (are, of.nodes_are, of.root_is) (satisfiable_exactly e)

-- and they are those of the edge
pub cone_edge : (nodes : List ConeNode) (root : Literal) (vars : ℕ) (cs : List (List Literal)) → vars ≡ length nodes + 1 → cs ≡ cone_clauses nodes root → (e : Edge) → AreConeOf e nodes root → (vars ≡ variables e) × (cs ≡ clauses e)
unfolding clauses cone_nodes
cone_edge nodes root vars cs count are e of = (
  count ∙ (ap (λ ns. length ns + 1) of.nodes_are ∙ ap (λ n. n + 1) (length-map (order e) (cone_node (order e)))),
  rw (are, of.nodes_are, of.root_is) refl,
)
