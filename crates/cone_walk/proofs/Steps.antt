-- The steps of a walk, by a meaning.
use Rattle.std.proofs.Common.{◌≡◌, ◌<◌, ◌≤◌, ◌+◌, ◌-◌, ◌/◌, ◌%◌, ℕ, suc, Bool, true, false, not, ◌||◌, List, [], ◌∷◌, ◌++◌, refl, sym, ◌∙◌, ap, arith, length, length-append, map, nat_eq, nat_lt, if◌then◌else◌, Option, Some, None, subst, take, get_or}
use Rattle.std.proofs.lemmas.Grind.{common_steps}
use Rattle.std.proofs.lemmas.List.{map-append, take_more, length-take-le}
use Rattle.std.proofs.lemmas.Option.{slice_get_within, get_or_from_slice_get, slice_get-get_or}
use Rattle.std.proofs.Math.Seq.{take-length}
use Rattle.std.specs.List.{slice_get}
use Rattle.std.proofs.lemmas.List.Folds.{list_any-append}
use Rattle.std.proofs.lemmas.List.Sums.{sum_by-append}
use Rattle.std.specs.List.{list_any, position_or_len}
use Rattle.gate_shape.specs.Literal.{Literal}
use Rattle.gate_shape.specs.Edge.{Edge, constant, input, gate, invert, same, gate_edge}
use Rattle.gate_shape.specs.Builds.{Meaning, edge, node_edge, with_sign, Known, OneEach}
use Rattle.gate_shape.proofs.Sameness.{same-eq, same-self}
use Rattle.sat_form.specs.Literals.{Literal as SatLiteral}
use Rattle.cone_walk.specs.declared.node.ConeNode.{ConeNode}
use Rattle.cone_walk.specs.declared.node.ConeNode.TheVariants.{Input, Gate as GateNode}
use Rattle.cone_walk.specs.declared.walk.Frame.{Frame}
use Rattle.cone_walk.specs.declared.walk.Stage.{Stage}
use Rattle.cone_walk.specs.declared.walk.Stage.TheVariants.{Begun, Asks, Done, Failed}
use Rattle.cone_walk.specs.Order.{order, completions, listed_edge, unsigned}
use Rattle.cone_walk.specs.Cone.{cone_node, cone_nodes, cone_root, literal, place}
use Rattle.cone_walk.specs.Numbered.{Numbered, is_numbered, with_node, with_input, input_node, numbered_literal, gates_in}
use Rattle.cone_walk.specs.Visits.{HasAll, IsSettled, IsClosed, Visits}
use Rattle.cone_walk.specs.Walk.{IsAnswer, AreAnswers, open_nodes, AllNodes, Walks, Closes, Wants, IsReply, asked_now, opened}
use Rattle.cone_walk.proofs.Trees.{listed_or, by_bool, listed-left, listed-right, listed-one, visit_left, visit_right, visit_root, IsReady, ready_input, ready_gate, complete, settled_by, settled_constant, arrived, set_out, ahead_in_order, own_completion}
use Rattle.cone_walk.proofs.Numberings.{unnumbered}

abbrev node_literal : ℕ → Literal
node_literal n = record { node = n; sign = false }

pub nat_eq-eq : (a b : ℕ) → nat_eq a b ≡ true → a ≡ b
nat_eq-eq a b h = grind (arith, common_steps)

pub nat_eq-self : (a : ℕ) → nat_eq a a ≡ true
nat_eq-self a = grind (arith, common_steps)

-- nodes are equal exactly where their trees are
same_nodes : (m : Meaning) → OneEach m → (a b : ℕ) → Known m (node_literal a) → Known m (node_literal b) → same (node_edge m a) (node_edge m b) ≡ nat_eq a b
unfolding edge
same_nodes m one a b ka kb = by_bool (nat_eq a b)
    (λ h. rw h (rw (nat_eq-eq a b h) (same-self (node_edge m b))))
    (λ h. rw h (by_bool (same (node_edge m a) (node_edge m b)) (λ s. let q : a ≡ b = ap (λ l. l.node) (one (node_literal a) (node_literal b) ka kb (same-eq _ _ s)) in absurd (grind (arith, common_steps))) (λ s. s)))

pub or_true : (a : Bool) → a || true ≡ true
or_true true = refl
or_true false = refl

known_tail : (m : Meaning) (x : ℕ) (ns : List ℕ) → AllNodes m (x ∷ ns) → AllNodes m ns
known_tail m x ns k n h = k n (rw h (or_true (nat_eq n x)))

known_head : (m : Meaning) (x : ℕ) (ns : List ℕ) → AllNodes m (x ∷ ns) → Known m (node_literal x)
known_head m x ns k = k x (rw (nat_eq-self x) refl)

listed_number : (m : Meaning) → OneEach m → (ns : List ℕ) (n : ℕ) → AllNodes m ns → Known m (node_literal n) → listed_edge (node_edge m n) (map (node_edge m) ns) ≡ list_any (nat_eq n) ns
listed_number m one [] n k kn = refl
listed_number m one (x ∷ ns) n k kn = rw (same_nodes m one n x kn (known_head m x ns k), listed_number m one ns n (known_tail m x ns k) kn) refl

place_number : (m : Meaning) → OneEach m → (at : ℕ) (ns : List ℕ) (n : ℕ) → AllNodes m ns → Known m (node_literal n) → place at (map (node_edge m) ns) (node_edge m n) ≡ at + position_or_len (nat_eq n) ns
place_number m one at [] n k kn = omega arith
place_number m one at (x ∷ ns) n k kn =
    rw (same_nodes m one n x kn (known_head m x ns k)) (by_bool (nat_eq n x) (λ h. rw h (omega arith)) (λ h. rw h (place_number m one (at + 1) ns n (known_tail m x ns k) kn ∙ omega arith)))

unsigned-invert : (e : Edge) → unsigned (invert e) ≡ unsigned e
unsigned-invert (constant s) = refl
unsigned-invert (input s k j) = refl
unsigned-invert (gate s l r) = refl

unsigned-with_sign : (s : Bool) (e : Edge) → unsigned (with_sign s e) ≡ unsigned e
unsigned-with_sign true e = unsigned-invert e
unsigned-with_sign false e = refl

-- the three kinds of nodes
pub by_node : (m : Meaning) (n : ℕ) {P : Type 0} → (n ≡ 0 → node_edge m n ≡ constant false → P) → (0 < n → n < 8193 → node_edge m n ≡ input false ((n - 1) / 128) ((n - 1) % 128) → P) → (8193 ≤ n → node_edge m n ≡ gate_edge (m.gate_at (n - 8193)) → P) → P
by_node m n f g h = by_bool (nat_lt n 1)
    (λ a. f (grind (arith, common_steps)) (rw a refl))
    (λ a. by_bool (nat_lt n 8193) (λ b. g (grind (arith, common_steps)) (grind (arith, common_steps)) (rw (a, b) refl)) (λ b. h (grind (arith, common_steps)) (rw (a, b) refl)))

unsigned-node : (m : Meaning) (n : ℕ) → unsigned (node_edge m n) ≡ node_edge m n
unsigned-node m n = by_node m n (λ a e. rw e refl) (λ a b e. rw e refl) (λ a e. rw e refl)

pub unsigned-edge : (m : Meaning) (l : Literal) → unsigned (edge m l) ≡ node_edge m l.node
unfolding edge
unsigned-edge m l = unsigned-with_sign l.sign (node_edge m l.node) ∙ unsigned-node m l.node

edges_of : Meaning → List ℕ → List Edge
edges_of m ns = map (node_edge m) ns

pub known_node : (m : Meaning) (l : Literal) → Known m l → Known m (node_literal l.node)
known_node m l k = record { holds = k.holds }

-- a literal whose node has a variable is settled
pub settled : (m : Meaning) (start : Literal) (d : Numbered) (path : List Frame) (asked : List ℕ) (l : Literal) → Walks m start d path asked → Known m l → is_numbered d l.node ≡ true → IsSettled (map (node_edge m) d.numbers) (edge m l)
unfolding edge
settled m start d path asked l w k h = listed_or (nat_eq l.node 0) (list_any (nat_eq l.node) d.numbers) h
    (λ z. by_node m l.node (λ a e. rw e (at_zero l.sign)) (λ a b e. absurd (grind (arith, common_steps))) (λ a e. absurd (grind (arith, common_steps))))
    (λ t. settled_by _ (edge m l) w.visits.closed (rw (unsigned-edge m l, listed_number m w.one_each d.numbers l.node w.known (known_node m l k)) t))
  where
    at_zero : (s : Bool) → IsSettled (map (node_edge m) d.numbers) (with_sign s (constant false))
    at_zero true = settled_constant _ true
    at_zero false = settled_constant _ false

unlisted : (m : Meaning) (start : Literal) (d : Numbered) (path : List Frame) (asked : List ℕ) (l : Literal) → Walks m start d path asked → Known m l → is_numbered d l.node ≡ false → listed_edge (unsigned (edge m l)) (map (node_edge m) d.numbers) ≡ false
unlisted m start d path asked l w k h = rw (unsigned-edge m l, listed_number m w.one_each d.numbers l.node w.known (known_node m l k)) (unnumbered d.numbers d.nodes l.node h).1

pub open_push : (path : List Frame) (f : Frame) (more : List ℕ) → open_nodes (path ++ f ∷ []) more ≡ f.gate.node ∷ open_nodes path more
open_push [] f more = refl
open_push (g ∷ path) f more = open_push path f (g.gate.node ∷ more)

last_answer : (m : Meaning) (path : List Frame) (f : Frame) → AreAnswers m (path ++ f ∷ []) → IsAnswer m f.gate.node f.left f.right
last_answer m [] f a = a.0
last_answer m (g ∷ path) f a = last_answer m path f a.1

first_answers : (m : Meaning) (path : List Frame) (f : Frame) → AreAnswers m (path ++ f ∷ []) → AreAnswers m path
first_answers m [] f a = tt
first_answers m (g ∷ path) f a = (a.0, first_answers m path f a.1)

push_answers : (m : Meaning) (path : List Frame) (f : Frame) → AreAnswers m path → IsAnswer m f.gate.node f.left f.right → AreAnswers m (path ++ f ∷ [])
push_answers m [] f a b = (b, tt)
push_answers m (g ∷ path) f a b = (a.0, push_answers m path f a.1 b)

gate_of_answer : (m : Meaning) (n : ℕ) (l r : Literal) → IsAnswer m n l r → node_edge m n ≡ gate false (edge m l) (edge m r)
gate_of_answer m n l r a = by_node m n (λ z e. let b = a.gate in absurd (omega arith)) (λ z b e. let c = a.gate in absurd (omega arith)) (λ z e. e ∙ rw a.fanins refl)

-- the walk without the first of `asked`, by other visits
turned : (m : Meaning) (start : Literal) (d : Numbered) (path : List Frame) (l : Literal) → Walks m start d path [] → Known m l → Visits (map (node_edge m) d.numbers) (node_edge m l.node ∷ map (node_edge m) (open_nodes path [])) (edge m start) → Walks m start d path (l.node ∷ [])
turned m start d path l w k v = record {
  root = w.root;
  one_each = w.one_each;
  known = w.known;
  answers = w.answers;
  asked_known = λ n h. listed_or (nat_eq n l.node) false h (λ e. rw (nat_eq-eq n l.node e) (known_node m l k)) (λ e. absurd (cc));
  nodes = w.nodes;
  visits = v;
}

pub turn_left : (m : Meaning) (start : Literal) (d : Numbered) (path : List Frame) (f : Frame) → Walks m start d (path ++ f ∷ []) [] → is_numbered d f.left.node ≡ false → Walks m start d (path ++ f ∷ []) (f.left.node ∷ [])
turn_left m start d path f w h =
    let a = last_answer m path f w.answers in
    let g = gate_of_answer m f.gate.node f.left f.right a in
    let v = rw (open_push path f [], g) at w.visits in
    turned m start d (path ++ f ∷ []) f.left w a.left_known (rw (open_push path f [], g, sym (unsigned-edge m f.left)) (visit_left _ _ _ _ _ v (unlisted m start d (path ++ f ∷ []) [] f.left w a.left_known h)))

pub turn_right : (m : Meaning) (start : Literal) (d : Numbered) (path : List Frame) (f : Frame) → Walks m start d (path ++ f ∷ []) [] → is_numbered d f.left.node ≡ true → is_numbered d f.right.node ≡ false → Walks m start d (path ++ f ∷ []) (f.right.node ∷ [])
turn_right m start d path f w s h =
    let a = last_answer m path f w.answers in
    let g = gate_of_answer m f.gate.node f.left f.right a in
    let v = rw (open_push path f [], g) at w.visits in
    turned m start d (path ++ f ∷ []) f.right w a.right_known (rw (open_push path f [], g, sym (unsigned-edge m f.right)) (visit_right _ _ _ _ _ v (settled m start d (path ++ f ∷ []) [] f.left w a.left_known s) (unlisted m start d (path ++ f ∷ []) [] f.right w a.right_known h)))

pub turn_root : (m : Meaning) (start : Literal) (d : Numbered) → Walks m start d [] [] → is_numbered d start.node ≡ false → Walks m start d [] (start.node ∷ [])
turn_root m start d w h =
    turned m start d [] start w w.root (rw (sym (unsigned-edge m start)) (visit_root _ _ w.visits (unlisted m start d [] [] start w w.root h)))

-- a tree that is listed keeps its place
place-more : (at : ℕ) (done : List Edge) (x e : Edge) → listed_edge e done ≡ true → place at (done ++ x ∷ []) e ≡ place at done e
place-more at [] x e h = absurd (cc)
place-more at (y ∷ done) x e h = by_bool (same e y) (λ s. rw s refl) (λ s. rw s (place-more (at + 1) done x e (rw s at h)))

own_node : (e : Edge) {P : Type 0} → ((s : Bool) → e ≡ constant s → P) → (listed_edge (unsigned e) (completions e) ≡ true → P) → P
unfolding completions
own_node (constant s) f g = f s refl
own_node (input s k j) f g = g (listed-one (input false k j))
own_node (gate s l r) f g = g (listed-right (gate false l r) (completions l ++ completions r) (gate false l r ∷ []) (listed-one (gate false l r)))

literal-more : (done : List Edge) (x e : Edge) → IsSettled done e → literal (done ++ x ∷ []) e ≡ literal done e
unfolding literal completions
literal-more done x (constant s) h = refl
literal-more done x (input s k j) h = rw (place-more 2 done x (input false k j) (h _ (listed-one (input false k j)))) refl
literal-more done x (gate s l r) h = rw (place-more 2 done x (gate false l r) (h _ (listed-right (gate false l r) (completions l ++ completions r) (gate false l r ∷ []) (listed-one (gate false l r))))) refl

node-more : (done : List Edge) (x e : Edge) → IsSettled done e → cone_node (done ++ x ∷ []) e ≡ cone_node done e
unfolding cone_node completions
node-more done x (constant s) h = refl
node-more done x (input s k j) h = refl
node-more done x (gate s l r) h = rw (
  literal-more done x l (λ y t. h y (listed-left y (completions l ++ completions r) _ (listed-left y (completions l) (completions r) t))),
  literal-more done x r (λ y t. h y (listed-left y (completions l ++ completions r) _ (listed-right y (completions l) (completions r) t))),
) refl

nodes-more : (done : List Edge) (x : Edge) → IsClosed done → (es : List Edge) → HasAll done es → map (cone_node (done ++ x ∷ [])) es ≡ map (cone_node done) es
nodes-more done x c [] h = refl
nodes-more done x c (e ∷ es) h = rw (node-more done x e (c e (h e (rw (same-self e) refl))), nodes-more done x c es (λ y t. h y (rw t (or_true (same y e))))) refl

with-new : (d : Numbered) (n : ℕ) (node : ConeNode) → is_numbered d n ≡ false → with_node d n node ≡ record { numbers = d.numbers ++ n ∷ []; nodes = d.nodes ++ node ∷ [] }
with-new d n node h = rw h refl

with-old : (d : Numbered) (n : ℕ) (node : ConeNode) → is_numbered d n ≡ true → with_node d n node ≡ d
with-old d n node h = rw h refl

-- the innermost node gets its variable
pub walk_completes : (m : Meaning) (start : Literal) (d : Numbered) (path : List Frame) (n : ℕ) (node : ConeNode) → Walks m start d path (n ∷ []) → is_numbered d n ≡ false → IsReady (map (node_edge m) d.numbers) (node_edge m n) → node ≡ cone_node (map (node_edge m) d.numbers ++ node_edge m n ∷ []) (node_edge m n) → Walks m start (with_node d n node) path []
walk_completes m start d path n node w h r e =
    let done : List Edge = map (node_edge m) d.numbers in
    let more : map (node_edge m) (d.numbers ++ n ∷ []) ≡ done ++ node_edge m n ∷ [] = map-append (node_edge m) d.numbers (n ∷ []) in
    rw (with-new d n node h) record {
      root = w.root;
      one_each = w.one_each;
      known = λ k t. listed_or (list_any (nat_eq k) d.numbers) (list_any (nat_eq k) (n ∷ [])) (sym (list_any-append (nat_eq k) d.numbers (n ∷ [])) ∙ t) (w.known k) (w.asked_known k);
      answers = w.answers;
      asked_known = λ k t. absurd (cc);
      nodes = rw more (rw (map-append (cone_node (done ++ node_edge m n ∷ [])) done (node_edge m n ∷ []), nodes-more done (node_edge m n) w.visits.closed done (λ x t. t), w.nodes, e) refl);
      visits = rw more (complete done (map (node_edge m) (open_nodes path [])) (node_edge m n) (edge m start) w.visits r);
    }

contrary : {P : Type 0} {b : Bool} → b ≡ true → b ≡ false → P
contrary h g = absurd (cc)

input-old : (d : Numbered) (n : ℕ) → is_numbered d n ≡ true → with_input d n ≡ d
input-old d n h = by_bool (nat_lt n 8193) (λ a. rw (a, h) refl) (λ a. rw a refl)

input-new : (d : Numbered) (n : ℕ) → n < 8193 → with_input d n ≡ with_node d n (input_node n)
input-new d n l = let a : nat_lt n 8193 ≡ true = grind (arith, common_steps) in rw a refl

input-gate : (d : Numbered) (n : ℕ) → 8193 ≤ n → with_input d n ≡ d
input-gate d n l = let a : nat_lt n 8193 ≡ false = grind (arith, common_steps) in rw a refl

zero_numbered : (d : Numbered) (n : ℕ) → n ≡ 0 → is_numbered d n ≡ true
zero_numbered d n z = rw z refl

new_numbered : (d : Numbered) (n : ℕ) (node : ConeNode) → is_numbered d n ≡ false → is_numbered (with_node d n node) n ≡ true
new_numbered d n node h = rw (with-new d n node h) (rw (list_any-append (nat_eq n) d.numbers (n ∷ []), nat_eq-self n) (over (nat_eq n 0) (list_any (nat_eq n) d.numbers)))
  where
    over : (a b : Bool) → a || (b || true) ≡ true
    over true b = refl
    over false b = or_true b

at_input : (done : List Edge) (k j : ℕ) → Input k j ≡ cone_node done (input false k j)
unfolding cone_node
at_input done k j = refl

gates-input : (nodes : List ConeNode) (k j : ℕ) → gates_in (nodes ++ Input k j ∷ []) ≡ gates_in nodes
gates-input nodes k j = sum_by-append _ nodes (Input k j ∷ []) ∙ omega arith

gates-gate : (nodes : List ConeNode) (a b : SatLiteral) → gates_in (nodes ++ GateNode a b ∷ []) ≡ gates_in nodes + 1
gates-gate nodes a b = sum_by-append _ nodes (GateNode a b ∷ [])

-- what a walk has done behind a look at a literal
pub record Reaches (m : Meaning) (start : Literal) (d new : Numbered) (path : List Frame) (l : Literal) : Type 0 where
  pub there : is_numbered new l.node ≡ true → Walks m start new path []
  pub wanted : is_numbered new l.node ≡ false → Walks m start new path (l.node ∷ []) × (8193 ≤ l.node)
  pub gates : gates_in new.nodes ≡ gates_in d.nodes

pub walk_reaches : (m : Meaning) (start : Literal) (d : Numbered) (path : List Frame) (l : Literal) → Walks m start d path [] → (is_numbered d l.node ≡ false → Walks m start d path (l.node ∷ [])) → Reaches m start d (with_input d l.node) path l
walk_reaches m start d path l w turn = by_bool (is_numbered d l.node)
    (λ h. rw (input-old d l.node h) record { there = λ t. w; wanted = λ t. contrary h t; gates = refl })
    (λ h. by_node m l.node
    (λ z e. contrary (zero_numbered d l.node z) h)
    (λ z s e. rw (input-new d l.node s) record {
      there = λ t. walk_completes m start d path l.node (input_node l.node) (turn h) h (rw e (ready_input _ _ _)) (rw e (at_input _ _ _));
      wanted = λ t. contrary (new_numbered d l.node (input_node l.node) h) t;
      gates = rw (with-new d l.node (input_node l.node) h) (gates-input d.nodes _ _);
    })
    (λ z e. rw (input-gate d l.node z) record { there = λ t. contrary t h; wanted = λ t. (turn h, z); gates = refl }))

-- the literal of a node that has a variable
at_constant : (done : List Edge) (s : Bool) → literal done (with_sign s (constant false)) ≡ record { var = 1; positive = s }
unfolding literal
at_constant done true = refl
at_constant done false = refl

at_signed_input : (done : List Edge) (s : Bool) (k j : ℕ) → literal done (with_sign s (input false k j)) ≡ record { var = place 2 done (input false k j); positive = not s }
unfolding literal
at_signed_input done true k j = refl
at_signed_input done false k j = refl

at_signed_gate : (done : List Edge) (s : Bool) (l r : Edge) → literal done (with_sign s (gate false l r)) ≡ record { var = place 2 done (gate false l r); positive = not s }
unfolding literal
at_signed_gate done true l r = refl
at_signed_gate done false l r = refl

pub literal_is : (m : Meaning) (start : Literal) (d : Numbered) (path : List Frame) (asked : List ℕ) (l : Literal) → Walks m start d path asked → Known m l → numbered_literal d l ≡ literal (map (node_edge m) d.numbers) (edge m l)
unfolding edge
literal_is m start d path asked l w k =
    let done : List Edge = map (node_edge m) d.numbers in
    let p : place 2 done (node_edge m l.node) ≡ 2 + position_or_len (nat_eq l.node) d.numbers = place_number m w.one_each 2 d.numbers l.node w.known (known_node m l k) in
    by_node m l.node
    (λ z e. rw e (rw z refl ∙ sym (at_constant done l.sign)))
    (λ z s e. rw e (rw (not_zero_number l.node z, sym p, e) refl ∙ sym (at_signed_input done l.sign _ _)))
    (λ z e. rw e (rw (not_zero_number l.node (omega arith), sym p, e) refl ∙ sym (at_signed_gate done l.sign _ _)))
  where
    not_zero_number : (n : ℕ) → 0 < n → nat_eq n 0 ≡ false
    not_zero_number n h = grind (arith, common_steps)

wanted_some : (b : Bool) (x y : Literal) → (if b then None else Some x) ≡ Some y → (b ≡ false) × (x ≡ y)
wanted_some true x y h = absurd (cc)
wanted_some false x y h = (refl, cc)

pub wanted_none : (b : Bool) (x : Literal) → (if b then None else Some x) ≡ None → b ≡ true
wanted_none true x h = refl
wanted_none false x h = absurd (cc)

reach_left : (m : Meaning) (start : Literal) (d : Numbered) (path : List Frame) (f : Frame) → Walks m start d (path ++ f ∷ []) [] → Reaches m start d (with_input d f.left.node) (path ++ f ∷ []) f.left
reach_left m start d path f w = walk_reaches m start d (path ++ f ∷ []) f.left w (turn_left m start d path f w)

reach_right : (m : Meaning) (start : Literal) (d : Numbered) (path : List Frame) (f : Frame) → Walks m start d (path ++ f ∷ []) [] → is_numbered d f.left.node ≡ true → Reaches m start d (with_input d f.right.node) (path ++ f ∷ []) f.right
reach_right m start d path f w s = walk_reaches m start d (path ++ f ∷ []) f.right w (turn_right m start d path f w s)

-- a node keeps its variable
input_keeps : (d : Numbered) (n k : ℕ) → is_numbered d k ≡ true → is_numbered (with_input d n) k ≡ true
input_keeps d n k h = by_bool (nat_lt n 8193)
    (λ a. by_bool (is_numbered d n)
    (λ b. rw (a, b) h)
    (λ b. rw (a, b, list_any-append (nat_eq k) d.numbers (n ∷ [])) (listed_or (nat_eq k 0) (list_any (nat_eq k) d.numbers) h (λ t. rw t refl) (λ t. rw t (or_true (nat_eq k 0))))))
    (λ a. rw a h)

-- the innermost gate waits for its left fanin
pub closes_left : (m : Meaning) (start : Literal) (path : List Frame) (f : Frame) (d new : Numbered) (r : Option Literal) (l : Literal) → Walks m start d (path ++ f ∷ []) [] → new ≡ with_input d f.left.node → r ≡ (if is_numbered new f.left.node then None else Some f.left) → r ≡ Some l → Closes m start path f d new (Some l)
closes_left m start path f d new r l w n e q =
    let z = wanted_some _ _ _ (sym e ∙ q) in
    let a = reach_left m start d path f w in
    let t = a.wanted (rw n at z.0) in
    rw (n, sym z.1) (t.0, t.1, a.gates)

-- or for its right one
pub closes_right : (m : Meaning) (start : Literal) (path : List Frame) (f : Frame) (d more new : Numbered) (r : Option Literal) (l : Literal) → Walks m start d (path ++ f ∷ []) [] → more ≡ with_input d f.left.node → is_numbered more f.left.node ≡ true → new ≡ with_input more f.right.node → r ≡ (if is_numbered new f.right.node then None else Some f.right) → r ≡ Some l → Closes m start path f d new (Some l)
closes_right m start path f d more new r l w n s k e q =
    let z = wanted_some _ _ _ (sym e ∙ q) in
    let a = reach_left m start d path f w in
    let b = reach_right m start more path f (rw (sym n) at (a.there (rw n at s))) s in
    let t = b.wanted (rw k at z.0) in
    rw (k, sym z.1) (t.0, t.1, b.gates ∙ rw n a.gates)

-- the innermost gate as what is asked for
as_asked : (m : Meaning) (start : Literal) (d : Numbered) (path : List Frame) (f : Frame) → Walks m start d (path ++ f ∷ []) [] → Walks m start d path (f.gate.node ∷ [])
as_asked m start d path f w =
    let a = last_answer m path f w.answers in
    record {
      root = w.root;
      one_each = w.one_each;
      known = w.known;
      answers = first_answers m path f w.answers;
      asked_known = λ n h. listed_or (nat_eq n f.gate.node) false h (λ e. rw (nat_eq-eq n f.gate.node e) a.known) (λ e. absurd (cc));
      nodes = w.nodes;
      visits = rw (open_push path f []) at w.visits;
    }

-- the first of those asked for has no variable
asked_new : (m : Meaning) (start : Literal) (d : Numbered) (path : List Frame) (n : ℕ) → Walks m start d path (n ∷ []) → 0 < n → is_numbered d n ≡ false
asked_new m start d path n w p =
    let k = w.asked_known n (rw (nat_eq-self n) refl) in
    let h : listed_edge (node_edge m n) (map (node_edge m) d.numbers) ≡ false = w.visits.absent (node_edge m n) (rw (same-self (node_edge m n)) refl) in
    let z : nat_eq n 0 ≡ false = grind (arith, common_steps) in
    rw (z, sym (listed_number m w.one_each d.numbers n w.known k)) h

at_gate : (done : List Edge) (x l r : Edge) → IsSettled done l → IsSettled done r → GateNode (literal done l) (literal done r) ≡ cone_node (done ++ x ∷ []) (gate false l r)
unfolding cone_node
at_gate done x l r a b = rw (literal-more done x l a, literal-more done x r b) refl

gate_closes : (m : Meaning) (start : Literal) (path : List Frame) (f : Frame) (d : Numbered) → Walks m start d (path ++ f ∷ []) [] → is_numbered d f.left.node ≡ true → is_numbered d f.right.node ≡ true → {count : ℕ} → gates_in d.nodes ≡ count → Walks m start (with_node d f.gate.node (GateNode (numbered_literal d f.left) (numbered_literal d f.right))) path [] × (gates_in (with_node d f.gate.node (GateNode (numbered_literal d f.left) (numbered_literal d f.right))).nodes ≡ count + 1)
gate_closes m start path f d w s t {count} c =
    let a = last_answer m path f w.answers in
    let p : 0 < f.gate.node = let b = a.gate in omega arith in
    let v = as_asked m start d path f w in
    let h = asked_new m start d path f.gate.node v p in
    let g = gate_of_answer m f.gate.node f.left f.right a in
    let x = settled m start d (path ++ f ∷ []) [] f.left w a.left_known s in
    let y = settled m start d (path ++ f ∷ []) [] f.right w a.right_known t in
    let i = literal_is m start d (path ++ f ∷ []) [] f.left w a.left_known in
    let j = literal_is m start d (path ++ f ∷ []) [] f.right w a.right_known in (
      walk_completes m start d path f.gate.node _ v h (rw g (ready_gate _ _ _ x y)) (rw (g, i, j) (at_gate _ _ _ _ x y)),
      rw (with-new d f.gate.node (GateNode (numbered_literal d f.left) (numbered_literal d f.right)) h) (gates-gate d.nodes _ _ ∙ rw c refl),
    )

-- or it is done
pub closes_gate : (m : Meaning) (start : Literal) (path : List Frame) (f : Frame) (d more both new : Numbered) → Walks m start d (path ++ f ∷ []) [] → more ≡ with_input d f.left.node → is_numbered more f.left.node ≡ true → both ≡ with_input more f.right.node → is_numbered both f.right.node ≡ true → new ≡ with_node both f.gate.node (GateNode (numbered_literal both f.left) (numbered_literal both f.right)) → Closes m start path f d new None
closes_gate m start path f d more both new w n s k t e =
    let a = reach_left m start d path f w in
    let x = rw (sym n) at (a.there (rw n at s)) in
    let b = reach_right m start more path f x s in
    let y : Walks m start both (path ++ f ∷ []) [] = rw (sym k) at (b.there (rw k at t)) in
    let u : is_numbered both f.left.node ≡ true = rw k (input_keeps more f.right.node f.left.node s) in
    let g : gates_in both.nodes ≡ gates_in d.nodes = rw k (b.gates ∙ rw n a.gates) in
    rw e (gate_closes m start path f both y u t g)

-- a walk begins
pub walk_begins : (m : Meaning) (start : Literal) → Known m start → OneEach m → Walks m start record { numbers = []; nodes = [] } [] []
walk_begins m start k o = record {
  root = k;
  one_each = o;
  known = λ n h. absurd (cc);
  answers = tt;
  asked_known = λ n h. absurd (cc);
  nodes = refl;
  visits = set_out (edge m start);
}

-- at the end what is done is all
pub all_done : (m : Meaning) (start : Literal) (d : Numbered) → Walks m start d [] [] → is_numbered d start.node ≡ true → map (node_edge m) d.numbers ≡ order (edge m start)
all_done m start d w h = arrived _ (edge m start) w.visits (settled m start d [] [] start w w.root h)

pub cone_at_end : (m : Meaning) (start : Literal) (d : Numbered) → Walks m start d [] [] → is_numbered d start.node ≡ true → (d.nodes ≡ cone_nodes (edge m start)) × (numbered_literal d start ≡ cone_root (edge m start))
unfolding cone_nodes cone_root
cone_at_end m start d w h =
    let e = all_done m start d w h in
    (w.nodes ∙ rw e refl, literal_is m start d [] [] start w w.root ∙ rw e refl)

-- behind the last gate the walk wants its root
pub walk_ends : (m : Meaning) (start : Literal) (d new : Numbered) (path : List Frame) (k : ℕ) (r : Option Literal) → path ≡ [] → Walks m start d path [] → gates_in d.nodes + length path ≡ k → new ≡ with_input d start.node → r ≡ (if is_numbered new start.node then None else Some start) → Wants m start new path k r
walk_ends m start d new path k (Some l) p w g n e =
    let x : Walks m start d [] [] = rw p at w in
    let z = wanted_some _ _ _ (sym e) in
    let a = walk_reaches m start d [] start x (turn_root m start d x) in
    let t = a.wanted (rw n at z.0) in
    let b = a.gates in
    rw (p, n, sym z.1) (t.0, t.1, ap (λ c. c + 0) b ∙ rw p at g)
walk_ends m start d new path k None p w g n e =
    let x : Walks m start d [] [] = rw p at w in
    let z = wanted_none _ _ (sym e) in
    let a = walk_reaches m start d [] start x (turn_root m start d x) in
    let b = a.gates in
    rw (p, n) (a.there (rw n at z), ap (λ c. c + 0) b ∙ rw p at g)

no_top : (path : List Frame) → slice_get path (length path - 1) ≡ None → path ≡ []
no_top [] h = refl
no_top (f ∷ path) h = let l : suc (length path) - 1 < suc (length path) = omega arith in absurd (none_some (sym h ∙ slice_get-get_or (f ∷ path) (suc (length path) - 1) f l))
  where
    none_some : {x : Frame} → None ≡ Some x → ⊥
    none_some e = cc

pub nothing_open : (path : List Frame) → slice_get path (length path - 1) ≡ None → path ≡ []
nothing_open = no_top

-- the walk opens the gate that it asked for
pub walk_opens : (m : Meaning) (start : Literal) (d : Numbered) (path : List Frame) (f : Frame) → Walks m start d path (f.gate.node ∷ []) → IsAnswer m f.gate.node f.left f.right → Walks m start d (path ++ f ∷ []) []
walk_opens m start d path f w a = record {
  root = w.root;
  one_each = w.one_each;
  known = w.known;
  answers = push_answers m path f w.answers a;
  asked_known = λ n h. absurd (cc);
  nodes = w.nodes;
  visits = rw (open_push path f []) w.visits;
}

-- the innermost open gate
pub top_of : (path : List Frame) (f : Frame) → slice_get path (length path - 1) ≡ Some f → path ≡ take (length path - 1) path ++ f ∷ []
top_of path f h =
    let l : length path - 1 < length path = slice_get_within path (length path - 1) f h in
    let e : length path - 1 + 1 ≡ length path = omega (arith, l) in
    let t : take (length path - 1 + 1) path ≡ take (length path - 1) path ++ get_or path (length path - 1) f ∷ [] = take_more path (length path - 1) f l in
    let g : get_or path (length path - 1) f ≡ f = get_or_from_slice_get path (length path - 1) f f h in
    sym (ap (λ n. take n path) e ∙ take-length path) ∙ (t ∙ ap (λ x. take (length path - 1) path ++ x ∷ []) g)

length_top : (path : List Frame) (f : Frame) → slice_get path (length path - 1) ≡ Some f → length (take (length path - 1) path) + 1 ≡ length path
length_top path f h =
    let l : length path - 1 < length path = slice_get_within path (length path - 1) f h in
    let t = length-take-le (length path - 1) path (omega (arith, l)) in
    omega (arith, t, l)

pub top_waits : (m : Meaning) (start : Literal) (d new : Numbered) (path : List Frame) (f : Frame) (l : Literal) → slice_get path (length path - 1) ≡ Some f → Walks m start d path [] → ((before : List Frame) → Walks m start d (before ++ f ∷ []) [] → Closes m start before f d new (Some l)) → Walks m start new path (l.node ∷ []) × (8193 ≤ l.node) × (gates_in new.nodes ≡ gates_in d.nodes)
top_waits m start d new path f l h w c =
    let e = top_of path f h in
    let P : List Frame → Type 0 = λ p. Walks m start d p [] in
    let Q : List Frame → Type 0 = λ p. Walks m start new p (l.node ∷ []) in
    let r = c (take (length path - 1) path) (subst P e w) in
    (subst Q (sym e) r.0, r.1, r.2)

pub top_done : (m : Meaning) (start : Literal) (d new : Numbered) (path : List Frame) (f : Frame) → slice_get path (length path - 1) ≡ Some f → Walks m start d path [] → ((before : List Frame) → Walks m start d (before ++ f ∷ []) [] → Closes m start before f d new None) → Walks m start new (take (length path - 1) path) [] × (gates_in new.nodes + length (take (length path - 1) path) ≡ gates_in d.nodes + length path)
top_done m start d new path f h w c =
    let P : List Frame → Type 0 = λ p. Walks m start d p [] in
    let r = c (take (length path - 1) path) (subst P (top_of path f h) w) in
    let n = length_top path f h in
    let g = r.1 in
    (r.0, omega (arith, n, g))

pub walk_opened : (m : Meaning) (start : Literal) (d : Numbered) (path : List Frame) (stage : Stage) (fanins : Option (Literal × Literal)) → Walks m start d path (asked_now stage) → IsReply m stage fanins → Walks m start d (opened path stage fanins) [] × (gates_in d.nodes + length (opened path stage fanins) ≡ gates_in d.nodes + length path + length (asked_now stage))
walk_opened m start d path (Asks l) (Some p) w r = (walk_opens m start d path record { gate = l; left = p.0; right = p.1 } w r, simp length-append (omega arith))
walk_opened m start d path (Asks l) None w r = absurd r
walk_opened m start d path Begun (Some p) w r = absurd r
walk_opened m start d path Begun None w r = (w, omega arith)
walk_opened m start d path Done (Some p) w r = absurd r
walk_opened m start d path Done None w r = (w, omega arith)
walk_opened m start d path Failed (Some p) w r = absurd r
walk_opened m start d path Failed None w r = (w, omega arith)

-- a gate that is asked for is one of the cone
pub asked_in_cone : (m : Meaning) (start : Literal) (d : Numbered) (path : List Frame) (n : ℕ) → Walks m start d path (n ∷ []) → 8193 ≤ n → listed_edge (node_edge m n) (order (edge m start)) ≡ true
asked_in_cone m start d path n w l =
    by_node m n (λ z e. absurd (omega arith)) (λ z s e. absurd (omega arith))
    (λ z e. ahead_in_order _ _ (node_edge m n) (edge m start) w.visits (rw e (own_completion _ _)))

-- it isn't done
pub asked_not_done : (m : Meaning) (start : Literal) (d : Numbered) (path : List Frame) (n : ℕ) → Walks m start d path (n ∷ []) → 0 < n → list_any (nat_eq n) d.numbers ≡ false
asked_not_done m start d path n w p = (unnumbered d.numbers d.nodes n (asked_new m start d path n w p)).1

-- and it isn't open
pub asked_not_open : (m : Meaning) (start : Literal) (d : Numbered) (path : List Frame) (n : ℕ) → Walks m start d path (n ∷ []) → list_any (nat_eq n) (open_nodes path []) ≡ true → ⊥
asked_not_open m start d path n w h =
    let l = w.visits.descending.0 (node_edge m n) (listed_map m n (open_nodes path []) h) in
    omega (arith, l)
  where
    listed_map : (m : Meaning) (n : ℕ) (ns : List ℕ) → list_any (nat_eq n) ns ≡ true → listed_edge (node_edge m n) (map (node_edge m) ns) ≡ true
    listed_map m n [] h = absurd (cc)
    listed_map m n (x ∷ ns) h = listed_or (nat_eq n x) (list_any (nat_eq n) ns) h (λ e. rw (nat_eq-eq n x e, same-self (node_edge m x)) refl) (λ t. rw (listed_map m n ns t) (or_true _))
