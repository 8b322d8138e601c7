-- What a list of gates means, and how it grows.
use Rattle.std.proofs.Common.{◌≡◌, ◌<◌, ◌≤◌, ◌+◌, ◌-◌, ℕ, zero, suc, Bool, true, false, ◌&&◌, ◌||◌, IsTrue, List, [], ◌∷◌, ◌++◌, refl, sym, ◌∙◌, ap, length, arith, nat_lt, if◌then◌else◌, slice_index_or, Some, None, Ok, Err, subst, max, option_map}
use Rattle.std.proofs.lemmas.Grind.{common_steps, elements}
use Rattle.gate_shape.specs.Literal.{Literal, opposite}
use Rattle.gate_shape.specs.Edge.{Edge, Gate, constant, input, gate, same_gate, gate_edge, gate_level, level, key_below, leaf_number, ordered, simplified, same, invert}
use Rattle.gate_shape.specs.Row.{both}
use Rattle.gate_shape.specs.Builds.{Meaning, edge, node_edge, with_sign, Known, Stands, Builds, Keeps, Refused, TooDeep, NotDeep, NoRoom, HasGate, OneEach}
use Rattle.gate_shape.specs.Listed.{Listed, listed, holding, gates_of, gate_of, grow, no_gate, note_new, has_gate, IsListed}
use Rattle.gate_shape.specs.declared.builder.GateStop.TheVariants.{Deep, Full}
use Rattle.gate_shape.specs.Word.{key_of, key_less, simple_literal, same_literal, false_literal, true_literal}
use Rattle.gate_shape.proofs.Building.{keeps_self, builds_plain, edge_kept, known_kept, stands_self}
use Rattle.std.proofs.lemmas.List.{length-append, get_or_push}
use Rattle.std.proofs.lemmas.List.Elements.{All-push}
use Rattle.gate_shape.proofs.Sameness.{same-eq, same-self, edge_once, simple_once}

grow-push : (gs : List Gate) (ps : List (Literal × Literal)) (p : Literal × Literal) → grow gs (ps ++ p ∷ []) ≡ grow gs ps ++ gate_of (grow gs ps) p ∷ []
unfolding grow
grow-push gs [] p = refl
grow-push gs (q ∷ ps) p = grow-push (gs ++ gate_of gs q ∷ []) ps p

pub gates_of-push : (ps : List (Literal × Literal)) (p : Literal × Literal) → gates_of (ps ++ p ∷ []) ≡ gates_of ps ++ gate_of (gates_of ps) p ∷ []
unfolding gates_of
gates_of-push ps p = grow-push [] ps p

length-grow : (gs : List Gate) (ps : List (Literal × Literal)) → length (grow gs ps) ≡ length gs + length ps
unfolding grow
length-grow gs [] = omega arith
length-grow gs (p ∷ ps) = length-grow (gs ++ gate_of gs p ∷ []) ps ∙ grind (arith, common_steps)

pub length-gates_of : (ps : List (Literal × Literal)) → length (gates_of ps) ≡ length ps
unfolding gates_of
length-gates_of ps = length-grow [] ps ∙ omega arith

gate_eta : (g h : Gate) → g.left ≡ h.left → g.right ≡ h.right → g ≡ h
gate_eta g h p q = ap (λ z. record { left = z; right = g.right }) p ∙ ap (λ z. record { left = h.left; right = z }) q

pub has_gate-at : (gs : List Gate) (g : Gate) (s : ℕ) → s < length gs → slice_index_or gs s no_gate ≡ g → has_gate gs g ≡ true
unfolding has_gate
has_gate-at [] g s l e = absurd (omega arith)
has_gate-at (h ∷ hs) g zero l e = rw (e, same-self g.left, same-self g.right) refl
has_gate-at (h ∷ hs) g (suc s) l e = rw (has_gate-at hs g s (omega (arith, l)) e) (or_true (same_gate h g))
  where
    or_true : (b : Bool) → b || true ≡ true
    or_true true = refl
    or_true false = refl

pub has_gate-found : (gs : List Gate) (g : Gate) → has_gate gs g ≡ true → (s : ℕ) × (s < length gs) × (slice_index_or gs s no_gate ≡ g)
unfolding has_gate
has_gate-found [] g h = absurd (cc)
has_gate-found (x ∷ xs) g h = go (same x.left g.left) refl (same x.right g.right) refl (has_gate-found xs g) h
  where
    later : (s : ℕ) × (s < length xs) × (slice_index_or xs s no_gate ≡ g) → (s : ℕ) × (s < length (x ∷ xs)) × (slice_index_or (x ∷ xs) s no_gate ≡ g)
    later r = let l = r.1 in (suc r.0, omega (arith, l), r.2)

    go : (p : Bool) → same x.left g.left ≡ p → (q : Bool) → same x.right g.right ≡ q → (has_gate xs g ≡ true → (s : ℕ) × (s < length xs) × (slice_index_or xs s no_gate ≡ g)) → (p && q) || has_gate xs g ≡ true → (s : ℕ) × (s < length (x ∷ xs)) × (slice_index_or (x ∷ xs) s no_gate ≡ g)
    go true e true f ih h = (0, omega arith, gate_eta x g (same-eq _ _ e) (same-eq _ _ f))
    go true e false f ih h = later (ih h)
    go false e q f ih h = later (ih h)

level-invert : (e : Edge) → level (invert e) ≡ level e
unfolding level
level-invert (constant s) = refl
level-invert (input s k j) = refl
level-invert (gate s a b) = refl

leaf_number-invert : (e : Edge) → leaf_number (invert e) ≡ leaf_number e
leaf_number-invert (constant s) = refl
leaf_number-invert (input s k j) = refl
leaf_number-invert (gate s a b) = refl

level-with_sign : (s : Bool) (e : Edge) → level (with_sign s e) ≡ level e
level-with_sign true e = level-invert e
level-with_sign false e = refl

leaf_number-with_sign : (s : Bool) (e : Edge) → leaf_number (with_sign s e) ≡ leaf_number e
leaf_number-with_sign true e = leaf_number-invert e
leaf_number-with_sign false e = refl

pub level-leaf : (m : Meaning) (l : Literal) → l.node < 8193 → level (edge m l) ≡ 0
unfolding edge level
level-leaf m l h = level-with_sign l.sign (node_edge m l.node) ∙ grind (arith, common_steps)

pub level-gate : (m : Meaning) (l : Literal) → 8193 ≤ l.node → level (edge m l) ≡ gate_level (m.gate_at (l.node - 8193))
unfolding edge level gate_level
level-gate m l h = level-with_sign l.sign (node_edge m l.node) ∙ grind (arith, common_steps)

leaf_number-leaf : (m : Meaning) (l : Literal) → l.node < 8193 → leaf_number (edge m l) ≡ l.node
unfolding edge
leaf_number-leaf m l h = leaf_number-with_sign l.sign (node_edge m l.node) ∙ grind (arith, common_steps)

leaf_number-gate : (m : Meaning) (l : Literal) → 8193 ≤ l.node → leaf_number (edge m l) ≡ 0
unfolding edge
leaf_number-gate m l h = leaf_number-with_sign l.sign (node_edge m l.node) ∙ grind (arith, common_steps)

known_inside : (m : Meaning) (l : Literal) → Known m l → 8193 ≤ l.node → IsTrue (m.known (l.node - 8193))
known_inside m l k h = let t = k.holds in grind (arith, common_steps)

gate_level-positive : (g : Gate) → 0 < gate_level g
unfolding gate_level
gate_level-positive g = omega arith

-- the key of an edge is that of its literal
key_at : (m : Meaning) (l : Literal) (n : ℕ) → n ≡ level (edge m l) → leaf_number (edge m l) ≡ (key_of l n).1
key_at m l n e = go (nat_lt l.node 8193) refl
  where
    go : (t : Bool) → nat_lt l.node 8193 ≡ t → leaf_number (edge m l) ≡ (key_of l n).1
    go true h =
        let small : l.node < 8193 = grind (arith, common_steps) in
        let z : n ≡ 0 = e ∙ level-leaf m l small in
        leaf_number-leaf m l small ∙ grind (arith, common_steps)
    go false h =
        let large : 8193 ≤ l.node = grind (arith, common_steps) in
        let p : 0 < n = rw (e, level-gate m l large) (gate_level-positive (m.gate_at (l.node - 8193))) in
        leaf_number-gate m l large ∙ grind (arith, common_steps)

pub key_once : (m : Meaning) (a b : Literal) (x y : ℕ) → x ≡ level (edge m a) → y ≡ level (edge m b) → key_below (edge m a) (edge m b) ≡ key_less (key_of a x) (key_of b y)
unfolding key_below
key_once m a b x y p q = rw (← p, ← q, key_at m a x p, key_at m b y q) refl

-- the meaning of a longer list
pub keeps_more : (limit : ℕ) (gs : List Gate) (g : Gate) → OneEach (holding limit (gs ++ g ∷ [])) → Keeps (holding limit gs) (holding limit (gs ++ g ∷ []))
keeps_more limit gs g once = record {
  stays = λ s h. (grind (arith, common_steps), let l : s < length gs = grind (arith, common_steps) in grind (arith, common_steps, elements));
  once = λ h. once;
  base = refl;
}

pub note_known : (t : List Gate) (g : Gate) → has_gate t g ≡ true → note_new t g true ≡ t
unfolding note_new
note_known t g h = rw h refl

pub note_unknown : (t : List Gate) (g : Gate) → has_gate t g ≡ false → note_new t g true ≡ t ++ g ∷ []
unfolding note_new
note_unknown t g h = rw h refl

pub note_refused : (t : List Gate) (g : Gate) → note_new t g false ≡ t
unfolding note_new
note_refused t g = refl

-- a literal of a known gate
pub stands_gate : (m : Meaning) (s : ℕ) → IsTrue (m.known s) → Stands m record { node = 8193 + s; sign = false } (gate_edge (m.gate_at s))
unfolding edge
stands_gate m s h = record { known = record { holds = inside }; stands_for = at }
  where
    back : 8193 + s - 8193 ≡ s
    back = omega arith

    inside : IsTrue (if nat_lt (8193 + s) 8193 then true else m.known (8193 + s - 8193))
    inside = rw back (grind (arith, common_steps))

    at : node_edge m (8193 + s) ≡ gate_edge (m.gate_at s)
    at = rw back (grind (arith, common_steps))

one_has : (m : Meaning) (g : Gate) → HasGate m g → (k : ℕ) (d : Gate) → k < 1 → HasGate m (slice_index_or (g ∷ []) k d)
one_has m g h zero d l = h
one_has m g h (suc k) d l = absurd (omega (arith, l))

none_has : (m : Meaning) (k : ℕ) (d : Gate) → k < 0 → HasGate m (slice_index_or [] k d)
none_has m k d l = absurd (omega (arith, l))

one_fit : (g : Gate) → NotDeep g → (k : ℕ) (d : Gate) → k < 1 → NotDeep (slice_index_or (g ∷ []) k d)
one_fit g h zero d l = h
one_fit g h (suc k) d l = absurd (omega (arith, l))

none_fit : (k : ℕ) (d : Gate) → k < 0 → NotDeep (slice_index_or [] k d)
none_fit k d l = absurd (omega (arith, l))

pub not_deep : {x : ℕ} (g : Gate) → x ≡ gate_level g → x < 262144 → NotDeep g
not_deep g e l d = omega (arith, e, l, d)

pub refused_one : (m : Meaning) (g : Gate) (C : Gate → Type 0) (limit : ℕ) (gs : List Gate) → C g → Refused note_new (holding limit gs) (holding limit gs) (g ∷ []) C
refused_one m g C limit gs h = record {
  before = [];
  at = g;
  after = [];
  cut = refl;
  cause = h;
  has = none_has (holding limit gs);
  fit = none_fit;
  trace = sym (note_refused gs g);
}

by_push : (n i : ℕ) (P : Type 0) → i < n + 1 → (i < n → P) → (i ≡ n → P) → P
by_push n i P l f e = go (nat_lt i n) refl
  where
    go : (t : Bool) → nat_lt i n ≡ t → P
    go true h = f (grind (arith, common_steps))
    go false h = e (let b : n ≤ i = grind (arith, common_steps) in omega arith)

left_push : {A : Type 0} (xs : List A) (x d : A) (i : ℕ) → i < length xs → slice_index_or (xs ++ x ∷ []) i d ≡ slice_index_or xs i d
left_push xs x d i l = grind (arith, common_steps, elements)

last_push : {A : Type 0} (xs : List A) (x d : A) (i : ℕ) → i ≡ length xs → slice_index_or (xs ++ x ∷ []) i d ≡ x
last_push xs x d i e = get_or_push xs x d i (sym e)

-- the gate of a pair whose literals are known is in the list exactly where the pair is
module _ (limit : ℕ) (pairs : List (Literal × Literal)) (levels : List ℕ) (is : IsListed limit pairs levels) (left right : Literal) (kl : Known (holding limit (gates_of pairs)) left) (kr : Known (holding limit (gates_of pairs)) right) where
  abbrev gs : List Gate
  gs = gates_of pairs

  abbrev m : Meaning
  m = holding limit gs

  abbrev g : Gate
  g = gate_of gs (left, right)

  pub found_at : (s : ℕ) → s < length pairs → ((d : Literal × Literal) → slice_index_or pairs s d ≡ (left, right)) → IsTrue (m.known s) × (m.gate_at s ≡ g)
  found_at s l e = (let n = length-gates_of pairs in let q : s < length gs = omega arith in grind (arith, common_steps), is.made s (left, right) l ∙ ap (λ p. gate_of gs p) (e (left, right)))

  pub place_found : NotDeep g → (s : ℕ) → s < length pairs → ((d : Literal × Literal) → slice_index_or pairs s d ≡ (left, right)) → Builds note_new Stands m m (Ok record { node = 8193 + s; sign = false }) record { answer = gate_edge g; gates = g ∷ [] }
  place_found fit s l e =
      let f = found_at s l e in
      let n : s < length gs = rw (length-gates_of pairs) l in
      record {
        keeps = keeps_self m;
        outcome = (
          (let P : Gate → Type 0 = λ z. Stands m record { node = 8193 + s; sign = false } (gate_edge z) in subst P f.1 (stands_gate m s f.0)),
          record {
            has = one_has m g (s, f.0, f.1);
            fit = one_fit g fit;
            trace = sym (note_known gs g (has_gate-at gs g s n f.1));
          },
        );
      }

  pub not_there : ((s : ℕ) (d : Literal × Literal) → s < length pairs → slice_index_or pairs s d ≡ (left, right) → ⊥) → HasGate m g → ⊥
  unfolding edge
  not_there no_pair h =
      let s : ℕ = h.0 in
      let n : s < length gs = let t = h.1 in grind (arith, common_steps) in
      let l : s < length pairs = rw (length-gates_of pairs) at n in
      let p : Literal × Literal = slice_index_or pairs s (left, right) in
      let same_made : gate_of gs p ≡ g = sym (is.made s (left, right) l) ∙ h.2 in
      let once : (i j : ℕ) → i < length gs → j < length gs → slice_index_or gs i no_gate ≡ slice_index_or gs j no_gate → i ≡ j = λ i j a b e. is.once i j (rw (length-gates_of pairs) at a) (rw (length-gates_of pairs) at b) e in
      let x : p.0 ≡ left = edge_once limit gs once p.0 left (is.left_known s (left, right) l) kl (ap (λ z. z.left) same_made) in
      let y : p.1 ≡ right = edge_once limit gs once p.1 right (is.right_known s (left, right) l) kr (ap (λ z. z.right) same_made) in
      no_pair s (left, right) l (pair_eta p left right x y)
    where
      pair_eta : (p : Literal × Literal) (a b : Literal) → p.0 ≡ a → p.1 ≡ b → p ≡ (a, b)
      pair_eta p a b x y = ap (λ z. (z, p.1)) x ∙ ap (λ z. (a, z)) y

  pub no_room : NotDeep g → length pairs ≡ limit → ((s : ℕ) (d : Literal × Literal) → s < length pairs → slice_index_or pairs s d ≡ (left, right) → ⊥) → NoRoom m g
  no_room fit full no_pair = (let n = length-gates_of pairs in (let q : length gs ≡ limit = n ∙ full in grind (arith, common_steps)), not_there no_pair, fit)

  pub place_full : NoRoom m g → Builds {T = Literal} {E = Edge} note_new Stands m m (Err Full) record { answer = gate_edge g; gates = g ∷ [] }
  place_full cause = record {
    keeps = keeps_self m;
    outcome = refused_one m g (NoRoom m) limit gs cause;
  }

  -- a list with room refuses nothing
  pub has_room : length pairs < limit → NoRoom m g → ⊥
  has_room room cause =
      let n = length-gates_of pairs in
      let t = cause.0 in
      let q : length gs ≡ limit = grind (arith, common_steps) in
      omega arith

  absent : ((s : ℕ) (d : Literal × Literal) → s < length pairs → slice_index_or pairs s d ≡ (left, right) → ⊥) → has_gate gs g ≡ false
  absent no_pair = go (has_gate gs g) refl
    where
      go : (b : Bool) → has_gate gs g ≡ b → b ≡ false
      go true e = let r = has_gate-found gs g e in absurd (not_there no_pair (r.0, (let l = r.1 in grind (arith, common_steps)), r.2))
      go false e = refl

  longer : Meaning
  longer = holding limit (gs ++ g ∷ [])

  last_known : IsTrue (longer.known (length gs))
  unfolding longer
  last_known = let q : length gs < length (gs ++ g ∷ []) = rw (length-append gs (g ∷ [])) (omega arith) in grind (arith, common_steps)

  last_gate : longer.gate_at (length gs) ≡ g
  unfolding longer
  last_gate = get_or_push gs g no_gate (length gs) refl

  once_more : ((s : ℕ) (d : Literal × Literal) → s < length pairs → slice_index_or pairs s d ≡ (left, right) → ⊥) → (i j : ℕ) → i < length pairs + 1 → j < length pairs + 1 → slice_index_or (gs ++ g ∷ []) i no_gate ≡ slice_index_or (gs ++ g ∷ []) j no_gate → i ≡ j
  once_more no_pair i j li lj e =
      by_push (length pairs) i _ li
      (λ a. by_push (length pairs) j _ lj
      (λ b. is.once i j a b (sym (left_push gs g no_gate i (inside i a)) ∙ (e ∙ left_push gs g no_gate j (inside j b))))
      (λ b. absurd (clash i a (sym (left_push gs g no_gate i (inside i a)) ∙ (e ∙ last_push gs g no_gate j (b ∙ sym (length-gates_of pairs)))))))
      (λ a. by_push (length pairs) j _ lj
      (λ b. absurd (clash j b (sym (left_push gs g no_gate j (inside j b)) ∙ (sym e ∙ last_push gs g no_gate i (a ∙ sym (length-gates_of pairs))))))
      (λ b. a ∙ sym b))
    where
      inside : (k : ℕ) → k < length pairs → k < length gs
      inside k a = rw (length-gates_of pairs) a

      clash : (k : ℕ) → k < length pairs → slice_index_or gs k no_gate ≡ g → ⊥
      clash k a q = not_there no_pair (k, (let b = inside k a in grind (arith, common_steps)), q)

  -- equal edges have equal literals in the longer list
  one_more : ((s : ℕ) (d : Literal × Literal) → s < length pairs → slice_index_or pairs s d ≡ (left, right) → ⊥) → (most : ℕ) → OneEach (holding most (gs ++ g ∷ []))
  one_more no_pair most =
      let long : length (gs ++ g ∷ []) ≡ length pairs + 1 = length-append gs (g ∷ []) ∙ ap (λ n. n + 1) (length-gates_of pairs) in
      edge_once most (gs ++ g ∷ []) (λ i j li lj e. once_more no_pair i j (rw long at li) (rw long at lj) e)

  pub place_new : NotDeep g → ((s : ℕ) (d : Literal × Literal) → s < length pairs → slice_index_or pairs s d ≡ (left, right) → ⊥) → Builds note_new Stands m (holding limit (gates_of (pairs ++ (left, right) ∷ []))) (Ok record { node = 8193 + length pairs; sign = false }) record { answer = gate_edge g; gates = g ∷ [] }
  unfolding longer
  place_new fit no_pair =
      let P : Gate → Type 0 = λ z. Stands longer record { node = 8193 + length gs; sign = false } (gate_edge z) in
      let q : Builds note_new Stands m longer (Ok record { node = 8193 + length gs; sign = false }) record { answer = gate_edge g; gates = g ∷ [] } = record {
        keeps = keeps_more limit gs g (one_more no_pair limit);
        outcome = (
          subst P last_gate (stands_gate longer (length gs) last_known),
          record {
            has = one_has longer g (length gs, last_known, last_gate);
            fit = one_fit g fit;
            trace = sym (note_unknown gs g (absent no_pair));
          },
        );
      } in
      rw (gates_of-push pairs (left, right), ← length-gates_of pairs) q

  gate_of_more : ((s : ℕ) (d : Literal × Literal) → s < length pairs → slice_index_or pairs s d ≡ (left, right) → ⊥) → (p : Literal × Literal) → Known m p.0 → Known m p.1 → gate_of (gs ++ g ∷ []) p ≡ gate_of gs p
  gate_of_more no_pair p a b =
      let k = keeps_more 0 gs g (one_more no_pair 0) in
      gate_eta _ _
      (edge_kept (holding 0 gs) (holding 0 (gs ++ g ∷ [])) p.0 k record { holds = a.holds })
      (edge_kept (holding 0 gs) (holding 0 (gs ++ g ∷ [])) p.1 k record { holds = b.holds })

  pub listed_more : (lv : ℕ) → length levels ≡ length pairs → length pairs < limit → lv ≡ gate_level g → lv < 262144 → ((s : ℕ) (d : Literal × Literal) → s < length pairs → slice_index_or pairs s d ≡ (left, right) → ⊥) → IsListed limit (pairs ++ (left, right) ∷ []) (levels ++ lv ∷ [])
  unfolding longer
  listed_more lv as_long room right_level small no_pair = record {
    small = is.small;
    within = rw (length-append pairs ((left, right) ∷ [])) (omega arith);
    left_known = rw (gates_of-push pairs (left, right)) (All-push (λ p. Known longer p.0) pairs (left, right) (λ i d l. known_kept m longer _ (keeps_more limit gs g (one_more no_pair limit)) (is.left_known i d l)) (known_kept m longer left (keeps_more limit gs g (one_more no_pair limit)) kl));
    right_known = rw (gates_of-push pairs (left, right)) (All-push (λ p. Known longer p.1) pairs (left, right) (λ i d l. known_kept m longer _ (keeps_more limit gs g (one_more no_pair limit)) (is.right_known i d l)) (known_kept m longer right (keeps_more limit gs g (one_more no_pair limit)) kr));
    made = λ i d l. rw (gates_of-push pairs (left, right)) (by_push (length pairs) i _ (rw (length-append pairs ((left, right) ∷ [])) at l)
        (λ a. rw (left_push pairs (left, right) d i a, gate_of_more no_pair (slice_index_or pairs i d) (is.left_known i d a) (is.right_known i d a)) (left_push gs g no_gate i (rw (length-gates_of pairs) a) ∙ is.made i d a))
        (λ e. rw (last_push pairs (left, right) d i e, gate_of_more no_pair (left, right) kl kr) (last_push gs g no_gate i (e ∙ sym (length-gates_of pairs)))));
    levels_right = λ i l. rw (gates_of-push pairs (left, right)) (by_push (length pairs) i _ (rw (length-append pairs ((left, right) ∷ [])) at l)
        (λ a. rw (left_push levels lv 0 i (rw as_long a), left_push gs g no_gate i (rw (length-gates_of pairs) a)) (is.levels_right i a))
        (λ e. rw (last_push levels lv 0 i (e ∙ sym as_long), last_push gs g no_gate i (e ∙ sym (length-gates_of pairs))) right_level));
    levels_small = λ i l. by_push (length pairs) i _ (rw (length-append pairs ((left, right) ∷ [])) at l)
        (λ a. rw (left_push levels lv 0 i (rw as_long a)) (is.levels_small i a))
        (λ e. rw (last_push levels lv 0 i (e ∙ sym as_long)) small);
    once = λ i j li lj. rw (gates_of-push pairs (left, right)) (once_more no_pair i j (rw (length-append pairs ((left, right) ∷ [])) at li) (rw (length-append pairs ((left, right) ∷ [])) at lj));
  }

pub known_place : (v : Listed) (l : Literal) → Known (listed v) l → 8193 ≤ l.node → l.node - 8193 < length v.pairs
known_place v l k big =
    let t = known_inside (listed v) l k big in
    let n : l.node - 8193 < length (gates_of v.pairs) = grind (arith, common_steps) in
    rw (length-gates_of v.pairs) at n

pub level_at : (limit : ℕ) (pairs : List (Literal × Literal)) (levels : List ℕ) (is : IsListed limit pairs levels) (l : Literal) → Known (holding limit (gates_of pairs)) l → 8193 ≤ l.node → (slice_index_or levels (l.node - 8193) 0 ≡ level (edge (holding limit (gates_of pairs)) l)) × (slice_index_or levels (l.node - 8193) 0 < 262144)
level_at limit pairs levels is l k big =
    let n = known_place record { limit = limit; pairs = pairs } l k big in
    (is.levels_right (l.node - 8193) n ∙ sym (level-gate (holding limit (gates_of pairs)) l big), is.levels_small (l.node - 8193) n)

pair_not : {left right : Literal} (a b : Literal) → (a ≡ left → b ≡ right → ⊥) → ◌≡◌ {A = Literal × Literal} (a, b) (left, right) → ⊥
pair_not a b f e = f (ap (λ z. z.0) e) (ap (λ z. z.1) e)

some_same : {x y : Literal} → Some x ≡ Some y → x ≡ y
some_same e = cc

pub level_of_pair : (limit : ℕ) (pairs : List (Literal × Literal)) (a b : Literal) → gate_level (gate_of (gates_of pairs) (a, b)) ≡ 1 + max (level (edge (holding limit (gates_of pairs)) a)) (level (edge (holding limit (gates_of pairs)) b))
unfolding gate_level edge
level_of_pair limit pairs a b = refl

pub max-swap : (x y : ℕ) → 1 + max x y ≡ 1 + max y x
max-swap x y = omega arith

-- a simple conjunction of known literals is known
simple-known : (m : Meaning) (a b s : Literal) → simple_literal a b ≡ Some s → Known m a → Known m b → Known m s
unfolding simple_literal
simple-known m a b s e ka kb = go (same_literal a false_literal || same_literal b false_literal || same_literal a (opposite b)) (same_literal a true_literal) (same_literal b true_literal || same_literal a b) e
  where
    go : (p q r : Bool) → (if p then Some false_literal else (if q then Some b else (if r then Some a else None))) ≡ Some s → Known m s
    go true q r e = let P : Literal → Type 0 = λ z. Known m z in subst P (some_same e) record { holds = refl }
    go false true r e = let P : Literal → Type 0 = λ z. Known m z in subst P (some_same e) kb
    go false false true e = let P : Literal → Type 0 = λ z. Known m z in subst P (some_same e) ka
    go false false false e = cc

pub one_each : (limit : ℕ) (pairs : List (Literal × Literal)) (levels : List ℕ) → IsListed limit pairs levels → OneEach (holding limit (gates_of pairs))
one_each limit pairs levels is = edge_once limit (gates_of pairs) (λ i j x y e. is.once i j (rw (length-gates_of pairs) at x) (rw (length-gates_of pairs) at y) e)

module _ (limit : ℕ) (pairs : List (Literal × Literal)) (levels : List ℕ) (is : IsListed limit pairs levels) (a b : Literal) (ka : Known (holding limit (gates_of pairs)) a) (kb : Known (holding limit (gates_of pairs)) b) where
  abbrev all : Meaning
  all = holding limit (gates_of pairs)

  simplified_as : simplified (edge all a) (edge all b) ≡ option_map (edge all) (simple_literal a b)
  simplified_as = simple_once (holding limit (gates_of pairs)) (one_each limit pairs levels is) a b ka kb

  pub and_simple : (s : Literal) → simple_literal a b ≡ Some s → Builds note_new Stands all all (Ok s) (both (edge all a) (edge all b))
  unfolding both
  and_simple s e =
      let q : simplified (edge all a) (edge all b) ≡ Some (edge all s) = simplified_as ∙ ap (λ o. option_map (edge all) o) e in
      rw q (builds_plain (stands_self (simple-known all a b s e ka kb)))

  pub and_simple_none : (s : Literal) → simple_literal a b ≡ Some s → (both (edge all a) (edge all b)).gates ≡ []
  unfolding both
  and_simple_none s e =
      let q : simplified (edge all a) (edge all b) ≡ Some (edge all s) = simplified_as ∙ ap (λ o. option_map (edge all) o) e in
      rw q refl

  -- the row of a conjunction that isn't simple
  pub and_gate : simple_literal a b ≡ None → both (edge all a) (edge all b) ≡ record { answer = gate_edge (ordered (edge all a) (edge all b)); gates = ordered (edge all a) (edge all b) ∷ [] }
  unfolding both
  and_gate e =
      let q : simplified (edge all a) (edge all b) ≡ None = simplified_as ∙ ap (λ o. option_map (edge all) o) e in
      rw q refl

  pub ordered_swapped : (x y : ℕ) → x ≡ level (edge all a) → y ≡ level (edge all b) → key_less (key_of b y) (key_of a x) ≡ true → ordered (edge all a) (edge all b) ≡ gate_of (gates_of pairs) (b, a)
  unfolding ordered edge
  ordered_swapped x y p q h = rw (key_once all b a y x q p ∙ h) refl

  pub ordered_kept : (x y : ℕ) → x ≡ level (edge all a) → y ≡ level (edge all b) → key_less (key_of b y) (key_of a x) ≡ false → ordered (edge all a) (edge all b) ≡ gate_of (gates_of pairs) (a, b)
  unfolding ordered edge
  ordered_kept x y p q h = rw (key_once all b a y x q p ∙ h) refl

  pub level_of_ordered : gate_level (ordered (edge all a) (edge all b)) ≡ 1 + max (level (edge all a)) (level (edge all b))
  unfolding gate_level ordered
  level_of_ordered = go (key_below (edge all b) (edge all a))
    where
      go : (t : Bool) → gate_level (if t then record { left = edge all b; right = edge all a } else record { left = edge all a; right = edge all b }) ≡ 1 + max (level (edge all a)) (level (edge all b))
      go true = omega arith
      go false = refl

  pub and_deep : simple_literal a b ≡ None → 1 + max (level (edge all a)) (level (edge all b)) ≡ 262144 → Builds {T = Literal} note_new Stands all all (Err Deep) (both (edge all a) (edge all b))
  and_deep e d = rw (and_gate e) record {
    keeps = keeps_self all;
    outcome = refused_one all (ordered (edge all a) (edge all b)) TooDeep limit (gates_of pairs) (level_of_ordered ∙ d);
  }

-- what is kept of the pair at a place
pub pair_at : (limit : ℕ) (pairs : List (Literal × Literal)) (levels : List ℕ) → IsListed limit pairs levels → (i : ℕ) → i < length pairs → (p : Literal × Literal) → slice_index_or pairs i p ≡ p → (Known (holding limit (gates_of pairs)) p.0 × Known (holding limit (gates_of pairs)) p.1) × ((holding limit (gates_of pairs)).gate_at i ≡ record { left = edge (holding limit (gates_of pairs)) p.0; right = edge (holding limit (gates_of pairs)) p.1 })
unfolding edge
pair_at limit pairs levels is i l p e =
    ((rw e at (is.left_known i p l), rw e at (is.right_known i p l)), is.made i p l ∙ ap (λ q. gate_of (gates_of pairs) q) e)
