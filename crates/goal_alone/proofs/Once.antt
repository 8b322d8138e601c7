-- Each input stands once in the order of an edge, so that its bit is the value of its variable.
use Rattle.std.proofs.Common.{◌≡◌, ℕ, zero, suc, ◌+◌, ◌<◌, Bool, true, false, ◌&&◌, List, [], ◌∷◌, ◌++◌, map, length, slice_index_or, refl, sym, ◌∙◌, arith}
use Rattle.std.specs.List.{list_any, enumerate_from}
use Rattle.std.proofs.lemmas.Bool.{or_parts}
use Rattle.std.proofs.Math.Bool.{or-false, or-true}
use Rattle.gate_shape.specs.Edge.{Edge, constant, input, gate, same}
use Rattle.gate_shape.proofs.Sameness.{same-eq, same-self}
use Rattle.cone_walk.specs.Order.{order, completions, firsts, listed_edge}
use Rattle.cone_walk.specs.Cone.{cone_node, cone_nodes}
use Rattle.cone_walk.proofs.Trees.{by_bool, listed-append}
use Rattle.tseitin.specs.Clauses.{Extends}
use Rattle.tseitin.proofs.Law.{order_kinds, listed_at}
use Rattle.goal_alone.specs.Satisfying.{is_input, cone_bits}

same_other : (x y : Edge) → same x y ≡ false → same y x ≡ false
same_other x y h = by_bool (same y x) (λ s. let t : same x y ≡ true = rw (same-eq y x s) (same-self x) in cc) (λ n. n)

-- no tree stands in the list twice
abbrev Apart : List Edge → Type 0
Apart [] = Unit {0}
Apart (x ∷ xs) = (listed_edge x xs ≡ false) × Apart xs

apart_more : (x : Edge) (done : List Edge) → Apart done → listed_edge x done ≡ false → Apart (done ++ x ∷ [])
apart_more x [] a h = (refl, tt)
apart_more x (y ∷ ys) a h =
    let p = or_parts (same x y) (listed_edge x ys) h in
    let q : same y x ≡ false = same_other x y p.0 in
    (listed-append y ys (x ∷ []) ∙ rw (a.0, q) refl, apart_more x ys a.1 p.1)

apart_firsts : (done xs : List Edge) → Apart done → Apart (firsts done xs)
unfolding firsts
apart_firsts done [] a = a
apart_firsts done (x ∷ xs) a = by_bool (listed_edge x done) (λ h. rw h (apart_firsts done xs a)) (λ h. rw h (apart_firsts (done ++ x ∷ []) xs (apart_more x done a h)))

apart_order : (e : Edge) → Apart (order e)
unfolding order
apart_order e = apart_firsts [] (completions e) tt

-- an input without a sign, or a gate
abbrev IsPlain : Edge → Type 0
IsPlain (constant s) = ⊥
IsPlain (input s k j) = s ≡ false
IsPlain (gate s l r) = Unit {0}

abbrev ArePlain : List Edge → Type 0
ArePlain [] = Unit {0}
ArePlain (x ∷ xs) = IsPlain x × ArePlain xs

are_plain : (xs : List Edge) → ((x : Edge) → listed_edge x xs ≡ true → IsPlain x) → ArePlain xs
are_plain [] h = tt
are_plain (x ∷ xs) h = (h x (rw (same-self x) refl), are_plain xs (λ y l. h y (rw l (or-true (same y x)))))

plain_order : (e : Edge) → ArePlain (order e)
plain_order e = are_plain (order e) (λ x h. order_kinds e x h (λ k j q. let P : Edge → Type 0 = IsPlain in rw q refl) (λ l r q. rw q tt))

-- a node is an input exactly where its tree is
input_of : (ord : List Edge) (x : Edge) (k j : ℕ) → IsPlain x → is_input k j (cone_node ord x) ≡ same x (input false k j)
unfolding cone_node same
input_of ord (constant s) k j p = absurd p
input_of ord (input s a b) k j p = rw p refl
input_of ord (gate s l r) k j p = refl

module _ (values : ℕ → Bool) (ord : List Edge) (k j : ℕ) where
  abbrev found : ℕ → List Edge → Bool
  found v xs = list_any (λ p. is_input k j p.1 && values p.0) (enumerate_from v (map (cone_node ord) xs))

  -- where the input isn't there
  not_found : (v : ℕ) (xs : List Edge) → ArePlain xs → listed_edge (input false k j) xs ≡ false → found v xs ≡ false
  not_found v [] p h = refl
  not_found v (x ∷ xs) p h =
      let q = or_parts (same (input false k j) x) (listed_edge (input false k j) xs) h in
      let r : is_input k j (cone_node ord x) ≡ false = input_of ord x k j p.0 ∙ same_other (input false k j) x q.0 in
      rw (r, not_found (v + 1) xs p.1 q.1) refl

  -- where it is there
  found_at : (v : ℕ) (xs : List Edge) (i : ℕ) → ArePlain xs → Apart xs → i < length xs → slice_index_or xs i (constant false) ≡ input false k j → values (i + v) ≡ found v xs
  found_at v [] i p a l e = absurd (omega arith)
  found_at v (x ∷ xs) zero p a l e =
      let r : is_input k j (cone_node ord x) ≡ true = input_of ord x k j p.0 ∙ rw e (same-self (input false k j)) in
      let n : found (v + 1) xs ≡ false = not_found (v + 1) xs p.1 (rw e at a.0) in
      let z : 0 + v ≡ v = omega arith in
      rw (z, r, n) (sym (or-false (values v)))
  found_at v (x ∷ xs) (suc i) p a l e =
      let inside : i < length xs = omega arith in
      let there : listed_edge (input false k j) xs ≡ true = rw e at (listed_at xs i (constant false) inside) in
      let other : same x (input false k j) ≡ false = by_bool (same x (input false k j)) (λ s. let b : listed_edge (input false k j) xs ≡ false = rw (same-eq x (input false k j) s) at a.0 in cc) (λ n. n) in
      let r : is_input k j (cone_node ord x) ≡ false = input_of ord x k j p.0 ∙ other in
      let z : suc i + v ≡ i + (v + 1) = omega arith in
      rw (z, r) (found_at (v + 1) xs i p.1 a.1 inside e)

-- the bits that are read off the nodes are those of the inputs
pub cone_extends : (e : Edge) (values : ℕ → Bool) → Extends (cone_bits e values) e values
unfolding cone_nodes
cone_extends e values i k j l h = found_at values (order e) k j 2 (order e) i (plain_order e) (apart_order e) l h
