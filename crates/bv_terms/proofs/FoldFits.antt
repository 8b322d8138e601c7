-- A tree without faults is typed, and a truth where that is asked for.
use Rattle.std.proofs.Common.{◌≡◌, ℕ, List, [], ◌∷◌, ◌++◌, Option, Some, None, refl}
use Rattle.std.specs.Prelude.{option_map, option_and_then, flat_map}
use Rattle.bv_expr.specs.declared.ops.Sort.TheVariants.{Truth, Vector}
use Rattle.bv_expr.specs.Sorts.{vectors}
use Rattle.bv_trees.specs.Trees.{Tree, Trees, name, numeral, literal, prefix, infix_, method, ascribed, no_more, and}
use Rattle.bv_trees.specs.Trees as trees
use Rattle.bv_limits.specs.Depths as of_tree
use Rattle.bv_typing.specs.declared.kind.Kind.{Kind}
use Rattle.bv_typing.specs.declared.kind.Kind.TheVariants as kind
use Rattle.bv_typing.specs.declared.kind.Row.{Row}
use Rattle.bv_typing.specs.declared.kind.Row.TheVariants as row
use Rattle.bv_typing.specs.Source.{number_at}
use Rattle.bv_typing.specs.Variables.{sort_at}
use Rattle.bv_typing.specs.Rows.{sorted, prefix_row, infix_row, choice_row, method_row}
use Rattle.bv_typing.specs.Readings.{Env, variable_at, method_at, name_row, judged, typed, within, ascribed_to, kind_of, kinds}
use Rattle.bv_typing.specs.Goals.{own, misfits, all_misfits, outermost, not_truth, truth_misfits}

-- two lists without members
pub both_none : {A : Type 0} (xs ys : List A) → xs ++ ys ≡ [] → (xs ≡ []) × (ys ≡ [])
both_none [] ys h = (refl, h)
both_none (x ∷ xs) ys h = cc

abbrev pub IsTyped : Option Kind → Type 0
IsTyped o = (k : Kind) × (o ≡ Some k)

abbrev AreTyped : Option (List Kind) → Type 0
AreTyped o = (ks : List Kind) × (o ≡ Some ks)

by_row : (i : ℕ) (r : Row) → own i (Some r) ≡ [] → IsTyped (typed (Some r))
by_row i (row.Typed k) h = (k, refl)
by_row i row.Fails h = cc
by_row i row.TooWide h = cc

by_one : (i : ℕ) (f : Kind → Row) (o : Option Kind) → IsTyped o → own i (option_map f o) ≡ [] → IsTyped (typed (option_map f o))
by_one i f None t h = let e = t.1 in cc
by_one i f (Some j) t h = by_row i (f j) h

by_two : {A : Type 0} (i : ℕ) (f : Kind → A → Row) (o : Option Kind) (p : Option A) → IsTyped o → (a : A) → p ≡ Some a → own i (option_and_then (λ j. option_map (f j) p) o) ≡ [] → IsTyped (typed (option_and_then (λ j. option_map (f j) p) o))
by_two i f None p t a e h = let c = t.1 in cc
by_two i f (Some j) None t a e h = cc
by_two i f (Some j) (Some l) t a e h = by_row i (f j l) h

by_three : (i : ℕ) (f : Kind → Kind → Kind → Row) (o p q : Option Kind) → IsTyped o → IsTyped p → IsTyped q → own i (option_and_then (λ c. option_and_then (λ j. option_map (f c j) q) p) o) ≡ []
    → IsTyped (typed (option_and_then (λ c. option_and_then (λ j. option_map (f c j) q) p) o))
by_three i f None p q t u v h = let c = t.1 in cc
by_three i f (Some a) None q t u v h = let c = u.1 in cc
by_three i f (Some a) (Some j) None t u v h = let c = v.1 in cc
by_three i f (Some a) (Some j) (Some l) t u v h = by_row i (f a j l) h

both_typed : (o : Option Kind) (p : Option (List Kind)) → IsTyped o → AreTyped p → AreTyped (option_and_then (λ k. option_map (λ ks. k ∷ ks) p) o)
both_typed None p t u = let c = t.1 in cc
both_typed (Some k) None t u = let c = u.1 in cc
both_typed (Some k) (Some ks) t u = (k ∷ ks, refl)

mutual
  pub fitting_typed : (e : Env) (t : Tree) → misfits e t ≡ [] → IsTyped (kind_of e t)
  fitting_typed e (name i) h = by_row i (name_row (variable_at e i)) h
  fitting_typed e (numeral i) h = (kind.Number (number_at e.source i), refl)
  fitting_typed e (literal i j) h = by_row i (sorted (vectors (number_at e.source j))) h
  fitting_typed e (trees.constant c i) h = (kind.Sorted Truth, refl)
  fitting_typed e (prefix o i x) h =
      let p = both_none (misfits e x) (own i (judged e (prefix o i x))) h in
      by_one i (λ k. within (of_tree.depth (prefix o i x)) (prefix_row o k)) (kind_of e x) (fitting_typed e x p.0) p.1
  fitting_typed e (infix_ o i x y) h =
      let p = both_none (misfits e x) (misfits e y ++ own i (judged e (infix_ o i x y))) h in
      let q = both_none (misfits e y) (own i (judged e (infix_ o i x y))) p.1 in
      let l = fitting_typed e y q.0 in
      by_two i (λ k l. within (of_tree.depth (infix_ o i x y)) (infix_row o k l)) (kind_of e x) (kind_of e y) (fitting_typed e x p.0) l.0 l.1 q.1
  fitting_typed e (trees.choice i x y z) h =
      let p = both_none (misfits e x) (misfits e y ++ (misfits e z ++ own i (judged e (trees.choice i x y z)))) h in
      let q = both_none (misfits e y) (misfits e z ++ own i (judged e (trees.choice i x y z))) p.1 in
      let r = both_none (misfits e z) (own i (judged e (trees.choice i x y z))) q.1 in
      by_three i (λ c k l. within (of_tree.depth (trees.choice i x y z)) (choice_row c k l)) (kind_of e x) (kind_of e y) (kind_of e z) (fitting_typed e x p.0) (fitting_typed e y q.0) (fitting_typed e z r.0) r.1
  fitting_typed e (method i x xs) h =
      let p = both_none (misfits e x) (all_misfits e xs ++ own i (judged e (method i x xs))) h in
      let q = both_none (all_misfits e xs) (own i (judged e (method i x xs))) p.1 in
      let l = all_typed e xs q.0 in
      by_two i (λ k ks. within (of_tree.depth (method i x xs)) (method_row (method_at e i) k ks)) (kind_of e x) (kinds e xs) (fitting_typed e x p.0) l.0 l.1 q.1
  fitting_typed e (ascribed i x s) h =
      let p = both_none (misfits e x) (own i (judged e (ascribed i x s))) h in
      by_one i (ascribed_to (sort_at e.source s)) (kind_of e x) (fitting_typed e x p.0) p.1

  all_typed : (e : Env) (xs : Trees) → all_misfits e xs ≡ [] → AreTyped (kinds e xs)
  all_typed e no_more h = ([], refl)
  all_typed e (and x xs) h =
      let p = both_none (misfits e x) (all_misfits e xs) h in
      both_typed (kind_of e x) (kinds e xs) (fitting_typed e x p.0) (all_typed e xs p.1)

a_truth : (i : ℕ) (o : Option Kind) → IsTyped o → not_truth i o ≡ [] → o ≡ Some (kind.Sorted Truth)
a_truth i None t h = let c = t.1 in cc
a_truth i (Some (kind.Sorted Truth)) t h = refl
a_truth i (Some (kind.Sorted (Vector w))) t h = cc
a_truth i (Some kind.Bare) t h = cc
a_truth i (Some (kind.Number n)) t h = cc

pub fitting_truth : (e : Env) (t : Tree) → misfits e t ≡ [] → truth_misfits e t ≡ [] → kind_of e t ≡ Some (kind.Sorted Truth)
fitting_truth e t h k = a_truth (outermost t) (kind_of e t) (fitting_typed e t h) k

-- ---- several

abbrev pub AreTruths : Env → List Tree → Type 0
AreTruths e [] = Unit {0}
AreTruths e (t ∷ ts) = (kind_of e t ≡ Some (kind.Sorted Truth)) × AreTruths e ts

pub fitting_truths : (e : Env) (ts : List Tree) → flat_map (misfits e) ts ≡ [] → flat_map (truth_misfits e) ts ≡ [] → AreTruths e ts
fitting_truths e [] h k = tt
fitting_truths e (t ∷ ts) h k =
    let p = both_none (misfits e t) (flat_map (misfits e) ts) h in
    let q = both_none (truth_misfits e t) (flat_map (truth_misfits e) ts) k in
    (fitting_truth e t p.0 q.0, fitting_truths e ts p.1 q.1)

-- the last and those before it
pub last_truth : (e : Env) (ts : List Tree) (t : Tree) → AreTruths e (ts ++ t ∷ []) → AreTruths e ts × (kind_of e t ≡ Some (kind.Sorted Truth))
last_truth e [] t h = (tt, h.0)
last_truth e (u ∷ us) t h = let p = last_truth e us t h.1 in ((h.0, p.0), p.1)
