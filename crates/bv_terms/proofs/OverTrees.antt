-- A tree without misfits is typed.
use Rattle.std.proofs.Common.{◌≡◌, ℕ, List, [], ◌∷◌, ◌++◌, Option, Some, refl, sym, ◌∙◌, ap}
use Rattle.std.specs.Prelude.{option_map, option_and_then}
use Rattle.bv_expr.specs.declared.ops.Sort.TheVariants.{Truth, Vector}
use Rattle.bv_expr.specs.Sorts.{vectors, sort_of}
use Rattle.bv_trees.specs.Trees.{Tree, Trees, name, numeral, literal, prefix, infix_, method, ascribed, no_more, and}
use Rattle.bv_trees.specs.Trees as trees
use Rattle.bv_limits.specs.Depths as of_tree
use Rattle.bv_typing.specs.declared.kind.Kind.{Kind}
use Rattle.bv_typing.specs.declared.kind.Kind.TheVariants as kind
use Rattle.bv_typing.specs.declared.kind.Row.{Row}
use Rattle.bv_typing.specs.declared.kind.Row.TheVariants as row
use Rattle.bv_typing.specs.Source.{number_at}
use Rattle.bv_typing.specs.Rows.{sorted, prefix_row, infix_row, choice_row, method_row}
use Rattle.bv_typing.specs.Variables.{sort_at}
use Rattle.bv_typing.specs.Readings.{Env, variable_at, method_at, name_row, kind_in, typed, within, ascribed_to, judged, kinds, kind_of, term}
use Rattle.bv_typing.specs.Goals.{own, misfits, all_misfits, outermost, not_truth, truth_misfits}
use Rattle.bv_terms.specs.Sorting.{Bounded}
use Rattle.bv_terms.proofs.Typed.{sorts}

pub none_in : {A : Type 0} (xs ys : List A) → xs ++ ys ≡ [] → (xs ≡ []) × (ys ≡ [])
none_in [] ys h = (refl, h)
none_in (x ∷ xs) ys h = cc

-- a form whose parts are typed, and whose own row is no fault
own_typed : (i : ℕ) (r : Row) → own i (Some r) ≡ [] → (k : Kind) × (kind_in r ≡ Some k)
own_typed i (row.Typed k) h = (k, refl)
own_typed i row.Fails h = cc
own_typed i row.TooWide h = cc

typed_by : (i : ℕ) (o : Option Row) (r : Row) → o ≡ Some r → own i o ≡ [] → (k : Kind) × (typed o ≡ Some k)
typed_by i o r e h = let p = own_typed i r (sym (ap (own i) e) ∙ h) in (p.0, ap typed e ∙ p.1)

two_there : {A : Type 0} (f : Kind → A → Row) (o : Option Kind) (p : Option A) (j : Kind) (l : A) → o ≡ Some j → p ≡ Some l → option_and_then (λ a. option_map (f a) p) o ≡ Some (f j l)
two_there f o p j l d e = ap (option_and_then (λ a. option_map (f a) p)) d ∙ ap (option_map (f j)) e

three_there : (f : Kind → Kind → Kind → Row) (o p q : Option Kind) (c j l : Kind) → o ≡ Some c → p ≡ Some j → q ≡ Some l
    → option_and_then (λ a. option_and_then (λ b. option_map (f a b) q) p) o ≡ Some (f c j l)
three_there f o p q c j l g d e = ap (option_and_then (λ a. option_and_then (λ b. option_map (f a b) q) p)) g ∙ two_there (f c) p q j l d e

kinds_there : (o : Option Kind) (p : Option (List Kind)) (k : Kind) (ks : List Kind) → o ≡ Some k → p ≡ Some ks → option_and_then (λ j. option_map (λ js. j ∷ js) p) o ≡ Some (k ∷ ks)
kinds_there o p k ks d e = ap (option_and_then (λ j. option_map (λ js. j ∷ js) p)) d ∙ ap (option_map (λ js. k ∷ js)) e

abbrev pub IsTyped : Env → Tree → Type 0
IsTyped e t = (k : Kind) × (kind_of e t ≡ Some k)

abbrev pub AreTyped : Env → Trees → Type 0
AreTyped e xs = (ks : List Kind) × (kinds e xs ≡ Some ks)

mutual
  pub typed_tree : (e : Env) (t : Tree) → misfits e t ≡ [] → IsTyped e t
  typed_tree e (name i) h = typed_by i (judged e (name i)) (name_row (variable_at e i)) refl h
  typed_tree e (numeral i) h = (kind.Number (number_at e.source i), refl)
  typed_tree e (literal i j) h = typed_by i (judged e (literal i j)) (sorted (vectors (number_at e.source j))) refl h
  typed_tree e (trees.constant c i) h = (kind.Sorted Truth, refl)
  typed_tree e (prefix o i x) h =
      let n = none_in (misfits e x) (own i (judged e (prefix o i x))) h in
      let p = typed_tree e x n.0 in
      typed_by i (judged e (prefix o i x)) (within (of_tree.depth (prefix o i x)) (prefix_row o p.0)) (ap (option_map (λ k. within (of_tree.depth (prefix o i x)) (prefix_row o k))) p.1) n.1
  typed_tree e (infix_ o i x y) h =
      let n = none_in (misfits e x) (misfits e y ++ own i (judged e (infix_ o i x y))) h in
      let m = none_in (misfits e y) (own i (judged e (infix_ o i x y))) n.1 in
      let p = typed_tree e x n.0 in
      let q = typed_tree e y m.0 in
      let f : Kind → Kind → Row = λ k l. within (of_tree.depth (infix_ o i x y)) (infix_row o k l) in
      typed_by i (judged e (infix_ o i x y)) (f p.0 q.0) (two_there f (kind_of e x) (kind_of e y) p.0 q.0 p.1 q.1) m.1
  typed_tree e (trees.choice i x y z) h =
      let own_row = own i (judged e (trees.choice i x y z)) in
      let n = none_in (misfits e x) (misfits e y ++ (misfits e z ++ own_row)) h in
      let m = none_in (misfits e y) (misfits e z ++ own_row) n.1 in
      let l = none_in (misfits e z) own_row m.1 in
      let p = typed_tree e x n.0 in
      let q = typed_tree e y m.0 in
      let r = typed_tree e z l.0 in
      let f : Kind → Kind → Kind → Row = λ c j k. within (of_tree.depth (trees.choice i x y z)) (choice_row c j k) in
      typed_by i (judged e (trees.choice i x y z)) (f p.0 q.0 r.0) (three_there f (kind_of e x) (kind_of e y) (kind_of e z) p.0 q.0 r.0 p.1 q.1 r.1) l.1
  typed_tree e (method i x xs) h =
      let n = none_in (misfits e x) (all_misfits e xs ++ own i (judged e (method i x xs))) h in
      let m = none_in (all_misfits e xs) (own i (judged e (method i x xs))) n.1 in
      let p = typed_tree e x n.0 in
      let q = typed_trees e xs m.0 in
      let f : Kind → List Kind → Row = λ k ks. within (of_tree.depth (method i x xs)) (method_row (method_at e i) k ks) in
      typed_by i (judged e (method i x xs)) (f p.0 q.0) (two_there f (kind_of e x) (kinds e xs) p.0 q.0 p.1 q.1) m.1
  typed_tree e (ascribed i x s) h =
      let n = none_in (misfits e x) (own i (judged e (ascribed i x s))) h in
      let p = typed_tree e x n.0 in
      typed_by i (judged e (ascribed i x s)) (ascribed_to (sort_at e.source s) p.0) (ap (option_map (ascribed_to (sort_at e.source s))) p.1) n.1

  pub typed_trees : (e : Env) (xs : Trees) → all_misfits e xs ≡ [] → AreTyped e xs
  typed_trees e no_more h = ([], refl)
  typed_trees e (and x xs) h =
      let n = none_in (misfits e x) (all_misfits e xs) h in
      let p = typed_tree e x n.0 in
      let q = typed_trees e xs n.1 in
      (p.0 ∷ q.0, kinds_there (kind_of e x) (kinds e xs) p.0 q.0 p.1 q.1)

truth_kind : (i : ℕ) (k : Kind) → not_truth i (Some k) ≡ [] → k ≡ kind.Sorted Truth
truth_kind i (kind.Sorted Truth) h = refl
truth_kind i (kind.Sorted (Vector w)) h = cc
truth_kind i kind.Bare h = cc
truth_kind i (kind.Number n) h = cc

-- one that is to be a truth is one
pub typed_truth : (e : Env) (t : Tree) → misfits e t ≡ [] → truth_misfits e t ≡ [] → kind_of e t ≡ Some (kind.Sorted Truth)
typed_truth e t h g =
    let p = typed_tree e t h in
    p.1 ∙ ap Some (truth_kind (outermost t) p.0 (sym (ap (not_truth (outermost t)) p.1) ∙ g))

-- and so is its term
pub truth_term : (e : Env) → Bounded e → (t : Tree) → misfits e t ≡ [] → truth_misfits e t ≡ [] → sort_of (term e 0 t) ≡ Some Truth
truth_term e b t h g = sorts e b t (kind.Sorted Truth) (typed_truth e t h g) 0 tt
