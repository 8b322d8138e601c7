-- What the parts of typed trees put on the stack: a numeral that is read at no width puts its number, and all else a term.
use Rattle.std.proofs.Common.{◌≡◌, ℕ, zero, suc, ◌≤◌, inr, List, [], ◌∷◌, Option, Some, refl, sym, ◌∙◌, ap, arith}
use Rattle.std.specs.Prelude.{option_map, option_and_then}
use Rattle.bv_value.specs.BitVector.{of_number}
use Rattle.bv_expr.specs.declared.ops.Sort.{Sort}
use Rattle.bv_expr.specs.declared.ops.Sort.TheVariants.{Truth, Vector}
use Rattle.bv_expr.specs.Term.{Term, constant, depth}
use Rattle.bv_expr.specs.Sorts.{sort_of}
use Rattle.bv_trees.specs.declared.pieces.Sort.{Sort as Written}
use Rattle.bv_trees.specs.declared.pieces.Sort.TheVariants as written
use Rattle.bv_trees.specs.Trees.{Tree, name, numeral, literal, prefix, infix_, method, ascribed, no_more, and}
use Rattle.bv_trees.specs.Trees as trees
use Rattle.bv_typing.specs.declared.item.Item.{Item}
use Rattle.bv_typing.specs.declared.item.Item.TheVariants.{Number, Made}
use Rattle.bv_typing.specs.declared.kind.Kind.{Kind}
use Rattle.bv_typing.specs.declared.kind.Kind.TheVariants as kind
use Rattle.bv_typing.specs.Source.{Source, number_at}
use Rattle.bv_typing.specs.Variables.{sort_at}
use Rattle.bv_typing.specs.Readings.{Env, kind_of, numeral_item, term, item}
use Rattle.bv_terms.specs.Sorting.{IsWidth, Readable, Sorts, Bounded}
use Rattle.bv_terms.proofs.Within.{Within, vectors_within, vector_within}
use Rattle.bv_terms.proofs.Joining.{HasWidth}
use Rattle.bv_terms.proofs.Typed.{all_fit, sorts}
use Rattle.bv_terms.proofs.Built.{Takes}

-- a term of a sort, at most 1,000 deep
abbrev pub Fitting : Term → Type 0
Fitting t = (s : Sort) × (sort_of t ≡ Some s) × (depth t ≤ 1000)

-- ---- where kinds are read

pub takes : (w : ℕ) (k : Kind) → Readable w k → Takes w k
takes w (kind.Sorted s) r = tt
takes w kind.Bare r = r
takes w (kind.Number n) r = inr r

pub readable : (w : ℕ) (k : Kind) → IsWidth w → Readable w k
readable w (kind.Sorted s) h = tt
readable w kind.Bare h = h
readable w (kind.Number n) h = h

-- what is no number is read where it is taken
pub taken : (w : ℕ) (k : Kind) → ((n : ℕ) → k ≡ kind.Number n → ⊥) → Takes w k → Readable w k
taken w (kind.Sorted s) other r = tt
taken w kind.Bare other r = r
taken w (kind.Number n) other r = absurd (other n refl)

pub has_width : (f : ℕ → Term) (k : Kind) → Sorts f k → HasWidth k
has_width f (kind.Sorted Truth) s = tt
has_width f (kind.Sorted (Vector u)) s = vector_within (f 0) u (s 0 tt)
has_width f kind.Bare s = tt
has_width f (kind.Number n) s = tt

pub written_width : (s : Source) (t : Written) → Within (sort_at s t)
written_width s written.Truth = tt
written_width s (written.Vector i) = vectors_within (number_at s i)

no_width : IsWidth 0 → ⊥
no_width h = omega (arith, h.0)

numeral_made : (w n : ℕ) → IsWidth w → numeral_item w n ≡ Made (constant (of_number w n))
numeral_made zero n h = absurd (no_width h)
numeral_made (suc w) n h = refl

-- ---- parts

-- a part puts its number where it is one and read at no width, and its term where it is read at a width or needs none
pub record Part (p : ℕ → Item) (f : ℕ → Term) (k : Kind) : Type 0 where
  pub as_number : (n : ℕ) → k ≡ kind.Number n → p 0 ≡ Number n
  pub as_made : (v : ℕ) → Readable v k → p v ≡ Made (f v)
  pub sorts : Sorts f k

head_is : {x y : Item} {xs ys : List Item} → x ∷ xs ≡ y ∷ ys → x ≡ y
head_is h = cc

number_is : (e : Env) → Bounded e → (t : Tree) (k : Kind) → kind_of e t ≡ Some k → (n : ℕ) → k ≡ kind.Number n → item e 0 t ≡ Number n
number_is e b t k h n q =
    let a = all_fit e b (and t no_more) (k ∷ []) (ap (λ o. option_and_then (λ j. option_map (λ js. j ∷ js) (Some [])) o) h) in
    head_is (a.2 0) ∙ a.3.as_number n q

number_width : (n w : ℕ) (k : Kind) → ◌≡◌ {A = Option Kind} (Some (kind.Number n)) (Some k) → Readable w k → IsWidth w
number_width n w (kind.Number m) h r = r
number_width n w (kind.Sorted s) h r = cc
number_width n w kind.Bare h r = cc

item_made : (e : Env) (t : Tree) (k : Kind) → kind_of e t ≡ Some k → (v : ℕ) → Readable v k → item e v t ≡ Made (term e v t)
item_made e (numeral i) k h v r = numeral_made v (number_at e.source i) (number_width (number_at e.source i) v k h r)
item_made e (name i) k h v r = refl
item_made e (literal i j) k h v r = refl
item_made e (trees.constant c i) k h v r = refl
item_made e (prefix o i x) k h v r = refl
item_made e (infix_ o i x y) k h v r = refl
item_made e (trees.choice i x y z) k h v r = refl
item_made e (method i x xs) k h v r = refl
item_made e (ascribed i x s) k h v r = refl

-- a typed tree is one
pub part_of : (e : Env) → Bounded e → (t : Tree) (k : Kind) → kind_of e t ≡ Some k → Part (λ v. item e v t) (λ v. term e v t) k
part_of e b t k h = record { as_number = number_is e b t k h; as_made = item_made e t k h; sorts = sorts e b t k h }

-- a tree whose item is a term at no width isn't a number
pub no_number : (e : Env) → Bounded e → (t : Tree) (k : Kind) → kind_of e t ≡ Some k → (x : Term) → item e 0 t ≡ Made x → (n : ℕ) → k ≡ kind.Number n → ⊥
no_number e b t k h x m n q = differ (sym m ∙ number_is e b t k h n q)
  where
    differ : Made x ≡ Number n → ⊥
    differ c = cc

-- so that it is read where it is taken
pub reads : (e : Env) → Bounded e → (t : Tree) (k : Kind) → kind_of e t ≡ Some k → (x : Term) → item e 0 t ≡ Made x → (w : ℕ) → Takes w k → Readable w k
reads e b t k h x m w r = taken w k (no_number e b t k h x m) r
