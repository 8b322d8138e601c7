-- The rules on constant parts and on operators that undo each other keep sort, depth and meaning.
use Rattle.std.proofs.Common.{◌≡◌, ℕ, Bool, true, false, not, List, [], Option, Some, None, refl, sym, ◌∙◌, ap}
use Rattle.std.specs.Prelude.{IsSome, ◌&&◌, if◌then◌else◌, option_and_then, All}
use Rattle.std.proofs.lemmas.List.Elements.{All-nil}
use Rattle.bv_value.proofs.Results.{not_not}
use Rattle.bv_expr.specs.declared.ops.Unary.{Unary}
use Rattle.bv_expr.specs.declared.ops.Unary.TheVariants as of
use Rattle.bv_expr.specs.declared.ops.Sort.{Sort}
use Rattle.bv_expr.specs.declared.ops.Sort.TheVariants as sort
use Rattle.bv_expr.specs.declared.ops.Val.{Val}
use Rattle.bv_expr.specs.declared.ops.Val.TheVariants.{Truth, Vector}
use Rattle.bv_expr.specs.Term.{Term, constant, truth, unary, binary, choice, truth_choice}
use Rattle.bv_expr.specs.Sorts.{sort_of, unary_sort}
use Rattle.bv_expr.specs.Meaning.{sort_of_value, vector, is_true, unary_value, binary_value, meaning, HasValues}
use Rattle.bv_expr.specs.Goal.{IsValue}
use Rattle.bv_expr.proofs.Sorted.{meaning_sorted}
use Rattle.bv_expr.proofs.Over.{means_truth}
use Rattle.bv_normal.specs.Constants.{literal, is_constant}
use Rattle.bv_normal.specs.Folding.{has_constant_parts, constant_parts, undone}
use Rattle.bv_normal.proofs.Laws.{neg_neg}
use Rattle.bv_normal.proofs.Equality.{both}
use Rattle.bv_normal.proofs.Sorting.{meaning_fits, word_of}
use Rattle.bv_normal.proofs.Knowing.{given}
use Rattle.bv_normal.proofs.Keeping.{Keeps, Safe, keeps_truth, keeps_vector, keeps_inner}

-- a term that means the same at all values, and needs none
pub record Closed (t : Term) : Type 0 where
  pub has : HasValues [] t
  pub means : (values : List Val) → meaning t values ≡ meaning t []

constant_closed : (x : Term) → is_constant x ≡ true → Closed x
constant_closed (constant v) e = record { has = tt; means = λ values. refl }
constant_closed (truth b) e = record { has = tt; means = λ values. refl }
constant_closed x e = cc

chosen_same : (a b : Val) (c d v w : Val) → a ≡ b → c ≡ d → v ≡ w → (if is_true a then c else v) ≡ (if is_true b then d else w)
chosen_same a b c d v w p q r = rw (p, q, r) refl

pub closed : (t : Term) → has_constant_parts t ≡ true → Closed t
closed (unary op x) e = (let c = constant_closed x e in record { has = c.has; means = λ values. ap (unary_value op) (c.means values) })
closed (binary op x y) e =
    let b = both (is_constant x) (is_constant y) e in
    let c = constant_closed x b.0 in
    let d = constant_closed y b.1 in
    record { has = (c.has, d.has); means = λ values. ap (λ v. binary_value op v (meaning y values)) (c.means values) ∙ ap (binary_value op (meaning x [])) (d.means values) }
closed (choice c x y) e =
    let b = both (is_constant c) (is_constant x && is_constant y) e in
    let g = both (is_constant x) (is_constant y) b.1 in
    let k = constant_closed c b.0 in
    let p = constant_closed x g.0 in
    let q = constant_closed y g.1 in
    record { has = (k.has, p.has, q.has); means = λ values. chosen_same _ _ _ _ _ _ (k.means values) (p.means values) (q.means values) }
closed (truth_choice c x y) e =
    let b = both (is_constant c) (is_constant x && is_constant y) e in
    let g = both (is_constant x) (is_constant y) b.1 in
    let k = constant_closed c b.0 in
    let p = constant_closed x g.0 in
    let q = constant_closed y g.1 in
    record { has = (k.has, p.has, q.has); means = λ values. chosen_same _ _ _ _ _ _ (k.means values) (p.means values) (q.means values) }
closed t e = cc

keeps_literal : (t : Term) (v : Val) → IsValue v → sort_of t ≡ Some (sort_of_value v) → ((values : List Val) → All IsValue values → HasValues values t → v ≡ meaning t values) → Keeps t (literal v)
keeps_literal t (Truth b) f s m = keeps_truth t b s m
keeps_literal t (Vector x) f s m = keeps_vector t x f s m

pub constant_parts_safe : Safe constant_parts
unfolding constant_parts
constant_parts_safe t u fit e =
    let g = given (has_constant_parts t) (literal (meaning t [])) u e in
    let c = closed t g.0 in
    rw (← g.1) (keeps_literal t (meaning t []) (meaning_fits t [] fit.sorted fit.leaves (All-nil IsValue) c.has) (meaning_sorted t [] fit.sorted c.has) (λ values f h. sym (c.means values)))

-- the sort below two equal operators
not_sort : (o : Option Sort) → IsSome (option_and_then (unary_sort of.Not) (option_and_then (unary_sort of.Not) o)) → (w : ℕ) × (o ≡ Some (sort.Vector w))
not_sort None h = cc
not_sort (Some sort.Truth) h = cc
not_sort (Some (sort.Vector w)) h = (w, refl)

neg_sort : (o : Option Sort) → IsSome (option_and_then (unary_sort of.Neg) (option_and_then (unary_sort of.Neg) o)) → (w : ℕ) × (o ≡ Some (sort.Vector w))
neg_sort None h = cc
neg_sort (Some sort.Truth) h = cc
neg_sort (Some (sort.Vector w)) h = (w, refl)

truth_sort : (o : Option Sort) → IsSome (option_and_then (unary_sort of.TNot) (option_and_then (unary_sort of.TNot) o)) → o ≡ Some sort.Truth
truth_sort None h = cc
truth_sort (Some sort.Truth) h = refl
truth_sort (Some (sort.Vector w)) h = cc

twice : (op : Unary) (o : Option Sort) (s : Sort) → o ≡ Some s → unary_sort op s ≡ Some s → o ≡ option_and_then (unary_sort op) (option_and_then (unary_sort op) o)
twice op o s e f = e ∙ sym (ap (λ p. option_and_then (unary_sort op) (option_and_then (unary_sort op) p)) e ∙ (ap (option_and_then (unary_sort op)) f ∙ f))

not_twice : (b : Bool) → b ≡ not (not b)
not_twice true = refl
not_twice false = refl

pub undone_safe : Safe undone
unfolding undone
undone_safe (unary of.Not (unary of.Not x)) u fit e =
    let g = given true x u e in
    let s = not_sort (sort_of x) fit.sorted in
    rw (← g.1) (keeps_inner of.Not of.Not x fit.leaves (twice of.Not (sort_of x) (sort.Vector s.0) s.1 refl)
    (λ values f h. let a = word_of x s.0 values s.1 fit.leaves f h in a.is ∙ ap Vector (sym (not_not (vector (meaning x values)) a.fits))))
undone_safe (unary of.Neg (unary of.Neg x)) u fit e =
    let g = given true x u e in
    let s = neg_sort (sort_of x) fit.sorted in
    rw (← g.1) (keeps_inner of.Neg of.Neg x fit.leaves (twice of.Neg (sort_of x) (sort.Vector s.0) s.1 refl)
    (λ values f h. let a = word_of x s.0 values s.1 fit.leaves f h in a.is ∙ ap Vector (sym (neg_neg (vector (meaning x values)) a.fits))))
undone_safe (unary of.TNot (unary of.TNot x)) u fit e =
    let g = given true x u e in
    let s = truth_sort (sort_of x) fit.sorted in
    rw (← g.1) (keeps_inner of.TNot of.TNot x fit.leaves (twice of.TNot (sort_of x) sort.Truth s refl)
    (λ values f h. means_truth x values (record { truth = s; has = h }) ∙ ap Truth (not_twice (is_true (meaning x values)))))
undone_safe (unary op (unary p x)) u fit e = cc
undone_safe t u fit e = cc
