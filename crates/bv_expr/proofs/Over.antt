-- A truth over a goal's variables has a value, a truth, wherever these have values.
use Rattle.std.proofs.Common.{◌≡◌, ℕ, Bool, true, false, List, [], ◌∷◌, ◌++◌, Some, refl, sym, ◌∙◌, ap, not, subst}
use Rattle.std.specs.Prelude.{slice_get, option_map, map, All, IsSome, IsTrue, ◌↔◌}
use Rattle.std.proofs.lemmas.List.Elements.{All-nil, All-cons, All-head, All-tail}
use Rattle.std.proofs.lemmas.Option.{slice_get-map}
use Rattle.bv_expr.specs.declared.ops.Sort.{Sort}
use Rattle.bv_expr.specs.declared.ops.Sort.TheVariants as sort
use Rattle.bv_expr.specs.declared.ops.Val.{Val}
use Rattle.bv_expr.specs.declared.ops.Val.TheVariants.{Truth, Vector}
use Rattle.bv_expr.specs.Term.{Term, constant, variable, truth, truth_variable, unary, binary, choice, truth_choice}
use Rattle.bv_expr.specs.Sorts.{sort_of}
use Rattle.bv_expr.specs.Meaning.{sort_of_value, meaning, is_true, HasValues}
use Rattle.bv_expr.specs.Goal.{Binders, variables, sorts_of, IsTruthOver, AreValues, IsTruthAt, IsValue, Falsifies, IsValid}
use Rattle.bv_expr.proofs.Sorted.{meaning_sorted}

all_left : {A : Type 0} (P : A → Type 0) (xs ys : List A) → All P (xs ++ ys) → All P xs
all_left P [] ys h = All-nil P
all_left P (x ∷ xs) ys h = All-cons P x xs (All-head P x (xs ++ ys) h) (all_left P xs ys (All-tail P x (xs ++ ys) h))

all_right : {A : Type 0} (P : A → Type 0) (xs ys : List A) → All P (xs ++ ys) → All P ys
all_right P [] ys h = h
all_right P (x ∷ xs) ys h = all_right P xs ys (All-tail P x (xs ++ ys) h)

-- the variable's place has this sort
abbrev At : List Sort → ℕ × Sort → Type 0
At sorts v = slice_get sorts v.0 ≡ Some v.1

value_at : (sorts : List Sort) (values : List Val) (k : ℕ) (s : Sort) → map sort_of_value values ≡ sorts → slice_get sorts k ≡ Some s → option_map sort_of_value (slice_get values k) ≡ Some s
value_at sorts values k s e h = sym (slice_get-map sort_of_value values k) ∙ (ap (λ xs. slice_get xs k) e ∙ h)

-- each variable of a term over these sorts has a value of its sort
pub has_values : (sorts : List Sort) (values : List Val) (t : Term) → map sort_of_value values ≡ sorts → All (At sorts) (variables t) → HasValues values t
has_values sorts values (constant v) e h = tt
has_values sorts values (variable k w) e h = value_at sorts values k (sort.Vector w) e (All-head (At sorts) (k, sort.Vector w) [] h)
has_values sorts values (truth b) e h = tt
has_values sorts values (truth_variable k) e h = value_at sorts values k sort.Truth e (All-head (At sorts) (k, sort.Truth) [] h)
has_values sorts values (unary op x) e h = has_values sorts values x e h
has_values sorts values (binary op x y) e h =
    (has_values sorts values x e (all_left (At sorts) (variables x) (variables y) h), has_values sorts values y e (all_right (At sorts) (variables x) (variables y) h))
has_values sorts values (choice c x y) e h =
    let rest = all_right (At sorts) (variables c) (variables x ++ variables y) h in (
      has_values sorts values c e (all_left (At sorts) (variables c) (variables x ++ variables y) h),
      has_values sorts values x e (all_left (At sorts) (variables x) (variables y) rest),
      has_values sorts values y e (all_right (At sorts) (variables x) (variables y) rest),
    )
has_values sorts values (truth_choice c x y) e h =
    let rest = all_right (At sorts) (variables c) (variables x ++ variables y) h in (
      has_values sorts values c e (all_left (At sorts) (variables c) (variables x ++ variables y) h),
      has_values sorts values x e (all_left (At sorts) (variables x) (variables y) rest),
      has_values sorts values y e (all_right (At sorts) (variables x) (variables y) rest),
    )

pub truth_at : (binders : Binders) (values : List Val) (t : Term) → AreValues binders values → IsTruthOver (sorts_of binders) t → IsTruthAt values t
truth_at binders values t v over = record { truth = over.truth; has = has_values (sorts_of binders) values t v.of_the_sorts over.over }

truth_of_sort : (v : Val) → Some sort.Truth ≡ Some (sort_of_value v) → v ≡ Truth (is_true v)
truth_of_sort (Truth b) h = refl
truth_of_sort (Vector x) h = cc

-- a truth means true or false
pub means_truth : (t : Term) (values : List Val) → IsTruthAt values t → meaning t values ≡ Truth (is_true (meaning t values))
means_truth t values at =
    let s : IsSome (sort_of t) = rw at.truth in
    truth_of_sort (meaning t values) (sym at.truth ∙ meaning_sorted t values s at.has)

-- a goal without variables has one list of values, the empty one
none_sorted : (values : List Val) → map sort_of_value values ≡ [] → values ≡ []
none_sorted [] e = refl
none_sorted (v ∷ vs) e = cc

pub empty_fits : (binders : Binders) → binders ≡ [] → AreValues binders []
empty_fits binders e = record { of_the_sorts = rw e refl; are_values = All-nil IsValue }

pub closed_valid : (binders : Binders) (hyps : List Term) (concl : Term) → binders ≡ [] → (falsified : Bool) → (IsTrue falsified ↔ Falsifies hyps concl [])
    → (IsTrue (not falsified) ↔ IsValid binders hyps concl)
closed_valid binders hyps concl e true f = (λ no. cc, λ valid. absurd (valid [] (empty_fits binders e) (f.0 refl)))
closed_valid binders hyps concl e false f = (
  λ _ values fit no.
      let h : IsTrue false = f.1 (subst (Falsifies hyps concl) (none_sorted values (fit.of_the_sorts ∙ ap (map (λ b. b.1)) e)) no) in
      cc,
  λ _. refl,
)
