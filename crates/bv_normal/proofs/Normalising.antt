-- The normal form keeps sort, depth and meaning.
use Rattle.std.proofs.Common.{◌≡◌, ◌≤◌, Bool, true, false, List, [], ◌∷◌, Option, Some, None, refl, ◌∙◌, ap, arith}
use Rattle.std.specs.Prelude.{IsSome, if◌then◌else◌, option_and_then}
use Rattle.bv_expr.specs.declared.ops.Unary.{Unary}
use Rattle.bv_expr.specs.declared.ops.Binary.{Binary}
use Rattle.bv_expr.specs.declared.ops.Sort.{Sort}
use Rattle.bv_expr.specs.declared.ops.Val.{Val}
use Rattle.bv_expr.specs.Term.{Term, constant, variable, truth, truth_variable, unary, binary, choice, truth_choice, depth}
use Rattle.bv_expr.specs.Sorts.{sort_of, IsExpr, LeavesFit, unary_sort, choice_sort, truth_choice_sort}
use Rattle.bv_expr.specs.Meaning.{is_true, unary_value, binary_value, meaning}
use Rattle.bv_normal.specs.Fitting.{Rule, first_fit}
use Rattle.bv_normal.specs.Normal.{rules, or_itself, rewritten, normal, MeansTheSame}
use Rattle.bv_normal.specs.Parts.{choice_of}
use Rattle.bv_normal.proofs.Sorting.{unary_part, binary_left, binary_right, three_first, three_second, three_third}
use Rattle.bv_normal.proofs.Keeping.{Keeps, Fits, Safe, keeps_itself, after, over_left, over_right, over_binary, over_three, over_choice}
use Rattle.bv_normal.proofs.Knowing.{either_cases}
use Rattle.bv_normal.proofs.SafeFolding.{constant_parts_safe, undone_safe}
use Rattle.bv_normal.proofs.SafeOperands.{equal_cancelled_safe, zero_dropped_safe, zero_kept_safe, one_dropped_safe, ones_kept_safe, equal_joined_safe}
use Rattle.bv_normal.proofs.SafeComparisons.{equal_holds_safe, equal_fails_safe}
use Rattle.bv_normal.proofs.SafeShifts.{shift_by_constant_safe, shift_by_nothing_safe, shift_past_width_safe, same_width_safe}
use Rattle.bv_normal.proofs.SafeChoices.{decided_choice_safe}
use Rattle.bv_normal.proofs.SafeQuotients.{product_by_power_safe, division_by_zero_safe, division_by_one_safe, division_by_power_safe}

AllSafe : List Rule → Type 0
AllSafe [] = Unit {0}
AllSafe (rule ∷ more) = Safe rule × AllSafe more

first_safe : (list : List Rule) → AllSafe list → Safe (first_fit list)
unfolding first_fit AllSafe
first_safe [] all t u fit e = cc
first_safe (rule ∷ more) all t u fit e = either_cases (Keeps t) (rule t) (first_fit more t) u e (λ h. all.0 t u fit h) (λ h. first_safe more all.1 t u fit h)

pub rules_safe : Safe (first_fit rules)
unfolding AllSafe
rules_safe =
    first_safe rules ((
      constant_parts_safe,
      (
        undone_safe,
        (
          equal_cancelled_safe,
          (
            zero_dropped_safe,
            (
              zero_kept_safe,
              (
                one_dropped_safe,
                (
                  ones_kept_safe,
                  (
                    equal_joined_safe,
                    (
                      equal_holds_safe,
                      (
                        equal_fails_safe,
                        (
                          shift_by_constant_safe,
                          (
                            shift_by_nothing_safe,
                            (
                              shift_past_width_safe,
                              (
                                decided_choice_safe,
                                (
                                  product_by_power_safe,
                                  (
                                    division_by_zero_safe,
                                    (
                                      division_by_one_safe,
                                      (
                                        division_by_power_safe,
                                        (
                                          same_width_safe,
                                          tt,
                                        ),
                                      ),
                                    ),
                                  ),
                                ),
                              ),
                            ),
                          ),
                        ),
                      ),
                    ),
                  ),
                ),
              ),
            ),
          ),
        ),
      ),
    ))

step_of : (o : Option Term) (t : Term) → LeavesFit t → ((u : Term) → o ≡ Some u → Keeps t u) → Keeps t (or_itself o t)
step_of None t l f = keeps_itself t l
step_of (Some u) t l f = f u refl

pub step_keeps : (t : Term) → Fits t → Keeps t (rewritten t)
unfolding rewritten
step_keeps t fit = step_of (first_fit rules t) t fit.leaves (λ u e. rules_safe t u fit e)

-- a node of parts that keep theirs
unary_again : (op : Unary) (x v : Term) → Keeps x v → Keeps (unary op x) (unary op v)
unary_again op x v a = record {
  sort_is = ap (option_and_then (unary_sort op)) a.sort_is;
  depth_within = omega (arith, a.depth_within);
  leaves = a.leaves;
  over = a.over;
  has = a.has;
  means = λ values f h. ap (unary_value op) (a.means values f h);
}

binary_again : (op : Binary) (x y v w : Term) → Keeps x v → Keeps y w → Keeps (binary op x y) (binary op v w)
binary_again op x y v w a b = record {
  sort_is = rw (a.sort_is, b.sort_is) refl;
  depth_within = omega (arith, a.depth_within, b.depth_within);
  leaves = (a.leaves, b.leaves);
  over = λ sorts h. over_binary sorts op v w (a.over sorts (over_left sorts op x y h)) (b.over sorts (over_right sorts op x y h));
  has = λ values h. (a.has values h.0, b.has values h.1);
  means = λ values f h. ap (λ c. binary_value op c (meaning w values)) (a.means values f h.0) ∙ ap (binary_value op (meaning x values)) (b.means values f h.1);
}

chosen_again : (c d v w p q : Val) → d ≡ c → w ≡ v → q ≡ p → (if is_true d then w else q) ≡ (if is_true c then v else p)
chosen_again c d v w p q e f g = rw (e, f, g) refl

choice_again : (c x y d v w : Term) → Keeps c d → Keeps x v → Keeps y w → Keeps (choice c x y) (choice d v w)
choice_again c x y d v w k a b = record {
  sort_is = rw (k.sort_is, a.sort_is, b.sort_is) refl;
  depth_within = omega (arith, k.depth_within, a.depth_within, b.depth_within);
  leaves = (k.leaves, a.leaves, b.leaves);
  over = λ sorts h. let o = over_three sorts c x y h in over_choice sorts d v w (k.over sorts o.0) (a.over sorts o.1) (b.over sorts o.2);
  has = λ values h. (k.has values h.0, a.has values h.1, b.has values h.2);
  means = λ values f h. chosen_again _ _ _ _ _ _ (k.means values f h.0) (a.means values f h.1) (b.means values f h.2);
}

truth_choice_again : (c x y d v w : Term) → Keeps c d → Keeps x v → Keeps y w → Keeps (truth_choice c x y) (truth_choice d v w)
truth_choice_again c x y d v w k a b = record {
  sort_is = rw (k.sort_is, a.sort_is, b.sort_is) refl;
  depth_within = omega (arith, k.depth_within, a.depth_within, b.depth_within);
  leaves = (k.leaves, a.leaves, b.leaves);
  over = λ sorts h. let o = over_three sorts c x y h in over_choice sorts d v w (k.over sorts o.0) (a.over sorts o.1) (b.over sorts o.2);
  has = λ values h. (k.has values h.0, a.has values h.1, b.has values h.2);
  means = λ values f h. chosen_again _ _ _ _ _ _ (k.means values f h.0) (a.means values f h.1) (b.means values f h.2);
}

fits_again : (t u : Term) → Fits t → Keeps t u → Fits u
fits_again t u fit k = record { sorted = rw k.sort_is fit.sorted; leaves = k.leaves }

unary_parts : (op : Unary) (x : Term) → Fits (unary op x) → Fits x
unary_parts op x fit = record { sorted = unary_part op (sort_of x) fit.sorted; leaves = fit.leaves }

binary_first : (op : Binary) (x y : Term) → Fits (binary op x y) → Fits x
binary_first op x y fit = record { sorted = binary_left op (sort_of x) (sort_of y) fit.sorted; leaves = fit.leaves.0 }

binary_second : (op : Binary) (x y : Term) → Fits (binary op x y) → Fits y
binary_second op x y fit = record { sorted = binary_right op (sort_of x) (sort_of y) fit.sorted; leaves = fit.leaves.1 }

record ThreeFit (c x y : Term) : Type 0 where
  first : Fits c
  second : Fits x
  third : Fits y

three_fit : (f : Sort → Sort → Sort → Option Sort) (c x y : Term) → IsSome (option_and_then (λ r. option_and_then (λ s. option_and_then (f r s) (sort_of y)) (sort_of x)) (sort_of c))
    → LeavesFit c × LeavesFit x × LeavesFit y → ThreeFit c x y
three_fit f c x y h l = record {
  first = record { sorted = three_first f (sort_of c) (sort_of x) (sort_of y) h; leaves = l.0 };
  second = record { sorted = three_second f (sort_of c) (sort_of x) (sort_of y) h; leaves = l.1 };
  third = record { sorted = three_third f (sort_of c) (sort_of x) (sort_of y) h; leaves = l.2 };
}

pub normal_keeps : (t : Term) → Fits t → Keeps t (normal t)
unfolding normal
normal_keeps (constant v) fit = step_keeps (constant v) fit
normal_keeps (variable k w) fit = step_keeps (variable k w) fit
normal_keeps (truth b) fit = step_keeps (truth b) fit
normal_keeps (truth_variable k) fit = step_keeps (truth_variable k) fit
normal_keeps (unary op x) fit =
    let k = unary_again op x (normal x) (normal_keeps x (unary_parts op x fit)) in
    after _ _ _ k (step_keeps (unary op (normal x)) (fits_again _ _ fit k))
normal_keeps (binary op x y) fit =
    let k = binary_again op x y (normal x) (normal y) (normal_keeps x (binary_first op x y fit)) (normal_keeps y (binary_second op x y fit)) in
    after _ _ _ k (step_keeps (binary op (normal x) (normal y)) (fits_again _ _ fit k))
normal_keeps (choice c x y) fit =
    let f = three_fit choice_sort c x y fit.sorted fit.leaves in
    let k = choice_again c x y (normal c) (normal x) (normal y) (normal_keeps c f.first) (normal_keeps x f.second) (normal_keeps y f.third) in
    after _ _ _ k (step_keeps (choice (normal c) (normal x) (normal y)) (fits_again _ _ fit k))
normal_keeps (truth_choice c x y) fit =
    let f = three_fit truth_choice_sort c x y fit.sorted fit.leaves in
    let k = truth_choice_again c x y (normal c) (normal x) (normal y) (normal_keeps c f.first) (normal_keeps x f.second) (normal_keeps y f.third) in
    after _ _ _ k (step_keeps (truth_choice (normal c) (normal x) (normal y)) (fits_again _ _ fit k))

pub fits_of : {t : Term} → IsExpr t → Fits t
fits_of ex = record { sorted = ex.sorted; leaves = ex.leaves }

expr_again : (t u : Term) → IsExpr t → Keeps t u → IsExpr u
expr_again t u ex k = record { sorted = rw k.sort_is ex.sorted; leaves = k.leaves; shallow = omega (arith, k.depth_within, ex.shallow) }

-- a node of normal parts is a term again
pub unary_ready : (t : Term) (op : Unary) (x : Term) → unary op x ≡ t → IsExpr t → IsExpr (unary op (normal x))
unary_ready t op x e ex =
    let here : IsExpr (unary op x) = rw e ex in
    expr_again _ _ here (unary_again op x (normal x) (normal_keeps x (unary_parts op x (fits_of here))))

pub binary_ready : (t : Term) (op : Binary) (x y : Term) → binary op x y ≡ t → IsExpr t → IsExpr (binary op (normal x) (normal y))
binary_ready t op x y e ex =
    let here : IsExpr (binary op x y) = rw e ex in
    let fit = fits_of here in
    expr_again _ _ here (binary_again op x y (normal x) (normal y) (normal_keeps x (binary_first op x y fit)) (normal_keeps y (binary_second op x y fit)))

pub choice_ready : (t c x y : Term) → choice c x y ≡ t → IsExpr t → IsExpr (choice (normal c) (normal x) (normal y))
choice_ready t c x y e ex =
    let here : IsExpr (choice c x y) = rw e ex in
    let f = three_fit choice_sort c x y here.sorted here.leaves in
    expr_again _ _ here (choice_again c x y (normal c) (normal x) (normal y) (normal_keeps c f.first) (normal_keeps x f.second) (normal_keeps y f.third))

pub truth_choice_ready : (t c x y : Term) → truth_choice c x y ≡ t → IsExpr t → IsExpr (truth_choice (normal c) (normal x) (normal y))
truth_choice_ready t c x y e ex =
    let here : IsExpr (truth_choice c x y) = rw e ex in
    let f = three_fit truth_choice_sort c x y here.sorted here.leaves in
    expr_again _ _ here (truth_choice_again c x y (normal c) (normal x) (normal y) (normal_keeps c f.first) (normal_keeps x f.second) (normal_keeps y f.third))

pub choice_of_ready : (t : Term) (truths : Bool) (c x y : Term) → choice_of truths c x y ≡ t → IsExpr t → IsExpr (choice_of truths (normal c) (normal x) (normal y))
choice_of_ready t true c x y e ex = truth_choice_ready t c x y e ex
choice_of_ready t false c x y e ex = choice_ready t c x y e ex

-- what the rules make of a term is one again
pub rewritten_ready : (t u : Term) → IsExpr t → first_fit rules t ≡ Some u → IsExpr u
rewritten_ready t u ex e = expr_again t u ex (rules_safe t u (fits_of ex) e)

-- what holds of the normal form of a term
pub normal_sort : (t : Term) → IsExpr t → sort_of (normal t) ≡ sort_of t
normal_sort t ex = (normal_keeps t (fits_of ex)).sort_is

pub normal_depth : (t : Term) → IsExpr t → depth (normal t) ≤ depth t
normal_depth t ex = (normal_keeps t (fits_of ex)).depth_within

pub normal_means : (t : Term) → IsExpr t → MeansTheSame t (normal t)
normal_means t ex values f h = (let k = normal_keeps t (fits_of ex) in (k.has values h, k.means values f h))
