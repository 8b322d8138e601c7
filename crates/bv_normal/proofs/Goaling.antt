-- The normal form of a goal is a goal, which the same values falsify.
use Rattle.std.proofs.Common.{◌≡◌, List, [], ◌∷◌, sym, ◌∙◌}
use Rattle.std.specs.Prelude.{◌↔◌, map, All}
use Rattle.std.proofs.lemmas.List.Elements.{All-nil, All-cons, All-head, All-tail}
use Rattle.bv_expr.specs.declared.ops.Sort.{Sort}
use Rattle.bv_expr.specs.declared.ops.Val.{Val}
use Rattle.bv_expr.specs.Term.{Term}
use Rattle.bv_expr.specs.Sorts.{IsExpr}
use Rattle.bv_expr.specs.Meaning.{meaning}
use Rattle.bv_expr.specs.Goal.{Binders, IsGoal, IsTruthOver, AreValues, MeansTrue, IsValid, sorts_of}
use Rattle.bv_expr.proofs.Over.{truth_at}
use Rattle.bv_normal.specs.Normal.{normal}
use Rattle.bv_normal.specs.Goals.{FalsifiedAlike}
use Rattle.bv_normal.proofs.Normalising.{normal_keeps, fits_of}

truth_again : (sorts : List Sort) (t : Term) → IsExpr t → IsTruthOver sorts t → IsTruthOver sorts (normal t)
truth_again sorts t ex over = (let k = normal_keeps t (fits_of ex) in record { truth = k.sort_is ∙ over.truth; over = k.over sorts over.over })

truths_again : (sorts : List Sort) (ts : List Term) → All IsExpr ts → All (IsTruthOver sorts) ts → All (IsTruthOver sorts) (map normal ts)
truths_again sorts [] ex over = All-nil (IsTruthOver sorts)
truths_again sorts (t ∷ ts) ex over =
    All-cons (IsTruthOver sorts) (normal t) (map normal ts) (truth_again sorts t (All-head IsExpr t ts ex) (All-head (IsTruthOver sorts) t ts over))
    (truths_again sorts ts (All-tail IsExpr t ts ex) (All-tail (IsTruthOver sorts) t ts over))

pub goal_again : (binders : Binders) (hyps : List Term) (concl : Term) → IsGoal binders hyps concl → All IsExpr hyps → IsExpr concl → IsGoal binders (map normal hyps) (normal concl)
goal_again binders hyps concl g hs c = record {
  few = g.few;
  named_apart = g.named_apart;
  sorts = g.sorts;
  hyps_fit = truths_again (sorts_of binders) hyps hs g.hyps_fit;
  concl_fits = truth_again (sorts_of binders) concl c g.concl_fits;
}

same_meaning : (binders : Binders) (values : List Val) (t : Term) → AreValues binders values → IsExpr t → IsTruthOver (sorts_of binders) t → meaning (normal t) values ≡ meaning t values
same_meaning binders values t v ex over = (normal_keeps t (fits_of ex)).means values v.are_values (truth_at binders values t v over).has

same_truths : (binders : Binders) (values : List Val) (ts : List Term) → AreValues binders values → All IsExpr ts → All (IsTruthOver (sorts_of binders)) ts
    → (All (MeansTrue values) (map normal ts) ↔ All (MeansTrue values) ts)
same_truths binders values [] v ex over = (λ h. h, λ h. h)
same_truths binders values (t ∷ ts) v ex over =
    let e = same_meaning binders values t v (All-head IsExpr t ts ex) (All-head (IsTruthOver (sorts_of binders)) t ts over) in
    let rest = same_truths binders values ts v (All-tail IsExpr t ts ex) (All-tail (IsTruthOver (sorts_of binders)) t ts over) in (
      λ h. All-cons (MeansTrue values) t ts (sym e ∙ All-head (MeansTrue values) (normal t) (map normal ts) h) (rest.0 (All-tail (MeansTrue values) (normal t) (map normal ts) h)),
      λ h. All-cons (MeansTrue values) (normal t) (map normal ts) (e ∙ All-head (MeansTrue values) t ts h) (rest.1 (All-tail (MeansTrue values) t ts h)),
    )

pub falsified_alike : (binders : Binders) (hyps : List Term) (concl : Term) → IsGoal binders hyps concl → All IsExpr hyps → IsExpr concl → FalsifiedAlike binders hyps concl (map normal hyps) (normal concl)
falsified_alike binders hyps concl g hs c values v =
    let both = same_truths binders values hyps v hs g.hyps_fit in
    let e = same_meaning binders values concl v c g.concl_fits in (
      λ f. record { hyps_hold = both.0 f.hyps_hold; concl_fails = sym e ∙ f.concl_fails },
      λ f. record { hyps_hold = both.1 f.hyps_hold; concl_fails = e ∙ f.concl_fails },
    )

pub valid_alike : (binders : Binders) (hyps : List Term) (concl : Term) → IsGoal binders hyps concl → All IsExpr hyps → IsExpr concl → (IsValid binders (map normal hyps) (normal concl) ↔ IsValid binders hyps concl)
valid_alike binders hyps concl g hs c = (
  λ valid values v f. valid values v ((falsified_alike binders hyps concl g hs c values v).1 f),
  λ valid values v f. valid values v ((falsified_alike binders hyps concl g hs c values v).0 f),
)
