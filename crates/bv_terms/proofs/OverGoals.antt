-- What a goal without misfits states is a goal.
use Rattle.std.proofs.Common.{◌≡◌, ◌≤◌, List, [], ◌∷◌, ◌++◌, Some, subst, sym}
use Rattle.std.specs.Prelude.{slice_get, slice_index_or, flat_map, All}
use Rattle.std.proofs.lemmas.List.Elements.{All-nil, All-cons, All-map}
use Rattle.bv_expr.specs.Goal.{sorts_of, IsTruthOver, IsGoal}
use Rattle.bv_trees.specs.Trees.{Tree, Goal}
use Rattle.bv_typing.specs.declared.misfit.Misfit.{Misfit}
use Rattle.bv_typing.specs.Source.{Source}
use Rattle.bv_typing.specs.Variables.{all_bounds, binders_of}
use Rattle.bv_typing.specs.Readings.{term}
use Rattle.bv_typing.specs.Goals.{misfits, truth_misfits, bound_misfits, hypotheses, terms_of, env_of, goal_misfits, statement}
use Rattle.bv_terms.specs.Sorting.{Bounded}
use Rattle.bv_terms.proofs.Built.{Numbered}
use Rattle.bv_terms.proofs.OverBounds.{Fit, few, as_many, all_within, named_apart, sorts_fit, bounded, numbered, sort_in_place}
use Rattle.bv_terms.proofs.OverTerms.{term_over}
use Rattle.bv_terms.proofs.OverTrees.{none_in, truth_term}

-- no faults of the hypotheses, nor of the conclusion
all_none : (f : Tree → List Misfit) (hs : List Tree) (c : Tree) → flat_map f (hs ++ c ∷ []) ≡ [] → All (λ x. f x ≡ []) hs × (f c ≡ [])
all_none f [] c h = (All-nil _, (none_in (f c) [] h).0)
all_none f (x ∷ hs) c h =
    let n = none_in (f x) (flat_map f (hs ++ c ∷ [])) h in
    let p = all_none f hs c n.1 in
    (All-cons (λ y. f y ≡ []) x hs n.0 p.0, p.1)

record Fits (s : Source) (g : Goal) : Type 0 where
  pub names : Fit (all_bounds s g.binders)
  pub hyps_typed : All (λ x. misfits (env_of s g) x ≡ []) (hypotheses g.binders)
  pub hyps_true : All (λ x. truth_misfits (env_of s g) x ≡ []) (hypotheses g.binders)
  pub concl_typed : misfits (env_of s g) g.conclusion ≡ []
  pub concl_true : truth_misfits (env_of s g) g.conclusion ≡ []

parts : (s : Source) (g : Goal) → goal_misfits s g ≡ [] → Fits s g
parts s g h =
    let n = none_in (bound_misfits [] (all_bounds s g.binders)) (flat_map (misfits (env_of s g)) (terms_of g) ++ flat_map (truth_misfits (env_of s g)) (terms_of g)) h in
    let m = none_in (flat_map (misfits (env_of s g)) (terms_of g)) (flat_map (truth_misfits (env_of s g)) (terms_of g)) n.1 in
    let p = all_none (misfits (env_of s g)) (hypotheses g.binders) g.conclusion m.0 in
    let q = all_none (truth_misfits (env_of s g)) (hypotheses g.binders) g.conclusion m.1 in
    record { names = n.0; hyps_typed = p.0; hyps_true = q.0; concl_typed = p.1; concl_true = q.1 }

truth_over : (s : Source) (g : Goal) → Fit (all_bounds s g.binders) → (x : Tree) → misfits (env_of s g) x ≡ [] → truth_misfits (env_of s g) x ≡ []
    → IsTruthOver (sorts_of (binders_of (all_bounds s g.binders))) (term (env_of s g) 0 x)
truth_over s g f x h k = record {
  truth = truth_term (env_of s g) (bounded s g) x h k;
  over = term_over (λ v. slice_get (sorts_of (binders_of (all_bounds s g.binders))) v.0 ≡ Some v.1) (env_of s g) (sort_in_place s g f) 0 x;
}

pub goal_bounded : (s : Source) (g : Goal) → goal_misfits s g ≡ [] → Bounded (env_of s g)
goal_bounded s g h = bounded s g

pub goal_numbered : (s : Source) (g : Goal) → goal_misfits s g ≡ [] → Numbered (env_of s g)
goal_numbered s g h = numbered s g (parts s g h).names

pub goal_fits : (s : Source) (g : Goal) → goal_misfits s g ≡ [] → IsGoal (statement s g).binders (statement s g).hyps (statement s g).concl
goal_fits s g h =
    let p = parts s g h in
    record {
      few = subst (λ n. n ≤ 64) (sym (as_many (all_bounds s g.binders) p.names)) (few (all_bounds s g.binders) p.names);
      named_apart = named_apart (all_bounds s g.binders) p.names;
      sorts = sorts_fit (all_bounds s g.binders) p.names (all_within s g.binders);
      hyps_fit = All-map (IsTruthOver (sorts_of (binders_of (all_bounds s g.binders)))) (term (env_of s g) 0) (hypotheses g.binders)
          (λ k d lt. truth_over s g p.names (slice_index_or (hypotheses g.binders) k d) (p.hyps_typed k d lt) (p.hyps_true k d lt));
      concl_fits = truth_over s g p.names g.conclusion p.concl_typed p.concl_true;
    }
