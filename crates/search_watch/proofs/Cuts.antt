-- A cut leaves nothing to look at.
use Rattle.std.proofs.Common.{◌≡◌, ℕ, ◌<◌, true, List, [], sym, ap, subst, inl, inr, arith}
use Rattle.std.specs.Prelude.{None}
use Rattle.sat_form.specs.Literals.{Literal}
use Rattle.sat_form.proofs.Sets as sets
use Rattle.search_learn.specs.declared.Step.{Step}
use Rattle.search_learn.specs.Trail.{cut, is_true, level}
use Rattle.search_learn.specs.Values.{IsOfMachine}
use Rattle.search_watch.specs.declared.watch.Pair.{Pair}
use Rattle.search_watch.specs.Nets.{Net, IsNet}
use Rattle.search_watch.specs.Visits.{IsLooked, clause_at, pair_at}
use Rattle.search_watch.specs.Watched.{IsCalm, is_false}
use Rattle.search_watch.proofs.Levels.{cut-cut, level-cut}

pub calm-looked : (t u : List Step) (c later : List Literal) (i : ℕ) (p : Pair) (ls : List (List ℕ)) (noted noted2 : Type 0) → IsCalm u c p → IsLooked t c later i p ls noted → IsLooked u c [] i p ls noted2
calm-looked t u c later i p ls noted noted2 calm is = record {
  pair = is.pair;
  listed = is.listed;
  excused = λ w watched wrong. elim watched [
    | inl e ↦ inl (calm.first (subst (λ (x : Literal). is_false u x ≡ true) e wrong))
    | inr e ↦ inl (calm.second (subst (λ (x : Literal). is_false u x ≡ true) e wrong))
  ];
  one = λ e. inl (sets.either_left (is_true u p.first) _ (calm.one e));
}

pub cut-net : (vars k : ℕ) (t : List Step) (n : Net) → IsOfMachine vars t → k < level t → IsNet vars t [] n → IsNet vars (cut k t) [] (record n { units = []; least = None })
cut-net vars k t n machine under net =
    let high = level-cut vars k t machine in
    record {
      shape = record { size = net.shape.size; aligned = net.shape.aligned; room = net.shape.room; within = net.shape.within; low = net.shape.low; entries = net.shape.entries };
      looked = λ i there. calm-looked t (cut k t) (clause_at n.clauses i) [] i (pair_at n.pairs i) n.lists _ _ (net.calm i there k under) (net.looked i there);
      calm = λ i there j below. subst (λ (u : List Step). IsCalm u (clause_at n.clauses i) (pair_at n.pairs i)) (sym (cut-cut j k t (omega arith))) (net.calm i there j (omega arith));
      sound = record { units_are = λ u h. absurd (omega (arith, h.1)); least_is = λ j e. absurd (cc) };
      least_low = λ j e. absurd (cc);
      empty = λ i low none. absurd (started (net.fresh i low none));
      fresh = λ i low none. absurd (started (net.fresh i low none));
    }
  where
    started : t ≡ [] → ⊥
    started e = let none : level t ≡ 0 = ap level e in omega arith
