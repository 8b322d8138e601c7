use Rattle.std.proofs.Common.{rules}
use Rattle.std.proofs.lemmas.List.Sorted.{Contains-permutation, IsNonDecreasingBy-from_sort_by_key, IsPermutation-sym}
use Rattle.search_watch.specs.declared.watch.UnitClause.{UnitClause}
use Rattle.search_watch.proofs.units.sort.Goals as goal

pub returns-clause-rising : goal.returns-clause-rising
returns-clause-rising c = IsNonDecreasingBy-from_sort_by_key (λ (u : UnitClause). u.clause) _ c.sort_unstable_by_key.ensures.sorted (λ a r q k. search rules)

pub returns-clause-from : goal.returns-clause-from
returns-clause-from c = λ u h. Contains-permutation _ _ u (IsPermutation-sym _ _ c.sort_unstable_by_key.ensures.permutation) h

pub returns-clause-all : goal.returns-clause-all
returns-clause-all c = λ u h. Contains-permutation _ _ u c.sort_unstable_by_key.ensures.permutation h
