use Rattle.std.proofs.Common.{rules}
use Rattle.std.proofs.lemmas.List.Sorted.{IsNonDecreasingBy-from_sort_by_key}
use Rattle.sat_form.specs.Literals.{Literal}
use Rattle.search_learn.proofs.Collected.{sorted_same}
use Rattle.search_learn.proofs.learner.sort.Goals as goal

pub returns : goal.returns
returns c = λ s o list.
    sorted_same s _ _ o list c.sort_unstable_by_key.ensures.permutation
    (IsNonDecreasingBy-from_sort_by_key (λ (l : Literal). l.var) _ c.sort_unstable_by_key.ensures.sorted (λ a r q k. search rules))
