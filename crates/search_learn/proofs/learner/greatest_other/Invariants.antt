use Rattle.std.proofs.Common.{◌≡◌, ◌-◌, drop, map, not, nat_eq, max, get_or}
use Rattle.std.specs.List.{fold, filter}
use Rattle.sat_form.specs.Literals.{Literal}
use Rattle.search_learn.proofs.learner.greatest_other.Given as goal

abbrev pub invariant-loop-lit : goal.invariant-loop-lit
invariant-loop-lit l =
    let level = λ (x : Literal). get_or l.levels (x.var - 1) 0 in
    fold max l.back (filter (λ n. not (nat_eq n l.level)) (map level (drop l.lit-index l.lits))) ≡ fold max 0 (filter (λ n. not (nat_eq n l.level)) (map level l.lits))
