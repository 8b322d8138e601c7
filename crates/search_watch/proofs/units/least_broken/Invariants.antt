use Rattle.std.proofs.Common.{◌≡◌, ◌<◌, ℕ, false, get_or}
use Rattle.search_watch.specs.declared.watch.UnitClause.{UnitClause}
use Rattle.search_watch.specs.Watched.{is_false}
use Rattle.search_watch.proofs.units.least_broken.Given as goal

abbrev pub invariant-loop-unit : goal.invariant-loop-unit
invariant-loop-unit l = (k : ℕ) (d : UnitClause) → k < l.unit-index → is_false l.trail.steps (get_or l.units k d).lit ≡ false
