-- What a search keeps unless it is broken.
use Rattle.std.specs.Prelude.{◌≡◌, ℕ, ◌^◌, ◌≤◌, true, false}
use Rattle.sat_form.specs.Shape.{is_formula}
use Rattle.search_learn.specs.Engine.{Engine}
use Rattle.search_learn.specs.Machine.{Machine, machine, steps}
use Rattle.lrat_trim.specs.Derivation.{Derivation}

-- The engine and the log are those of the machine after some steps.
pub record IsRunning (engine : Engine) (log : Derivation) : Type 0 where
  pub whole : engine.broken ≡ false
  pub formula : is_formula engine.vars engine.clauses ≡ true
  pub limit : engine.budget ≤ 2 ^ 62
  pub count : ℕ
  pub reached : ◌≡◌ {A = Machine} (record { state = engine.state; log = log.lines }) (steps count engine.budget (machine engine.vars engine.clauses))
