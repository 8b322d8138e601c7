-- What a program that runs the machine keeps beside its state.
use Rattle.std.specs.Prelude.{◌≡◌, ℕ, ◌*◌, ◌^◌, ◌≤◌, List, length, get_or}
use Rattle.sat_form.specs.Literals.{Literal}
use Rattle.search_learn.specs.declared.Turn.TheVariants.{More}
use Rattle.search_learn.specs.Machine.{State, Reached}

-- What holds unless it is broken. vars: how many variables its trail has; learnt: how many clauses it learnt
pub record Holds (cs : List (List Literal)) (budget : ℕ) (vars learnt : ℕ) (m : State) : Type 0 where
  pub limit : budget ≤ 2 ^ 62
  pub over : vars ≡ m.vars
  pub signs : length m.signs ≡ m.vars
  pub scores : length m.scores ≡ m.vars
  pub low : (i : ℕ) → get_or m.scores i 0 ≤ m.conflicts * 2 ^ 64
  pub paid : m.conflicts ≤ m.spent
  pub bound : m.conflicts ≤ budget
  pub restarts : m.restarts ≤ m.conflicts
  pub since : m.since ≤ m.conflicts
  pub lessons : learnt ≤ m.conflicts
  pub each : m.end ≡ More → learnt ≡ m.conflicts
  pub reached : Reached m.vars cs budget m
