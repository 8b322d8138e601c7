-- What holds of every run of the machine.
use Rattle.std.specs.Prelude.{◌≡◌, ◌≢◌, ℕ, true, List}
use Rattle.sat_form.specs.Literals.{Literal}
use Rattle.sat_form.specs.Shape.{variables_within}
use Rattle.sat_form.specs.Truth.{satisfies, value_of}
use Rattle.search_learn.specs.declared.Turn.TheVariants.{More, Sat}
use Rattle.search_learn.specs.Machine.{State, Reached, clause_at, run}
use Rattle.search_learn.specs.Rule.{IsTrail}

-- Each state that is reached has a trail of the machine, so that learning may be asked for.
abbrev pub TrailsFollow : Type 0
TrailsFollow = (vars : ℕ) (cs : List (List Literal)) (budget : ℕ) (m : State) → variables_within vars cs ≡ true → Reached vars cs budget m → IsTrail (clause_at m.clauses) m.vars m.trail

-- After Sat the signs are values that satisfy the clauses.
abbrev pub SatIsTrue : Type 0
SatIsTrue = (vars : ℕ) (cs : List (List Literal)) (budget : ℕ) (m : State) → variables_within vars cs ≡ true → Reached vars cs budget m → m.end ≡ Sat → satisfies (value_of m.signs) cs ≡ true

-- One step more than the budget allows ends the machine.
abbrev pub RunsEnd : Type 0
RunsEnd = (vars : ℕ) (cs : List (List Literal)) (budget : ℕ) → (run vars cs budget).state.end ≢ More
