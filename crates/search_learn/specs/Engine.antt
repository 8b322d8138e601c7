-- A program that runs the search machine, as its callers see it.
use Rattle.std.specs.Prelude.{◌≡◌, ℕ, Bool, false, List, None}
use Rattle.std.specs.declared.option.Option.{Option}
use Rattle.sat_form.specs.Literals.{Literal}
use Rattle.search_learn.specs.Analysis.{Lesson}
use Rattle.search_learn.specs.Machine.{State, Moved, start, step}

pub record Engine : Type 0 where
  -- what it was made with
  pub vars : ℕ
  pub clauses : List (List Literal)
  pub budget : ℕ
  pub state : State
  -- what the last step learnt
  pub last : Option Lesson
  -- It ran out of memory.
  pub broken : Bool

abbrev pub begun : ℕ → List (List Literal) → ℕ → Engine
begun vars cs budget = record { vars = vars; clauses = cs; budget = budget; state = start vars cs; last = None; broken = false }

abbrev pub moved : Engine → Moved → Engine
moved s r = record s { state = r.state; last = r.learnt }

-- after one step
abbrev pub stepped : Engine → Engine
stepped s = moved s (step s.budget s.state)

-- It runs on the same clauses with the same budget.
pub record IsSameTask (old new : Engine) : Type 0 where
  pub vars : new.vars ≡ old.vars
  pub clauses : new.clauses ≡ old.clauses
  pub budget : new.budget ≡ old.budget
