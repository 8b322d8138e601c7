-- A search as its callers see it: the machine with its log, and what it was made with.
use Rattle.std.specs.Prelude.{◌≡◌, ℕ, Bool, false, List, length}
use Rattle.sat_form.specs.Literals.{Literal}
use Rattle.search_learn.specs.Machine.{Machine, machine, steps}
use Rattle.lrat_trim.specs.Derivation.{Derivation}

pub record Progress : Type 0 where
  pub vars : ℕ
  pub clauses : List (List Literal)
  pub budget : ℕ
  pub machine : Machine
  -- It ran out of memory.
  pub broken : Bool

-- A search that begins.
abbrev pub opened : ℕ → List (List Literal) → ℕ → Progress
opened vars cs budget = record { vars = vars; clauses = cs; budget = budget; machine = machine vars cs; broken = false }

-- After so many steps more; a machine that has ended stays.
abbrev pub turned : ℕ → Progress → Progress
turned most s = record s { machine = steps most s.budget s.machine }

-- What was learnt, as a log over the clauses.
abbrev pub log_of : Progress → Derivation
log_of s = record { inputs = length s.clauses; lines = s.machine.log }

-- It searches the same clauses with the same budget.
pub record IsSameSearch (old new : Progress) : Type 0 where
  pub vars : new.vars ≡ old.vars
  pub clauses : new.clauses ≡ old.clauses
  pub budget : new.budget ≡ old.budget
