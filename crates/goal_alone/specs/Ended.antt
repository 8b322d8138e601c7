-- A search at its end.
use Rattle.std.specs.Prelude.{◌≡◌, ◌≢◌, ℕ, ◌+◌, List}
use Rattle.sat_form.specs.Literals.{Literal}
use Rattle.search_learn.specs.declared.Turn.{Turn}
use Rattle.search_learn.specs.declared.Turn.TheVariants.{More}
use Rattle.cdcl_solver.specs.Progress.{Progress, opened, turned}

-- where a search over these clauses ends that has this budget
abbrev pub ended : ℕ → List (List Literal) → ℕ → Progress
ended vars cs budget = turned (budget + 1) (opened vars cs budget)

-- A search over these clauses that some steps have brought to this end.
pub record HasEnded (vars : ℕ) (cs : List (List Literal)) (s : Progress) (end : Turn) : Type 0 where
  pub steps : ℕ
  pub reached : s ≡ turned steps (opened vars cs s.budget)
  pub end_is : s.machine.state.end ≡ end
  pub is_end : end ≢ More
