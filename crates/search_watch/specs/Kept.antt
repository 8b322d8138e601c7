-- What the machine by watched literals keeps beside its state.
use Rattle.std.specs.Prelude.{◌≡◌, ℕ, ◌+◌, true, List, [], length}
use Rattle.sat_form.specs.Literals.{Literal}
use Rattle.sat_form.specs.Shape.{is_formula}
use Rattle.search_heap.specs.Ranking.{Ranking}
use Rattle.search_learn.specs.declared.Turn.TheVariants.{More}
use Rattle.search_learn.specs.Machine.{State, numbered}
use Rattle.search_learn.specs.Kept.{Holds}
use Rattle.search_watch.specs.Members.{HasFree}
use Rattle.search_watch.specs.Nets.{Net, IsNet}

-- What holds unless it is broken. vars, learner: how many variables its trail and its learner have
pub record Follows (cs : List (List Literal)) (budget vars learner_vars : ℕ) (n : Net) (r : Ranking) (m : State) : Type 0 where
  -- the given clauses, and those learnt behind them
  pub learnt : ℕ
  pub size : length n.clauses ≡ length cs + learnt
  pub given : m.inputs ≡ length cs
  pub formula : is_formula m.vars cs ≡ true
  pub holds : Holds cs budget vars learnt m
  pub clauses : m.clauses ≡ numbered 1 n.clauses
  pub learner : learner_vars ≡ m.vars
  pub members : length r.members ≡ m.vars
  -- Until the end the watches are right, and each unassigned variable is a member of the heap.
  pub net : m.end ≡ More → IsNet m.vars m.trail [] n
  pub free : m.end ≡ More → HasFree m.vars m.trail r
