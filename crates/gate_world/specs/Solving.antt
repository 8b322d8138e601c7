-- What the code of a goal whose clauses are searched has in hand.
use Rattle.std.specs.Prelude.{◌≡◌, ◌≤◌, ℕ, length}
use Rattle.bv_expr.specs.declared.goal.Goal.{Goal}
use Rattle.bv_expr.specs.Goal.{AreValues, Falsifies, IsValid}
use Rattle.goal_reply.specs.declared.reply.Reply.{Reply}
use Rattle.goal_reply.specs.declared.reply.Reply.TheVariants as reply
use Rattle.goal_reply.specs.declared.reply.Outcome.{Outcome}
use Rattle.goal_reply.specs.declared.reply.Outcome.TheVariants as outcome
use Rattle.lrat_lines.specs.Replay.{TextComesTo}
use Rattle.lrat_lines.specs.Replay.Verdict.{Accepted}
use Rattle.cdcl_solver.specs.Progress.{opened, turned}
use Rattle.search_learn.specs.Machine.{Machine}
use Rattle.search_learn.specs.declared.Turn.TheVariants.{More}
use Rattle.tseitin.specs.Clauses.{AreConeOf}
use Rattle.goal_alone.specs.Formula.{goal_clauses, goal_variables}
use Rattle.goal_alone.specs.Alone.{Answer}
use Rattle.goal_alone.specs.Told.{IfProved, IfFalse, IsAnswer}
use Rattle.gate_world.specs.Work.{Problem, Work, End, Loading, Probing, Walking, Searching, Ended, Replied, OutOfMemory, NoRoom, CancelledBy, edge_of}
use Rattle.gate_world.specs.declared.solve.Solving.{Solving}
use Rattle.gate_world.specs.declared.solve.Solved.{Solved}
use Rattle.gate_world.specs.declared.solve.Solved.TheVariants as solved

-- The search of the goal's clauses is at this state of the machine, which goes on.
pub record IsSearchOf (p : Problem) (budget : ℕ) (s : Solving) (m : Machine) : Type 0 where
  pub cone : AreConeOf (edge_of p) s.cone.nodes.items s.cone.root
  pub steps : ℕ
  pub reached : s.search ≡ turned steps (opened (goal_variables p.hyps p.concl) (goal_clauses p.hyps p.concl) budget)
  pub machine : s.search.machine ≡ m
  pub going : m.state.end ≡ More

abbrev pub ShowsSearch : Problem → ℕ → Solving → Work → Type 0
ShowsSearch p budget s (Loading e es g gs) = ⊥
ShowsSearch p budget s (Probing g gs q) = ⊥
ShowsSearch p budget s (Walking e es) = ⊥
ShowsSearch p budget s (Searching m) = IsSearchOf p budget s m
ShowsSearch p budget s (Ended end) = ⊥

-- The reply is this answer. Want of memory is an end of its own.
abbrev pub IsReplyOf : Reply → Answer → Type 0
IsReplyOf reply.Memory a = ⊥
IsReplyOf r a = IsAnswer r a

-- what is known of a reply beside what it says: a proved goal is valid, and a check of its certificate accepts it; the
-- values of a false one falsify it
pub record IsBacked (g : Goal) (r : Reply) : Type 0 where
  pub proved : IfProved r (λ text. IsValid g.binders g.hyps g.concl)
  pub accepted : IfProved r (λ text. (most : ℕ) → length text ≤ most → TextComesTo (goal_clauses g.hyps g.concl) most text Accepted)
  pub refuted : IfFalse r (λ values. AreValues g.binders values × Falsifies g.hyps g.concl values)

-- the search goes on, or the goal has this reply
abbrev pub ShowsSolved : Problem → ℕ → Solved → Work → Type 0
ShowsSolved p budget (solved.More s) w = ShowsSearch p budget s w
ShowsSolved p budget (solved.Ended r) w = (a : Answer) × (w ≡ Ended (Replied a)) × IsReplyOf r a

abbrev pub IfEnded : Solved → (Reply → Type 0) → Type 0
IfEnded (solved.More s) P = Unit {0}
IfEnded (solved.Ended r) P = P r

-- the outcome is this end
abbrev pub IsOutcomeOf : Outcome → End → Type 0
IsOutcomeOf (outcome.Replied r) (Replied a) = IsReplyOf r a
IsOutcomeOf (outcome.Replied r) OutOfMemory = r ≡ reply.Memory
IsOutcomeOf (outcome.Replied r) NoRoom = ⊥
IsOutcomeOf (outcome.Replied r) (CancelledBy c) = ⊥
IsOutcomeOf outcome.Full (Replied a) = ⊥
IsOutcomeOf outcome.Full OutOfMemory = ⊥
IsOutcomeOf outcome.Full NoRoom = Unit {0}
IsOutcomeOf outcome.Full (CancelledBy c) = ⊥
IsOutcomeOf (outcome.Cancelled by) (Replied a) = ⊥
IsOutcomeOf (outcome.Cancelled by) OutOfMemory = ⊥
IsOutcomeOf (outcome.Cancelled by) NoRoom = ⊥
IsOutcomeOf (outcome.Cancelled by) (CancelledBy c) = by ≡ c

-- what is known of the outcome
abbrev pub IsOutcomeBacked : Goal → Outcome → Type 0
IsOutcomeBacked g (outcome.Replied r) = IsBacked g r
IsOutcomeBacked g outcome.Full = Unit {0}
IsOutcomeBacked g (outcome.Cancelled by) = Unit {0}
