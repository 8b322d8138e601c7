use Rattle.std.proofs.Common.{◌≡◌, ◌+◌, take, drop}
use Rattle.std.specs.Vec.Iter.{into_iter_items}
use Rattle.bvd_report.specs.Shown.{lines_shown}
use Rattle.bvd_top.specs.Listed.{lines_by}
use Rattle.bvd_top.proofs.scheduling.lines_of.Given as goal

abbrev pub invariant-goals : goal.invariant-goals
invariant-goals l = record {
  lines : lines_shown l.lines.items ≡ lines_by l.first (take l.goal-index l.goals) (into_iter_items l.initial.outcomes);
  rest : into_iter_items l.outcomes ≡ drop l.goal-index (into_iter_items l.initial.outcomes);
  number : l.number ≡ l.first + l.goal-index;
}
