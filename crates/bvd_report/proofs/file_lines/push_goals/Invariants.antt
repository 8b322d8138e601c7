use Rattle.std.proofs.Common.{◌≡◌, ◌+◌, ◌++◌, drop}
use Rattle.bvd_words.specs.Asked.{command_shown}
use Rattle.bvd_report.specs.Report.{goal_lines}
use Rattle.bvd_report.specs.Shown.{lines_shown}
use Rattle.bvd_report.proofs.file_lines.push_goals.Given as goal

abbrev pub invariant-goals : goal.invariant-goals
invariant-goals l = record {
  number : l.number ≡ l.line-index + l.first;
  lines : l.out.items ++ goal_lines (command_shown l.command) l.number (lines_shown (drop l.line-index l.goals)) ≡ l.initial.out.items ++ goal_lines (command_shown l.command) l.first (lines_shown l.goals);
}
