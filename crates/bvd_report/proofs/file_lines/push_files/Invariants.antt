use Rattle.std.proofs.Common.{◌≡◌, ◌+◌, ◌++◌, drop, length}
use Rattle.bvd_words.specs.Asked.{command_shown}
use Rattle.bvd_report.specs.Report.{lines_from, all_goals}
use Rattle.bvd_report.specs.Shown.{parts_shown}
use Rattle.bvd_report.proofs.file_lines.push_files.Given as goal

abbrev pub invariant-parts : goal.invariant-parts
invariant-parts l = record {
  number : l.number + length (all_goals (parts_shown (drop l.part-index l.parts))) ≡ 1 + length (all_goals (parts_shown l.parts));
  lines : l.out.items ++ lines_from (command_shown l.command) l.quiet l.number (parts_shown (drop l.part-index l.parts)) ≡ l.initial.out.items ++ lines_from (command_shown l.command) l.quiet 1 (parts_shown l.parts);
}
