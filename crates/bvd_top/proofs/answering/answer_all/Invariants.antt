use Rattle.std.proofs.Common.{◌≡◌, ◌≤◌, ◌+◌, ◌*◌, take, length}
use Rattle.bvd_host.specs.Causes.{Rose}
use Rattle.bvd_words.specs.Asked.{request_shown}
use Rattle.bvd_report.specs.Report.{all_goals}
use Rattle.bvd_report.specs.Shown.{parts_shown}
use Rattle.std.specs.Prelude.{All}
use Rattle.bvd_report.specs.Tellable.{IsPart}
use Rattle.bvd_top.specs.Parts.{AreFound}
use Rattle.bvd_top.specs.Shown.{files_shown}
use Rattle.bvd_top.proofs.answering.answer_all.Given as goal

abbrev pub invariant-files : goal.invariant-files
invariant-files g l = record {
  found : AreFound (request_shown l.request) (g.K.Keeper.files l.initial.keeper) (Rose (g.K.Keeper.missing l.initial.keeper) (g.K.Keeper.missing l.keeper)) 1 (files_shown (take l.file-index l.files)) (parts_shown l.parts.items);
  tellable : All IsPart l.parts.items;
  number : l.number ≡ 1 + length (all_goals (parts_shown l.parts.items));
  few : l.number ≤ 1 + 1024 * l.file-index;
  files : g.K.Keeper.files l.keeper ≡ g.K.Keeper.files l.initial.keeper;
  faults : g.K.Keeper.faults l.keeper ≡ g.K.Keeper.faults l.initial.keeper;
  missing : g.K.Keeper.missing l.initial.keeper ≤ g.K.Keeper.missing l.keeper;
}
