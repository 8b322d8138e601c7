use Rattle.std.proofs.Common.{◌≡◌, ◌≤◌, ◌+◌, map, take}
use Rattle.bvd_host.specs.Causes.{Rose}
use Rattle.bv_expr.specs.Statement.{statement_of}
use Rattle.bvd_words.specs.Asked.{request_shown}
use Rattle.bvd_report.specs.Shown.{lines_shown}
use Rattle.std.specs.Prelude.{All}
use Rattle.bvd_report.specs.Tellable.{IsLine}
use Rattle.bvd_top.specs.Told.{AreTold}
use Rattle.bvd_top.proofs.answering.answer_goals.Given as goal

abbrev pub invariant-goals : goal.invariant-goals
invariant-goals g l = record {
  told : AreTold (request_shown l.request) (g.K.Keeper.files l.initial.keeper) (Rose (g.K.Keeper.missing l.initial.keeper) (g.K.Keeper.missing l.keeper)) l.first (map statement_of (take l.goal-index l.goals)) (lines_shown l.lines.items);
  tellable : All IsLine l.lines.items;
  number : l.number ≡ l.first + l.goal-index;
  files : g.K.Keeper.files l.keeper ≡ g.K.Keeper.files l.initial.keeper;
  faults : g.K.Keeper.faults l.keeper ≡ g.K.Keeper.faults l.initial.keeper;
  missing : g.K.Keeper.missing l.initial.keeper ≤ g.K.Keeper.missing l.keeper;
}
