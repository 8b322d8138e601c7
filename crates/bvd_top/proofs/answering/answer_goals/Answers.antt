use Rattle.std.proofs.Common.{◌≡◌, ◌∙◌, ◌+◌, ◌≤◌, ◌∷◌, [], map, take, arith, ap, length}
use Rattle.std.proofs.lemmas.List.{map-append, length-map, length-take-le}
use Rattle.std.specs.Prelude.{All}
use Rattle.std.proofs.Common.{sym, subst, List}
use Rattle.std.proofs.lemmas.List.Elements.{All-push}
use Rattle.bvd_report.specs.declared.told.Line.{Line}
use Rattle.bvd_report.specs.Tellable.{IsLine}
use Rattle.bv_expr.specs.Statement.{statement_of}
use Rattle.bvd_words.specs.Asked.{request_shown}
use Rattle.bvd_report.specs.Shown.{line_shown, lines_shown}
use Rattle.bvd_top.proofs.FilesRead.{next_taken}
use Rattle.bvd_top.proofs.GoalsTold.{told_next}
use Rattle.bvd_top.proofs.answering.answer_goals.Goals as goal

pub goals-preserved : goal.goals-preserved
goals-preserved g c =
    let line = c.in_ok-line.line in
    let item = c.goal-item.result in
    let here = take c.goals.goal-index c.args.goals.now in
    let within : c.goals.goal-index ≤ length c.args.goals.now = omega arith in
    let count : length (map statement_of here) ≡ c.goals.goal-index = length-map here statement_of ∙ length-take-le c.goals.goal-index c.args.goals.now within in
    let goals = ap (map statement_of) (next_taken c.args.goals.now c.goals.goal-index item c.goals-test.true c.goal-item.is) ∙ map-append statement_of here (item ∷ []) in
    let lines = ap lines_shown c.in_ok-keep.ensures ∙ map-append line_shown c.goals.lines.items (line ∷ []) in
    record {
      told = told_next (request_shown c.args.request.now) (g.K.Keeper.files c.args.keeper.now) (g.K.Keeper.files c.goals.keeper) (g.K.Keeper.missing c.args.keeper.now) (g.K.Keeper.missing c.goals.keeper)
          (g.K.Keeper.missing c.line_of.new.keeper) c.args.first c.goals.number (map statement_of here) (map statement_of (take (c.goals.goal-index + 1) c.args.goals.now)) (lines_shown c.goals.lines.items)
          (lines_shown c.keep.new.items.items) (statement_of item) (line_shown line) c.goals.invariant.told c.goals.invariant.files c.goals.invariant.missing c.in_ok-line.ensures.missing
          (omega (arith, c.goals.invariant.number, count)) c.in_ok-line.ensures.line goals lines;
      tellable = subst (All IsLine) (sym {A = List Line} c.in_ok-keep.ensures) (All-push IsLine c.goals.lines.items line c.goals.invariant.tellable c.in_ok-line.ensures.tellable);
      number = omega (arith, c.goals.invariant.number);
      files = c.in_ok-line.ensures.files ∙ c.goals.invariant.files;
      faults = c.in_ok-line.ensures.cause.spared (λ failed. cc) ∙ c.goals.invariant.faults;
      missing = omega (arith, c.in_ok-line.ensures.missing, c.goals.invariant.missing);
    }
