use Rattle.std.proofs.Common.{◌≡◌, ◌+◌, ◌∷◌, ◌∙◌, drop, ap, arith}
use Rattle.std.proofs.lemmas.Grind.{common_steps}
use Rattle.bvd_report.specs.Report.{certificates_of}
use Rattle.bvd_report.specs.Shown.{line_shown, lines_shown}
use Rattle.bvd_top.specs.Storing.{IsPartlyStored}
use Rattle.bvd_top.proofs.Stored.{on_err, stored-line, stored-line_cut}
use Rattle.bvd_top.proofs.storing.store_lines.Goals as goal

pub returns-in_err-store_line-clause-err : goal.returns-in_err-store_line-clause-err
returns-in_err-store_line-clause-err g c =
    let rest = drop (c.lines.line-index + 1) c.args.lines.now in
    let here : drop c.lines.line-index c.args.lines.now ≡ c.line-item.result ∷ rest = grind (arith, common_steps) in
    let all = certificates_of (lines_shown c.args.lines.now) in
    on_err c.from_residual.result (IsPartlyStored all (g.K.Keeper.files c.args.keeper.now) (g.K.Keeper.files c.store_line.new.keeper))
    (stored-line_cut (line_shown c.line-item.result) (lines_shown rest) (lines_shown (drop c.lines.line-index c.args.lines.now)) all _ _ _
    (ap lines_shown here) c.lines.invariant.files c.in_err-store_line.ensures.err)

pub lines-preserved : goal.lines-preserved
lines-preserved g c =
    let rest = drop (c.lines.line-index + 1) c.args.lines.now in
    let here : drop c.lines.line-index c.args.lines.now ≡ c.line-item.result ∷ rest = grind (arith, common_steps) in
    record {
      files = stored-line (line_shown c.line-item.result) (lines_shown rest) (lines_shown (drop c.lines.line-index c.args.lines.now)) (certificates_of (lines_shown c.args.lines.now)) _ _ _
          (ap lines_shown here) c.lines.invariant.files c.in_ok-store_line.ensures.ok;
      faults = c.in_ok-store_line.ensures.cause.spared (λ failed. cc) ∙ c.lines.invariant.faults;
      missing = c.store_line.ensures.missing ∙ c.lines.invariant.missing;
    }
