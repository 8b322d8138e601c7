use Rattle.std.proofs.Common.{◌≡◌, ◌+◌, ◌∷◌, ◌∙◌, drop, ap, arith}
use Rattle.std.proofs.lemmas.Grind.{common_steps}
use Rattle.bvd_report.specs.Report.{certificates}
use Rattle.bvd_report.specs.Shown.{lines_shown, part_shown, parts_shown}
use Rattle.bvd_top.specs.Storing.{IsPartlyStored}
use Rattle.bvd_top.proofs.Stored.{on_err, stored-part, stored-part_cut}
use Rattle.bvd_top.proofs.storing.store_certificates.Goals as goal

pub returns-in_err-store_lines-clause-err : goal.returns-in_err-store_lines-clause-err
returns-in_err-store_lines-clause-err g c =
    let rest = drop (c.parts.part-index + 1) c.args.parts.now in
    let here : drop c.parts.part-index c.args.parts.now ≡ c.part-item.result ∷ rest = grind (arith, common_steps) in
    let all = certificates (parts_shown c.args.parts.now) in
    on_err c.from_residual.result (IsPartlyStored all (g.K.Keeper.files c.args.keeper.now) (g.K.Keeper.files c.store_lines.new.keeper))
    (stored-part_cut (part_shown c.part-item.result) (parts_shown rest) (parts_shown (drop c.parts.part-index c.args.parts.now)) (lines_shown c.goals_of.result.now) all _ _ _
    (ap parts_shown here) c.goals_of.ensures c.parts.invariant.files c.in_err-store_lines.ensures.err)

pub parts-preserved : goal.parts-preserved
parts-preserved g c =
    let rest = drop (c.parts.part-index + 1) c.args.parts.now in
    let here : drop c.parts.part-index c.args.parts.now ≡ c.part-item.result ∷ rest = grind (arith, common_steps) in
    record {
      files = stored-part (part_shown c.part-item.result) (parts_shown rest) (parts_shown (drop c.parts.part-index c.args.parts.now)) (lines_shown c.goals_of.result.now)
          (certificates (parts_shown c.args.parts.now)) _ _ _ (ap parts_shown here) c.goals_of.ensures c.parts.invariant.files c.in_ok-store_lines.ensures.ok;
      faults = c.in_ok-store_lines.ensures.cause.spared (λ failed. cc) ∙ c.parts.invariant.faults;
      missing = c.store_lines.ensures.missing ∙ c.parts.invariant.missing;
    }
