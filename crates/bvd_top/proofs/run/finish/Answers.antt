use Rattle.std.proofs.Common.{Err, inl, inr, ◌∙◌, refl, ap, subst}
use Rattle.std.specs.Prelude.{option_map}
use Rattle.std.proofs.lemmas.Result.{err_from_is_err_and}
use Rattle.bvd_host.specs.Causes.{Rose}
use Rattle.bvd_words.specs.Asked.{request_shown}
use Rattle.bvd_report.specs.Report.{certificates, report, status_of}
use Rattle.bvd_report.specs.Shown.{gates_shown, parts_shown}
use Rattle.bvd_top.specs.Storing.{IsPartlyStored, with_all}
use Rattle.bvd_top.specs.Parts.{AreAnswered}
use Rattle.bvd_top.specs.Shown.{files_shown}
use Rattle.bvd_top.specs.Ending.{status_in}
use Rattle.bvd_top.proofs.Endings.{found_at, unstored, reported, stopped}
use Rattle.bvd_top.proofs.run.finish.Goals as goal

pub returns-in_err-store_certificates-clause-ending :
    goal.returns-in_err-store_certificates-clause-ending
returns-in_err-store_certificates-clause-ending g c =
    let p = err_from_is_err_and c.from_residual-in_err-store_certificates.result c.from_residual-in_err-store_certificates.ensures.1 in
    let request = request_shown c.args.request.now in
    let files = g.K.Keeper.files c.args.keeper.now in
    let m0 = g.K.Keeper.missing c.args.keeper.now in
    let m1 = g.K.Keeper.missing c.answered.new.keeper in
    let m2 = g.K.Keeper.missing c.store_certificates.new.keeper in
    let stated = files_shown c.args.files.now in
    let parts = parts_shown c.in_ok-parts.parts.items in
    let stored = subst (λ l. IsPartlyStored (certificates (parts_shown l)) (g.K.Keeper.files c.answered.new.keeper) (g.K.Keeper.files c.store_certificates.new.keeper)) c.deref-2.ensures.value c.in_err-store_certificates.ensures.err in
    let faults = c.in_ok-parts.ensures.cause.spared (λ failed. cc) in
    rw (p.1, p.2) (unstored (λ ps. AreAnswered request files (Rose m0 m2) stated ps) request _ _ (g.K.Keeper.files c.answered.new.keeper) (g.K.Keeper.faults c.answered.new.keeper)
    parts c.in_err-store_certificates.field-0.0 (found_at request files m0 m1 m2 stated parts c.in_err-store_certificates.ensures.missing c.in_ok-parts.ensures.found) c.in_ok-parts.ensures.files faults
    stored (record { nothing_told = refl; sink_stays = refl }) c.in_err-store_certificates.ensures.cause)

pub returns-in_err-tell-clause-ending : goal.returns-in_err-tell-clause-ending
returns-in_err-tell-clause-ending g c =
    let p = err_from_is_err_and c.from_residual-in_err-tell.result c.from_residual-in_err-tell.ensures.1 in
    let request = request_shown c.args.request.now in
    let files = g.K.Keeper.files c.args.keeper.now in
    let m0 = g.K.Keeper.missing c.args.keeper.now in
    let m1 = g.K.Keeper.missing c.answered.new.keeper in
    let m2 = g.K.Keeper.missing c.store_certificates.new.keeper in
    let stated = files_shown c.args.files.now in
    let parts = parts_shown c.in_ok-parts.parts.items in
    let text = c.deref-3.ensures.value ∙ c.in_ok-text.ensures ∙ ap (λ l. report request (parts_shown l) (option_map gates_shown c.in_ok-parts.gates)) c.deref.ensures.value
    ∙ ap (report request parts) c.in_ok-parts.ensures.gates in
    let stored = c.in_ok-store_certificates.ensures.ok ∙ ap (λ l. option_map (with_all (certificates (parts_shown l))) (g.K.Keeper.files c.answered.new.keeper)) c.deref-2.ensures.value in
    let faults = c.in_ok-parts.ensures.cause.spared (λ failed. cc) in
    let kept = c.in_ok-store_certificates.ensures.cause.spared (λ failed. cc) in
    let part = c.in_err-tell.ensures.err in
    rw (p.1, p.2) (reported (λ ps. AreAnswered request files (Rose m0 m2) stated ps) request _ _ (g.K.Keeper.files c.answered.new.keeper) (g.K.Keeper.faults c.answered.new.keeper)
    parts c.deref-3.result.now (status_of parts) (status_in (Err c.in_err-tell.field-0.0)) (found_at request files m0 m1 m2 stated parts c.in_ok-store_certificates.ensures.missing c.in_ok-parts.ensures.found)
    c.in_ok-parts.ensures.files stored faults kept text refl
    (inr (part.0, part.1, part.2, stopped c.in_err-tell.field-0.0 (g.S.Sink.faults c.args.out.now) (g.S.Sink.faults c.tell.new.out) c.in_err-tell.ensures.cause)))

pub returns-clause-ending : goal.returns-clause-ending
returns-clause-ending g c =
    let request = request_shown c.args.request.now in
    let files = g.K.Keeper.files c.args.keeper.now in
    let m0 = g.K.Keeper.missing c.args.keeper.now in
    let m1 = g.K.Keeper.missing c.answered.new.keeper in
    let m2 = g.K.Keeper.missing c.store_certificates.new.keeper in
    let stated = files_shown c.args.files.now in
    let parts = parts_shown c.in_ok-parts.parts.items in
    let text = c.deref-3.ensures.value ∙ c.in_ok-text.ensures ∙ ap (λ l. report request (parts_shown l) (option_map gates_shown c.in_ok-parts.gates)) c.deref.ensures.value
    ∙ ap (report request parts) c.in_ok-parts.ensures.gates in
    let own = c.status_of.ensures ∙ ap (λ l. status_of (parts_shown l)) c.deref-4.ensures.value in
    let stored = c.in_ok-store_certificates.ensures.ok ∙ ap (λ l. option_map (with_all (certificates (parts_shown l))) (g.K.Keeper.files c.answered.new.keeper)) c.deref-2.ensures.value in
    let faults = c.in_ok-parts.ensures.cause.spared (λ failed. cc) in
    let kept = c.in_ok-store_certificates.ensures.cause.spared (λ failed. cc) in
    let told = c.in_ok-tell.ensures.cause.spared (λ failed. cc) in
    reported (λ ps. AreAnswered request files (Rose m0 m2) stated ps) request _ _ (g.K.Keeper.files c.answered.new.keeper) (g.K.Keeper.faults c.answered.new.keeper)
    parts c.deref-3.result.now c.status_of.result c.status_of.result (found_at request files m0 m1 m2 stated parts c.in_ok-store_certificates.ensures.missing c.in_ok-parts.ensures.found) c.in_ok-parts.ensures.files
    stored faults kept text own
    (inl (c.in_ok-tell.ensures.ok, refl, told))
