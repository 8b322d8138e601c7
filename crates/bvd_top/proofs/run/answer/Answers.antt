use Rattle.std.proofs.Common.{subst, refl, sym, List}
use Rattle.bvd_host.specs.Causes.{Rose}
use Rattle.bvd_words.specs.Asked.{request_shown}
use Rattle.bvd_top.specs.Stated.{AreStated}
use Rattle.bvd_top.specs.Parts.{AreAnswered, ArePartsOf}
use Rattle.bvd_top.specs.Shown.{files_shown}
use Rattle.bvd_top.specs.declared.parsing.File.{File}
use Rattle.bvd_top.proofs.Endings.{goes_on, parts_found}
use Rattle.bvd_top.proofs.run.answer.Goals as goal

pub returns-clause-ending : goal.returns-clause-ending
returns-clause-ending g c =
    let request = request_shown c.args.request.now in
    let files = g.K.Keeper.files c.args.keeper.now in
    let mid = g.K.Keeper.files c.files_of.new.keeper in
    let m0 = g.K.Keeper.missing c.args.keeper.now in
    let m1 = g.K.Keeper.missing c.files_of.new.keeper in
    let m2 = g.K.Keeper.missing c.finish.new.keeper in
    let stated = files_shown c.deref.result.now in
    let are = subst (λ (l : List File). AreStated files (Rose m0 m1) request.files (files_shown l)) (sym {A = List File} c.deref.ensures.value) c.in_ok-files.ensures.stated in
    let faults = c.in_ok-files.ensures.cause.spared (λ failed. cc) in
    goes_on (λ ps. AreAnswered request mid (Rose m1 m2) stated ps) (λ ps. ArePartsOf files (Rose m0 m2) request ps) request _ _ _ _
    (λ parts found. parts_found request files mid m0 m1 m2 stated parts are c.in_ok-files.ensures.files c.in_ok-files.ensures.missing c.finish.ensures.counts.missing found)
    c.in_ok-files.ensures.files refl faults refl c.finish.ensures.ending
