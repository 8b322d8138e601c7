use Rattle.std.proofs.Common.{◌≡◌, ◌∙◌, ◌+◌, ◌≤◌, ◌∷◌, [], take, arith, ap, sym, subst, length, refl}
use Rattle.std.proofs.lemmas.List.{map-append, length-map}
use Rattle.bvd_host.specs.Causes.{Rose}
use Rattle.bvd_words.specs.Asked.{request_shown}
use Rattle.std.specs.Prelude.{All}
use Rattle.std.proofs.Common.{List}
use Rattle.std.proofs.lemmas.List.Elements.{All-push}
use Rattle.bvd_report.specs.Tellable.{IsPart}
use Rattle.bvd_report.specs.declared.told.Part.{Part}
use Rattle.bvd_report.specs.Report.{goals_of}
use Rattle.bvd_report.specs.Shown.{found_shown, line_shown, part_shown, parts_shown}
use Rattle.bvd_top.specs.declared.parsing.File.{File}
use Rattle.bvd_top.specs.Stated.{IsSmall, goals_stated}
use Rattle.bvd_top.specs.Shown.{stated_shown, file_shown, files_shown}
use Rattle.bvd_top.proofs.FilesRead.{next_taken}
use Rattle.bvd_top.proofs.GoalsTold.{found_next, found_count, goals_more}
use Rattle.bvd_top.proofs.answering.answer_all.Goals as goal

pub files-preserved : goal.files-preserved
files-preserved g c =
    let file = c.file-item.result in
    let part : Part = record { path = file.path; found = c.in_ok-found.found } in
    let here = take c.files.file-index c.args.files.now in
    let files = ap files_shown (next_taken c.args.files.now c.files.file-index file c.files-test.true c.file-item.is) ∙ map-append file_shown here (file ∷ []) in
    let parts = ap parts_shown c.in_ok-keep.ensures ∙ map-append part_shown c.files.parts.items (part ∷ []) in
    let more = goals_more (parts_shown c.files.parts.items) (parts_shown c.keep.new.items.items) (part_shown part) parts in
    let count : length c.goals_of.result.now ≡ length (goals_of (found_shown c.in_ok-found.found)) =
    let shown = length-map c.goals_of.result.now line_shown in omega (arith, shown, ap length c.goals_of.ensures) in
    let stated = found_count (request_shown c.args.request.now) (g.K.Keeper.files c.files.keeper) (Rose (g.K.Keeper.missing c.files.keeper) (g.K.Keeper.missing c.found_of.new.keeper)) c.files.number
    (stated_shown file.stated) (found_shown c.in_ok-found.found) c.in_ok-found.ensures.found in
    let P : File → Type 0 = λ f. IsSmall (stated_shown f.stated) in
    let small : length (goals_stated (stated_shown file.stated)) ≤ 1024 = subst P (sym c.file-item.is) (c.requires.small c.files.file-index file c.files-test.true) in
    record {
      found = found_next (request_shown c.args.request.now) (g.K.Keeper.files c.args.keeper.now) (g.K.Keeper.files c.files.keeper) (g.K.Keeper.missing c.args.keeper.now) (g.K.Keeper.missing c.files.keeper)
          (g.K.Keeper.missing c.found_of.new.keeper) 1 c.files.number (files_shown here) (files_shown (take (c.files.file-index + 1) c.args.files.now)) (parts_shown c.files.parts.items)
          (parts_shown c.keep.new.items.items) (file_shown file) (part_shown part) c.files.invariant.found c.files.invariant.files c.files.invariant.missing c.in_ok-found.ensures.missing
          c.files.invariant.number refl c.in_ok-found.ensures.found files parts;
      tellable = subst (All IsPart) (sym {A = List Part} c.in_ok-keep.ensures) (All-push IsPart c.files.parts.items part c.files.invariant.tellable c.in_ok-found.ensures.tellable);
      number = omega (arith, c.files.invariant.number, more, count);
      few = omega (arith, c.files.invariant.few, count, stated, small);
      files = c.in_ok-found.ensures.files ∙ c.files.invariant.files;
      faults = c.in_ok-found.ensures.cause.spared (λ failed. cc) ∙ c.files.invariant.faults;
      missing = omega (arith, c.in_ok-found.ensures.missing, c.files.invariant.missing);
    }
