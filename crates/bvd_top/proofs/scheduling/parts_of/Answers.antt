use Rattle.std.proofs.Common.{◌≡◌, ◌∙◌, ◌+◌, ◌≤◌, ◌++◌, ◌∷◌, [], take, drop, arith, ap, sym, length, length-append}
use Rattle.std.proofs.lemmas.List.{map-append, length-drop, drop-drop}
use Rattle.std.specs.Vec.Iter.{into_iter_items}
use Rattle.bvd_report.specs.Report.{Part}
use Rattle.bvd_report.specs.Shown.{found_shown, part_shown, parts_shown}
use Rattle.bvd_top.specs.Listed.{goals_held, all_held, found_by, parts_by}
use Rattle.bvd_top.proofs.FilesRead.{next_taken}
use Rattle.bvd_top.proofs.Together.{held_more, held_within, parts_split}
use Rattle.bvd_top.proofs.scheduling.parts_of.Goals as goal

pub found_of-requires-clause-few : goal.found_of-requires-clause-few
found_of-requires-clause-few c =
    let within = held_within c.args.files.now c.files.file-index c.file-item.result c.files-test.true c.file-item.is in
    omega (arith, within, c.files.invariant.number, c.requires.few)

pub found_of-requires-clause-enough : goal.found_of-requires-clause-enough
found_of-requires-clause-enough c =
    let outcomes = into_iter_items c.into_iter-outcomes.result in
    let before = length (all_held (take c.files.file-index c.args.files.now)) in
    let within = held_within c.args.files.now c.files.file-index c.file-item.result c.files-test.true c.file-item.is in
    omega (arith, within, ap length c.files.invariant.rest, length-drop before outcomes, ap length c.into_iter-outcomes.ensures.rest, c.requires.count)

pub overflow_add-number : goal.overflow_add-number
overflow_add-number c =
    let within = held_within c.args.files.now c.files.file-index c.file-item.result c.files-test.true c.file-item.is in
    omega (arith, within, c.files.invariant.number, ap length c.goals_stated.ensures, c.requires.few)

pub files-preserved : goal.files-preserved
files-preserved c =
    let file = c.file-item.result in
    let held = goals_held file.stated in
    let files = c.args.files.now in
    let here = take c.files.file-index files in
    let before = length (all_held here) in
    let outcomes = into_iter_items c.into_iter-outcomes.result in
    let next = into_iter_items c.files.outcomes in
    let taken = next_taken files c.files.file-index file c.files-test.true c.file-item.is in
    let count = ap length (ap all_held taken ∙ held_more here file) ∙ length-append (all_held here) held in
    let found = c.in_ok-found.ensures.found ∙ ap (λ k. found_by k file.stated next) c.files.invariant.number ∙ ap (found_by (1 + before) file.stated) c.files.invariant.rest in
    let add : Part → _ = λ part. parts_by 1 here outcomes ++ part ∷ [] in
    record {
      parts = ap parts_shown c.in_ok-keep.ensures ∙ map-append part_shown c.files.parts.items (_ ∷ []) ∙ ap (λ l. l ++ record { path = file.path.now; found = found_shown c.in_ok-found.found } ∷ []) c.files.invariant.parts
          ∙ ap (λ f. add (record { path = file.path.now; found = f })) found ∙ sym (ap (λ l. parts_by 1 l outcomes) taken ∙ parts_split 1 here (file ∷ []) outcomes);
      rest = c.in_ok-found.ensures.rest ∙ ap (drop (length held)) c.files.invariant.rest ∙ drop-drop (length held) before outcomes ∙ ap (λ n. drop n outcomes) (sym count);
      number = omega (arith, c.files.invariant.number, ap length c.goals_stated.ensures, count);
    }
