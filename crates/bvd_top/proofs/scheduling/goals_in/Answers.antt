use Rattle.std.proofs.Common.{◌≡◌, ◌∙◌, ◌++◌, ap, sym, take}
use Rattle.bvd_top.specs.Listed.{goals_held, all_held}
use Rattle.bvd_top.proofs.FilesRead.{next_taken}
use Rattle.bvd_top.proofs.Together.{held_more}
use Rattle.bvd_top.proofs.scheduling.goals_in.Goals as goal

pub files-preserved : goal.files-preserved
files-preserved c =
    let file = c.file-item.result in
    let here = take c.files.file-index c.args.files.now in
    let next = next_taken c.args.files.now c.files.file-index file c.files-test.true c.file-item.is in
    c.in_ok-push_goals.ensures ∙ ap (λ l. l ++ c.goals_stated.result.now) c.files.invariant ∙ ap (λ l. all_held here ++ l) c.goals_stated.ensures ∙ sym (ap all_held next ∙ held_more here file)
