use Rattle.std.proofs.Common.{◌≡◌, ◌∙◌, ◌++◌, ◌∷◌, [], map, take, ap, sym, append_assoc}
use Rattle.std.proofs.lemmas.List.{map-append}
use Rattle.bvd_top.proofs.FilesRead.{next_taken}
use Rattle.bvd_top.proofs.scheduling.push_goals.Goals as goal

pub more-preserved : goal.more-preserved
more-preserved c =
    let item = c.goal-item.result in
    let here = take c.more.goal-index c.args.more.now in
    let old = map (λ g. g.now) c.args.goals.now.items in
    let next = next_taken c.args.more.now c.more.goal-index item c.more-test.true c.goal-item.is in
    ap (map (λ g. g.now)) c.in_ok-keep.ensures ∙ map-append (λ g. g.now) c.more.goals.items (_ ∷ []) ∙ ap (λ l. l ++ item ∷ []) c.more.invariant
    ∙ append_assoc old here (item ∷ []) ∙ ap (λ l. old ++ l) (sym next)
