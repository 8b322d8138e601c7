use Rattle.std.proofs.Common.{◌≡◌, map, take}
use Rattle.bvd_top.specs.Listed.{all_held}
use Rattle.bvd_top.proofs.scheduling.goals_in.Given as goal

abbrev pub invariant-files : goal.invariant-files
invariant-files l = map (λ g. g.now) l.goals.items ≡ all_held (take l.file-index l.files)
