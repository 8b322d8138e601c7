use Rattle.std.proofs.Common.{◌≡◌, ◌+◌, length, take, drop}
use Rattle.std.specs.Vec.Iter.{into_iter_items}
use Rattle.bvd_report.specs.Shown.{parts_shown}
use Rattle.bvd_top.specs.Listed.{all_held, parts_by}
use Rattle.bvd_top.proofs.scheduling.parts_of.Given as goal

abbrev pub invariant-files : goal.invariant-files
invariant-files l = record {
  parts : parts_shown l.parts.items ≡ parts_by 1 (take l.file-index l.files) (into_iter_items l.initial.outcomes);
  rest : into_iter_items l.outcomes ≡ drop (length (all_held (take l.file-index l.files))) (into_iter_items l.initial.outcomes);
  number : l.number ≡ 1 + length (all_held (take l.file-index l.files));
}
