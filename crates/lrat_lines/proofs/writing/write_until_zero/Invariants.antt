use Rattle.std.proofs.Common.{◌≡◌, ◌++◌, map, take}
use Rattle.lrat_lines.specs.Spaced.{spaced}
use Rattle.lrat_lines.proofs.writing.write_until_zero.Given as goal

abbrev pub invariant-loop-item : goal.invariant-loop-item
invariant-loop-item g l = l.out.items ≡ l.initial.out.items ++ spaced (map g.T.Spelled.spelled (take l.item-index l.items))
