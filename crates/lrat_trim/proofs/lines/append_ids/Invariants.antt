use Rattle.std.proofs.Common.{◌≡◌, ◌++◌, take}
use Rattle.lrat_trim.proofs.lines.append_ids.Given as goal

abbrev pub invariant-loop-id : goal.invariant-loop-id
invariant-loop-id l = l.out.items ≡ l.initial.out.items ++ take l.id-index l.ids
