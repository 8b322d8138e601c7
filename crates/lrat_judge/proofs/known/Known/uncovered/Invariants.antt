use Rattle.std.proofs.Common.{◌≡◌}
use Rattle.std.specs.List.{find}
use Rattle.lrat_judge.specs.Named.{is_uncovered}
use Rattle.lrat_judge.proofs.Entries.{entries}
use Rattle.lrat_judge.proofs.known.Known.uncovered.Given as goal

abbrev pub invariant-loop-id : goal.invariant-loop-id
invariant-loop-id l = find (is_uncovered l.marks l.pivot l.named) l.self ≡ find (is_uncovered l.marks l.pivot l.named) (entries l.id-iterator)
