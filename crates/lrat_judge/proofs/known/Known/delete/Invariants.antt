use Rattle.std.proofs.Common.{◌≡◌, drop}
use Rattle.std.specs.Ordering.{nat_cmp}
use Rattle.std.specs.List.Sorted.{IsStrictlySortedBy}
use Rattle.std.specs.Map.{keys_of}
use Rattle.lrat_lines.specs.Judge.{delete_clauses}
use Rattle.lrat_judge.proofs.Entries.{entries}
use Rattle.lrat_judge.proofs.known.Known.delete.Given as goal

abbrev pub invariant-loop-id : goal.invariant-loop-id
invariant-loop-id l = record {
  rest : delete_clauses (entries l.self-inside.clauses.entries) (drop l.id-index l.ids) ≡ delete_clauses l.fn.self l.ids;
  sorted : IsStrictlySortedBy nat_cmp (keys_of l.self-inside.clauses.entries);
}
