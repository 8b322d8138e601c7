use Rattle.std.proofs.Common.{◌≡◌, [], replicate}
use Rattle.search_watch.specs.Visits.{entries_of}
use Rattle.search_watch.proofs.watches.Watches.new.Given as goal

abbrev pub invariant-loop : goal.invariant-loop
invariant-loop l = entries_of l.lists.items ≡ replicate l.counter []
