use Rattle.std.proofs.Common.{ℕ, ◌≡◌, ◌<◌, ◌+◌, ◌-◌, ◌*◌, ◌^◌, drop, get_or, length}
use Rattle.search_learn.specs.Machine as machine
use Rattle.search_learn.specs.Cases.{times}
use Rattle.search_watch.proofs.moves.raise.Given as goal

abbrev pub invariant-loop-lit : goal.invariant-loop-lit
invariant-loop-lit l = record {
  size : length l.heap.scores ≡ length l.initial.heap.scores;
  members : l.heap.members ≡ l.initial.heap.members;
  room : (v : ℕ) → 0 < v → get_or l.heap.scores (v - 1) 0 + l.by * times v (drop l.lit-index l.lits) < 2 ^ 128;
  raised : machine.raise l.by l.initial.heap.scores l.lits ≡ machine.raise l.by l.heap.scores (drop l.lit-index l.lits);
}
