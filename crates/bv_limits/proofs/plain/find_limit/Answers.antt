use Rattle.std.proofs.Common.{arith, sym, ◌∙◌}
use Rattle.bv_limits.specs.Counting.{limit_there}
use Rattle.bv_limits.proofs.Loops.{heads_fit, nodes_fit, counted_next, clean_next}
use Rattle.bv_limits.proofs.plain.find_limit.Goals as goal

pub counted-counters-requires-clause-heads : goal.counted-counters-requires-clause-heads
counted-counters-requires-clause-heads c = heads_fit c.args.taken.now c.loop-at.at c.loop-at.counters c.loop-at.invariant.so_far (omega arith)

pub counted-counters-requires-clause-nodes : goal.counted-counters-requires-clause-nodes
counted-counters-requires-clause-nodes c = nodes_fit c.args.taken.now c.loop-at.at c.loop-at.counters c.loop-at.invariant.so_far (omega arith)

pub loop-at-preserved : goal.loop-at-preserved
loop-at-preserved c = record {
  within = omega (arith, c.loop-at-test.true);
  so_far = counted_next c.args.taken.now c.loop-at.at _ c.loop-at.counters _ c.taken_at-next.ensures c.loop-at.invariant.so_far c.counted-counters.ensures;
  clean = clean_next c.args.tokens.now c.args.taken.now c.loop-at.at c.loop-at.invariant.clean ((λ k. limit_there (sym c.token_at.ensures k) (sym c.taken_at-next.ensures k) (sym c.loop-at.invariant.so_far k)) ∙ sym c.limit_there-found.ensures ∙ c.in_default.is);
}
