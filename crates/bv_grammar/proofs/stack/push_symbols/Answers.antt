use Rattle.std.proofs.Common.{arith}
use Rattle.bv_grammar.proofs.Pushing.{further_down}
use Rattle.bv_grammar.proofs.stack.push_symbols.Goals as goal

pub loop-left-preserved : goal.loop-left-preserved
loop-left-preserved c = record {
  within = omega arith;
  held = λ a. further_down _ _ _ c.args.stack.now.symbols.items _ _ c.loop-left-test.true c.loop-left.invariant.within c.in_ok-push.ensures a (c.loop-left.invariant.held a);
}
