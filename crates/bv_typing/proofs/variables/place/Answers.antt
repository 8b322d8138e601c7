use Rattle.std.proofs.Common.{◌++◌, ap, arith, ◌∙◌}
use Rattle.bv_typing.proofs.Placing.{placed_next, placed_all}
use Rattle.bv_typing.proofs.variables.place.Goals as goal

pub loop-at-preserved : goal.loop-at-preserved
loop-at-preserved c = record {
  so_far = placed_next c.args.sort c.args.from c.loop-at.at c.args.bindings.now.items c.loop-at.bindings.items c.push.new.self.items c.loop-at.auto.at c.loop-at.invariant.so_far c.in_ok-push.ensures.items;
  within = omega arith;
}

pub returns : goal.returns
returns c =
    c.loop-at.invariant.so_far
    ∙ ap (λ v. c.args.bindings.now.items ++ v) (placed_all c.args.sort c.args.from c.loop-at.at c.args.to c.loop-at.invariant.within c.loop-at-test.false)
