use Rattle.std.proofs.Common.{◌<◌, suc, arith, ℕ, subst}
use Rattle.search_learn.proofs.Lubys.{twice, enough_bits}
use Rattle.search_learn.proofs.moves.luby.Goals as goal

pub loop-power-preserved : goal.loop-power-preserved
loop-power-preserved c =
    let k = c.loop-power.invariant.0.0 in
    let is = c.loop-power.invariant.0.1 in
    let t = twice k in
    let low = c.loop-power.invariant.1 in
    ((suc k, omega arith), omega arith)

pub loop-power-2-init : goal.loop-power-2-init
loop-power-2-init c =
    let k = c.loop-power.invariant.0.0 in
    let is = c.loop-power.invariant.0.1 in
    ((k, is, enough_bits k c.args.place (subst (λ (n : ℕ). c.args.place < n) is c.loop-power-test.false)), c.loop-power-test.false)
