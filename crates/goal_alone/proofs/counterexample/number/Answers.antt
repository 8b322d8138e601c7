use Rattle.std.proofs.Common.{◌<◌, ◌≤◌, arith, rules}
use Rattle.std.proofs.lemmas.Grind.{common_steps}
use Rattle.goal_alone.specs.Inputs.{has}
use Rattle.goal_alone.proofs.Numbers.{upper_below}
use Rattle.goal_alone.proofs.counterexample.number.Goals as goal

pub overflow_mul-number : goal.overflow_mul-number
overflow_mul-number c =
    let more : 0 < c.loop-bit.bit = omega arith in
    let low = upper_below (has c.args.inputs.now c.args.variable) c.args.width c.loop-bit.bit c.loop-bit.number more c.requires c.loop-bit.invariant.so_far in
    omega arith

pub overflow_add-number : goal.overflow_add-number
overflow_add-number c =
    let more : 0 < c.loop-bit.bit = omega arith in
    let low = upper_below (has c.args.inputs.now c.args.variable) c.args.width c.loop-bit.bit c.loop-bit.number more c.requires c.loop-bit.invariant.so_far in
    let one : c.from.result ≤ 1 = first_of (grind (arith, common_steps), search rules, omega arith) in
    omega arith
