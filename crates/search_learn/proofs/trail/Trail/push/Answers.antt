use Rattle.std.proofs.Common.{length, arith, length-set}
use Rattle.search_learn.proofs.Arrays.{kept_pushed}
use Rattle.search_learn.proofs.trail.Trail.push.Goals as goal

pub invariant_of-self-2 : goal.invariant_of-self-2
invariant_of-self-2 c =
    let p = c.self.inside in
    let free = rw (← c.self.view_is) at c.requires.free in
    let within = rw (← c.self.view_is) at c.requires.within in
    let above = c.var.ensures.range.0 in
    let value = c.var.ensures.value in
    rw (c.in_ok-push.ensures.items, c.positive.ensures, value, length-set)
    (kept_pushed (length p.values.items) p.steps.items c.args.step p.values.items p.levels.items free (omega arith) within c.self.invariant)
