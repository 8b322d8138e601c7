use Rattle.std.proofs.Common.{◌∙◌, sym}
use Rattle.search_learn.proofs.Cutting.{cut_none}
use Rattle.search_learn.proofs.trail.Trail.cut.Goals as goal

pub returns : goal.returns
returns c =
    let h = c.in_default.ensures in
    let inv = c.loop.invariant in
    let low = cut_none c.loop.self.vars c.args.to c.loop.self.steps inv.machine h.none.1 in
    λ i. record { vars = (h.vars ∙ inv.vars) i; steps = (h.none.0 ∙ sym low ∙ inv.cut) i }
