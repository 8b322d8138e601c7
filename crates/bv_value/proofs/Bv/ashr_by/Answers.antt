use Rattle.std.proofs.Common.{◌∙◌, sym, ap}
use Rattle.bv_value.specs.Operations as is
use Rattle.bv_value.proofs.Signs.{ashr_low, ashr_high}
use Rattle.bv_value.proofs.Bv.ashr_by.Goals as goal

pub returns-then-is_negative : goal.returns-then-is_negative
returns-then-is_negative c =
    c.not-then-is_negative.ensures ∙ ap is.bitwise_not (c.lshr_by.ensures ∙ ap (λ v. is.lshr_by v c.args.n) c.not.ensures)
    ∙ ashr_high c.args.self.now c.args.n c.is_negative.ensures.vector (sym c.is_negative.ensures.value ∙ c.if-is_negative.true)

pub returns-else-is_negative : goal.returns-else-is_negative
returns-else-is_negative c =
    c.lshr_by-else-is_negative.ensures ∙ ashr_low c.args.self.now c.args.n c.is_negative.ensures.vector (sym c.is_negative.ensures.value ∙ c.if-is_negative.false)
