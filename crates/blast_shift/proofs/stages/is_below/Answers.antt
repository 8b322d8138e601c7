use Rattle.std.proofs.Common.{◌∙◌, arith}
use Rattle.std.proofs.lemmas.Grind.{common_steps}
use Rattle.blast_shift.proofs.Staging.{overflow_bit}
use Rattle.blast_shift.proofs.stages.is_below.Goals as goal

pub returns-else-k-lt64-clause-value : goal.returns-else-k-lt64-clause-value
returns-else-k-lt64-clause-value c = (let h = c.if-k-lt64.false in grind (arith, common_steps)) ∙ overflow_bit c.args.k c.args.width c.if-k-lt64.false c.ranges.width.fits
