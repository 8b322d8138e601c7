use Rattle.std.proofs.Common.{◌≡◌, sym, arith, false, nat_eq}
use Rattle.std.proofs.lemmas.Grind.{common_steps}
use Rattle.bv_value.proofs.Signs.{smod_is}
use Rattle.bv_value.proofs.Bv.smod.Goals as goal

pub returns-else-number-eq0 : goal.returns-else-number-eq0
returns-else-number-eq0 c =
    let some : nat_eq c.args.other.now.number 0 ≡ false = grind (arith, common_steps) in
    let e = smod_is c.args.self.now c.args.other.now c.is_negative.result c.is_negative-else-number-eq0.result c.is_negative.ensures.vector
    c.is_negative-else-number-eq0.ensures.vector c.requires some (sym c.is_negative.ensures.value) (sym c.is_negative-else-number-eq0.ensures.value) in
    cc
