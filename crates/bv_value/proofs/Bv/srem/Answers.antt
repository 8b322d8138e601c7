use Rattle.std.proofs.Common.{◌≡◌, sym, arith, false, nat_eq}
use Rattle.std.proofs.lemmas.Grind.{common_steps}
use Rattle.bv_value.proofs.Signs.{srem_is}
use Rattle.bv_value.proofs.Bv.srem.Goals as goal

pub returns-else-number-eq0 : goal.returns-else-number-eq0
returns-else-number-eq0 c =
    let some : nat_eq c.args.other.now.number 0 ≡ false = grind (arith, common_steps) in
    let e = srem_is c.args.self.now c.args.other.now c.is_negative.result c.is_negative.ensures.vector some (sym c.is_negative.ensures.value) in
    cc
