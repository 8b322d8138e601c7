-- Numbers of constants.
use Rattle.std.proofs.Common.{◌≡◌, ℕ, ◌+◌, ◌-◌, ◌^◌, ◌<◌, arith}
use Rattle.std.specs.Prelude.{◌==◌}
use Rattle.std.proofs.lemmas.Grind.{common_steps}

-- all bits are ones where none is after turning all over
pub all_ones : (w n : ℕ) → n < 2 ^ w → (2 ^ w - 1 - n == 0) ≡ (n + 1 == 2 ^ w)
all_ones w n h = grind (arith, common_steps)
