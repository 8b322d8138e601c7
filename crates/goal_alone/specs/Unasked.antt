-- How many of the first places a walk hasn't asked for.
use Rattle.std.specs.Prelude.{ℕ, zero, suc, ◌+◌, Bool, if◌then◌else◌}

unfoldable pub unasked : (ℕ → Bool) → ℕ → ℕ
unasked asked zero = 0
unasked asked (suc n) = (if asked n then 0 else 1) + unasked asked n
