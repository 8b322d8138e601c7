-- Which of two limits is answered.
use Rattle.std.specs.Prelude.{ℕ, ◌==◌, ◌&&◌, ◌||◌, nat_lt, nat_le, Bool, Option, Some, None, if◌then◌else◌}
use Rattle.bv_lex.specs.declared.fault.What.TheVariants as what
use Rattle.bv_limits.specs.declared.plain.Met.{Met}
use Rattle.bv_limits.specs.Limits.{rank}

abbrev pub is_before : Met → Met → Bool
is_before m n = nat_lt m.at n.at || (m.at == n.at && nat_le (rank m.what) (rank n.what))

abbrev pub sooner : Option Met → Option Met → Option Met
sooner None n = n
sooner (Some m) None = Some m
sooner (Some m) (Some n) = if is_before m n then Some m else Some n

abbrev pub variable : Option ℕ → Option Met
variable None = None
variable (Some at) = Some (record { what = what.Variables; at = at })

abbrev pub depth : Option ℕ → Option Met
depth None = None
depth (Some at) = Some (record { what = what.Depth; at = at })
