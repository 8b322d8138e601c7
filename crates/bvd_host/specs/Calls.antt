-- The calls of an object in memory, of which some fail by their numbers.
use Rattle.std.specs.Prelude.{◌↔◌, ℕ, ◌+◌, ◌-◌, ◌^◌, min, Bool, List, IsTrue, Result, IsErrOf, nat_eq, if◌then◌else◌}
use Rattle.std.specs.List.{list_any}

-- the numbers of the calls that fail, counted from 1, and how many calls were made
pub record Calls : Type 0 where
  pub failing : List ℕ
  pub made : ℕ

-- one more than this, up to the last value of a u64
abbrev pub raised : ℕ → ℕ
raised n = min (n + 1) (2 ^ 64 - 1)

-- none was made yet
abbrev pub no_calls : List ℕ → Calls
no_calls failing = record { failing = failing; made = 0 }

-- one call more was made
abbrev pub next_call : Calls → Calls
next_call calls = record { failing = calls.failing; made = raised calls.made }

-- the call made last is one of those that fail
abbrev pub is_failing : Calls → Bool
is_failing calls = list_any (λ k. nat_eq k calls.made) calls.failing

-- the count of faults behind the call made last
abbrev pub faults_after : Calls → ℕ → ℕ
faults_after calls faults = if is_failing calls then raised faults else faults

-- the call made last answered this error exactly where it is one of those that fail
abbrev pub FailsExactly : {T E : Type 0} → E → Calls → Result T E → Type 0
FailsExactly stop calls result = IsErrOf result stop ↔ IsTrue (is_failing calls)
