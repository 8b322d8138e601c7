-- Counts that rise between moments.
use Rattle.std.proofs.Common.{ℕ, ◌≤◌, arith}
use Rattle.bvd_host.specs.Causes.{Rose}

pub rose_later : (a b c : ℕ) → b ≤ c → Rose a b → Rose a c
rose_later a b c h r = omega arith

pub rose_earlier : (a b c : ℕ) → a ≤ b → Rose b c → Rose a c
rose_earlier a b c h r = omega arith
