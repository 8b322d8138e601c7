use Rattle.std.proofs.Common.{ℕ, ◌≤◌, ◌-◌, ◌⊎◌, length}
use Rattle.bv_lex.specs.Letters.{goes_on_name}
use Rattle.bv_lex.specs.Words.{Characters}
use Rattle.bv_lex.proofs.names.name_end.Given as goal

abbrev pub invariant-characters : goal.invariant-characters
invariant-characters l = record {
  ahead : l.from ≤ l.at;
  within : l.at ≤ length l.text;
  built : Characters goes_on_name l.text l.from l.at;
  on : (m : ℕ) → Characters goes_on_name l.text l.from m → (m ≤ l.at) ⊎ Characters goes_on_name l.text l.at m;
}

abbrev pub decreases-characters : goal.decreases-characters
decreases-characters l = length l.text - l.at
