use Rattle.std.proofs.Common.{ℕ, ◌<◌, ◌≤◌, ◌≡◌, List, length, map, get_or}
use Rattle.std.specs.List.{Contains}
use Rattle.bv_lex.specs.Words.{Stands}
use Rattle.bv_lex.proofs.signs.longest_of.Given as goal

abbrev pub invariant-loop-sign : goal.invariant-loop-sign
invariant-loop-sign l = record {
  there : 0 < l.best → (w : List ℕ) × Contains (map (λ s. s.now) l.table) w × Stands l.text l.at w × (length w ≡ l.best);
  longest : (k : ℕ) (w : List ℕ) → k < l.sign-index → get_or (map (λ s. s.now) l.table) k w ≡ w → Stands l.text l.at w → length w ≤ l.best;
}
