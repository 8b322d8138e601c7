-- What a seat knows in the middle of a search.
use Rattle.std.specs.Prelude.{◌≡◌, ◌≢◌, ℕ, ◌-◌, ◌<◌, List, ⊤}
use Rattle.gate_probe.specs.Words.{word_at}
use Rattle.gate_probe.specs.Sound.{probed}
use Rattle.gate_probe.specs.Moves.{Probe, IsMove}
use Rattle.gate_probe.specs.declared.prober.Move.{Move}
use Rattle.gate_probe.specs.declared.prober.Move.TheVariants.{Load, Claim, Found, Full}

-- the node that was found has the wanted word
abbrev pub IsTold : List ℕ → ℕ → Move → Type 0
IsTold seen word (Load s) = ⊤
IsTold seen word (Claim s w) = ⊤
IsTold seen word (Found node) = word_at seen (node - 8193) ≡ word
IsTold seen word Full = ⊤

-- the passed places were seen with other words
pub record IsSearching (seen : List ℕ) (p : Probe) : Type 0 where
  pub others : (k : ℕ) → k < p.passed → (word_at seen (probed p.places p.from k) ≢ 0) × (word_at seen (probed p.places p.from k) ≢ p.word)
  pub told : IsTold seen p.word p.last
  pub move : IsMove p p.last
