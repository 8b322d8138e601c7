-- One search for a gate's word, as moves: from its home on, place by place and round the end.
use Rattle.std.specs.Prelude.{◌≡◌, ◌≢◌, ◌⊎◌, ℕ, ◌+◌, ◌-◌, ◌*◌, ◌==◌, ◌||◌, ◌<◌, if◌then◌else◌, ⊤}
use Rattle.gate_shape.specs.Literal.{Literal}
use Rattle.gate_shape.specs.Word.{gate_word}
use Rattle.gate_probe.specs.Sound.{home, probed}
use Rattle.gate_probe.specs.declared.prober.Move.{Move}
use Rattle.gate_probe.specs.declared.prober.Move.TheVariants.{Load, Claim, Found, Full}

-- the number of places, the wanted word, its home, how many other words were seen, and the last move
pub record Probe : Type 0 where
  pub places : ℕ
  pub word : ℕ
  pub from : ℕ
  pub passed : ℕ
  pub last : Move

abbrev pub started : ℕ → Literal → Literal → ℕ → Probe
started n left right level = record { places = n; word = gate_word level left right; from = home n left right; passed = 0; last = Load (home n left right) }

-- the place that the search is at, behind those that it passed
abbrev pub place_of : Probe → ℕ
place_of p = probed p.places p.from p.passed

-- the wanted word is found, an empty place is claimed, and another word is passed: then the next place
-- is loaded, or all were seen
abbrev pub move_after : Probe → ℕ → Move
move_after p seen =
    if seen == p.word then Found (8193 + place_of p)
    else if seen == 0 then Claim (place_of p) p.word
    else if p.passed + 1 == p.places then Full
    else Load (probed p.places p.from (p.passed + 1))

abbrev pub passed_after : Probe → ℕ → ℕ
passed_after p seen = if (seen == p.word) || (seen == 0) then p.passed else p.passed + 1

abbrev pub probe_after : Probe → ℕ → Probe
probe_after p seen = record { places = p.places; word = p.word; from = p.from; passed = passed_after p seen; last = move_after p seen }

-- a word may be handed in behind a load, and behind a claim one that isn't 0
abbrev pub MayTell : Move → ℕ → Type 0
MayTell (Load s) seen = ⊤
MayTell (Claim s w) seen = seen ≢ 0
MayTell (Found node) seen = ⊥
MayTell Full seen = ⊥

abbrev pub IsLoad : Move → Type 0
IsLoad (Load s) = ⊤
IsLoad (Claim s w) = ⊥
IsLoad (Found node) = ⊥
IsLoad Full = ⊥

abbrev pub IsClaim : Move → Type 0
IsClaim (Load s) = ⊥
IsClaim (Claim s w) = ⊤
IsClaim (Found node) = ⊥
IsClaim Full = ⊥

abbrev pub IsEnd : Move → Type 0
IsEnd (Load s) = ⊥
IsEnd (Claim s w) = ⊥
IsEnd (Found node) = ⊤
IsEnd Full = ⊤

-- it ended, or it loads behind one more word that it passed, or it claims where it loaded
abbrev pub IsOnward : Probe → Probe → Type 0
IsOnward old new =
    IsEnd new.last
    ⊎ ((new.passed ≡ old.passed + 1) × (new.passed < new.places) × IsLoad new.last)
    ⊎ ((new.passed ≡ old.passed) × IsLoad old.last × IsClaim new.last)

-- how many loads and claims are left at most: two a place
abbrev pub to_go : ℕ → Move → ℕ
to_go left (Load s) = 2 * left
to_go left (Claim s w) = 2 * left - 1
to_go left (Found node) = 0
to_go left Full = 0

abbrev pub moves_left : Probe → ℕ
moves_left p = to_go (p.places - p.passed) p.last

-- the move is one at the place that the search is at
abbrev pub IsMove : Probe → Move → Type 0
IsMove p (Load s) = (p.passed < p.places) × (s ≡ place_of p)
IsMove p (Claim s w) = (p.passed < p.places) × (s ≡ place_of p) × (w ≡ p.word)
IsMove p (Found node) = (p.passed < p.places) × (node ≡ 8193 + place_of p)
IsMove p Full = p.passed ≡ p.places
