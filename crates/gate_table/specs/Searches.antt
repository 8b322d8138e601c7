-- What holds between two moves of a search by a seat, and what it ends with.
use Rattle.std.specs.Prelude.{◌≡◌, ◌≢◌, ℕ, ◌+◌, ◌*◌, ◌<◌, ◌≤◌, List, false}
use Rattle.gate_shape.specs.Literal.{Literal}
use Rattle.gate_shape.specs.Word.{gate_word}
use Rattle.gate_probe.specs.Words.{word_at}
use Rattle.gate_probe.specs.Sound.{home, IsGate, IsWithin}
use Rattle.gate_probe.specs.Moves.{Probe, moves_left}
use Rattle.gate_probe.specs.Searching.{IsSearching}
use Rattle.gate_probe.specs.declared.prober.Move.{Move}
use Rattle.gate_table.specs.Seats.{SeatState}

-- the word of these fanins at this level may be wanted by a seat that has seen these words
pub record IsWanted (seen : List ℕ) (left right : Literal) (level : ℕ) : Type 0 where
  pub gate : IsGate seen (gate_word level left right)
  pub left_small : left.node < 4194304
  pub right_small : right.node < 4194304
  pub low : 1 ≤ level
  pub high : level ≤ 262143

-- the search is one for this word among n places
pub record IsSearchFor (n : ℕ) (left right : Literal) (level : ℕ) (p : Probe) : Type 0 where
  pub places : p.places ≡ n
  pub from : p.from ≡ home n left right
  pub word : p.word ≡ gate_word level left right

pub record IsGoing (n : ℕ) (left right : Literal) (level : ℕ) (old now : SeatState) (p : Probe) (next : Move) : Type 0 where
  pub table : now.table ≡ old.table
  pub kept : IsWithin old.view.seen now.view.seen
  pub for : IsSearchFor n left right level p
  pub last : p.last ≡ next
  pub search : IsSearching now.view.seen p
  pub counts : old.view.steps ≤ now.view.steps
  pub steps : now.view.steps + moves_left p ≤ old.view.steps + 2 * n

-- the literal is that of a place with this word
abbrev pub IsAt : List ℕ → ℕ → Literal → Type 0
IsAt seen word l = (s : ℕ) × (l ≡ record { node = 8193 + s; sign = false }) × (word_at seen s ≡ word)

-- words were seen at all n places, and none of them is this one
abbrev pub IsMissed : ℕ → List ℕ → ℕ → Type 0
IsMissed n seen word = (s : ℕ) → s < n → (word_at seen s ≢ 0) × (word_at seen s ≢ word)
