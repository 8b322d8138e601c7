-- A seat as contracts see it, and what it means to a builder.
use Rattle.std.specs.Prelude.{◌≢◌, ℕ, zero, suc, ◌+◌, ◌≤◌, ◌<◌, Bool, true, not, ◌&&◌, nat_eq, List, ◌∷◌}
use Rattle.atomic_table.specs.Seated.{TableId}
use Rattle.gate_shape.specs.Builds.{Meaning}
use Rattle.gate_probe.specs.declared.view.View.{View}
use Rattle.gate_probe.specs.Words.{word_at}
use Rattle.gate_probe.specs.Known.{meant}

-- which table it is of, and its view
pub record SeatState : Type 0 where
  pub table : TableId
  pub view : View

-- what was seen are places of the table
abbrev pub IsBelow : ℕ → List ℕ → Type 0
IsBelow n seen = (s : ℕ) → word_at seen s ≢ 0 → s < n

-- were words seen at the first n places?
unfoldable pub sees_first : ℕ → List ℕ → Bool
sees_first zero seen = true
sees_first (suc n) seen = not (nat_eq (word_at seen n) 0) && sees_first n seen

-- the size of a table, and what no other table shares with it
abbrev pub table_numbers : TableId → List ℕ
table_numbers t = t.words ∷ t.slots ∷ t.views_name ∷ t.atom ∷ t.block ∷ t.offset ∷ t.slot_names

-- What a seat means: it is filled where it has seen all places, and its trace stays empty
abbrev pub known_by : SeatState → Meaning
known_by s = meant s.view.seen (sees_first s.table.words s.view.seen) (table_numbers s.table)

-- the same to a builder that works through the reference of this name
abbrev pub known_through : ℕ → SeatState → Meaning
known_through name s = meant s.view.seen (sees_first s.table.words s.view.seen) (name ∷ table_numbers s.table)

-- the number of loads and claims grew, by no more than so many
abbrev pub IsCounted : ℕ → SeatState → SeatState → Type 0
IsCounted most old new = (old.view.steps ≤ new.view.steps) × (new.view.steps ≤ old.view.steps + most)
