-- The rule of a table, and what each step tells its caller.
use Rattle.std.specs.Prelude.{◌≡◌, ◌≢◌, ℕ, zero, suc, List}
use Rattle.atomic_table.specs.Table.{State, Step, Me}
use Rattle.gate_probe.specs.Words.{word_at}
use Rattle.gate_probe.specs.Sound.{IsPart, IsSound, IsViewOf, IsKept}
use Rattle.gate_probe.specs.Views.{stepped, merged}
use Rattle.gate_probe.specs.declared.view.View.{View}

abbrev pub IsTable : ℕ → State (Unit {0}) View → Type 0
IsTable n s = IsKept n s.words s.views

-- the word found, or the one that a claim wrote
abbrev pub left_there : ℕ → ℕ → ℕ
left_there zero wanted = wanted
left_there (suc found) wanted = suc found

-- the seat has learnt the word, and a place that it had seen holds that word still
abbrev pub Learns : View → ℕ → ℕ → View → Type 0
Learns v s word w = (w ≡ stepped v s word) × IsPart w.seen × (word_at v.seen s ≢ 0 → word ≡ word_at v.seen s)

abbrev pub Looks : Step (Unit {0}) → Me (Unit {0}) View → ℕ → Me (Unit {0}) View → Type 0
Looks t v found w = Learns v.0 t.word found w.0 × (w.1 ≡ v.1)

abbrev pub Claims : Step (Unit {0}) → Me (Unit {0}) View → ℕ → Me (Unit {0}) View → Type 0
Claims t v found w = Learns v.0 t.word (left_there found t.second) w.0 × (w.1 ≡ v.1)

-- what lay beside is seen too, and both are parts of the same sound words
abbrev pub Merges : Step (Unit {0}) → Me (Unit {0}) View → ℕ → Me (Unit {0}) View → Type 0
Merges t v found w = (w ≡ (merged v.0, v.1)) × ((words : List ℕ) × IsSound words × IsViewOf words v.0)
