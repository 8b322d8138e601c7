-- Gate words read back, and lists of them.
use Rattle.std.specs.Prelude.{ℕ, ◌-◌, ◌/◌, ◌%◌, List, nat_lt, if◌then◌else◌, slice_index_or}
use Rattle.gate_shape.specs.Literal.{Literal, number_literal}
use Rattle.gate_shape.specs.Word.{key_of}

-- the parts of a gate word: its level is above the 46 bits of its two literals
abbrev pub level_of : ℕ → ℕ
level_of word = word / 70368744177664

abbrev pub left_of : ℕ → Literal
left_of word = number_literal (word / 8388608 % 8388608)

abbrev pub right_of : ℕ → Literal
right_of word = number_literal (word % 8388608)

-- the word at a place, 0 where there is none
abbrev pub word_at : List ℕ → ℕ → ℕ
word_at words s = slice_index_or words s 0

-- the level of a node and the key of a literal, by these words
abbrev pub level_at : List ℕ → ℕ → ℕ
level_at words n = if nat_lt n 8193 then 0 else level_of (word_at words (n - 8193))

abbrev pub key_in : List ℕ → Literal → ℕ × ℕ
key_in words l = key_of l (level_at words l.node)
