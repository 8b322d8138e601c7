-- Which literal stands for which tree, by recursion on the tree.
use Rattle.std.specs.Prelude.{◌≡◌, ◌≢◌, ℕ, ◌+◌, ◌-◌, ◌*◌, ◌<◌, ◌≤◌, List}
use Rattle.gate_shape.specs.Literal.{Literal}
use Rattle.gate_shape.specs.Edge.{Edge, constant, input, gate}
use Rattle.gate_probe.specs.Words.{left_of, right_of, word_at}

-- the word of a literal's gate
abbrev pub word_of : List ℕ → Literal → ℕ
word_of words l = word_at words (l.node - 8193)

-- the literal's node is the tree's false or input, or its word is there and its fanins stand for those of
-- the tree; and the signs are equal
abbrev pub StandsIn : List ℕ → Literal → Edge → Type 0
StandsIn words l (constant s) = (l.node ≡ 0) × (l.sign ≡ s)
StandsIn words l (input s k j) = (k < 64) × (j < 128) × (l.node ≡ 1 + 128 * k + j) × (l.sign ≡ s)
StandsIn words l (gate s a b) =
    (8193 ≤ l.node) × (word_of words l ≢ 0) × (l.sign ≡ s)
    × StandsIn words (left_of (word_of words l)) a × StandsIn words (right_of (word_of words l)) b
