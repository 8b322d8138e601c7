-- Which literal stands for a tree by the words that a goal has seen, and which gates a walk meets.
use Rattle.std.specs.Prelude.{ℕ, ◌+◌, ◌-◌, ◌*◌, Bool, false, not, ◌&&◌, List, [], ◌∷◌, ◌++◌, nat_eq}
use Rattle.std.specs.List.{position_or_len}
use Rattle.gate_shape.specs.Literal.{Literal}
use Rattle.gate_shape.specs.Edge.{Edge, Gate, constant, input, gate}
use Rattle.gate_shape.specs.Word.{same_literal}
use Rattle.gate_probe.specs.Words.{left_of, right_of}
use Rattle.cone_walk.specs.Order.{firsts}

-- is this the word of a gate with these fanins?
abbrev pub has_pair : Literal → Literal → ℕ → Bool
has_pair l r word = not (nat_eq word 0) && (same_literal (left_of word) l && same_literal (right_of word) r)

-- False and inputs have nodes of their own; a gate is at the place where a word with its fanins was seen
unfoldable pub literal_in : List ℕ → Edge → Literal
literal_in seen (constant s) = record { node = 0; sign = s }
literal_in seen (input s k j) = record { node = 1 + 128 * k + j; sign = s }
literal_in seen (gate s a b) = record { node = 8193 + position_or_len (has_pair (literal_in seen a) (literal_in seen b)) seen; sign = s }

-- the place of a gate's word
abbrev pub place_in : List ℕ → Edge → ℕ
place_in seen e = (literal_in seen e).node - 8193

-- the tree, if it is a gate
abbrev pub if_gate : Edge → List Edge
if_gate (constant s) = []
if_gate (input s k j) = []
if_gate (gate s a b) = gate false a b ∷ []

-- the fanins of a gate that are gates, the left one first
abbrev pub fanin_gates : Gate → List Edge
fanin_gates g = if_gate g.left ++ if_gate g.right

-- the gates in the order in which a left-first walk comes to them, as often as it does
unfoldable pub arrivals : Edge → List Edge
arrivals (constant s) = []
arrivals (input s k j) = []
arrivals (gate s a b) = gate false a b ∷ (arrivals a ++ arrivals b)

-- each gate of the cone once: where the walk first comes to it it asks for its word
abbrev pub cone_gates : Edge → List Edge
cone_gates e = firsts [] (arrivals e)
