-- Which gates a list of words knows, and as which trees. A gate is known where its word is there and
-- each of its fanins is false, an input or known.
use Rattle.std.specs.Prelude.{ℕ, zero, suc, ◌-◌, Bool, true, false, not, ◌&&◌, List, [], nat_eq, nat_lt, if◌then◌else◌}
use Rattle.gate_shape.specs.Literal.{Literal}
use Rattle.gate_shape.specs.Edge.{Gate}
use Rattle.gate_shape.specs.Builds.{Meaning, edge}
use Rattle.gate_shape.specs.Listed.{no_gate}
use Rattle.gate_probe.specs.Words.{level_of, left_of, right_of, word_at}

abbrev pub fanin_known : (ℕ → Bool) → Literal → Bool
fanin_known known l = if nat_lt l.node 8193 then true else known (l.node - 8193)

-- is the gate at a place known, no more than so many levels deep?
unfoldable pub known_within : List ℕ → ℕ → ℕ → Bool
known_within words zero s = false
known_within words (suc d) s =
    not (nat_eq (word_at words s) 0)
    && (fanin_known (known_within words d) (left_of (word_at words s)) && fanin_known (known_within words d) (right_of (word_at words s)))

-- these gates by their places
abbrev pub placed : (ℕ → Gate) → Meaning
placed gates = record { known = λ _. true; gate_at = gates; filled = false; trace = []; base = [] }

-- the gate at a place, no more than so many levels deep
unfoldable pub gate_within : List ℕ → ℕ → ℕ → Gate
gate_within words zero s = no_gate
gate_within words (suc d) s = record {
  left = edge (placed (gate_within words d)) (left_of (word_at words s));
  right = edge (placed (gate_within words d)) (right_of (word_at words s));
}

-- What these words mean, to a builder of this base. A gate is as deep as its word says.
abbrev pub meant : List ℕ → Bool → List ℕ → Meaning
meant words filled base = record {
  known = λ s. known_within words (level_of (word_at words s)) s;
  gate_at = λ s. gate_within words (level_of (word_at words s)) s;
  filled = filled;
  trace = [];
  base = base;
}
