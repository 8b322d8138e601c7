-- The plain form of a builder: a limit, and the gates in the order in which they were made, each as the
-- pair of its fanins.
use Rattle.std.specs.Prelude.{◌≡◌, ℕ, ◌<◌, ◌≤◌, Bool, false, not, ◌&&◌, ◌||◌, List, [], ◌∷◌, ◌++◌, length, nat_eq, nat_lt, if◌then◌else◌, slice_index_or, ◌↔◌, OnErr, Result, Err}
use Rattle.gate_shape.specs.Literal.{Literal}
use Rattle.gate_shape.specs.Edge.{Edge, Gate, constant, same_gate, gate_level}
use Rattle.gate_shape.specs.Row.{Row}
use Rattle.gate_shape.specs.Builds.{Meaning, Noting, edge, Known, Stands, Builds, TooDeep, NoRoom}
use Rattle.gate_shape.specs.declared.builder.GateStop.{GateStop}
use Rattle.gate_shape.specs.declared.builder.GateStop.TheVariants.{Deep, Full}

pub record Listed : Type 0 where
  pub limit : ℕ
  pub pairs : List (Literal × Literal)

abbrev pub no_gate : Gate
no_gate = record { left = constant false; right = constant false }

-- a builder that holds these gates, gate s at place s
abbrev pub holding : ℕ → List Gate → Meaning
holding limit gates = record {
  known = λ s. nat_lt s (length gates);
  gate_at = λ s. slice_index_or gates s no_gate;
  filled = nat_eq (length gates) limit;
  trace = gates;
  base = limit ∷ [];
}

-- the gate of a pair over the gates before it
abbrev pub gate_of : List Gate → Literal × Literal → Gate
gate_of gates p = record { left = edge (holding 0 gates) p.0; right = edge (holding 0 gates) p.1 }

unfoldable pub grow : List Gate → List (Literal × Literal) → List Gate
grow gates [] = gates
grow gates (p ∷ ps) = grow (gates ++ gate_of gates p ∷ []) ps

unfoldable pub gates_of : List (Literal × Literal) → List Gate
gates_of ps = grow [] ps

abbrev pub listed : Listed → Meaning
listed v = holding v.limit (gates_of v.pairs)

unfoldable pub has_gate : List Gate → Gate → Bool
has_gate [] g = false
has_gate (h ∷ hs) g = same_gate h g || has_gate hs g

-- a list notes a gate where the call answered Ok and the gate isn't there yet
unfoldable pub note_new : Noting
note_new t g ok = if ok && not (has_gate t g) then t ++ g ∷ [] else t

-- what a list keeps: each pair names known literals and makes its gate, levels are right and fit, and no
-- gate is there twice
pub record IsListed (limit : ℕ) (pairs : List (Literal × Literal)) (levels : List ℕ) : Type 0 where
  pub small : limit ≤ 4000000
  pub within : length pairs ≤ limit
  pub left_known : (i : ℕ) (d : Literal × Literal) → i < length pairs → Known (holding limit (gates_of pairs)) (slice_index_or pairs i d).0
  pub right_known : (i : ℕ) (d : Literal × Literal) → i < length pairs → Known (holding limit (gates_of pairs)) (slice_index_or pairs i d).1
  pub made : (i : ℕ) (d : Literal × Literal) → i < length pairs → slice_index_or (gates_of pairs) i no_gate ≡ gate_of (gates_of pairs) (slice_index_or pairs i d)
  pub levels_right : (i : ℕ) → i < length pairs → slice_index_or levels i 0 ≡ gate_level (slice_index_or (gates_of pairs) i no_gate)
  pub levels_small : (i : ℕ) → i < length pairs → slice_index_or levels i 0 < 262144
  pub once : (i j : ℕ) → i < length pairs → j < length pairs → slice_index_or (gates_of pairs) i no_gate ≡ slice_index_or (gates_of pairs) j no_gate → i ≡ j

-- the row writes one gate, of which this holds
abbrev pub Writes : Row Edge → (Gate → Type 0) → Type 0
Writes row Cause = (g : Gate) × (row.gates ≡ g ∷ []) × Cause g

-- what a call for this row does to a list: the row is built, each refusal comes exactly where it has its
-- cause, and a refusal leaves the list as it was
pub record Conjoined (old new : Listed) (result : Result Literal GateStop) (row : Row Edge) : Type 0 where
  pub built : Builds note_new Stands (listed old) (listed new) result row
  pub deep : (result ≡ Err Deep) ↔ Writes row TooDeep
  pub full : (result ≡ Err Full) ↔ Writes row (NoRoom (listed old))
  pub refused : OnErr result (new ≡ old)
