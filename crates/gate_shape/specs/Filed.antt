-- Gates of a list, found by their fanins.
use Rattle.std.specs.Prelude.{◌≡◌, ℕ, ◌<◌, List, length, Some, slice_index_or}
use Rattle.std.specs.Ordering.{nat_cmp, ordering_then}
use Rattle.std.specs.declared.cmp.Ordering.{Ordering}
use Rattle.std.specs.BTreeMap.{BTreeMap, get}
use Rattle.gate_shape.specs.Literal.{Literal, literal_number}
use Rattle.gate_shape.specs.declared.gates.Entry.{Entry}

-- the key of a pair of literals: their numbers
abbrev pub key_of : Literal → Literal → ℕ × ℕ
key_of left right = (literal_number left, literal_number right)

abbrev pub compared : ℕ × ℕ → ℕ × ℕ → Ordering
compared a b = ordering_then (nat_cmp a.0 b.0) (nat_cmp a.1 b.1)

abbrev pub entry_key : Entry → ℕ × ℕ
entry_key e = key_of e.left e.right

-- each entry is found at its key, and nothing else is
pub record AreFiled (places : BTreeMap (ℕ × ℕ) ℕ) (entries : List Entry) : Type 0 where
  pub there : (k : ℕ) (d : Entry) → k < length entries → get compared places (entry_key (slice_index_or entries k d)) ≡ Some k
  pub only : (p : ℕ × ℕ) (v : ℕ) (d : Entry) → get compared places p ≡ Some v → (v < length entries) × (p ≡ entry_key (slice_index_or entries v d))
