-- Values as bits: what the inputs of a circuit are, and what the edges of a circuit write.
use Rattle.std.specs.Prelude.{ℕ, ◌+◌, Bool, false, ◌&&◌, nat_eq, List, [], ◌∷◌, map, slice_index_or}
use Rattle.std.specs.List.{range_with_len}
use Rattle.bv_value.specs.Bits.{number_of, bits_of}
use Rattle.bv_value.specs.Operations.{bit}
use Rattle.bv_expr.specs.declared.ops.Sort.{Sort}
use Rattle.bv_expr.specs.declared.ops.Sort.TheVariants as sort
use Rattle.bv_expr.specs.declared.ops.Val.{Val}
use Rattle.bv_expr.specs.declared.ops.Val.TheVariants.{Truth, Vector}
use Rattle.bv_expr.specs.Goal.{Binders}

-- Bit j of a value. Bit 0 of a truth is the truth itself.
abbrev pub bit_of : Val → ℕ → Bool
bit_of (Truth b) j = b && nat_eq j 0
bit_of (Vector x) j = bit x j

-- Bit j of the value of variable k: what the input of that name is.
abbrev pub input_bits : List Val → ℕ → ℕ → Bool
input_bits values k j = bit_of (slice_index_or values k (Truth false)) j

-- All bits of a value, bit 0 first.
abbrev pub all_bits : Val → List Bool
all_bits (Truth b) = b ∷ []
all_bits (Vector x) = bits_of x.width x.number

-- The value of a sort with these bits: a truth is bit 0, and a vector is the number that its bits write in base two.
abbrev pub value_with : Sort → (ℕ → Bool) → Val
value_with sort.Truth bits = Truth (bits 0)
value_with (sort.Vector w) bits = Vector (record { width = w; number = number_of (map bits (range_with_len 0 w)) })

-- The values of the variables from variable k on, where bit j of variable k is `bits k j`.
abbrev pub values_from : ℕ → Binders → (ℕ → ℕ → Bool) → List Val
values_from k [] bits = []
values_from k (b ∷ bs) bits = value_with b.1 (bits k) ∷ values_from (k + 1) bs bits

-- The value of each variable of a goal, by its sort.
abbrev pub values_of : Binders → (ℕ → ℕ → Bool) → List Val
values_of binders bits = values_from 0 binders bits
