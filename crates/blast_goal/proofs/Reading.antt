-- The values that are read off bits are values of the goal's variables.
use Rattle.std.proofs.Common.{ℕ, ◌+◌, ◌^◌, ◌<◌, Bool, [], ◌∷◌, map, nat_le, arith}
use Rattle.std.specs.Prelude.{All, IsTrue}
use Rattle.std.specs.List.{range_with_len}
use Rattle.std.proofs.lemmas.Bool.{and_parts}
use Rattle.std.proofs.lemmas.Grind.{common_steps}
use Rattle.std.proofs.lemmas.List.FromFn.{length-map-range_with_len}
use Rattle.std.proofs.lemmas.List.Elements.{All-nil, All-cons, All-head, All-tail}
use Rattle.blast_logic.proofs.Numbers.{number-below}
use Rattle.bv_value.specs.Bits.{number_of}
use Rattle.bv_expr.specs.declared.ops.Sort.{Sort}
use Rattle.bv_expr.specs.declared.ops.Sort.TheVariants as sort
use Rattle.bv_expr.specs.Goal.{Binders, AreValues, IsValue, is_sort}
use Rattle.blast_goal.specs.Values.{value_with, values_from, values_of}
use Rattle.blast_goal.proofs.Falsifying.{sorts_same}

pub bits_below : (bits : ℕ → Bool) (w : ℕ) → number_of (map bits (range_with_len 0 w)) < 2 ^ w
bits_below bits w = rw (length-map-range_with_len bits 0 w) at (number-below (map bits (range_with_len 0 w)))

value_fits : (s : Sort) (bits : ℕ → Bool) → IsTrue (is_sort s) → IsValue (value_with s bits)
value_fits sort.Truth bits h = tt
value_fits (sort.Vector w) bits h =
    let p = and_parts (nat_le 1 w) (nat_le w 128) h in
    let low = p.0 in
    let high = p.1 in
    record { positive = grind (arith, common_steps); at_most_128 = grind (arith, common_steps); below = bits_below bits w }

values_fit : (k : ℕ) (binders : Binders) (bits : ℕ → ℕ → Bool) → All (λ b. IsTrue (is_sort b.1)) binders → All IsValue (values_from k binders bits)
values_fit k [] bits h = All-nil IsValue
values_fit k (b ∷ bs) bits h =
    All-cons IsValue (value_with b.1 (bits k)) (values_from (k + 1) bs bits)
    (value_fits b.1 (bits k) (All-head (λ b. IsTrue (is_sort b.1)) b bs h)) (values_fit (k + 1) bs bits (All-tail (λ b. IsTrue (is_sort b.1)) b bs h))

pub are_values : (binders : Binders) (bits : ℕ → ℕ → Bool) → All (λ b. IsTrue (is_sort b.1)) binders → AreValues binders (values_of binders bits)
are_values binders bits h = record { of_the_sorts = sorts_same 0 binders bits; are_values = values_fit 0 binders bits h }
