-- The bits of a number, the lowest first, as Lean 4's `BitVec.getLsbD` numbers them.
use Rattle.std.specs.Prelude.{ℕ, zero, suc, ◌+◌, ◌*◌, ◌/◌, ◌%◌, Bool, true, false, not, ◌==◌, List, [], ◌∷◌, if◌then◌else◌}

-- A bit as a number.
abbrev pub bit_number : Bool → ℕ
bit_number b = if b then 1 else 0

-- The number that bits write in base two.
abbrev pub number_of : List Bool → ℕ
number_of [] = 0
number_of (b ∷ bs) = bit_number b + 2 * number_of bs

-- The lowest `count` bits of a number.
abbrev pub bits_of : ℕ → ℕ → List Bool
bits_of zero n = []
bits_of (suc count) n = (n % 2 == 1) ∷ bits_of count (n / 2)

-- An operator on two bits, at each place of two lists of bits.
abbrev pub at_each : (Bool → Bool → Bool) → List Bool → List Bool → List Bool
at_each f [] ys = []
at_each f (x ∷ xs) [] = []
at_each f (x ∷ xs) (y ∷ ys) = f x y ∷ at_each f xs ys

-- Exactly one of two bits.
abbrev pub differ : Bool → Bool → Bool
differ true b = not b
differ false b = b
