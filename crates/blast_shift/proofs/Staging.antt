-- How stages build their rows.
use Rattle.std.proofs.Common.{◌≡◌, ◌<◌, ◌≤◌, ◌*◌, ◌%◌, ◌^◌, ℕ, suc, Bool, true, false, List, refl, sym, ◌∙◌, ap, length, nat_lt, arith, Result}
use Rattle.std.proofs.lemmas.Grind.{common_steps}
use Rattle.std.proofs.lemmas.List.{length-map}
use Rattle.std.proofs.Math.Nat.{pow-le-pow_right, mod-eq_of_lt}
use Rattle.bv_value.proofs.Powers.{pow-pos, below_later}
use Rattle.bv_value.proofs.Bits.{pow_more}
use Rattle.gate_shape.specs.Edge.{Edge}
use Rattle.gate_shape.specs.Row.{Row, plain, ◌>>=◌, either}
use Rattle.gate_shape.specs.Literal.{Literal}
use Rattle.gate_shape.specs.Builds.{Meaning, Noting, edge, edges, Stands, Builds}
use Rattle.gate_shape.specs.declared.builder.GateStop.{GateStop}
use Rattle.blast_logic.specs.Chosen.{chosen}
use Rattle.blast_shift.specs.Stages.{stage, or_overflow, overflow}
use Rattle.blast_shift.specs.Ways.{moved_by}
use Rattle.blast_shift.specs.declared.stages.Way.{Way}
use Rattle.blast_shift.specs.declared.stages.Way.TheVariants.{Up, Down, DownSigned}
use Rattle.blast_shift.proofs.Values.{shifted_left-length, shifted_right-length, shifted_right_signed-length}

-- a bit that weighs at least 2 ^ 64 weighs more than any width
pub overflow_bit : (k w : ℕ) → 64 ≤ k → w < 2 ^ 64 → false ≡ nat_lt (2 ^ k) w
overflow_bit k w h l = go (2 ^ k) (pow-le-pow_right {n = 2} (omega arith) h)
  where
    go : (p : ℕ) → 2 ^ 64 ≤ p → false ≡ nat_lt p w
    go p le = grind (arith, common_steps)

pub plain_then : {A B : Type 0} (a : A) (next : A → Row B) → plain a >>= next ≡ next a
unfolding ◌>>=◌
plain_then a next = refl

pub stage-within : (move : ℕ → List Edge → List Edge) (xs : List Edge) (k : ℕ) (y : Edge) → nat_lt (2 ^ k) (length xs) ≡ true → plain (move (2 ^ k) xs) >>= (λ moved. chosen y moved xs) ≡ stage move xs (k, y)
unfolding stage ◌>>=◌
stage-within move xs k y e = rw e refl

pub stage-beyond : (move : ℕ → List Edge → List Edge) (xs : List Edge) (k : ℕ) (y : Edge) → nat_lt (2 ^ k) (length xs) ≡ false → plain xs ≡ stage move xs (k, y)
unfolding stage
stage-beyond move xs k y e = rw e refl

pub or_overflow-within : (width : ℕ) (over : Edge) (k : ℕ) (y : Edge) → nat_lt (2 ^ k) width ≡ true → plain over ≡ or_overflow width over (k, y)
unfolding or_overflow
or_overflow-within width over k y e = rw e refl

pub or_overflow-beyond : (width : ℕ) (over : Edge) (k : ℕ) (y : Edge) → nat_lt (2 ^ k) width ≡ false → either over y ≡ or_overflow width over (k, y)
unfolding or_overflow
or_overflow-beyond width over k y e = rw e refl

pub moved_by-length : (way : Way) (n : ℕ) (xs : List Edge) → length (moved_by way n xs) ≡ length xs
moved_by-length Up n xs = shifted_left-length n xs
moved_by-length Down n xs = shifted_right-length n xs
moved_by-length DownSigned n xs = shifted_right_signed-length n xs

-- a test that the code made, of the width that a list has
pub test_of : {b c : Bool} {n w : ℕ} (k : ℕ) → b ≡ nat_lt (2 ^ k) n → n ≡ w → b ≡ c → nat_lt (2 ^ k) w ≡ c
test_of k e f g = ap (λ z. nat_lt (2 ^ k) z) (sym f) ∙ (sym e ∙ g)

pub weight_is : (k : ℕ) → k < 64 → 1 * 2 ^ k % 2 ^ 128 ≡ 2 ^ k
weight_is k h =
    let small : 2 ^ k < 2 ^ 128 = below_later (2 ^ k) (suc k) 128 (omega arith) (omega (arith, pow_more k, pow-pos k)) in
    let one : 1 * 2 ^ k ≡ 2 ^ k = omega arith in
    ap (λ z. z % 2 ^ 128) one ∙ mod-eq_of_lt small

-- a row at the width of a list of literals
pub overflow_at : {n : Noting} {a b : Meaning} {r : Result Literal GateStop} (m : Meaning) (ls : List Literal) {ys zs : List Edge} → zs ≡ ys → Builds n Stands a b r (overflow (length ls) zs) → Builds n Stands a b r (overflow (length (edges m ls)) ys)
overflow_at m ls e p = rw (length-map ls (edge m), ← e) p
