-- What a choice writes, and a list with one bit.
use Rattle.std.proofs.Common.{◌≡◌, ℕ, ◌*◌, suc, Bool, true, false, List, [], ◌∷◌, map, refl, ◌∙◌, ap, length, arith, if◌then◌else◌}
use Rattle.std.proofs.lemmas.List.{length-map}
use Rattle.std.specs.List.{zip}
use Rattle.gate_shape.specs.Edge.{Edge, value}
use Rattle.gate_shape.specs.Row.{both, choice}
use Rattle.bv_value.specs.Bits.{bit_number}
use Rattle.blast_logic.specs.Words.{written_number, word}
use Rattle.gate_shape.proofs.Values.{choice-value}
use Rattle.gate_shape.proofs.Looping.{each_onto-answer}
use Rattle.blast_logic.specs.Chosen.{chosen, masked}
use Rattle.blast_logic.proofs.Numbers.{written-masked}

choices : Edge → List (Edge × Edge) → List Edge
choices c ps = map (λ p. (choice c p.0 p.1).answer) ps

chosen-is : (c : Edge) (xs ys : List Edge) → (chosen c xs ys).answer ≡ choices c (zip xs ys)
unfolding chosen choices
chosen-is c xs ys = each_onto-answer [] (λ p. choice c p.0 p.1) (zip xs ys)

pub chosen-length : (c : Edge) (xs ys : List Edge) → length xs ≡ length ys → length (chosen c xs ys).answer ≡ length xs
unfolding choices
chosen-length c xs ys l = ap length (chosen-is c xs ys) ∙ go xs ys l
  where
    go : (xs ys : List Edge) → length xs ≡ length ys → length (choices c (zip xs ys)) ≡ length xs
    go [] ys l = refl
    go (x ∷ xs) [] l = absurd (omega (arith, l))
    go (x ∷ xs) (y ∷ ys) l = ap suc (go xs ys (omega (arith, l)))

picked : (bits : ℕ → ℕ → Bool) (c : Edge) (xs ys : List Edge) → length xs ≡ length ys → (b : Bool) → value bits c ≡ b → written_number bits (choices c (zip xs ys)) ≡ (if b then written_number bits xs else written_number bits ys)
unfolding choices
picked bits c [] [] l true e = refl
picked bits c [] [] l false e = refl
picked bits c [] (y ∷ ys) l b e = absurd (omega (arith, l))
picked bits c (x ∷ xs) [] l b e = absurd (omega (arith, l))
picked bits c (x ∷ xs) (y ∷ ys) l true e = rw (choice-value bits c x y, e, picked bits c xs ys (omega (arith, l)) true e) refl
picked bits c (x ∷ xs) (y ∷ ys) l false e = rw (choice-value bits c x y, e, picked bits c xs ys (omega (arith, l)) false e) refl

pub chosen-value : (bits : ℕ → ℕ → Bool) (c : Edge) (xs ys : List Edge) → length xs ≡ length ys → written_number bits (chosen c xs ys).answer ≡ (if value bits c then written_number bits xs else written_number bits ys)
chosen-value bits c xs ys l = ap (written_number bits) (chosen-is c xs ys) ∙ picked bits c xs ys l (value bits c) refl

pub chosen-word : (bits : ℕ → ℕ → Bool) (c : Edge) (xs ys : List Edge) → length xs ≡ length ys → word bits (chosen c xs ys).answer ≡ (if value bits c then word bits xs else word bits ys)
chosen-word bits c xs ys l = rw (chosen-length c xs ys l, chosen-value bits c xs ys l) (go (value bits c))
  where
    go : (b : Bool) → record { width = length xs; number = if b then written_number bits xs else written_number bits ys } ≡ (if b then word bits xs else word bits ys)
    go true = refl
    go false = rw l refl

masked-is : (c : Edge) (xs : List Edge) → (masked c xs).answer ≡ map (λ x. (both c x).answer) xs
masked-is c xs = each_onto-answer [] (both c) xs

pub masked-length : (c : Edge) (xs : List Edge) → length (masked c xs).answer ≡ length xs
masked-length c xs = ap length (masked-is c xs) ∙ length-map xs (λ x. (both c x).answer)

pub masked-value : (bits : ℕ → ℕ → Bool) (c : Edge) (xs : List Edge) → written_number bits (masked c xs).answer ≡ bit_number (value bits c) * written_number bits xs
masked-value bits c xs = ap (written_number bits) (masked-is c xs) ∙ written-masked bits c xs
