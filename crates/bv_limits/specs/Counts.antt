-- How many places have a property.
use Rattle.std.specs.Prelude.{ℕ, suc}

-- Count P i j n: n of the places from i up to j have the property P
pub data Count (P : ℕ → Type 0) (i : ℕ) : ℕ → ℕ → Type 0 where
  none : Count P i i 0
  counted : {j n : ℕ} → P j → Count P i j n → Count P i (suc j) (suc n)
  passed : {j n : ℕ} → (P j → ⊥) → Count P i j n → Count P i (suc j) n
