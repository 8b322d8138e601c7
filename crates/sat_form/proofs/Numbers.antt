-- Tests of numbers, and what they tell.
use Rattle.std.proofs.Common.{◌≡◌, ◌≢◌, ℕ, ◌<◌, ◌≤◌, true, false, nat_eq, nat_lt, nat_le, arith}
use Rattle.std.proofs.lemmas.Grind.{common_steps}

pub eq_is : (m n : ℕ) → m ≡ n → nat_eq m n ≡ true
eq_is m n h = grind (arith, common_steps)

pub eq_not : (m n : ℕ) → m ≢ n → nat_eq m n ≡ false
eq_not m n h = grind (arith, common_steps)

pub eq_not_below : (m n : ℕ) → m < n → nat_eq m n ≡ false
eq_not_below m n h = grind (arith, common_steps)

pub eq_not_above : (m n : ℕ) → n < m → nat_eq m n ≡ false
eq_not_above m n h = grind (arith, common_steps)

pub is_lt : (m n : ℕ) → m < n → nat_lt m n ≡ true
is_lt m n h = grind (arith, common_steps)

pub lt_is : (m n : ℕ) → nat_lt m n ≡ true → m < n
lt_is m n h = grind (arith, common_steps)

pub lt_not : (m n : ℕ) → nat_lt m n ≡ false → n ≤ m
lt_not m n h = grind (arith, common_steps)

pub is_le : (m n : ℕ) → m ≤ n → nat_le m n ≡ true
is_le m n h = grind (arith, common_steps)

pub le_is : (m n : ℕ) → nat_le m n ≡ true → m ≤ n
le_is m n h = grind (arith, common_steps)

pub isnt_le : (m n : ℕ) → n < m → nat_le m n ≡ false
isnt_le m n h = grind (arith, common_steps)

pub le_not : (m n : ℕ) → nat_le m n ≡ false → n < m
le_not m n h = grind (arith, common_steps)
