-- Goal words, the final ones that a seat has seen, and the sessions that it claimed.
use Rattle.std.specs.Prelude.{◌≡◌, ◌≢◌, ◌⊎◌, ℕ, zero, suc, ◌+◌, ◌<◌, ◌≤◌, List, [], ◌∷◌, slice_index_or}

-- the word at a place, 0 where there is none
abbrev pub word_at : List ℕ → ℕ → ℕ
word_at words s = slice_index_or words s 0

-- k is one of these numbers
abbrev pub Has : List ℕ → ℕ → Type 0
Has [] k = ⊥
Has (x ∷ xs) k = (x ≡ k) ⊎ Has xs k

-- k is the first of these numbers
abbrev pub IsFirst : List ℕ → ℕ → Type 0
IsFirst [] k = ⊥
IsFirst (x ∷ xs) k = x ≡ k

-- all but the first
abbrev pub rest : List ℕ → List ℕ
rest [] = []
rest (x ∷ xs) = xs

-- A word of the goal g of so many: 0 is no end yet, 1 proved, 2 false, 3 budget, 4 stopped, and 5 + c
-- cancelled by the goal c, which is another one
abbrev pub IsGoalWord : ℕ → ℕ → ℕ → Type 0
IsGoalWord goals g word = (word ≤ 4) ⊎ ((c : ℕ) × (word ≡ 5 + c) × (c < goals) × (c ≢ g))

abbrev pub put : List ℕ → ℕ → ℕ → List ℕ
put [] zero w = w ∷ []
put [] (suc s) w = 0 ∷ put [] s w
put (x ∷ xs) zero w = w ∷ xs
put (x ∷ xs) (suc s) w = x ∷ put xs s w

-- a goal whose word was found to be 0 has no final word
abbrev pub learnt : List ℕ → ℕ → ℕ → List ℕ
learnt finals g zero = finals
learnt finals g (suc w) = put finals g (suc w)

-- the word that is there after an exchange of 0 that found this one
abbrev pub left_there : ℕ → ℕ → ℕ
left_there zero wanted = wanted
left_there (suc found) wanted = suc found
