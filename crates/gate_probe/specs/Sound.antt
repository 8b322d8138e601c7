-- Which words a table of gates may hold, and when a claim of a place is allowed.
use Rattle.std.specs.Prelude.{◌≡◌, ◌≢◌, ◌⊎◌, ℕ, ◌+◌, ◌-◌, ◌*◌, ◌%◌, ◌<◌, ◌≤◌, List, length, max, false, None}
use mathlib.Core.Option.{some}
use lib.ListN.{get_elem?}
use Rattle.gate_shape.specs.Literal.{Literal, literal_number}
use Rattle.gate_shape.specs.Word.{key_less, simple_literal}
use Rattle.gate_probe.specs.declared.view.View.{View}
use Rattle.gate_probe.specs.Words.{level_of, left_of, right_of, word_at, level_at, key_in}

-- the place at which the search for a pair begins, and the d-th place of a search
abbrev pub home : ℕ → Literal → Literal → ℕ
home n left right = (literal_number left * 1000003 + literal_number right) % n

abbrev pub probed : ℕ → ℕ → ℕ → ℕ
probed n from d = (from + d) % n

-- the d-th place of the search for a word's pair
abbrev pub probe_of : ℕ → ℕ → ℕ → ℕ
probe_of n word d = probed n (home n (left_of word) (right_of word)) d

-- an input, or a gate whose word is there
abbrev pub IsFanin : List ℕ → Literal → Type 0
IsFanin words l = (0 < l.node) × ((l.node < 8193) ⊎ ((8193 ≤ l.node) × (word_at words (l.node - 8193) ≢ 0)))

-- the word is that of a gate over these words: its fanins are there, it has its level, its pair isn't
-- simple, and the key of the right fanin isn't less than that of the left one
pub record IsGate (words : List ℕ) (word : ℕ) : Type 0 where
  pub left : IsFanin words (left_of word)
  pub right : IsFanin words (right_of word)
  pub level : level_of word ≡ 1 + max (level_at words (left_of word).node) (level_at words (right_of word).node)
  pub apart : simple_literal (left_of word) (right_of word) ≡ None
  pub ordered : key_less (key_in words (right_of word)) (key_in words (left_of word)) ≡ false

-- no place from the word's home up to this one, in the order of the search, is empty
abbrev pub IsReached : List ℕ → ℕ → ℕ → Type 0
IsReached words word s =
    (d : ℕ) × (d < length words) × (probe_of (length words) word d ≡ s)
    × ((k : ℕ) → k < d → word_at words (probe_of (length words) word k) ≢ 0)

pub record IsSoundAt (words : List ℕ) (s : ℕ) : Type 0 where
  pub gate : IsGate words (word_at words s)
  pub alone : (t : ℕ) → word_at words t ≢ 0 → left_of (word_at words t) ≡ left_of (word_at words s) → right_of (word_at words t) ≡ right_of (word_at words s) → t ≡ s
  pub reached : IsReached words (word_at words s) s

-- each nonempty word is a gate, the only one with its pair, and found by the search for it
abbrev pub IsSound : List ℕ → Type 0
IsSound words = (s : ℕ) → word_at words s ≢ 0 → IsSoundAt words s

-- each place that was seen holds its word
abbrev pub IsWithin : List ℕ → List ℕ → Type 0
IsWithin seen words = (s : ℕ) → word_at seen s ≢ 0 → word_at words s ≡ word_at seen s

-- what was seen is a part of sound words
abbrev pub IsPart : List ℕ → Type 0
IsPart seen = (words : List ℕ) × IsSound words × IsWithin seen words

abbrev pub IsViewOf : List ℕ → View → Type 0
IsViewOf words v = IsWithin v.seen words × IsWithin v.beside words

-- the rule of a table: n sound words, and each place in each view holds its word
abbrev pub IsKept : ℕ → List ℕ → List View → Type 0
IsKept n words views = (length words ≡ n) × IsSound words × ((seat : ℕ) (v : View) → get_elem? views seat ≡ some v → IsViewOf words v)

-- A claim of a place for a word is allowed to a seat that has seen its fanins, and another word at
-- each place from the word's home up to that one
pub record MayClaim (n : ℕ) (seen : List ℕ) (word s : ℕ) : Type 0 where
  pub gate : IsGate seen word
  pub distance : ℕ
  pub within : distance < n
  pub place : probe_of n word distance ≡ s
  pub others : (k : ℕ) → k < distance → (word_at seen (probe_of n word k) ≢ 0) × (word_at seen (probe_of n word k) ≢ word)
