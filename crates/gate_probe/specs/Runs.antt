-- Whole searches: the words that are handed in one after the other, and the places at which they were seen.
use Rattle.std.specs.Prelude.{◌≡◌, ◌≢◌, ◌↔◌, ℕ, zero, suc, ◌-◌, ◌≤◌, List, [], ◌∷◌, length, map, ⊤}
use Rattle.std.specs.List.{All, Contains, range_with_len}
use Rattle.gate_shape.specs.Literal.{Literal}
use Rattle.gate_shape.specs.Word.{gate_word}
use Rattle.gate_probe.specs.Sound.{home, probed}
use Rattle.gate_probe.specs.Moves.{Probe, started, place_of, probe_after, MayTell}
use Rattle.gate_probe.specs.declared.prober.Move.{Move}
use Rattle.gate_probe.specs.declared.prober.Move.TheVariants.{Found, Full}

-- the search behind these words
abbrev pub told : Probe → List ℕ → Probe
told p [] = p
told p (seen ∷ more) = told (probe_after p seen) more

-- each of these words may be handed in where it comes
abbrev pub MayTellAll : Probe → List ℕ → Type 0
MayTellAll p [] = ⊤
MayTellAll p (seen ∷ more) = MayTell p.last seen × MayTellAll (probe_after p seen) more

-- 0 is no sight: the place was empty
abbrev pub sight : ℕ → ℕ → List (ℕ × ℕ) → List (ℕ × ℕ)
sight place zero later = later
sight place (suc word) later = (place, suc word) ∷ later

-- the places at which words other than 0 were seen, each with its word, in order
abbrev pub sights : Probe → List ℕ → List (ℕ × ℕ)
sights p [] = []
sights p (seen ∷ more) = sight (place_of p) seen (sights (probe_after p seen) more)

-- these words may be handed in to a search for the gate of these fanins at this level, among n places
abbrev pub IsRun : ℕ → Literal → Literal → ℕ → List ℕ → Type 0
IsRun n left right level words = (1 ≤ n) × (1 ≤ level) × MayTellAll (started n left right level) words

-- how the search for a gate ended or goes on, and its sights
abbrev pub last_of : ℕ → Literal → Literal → ℕ → List ℕ → Move
last_of n left right level words = (told (started n left right level) words).last

abbrev pub sights_of : ℕ → Literal → Literal → ℕ → List ℕ → List (ℕ × ℕ)
sights_of n left right level words = sights (started n left right level) words

-- it is full exactly where words were seen at n places, and the wanted one at none
abbrev pub FullOfOthers : Type 0
FullOfOthers = (n : ℕ) (left right : Literal) (level : ℕ) (words : List ℕ) → IsRun n left right level words
    → (last_of n left right level words ≡ Full)
    ↔ ((length (sights_of n left right level words) ≡ n) × All (λ s. s.1 ≢ gate_word level left right) (sights_of n left right level words))

-- a node is found exactly where the wanted word was seen at its place
abbrev pub FoundWhereSeen : Type 0
FoundWhereSeen = (n : ℕ) (left right : Literal) (level : ℕ) (words : List ℕ) → IsRun n left right level words → (node : ℕ)
    → (last_of n left right level words ≡ Found node)
    ↔ ((8193 ≤ node) × Contains (sights_of n left right level words) (node - 8193, gate_word level left right))

-- the places are the first ones from the pair's home on, round the end, each once
abbrev pub SeenInOrder : Type 0
SeenInOrder = (n : ℕ) (left right : Literal) (level : ℕ) (words : List ℕ) → IsRun n left right level words
    → map (λ s. s.0) (sights_of n left right level words) ≡ map (probed n (home n left right)) (range_with_len 0 (length (sights_of n left right level words)))
