-- What holds of all sound words and of their parts.
use Rattle.std.specs.Prelude.{◌≡◌, ◌↔◌, ℕ, List, Bool, length, slice_set}
use Rattle.gate_shape.specs.Literal.{Literal}
use Rattle.gate_shape.specs.Edge.{Edge}
use Rattle.gate_shape.specs.Builds.{Stands}
use Rattle.gate_probe.specs.Words.{word_at}
use Rattle.gate_probe.specs.Known.{meant}
use Rattle.gate_probe.specs.Sound.{IsSound, IsWithin, IsPart, MayClaim}
use Rattle.gate_probe.specs.Standing.{StandsIn}

-- a claim that is allowed and finds its place empty keeps the words sound
abbrev pub ClaimsKeepSound : Type 0
ClaimsKeepSound = (words seen : List ℕ) (word s : ℕ) → IsSound words → IsWithin seen words → MayClaim (length words) seen word s → word_at words s ≡ 0 → IsSound (slice_set words s word)

-- one literal stands for a tree, whoever built its gates
abbrev pub StandsOnce : Type 0
StandsOnce = (words : List ℕ) → IsSound words → (e : Edge) (l k : Literal) → StandsIn words l e → StandsIn words k e → l ≡ k

-- what a literal stands for by a part of the words it stands for by all of them
abbrev pub StandsForGood : Type 0
StandsForGood = (seen words : List ℕ) → IsWithin seen words → (e : Edge) (l : Literal) → StandsIn seen l e → StandsIn words l e

-- the literals that are known to a builder with a part of sound words, and their edges, are those that
-- stand for a tree by it
abbrev pub MeansWhatStands : Type 0
MeansWhatStands = (seen : List ℕ) (filled : Bool) (base : List ℕ) → IsPart seen → (l : Literal) (e : Edge) → Stands (meant seen filled base) l e ↔ StandsIn seen l e
