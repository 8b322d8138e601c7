-- How depths are told from pieces.
use Rattle.std.specs.Prelude.{ℕ, ◌+◌, max, min, nat_lt, List, [], ◌∷◌, Option, Some, None, if◌then◌else◌}
use Rattle.bv_trees.specs.declared.pieces.Piece.{Piece}
use Rattle.bv_trees.specs.declared.pieces.Piece.TheVariants as piece
use Rattle.bv_limits.specs.declared.depths.Part.{Part}
use Rattle.bv_limits.specs.declared.depths.Part.TheVariants as part
use Rattle.bv_limits.specs.Depths.{added}

-- a depth of more than 1,001 is kept as 1,001
abbrev pub capped : ℕ → ℕ
capped d = min d 1001

abbrev pub depth_of : Part → ℕ
depth_of (part.Term d) = d
depth_of (part.Receiver d) = d

abbrev pub first : List Part → Option Part
first [] = None
first (x ∷ s) = Some x

abbrev pub rest : List Part → List Part
rest [] = []
rest (x ∷ s) = s

abbrev pub top : List Part → ℕ
top [] = 0
top (x ∷ s) = depth_of x

abbrev pub put : ℕ → List Part → List Part
put d s = part.Term (capped d) ∷ s

-- the arguments of a method, and its receiver
abbrev pub gathered : ℕ → List Part → ℕ
gathered d [] = d
gathered d (part.Term e ∷ s) = gathered (max d e) s
gathered d (part.Receiver e ∷ s) = max d e

abbrev pub behind : List Part → List Part
behind [] = []
behind (part.Term e ∷ s) = behind s
behind (part.Receiver e ∷ s) = s

abbrev pub called : List Part → List Part
called s = part.Receiver (top s) ∷ rest s

-- what a piece does to the parts that it finds, the innermost first
abbrev pub step : Piece → List Part → List Part
step (piece.Name i) s = put 1 s
step (piece.Numeral i) s = put 1 s
step (piece.Literal i w) s = put 1 s
step (piece.Constant c i) s = put 1 s
step (piece.Prefix o i) s = put (top s + 1) (rest s)
step (piece.Infix o i) s = put (max (top (rest s)) (top s) + added o) (rest (rest s))
step (piece.Choice i) s = put (max (top (rest (rest s))) (max (top (rest s)) (top s)) + 1) (rest (rest (rest s)))
step (piece.Call i) s = called s
step (piece.Method i) s = put (gathered 0 s + 1) (behind s)
step _ s = s

abbrev pub place_of : Piece → Option ℕ
place_of (piece.Prefix o i) = Some i
place_of (piece.Infix o i) = Some i
place_of (piece.Choice i) = Some i
place_of (piece.Method i) = Some i
place_of _ = None

abbrev pub least_of : ℕ → Option ℕ → ℕ
least_of i None = i
least_of i (Some k) = min i k

abbrev pub note : Option ℕ → ℕ → Option ℕ → Option ℕ
note None d least = least
note (Some i) d least = if nat_lt 1000 d then Some (least_of i least) else least

-- the parts, and the least place of a deep one so far
pub record Measure : Type 0 where
  pub parts : List Part
  pub least : Option ℕ

abbrev pub start : Measure
start = record { parts = []; least = None }

abbrev pub tell : Piece → Measure → Measure
tell o m = record { parts = step o m.parts; least = note (place_of o) (top (step o m.parts)) m.least }

abbrev pub measure : List Piece → Measure → Measure
measure [] m = m
measure (o ∷ ps) m = measure ps (tell o m)
