-- How lines are kept: their hints in one list, and the place behind each line's last one.
use Rattle.std.specs.Prelude.{ℕ, List, [], ◌∷◌, slice_range}
use Rattle.sat_form.specs.Literals.{Literal}
use Rattle.lrat_trim.specs.Derivation.{LogLine}

-- The pieces of a list, each from the end of the one before it.
abbrev pub pieces : ℕ → List ℕ → List ℕ → List (List ℕ)
pieces from [] hints = []
pieces from (end ∷ ends) hints = slice_range hints from end ∷ pieces end ends hints

-- Clauses with their hints.
abbrev pub paired : List (List Literal) → List (List ℕ) → List LogLine
paired [] hs = []
paired (c ∷ cs) [] = []
paired (c ∷ cs) (h ∷ hs) = record { lits = c; hints = h } ∷ paired cs hs

-- No clause and no hints.
abbrev pub no_line : LogLine
no_line = record { lits = []; hints = [] }
