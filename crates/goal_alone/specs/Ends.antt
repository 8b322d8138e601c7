-- How the making of gates ends, where each different gate is kept and at most so many of them.
use Rattle.std.specs.Prelude.{ℕ, List, [], ◌∷◌, ◌++◌, length, nat_eq, nat_lt, if◌then◌else◌}
use Rattle.gate_shape.specs.Edge.{Gate, gate_level}
use Rattle.gate_shape.specs.Listed.{has_gate}

-- all gates are made; or one of them would have the level 262,144; or one would be a different gate more than there is room for
pub data End : Type 0 where
  Made : End
  TooDeep : End
  TooMany : End

-- The gates in the order in which they are wanted, those before them being kept: the first that can't be made decides.
unfoldable pub end_of : ℕ → List Gate → List Gate → End
end_of limit kept [] = Made
end_of limit kept (g ∷ gs) =
    if nat_eq (gate_level g) 262144 then TooDeep
    else (if has_gate kept g then end_of limit kept gs
    else (if nat_lt (length kept) limit then end_of limit (kept ++ g ∷ []) gs else TooMany))
