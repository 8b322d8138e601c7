-- How a list of clauses is kept: one list of literals, and the place behind each clause's last one.
use Rattle.std.specs.Prelude.{ℕ, Bool, ◌&&◌, nat_eq, nat_le, List, [], ◌∷◌, slice_range}
use Rattle.sat_form.specs.Literals.{Literal}

-- The pieces of a list, each from the end of the one before it.
abbrev pub pieces : ℕ → List ℕ → List Literal → List (List Literal)
pieces from [] lits = []
pieces from (end ∷ ends) lits = slice_range lits from end ∷ pieces end ends lits

-- The ends don't fall, and the last one is the length.
abbrev pub are_ends : ℕ → List ℕ → ℕ → Bool
are_ends from [] len = nat_eq from len
are_ends from (end ∷ ends) len = nat_le from end && are_ends end ends len
