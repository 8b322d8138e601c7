-- Which lines are kept, as marks by place.
use Rattle.std.specs.Prelude.{◌≡◌, ℕ, zero, suc, ◌+◌, ◌-◌, Bool, true, false, ◌||◌, ◌&&◌, if◌then◌else◌, cond, nat_eq, nat_le, length, get_or, List, [], ◌∷◌, map, ℤ, pos}
use Rattle.std.specs.List.{list_all, list_any}
use Rattle.sat_form.specs.Literals.{Literal}
use Rattle.sat_form.specs.Log.{Logged}

-- The lines that are marked, the first of them having the mark at this place.
abbrev pub marked_from : List Bool → ℕ → List Logged → List Logged
marked_from marks at [] = []
marked_from marks at (l ∷ ls) = if get_or marks at false then l ∷ marked_from marks (at + 1) ls else marked_from marks (at + 1) ls

-- how many marks there are among so many places from this one on
abbrev pub marks_in : List Bool → ℕ → ℕ → ℕ
marks_in marks from zero = 0
marks_in marks from (suc n) = cond (get_or marks from false) 1 0 + marks_in marks (from + 1) n

-- Hints name given clauses, 1 to m, and marked lines.
abbrev pub are_marked : List Bool → ℕ → List ℕ → Bool
are_marked marks m hints = list_all (λ h. nat_le h m || get_or marks (h - (m + 1)) false) hints

-- Those of each marked line do.
abbrev pub AreClosed : List Bool → ℕ → ℕ → List Logged → Type 0
AreClosed marks m at [] = Unit {0}
AreClosed marks m at (l ∷ ls) = (get_or marks at false ≡ true → are_marked marks m l.hints ≡ true) × AreClosed marks m (at + 1) ls

-- The new id of a line by its place, and the id of a given clause, which stays.
abbrev pub moved_id : ℕ → List ℕ → ℕ → ℕ
moved_id m ids h = if nat_le h m then h else get_or ids (h - (m + 1)) 0

abbrev pub moved_hints : ℕ → List ℕ → List ℕ → List ℤ
moved_hints m ids hints = map (λ h. pos (moved_id m ids h)) hints

-- The mark at place j behind the line at a place, which is needed where it is the empty clause or is marked.
abbrev pub mark_behind : ℕ → List Bool → ℕ → List Literal → List ℕ → ℕ → Bool
mark_behind m marks at lits hints j = ((nat_eq (length lits) 0 || get_or marks at false) && (nat_eq j at || list_any (nat_eq (m + 1 + j)) hints)) || get_or marks j false
