-- The variables of a goal. Each name keeps its place and the sort that is written, which is none where its width is 0 or above 128.
use Rattle.std.specs.Prelude.{ℕ, ◌+◌, ◌-◌, Bool, not, ◌&&◌, List, [], ◌∷◌, ◌++◌, length, Option, Some, None, is_some, nat_lt, codes, bytes_eq, map, if◌then◌else◌}
use Rattle.std.specs.List.{list_any, range_with_len}
use Rattle.bv_expr.specs.declared.ops.Sort.{Sort}
use Rattle.bv_expr.specs.declared.ops.Sort.TheVariants.{Truth}
use Rattle.bv_expr.specs.Sorts.{vectors}
use Rattle.bv_expr.specs.Goal.{Binders}
use Rattle.bv_trees.specs.declared.pieces.Sort.{Sort as Written}
use Rattle.bv_trees.specs.declared.pieces.Sort.TheVariants as written
use Rattle.bv_trees.specs.Trees.{Binder, variables, hypothesis}
use Rattle.bv_trees.specs.declared.pieces.Piece.{Piece}
use Rattle.bv_trees.specs.declared.pieces.Piece.TheVariants as piece
use Rattle.bv_typing.specs.declared.variables.Binding.{Binding}
use Rattle.bv_typing.specs.Source.{Source, text_at, number_at}

-- the sort that is written there
abbrev pub sort_at : Source → Written → Option Sort
sort_at s written.Truth = Some Truth
sort_at s (written.Vector i) = vectors (number_at s i)

-- a name that a binder binds
pub record Bound : Type 0 where
  pub at : ℕ
  pub name : List ℕ
  pub sort : Option Sort

-- n names from the place i on
abbrev pub bounds : Source → Option Sort → ℕ → ℕ → List Bound
bounds s sort i n = map (λ k. record { at = k; name = text_at s k; sort = sort }) (range_with_len i n)

abbrev pub binder_bounds : Source → Binder → List Bound
binder_bounds s (variables i j w) = bounds s (sort_at s w) i (j - i)
binder_bounds s (hypothesis x) = []

-- the names that the binders of a goal bind, in order
abbrev pub all_bounds : Source → List Binder → List Bound
all_bounds s [] = []
all_bounds s (b ∷ bs) = binder_bounds s b ++ all_bounds s bs

-- the first of the names from the k-th on that is this one, with its sort
abbrev pub bound_from : ℕ → List ℕ → List Bound → Option (ℕ × Option Sort)
bound_from k name [] = None
bound_from k name (b ∷ bs) = if bytes_eq b.name name then Some (k, b.sort) else bound_from (k + 1) name bs

-- The variable of a name, with its sort. `_` names none, though it may be bound.
abbrev pub variable_of : List Bound → List ℕ → Option (ℕ × Option Sort)
variable_of bs name = if bytes_eq name (codes "_") then None else bound_from 0 name bs

-- A name may be bound behind these: it is another one, its sort is one, and there are fewer than 64. (Only the first of the
-- three fails in a file within its limits.)
abbrev pub may_bind : List Bound → Bound → Bool
may_bind before b = not (list_any (λ a. bytes_eq a.name b.name) before) && is_some b.sort && nat_lt (length before) 64

-- the variables with their sorts
abbrev pub sorted_binder : List ℕ → Option Sort → Binders
sorted_binder name None = []
sorted_binder name (Some s) = (name, s) ∷ []

abbrev pub binders_of : List Bound → Binders
binders_of [] = []
binders_of (b ∷ bs) = sorted_binder b.name b.sort ++ binders_of bs

-- ---- the same as places and sorts

-- what is bound at a place
abbrev pub named : Source → Binding → Bound
named s b = record { at = b.at; name = text_at s b.at; sort = b.sort }

-- n names from the place i on
abbrev pub placed : Option Sort → ℕ → ℕ → List Binding
placed sort i n = map (λ k. record { at = k; sort = sort }) (range_with_len i n)

-- those that a piece binds
abbrev pub piece_bindings : Source → Piece → List Binding
piece_bindings s (piece.Variables i j w) = placed (sort_at s w) i (j - i)
piece_bindings s _ = []
