-- Partial assignments, each as the list of the literals that are true.
use Rattle.std.specs.Prelude.{Bool, not, ◌&&◌, ◌||◌, if◌then◌else◌, List, [], ◌∷◌, Some, None}
use Rattle.std.specs.List.{list_all}
use Rattle.std.specs.declared.option.Option.{Option}
use Rattle.sat_form.specs.Literals.{Literal, negate, member, same_literal}

-- A literal is true where it was assigned.
abbrev pub is_true : List Literal → Literal → Bool
is_true a l = member a l

-- A literal is false where its negation is true.
abbrev pub is_false : List Literal → Literal → Bool
is_false a l = member a (negate l)

-- A literal is assigned where it is true or false.
abbrev pub is_assigned : List Literal → Literal → Bool
is_assigned a l = is_true a l || is_false a l

-- A clause is false where all its literals are.
abbrev pub clause_false : List Literal → List Literal → Bool
clause_false a c = list_all (is_false a) c

-- The literal of a unit clause: one literal is unassigned, and all others are false.
abbrev pub unit_literal : List Literal → List Literal → Option Literal
unit_literal a [] = None
unit_literal a (l ∷ c) =
    if is_false a l then unit_literal a c
    else (if not (is_assigned a l) && list_all (λ k. same_literal k l || is_false a k) c then Some l else None)
