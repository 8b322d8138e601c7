-- Literals, and finite sets of them.
use Rattle.std.specs.Prelude.{ℕ, Bool, true, false, not, ◌&&◌, ◌||◌, if◌then◌else◌, nat_eq, nat_lt, List, [], ◌∷◌}
use Rattle.std.specs.List.{list_any, filter}

-- A variable, from 1 on, or its negation.
pub record Literal : Type 0 where
  pub var : ℕ
  pub positive : Bool

-- The literal of the same variable with the other sign.
abbrev pub negate : Literal → Literal
negate l = record { var = l.var; positive = not l.positive }

-- Whether two signs are equal.
abbrev pub same_sign : Bool → Bool → Bool
same_sign true b = b
same_sign false b = not b

-- Whether two literals are equal.
abbrev pub same_literal : Literal → Literal → Bool
same_literal k l = nat_eq k.var l.var && same_sign k.positive l.positive

-- The order of literals: by variable, and of one variable the negative literal first.
abbrev pub stands_before : Literal → Literal → Bool
stands_before k l = nat_lt k.var l.var || (nat_eq k.var l.var && (not k.positive && l.positive))

-- A set of literals is the list of its members in this order; a clause as written is read by membership too.
abbrev pub member : List Literal → Literal → Bool
member s l = list_any (same_literal l) s

-- The set with one more member.
abbrev pub put : List Literal → Literal → List Literal
put [] l = l ∷ []
put (k ∷ s) l = if stands_before l k then l ∷ k ∷ s else (if same_literal l k then k ∷ s else k ∷ put s l)

-- The set without a member.
abbrev pub without : List Literal → Literal → List Literal
without s l = filter (λ k. not (same_literal l k)) s

-- The set with the members of a list.
abbrev pub put_all : List Literal → List Literal → List Literal
put_all s [] = s
put_all s (l ∷ ls) = put_all (put s l) ls

-- The set of the literals of a list.
abbrev pub set_of : List Literal → List Literal
set_of ls = put_all [] ls
