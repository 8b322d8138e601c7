-- Rules: what a node becomes, where the rule fits it.
use Rattle.std.specs.Prelude.{Bool, if◌then◌else◌, List, [], ◌∷◌, Option, Some, None}
use Rattle.bv_expr.specs.Term.{Term}

-- The term that a rule makes of a node, or none where it doesn't fit.
abbrev pub Rule : Type 0
Rule = Term → Option Term

-- A term, where a test holds.
abbrev pub gives : Bool → Term → Option Term
gives test t = if test then Some t else None

abbrev pub or_else : Option Term → Option Term → Option Term
or_else (Some t) next = Some t
or_else None next = next

-- The other side, where one side passes the test.
abbrev pub beside : (Term → Bool) → Term → Term → Option Term
beside test x y = or_else (gives (test y) x) (gives (test x) y)

-- The side that passes the test.
abbrev pub the_one : (Term → Bool) → Term → Term → Option Term
the_one test x y = or_else (gives (test y) y) (gives (test x) x)

-- What the first rule that fits makes of a node.
unfoldable pub first_fit : List Rule → Rule
first_fit [] t = None
first_fit (rule ∷ more) t = or_else (rule t) (first_fit more t)
