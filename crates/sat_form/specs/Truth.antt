-- What literals, clauses and formulas mean, where each variable has a value.
use Rattle.std.specs.Prelude.{◌≡◌, ℕ, Bool, false, List, pred, slice_index_or}
use Rattle.std.specs.List.{list_any, list_all}
use Rattle.sat_form.specs.Literals.{Literal, same_sign}

-- A literal is true where its variable has the value that it names.
abbrev pub literal_true : (ℕ → Bool) → Literal → Bool
literal_true values l = same_sign (values l.var) l.positive

-- The values in a list: that at place i is the value of variable i + 1.
abbrev pub value_of : List Bool → ℕ → Bool
value_of values v = slice_index_or values (pred v) false

-- A clause is true where one of its literals is.
abbrev pub clause_true : (ℕ → Bool) → List Literal → Bool
clause_true values c = list_any (literal_true values) c

-- Values satisfy clauses where each of them is true.
abbrev pub satisfies : (ℕ → Bool) → List (List Literal) → Bool
satisfies values cs = list_all (clause_true values) cs

-- No values satisfy the clauses.
abbrev pub HaveNoValues : List (List Literal) → Type 0
HaveNoValues cs = (values : ℕ → Bool) → satisfies values cs ≡ false
