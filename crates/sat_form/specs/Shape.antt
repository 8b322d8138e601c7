-- Which lists of clauses are formulas over the variables 1 to vars.
use Rattle.std.specs.Prelude.{ℕ, ◌^◌, Bool, ◌&&◌, nat_lt, nat_le, List, length}
use Rattle.std.specs.List.{list_all}
use Rattle.sat_form.specs.Literals.{Literal}

-- The variables of a clause are 1 to vars.
abbrev pub are_within : ℕ → List Literal → Bool
are_within vars c = list_all (λ l. nat_lt 0 l.var && nat_le l.var vars) c

-- Those of each clause are.
abbrev pub variables_within : ℕ → List (List Literal) → Bool
variables_within vars cs = list_all (are_within vars) cs

-- Fewer than 2^31 variables and fewer than 2^62 clauses, over these variables alone.
abbrev pub is_formula : ℕ → List (List Literal) → Bool
is_formula vars cs = (nat_lt vars (2 ^ 31) && nat_lt (length cs) (2 ^ 62)) && variables_within vars cs
