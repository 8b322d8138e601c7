-- The DIMACS text of a formula: the format of the SAT competitions, with single spaces and LF.
use Rattle.std.specs.Prelude.{ℕ, List, [], ◌∷◌, ◌++◌, length, if◌then◌else◌, codes, decimal}
use Rattle.sat_form.specs.Literals.{Literal}

-- The variable's number, and a minus before it where it is negated.
abbrev pub literal_text : Literal → List ℕ
literal_text l = (if l.positive then [] else codes "-") ++ decimal l.var

-- The line of a clause: each literal and a space, then 0 and LF.
abbrev pub clause_text : List Literal → List ℕ
clause_text [] = codes "0\n"
clause_text (l ∷ ls) = literal_text l ++ (codes " " ++ clause_text ls)

-- The lines of the clauses.
abbrev pub clauses_text : List (List Literal) → List ℕ
clauses_text [] = []
clauses_text (c ∷ cs) = clause_text c ++ clauses_text cs

-- The first line: `p cnf`, the number of variables and the number of clauses.
abbrev pub header : ℕ → ℕ → List ℕ
header vars count = codes "p cnf " ++ decimal vars ++ codes " " ++ decimal count ++ codes "\n"

-- The whole text.
abbrev pub dimacs_text : ℕ → List (List Literal) → List ℕ
dimacs_text vars cs = header vars (length cs) ++ clauses_text cs
