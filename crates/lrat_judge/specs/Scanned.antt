-- What a clause's literals come to, one after the other.
use Rattle.std.specs.Prelude.{◌≡◌, true, false, cond, ◌||◌, List, Option, None, Some}
use Rattle.std.specs.List.{list_all}
use Rattle.sat_form.specs.Literals.{Literal, same_literal}
use Rattle.sat_form.specs.Assignment.{is_false, clause_false, unit_literal}
use Rattle.lrat_judge.specs.declared.hints.State.{State}
use Rattle.lrat_judge.specs.declared.hints.State.TheVariants.{False, Unit, Neither}

-- The literals before the rest are false, but for one that is unassigned.
abbrev pub Scanned : List Literal → List Literal → Option Literal → List Literal → Type 0
Scanned a c None rest = (clause_false a c ≡ clause_false a rest) × (unit_literal a c ≡ unit_literal a rest)
Scanned a c (Some l) rest = (clause_false a c ≡ false) × (unit_literal a c ≡ cond (list_all (λ k. same_literal k l || is_false a k) rest) (Some l) None)

-- What a clause is under the literals a.
abbrev pub IsState : List Literal → List Literal → State → Type 0
IsState a c False = clause_false a c ≡ true
IsState a c (Unit l) = (clause_false a c ≡ false) × (unit_literal a c ≡ Some l)
IsState a c Neither = (clause_false a c ≡ false) × (unit_literal a c ≡ None)
