-- What hints come to.
use Rattle.std.specs.Prelude.{◌≡◌, Bool, true, false, List, ℤ, pos, negsuc}
use Rattle.sat_form.specs.Literals.{Literal}
use Rattle.lrat_lines.specs.Judge as judge
use Rattle.lrat_judge.specs.declared.hints.Taken.{Taken}
use Rattle.lrat_judge.specs.declared.hints.Taken.TheVariants.{Conflict, Open, Stop}
use Rattle.lrat_judge.specs.Marked.{Same}
use Rattle.lrat_judge.specs.Judged.{cause_shown}

-- The literals that are marked are those that the hints leave true.
abbrev pub Comes : List Literal → judge.Taken → Taken → Type 0
Comes marks taken Conflict = taken ≡ judge.Taken.Conflict
Comes marks taken Open = (b : List Literal) × (taken ≡ judge.Taken.Units b) × Same marks b
Comes marks taken (Stop cause) = taken ≡ judge.Taken.Stop (cause_shown cause)

abbrev pub begins_group : ℤ → Bool
begins_group (pos n) = false
begins_group (negsuc n) = true
