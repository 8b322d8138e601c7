use Rattle.std.proofs.Common.{◌≡◌, true, take}
use Rattle.std.specs.List.{list_all}
use Rattle.lrat_lines.specs.Lines.{is_literal}
use Rattle.lrat_trim.proofs.text.see_literals.Given as goal

abbrev pub invariant-loop-lit : goal.invariant-loop-lit
invariant-loop-lit l = list_all is_literal (take l.lit-index l.lits) ≡ true
