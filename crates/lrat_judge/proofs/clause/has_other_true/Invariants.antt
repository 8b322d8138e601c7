use Rattle.std.proofs.Common.{◌≡◌, drop}
use Rattle.std.specs.List.{list_any}
use Rattle.sat_form.specs.Assignment.{is_true}
use Rattle.lrat_lines.specs.Judge.{others}
use Rattle.lrat_judge.proofs.clause.has_other_true.Given as goal

abbrev pub invariant-loop-lit : goal.invariant-loop-lit
invariant-loop-lit l = list_any (is_true l.marks) (others l.clause l.left_out) ≡ list_any (is_true l.marks) (others (drop l.lit-index l.clause) l.left_out)
