use Rattle.std.proofs.Common.{◌≡◌, [], length}
use Rattle.lrat_lines.specs.Judge as judge
use Rattle.lrat_judge.specs.Marked.{Same}
use Rattle.sat_form.specs.Literals.{Literal}
use Rattle.std.proofs.Common.{List}
use Rattle.lrat_judge.proofs.groups.judge_groups.Given as goal

abbrev pub invariant-loop-named : goal.invariant-loop-named
invariant-loop-named l = record {
  first : (judge.split_hints l.rest).first ≡ [];
  groups : (a : List Literal) → Same l.fn.marks a → judge.judge_groups l.known a l.pivot (judge.split_hints l.groups).groups ≡ judge.judge_groups l.known a l.pivot (judge.split_hints l.rest).groups;
  marks : l.marks ≡ l.fn.marks;
}

abbrev pub decreases-loop-named : goal.decreases-loop-named
decreases-loop-named l = length l.rest
