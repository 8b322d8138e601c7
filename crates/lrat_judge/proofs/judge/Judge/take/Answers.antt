use Rattle.std.proofs.Common.{rules}
use Rattle.lrat_lines.specs.Judge.{judge}
use Rattle.lrat_judge.proofs.judge.Judge.take.Goals as goal

pub returns-in-Skip-clause-judged : goal.returns-in-Skip-clause-judged
unfolding judge
returns-in-Skip-clause-judged c = search rules

pub returns-in-Delete-clause-judged : goal.returns-in-Delete-clause-judged
unfolding judge
returns-in-Delete-clause-judged c = search rules
