use Rattle.std.proofs.Common.{◌∙◌}
use Rattle.lrat_lines.specs.Judge.{split_hints}
use Rattle.lrat_judge.proofs.Uncovered.{missing_named}
use Rattle.lrat_judge.proofs.known.Known.missing.Goals as goal

pub returns : goal.returns
returns c = c.uncovered.ensures ∙ missing_named c.args.self.now c.args.marks.now c.args.pivot c.in_ok-named.named (split_hints c.args.groups.now).groups c.in_ok-named.ensures
