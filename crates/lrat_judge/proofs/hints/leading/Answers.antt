use Rattle.std.proofs.Common.{arith, sym, ◌∙◌, length}
use Rattle.lrat_judge.proofs.Hinted.{split_lead}
use Rattle.lrat_judge.proofs.hints.leading.Goals as goal

pub returns-then-is_group-clause-first : goal.returns-then-is_group-clause-first
returns-then-is_group-clause-first c = (split_lead c.loop-at.at c.args.hints.now (omega arith) c.loop-at.invariant (λ _. sym c.is_group.ensures ∙ c.if-is_group.true)).0

pub returns-then-is_group-clause-groups : goal.returns-then-is_group-clause-groups
returns-then-is_group-clause-groups c = (split_lead c.loop-at.at c.args.hints.now (omega arith) c.loop-at.invariant (λ _. sym c.is_group.ensures ∙ c.if-is_group.true)).1

pub returns-clause-first : goal.returns-clause-first
returns-clause-first c = (split_lead (length c.args.hints.now) c.args.hints.now (omega arith) (λ i h. c.loop-at.invariant i (omega arith)) (λ h. absurd (omega arith))).0

pub returns-clause-groups : goal.returns-clause-groups
returns-clause-groups c = (split_lead (length c.args.hints.now) c.args.hints.now (omega arith) (λ i h. c.loop-at.invariant i (omega arith)) (λ h. absurd (omega arith))).1
