use Rattle.std.proofs.Common.{◌≡◌, ℕ, drop}
use Rattle.lrat_judge.proofs.Uncovered.{named_with}
use Rattle.lrat_lines.specs.Judge.{split_hints}
use Rattle.lrat_judge.specs.Named.{has_named}
use Rattle.lrat_judge.proofs.missing.grouped.Given as goal

abbrev pub invariant-loop-hint : goal.invariant-loop-hint
invariant-loop-hint l = (id : ℕ) → named_with l.named (drop l.hint-index l.groups) id ≡ has_named (split_hints l.groups).groups id
