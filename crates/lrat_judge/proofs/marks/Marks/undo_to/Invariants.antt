use Rattle.std.proofs.Common.{◌≡◌, take, length}
use Rattle.lrat_judge.specs.Values.{value_in}
use Rattle.lrat_judge.specs.Marked.{AreTrueAt, IsTrail}
use Rattle.lrat_judge.proofs.marks.Marks.undo_to.Given as goal

abbrev pub invariant-loop-self : goal.invariant-loop-self
invariant-loop-self l = record {
  front : take l.count l.self-inside.trail.items ≡ take l.count l.fn.self;
  marks : AreTrueAt (value_in l.self-inside.values) l.self-inside.trail.items;
  trail : IsTrail l.self-inside.trail.items;
}

abbrev pub decreases-loop-self : goal.decreases-loop-self
decreases-loop-self l = length l.self-inside.trail.items
