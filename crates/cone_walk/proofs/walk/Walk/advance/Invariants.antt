use Rattle.std.proofs.Common.{◌≡◌, []}
use Rattle.gate_shape.specs.Builds.{Meaning}
use Rattle.cone_walk.specs.Walk.{Walks, MeetsSame, gates_met}
use Rattle.cone_walk.specs.declared.walk.Walk.{Walk}
use Rattle.cone_walk.proofs.walk.Walk.advance.Given as goal

-- the walk has gone on from there
pub record IsOnTheWay (old new : Walk) : Type 0 where
  pub root : new.root ≡ old.root
  pub stage : new.stage ≡ old.stage
  pub steps : (m : Meaning) → Walks m old.root old.numbering old.path.items [] → Walks m old.root new.numbering new.path.items [] × (gates_met new ≡ gates_met old)
  pub met : MeetsSame old.numbering old.path.items new.numbering new.path.items

abbrev pub invariant-loop-frame : goal.invariant-loop-frame
invariant-loop-frame l = IsOnTheWay l.initial.self l.self

abbrev pub decreases-loop-frame : goal.decreases-loop-frame
decreases-loop-frame l = goal.left-loop-frame l
