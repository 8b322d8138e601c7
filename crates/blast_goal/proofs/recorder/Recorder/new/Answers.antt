use Rattle.blast_goal.proofs.Scripting.{start_is}
use Rattle.blast_goal.proofs.recorder.Recorder.new.Goals as goal

pub invariant_of-result : goal.invariant_of-result
invariant_of-result c = start_is _ _ _ _ c.new.ensures c.new-2.ensures.items c.new-3.ensures.items c.new-no.ensures
