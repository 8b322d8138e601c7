use Rattle.std.proofs.Common.{[], None}
use Rattle.blast_goal.specs.Script.{kept_after}
use Rattle.gate_world.specs.Work.{script_of, cone_of}
use Rattle.gate_world.specs.Cone.{WalksOn}
use Rattle.gate_world.proofs.Begun.{if_ok}
use Rattle.gate_world.proofs.Walked.{ends_well, root_by, root_seen, begun_told}
use Rattle.gate_world.proofs.walk.start_walk.Goals as goal

pub unreachable-requires : goal.unreachable-requires
unreachable-requires c = let r = c.requires in ends_well r.0 r.1 (script_of r.0) c.args.calls.now c.in-Err.field-0 r.3.done c.in-Err.is

pub returns : goal.returns
returns c =
    if_ok c.told.result (WalksOn c.in_ok-walk-in-Ok.walk c.new.result.items None) _
    (λ walked on p words seen h.
    let s = root_by p words c.args.calls.now c.in-Ok.root h.done c.in-Ok.is in
    let t = root_seen p words seen c.args.calls.now c.in-Ok.root c.literal.result h c.in-Ok.is (c.literal.ensures words (kept_after [] (script_of p)) h.done.built s.known) in
    on p seen (cone_of p) (begun_told p words seen c.args.calls.now c.literal.result c.in_ok-walk-in-Ok.walk c.new.result.items h t c.in_ok-walk-in-Ok.ensures.begun c.in_ok-walk-in-Ok.ensures.follows c.new.ensures.items))
    c.told.ensures
