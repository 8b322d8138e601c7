use Rattle.std.proofs.Common.{refl}
use Rattle.gate_world.proofs.Behind.{in_hand, build_moved, build_follows, taken_back}
use Rattle.gate_world.proofs.task.build_on.Goals as goal

pub step-requires : goal.step-requires
step-requires c =
    let r = c.requires.task in
    (r.0, r.0.work, in_hand r.0 c.args.words.now c.args.budget c.args.goal.now c.args.building r.1)

pub behind_build-requires-clause-built : goal.behind_build-requires-clause-built
behind_build-requires-clause-built c =
    let r = c.requires.task in
    let n = build_moved c.args.words.now c.step.new.words c.args.budget c.args.goal.now c.args.building c.in_ok-step.field-0 r.0 c.in_ok-step.ensures.moves r.1 in
    n.may_walk

pub returns-in-Ok-clause-moves : goal.returns-in-Ok-clause-moves
returns-in-Ok-clause-moves c = build_follows c.args.words.now c.step.new.words c.args.budget c.args.goal.now c.args.building c.in_ok-step.field-0 c.in-Ok.task c.in_ok-step.ensures.moves c.in-Ok.ensures

pub returns-in-Err-clause-err : goal.returns-in-Err-clause-err
returns-in-Err-clause-err c =
    let r = c.requires.task in
    let hand = in_hand r.0 c.args.words.now c.args.budget c.args.goal.now c.args.building r.1 in
    taken_back c.args.words.now c.step.new.words c.args.building c.in_ok-step.field-0 r.0 r.0.work c.claimed-place.result _ c.in_ok-step.ensures.moves hand c.claimed-place.ensures refl
