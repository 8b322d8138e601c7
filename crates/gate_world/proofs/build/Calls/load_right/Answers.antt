use Rattle.gate_world.proofs.InHand.{right_in_hand, gate_of_one, right_then_probe}
use Rattle.gate_world.proofs.build.Calls.load_right.Goals as goal

pub level-second-requires-clause-gate : goal.level-second-requires-clause-gate
level-second-requires-clause-gate c =
    let r = c.requires in
    let k = right_in_hand r.0 r.1 c.args.words.now c.args.self c.args.first r.2 in
    gate_of_one c.args.words.now k.0.gate.right c.fanins-left.result.1 (c.fanins-left.ensures.right r.0.problem c.args.words.now k.0.done k.0.gate k.0.ahead k.0.calls) k.1

pub level-second-requires-clause-stands : goal.level-second-requires-clause-stands
level-second-requires-clause-stands c =
    let r = c.requires in
    let k = right_in_hand r.0 r.1 c.args.words.now c.args.self c.args.first r.2 in
    (k.0.gate.right, c.fanins-left.ensures.right r.0.problem c.args.words.now k.0.done k.0.gate k.0.ahead k.0.calls)

pub returns : goal.returns
returns c = λ a w h.
    let k = right_in_hand a w c.args.words.now c.args.self c.args.first h in
    let r = c.fanins-left.ensures.right a.problem c.args.words.now k.0.done k.0.gate k.0.ahead k.0.calls in
    right_then_probe a w c.args.words.now c.args.self c.probe.result k.0 k.1 k.2
    (λ seen read. c.probe.ensures a.problem c.args.words.now seen k.0.done k.0.gate k.0.ahead k.0.calls read k.3 (c.level-second.ensures.value k.0.gate.right r))
