use Rattle.gate_world.proofs.Coded.{is_gate_if, is_leaf_if}
use Rattle.gate_world.proofs.Begun.{no_gate_there}
use Rattle.gate_world.proofs.InHand.{left_in_hand, gate_of_one, left_then_right, left_then_probe}
use Rattle.gate_world.proofs.build.Calls.load_left.Goals as goal

pub level-first-requires-clause-gate : goal.level-first-requires-clause-gate
level-first-requires-clause-gate c =
    let r = c.requires in
    let k = left_in_hand r.0 r.1 c.args.words.now c.args.self r.2 in
    gate_of_one c.args.words.now k.0.gate.left c.fanins-left.result.0 (c.fanins-left.ensures.left r.0.problem c.args.words.now k.0.done k.0.gate k.0.ahead k.0.calls) k.1

pub level-first-requires-clause-stands : goal.level-first-requires-clause-stands
level-first-requires-clause-stands c =
    let r = c.requires in
    let k = left_in_hand r.0 r.1 c.args.words.now c.args.self r.2 in
    (k.0.gate.left, c.fanins-left.ensures.left r.0.problem c.args.words.now k.0.done k.0.gate k.0.ahead k.0.calls)

pub returns-then-is_gate : goal.returns-then-is_gate
returns-then-is_gate c = λ a w h.
    let k = left_in_hand a w c.args.words.now c.args.self h in
    let l = c.fanins-left.ensures.left a.problem c.args.words.now k.0.done k.0.gate k.0.ahead k.0.calls in
    let r = c.fanins-left.ensures.right a.problem c.args.words.now k.0.done k.0.gate k.0.ahead k.0.calls in
    let le = is_gate_if c.fanins-left.result.1.node c.is_gate.result c.is_gate.ensures c.if-is_gate.true in
    left_then_right a w c.args.words.now c.args.self c.level-first.result k.0 c.fanins-left.result.1 k.1 k.2 r le (c.level-first.ensures.value k.0.gate.left l) c.level-first.ensures.small

pub returns : goal.returns
returns c = λ a w h.
    let k = left_in_hand a w c.args.words.now c.args.self h in
    let l = c.fanins-left.ensures.left a.problem c.args.words.now k.0.done k.0.gate k.0.ahead k.0.calls in
    let r = c.fanins-left.ensures.right a.problem c.args.words.now k.0.done k.0.gate k.0.ahead k.0.calls in
    let low = is_leaf_if c.fanins-left.result.1.node c.is_gate.result c.is_gate.ensures c.if-is_gate.false in
    let none = no_gate_there c.args.words.now k.0.gate.right c.fanins-left.result.1 r low in
    left_then_probe a w c.args.words.now c.args.self c.probe.result k.0 k.1 k.2 none.0
    (λ seen read. c.probe.ensures a.problem c.args.words.now seen k.0.done k.0.gate k.0.ahead k.0.calls read (c.level-first.ensures.value k.0.gate.left l) none.1)
