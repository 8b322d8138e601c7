use Rattle.std.proofs.Common.{List, refl, arith}
use Rattle.gate_shape.specs.Edge.{Gate}
use Rattle.gate_world.specs.Work.{to_build}
use Rattle.gate_world.specs.Coding.{HasCall, AreReadBy, ShowsWork}
use Rattle.gate_world.specs.declared.build.Work.TheVariants as code
use Rattle.gate_world.specs.declared.build.Stage.TheVariants as stage
use Rattle.gate_world.proofs.Coded.{is_gate_if, is_leaf_if}
use Rattle.gate_world.proofs.Begun.{by_ahead, left_shows, right_shows, none_shows}
use Rattle.gate_world.proofs.build.Calls.begin.Goals as goal

pub returns-then-self-len : goal.returns-then-self-len
returns-then-self-len c = λ p words seen done ahead h reads.
    let e = c.if-self-len.true in let n = c.len.ensures in
    let R : List Gate → Type 0 = λ k. ShowsWork p words (code.Built c.args.self) (to_build c.args.size p seen k) in
    by_ahead p words done ahead c.args.self R h (λ h' at. (refl, done, h')) (λ g gs h' l. absurd (omega arith))

pub fanins-left-requires : goal.fanins-left-requires
fanins-left-requires c =
    let r = c.requires.calls in let e = c.if-self-len.false in let n = c.len.ensures in
    by_ahead r.0 r.1 r.2 r.3 c.args.self (λ k. HasCall c.args.self) r.5 (λ h at. absurd (e (omega arith))) (λ g gs h l. (r.0, r.1, r.2, g, gs, r.4, h))

pub returns-then-is_gate : goal.returns-then-is_gate
returns-then-is_gate c = λ p words seen done ahead h reads.
    let e = c.if-self-len.false in let n = c.len.ensures in
    let R : List Gate → Type 0 = λ k. AreReadBy words seen k → ShowsWork p words (code.Building (record { calls = c.args.self; stage = stage.Left })) (to_build c.args.size p seen k) in
    let le = is_gate_if c.fanins-left.result.0.node c.is_gate.result c.is_gate.ensures c.if-is_gate.true in
    by_ahead p words done ahead c.args.self R h (λ h' at. absurd (e (omega arith)))
    (λ g gs h' l rd. left_shows p words seen done g gs c.args.self c.args.size c.fanins-left.result.0 h' (c.fanins-left.ensures.left p words done g gs h') le) reads

pub returns-then-is_gate-2 : goal.returns-then-is_gate-2
returns-then-is_gate-2 c = λ p words seen done ahead h reads.
    let e = c.if-self-len.false in let n = c.len.ensures in
    let R : List Gate → Type 0 = λ k. AreReadBy words seen k → ShowsWork p words (code.Building (record { calls = c.args.self; stage = stage.Right 0 })) (to_build c.args.size p seen k) in
    let low = is_leaf_if c.fanins-left.result.0.node c.is_gate.result c.is_gate.ensures c.if-is_gate.false in
    let le = is_gate_if c.fanins-left.result.1.node c.is_gate-2.result c.is_gate-2.ensures c.if-is_gate-2.true in
    by_ahead p words done ahead c.args.self R h (λ h' at. absurd (e (omega arith)))
    (λ g gs h' l rd. right_shows p words seen done g gs c.args.self c.args.size c.fanins-left.result.0 c.fanins-left.result.1 h' (c.fanins-left.ensures.left p words done g gs h') low (c.fanins-left.ensures.right p words done g gs h') le) reads

pub probe-requires-clause-call : goal.probe-requires-clause-call
probe-requires-clause-call c =
    let r = c.requires.calls in let e = c.if-self-len.false in let n = c.len.ensures in
    by_ahead r.0 r.1 r.2 r.3 c.args.self (λ k. HasCall c.args.self) r.5 (λ h at. absurd (e (omega arith))) (λ g gs h l. (r.0, r.1, r.2, g, gs, r.4, h))

pub returns : goal.returns
returns c = λ p words seen done ahead h reads.
    let e = c.if-self-len.false in let n = c.len.ensures in
    let R : List Gate → Type 0 = λ k. AreReadBy words seen k → ShowsWork p words c.probe.result (to_build c.args.size p seen k) in
    let low = is_leaf_if c.fanins-left.result.0.node c.is_gate.result c.is_gate.ensures c.if-is_gate.false in
    let low' = is_leaf_if c.fanins-left.result.1.node c.is_gate-2.result c.is_gate-2.ensures c.if-is_gate-2.false in
    by_ahead p words done ahead c.args.self R h (λ h' at. absurd (e (omega arith)))
    (λ g gs h' l rd. none_shows p words seen g gs c.args.size c.probe.result c.fanins-left.result.0 c.fanins-left.result.1 (c.fanins-left.ensures.left p words done g gs h') low (c.fanins-left.ensures.right p words done g gs h') low'
    (λ a b. c.probe.ensures p words seen done g gs h' rd a b)) reads
