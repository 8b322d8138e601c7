use Rattle.std.proofs.Common.{◌∙◌, sym}
use Rattle.cone_walk.proofs.Steps.{closes_left, closes_right, closes_gate, wanted_none}
use Rattle.cone_walk.proofs.Asking.{moves_left, moves_right, moves_gate}
use Rattle.cone_walk.proofs.numbering.Numbering.close.Goals as goal

pub returns-in-Some-clause-closes : goal.returns-in-Some-clause-closes
returns-in-Some-clause-closes c = λ m root path w.
    closes_left m root path c.args.frame.now _ _ _ _ w c.in_ok-fanin.ensures.inputs c.in_ok-fanin.ensures.wanted c.in-Some.is

pub returns-in-Some-2-clause-closes : goal.returns-in-Some-2-clause-closes
returns-in-Some-2-clause-closes c = λ m root path w.
    let s = wanted_none _ _ (sym c.in_ok-fanin.ensures.wanted ∙ c.in_default.is) in
    closes_right m root path c.args.frame.now _ _ _ _ _ w c.in_ok-fanin.ensures.inputs s c.in_ok-fanin-2.ensures.inputs c.in_ok-fanin-2.ensures.wanted c.in-Some-2.is

pub returns-clause-closes : goal.returns-clause-closes
returns-clause-closes c = λ m root path w.
    let s = wanted_none _ _ (sym c.in_ok-fanin.ensures.wanted ∙ c.in_default.is) in
    let t = wanted_none _ _ (sym c.in_ok-fanin-2.ensures.wanted ∙ c.in_default-2.is) in
    closes_gate m root path c.args.frame.now _ _ _ _ w c.in_ok-fanin.ensures.inputs s c.in_ok-fanin-2.ensures.inputs t (rw (sym c.literal.ensures.value, sym c.literal-2.ensures.value) c.in_ok-put.ensures)

pub returns-in-Some-clause-moves : goal.returns-in-Some-clause-moves
returns-in-Some-clause-moves c = λ path. moves_left path c.args.frame.now _ _ c.args.frame.now.left.node c.in_ok-fanin.ensures.inputs

pub returns-in-Some-2-clause-moves : goal.returns-in-Some-2-clause-moves
returns-in-Some-2-clause-moves c = λ path. moves_right path c.args.frame.now _ _ _ c.args.frame.now.left.node c.args.frame.now.right.node c.in_ok-fanin.ensures.inputs c.in_ok-fanin-2.ensures.inputs

pub returns-clause-moves : goal.returns-clause-moves
returns-clause-moves c = λ path. moves_gate path c.args.frame.now _ c.reach.new.self c.reach-2.new.self _ c.args.frame.now.left.node c.args.frame.now.right.node _ c.in_ok-fanin.ensures.inputs c.in_ok-fanin-2.ensures.inputs c.in_ok-put.ensures
