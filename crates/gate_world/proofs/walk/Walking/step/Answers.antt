use Rattle.std.proofs.Common.{◌-◌, ℕ, Some, ap}
use Rattle.gate_shape.specs.Literal.{Literal}
use Rattle.gate_probe.specs.Words.{word_at, level_of, left_of, right_of}
use Rattle.gate_probe.proofs.Parts.{word_is, left_small, right_small}
use Rattle.gate_world.specs.Cone.{WalksOn, WalkMoves}
use Rattle.gate_world.proofs.Begun.{if_ok}
use Rattle.gate_world.proofs.Walked.{node_place, node_word, walks_on}
use Rattle.gate_world.proofs.walk.Walking.step.Goals as goal

pub bounds-words-self : goal.bounds-words-self
bounds-words-self c = let r = c.requires in node_place r.0 r.1 c.args.words.now c.args.self r.2

pub unpack-level-requires : goal.unpack-level-requires
unpack-level-requires c = let r = c.requires in node_word r.0 r.1 c.args.words.now c.args.self r.2

pub returns : goal.returns
returns c =
    let w : ℕ = word_at c.args.words.now (c.args.self.node - 8193) in
    let r = c.unpack-level.ensures.packed (level_of w) (left_of w) (right_of w) (left_small w) (right_small w) (word_is w) in
    let left = c.unpack-level.result.1 in
    let right = c.unpack-level.result.2 in
    if_ok c.told.result (WalksOn c.args.self.walk c.args.self.nodes.items (Some (left, right))) (WalkMoves c.args.words.now c.args.self)
    (λ walked on a v h.
    walks_on a v c.args.words.now c.args.self h left right walked (ap (λ (q : ℕ × Literal × Literal). q.1) r) (ap (λ (q : ℕ × Literal × Literal). q.2) r) on)
    c.told.ensures
