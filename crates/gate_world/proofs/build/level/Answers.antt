use Rattle.std.proofs.Common.{◌-◌, ◌<◌, ℕ, length, sym, ap, ◌∙◌, subst}
use Rattle.gate_shape.specs.Literal.{Literal}
use Rattle.gate_probe.specs.Words.{word_at, level_of, left_of, right_of}
use Rattle.gate_probe.proofs.Parts.{word_is, left_small, right_small}
use Rattle.gate_probe.proofs.Keeping.{level_here}
use Rattle.gate_probe.proofs.Standing.{level_right}
use Rattle.gate_world.proofs.Standing.{place_below}
use Rattle.gate_world.proofs.Coded.{word_there, word_big}
use Rattle.gate_world.proofs.build.level.Goals as goal

pub bounds-words-node : goal.bounds-words-node
bounds-words-node c =
    let w = word_there c.args.words.now c.args.lit c.requires.stands.0 c.requires.gate c.requires.stands.1 in
    subst (λ n. n - 8193 < length c.args.words.now) (sym c.node.ensures.value) (place_below c.args.words.now (c.args.lit.node - 8193) w)

pub unpack-requires : goal.unpack-requires
unpack-requires c =
    let w = word_there c.args.words.now c.args.lit c.requires.stands.0 c.requires.gate c.requires.stands.1 in
    word_big c.args.words.now (c.node.result - 8193) c.requires.sound (λ z. w (ap (λ n. word_at c.args.words.now (n - 8193)) (sym c.node.ensures.value) ∙ z))

pub returns-clause-value : goal.returns-clause-value
returns-clause-value c = λ e h.
    let w : ℕ = word_at c.args.words.now (c.node.result - 8193) in
    let r = c.unpack.ensures.packed (level_of w) (left_of w) (right_of w) (left_small w) (right_small w) (word_is w) in
    ap (λ (q : ℕ × Literal × Literal). q.0) r ∙ ap (λ n. level_of (word_at c.args.words.now (n - 8193))) c.node.ensures.value
    ∙ sym (level_here c.args.words.now c.args.lit.node c.requires.gate) ∙ level_right c.args.words.now c.requires.sound e c.args.lit h
