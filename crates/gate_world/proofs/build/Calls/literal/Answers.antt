use Rattle.std.proofs.Common.{◌≡◌, ◌-◌, ◌<◌, false, get_or, slice_index_or, refl, sym, ap, ◌∙◌, subst, arith}
use Rattle.gate_shape.specs.Literal.{Literal}
use Rattle.gate_shape.specs.Edge.{gate_edge}
use Rattle.gate_shape.specs.Builds.{edge}
use Rattle.gate_shape.specs.Listed.{no_gate}
use Rattle.gate_probe.specs.Standing.{StandsIn}
use Rattle.blast_goal.specs.Script.{list_of}
use Rattle.gate_world.proofs.Standing.{node_small}
use Rattle.gate_world.proofs.Coded.{is_gate_if, is_leaf_if, known_place, nodes_long, nodes_at, gate_stands, leaf_stands}
use Rattle.gate_world.proofs.build.Calls.literal.Goals as goal

pub index-requires : goal.index-requires
index-requires c =
    let le = is_gate_if c.args.lit.node c.is_gate.result c.is_gate.ensures c.if-is_gate.true in
    let k = known_place c.requires.1 c.args.lit c.requires.4 le in
    let l = nodes_long c.requires.0 c.requires.1 c.args.self.now.built.items c.requires.3 in
    let v = c.node.ensures.value in
    omega arith

pub new-requires : goal.new-requires
new-requires c =
    let le = is_gate_if c.args.lit.node c.is_gate.result c.is_gate.ensures c.if-is_gate.true in
    let words = c.requires.0 in let kept = c.requires.1 in
    let at = nodes_at words kept c.args.self.now.built.items (c.args.lit.node - 8193) c.index.result.now c.requires.3 (known_place kept c.args.lit c.requires.4 le) in
    let is : c.index.result.now ≡ slice_index_or c.args.self.now.built.items (c.args.lit.node - 8193) c.index.result.now = c.index.ensures ∙ ap (λ n. get_or c.args.self.now.built.items (n - 8193) c.index.result.now) c.node.ensures.value in
    subst (λ n. n < 4194304) (sym is) (node_small words words (λ s z. refl) c.requires.2 (gate_edge (slice_index_or kept (c.args.lit.node - 8193) no_gate)) (record { node = slice_index_or c.args.self.now.built.items (c.args.lit.node - 8193) c.index.result.now; sign = false }) at)

pub returns-then-is_gate : goal.returns-then-is_gate
returns-then-is_gate c = λ words kept h k.
    let le = is_gate_if c.args.lit.node c.is_gate.result c.is_gate.ensures c.if-is_gate.true in
    let is : c.index.result.now ≡ slice_index_or c.args.self.now.built.items (c.args.lit.node - 8193) c.index.result.now = c.index.ensures ∙ ap (λ n. get_or c.args.self.now.built.items (n - 8193) c.index.result.now) c.node.ensures.value in
    let same : ◌≡◌ {A = Literal} (record { node = slice_index_or c.args.self.now.built.items (c.args.lit.node - 8193) c.index.result.now; sign = c.args.lit.sign }) (record { node = c.index.result.now; sign = c.sign.result }) = λ i. record { node = (sym is) i; sign = (sym c.sign.ensures) i } in
    subst (λ (l : Literal). StandsIn words l (edge (list_of kept) c.args.lit)) (same ∙ sym c.new.ensures) (gate_stands words kept c.args.self.now.built.items c.args.lit c.index.result.now h k le)

pub returns-else-is_gate : goal.returns-else-is_gate
returns-else-is_gate c = λ words kept h k. leaf_stands words kept c.args.lit (is_leaf_if c.args.lit.node c.is_gate.result c.is_gate.ensures c.if-is_gate.false)
