use Rattle.std.proofs.Common.{◌≤◌, ◌-◌, arith, sym, ◌∙◌, ap}
use Rattle.std.proofs.lemmas.List.{length-map, get_or-map}
use Rattle.gate_shape.proofs.Listing.{level-leaf, known_place, level_at}
use Rattle.gate_shape.specs.Builds.{Known}
use Rattle.gate_shape.specs.Listed.{listed}
use Rattle.gate_shape.proofs.list.ListBuilder.level.Goals as goal

pub get-requires : goal.get-requires
get-requires c =
    let k : Known (listed _) c.args.lit = rw (sym c.self.view_is) at c.requires in
    let big : 8193 ≤ c.args.lit.node = omega arith in
    rw (c.node-else-node-lt8193.ensures.value) (rw length-map at (known_place _ c.args.lit k big))

pub returns-then-node-lt8193-clause-value : goal.returns-then-node-lt8193-clause-value
returns-then-node-lt8193-clause-value c = sym (level-leaf (listed c.args.self.now) c.args.lit (omega arith))

pub returns-else-node-lt8193-clause-value : goal.returns-else-node-lt8193-clause-value
returns-else-node-lt8193-clause-value c =
    let k : Known (listed _) c.args.lit = rw (sym c.self.view_is) at c.requires in
    let big : 8193 ≤ c.args.lit.node = omega arith in
    let n = rw length-map at (known_place _ c.args.lit k big) in
    let h = (level_at _ _ _ c.self.invariant c.args.lit k big).0 in
    let e = get_or-map (λ e. e.level) c.self.inside.gates (c.args.lit.node - 8193) c.get.result 0 n in
    let r = rw c.node-else-node-lt8193.ensures.value at (c.get.ensures c.get.result) in
    rw (sym c.self.view_is) ((ap (λ e. e.level) r ∙ sym e) ∙ h)

pub returns-else-node-lt8193-clause-small : goal.returns-else-node-lt8193-clause-small
returns-else-node-lt8193-clause-small c =
    let k : Known (listed _) c.args.lit = rw (sym c.self.view_is) at c.requires in
    let big : 8193 ≤ c.args.lit.node = omega arith in
    let n = rw length-map at (known_place _ c.args.lit k big) in
    let h = (level_at _ _ _ c.self.invariant c.args.lit k big).1 in
    let e = get_or-map (λ e. e.level) c.self.inside.gates (c.args.lit.node - 8193) c.get.result 0 n in
    let r = rw c.node-else-node-lt8193.ensures.value at (c.get.ensures c.get.result) in
    rw (ap (λ e. e.level) r ∙ sym e) h
