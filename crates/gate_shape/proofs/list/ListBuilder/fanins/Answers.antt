use Rattle.std.proofs.Common.{◌-◌, sym, ◌∙◌, ap}
use Rattle.std.proofs.lemmas.List.{length-map, get_or-map}
use Rattle.gate_shape.proofs.Listing.{known_place, level_at, pair_at}
use Rattle.gate_shape.specs.Literal.{Literal}
use Rattle.gate_shape.specs.Builds.{Known}
use Rattle.gate_shape.specs.Listed.{listed}
use Rattle.gate_shape.specs.declared.gates.Entry.{Entry}
use Rattle.gate_shape.proofs.list.ListBuilder.fanins.Goals as goal

abbrev pair_of : Entry → Literal × Literal
pair_of e = (e.left, e.right)

pub get-entry-requires : goal.get-entry-requires
get-entry-requires c =
    let k : Known (listed _) c.args.lit = rw (sym c.self.view_is) at c.requires.known in
    rw c.node.ensures.value (rw length-map at (known_place _ c.args.lit k c.requires.gate))

pub returns : goal.returns
returns c =
    let k : Known (listed _) c.args.lit = rw (sym c.self.view_is) at c.requires.known in
    let q = known_place _ c.args.lit k c.requires.gate in
    let n = rw length-map at q in
    let r = rw c.node.ensures.value at (c.get-entry.ensures c.get-entry.result) in
    let e = get_or-map pair_of c.self.inside.gates (c.args.lit.node - 8193) c.get-entry.result (pair_of c.get-entry.result) n in
    let f = pair_at _ _ _ c.self.invariant (c.args.lit.node - 8193) q (pair_of c.get-entry.result) (e ∙ sym (ap pair_of r)) in
    let h = (level_at _ _ _ c.self.invariant c.args.lit k c.requires.gate).0 in
    let g = get_or-map (λ e. e.level) c.self.inside.gates (c.args.lit.node - 8193) c.get-entry.result 0 n in
    rw (sym c.self.view_is) record { known = f.0; fanins = f.1; level = (ap (λ e. e.level) r ∙ sym g) ∙ h }
