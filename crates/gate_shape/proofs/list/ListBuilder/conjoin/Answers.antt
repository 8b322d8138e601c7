use Rattle.std.proofs.Common.{◌≡◌, sym, ◌∙◌, ap}
use Rattle.gate_shape.specs.Edge.{Gate}
use Rattle.gate_shape.specs.Builds.{Known}
use Rattle.gate_shape.specs.Listed.{listed}
use Rattle.gate_shape.proofs.Listing.{and_simple, and_simple_none, and_deep, and_gate, level_of_ordered, ordered_swapped, ordered_kept, level_of_pair, max-swap}
use Rattle.gate_shape.proofs.Conjoining.{one_gate, conjoined_simple, conjoined_deep}
use Rattle.gate_shape.proofs.list.ListBuilder.conjoin.Goals as goal

pub returns-in-Some : goal.returns-in-Some
returns-in-Some c =
    let ka : Known (listed _) c.args.a = rw (sym c.self.view_is) at c.requires.left in
    let kb : Known (listed _) c.args.b = rw (sym c.self.view_is) at c.requires.right in
    let e = sym c.simple.ensures.literals ∙ c.in-Some.is in
    rw (sym c.self.view_is) (conjoined_simple _ _ _ (and_simple_none _ _ _ c.self.invariant c.args.a c.args.b ka kb c.in-Some.answer e) (and_simple _ _ _ c.self.invariant c.args.a c.args.b ka kb c.in-Some.answer e))

pub returns-then-level-eq262144 : goal.returns-then-level-eq262144
returns-then-level-eq262144 c =
    let ka : Known (listed _) c.args.a = rw (sym c.self.view_is) at c.requires.left in
    let kb : Known (listed _) c.args.b = rw (sym c.self.view_is) at c.requires.right in
    let x = rw (sym c.self.view_is) at c.level-first.ensures.value in
    let y = rw (sym c.self.view_is) at c.level-second.ensures.value in
    let d = rw (c.max-level.ensures, x, y) at c.if-level-eq262144.true in
    let e = sym c.simple.ensures.literals ∙ c.in-None.is in
    rw (sym c.self.view_is) (conjoined_deep _ _ _ (and_gate _ _ _ c.self.invariant c.args.a c.args.b ka kb e) (level_of_ordered _ _ _ c.self.invariant c.args.a c.args.b ka kb ∙ d) (and_deep _ _ _ c.self.invariant c.args.a c.args.b ka kb e d))

pub place-requires-clause-level_right : goal.place-requires-clause-level_right
place-requires-clause-level_right c =
    rw (c.max-level.ensures, c.level-first.ensures.value, c.level-second.ensures.value) (max-swap _ _ ∙ sym (level_of_pair c.args.self.now.limit c.args.self.now.pairs c.args.b c.args.a))

pub place-requires-else-before-clause-level_right : goal.place-requires-else-before-clause-level_right
place-requires-else-before-clause-level_right c =
    rw (c.max-level.ensures, c.level-first.ensures.value, c.level-second.ensures.value) (sym (level_of_pair c.args.self.now.limit c.args.self.now.pairs c.args.a c.args.b))

as_row : {g h : Gate} → g ≡ h → one_gate g ≡ one_gate h
as_row e = ap one_gate e

pub returns-then-before : goal.returns-then-before
returns-then-before c =
    let ka : Known (listed _) c.args.a = rw (sym c.self.view_is) at c.requires.left in
    let kb : Known (listed _) c.args.b = rw (sym c.self.view_is) at c.requires.right in
    let x = rw (sym c.self.view_is) at c.level-first.ensures.value in
    let y = rw (sym c.self.view_is) at c.level-second.ensures.value in
    let h = rw (c.key.ensures, c.key-else-level-eq262144.ensures) at (sym c.if-before.ensures) in
    let o = ordered_swapped _ _ _ c.self.invariant c.args.a c.args.b ka kb c.level-first.result c.level-second.result x y h in
    let e = and_gate _ _ _ c.self.invariant c.args.a c.args.b ka kb (sym c.simple.ensures.literals ∙ c.in-None.is) ∙ as_row o in
    rw (sym c.self.view_is, e) (rw (sym c.self.view_is) at c.place.ensures)

pub returns-else-before : goal.returns-else-before
returns-else-before c =
    let ka : Known (listed _) c.args.a = rw (sym c.self.view_is) at c.requires.left in
    let kb : Known (listed _) c.args.b = rw (sym c.self.view_is) at c.requires.right in
    let x = rw (sym c.self.view_is) at c.level-first.ensures.value in
    let y = rw (sym c.self.view_is) at c.level-second.ensures.value in
    let h = rw (c.key.ensures, c.key-else-level-eq262144.ensures) at (sym c.if-before.ensures) in
    let o = ordered_kept _ _ _ c.self.invariant c.args.a c.args.b ka kb c.level-first.result c.level-second.result x y h in
    let e = and_gate _ _ _ c.self.invariant c.args.a c.args.b ka kb (sym c.simple.ensures.literals ∙ c.in-None.is) ∙ as_row o in
    rw (sym c.self.view_is, e) (rw (sym c.self.view_is) at c.place-else-before.ensures)
