use Rattle.std.proofs.Common.{◌∙◌, sym, List, length, ap}
use Rattle.std.proofs.lemmas.List.{length-map}
use Rattle.gate_shape.specs.Edge.{Edge}
use Rattle.gate_shape.specs.Builds.{edge, edges}
use Rattle.gate_shape.proofs.Building.{builds_plain, builds_then, builds_exit, builds_answer, builds_at_one_and_lists, stand_self, stand_after, stands_self, stands_after, stand_lengths}
use Rattle.blast_logic.specs.Chosen.{chosen}
use Rattle.blast_shift.specs.Ways.{moved_by}
use Rattle.blast_logic.proofs.Wiring.{stand_given}
use Rattle.blast_shift.proofs.Staging.{stage-within, stage-beyond, test_of, moved_by-length}
use Rattle.blast_shift.proofs.stages.stage.Goals as goal

pub weight-requires : goal.weight-requires
weight-requires g c = c.is_below.ensures.small c.if-is_below.true

pub returns-in_err-moved : goal.returns-in_err-moved
returns-in_err-moved g c =
    let m = g.B.Builder.meaning c.args.b.now in
    let xs = edges m c.args.x.items in
    let y = edge m c.args.y in
    let p = rw (c.deref.ensures.value, c.weight.ensures) at c.in_err-moved.ensures.built in
    rw (← stage-within (moved_by c.args.way) xs c.args.k y (test_of c.args.k c.is_below.ensures.value (c.len.ensures ∙ c.args.x.ok.0 ∙ sym (length-map c.args.x.items (edge m))) c.if-is_below.true))
    (builds_exit (λ (moved : List Edge). chosen y moved xs) c.from_residual.ensures.1 p)

pub choose-requires-clause-lengths : goal.choose-requires-clause-lengths
choose-requires-clause-lengths g c =
    let m = g.B.Builder.meaning c.args.b.now in
    let p = builds_answer c.in_ok-moved.ensures.built in
    ap length c.deref-then-is_below.ensures.value ∙ stand_lengths p ∙ moved_by-length c.args.way _ _ ∙ length-map c.deref.result.now (edge m) ∙ ap length (c.deref.ensures.value ∙ sym c.deref-then-is_below-2.ensures.value)

pub returns-in_ok-moved : goal.returns-in_ok-moved
returns-in_ok-moved g c =
    let m = g.B.Builder.meaning c.args.b.now in
    let xs = edges m c.args.x.items in
    let y = edge m c.args.y in
    let p = rw (c.deref.ensures.value, c.weight.ensures) at c.in_ok-moved.ensures.built in
    let z = stands_after p (stands_self c.requires.right) in
    let moved = stand_given c.deref-then-is_below.ensures.value (builds_answer p) in
    let kept = stand_given c.deref-then-is_below-2.ensures.value (stand_after p (stand_self c.requires.left)) in
    let q = builds_at_one_and_lists chosen z moved kept c.choose.ensures.built in
    rw (← stage-within (moved_by c.args.way) xs c.args.k y (test_of c.args.k c.is_below.ensures.value (c.len.ensures ∙ c.args.x.ok.0 ∙ sym (length-map c.args.x.items (edge m))) c.if-is_below.true))
    (builds_then (λ (moved : List Edge). chosen y moved xs) p q)

pub returns-else-is_below : goal.returns-else-is_below
returns-else-is_below g c =
    let m = g.B.Builder.meaning c.args.b.now in
    let xs = edges m c.args.x.items in
    rw (← stage-beyond (moved_by c.args.way) xs c.args.k (edge m c.args.y) (test_of c.args.k c.is_below.ensures.value (c.len.ensures ∙ c.args.x.ok.0 ∙ sym (length-map c.args.x.items (edge m))) c.if-is_below.false))
    (builds_plain (stand_self c.requires.left))
