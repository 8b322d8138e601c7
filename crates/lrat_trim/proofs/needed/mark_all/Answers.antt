use Rattle.std.proofs.Common.{◌≡◌, ◌+◌, ◌||◌, ◌∙◌, ap, false, nat_eq, get_or, length, arith, rules}
use Rattle.std.specs.List.{list_any}
use Rattle.std.proofs.lemmas.List.{take_all}
use Rattle.lrat_trim.proofs.Marking.{any_next, earlier_at}
use Rattle.lrat_trim.proofs.needed.mark_all.Goals as goal

pub mark_id-requires : goal.mark_id-requires
mark_id-requires c =
    let earlier = earlier_at (c.args.inputs + 1 + length c.args.marks.now) c.args.hints.now c.loop-hint.hint-index c.requires c.loop-hint-test.true in
    let under = earlier.1 in
    let size = c.loop-hint.auto.marks in
    omega arith

pub loop-hint-preserved : goal.loop-hint-preserved
loop-hint-preserved c =
    λ j inside.
    let k = c.args.inputs + 1 + j in
    let size = c.mark_id.auto.marks in
    let named : c.from.result ≡ get_or c.args.hints.now c.loop-hint.hint-index 0 = search rules in
    c.mark_id.ensures j (omega arith)
    ∙ ap (λ n. nat_eq k n || get_or c.loop-hint.marks j false) named
    ∙ ap (λ b. nat_eq k (get_or c.args.hints.now c.loop-hint.hint-index 0) || b) (c.loop-hint.invariant j (omega arith))
    ∙ any_next (nat_eq k) c.args.hints.now c.loop-hint.hint-index (get_or c.args.marks.now j false) c.loop-hint-test.true

pub returns : goal.returns
returns c =
    λ j inside.
    let size = c.loop-hint.auto.marks in
    let over = c.loop-hint-test.false in
    c.loop-hint.invariant j (omega arith)
    ∙ ap (λ xs. list_any (nat_eq (c.args.inputs + 1 + j)) xs || get_or c.args.marks.now j false) (take_all c.loop-hint.hint-index c.args.hints.now (omega arith))
