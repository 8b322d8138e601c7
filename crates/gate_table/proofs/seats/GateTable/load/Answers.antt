use Rattle.std.proofs.Common.{◌<◌, sym, ap, ◌∙◌, subst}
use Rattle.gate_table.proofs.Allowed.{look_allowed, below_learnt}
use Rattle.gate_table.proofs.seats.GateTable.load.Goals as goal

pub load-requires : goal.load-requires
load-requires c = (
  ap (λ v. v.table) c.seat.view_is ∙ c.requires.seat ∙ sym c.self.view_is,
  subst (λ t. c.args.place < t.words) (sym c.self.view_is) c.requires.place,
  rw c.seat.invariant.2 (look_allowed _ _ _ _ _),
)

pub invariant_of-seat : goal.invariant_of-seat
invariant_of-seat c =
    let e = c.load.ensures in
    let same = ap (λ v. v.table) c.seat.view_is ∙ c.requires.seat in
    (e.2.0.1, rw (e.0, ap (λ v. v.seen) e.2.0.0) (below_learnt _ _ _ _ c.seat.invariant.1 (subst (λ t. c.args.place < t.words) (sym same) c.requires.place)), e.2.1 ∙ c.seat.invariant.2)
