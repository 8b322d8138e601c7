use Rattle.std.proofs.Common.{◌≡◌, ◌<◌, ◌≤◌, ℕ, sym, ap, ◌∙◌, arith}
use Rattle.gate_probe.specs.Sound.{IsWithin}
use Rattle.gate_probe.specs.Views.{union}
use Rattle.gate_probe.proofs.Keeping.{union_keeps, union_within}
use Rattle.gate_table.proofs.Allowed.{joins, merge_allowed, below_union}
use Rattle.gate_table.proofs.seats.GateTable.merge.Goals as goal

some_word : (n k : ℕ) → n ≡ k → 1 ≤ k → 0 < n
some_word n k e h = omega arith

pub join_seat-requires : goal.join_seat-requires
join_seat-requires c = (
  ap (λ v. v.table) c.seat.view_is ∙ c.requires.seat ∙ sym c.self.view_is,
  ap (λ v. v.table) c.other.view_is ∙ c.requires.other ∙ sym c.self.view_is,
  c.other.invariant.2,
  some_word _ _ c.self.invariant.1 c.self.invariant.2,
  joins _ _ _ _ _,
)

pub load-requires : goal.load-requires
load-requires c =
    let e = ap (λ m. m.1) c.join_seat.ensures.2 ∙ c.seat.invariant.2 in (
      c.join_seat.ensures.0 ∙ ap (λ v. v.table) c.seat.view_is ∙ c.requires.seat ∙ sym c.self.view_is,
      some_word _ _ c.self.invariant.1 c.self.invariant.2,
      rw e (merge_allowed _ _ _ _ _),
    )

pub invariant_of-seat : goal.invariant_of-seat
invariant_of-seat c =
    let e = c.load.ensures in let j = c.join_seat.ensures in
    let same = ap (λ v. v.table) c.other.view_is ∙ c.requires.other ∙ sym c.requires.seat ∙ sym (ap (λ v. v.table) c.seat.view_is) in
    let now : c.load.new.seat.me.0.seen ≡ union c.seat.inside.seat.me.0.seen c.other.inside.seat.me.0.seen = ap (λ m. m.0.seen) e.2.0 ∙ ap (λ m. union m.0.seen m.0.beside) j.2 in
    let w = e.2.1 in
    let a : IsWithin c.seat.inside.seat.me.0.seen w.0 = rw (sym (ap (λ m. m.0.seen) j.2)) w.2.0 in
    let b : IsWithin c.other.inside.seat.me.0.seen w.0 = rw (sym (ap (λ m. m.0.beside) j.2)) w.2.1 in
    (rw now (w.0, w.1, union_within _ _ w.0 a b), rw (e.0, j.0, now) (below_union _ _ _ c.seat.invariant.1 (rw (sym same) c.other.invariant.1)), ap (λ m. m.1) e.2.0 ∙ ap (λ m. m.1) j.2 ∙ c.seat.invariant.2)

pub returns-clause-seen : goal.returns-clause-seen
returns-clause-seen c =
    let e = c.load.ensures in let j = c.join_seat.ensures in
    let now : c.load.new.seat.me.0.seen ≡ union c.seat.inside.seat.me.0.seen c.other.inside.seat.me.0.seen = ap (λ m. m.0.seen) e.2.0 ∙ ap (λ m. union m.0.seen m.0.beside) j.2 in
    let w = e.2.1 in
    let a : IsWithin c.seat.inside.seat.me.0.seen w.0 = rw (sym (ap (λ m. m.0.seen) j.2)) w.2.0 in
    let b : IsWithin c.other.inside.seat.me.0.seen w.0 = rw (sym (ap (λ m. m.0.beside) j.2)) w.2.1 in
    rw (now, sym (ap (λ v. v.view.seen) c.seat.view_is), sym (ap (λ v. v.view.seen) c.other.view_is)) (union_keeps _ _ w.0 a b)
