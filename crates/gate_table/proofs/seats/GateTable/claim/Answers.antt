use Rattle.std.proofs.Common.{◌≡◌, ◌<◌, ℕ, sym, refl, ap, ◌∙◌, subst}
use Rattle.gate_probe.specs.Sound.{MayClaim}
use Rattle.gate_probe.proofs.Keeping.{claim_place}
use Rattle.gate_table.specs.Plays.{left_there}
use Rattle.gate_table.proofs.Allowed.{claim_allowed, left_some, below_learnt}
use Rattle.gate_table.proofs.seats.GateTable.claim.Goals as goal
use Rattle.gate_table.proofs.seats.GateTable.claim.Goals.{then-found-eq0, else-found-eq0}

pub compare_exchange-found-requires : goal.compare_exchange-found-requires
compare_exchange-found-requires c =
    let n = sym (ap (λ t. t.words) c.self.view_is) ∙ c.self.invariant.1 ∙ sym c.self.invariant.0 in
    let seen = sym (ap (λ v. v.view.seen) c.seat.view_is) in
    let may : MayClaim c.self.inside.table.shared.key c.seat.inside.seat.me.0.seen c.args.word c.args.place = subst (λ k. MayClaim k c.seat.inside.seat.me.0.seen c.args.word c.args.place) n (subst (λ s. MayClaim c.args.self.now.words s c.args.word c.args.place) seen c.requires.allowed) in (
      ap (λ v. v.table) c.seat.view_is ∙ c.requires.seat ∙ sym c.self.view_is,
      subst (λ t. c.args.place < t.words) (sym c.self.view_is) (claim_place _ _ _ _ c.requires.allowed),
      rw c.seat.invariant.2 (claim_allowed _ _ _ _ _ _ may),
    )

pub returns-clause-learns : goal.returns-clause-learns
returns-clause-learns c =
    let found : ℕ = c.compare_exchange-found.result in
    let told = c.compare_exchange-found.ensures.2.0 in
    let is : c.if-found-eq0.result ≡ left_there found c.args.word = elim c.if-found-eq0.branch [
      | then-found-eq0 w ↦ w.result-is ∙ rw w.if-found-eq0.true refl
      | else-found-eq0 w ↦ w.result-is ∙ sym (left_some found c.args.word w.if-found-eq0.false)
    ] in
    rw (is, sym (ap (λ v. v.view) c.seat.view_is)) told

pub invariant_of-seat : goal.invariant_of-seat
invariant_of-seat c =
    let e = c.compare_exchange-found.ensures in
    let same = ap (λ v. v.table) c.seat.view_is ∙ c.requires.seat in
    (e.2.0.1, rw (e.0, ap (λ v. v.seen) e.2.0.0) (below_learnt _ _ _ _ c.seat.invariant.1 (subst (λ t. c.args.place < t.words) (sym same) (claim_place _ _ _ _ c.requires.allowed))), e.2.1 ∙ c.seat.invariant.2)
