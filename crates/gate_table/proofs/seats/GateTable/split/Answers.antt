use Rattle.std.proofs.Common.{◌≡◌, ◌<◌, ◌≤◌, ℕ, sym, ap, ◌∙◌, arith}
use Rattle.gate_table.proofs.Allowed.{splits}
use Rattle.gate_table.proofs.seats.GateTable.split.Goals as goal

some_word : (n k : ℕ) → n ≡ k → 1 ≤ k → 0 < n
some_word n k e h = omega arith

pub split_seat-other-requires : goal.split_seat-other-requires
split_seat-other-requires c = (ap (λ v. v.table) c.seat.view_is ∙ c.requires ∙ sym c.self.view_is, some_word _ _ c.self.invariant.1 c.self.invariant.2, splits _ _ _)
