use Rattle.std.proofs.Common.{subst}
use Rattle.gate_shape.specs.Builds.{OneEach}
use Rattle.gate_table.specs.Seats.{SeatState, known_by}
use Rattle.gate_table.proofs.Knowing.{once}
use Rattle.gate_table.proofs.seats.GateSeat.keeps.Goals as goal

pub returns-clause-once : goal.returns-clause-once
returns-clause-once c =
    let inside : SeatState = record { table = c.self.inside.seat.table_id; view = c.self.inside.seat.me.0 } in
    subst (λ s. OneEach (known_by s)) c.self.view_is (once inside c.self.invariant.0)
