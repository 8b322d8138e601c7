-- What a builder over a seat holds.
use Rattle.std.specs.Prelude.{ℕ}
use Rattle.gate_table.specs.declared.builder.SeatBuilder.{SeatBuilder}
use Rattle.gate_shape.specs.Builds.{Meaning}
use Rattle.gate_table.specs.Seats.{SeatState, known_through}

-- the seat that it lends, and the name of the reference to it
abbrev pub seat_of : SeatBuilder → SeatState
seat_of b = b.seat.now

abbrev pub name_of : SeatBuilder → ℕ
name_of b = b.seat.ghost_name

-- what is known to it
abbrev pub known_to : SeatBuilder → Meaning
known_to b = known_through (name_of b) (seat_of b)
