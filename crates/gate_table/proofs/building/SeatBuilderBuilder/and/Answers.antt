use Rattle.std.proofs.Common.{◌∷◌, ap}
use Rattle.gate_table.specs.Seats.{table_numbers}
use Rattle.gate_table.proofs.Conjoining.{rebased, once_based}
use Rattle.gate_table.proofs.building.SeatBuilderBuilder.and.Goals as goal

pub returns-clause-built : goal.returns-clause-built
returns-clause-built c = rebased _ _ _ _ _ _ _ _ c.args.a c.args.b c.and.result (ap (λ t. c.args.self.now.seat.ghost_name ∷ table_numbers t) c.and.ensures.table) c.and.ensures.built

pub returns-clause-once : goal.returns-clause-once
returns-clause-once c = once_based _ _ _ _ c.and.ensures.once
