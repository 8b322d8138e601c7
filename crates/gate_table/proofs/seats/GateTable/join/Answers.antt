use Rattle.std.proofs.Common.{sym, ◌∙◌}
use Rattle.gate_table.proofs.Knowing.{knows_more}
use Rattle.gate_table.proofs.seats.GateTable.join.Goals as goal

pub returns-clause-keeps : goal.returns-clause-keeps
returns-clause-keeps c =
    let e = c.merge.ensures in
    (knows_more c.args.seat.now c.merge.new.seat c.keeps.ensures.part e.table e.seen.0, knows_more c.args.other c.merge.new.seat c.keeps.ensures.part (e.table ∙ c.requires.seat ∙ sym c.requires.other) e.seen.1)
