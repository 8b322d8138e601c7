use Rattle.std.proofs.Common.{sym, ◌∙◌}
use Rattle.gate_table.specs.Seats.{known_by}
use Rattle.gate_table.proofs.Knowing.{once}
use Rattle.gate_table.proofs.Conjoining.{and_simple, deep_exact, full_cause, never_plain}
use Rattle.gate_table.proofs.seats.GateTable.and.Goals as goal

pub returns-in-Some-clause-built : goal.returns-in-Some-clause-built
returns-in-Some-clause-built c = and_simple (known_by c.args.seat.now) (once c.args.seat.now c.keeps.ensures.part) c.args.a c.args.b c.requires.left c.requires.right c.in-Some.lit (sym c.simple.ensures.literals ∙ c.in-Some.is)

pub returns-in-Some-clause-once : goal.returns-in-Some-clause-once
returns-in-Some-clause-once c = once c.args.seat.now c.keeps.ensures.part

pub returns-in-Some-clause-deep : goal.returns-in-Some-clause-deep
returns-in-Some-clause-deep c = deep_exact (known_by c.args.seat.now) (known_by c.args.seat.now) _ _ _ (and_simple (known_by c.args.seat.now) (once c.args.seat.now c.keeps.ensures.part) c.args.a c.args.b c.requires.left c.requires.right c.in-Some.lit (sym c.simple.ensures.literals ∙ c.in-Some.is)) tt

pub returns-in-None-clause-deep : goal.returns-in-None-clause-deep
returns-in-None-clause-deep c = deep_exact (known_by c.args.seat.now) (known_by c.gate.new.seat) _ _ c.gate.result c.gate.ensures.built c.gate.ensures.answered

pub returns-in-None-clause-full : goal.returns-in-None-clause-full
returns-in-None-clause-full c = full_cause (known_by c.args.seat.now) (known_by c.gate.new.seat) _ _ c.gate.result c.gate.ensures.built

pub returns-in-None-clause-simple : goal.returns-in-None-clause-simple
returns-in-None-clause-simple c none = absurd (never_plain (known_by c.args.seat.now) (once c.args.seat.now c.keeps.ensures.part) c.args.a c.args.b c.requires.left c.requires.right (sym c.simple.ensures.literals ∙ c.in-None.is) none)
