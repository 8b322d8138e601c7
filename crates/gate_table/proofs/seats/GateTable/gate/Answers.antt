use Rattle.std.proofs.Common.{sym}
use Rattle.gate_table.specs.Seats.{known_by}
use Rattle.gate_probe.proofs.Meaning.{simple_swap}
use Rattle.gate_table.proofs.Gating.{order_swapped, order_kept, level_kept, level_swapped, deep_built, once_same, kept_same, built_swapped, built_kept}
use Rattle.gate_table.proofs.seats.GateTable.gate.Goals as goal

pub returns-then-level-eq262144-clause-built : goal.returns-then-level-eq262144-clause-built
returns-then-level-eq262144-clause-built c = deep_built c.args.seat.now c.level-first.new.seat c.level-second.new.seat c.keeps.ensures.part c.level-first.ensures.table c.level-first.ensures.seen c.level-second.ensures.table c.level-second.ensures.seen c.args.a c.args.b c.requires.left c.requires.right c.requires.apart c.level-first.result c.level-second.result c.level-first.ensures.value c.level-second.ensures.value c.max-level.result c.max-level.ensures c.if-level-eq262144.true

pub returns-then-level-eq262144-clause-once : goal.returns-then-level-eq262144-clause-once
returns-then-level-eq262144-clause-once c = once_same c.args.seat.now c.level-first.new.seat c.level-second.new.seat c.keeps.ensures.part c.level-first.ensures.table c.level-first.ensures.seen c.level-second.ensures.table c.level-second.ensures.seen c.args.a c.args.b c.requires.left c.requires.right c.requires.apart c.level-first.result c.level-second.result c.level-first.ensures.value c.level-second.ensures.value

pub place-requires-clause-apart : goal.place-requires-clause-apart
place-requires-clause-apart c = simple_swap c.args.a c.args.b c.requires.apart

pub place-requires-clause-order : goal.place-requires-clause-order
place-requires-clause-order c = let h = rw (c.key.ensures, c.key-2.ensures) at (sym c.if-before.ensures) in order_swapped c.args.seat.now c.level-first.new.seat c.level-second.new.seat c.keeps.ensures.part c.level-first.ensures.table c.level-first.ensures.seen c.level-second.ensures.table c.level-second.ensures.seen c.args.a c.args.b c.requires.left c.requires.right c.requires.apart c.level-first.result c.level-second.result c.level-first.ensures.value c.level-second.ensures.value h

pub place-requires-clause-level_right : goal.place-requires-clause-level_right
place-requires-clause-level_right c = level_swapped c.args.seat.now c.level-first.new.seat c.level-second.new.seat c.keeps.ensures.part c.level-first.ensures.table c.level-first.ensures.seen c.level-second.ensures.table c.level-second.ensures.seen c.args.a c.args.b c.requires.left c.requires.right c.requires.apart c.level-first.result c.level-second.result c.level-first.ensures.value c.level-second.ensures.value c.max-level.result c.max-level.ensures

pub place-requires-else-before-clause-order : goal.place-requires-else-before-clause-order
place-requires-else-before-clause-order c = let h = rw (c.key.ensures, c.key-2.ensures) at (sym c.if-before.ensures) in order_kept c.args.seat.now c.level-first.new.seat c.level-second.new.seat c.keeps.ensures.part c.level-first.ensures.table c.level-first.ensures.seen c.level-second.ensures.table c.level-second.ensures.seen c.args.a c.args.b c.requires.left c.requires.right c.requires.apart c.level-first.result c.level-second.result c.level-first.ensures.value c.level-second.ensures.value h

pub place-requires-else-before-clause-level_right : goal.place-requires-else-before-clause-level_right
place-requires-else-before-clause-level_right c = level_kept c.args.seat.now c.level-first.new.seat c.level-second.new.seat c.keeps.ensures.part c.level-first.ensures.table c.level-first.ensures.seen c.level-second.ensures.table c.level-second.ensures.seen c.args.a c.args.b c.requires.left c.requires.right c.requires.apart c.level-first.result c.level-second.result c.level-first.ensures.value c.level-second.ensures.value c.max-level.result c.max-level.ensures

pub returns-then-before-clause-kept : goal.returns-then-before-clause-kept
returns-then-before-clause-kept c = kept_same c.args.seat.now c.level-first.new.seat c.level-second.new.seat c.keeps.ensures.part c.level-first.ensures.table c.level-first.ensures.seen c.level-second.ensures.table c.level-second.ensures.seen c.args.a c.args.b c.requires.left c.requires.right c.requires.apart c.level-first.result c.level-second.result c.level-first.ensures.value c.level-second.ensures.value c.place.new.seat.view.seen c.place.ensures.kept

pub returns-then-before-clause-built : goal.returns-then-before-clause-built
returns-then-before-clause-built c = let h = rw (c.key.ensures, c.key-2.ensures) at (sym c.if-before.ensures) in built_swapped c.args.seat.now c.level-first.new.seat c.level-second.new.seat c.keeps.ensures.part c.level-first.ensures.table c.level-first.ensures.seen c.level-second.ensures.table c.level-second.ensures.seen c.args.a c.args.b c.requires.left c.requires.right c.requires.apart c.level-first.result c.level-second.result c.level-first.ensures.value c.level-second.ensures.value h (known_by c.place.new.seat) c.place.result c.place.ensures.built

pub returns-else-before-clause-kept : goal.returns-else-before-clause-kept
returns-else-before-clause-kept c = kept_same c.args.seat.now c.level-first.new.seat c.level-second.new.seat c.keeps.ensures.part c.level-first.ensures.table c.level-first.ensures.seen c.level-second.ensures.table c.level-second.ensures.seen c.args.a c.args.b c.requires.left c.requires.right c.requires.apart c.level-first.result c.level-second.result c.level-first.ensures.value c.level-second.ensures.value c.place-else-before.new.seat.view.seen c.place-else-before.ensures.kept

pub returns-else-before-clause-built : goal.returns-else-before-clause-built
returns-else-before-clause-built c = let h = rw (c.key.ensures, c.key-2.ensures) at (sym c.if-before.ensures) in built_kept c.args.seat.now c.level-first.new.seat c.level-second.new.seat c.keeps.ensures.part c.level-first.ensures.table c.level-first.ensures.seen c.level-second.ensures.table c.level-second.ensures.seen c.args.a c.args.b c.requires.left c.requires.right c.requires.apart c.level-first.result c.level-second.result c.level-first.ensures.value c.level-second.ensures.value h (known_by c.place-else-before.new.seat) c.place-else-before.result c.place-else-before.ensures.built
