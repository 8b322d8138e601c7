use Rattle.std.proofs.Common.{◌<◌, ◌-◌, sym, ap, subst}
use Rattle.gate_probe.specs.Words.{level_of, left_of, right_of}
use Rattle.gate_probe.proofs.Parts.{word_is, left_small, right_small}
use Rattle.gate_probe.proofs.Meaning.{meant_fanins}
use Rattle.gate_table.specs.Seats.{sees_first, table_numbers}
use Rattle.gate_table.proofs.Knowing.{fanins_loaded, fanins_told}
use Rattle.gate_table.proofs.seats.GateTable.fanins.Goals as goal

pub load-word-requires-clause-place : goal.load-word-requires-clause-place
load-word-requires-clause-place c =
    let s = c.args.seat.now in
    let there = (meant_fanins s.view.seen (sees_first s.table.words s.view.seen) (table_numbers s.table) c.keeps.ensures.part c.args.lit c.requires.known c.requires.gate).0 in
    let b = c.keeps.ensures.below (c.args.lit.node - 8193) there in
    subst (λ n. n - 8193 < c.args.self.now.words) (sym c.node.ensures.value) (subst (λ t. c.args.lit.node - 8193 < t.words) c.requires.seat b)

pub unpack-level-requires : goal.unpack-level-requires
unpack-level-requires c = (fanins_loaded c.args.seat.now c.keeps.ensures.part c.args.lit c.requires.known c.requires.gate (c.node.result - 8193) c.load-word.result c.load-word.new.seat.view (ap (λ n. n - 8193) c.node.ensures.value) c.load-word.ensures.learns).2

pub returns-clause-view : goal.returns-clause-view
returns-clause-view c = (fanins_loaded c.args.seat.now c.keeps.ensures.part c.args.lit c.requires.known c.requires.gate (c.node.result - 8193) c.load-word.result c.load-word.new.seat.view (ap (λ n. n - 8193) c.node.ensures.value) c.load-word.ensures.learns).1

pub returns-clause-known : goal.returns-clause-known
returns-clause-known c =
    let w = c.load-word.result in
    let is = (fanins_loaded c.args.seat.now c.keeps.ensures.part c.args.lit c.requires.known c.requires.gate (c.node.result - 8193) w c.load-word.new.seat.view (ap (λ n. n - 8193) c.node.ensures.value) c.load-word.ensures.learns).0 in
    let r = c.unpack-level.ensures.packed (level_of w) (left_of w) (right_of w) (left_small w) (right_small w) (word_is w) in
    (fanins_told c.args.seat.now c.keeps.ensures.part c.args.lit c.requires.known c.requires.gate w is c.unpack-level.result r).0

pub returns-clause-fanins : goal.returns-clause-fanins
returns-clause-fanins c =
    let w = c.load-word.result in
    let is = (fanins_loaded c.args.seat.now c.keeps.ensures.part c.args.lit c.requires.known c.requires.gate (c.node.result - 8193) w c.load-word.new.seat.view (ap (λ n. n - 8193) c.node.ensures.value) c.load-word.ensures.learns).0 in
    let r = c.unpack-level.ensures.packed (level_of w) (left_of w) (right_of w) (left_small w) (right_small w) (word_is w) in
    (fanins_told c.args.seat.now c.keeps.ensures.part c.args.lit c.requires.known c.requires.gate w is c.unpack-level.result r).1

pub returns-clause-level : goal.returns-clause-level
returns-clause-level c =
    let w = c.load-word.result in
    let is = (fanins_loaded c.args.seat.now c.keeps.ensures.part c.args.lit c.requires.known c.requires.gate (c.node.result - 8193) w c.load-word.new.seat.view (ap (λ n. n - 8193) c.node.ensures.value) c.load-word.ensures.learns).0 in
    let r = c.unpack-level.ensures.packed (level_of w) (left_of w) (right_of w) (left_small w) (right_small w) (word_is w) in
    (fanins_told c.args.seat.now c.keeps.ensures.part c.args.lit c.requires.known c.requires.gate w is c.unpack-level.result r).2
