use Rattle.std.proofs.Common.{sym, arith}
use Rattle.bv_lex.proofs.Encoding.{mark_ascii, mark_subscript, no_mark}
use Rattle.bv_lex.proofs.names.character_length.Goals as goal

pub returns-then-is_ascii_mark-clause-some : goal.returns-then-is_ascii_mark-clause-some
returns-then-is_ascii_mark-clause-some c h = mark_ascii c.args.text.now c.args.at c.byte-first.result (sym c.byte-first.ensures) (sym c.if-is_ascii_mark.ensures)

pub returns-then-spell_subscript-clause-some : goal.returns-then-spell_subscript-clause-some
returns-then-spell_subscript-clause-some c h =
    mark_subscript c.args.text.now c.args.at c.byte-first.result c.byte.result c.byte-else-is_ascii_mark.result (sym c.byte-first.ensures) (sym c.byte.ensures) (sym c.byte-else-is_ascii_mark.ensures)
    (sym c.if-spell_subscript.ensures)

pub returns-else-spell_subscript-clause-none : goal.returns-else-spell_subscript-clause-none
returns-else-spell_subscript-clause-none c h n =
    no_mark c.args.text.now c.args.at c.byte-first.result c.byte.result c.byte-else-is_ascii_mark.result n (sym c.byte-first.ensures) (sym c.byte.ensures) (sym c.byte-else-is_ascii_mark.ensures)
    (c.letter_length-letter.ensures.none (omega (arith, c.if-letter-gt0.false))) (sym c.if-is_ascii_mark.ensures) (sym c.if-spell_subscript.ensures)
