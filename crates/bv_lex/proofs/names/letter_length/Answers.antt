use Rattle.std.proofs.Common.{sym}
use Rattle.bv_lex.proofs.Encoding.{letter_ascii, letter_greek, no_letter}
use Rattle.bv_lex.proofs.names.letter_length.Goals as goal

pub returns-then-is_ascii_letter-clause-some : goal.returns-then-is_ascii_letter-clause-some
returns-then-is_ascii_letter-clause-some c h = letter_ascii c.args.text.now c.args.at c.byte-first.result (sym c.byte-first.ensures) (sym c.if-is_ascii_letter.ensures)

pub returns-then-spell_greek_letter-clause-some : goal.returns-then-spell_greek_letter-clause-some
returns-then-spell_greek_letter-clause-some c h =
    letter_greek c.args.text.now c.args.at c.byte-first.result c.byte.result (sym c.byte-first.ensures) (sym c.byte.ensures) (sym c.if-spell_greek_letter.ensures)

pub returns-else-spell_greek_letter-clause-none : goal.returns-else-spell_greek_letter-clause-none
returns-else-spell_greek_letter-clause-none c h n =
    no_letter c.args.text.now c.args.at c.byte-first.result c.byte.result n (sym c.byte-first.ensures) (sym c.byte.ensures) (sym c.if-is_ascii_letter.ensures) (sym c.if-spell_greek_letter.ensures)
