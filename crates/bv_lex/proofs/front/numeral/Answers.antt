use Rattle.std.proofs.Common.{refl, arith}
use Rattle.std.proofs.lemmas.Option.{slice_get_within}
use Rattle.bv_lex.specs.Pieces.{hexadecimal, binary}
use Rattle.bv_lex.proofs.Longest.{decimal_at, digit_ahead, no_prefixes}
use Rattle.bv_lex.proofs.front.numeral.Goals as goal

pub prefixed-requires-clause-prefix : goal.prefixed-requires-clause-prefix
prefixed-requires-clause-prefix c = hexadecimal

pub is_pair-requires-2-clause-at : goal.is_pair-requires-2-clause-at
is_pair-requires-2-clause-at c = slice_get_within c.args.text.now c.args.at c.requires.byte c.requires.here

pub prefixed-requires-then-is_pair-2-clause-prefix : goal.prefixed-requires-then-is_pair-2-clause-prefix
prefixed-requires-then-is_pair-2-clause-prefix c = binary

pub run_end-to-requires : goal.run_end-to-requires
run_end-to-requires c = let lt = slice_get_within c.args.text.now c.args.at c.requires.byte c.requires.here in omega arith

pub numeral_to-requires-clause-order : goal.numeral_to-requires-clause-order
numeral_to-requires-clause-order c = digit_ahead c.args.text.now c.args.at c.run_end-to.result c.requires c.run_end-to.ensures.longest

pub numeral_to-requires-clause-numeral : goal.numeral_to-requires-clause-numeral
numeral_to-requires-clause-numeral c =
    decimal_at c.args.text.now c.args.at c.run_end-to.result c.requires (no_prefixes c.args.text.now c.args.at (c.if-is_pair.ensures.no_ refl) (c.if-is_pair-2.ensures.no_ refl))
    (digit_ahead c.args.text.now c.args.at c.run_end-to.result c.requires c.run_end-to.ensures.longest) c.run_end-to.ensures.each c.run_end-to.ensures.longest
