use Rattle.std.proofs.Common.{Some, subst, sym, arith}
use Rattle.std.proofs.lemmas.Option.{slice_get_within}
use Rattle.bv_lex.specs.Fronts.{IsCutOff}
use Rattle.bv_lex.proofs.Naming.{character_within}
use Rattle.bv_lex.proofs.Longest.{word_cut, word_stops}
use Rattle.bv_lex.proofs.front.word.Goals as goal

pub returns-then-length-eq0-clause-fault : goal.returns-then-length-eq0-clause-fault
returns-then-length-eq0-clause-fault c = word_stops c.args.text.now c.args.at c.requires (c.letter_length-length.ensures.none c.if-length-eq0.true)

pub overflow_add-at : goal.overflow_add-at
overflow_add-at c =
    let lt = slice_get_within c.args.text.now c.args.at c.requires.byte c.requires.here in
    let x = c.letter_length-length.ensures.some (omega (arith, c.if-length-eq0.false)) in
    omega (arith, character_within c.args.text.now c.args.at c.letter_length-length.result (omega arith) x)

pub name_end-to-requires : goal.name_end-to-requires
name_end-to-requires c =
    let lt = slice_get_within c.args.text.now c.args.at c.requires.byte c.requires.here in
    let x = c.letter_length-length.ensures.some (omega (arith, c.if-length-eq0.false)) in
    character_within c.args.text.now c.args.at c.letter_length-length.result (omega arith) x

pub returns-clause-front : goal.returns-clause-front
returns-clause-front c =
    let x = c.letter_length-length.ensures.some (omega (arith, c.if-length-eq0.false)) in
    subst (λ k. IsCutOff c.args.text.now (Some k) c.args.at c.name_end-to.result) (sym c.kind_of_word-kind.ensures)
    (word_cut c.args.text.now c.args.at c.letter_length-length.result c.name_end-to.result c.requires x c.name_end-to.ensures.characters c.name_end-to.ensures.longest)
