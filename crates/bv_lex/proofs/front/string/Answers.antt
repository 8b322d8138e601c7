use Rattle.std.proofs.Common.{◌≡◌, ◌∙◌, get_or, arith, sym}
use Rattle.bv_lex.proofs.Reading.{here, read}
use Rattle.bv_lex.proofs.Longest.{string_cut, string_stops}
use Rattle.bv_lex.proofs.front.string.Goals as goal

pub returns-then-byte-ne34-clause-fault : goal.returns-then-byte-ne34-clause-fault
returns-then-byte-ne34-clause-fault c =
    string_stops c.args.text.now c.args.at c.run_end-end.result c.requires c.run_end-end.ensures.longest c.run_end-end.ensures.each (λ e. c.if-byte-ne34.true (c.byte.ensures ∙ read c.args.text.now c.run_end-end.result 34 e))

pub returns-clause-front : goal.returns-clause-front
returns-clause-front c =
    let quote : get_or c.args.text.now c.run_end-end.result 0 ≡ 34 = sym c.byte.ensures ∙ c.if-byte-ne34.false in
    string_cut c.args.text.now c.args.at c.run_end-end.result c.requires c.run_end-end.ensures.ahead c.run_end-end.ensures.each (here c.args.text.now c.run_end-end.result 34 quote (omega arith))
