use Rattle.std.proofs.Common.{arith}
use Rattle.bv_lex.proofs.Reading.{stands_within}
use Rattle.bv_lex.proofs.Longest.{sign_cut, sign_stops}
use Rattle.bv_lex.proofs.front.sign.Goals as goal

pub returns-then-length-eq0-clause-fault : goal.returns-then-length-eq0-clause-fault
returns-then-length-eq0-clause-fault c =
    sign_stops c.args.text.now c.args.at c.requires.signs (λ v m s. let le = c.sign_length-length.ensures.longest v m s in omega (arith, le, c.if-length-eq0.true))

pub overflow_add-result : goal.overflow_add-result
overflow_add-result c =
    let t = c.sign_length-length.ensures.there (omega (arith, c.if-length-eq0.false)) in
    let within = stands_within c.args.text.now t.0 c.args.at (omega (arith, c.requires.within)) t.2 in
    omega (arith, within, t.3)

pub returns-clause-front : goal.returns-clause-front
returns-clause-front c =
    let t = c.sign_length-length.ensures.there (omega (arith, c.if-length-eq0.false)) in
    sign_cut c.args.text.now c.args.at c.sign_length-length.result t.0 c.requires.signs t.1 t.2 t.3 c.sign_length-length.ensures.longest
