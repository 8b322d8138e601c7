use Rattle.std.proofs.Common.{◌≡◌, ◌∙◌, sym, ap, length, arith}
use Rattle.std.specs.Prelude.{Some}
use Rattle.sat_form.proofs.Pieces.{pieces_count, piece_at}
use Rattle.sat_form.proofs.clauses.Clauses.get.Goals as goal

pub piece-requires-clause-place : goal.piece-requires-clause-place
piece-requires-clause-place c =
    let p = c.self.inside in
    let count = pieces_count 0 p.ends.items p.lits.items in
    let size : c.len.result ≡ length p.ends.items = c.len.ensures ∙ (ap length (sym c.self.view_is) ∙ count) in
    rw c.deref-2.ensures.value (omega (arith, size, c.if-at-len.false))

pub returns : goal.returns
returns c =
    let p = c.self.inside in
    let count = pieces_count 0 p.ends.items p.lits.items in
    let size : c.len.result ≡ length p.ends.items = c.len.ensures ∙ (ap length (sym c.self.view_is) ∙ count) in
    let piece = rw c.deref.ensures.value at (rw c.deref-2.ensures.value at c.piece.ensures) in
    rw (← c.self.view_is) (ap Some piece ∙ sym (piece_at 0 p.ends.items p.lits.items c.args.at 0 (omega (arith, size, c.if-at-len.false))))
