use Rattle.std.proofs.Common.{◌≡◌, ◌<◌, ◌∙◌, ap, length, sym, arith}
use Rattle.lrat_trim.proofs.Flats.{count, line_at, none_at}
use Rattle.lrat_trim.proofs.lines.Lines.line.Goals as goal

pub piece-requires-clause-place : goal.piece-requires-clause-place
piece-requires-clause-place c =
    let p = c.self.inside in
    let size : length c.args.self.now ≡ length p.ends.items = ap length (sym c.self.view_is) ∙ count p.clauses p.ends.items p.hints.items c.self.invariant.0 in
    rw c.deref-in-Some.ensures.value (omega arith)

pub unreachable-requires : goal.unreachable-requires
unreachable-requires c =
    let p = c.self.inside in
    let same : length p.clauses ≡ length p.ends.items = c.self.invariant.0 in
    let size : length c.args.self.now ≡ length p.ends.items = ap length (sym c.self.view_is) ∙ count p.clauses p.ends.items p.hints.items same in
    none_at p.clauses c.args.at (sym c.in-None.ensures) (omega arith)

pub returns : goal.returns
returns c =
    let p = c.self.inside in
    let same : length p.clauses ≡ length p.ends.items = c.self.invariant.0 in
    let size : length c.args.self.now ≡ length p.ends.items = ap length (sym c.self.view_is) ∙ count p.clauses p.ends.items p.hints.items same in
    let inside : c.args.at < length p.ends.items = omega arith in
    let piece = rw c.deref.ensures.value at (rw c.deref-in-Some.ensures.value at c.piece.ensures) in
    rw (← c.self.view_is) (line_at p.clauses p.ends.items p.hints.items c.args.at c.in-Some.lits.now c.piece.result.now same inside (sym c.in-Some.ensures) piece)
