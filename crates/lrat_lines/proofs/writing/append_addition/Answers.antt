use Rattle.std.proofs.Common.{◌∷◌, ◌++◌, [], map}
use Rattle.std.specs.Fmt.{decimal, signed_decimal}
use Rattle.lrat_lines.specs.Lines.{literal_number, line_text}
use Rattle.lrat_lines.specs.Lines.Line.{Add}
use Rattle.lrat_lines.proofs.Spelling.{join_spaced}
use Rattle.lrat_lines.proofs.Appending.{wrote_addition}
use Rattle.lrat_lines.proofs.writing.append_addition.Goals as goal

pub returns-clause-ok : goal.returns-clause-ok
returns-clause-ok c =
    let lits = map (λ l. signed_decimal (literal_number l)) c.args.lits.now in
    let hints = map signed_decimal c.args.hints.now in
    wrote_addition c.args.id hints lits (line_text (Add c.args.id c.args.lits.now c.args.hints.now)) c.args.out.now.items c.write_number.new.out.items c.write_until_zero.new.out.items c.write_until_zero-2.new.out.items c.push.new.self.items
    (join_spaced (decimal c.args.id) (lits ++ decimal 0 ∷ (hints ++ decimal 0 ∷ [])))
    c.in_ok-write_number.ensures.written c.in_ok-write_until_zero.ensures.ok c.in_ok-write_until_zero-2.ensures.ok c.in_ok-push.ensures.items
