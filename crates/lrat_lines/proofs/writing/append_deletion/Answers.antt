use Rattle.std.proofs.Common.{◌∷◌, ◌++◌, [], map}
use Rattle.std.specs.Fmt.{decimal}
use Rattle.lrat_lines.specs.Lines.{line_text}
use Rattle.lrat_lines.specs.Lines.Line.{Delete}
use Rattle.lrat_lines.proofs.Spelling.{join_spaced}
use Rattle.lrat_lines.proofs.Appending.{wrote_deletion}
use Rattle.lrat_lines.proofs.writing.append_deletion.Goals as goal

pub returns-clause-ok : goal.returns-clause-ok
returns-clause-ok c =
    let ids = map decimal c.args.ids.now in
    wrote_deletion c.args.id ids (line_text (Delete c.args.id c.args.ids.now)) c.args.out.now.items c.write_number.new.out.items c.extend_from_slice.new.self.items c.write_until_zero.new.out.items c.push.new.self.items
    (join_spaced (decimal c.args.id) ((100 ∷ []) ∷ (ids ++ decimal 0 ∷ [])))
    c.in_ok-write_number.ensures.written c.in_ok-extend_from_slice.ensures.items c.in_ok-write_until_zero.ensures.ok c.in_ok-push.ensures.items
