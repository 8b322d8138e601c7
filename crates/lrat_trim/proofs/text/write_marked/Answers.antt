use Rattle.std.proofs.Common.{◌≡◌, ◌+◌, ◌++◌, ap, refl, sym, ◌∙◌, get_or, length}
use Rattle.lrat_lines.specs.Lines.{Line, is_writable, written_line}
use Rattle.lrat_lines.specs.Lines.Line.{Add}
use Rattle.lrat_trim.specs.Derivation.{LogLine}
use Rattle.lrat_trim.specs.Flat.{no_line}
use Rattle.lrat_trim.specs.Marks.{moved_hints}
use Rattle.lrat_trim.proofs.Marking.{line_earlier}
use Rattle.lrat_trim.proofs.Writing.{fits, passed, passed_text, taken, taken_text}
use Rattle.lrat_trim.proofs.text.write_marked.Goals as goal

pub returns-then-not-marks-at-clause-stands : goal.returns-then-not-marks-at-clause-stands
returns-then-not-marks-at-clause-stands c = passed c.args.inputs c.args.lines.now c.args.marks.now c.args.ids.now c.args.id c.requires.stands c.requires.more (cc)

pub returns-then-not-marks-at-clause-text : goal.returns-then-not-marks-at-clause-text
returns-then-not-marks-at-clause-text c = passed_text c.args.inputs c.args.lines.now c.args.marks.now c.args.ids.now c.args.id c.requires.stands c.requires.more (cc) c.args.out.now.items

pub write_moved-requires-clause-id : goal.write_moved-requires-clause-id
write_moved-requires-clause-id c = fits c.args.inputs c.args.lines.now c.args.marks.now c.args.ids.now c.args.id c.requires.stands c.requires.more

pub write_moved-requires-clause-known : goal.write_moved-requires-clause-known
write_moved-requires-clause-known c =
    let line : LogLine = record { lits = c.line.result.0.now; hints = c.line.result.1.now } in
    line_earlier (c.args.inputs + 1) c.args.lines.now (length c.args.ids.now) line no_line c.requires.stands.log.earlier c.requires.more (sym c.line.ensures)

pub returns-clause-stands : goal.returns-clause-stands
returns-clause-stands c = taken c.args.inputs c.args.lines.now c.args.marks.now c.args.ids.now c.args.id c.requires.stands c.requires.more (c.args.id + 1) (cc) (refl {a = c.args.id + 1})

pub returns-clause-text : goal.returns-clause-text
returns-clause-text c =
    let m = c.args.inputs in
    let ids = c.args.ids.now in
    let line : LogLine = get_or c.args.lines.now (length ids) no_line in
    let here : Line = Add c.args.id line.lits (moved_hints m ids line.hints) in
    let same : Add c.args.id c.line.result.0.now (moved_hints m ids c.line.result.1.now) ≡ here = ap (λ (l : LogLine). Add c.args.id l.lits (moved_hints m ids l.hints)) (sym c.line.ensures) in
    taken_text m c.args.lines.now c.args.marks.now ids c.args.id c.requires.stands c.requires.more (cc) c.args.out.now.items c.write_moved.new.out.items
    (c.in_ok-write_moved.ensures.ok ∙ ap (λ (x : Line). c.args.out.now.items ++ written_line x) same)
    (ap is_writable (sym same) ∙ c.in_ok-write_moved.ensures.writable)
