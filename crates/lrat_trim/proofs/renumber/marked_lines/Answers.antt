use Rattle.std.proofs.Common.{◌≡◌, ◌+◌, ◌<◌, get_or, ◌++◌, ◌∷◌, ◌∙◌, [], ap, sym, refl, subst, ℕ, List, true, length, map, arith}
use Rattle.std.proofs.lemmas.List.{length-map, map-append}
use Rattle.std.specs.List.{list_all}
use Rattle.sat_form.specs.Log.{Logged}
use Rattle.lrat_lines.specs.Lines.{Line, is_id, is_writable}
use Rattle.lrat_lines.specs.Lines.Line.{Add}
use Rattle.lrat_lines.specs.Seen.{seen}
use Rattle.lrat_trim.specs.Derivation.{LogLine, logged_from}
use Rattle.lrat_trim.specs.Flat.{no_line}
use Rattle.lrat_trim.specs.Marks.{marked_from, moved_hints}
use Rattle.lrat_trim.specs.Passing.{IsRenumbered, rest_from}
use Rattle.lrat_trim.proofs.Marking.{line_earlier, rest_more}
use Rattle.lrat_trim.proofs.Positions.{all_last, id_fits, marks_fit, passed_over, taken_over}
use Rattle.lrat_trim.proofs.renumber.marked_lines.Goals as goal
use Rattle.lrat_trim.proofs.renumber.marked_lines.Goals.{then-marked+in_ok-moved_line+in_ok-push, else-marked}

pub moved_line-requires-clause-id : goal.moved_line-requires-clause-id
moved_line-requires-clause-id c =
    let size : c.len.result ≡ length c.loop-at.new.items = c.len.ensures ∙ c.loop-at.new.ok.0 in
    let count = sym (length-map c.loop-at.new.items seen) ∙ c.loop-at.invariant.stands.count in
    let few = marks_fit c.args.marks.now 0 c.loop-at.at in
    let low = c.loop-at-test.true in
    let lines = c.requires.log.lines_fit in
    let inputs = c.requires.log.inputs_fit in
    id_fits (c.args.inputs + c.len.result + 1) (omega arith) (omega arith)

pub moved_line-requires-clause-known : goal.moved_line-requires-clause-known
moved_line-requires-clause-known c =
    let line : LogLine = record { lits = c.line.result.0.now; hints = c.line.result.1.now } in
    rw (c.deref.ensures.value, c.loop-at.invariant.stands.size)
    (line_earlier (c.args.inputs + 1) c.args.lines.now c.loop-at.at line no_line c.requires.log.earlier (omega arith) (sym c.line.ensures))

pub loop-at-preserved : goal.loop-at-preserved
loop-at-preserved c =
    let m = c.args.inputs in
    let lines = c.args.lines.now in
    let marks = c.args.marks.now in
    let at = c.loop-at.at in
    let line : LogLine = get_or lines at no_line in
    let ids = c.loop-at.ids.items in
    let new = c.loop-at.new.items in
    let kept = marked_from marks 0 (logged_from (m + 1) lines) in
    let inv = c.loop-at.invariant in
    let size : c.len.result ≡ length new = c.len.ensures ∙ c.loop-at.new.ok.0 in
    let count = sym (length-map new seen) ∙ inv.stands.count in
    let few = marks_fit marks 0 at in
    let low : at < length lines = omega arith in
    let lines_fit = c.requires.log.lines_fit in
    let inputs_fit = c.requires.log.inputs_fit in
    let id = m + c.len.result + 1 in
    let id_is : m + length (map seen new) + 1 ≡ id = ap (λ n. m + n + 1) (length-map new seen ∙ sym size) in
    let fits : is_id id ≡ true = id_fits id (omega arith) (omega arith) in
    let earlier = line_earlier (m + 1) lines at line no_line c.requires.log.earlier low refl in
    let stood = subst (λ (x : List Logged). IsRenumbered m marks kept at x ids (map seen new)) (rest_more m lines at line no_line low refl) inv.stands in
    let rest = rest_from m lines (at + 1) in
    let ids_are = ap (λ n. ids ++ n ∷ []) id_is ∙ sym c.in_ok-push-2.ensures.items in
    let all_fit = ap (list_all is_id) c.in_ok-push-2.ensures.items ∙ all_last is_id ids id inv.fits fits in
    elim c.if-marked.branch [
      | else-marked w ↦
          let over = passed_over m marks lines kept refl at line rest ids (map seen new) low earlier stood w.if-marked.false in
          rw w.new-is (record { stands = subst (λ (x : List ℕ). IsRenumbered m marks kept (at + 1) rest x (map seen new)) ids_are over; fits = all_fit; writable = inv.writable })
      | then-marked+in_ok-moved_line+in_ok-push w ↦
          let line_is = rw w.deref.ensures.value at w.in_ok-moved_line.ensures.moved in
          let kept_line = ap (λ (l : LogLine). Add id l.lits (moved_hints m ids l.hints)) w.line.ensures in
          let pushed = ap (map seen) w.in_ok-push.ensures.items ∙ map-append seen new (w.in_ok-moved_line.field-0 ∷ []) in
          let pushed_is = ap (λ (x : Line). map seen new ++ x ∷ []) (ap (λ n. Add n line.lits (moved_hints m ids line.hints)) id_is ∙ kept_line ∙ sym line_is) ∙ sym pushed in
          let over = taken_over m marks lines kept refl at line rest ids (map seen new) low earlier stood w.if-marked.true in
          rw w.new-is (record {
            stands = subst (λ (x : List Line). IsRenumbered m marks kept (at + 1) rest c.push-in-loop-at.new.self.items x) pushed_is
                (subst (λ (x : List ℕ). IsRenumbered m marks kept (at + 1) rest x (map seen new ++ Add (m + length (map seen new) + 1) line.lits (moved_hints m ids line.hints) ∷ [])) ids_are over);
            fits = all_fit;
            writable = ap (list_all is_writable) pushed ∙ all_last is_writable (map seen new) (seen w.in_ok-moved_line.field-0) inv.writable w.in_ok-moved_line.ensures.writable;
          })
    ]
