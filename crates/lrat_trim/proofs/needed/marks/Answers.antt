use Rattle.std.proofs.Common.{◌≡◌, ◌+◌, ◌-◌, ◌∙◌, refl, ap, sym, subst, ℕ, Bool, List, length, length-drop, drop, arith}
use Rattle.std.proofs.lemmas.List.{with_items_is}
use Rattle.sat_form.specs.Log.{Logged}
use Rattle.lrat_trim.specs.Derivation.{LogLine}
use Rattle.lrat_trim.specs.Flat.{no_line}
use Rattle.lrat_trim.specs.Passing.{rest_from}
use Rattle.lrat_trim.proofs.Marked.{IsMarkedFrom, mark_step}
use Rattle.lrat_trim.proofs.Marking.{line_earlier, rest_more}
use Rattle.lrat_trim.proofs.Pushed.{length_logged}
use Rattle.lrat_trim.proofs.needed.marks.Goals as goal

pub mark_needed-requires-clause-earlier : goal.mark_needed-requires-clause-earlier
mark_needed-requires-clause-earlier c =
    let low = c.loop-at-test.true in
    let within = c.loop-at.invariant.within in
    let line : LogLine = record { lits = c.line.result.0.now; hints = c.line.result.1.now } in
    line_earlier (c.args.inputs + 1) c.args.lines.now (c.loop-at.at - 1) line no_line c.requires.earlier (omega arith) (sym c.line.ensures)

pub loop-at-preserved : goal.loop-at-preserved
loop-at-preserved c =
    let m = c.args.inputs in
    let lines = c.args.lines.now in
    let place = c.loop-at.at - 1 in
    let low = c.loop-at-test.true in
    let inv = c.loop-at.invariant in
    let within = inv.within in
    let size = inv.size in
    let old = c.loop-at.marks.items in
    let lent = c.deref_mut.ensures.value in
    let lent_size = ap length lent in
    let auto = c.mark_needed.auto.marks in
    let back = with_items_is c.loop-at.marks c.mark_needed.new.marks (let ok = c.loop-at.marks.ok.0 in omega arith) in
    let next = place + 1 in
    let next_is : c.loop-at.at ≡ next = omega arith in
    let rest = rest_from m lines next in
    let rest_size : length rest ≡ length lines - next = length_logged (m + 1 + next) (drop next lines) ∙ length-drop next lines in
    let line : LogLine = record { lits = c.line.result.0.now; hints = c.line.result.1.now } in
    let l : Logged = record { id = m + 1 + place; lits = line.lits; hints = line.hints } in
    let stood = subst (λ (n : ℕ). IsMarkedFrom m old n (rest_from m lines n)) next_is inv.marked in
    let earlier = line_earlier (m + 1) lines place line no_line c.requires.earlier (omega arith) (sym c.line.ensures) in
    let marked = mark_step m (length lines) place old c.mark_needed.new.marks l rest refl earlier size (omega arith) stood (λ j high. rw lent at (c.mark_needed.ensures j (omega arith))) in
    record {
      size = ap length back ∙ (let a = auto in omega arith);
      within = omega arith;
      marked = subst (λ (x : List Bool). IsMarkedFrom m x place (rest_from m lines place)) (sym back)
          (subst (λ (x : List Logged). IsMarkedFrom m c.mark_needed.new.marks place x) (sym (rest_more m lines place line no_line (omega arith) (sym c.line.ensures))) marked);
    }
