use Rattle.std.proofs.Common.{◌≡◌, ◌+◌, ◌∷◌, ◌<◌, ◌^◌, [], ◌∙◌, List, ap, length, length-append, arith}
use Rattle.sat_form.specs.Log.{Logged}
use Rattle.lrat_trim.specs.Derivation.{LogLine, are_earlier, hints_earlier, logged_from}
use Rattle.lrat_trim.proofs.Pushed.{earlier_push, length_logged, logged_push}
use Rattle.lrat_trim.proofs.Log.push.Goals as goal

pub returns-clause-id : goal.returns-clause-id
returns-clause-id c =
    let p = c.self.inside in
    let logged = length_logged (p.inputs + 1) p.lines in
    rw (← c.self.view_is) (omega arith)

pub returns-clause-line : goal.returns-clause-line
returns-clause-line c =
    let p = c.self.inside in
    let line : LogLine = record { lits = c.args.lits.now; hints = c.args.hints.now } in
    rw (← c.self.view_is)
    (ap (λ (ls : List Logged). record { inputs = p.inputs; lines = ls })
    (ap (logged_from (p.inputs + 1)) c.in_ok-push.ensures.ok
    ∙ logged_push (p.inputs + 1) p.lines line (p.inputs + c.len.result + 1) (omega arith)))

pub invariant_of-self-2 : goal.invariant_of-self-2
invariant_of-self-2 c =
    let p = c.self.inside in
    let logged = length_logged (p.inputs + 1) p.lines in
    let room : length (logged_from (p.inputs + 1) p.lines) < 2 ^ 62 = rw (← c.self.view_is) at c.requires.room in
    let given = rw (← c.self.view_is) at c.requires.earlier in
    let line : LogLine = record { lits = c.args.lits.now; hints = c.args.hints.now } in
    let last = p.inputs + 1 + length p.lines in
    let last_is : last ≡ p.inputs + length (logged_from (p.inputs + 1) p.lines) + 1 = omega arith in
    record {
      inputs_fit = c.self.invariant.inputs_fit;
      lines_fit = let size = ap length c.in_ok-push.ensures.ok ∙ length-append p.lines (line ∷ []) in omega arith;
      earlier = ap (hints_earlier (p.inputs + 1)) c.in_ok-push.ensures.ok
          ∙ earlier_push (p.inputs + 1) p.lines line last (omega arith) c.self.invariant.earlier
          (ap (λ n. are_earlier n c.args.hints.now) last_is ∙ given);
    }
