use Rattle.lrat_trim.proofs.Flats.{pushed, whole_pushed}
use Rattle.lrat_trim.proofs.lines.Lines.push.Goals as goal

pub invariant_of-self-in-Ok : goal.invariant_of-self-in-Ok
invariant_of-self-in-Ok c =
    let p = c.self.inside in
    whole_pushed p.clauses c.push.new.self c.args.lits.now p.ends.items c.push_piece.new.ends.items p.hints.items c.push_piece.new.all.items c.args.hints.now c.self.invariant.0 c.self.invariant.1 c.in-Ok.ensures.ok c.in_ok-push_piece.ensures.ids c.in_ok-push_piece.ensures.end

pub returns-in-Ok-clause-ok : goal.returns-in-Ok-clause-ok
returns-in-Ok-clause-ok c =
    let p = c.self.inside in
    rw (← c.self.view_is) (pushed p.clauses c.push.new.self c.args.lits.now p.ends.items c.push_piece.new.ends.items p.hints.items c.push_piece.new.all.items c.args.hints.now c.self.invariant.0 c.self.invariant.1 c.in-Ok.ensures.ok c.in_ok-push_piece.ensures.ids c.in_ok-push_piece.ensures.end)
