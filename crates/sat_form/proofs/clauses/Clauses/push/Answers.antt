use Rattle.std.proofs.Common.{◌∙◌}
use Rattle.sat_form.proofs.Pieces.{ends_after, pieces_after}
use Rattle.sat_form.proofs.clauses.Clauses.push.Goals as goal

pub invariant_of-self-in_default : goal.invariant_of-self-in_default
invariant_of-self-in_default c =
    let p = c.self.inside in
    ends_after p.ends.items _ p.lits.items _ c.args.lits.now c.len-end.result c.self.invariant c.in_ok-extend_from_slice.ensures.items c.in_default.ensures.items (c.len-end.ensures ∙ c.extend_from_slice.new.self.ok.0)

pub returns-clause-ok : goal.returns-clause-ok
returns-clause-ok c =
    let p = c.self.inside in
    rw (← c.self.view_is) (pieces_after p.ends.items _ p.lits.items _ c.args.lits.now c.len-end.result c.self.invariant c.in_ok-extend_from_slice.ensures.items c.in_default.ensures.items (c.len-end.ensures ∙ c.extend_from_slice.new.self.ok.0))
