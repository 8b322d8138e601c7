use Rattle.std.proofs.Common.{◌∙◌, sym}
use Rattle.sat_form.proofs.Pieces.{pieces_count}
use Rattle.sat_form.proofs.clauses.Clauses.len.Goals as goal

pub returns : goal.returns
returns c =
    let p = c.self.inside in
    rw (← c.self.view_is) (c.len.ensures ∙ (p.ends.ok.0 ∙ sym (pieces_count 0 p.ends.items p.lits.items)))
