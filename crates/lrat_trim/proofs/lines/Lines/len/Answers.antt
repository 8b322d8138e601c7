use Rattle.std.proofs.Common.{◌∙◌, sym}
use Rattle.lrat_trim.proofs.Flats.{count}
use Rattle.lrat_trim.proofs.lines.Lines.len.Goals as goal

pub returns : goal.returns
returns c =
    let p = c.self.inside in
    rw (← c.self.view_is) (c.len.ensures ∙ (p.ends.ok.0 ∙ sym (count p.clauses p.ends.items p.hints.items c.self.invariant.0)))
