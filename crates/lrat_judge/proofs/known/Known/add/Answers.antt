use Rattle.std.proofs.Common.{ap, ◌∙◌}
use Rattle.lrat_lines.specs.Judge.{clause_of, add_clause}
use Rattle.lrat_judge.proofs.Entries.{insert_entries, entries}
use Rattle.lrat_judge.proofs.known.Known.add.Goals as goal

pub returns-in-Ok-clause-ok : goal.returns-in-Ok-clause-ok
returns-in-Ok-clause-ok c =
    ap entries c.in-Ok.ensures.entries
    ∙ insert_entries c.self.inside.clauses.entries c.args.id c.args.lits (ap (λ db. clause_of db c.args.id) c.self.view_is ∙ c.requires)
    ∙ ap (λ db. add_clause db c.args.id c.args.lits.items) c.self.view_is
