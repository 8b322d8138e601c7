use Rattle.std.proofs.Common.{ap, ◌∙◌}
use Rattle.std.specs.Prelude.{Some}
use Rattle.std.specs.Option.{option_map}
use Rattle.lrat_lines.specs.Judge.{clause_of}
use Rattle.lrat_judge.proofs.Entries.{get_entry}
use Rattle.lrat_judge.proofs.known.Known.get.Goals as goal

pub returns-in-Some : goal.returns-in-Some
returns-in-Some c = ap Some c.as_slice.ensures.value ∙ ap (option_map (λ v. v.items)) c.in-Some.ensures.value ∙ get_entry c.self.inside.clauses.entries c.args.id ∙ ap (λ db. clause_of db c.args.id) c.self.view_is

pub returns-in-None : goal.returns-in-None
returns-in-None c = ap (option_map (λ v. v.items)) c.in-None.ensures.value ∙ get_entry c.self.inside.clauses.entries c.args.id ∙ ap (λ db. clause_of db c.args.id) c.self.view_is
