use Rattle.std.proofs.Common.{List, [], ap, ◌∙◌}
use Rattle.std.specs.Option.{unwrap_or}
use Rattle.std.specs.declared.option.Option.{Option}
use Rattle.std.proofs.lemmas.Option.{unwrap_or-slice_get}
use Rattle.sat_form.specs.Literals.{Literal}
use Rattle.search_learn.proofs.learnt_at.Goals as goal

pub returns-in-None : goal.returns-in-None
returns-in-None c = ap (λ (o : Option (List Literal)). unwrap_or o []) c.in-None.ensures ∙ unwrap_or-slice_get c.args.learnt.now c.args.place []
