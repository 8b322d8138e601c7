use Rattle.std.proofs.Common.{◌∙◌, sym, ap}
use Rattle.bv_typing.specs.Earliest.{also}
use Rattle.bv_terms.proofs.Stating.{are_typed}
use Rattle.bv_terms.proofs.goals.add_goal.Goals as goal

pub add_typed-requires-clause-goal : goal.add_typed-requires-clause-goal
add_typed-requires-clause-goal c =
    are_typed c.args.file.now c.args.pieces.now c.args.found c.in_ok-judgement.judgement.misfit c.earliest.result c.requires.goal c.in_ok-judgement.ensures.misfit c.earliest.ensures c.in-None.is

pub returns-in-Some-clause-found : goal.returns-in-Some-clause-found
returns-in-Some-clause-found c = λ g e. sym c.in-Some.is ∙ c.earliest.ensures ∙ ap (also c.args.found) (c.in_ok-judgement.ensures.misfit g e)

pub returns-clause-found : goal.returns-clause-found
returns-clause-found c = λ g e. sym c.in-None.is ∙ c.earliest.ensures ∙ ap (also c.args.found) (c.in_ok-judgement.ensures.misfit g e)

pub returns-clause-added : goal.returns-clause-added
returns-clause-added c = λ none g e. c.in_ok-add_typed-in-None.ensures g e
