use Rattle.std.proofs.Common.{List, length, sym, ap, ◌∙◌, subst}
use Rattle.std.proofs.lemmas.List.Elements.{All-replicate}
use Rattle.bv_expr.specs.declared.goal.Goal.{Goal}
use Rattle.gate_world.specs.Shown.{NamesGoals, goals_of}
use Rattle.gate_world.proofs.tests.forty.Goals as goal

pub run-requires : goal.run-requires
run-requires c = All-replicate (NamesGoals (length (goals_of c.step.new.self))) 39 c.args.event
    (subst (λ (gs : List Goal). NamesGoals (length gs) c.args.event) (sym c.step.ensures.same.goals) c.requires)

pub returns : goal.returns
returns c = ap length (c.run.ensures.same.goals ∙ c.step.ensures.same.goals)
