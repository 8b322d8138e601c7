use Rattle.std.proofs.Common.{ap₂, ◌∙◌}
use Rattle.cdcl_solver.specs.Progress.{opened}
use Rattle.gate_world.specs.Work.{edge_of}
use Rattle.gate_world.proofs.Searched.{search_begun}
use Rattle.gate_world.proofs.solve.start_search.Goals as goal

pub returns : goal.returns
returns c = λ p cone.
    let e = c.in_ok-cnf.ensures.edge (edge_of p) cone in
    search_begun p c.args.budget (record { cone = c.args.cone; search = c.in_ok-search.search }) cone (c.in_ok-search.ensures ∙ ap₂ (λ v cs. opened v cs c.args.budget) e.0 e.1)
