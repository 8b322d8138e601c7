use Rattle.std.proofs.Common.{◌≡◌, ◌+◌, ◌/◌, ◌≤◌, ◌∙◌, sym, ap}
use Rattle.cdcl_solver.specs.Progress.{Progress}
use Rattle.goal_alone.proofs.Turns.{goes_on, comes_to_end, no_more}
use Rattle.goal_alone.proofs.solve.solve.Goals as goal

pub loop-turn-preserved : goal.loop-turn-preserved
loop-turn-preserved c =
    goes_on c.args.cnf.now.vars c.args.cnf.now.clauses c.args.budget c.loop-turn._turn c.loop-turn.search c.turn.new.self c.loop-turn.invariant
    c.in_ok-end.ensures.steps (sym c.in_ok-end.ensures.end ∙ c.in-More.is)

pub returns-in_default : goal.returns-in_default
returns-in_default c =
    let whole = comes_to_end c.args.cnf.now.vars c.args.cnf.now.clauses c.args.budget c.loop-turn._turn c.loop-turn.search c.turn.new.self c.loop-turn.invariant
    c.in_ok-end.ensures.steps (λ e. c.in_default.not-More (c.in_ok-end.ensures.end ∙ e)) in
    record { search = whole; end = c.in_ok-end.ensures.end ∙ ap (λ (s : Progress). s.machine.state.end) whole }

pub unreachable-requires : goal.unreachable-requires
unreachable-requires c =
    let turns : c.from.result ≡ 1000 = c.from.ensures in
    let all : c.args.budget / 1000 + 1 ≤ c.loop-turn._turn = rw turns at c.loop-turn-test.false in
    no_more c.args.cnf.now.vars c.args.cnf.now.clauses c.args.budget c.loop-turn._turn c.loop-turn.search c.loop-turn.invariant all
