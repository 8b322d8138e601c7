use Rattle.std.proofs.Common.{◌≢◌, ◌+◌, ◌∙◌, ap, sym, arith}
use Rattle.search_learn.specs.declared.Turn.TheVariants.{More}
use Rattle.search_learn.specs.Machine.{advance}
use Rattle.cdcl_solver.specs.Progress.{Progress, turned}
use Rattle.cdcl_solver.proofs.Going.{turned_ended, turned_next}
use Rattle.cdcl_solver.proofs.Search.turn.Goals as goal

pub loop-taken-preserved : goal.loop-taken-preserved
loop-taken-preserved c =
    let inv = c.loop-taken.invariant in
    let step = c.in_ok-end.ensures.step in
    let low = c.loop-taken-test.true in
    record {
      whole = ap (λ (s : Progress). s.broken) step ∙ inv.whole;
      so_far = step ∙ ap (λ (s : Progress). record s { machine = advance s.budget s.machine }) inv.so_far ∙ turned_next c.loop-taken.taken c.args.self.now;
      going = λ _. sym c.in_ok-end.ensures.end ∙ c.in-More.is;
      within = omega arith;
    }

pub returns-in_default : goal.returns-in_default
returns-in_default c =
    let inv = c.loop-taken.invariant in
    let step = c.in_ok-end.ensures.step in
    let low = c.loop-taken-test.true in
    let now = step ∙ ap (λ (s : Progress). record s { machine = advance s.budget s.machine }) inv.so_far ∙ turned_next c.loop-taken.taken c.args.self.now in
    let ended : (turned (c.loop-taken.taken + 1) c.args.self.now).machine.state.end ≢ More =
    λ e. c.in_default.not-More (c.in_ok-end.ensures.end ∙ ap (λ (s : Progress). s.machine.state.end) now ∙ e) in
    record {
      steps = now ∙ turned_ended (c.loop-taken.taken + 1) c.args.most c.args.self.now (omega arith) ended;
      end = c.in_ok-end.ensures.end;
      memory = tt;
      again = rw (← c.self.view_is) c.if-self.false;
      kept = tt;
    }
