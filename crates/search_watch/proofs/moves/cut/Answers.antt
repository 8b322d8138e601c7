use Rattle.std.proofs.Common.{◌≡◌, ◌∙◌, ℕ, ap, sym, length, true, subst, arith, length-set}
use Rattle.search_heap.specs.Ranking.{Ranking, with_member}
use Rattle.search_learn.specs.declared.Step.{Step}
use Rattle.search_learn.specs.Values.{IsOfMachine}
use Rattle.search_learn.proofs.Cutting.{cut_none}
use Rattle.search_watch.specs.Members.{HasFree}
use Rattle.search_watch.proofs.Members.{free-popped, last-range}
use Rattle.search_watch.proofs.moves.cut.Goals as goal

pub put_back-requires : goal.put_back-requires
put_back-requires c =
    let l = c.loop-step in
    let e : Step = c.in-Some.step in
    let split = c.in-Some.ensures.some.0 in
    let range = last-range l.trail.vars c.pop_above.new.self.steps e (subst (IsOfMachine l.trail.vars) split l.invariant.machine) in
    let low = range.0 in
    let high = range.1 in
    let value = c.var.ensures.value in
    let size : length l.heap.scores ≡ l.trail.vars = ap length l.invariant.scores ∙ c.requires.scores ∙ sym l.invariant.vars in
    (omega arith, omega arith)

pub loop-step-preserved : goal.loop-step-preserved
loop-step-preserved c =
    let l = c.loop-step in
    let inv = l.invariant in
    let e : Step = c.in-Some.step in
    let out = c.in-Some.ensures in
    let split = out.some.0 in
    let range = last-range l.trail.vars c.pop_above.new.self.steps e (subst (IsOfMachine l.trail.vars) split inv.machine) in
    let low = range.0 in
    let high = range.1 in
    let vars = inv.vars in
    let back : c.put_back.new.self ≡ with_member l.heap e.lit.var true = c.put_back.ensures ∙ ap (λ (v : ℕ). with_member l.heap v true) c.var.ensures.value in
    let size : length l.heap.members ≡ c.args.trail.now.vars = inv.size ∙ c.requires.members in
    record {
      vars = out.vars ∙ inv.vars;
      machine = out.machine;
      cut = out.cut ∙ inv.cut;
      scores = ap (λ (r : Ranking). r.scores) back ∙ inv.scores;
      size = ap (λ (r : Ranking). length r.members) back ∙ length-set l.heap.members _ _ ∙ inv.size;
      free = λ has. subst (HasFree c.args.trail.now.vars c.pop_above.new.self.steps) (sym back)
          (free-popped c.args.trail.now.vars l.trail.steps c.pop_above.new.self.steps e l.heap split size (low, omega arith) (inv.free has));
    }

pub returns-clause-trail : goal.returns-clause-trail
returns-clause-trail c =
    let h = c.in_default.ensures in
    let inv = c.loop-step.invariant in
    let low = cut_none c.loop-step.trail.vars c.args.to c.loop-step.trail.steps inv.machine h.none.1 in
    λ i. record { vars = (h.vars ∙ inv.vars) i; steps = (h.none.0 ∙ sym low ∙ inv.cut) i }
