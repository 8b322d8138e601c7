use Rattle.std.proofs.Common.{◌≡◌, ◌≤◌, length, map, sym, ap, ◌∙◌, subst}
use Rattle.std.proofs.lemmas.List.{length-map}
use Rattle.gate_world.specs.World.{begun}
use Rattle.gate_world.specs.Reached.{problems_of}
use Rattle.gate_world.specs.Shown.{Shows}
use Rattle.gate_world.proofs.Begun.{if_ok}
use Rattle.gate_world.proofs.Happening.{lent_push, take_past}
use Rattle.gate_world.proofs.world.World.new.Goals as goal

pub loop-goal-preserved : goal.loop-goal-preserved
loop-goal-preserved c = lent_push c.loop-goal.lent.items c.push.new.self.items _ c.args.goals.now c.loop-goal.goal-index c.in_ok-push.ensures.items c.loop-goal.invariant c.loop-goal-test.true c.goal-item.is

pub over-requires : goal.over-requires
over-requires c =
    let all : map (λ g. g.now) c.loop-goal.lent.items ≡ c.args.goals.now = c.loop-goal.invariant ∙ take_past c.args.goals.now c.loop-goal.goal-index c.loop-goal-test.false in
    let size : length c.loop-goal.lent.items ≡ length c.args.goals.now = sym (length-map c.loop-goal.lent.items (λ g. g.now)) ∙ ap length all in
    record { words = c.requires.words; goals = subst (λ n. n ≤ 65536) (sym size) c.requires.goals; budget = c.requires.budget }

pub returns : goal.returns
returns c =
    let all : map (λ g. g.now) c.loop-goal.lent.items ≡ c.args.goals.now = c.loop-goal.invariant ∙ take_past c.args.goals.now c.loop-goal.goal-index c.loop-goal-test.false in
    record {
      goals = if_ok c.over.result _ _ (λ w e. e ∙ all) c.over.ensures.goals;
      begun = if_ok c.over.result _ _ (λ w h. subst (λ gs. Shows w (begun (problems_of gs) c.args.words c.args.budget)) all h) c.over.ensures.begun;
      scripted = c.over.ensures.scripted;
    }
