use Rattle.std.proofs.Common.{◌≡◌, ◌+◌, ◌<◌, Some, length, map, replicate, slice_get, sym, subst, arith}
use Rattle.std.proofs.lemmas.List.{length-map, length-replicate}
use Rattle.gate_world.proofs.Shown.{read_goal}
use Rattle.gate_world.proofs.Happening.{AreBegun, empty_sound, none_begun, begun_push, begun_shown, begun_scripted}
use Rattle.gate_world.proofs.world.begun.Goals as goal

pub loop-goal-init : goal.loop-goal-init
loop-goal-init c = let gs = map (λ g. g.now) c.args.goals.now in subst (AreBegun gs c.args.size c.args.budget 0) (sym c.new-tasks.ensures.items) (none_begun gs c.args.size c.args.budget)

pub loop-goal-preserved : goal.loop-goal-preserved
loop-goal-preserved c =
    let gs = map (λ g. g.now) c.args.goals.now in
    let i = c.loop-goal.goal-index in
    let n : length gs ≡ length c.args.goals.now = length-map c.args.goals.now (λ g. g.now) in
    let inside : i < length gs = subst (λ k. i < k) (sym n) c.loop-goal-test.true in
    let at : slice_get gs i ≡ Some c.goal-item.result.now = read_goal c.args.goals.now i c.goal-item.result inside c.goal-item.is in
    let size : length (replicate c.args.size 0) ≡ c.args.size = length-replicate c.args.size 0 in
    subst (AreBegun gs c.args.size c.args.budget (i + 1)) (sym c.in_ok-push.ensures.items)
    (begun_push gs c.args.size c.args.budget i c.loop-goal.tasks.items c.goal-item.result.now c.in_ok-begin.field-0 c.loop-goal.invariant at c.in_ok-begin.ensures.scripted (c.in_ok-begin.ensures.begun (replicate c.args.size 0) size (empty_sound c.args.size)))

pub returns-clause-scripted : goal.returns-clause-scripted
returns-clause-scripted c =
    let gs = map (λ g. g.now) c.args.goals.now in
    let n : length gs ≡ length c.args.goals.now = length-map c.args.goals.now (λ g. g.now) in
    let all : c.loop-goal.goal-index ≡ length gs = omega arith in
    begun_scripted gs c.args.size c.args.budget c.loop-goal.tasks.items (subst (λ k. AreBegun gs c.args.size c.args.budget k c.loop-goal.tasks.items) all c.loop-goal.invariant)

pub returns-clause-begun : goal.returns-clause-begun
returns-clause-begun c =
    let gs = map (λ g. g.now) c.args.goals.now in
    let n : length gs ≡ length c.args.goals.now = length-map c.args.goals.now (λ g. g.now) in
    let all : c.loop-goal.goal-index ≡ length gs = omega arith in
    begun_shown gs c.args.size c.args.budget c.loop-goal.tasks.items (subst (λ k. AreBegun gs c.args.size c.args.budget k c.loop-goal.tasks.items) all c.loop-goal.invariant)
