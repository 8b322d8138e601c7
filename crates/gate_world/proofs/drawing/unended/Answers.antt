use Rattle.std.proofs.Common.{◌≡◌, ℕ, ◌+◌, ◌<◌, List, drop, subst, true, false, ◌++◌, [], ◌∷◌, length, sym, ◌∙◌, arith, rules, tests}
use Rattle.gate_world.specs.Drawn.{unended, unended_from}
use Rattle.gate_world.proofs.Unended.{passed_ended, passed_going, passed_all}
use Rattle.gate_world.proofs.Weighed.{shown_count}
use Rattle.gate_world.proofs.drawing.unended.Goals as goal
use Rattle.gate_world.proofs.drawing.unended.Goals.{then-not-is_ended+in_ok-push, else-not-is_ended}

pub loop-goal-preserved : goal.loop-goal-preserved
loop-goal-preserved c = λ w shown.
    let count : length w.actors ≡ c.args.count = shown_count c.args.world.now w shown ∙ sym c.requires in
    let inside : c.loop-goal.goal < length w.actors = omega (arith, c.loop-goal-test.true) in
    elim c.if-not-is_ended.branch [
      | then-not-is_ended+in_ok-push t ↦ (
          let going : c.is_ended.result ≡ false = search (rules, tests) in
          let pushed : c.if-not-is_ended.goals.items ≡ c.loop-goal.goals.items ++ (c.loop-goal.goal ∷ []) = (cc t.in_ok-push.ensures.items) in
          passed_going w c.loop-goal.goal c.loop-goal.goals.items c.if-not-is_ended.goals.items inside (c.loop-goal.invariant w shown) (sym (c.is_ended.ensures w shown) ∙ going) pushed)
      | else-not-is_ended t ↦ (
          let over : c.is_ended.result ≡ true = search (rules, tests) in
          let kept : c.loop-goal.goals.items ≡ c.if-not-is_ended.goals.items = cc in
          subst (λ (xs : List ℕ). unended w ≡ xs ++ unended_from (c.loop-goal.goal + 1) (drop (c.loop-goal.goal + 1) w.actors)) kept (passed_ended w c.loop-goal.goal c.loop-goal.goals.items inside (c.loop-goal.invariant w shown) (sym (c.is_ended.ensures w shown) ∙ over)))
    ]

pub returns : goal.returns
returns c = λ w shown.
    let count : length w.actors ≡ c.args.count = shown_count c.args.world.now w shown ∙ sym c.requires in
    passed_all w c.loop-goal.goal c.loop-goal.goals.items (omega (arith, c.loop-goal-test.false)) (c.loop-goal.invariant w shown)
