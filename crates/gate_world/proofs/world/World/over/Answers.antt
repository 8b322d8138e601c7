use Rattle.std.proofs.Common.{◌≡◌, map, replicate, refl, sym, subst}
use Rattle.gate_world.specs.World.{begun}
use Rattle.gate_world.specs.Right.{AreScripted}
use Rattle.gate_world.specs.Reached.{AreIn, problems_of}
use Rattle.gate_world.proofs.Shown.{count_mapped}
use Rattle.gate_world.proofs.Happening.{world_begun}
use Rattle.gate_world.proofs.world.World.over.Goals as goal

pub invariant_of-result : goal.invariant_of-result
invariant_of-result c =
    let gs = map (λ g. g.now) c.args.goals.items in
    let words = c.in_ok-from_elem.field-0.items in
    let tasks = c.in_ok-tasks.tasks.items in
    let is : words ≡ replicate c.args.words 0 = c.in_ok-from_elem.ensures.items_if_clones_equal (λ y e. e) in
    let scripted : AreScripted (problems_of gs) = subst (λ xs. AreScripted (problems_of (map (λ g. g.now) xs))) c.deref.ensures.value c.in_ok-tasks.ensures.scripted in
    let shown : AreIn gs (replicate c.args.words 0) c.args.budget tasks (begun (problems_of gs) c.args.words c.args.budget) =
    subst (λ xs. AreIn (map (λ g. g.now) xs) (replicate c.args.words 0) c.args.budget tasks (begun (problems_of (map (λ g. g.now) xs)) c.args.words c.args.budget)) c.deref.ensures.value c.in_ok-tasks.ensures.begun in
    record {
      reached = ∣
          world_begun gs words c.args.words c.args.budget tasks c.requires.words.0 c.requires.words.1 (count_mapped c.args.goals.items 65536 c.requires.goals) c.requires.budget is scripted
          (subst (λ ws. AreIn gs ws c.args.budget tasks (begun (problems_of gs) c.args.words c.args.budget)) (sym is) shown)
          ∣₁;
    }

pub returns : goal.returns
returns c =
    let gs = map (λ g. g.now) c.args.goals.items in
    let words = c.in_ok-from_elem.field-0.items in
    let tasks = c.in_ok-tasks.tasks.items in
    let is : words ≡ replicate c.args.words 0 = c.in_ok-from_elem.ensures.items_if_clones_equal (λ y e. e) in
    let shown : AreIn gs (replicate c.args.words 0) c.args.budget tasks (begun (problems_of gs) c.args.words c.args.budget) =
    subst (λ xs. AreIn (map (λ g. g.now) xs) (replicate c.args.words 0) c.args.budget tasks (begun (problems_of (map (λ g. g.now) xs)) c.args.words c.args.budget)) c.deref.ensures.value c.in_ok-tasks.ensures.begun in
    record {
      goals = refl;
      begun = subst (λ ws. AreIn gs ws c.args.budget tasks (begun (problems_of gs) c.args.words c.args.budget)) (sym is) shown;
      scripted = subst (λ xs. AreScripted (problems_of (map (λ g. g.now) xs))) c.deref.ensures.value c.in_ok-tasks.ensures.scripted;
    }
