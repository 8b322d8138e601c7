use Rattle.std.proofs.Common.{◌≡◌, ◌≤◌, List, length, map, sym, subst, rules}
use Rattle.std.proofs.lemmas.List.{nil_from_length}
use Rattle.rand_pcg.specs.Lcg.{Lcg}
use Rattle.bv_expr.specs.declared.goal.Goal.{Goal}
use Rattle.gate_world.proofs.DrawnSo.{IsDrawnSo, drawn_next, drawn_falls, drawn_ended, drawn_whole, drawn_right}
use Rattle.gate_world.proofs.drawing.schedule.Goals as goal

pub loop-generator-smaller : goal.loop-generator-smaller
loop-generator-smaller c =
    let goals : List Goal = map (λ g. g.now) c.args.goals.items in
    let some : 1 ≤ length c.loop-generator.left.items = search rules in
    drawn_falls goals c.args.seed c.args.words c.args.budget c.loop-generator.world c.draw.new.world c.loop-generator.generator c.loop-generator.left.items c.requires.words.0 c.requires.words.1 c.loop-generator.invariant some c.draw.ensures.draws

pub loop-generator-preserved : goal.loop-generator-preserved
loop-generator-preserved c =
    let goals : List Goal = map (λ g. g.now) c.args.goals.items in
    let some : 1 ≤ length c.loop-generator.left.items = search rules in
    subst (λ (g : Lcg). IsDrawnSo goals c.args.seed c.args.words c.args.budget c.draw.new.world g c.draw.new.left.items) (sym c.draw.ensures.generator)
    (drawn_next goals c.args.seed c.args.words c.args.budget c.loop-generator.world c.draw.new.world c.loop-generator.generator c.loop-generator.left.items c.draw.new.left.items c.loop-generator.invariant some c.draw.ensures.draws c.draw.ensures.same c.draw.ensures.left)

pub into_outcomes-requires : goal.into_outcomes-requires
into_outcomes-requires c =
    let goals : List Goal = map (λ g. g.now) c.args.goals.items in
    let zero : length c.loop-generator.left.items ≡ 0 = search rules in
    drawn_ended goals c.args.seed c.args.words c.args.budget c.loop-generator.world c.loop-generator.generator c.loop-generator.left.items c.loop-generator.invariant (nil_from_length c.loop-generator.left.items zero)

pub returns-clause-scheduled : goal.returns-clause-scheduled
returns-clause-scheduled c =
    let goals : List Goal = map (λ g. g.now) c.args.goals.items in
    let zero : length c.loop-generator.left.items ≡ 0 = search rules in
    drawn_whole goals c.args.seed c.args.words c.args.budget c.loop-generator.world c.loop-generator.generator c.loop-generator.left.items c.in_ok-outcomes.outcomes.items c.in_ok-counts.counts c.loop-generator.invariant (nil_from_length c.loop-generator.left.items zero) c.in_ok-counts.ensures c.in_ok-outcomes.ensures.outcomes

pub returns-clause-right : goal.returns-clause-right
returns-clause-right c =
    let goals : List Goal = map (λ g. g.now) c.args.goals.items in
    let zero : length c.loop-generator.left.items ≡ 0 = search rules in
    drawn_right goals c.args.seed c.args.words c.args.budget c.loop-generator.world c.loop-generator.generator c.loop-generator.left.items c.in_ok-outcomes.outcomes.items c.requires.words.0 c.requires.words.1 c.loop-generator.invariant (nil_from_length c.loop-generator.left.items zero) c.in_ok-outcomes.ensures.outcomes c.in_ok-outcomes.ensures.backed
