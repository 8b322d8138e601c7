use Rattle.std.proofs.Common.{◌≡◌, ℕ, ◌+◌, ◌<◌, ◌≤◌, ◌%◌, ◌++◌, length, take, drop, slice_index_or, sym, ap, ◌∙◌, subst, arith}
use Rattle.rand_pcg.specs.Lcg.{Lcg}
use Rattle.rand_pcg.specs.Pcg.{pcg32}
use Rattle.gate_world.specs.Left.{Draws}
use Rattle.gate_world.specs.Shown.{goals_of}
use Rattle.gate_world.proofs.Draws.{picked_is, picked_inside, drawn_by, left_on, left_less}
use Rattle.gate_world.proofs.drawing.draw.Goals as goal

pub event_of-event-requires : goal.event_of-event-requires
event_of-event-requires c =
    let word : ℕ = (pcg32 c.args.generator.now).0 in
    let r : c.next_word.result ≡ word = ap (λ (x : ℕ × Lcg). x.0) c.next_word.ensures in
    let k : c.len.result ≡ length c.args.left.now.items = omega (arith, c.args.left.now.ok.0) in
    let some : 1 ≤ length c.args.left.now.items = c.requires.some in
    let is : slice_index_or c.args.left.now.items (word % length c.args.left.now.items) 0 ≡ c.index-goal.result.now = picked_is c.args.left.now.items c.next_word.result word c.len.result c.index-goal.result.now r k c.index-goal.ensures some in
    subst (λ g. g < length (goals_of c.args.world.now)) is
    (picked_inside c.args.world.now c.requires.shown.0 c.args.left.now.items (word % length c.args.left.now.items) c.requires.shown.1 c.requires.left (omega arith))

pub returns-then-is_ended-clause-draws : goal.returns-then-is_ended-clause-draws
returns-then-is_ended-clause-draws c =
    let word : ℕ = (pcg32 c.args.generator.now).0 in
    let r : c.next_word.result ≡ word = ap (λ (x : ℕ × Lcg). x.0) c.next_word.ensures in
    let k : c.len.result ≡ length c.args.left.now.items = omega (arith, c.args.left.now.ok.0) in
    let is : slice_index_or c.args.left.now.items (word % length c.args.left.now.items) 0 ≡ c.index-goal.result.now = picked_is c.args.left.now.items c.next_word.result word c.len.result c.index-goal.result.now r k c.index-goal.ensures c.requires.some in
    drawn_by word c.index-goal.result.now c.args.world.now c.step.new.self c.args.left.now.items c.event_of-event.result c.requires.left is c.event_of-event.ensures.event c.step.ensures.happens

pub returns-then-is_ended-clause-left : goal.returns-then-is_ended-clause-left
returns-then-is_ended-clause-left c =
    let word : ℕ = (pcg32 c.args.generator.now).0 in
    let r : c.next_word.result ≡ word = ap (λ (x : ℕ × Lcg). x.0) c.next_word.ensures in
    let k : c.len.result ≡ length c.args.left.now.items = omega (arith, c.args.left.now.ok.0) in
    let is : slice_index_or c.args.left.now.items (word % length c.args.left.now.items) 0 ≡ c.index-goal.result.now = picked_is c.args.left.now.items c.next_word.result word c.len.result c.index-goal.result.now r k c.index-goal.ensures c.requires.some in
    let draws : Draws word c.args.world.now c.step.new.self = drawn_by word c.index-goal.result.now c.args.world.now c.step.new.self c.args.left.now.items c.event_of-event.result c.requires.left is c.event_of-event.ensures.event c.step.ensures.happens in
    let same : c.next_word.result % c.len.result ≡ word % length c.args.left.now.items = ap (λ i. i % c.len.result) r ∙ ap (λ i. word % i) k in
    left_less word c.index-goal.result.now c.args.world.now c.step.new.self c.args.left.now.items c.requires.shown.0 c.requires.shown.1 c.requires.left c.requires.some is draws c.remove-ended.new.self.items
    (λ v shown. sym (c.is_ended.ensures v shown) ∙ c.if-is_ended.true)
    (c.remove-ended.ensures.by_index.2 ∙ ap (λ i. take i c.args.left.now.items ++ drop (i + 1) c.args.left.now.items) same)

pub returns-else-is_ended-clause-draws : goal.returns-else-is_ended-clause-draws
returns-else-is_ended-clause-draws c =
    let word : ℕ = (pcg32 c.args.generator.now).0 in
    let r : c.next_word.result ≡ word = ap (λ (x : ℕ × Lcg). x.0) c.next_word.ensures in
    let k : c.len.result ≡ length c.args.left.now.items = omega (arith, c.args.left.now.ok.0) in
    let is : slice_index_or c.args.left.now.items (word % length c.args.left.now.items) 0 ≡ c.index-goal.result.now = picked_is c.args.left.now.items c.next_word.result word c.len.result c.index-goal.result.now r k c.index-goal.ensures c.requires.some in
    drawn_by word c.index-goal.result.now c.args.world.now c.step.new.self c.args.left.now.items c.event_of-event.result c.requires.left is c.event_of-event.ensures.event c.step.ensures.happens

pub returns-else-is_ended-clause-left : goal.returns-else-is_ended-clause-left
returns-else-is_ended-clause-left c =
    let word : ℕ = (pcg32 c.args.generator.now).0 in
    let r : c.next_word.result ≡ word = ap (λ (x : ℕ × Lcg). x.0) c.next_word.ensures in
    let k : c.len.result ≡ length c.args.left.now.items = omega (arith, c.args.left.now.ok.0) in
    let is : slice_index_or c.args.left.now.items (word % length c.args.left.now.items) 0 ≡ c.index-goal.result.now = picked_is c.args.left.now.items c.next_word.result word c.len.result c.index-goal.result.now r k c.index-goal.ensures c.requires.some in
    let draws : Draws word c.args.world.now c.step.new.self = drawn_by word c.index-goal.result.now c.args.world.now c.step.new.self c.args.left.now.items c.event_of-event.result c.requires.left is c.event_of-event.ensures.event c.step.ensures.happens in
    left_on word c.index-goal.result.now c.args.world.now c.step.new.self c.args.left.now.items c.requires.shown.0 c.requires.shown.1 c.requires.left c.requires.some is draws
    (λ v shown. sym (c.is_ended.ensures v shown) ∙ c.if-is_ended.false)
