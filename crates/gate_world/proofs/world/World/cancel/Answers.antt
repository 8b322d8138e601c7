use Rattle.std.proofs.Common.{◌≡◌, true, refl, rules, tests}
use Rattle.gate_world.specs.World.{Cancel}
use Rattle.gate_world.specs.Shown.{goals_of}
use Rattle.gate_world.proofs.Shown.{world_on, cancel_none, cancel_ended, cancel_set}
use Rattle.gate_world.proofs.world.World.cancel.Goals as goal

pub returns-then-not-is_replied_false-clause-happens : goal.returns-then-not-is_replied_false-clause-happens
returns-then-not-is_replied_false-clause-happens c =
    let s = c.args.self.now in
    cancel_none (goals_of s) s.words.items s.budget s.tasks.items c.known.ensures c.args.goal c.requires.goal c.args.cause c.requires.cause c.is_replied_false.result c.is_replied_false.ensures (search (rules, tests))

pub returns-then-has_outcome-clause-happens : goal.returns-then-has_outcome-clause-happens
returns-then-has_outcome-clause-happens c =
    let s = c.args.self.now in
    let is_so : c.is_replied_false.result ≡ true = search (rules, tests) in
    cancel_ended (goals_of s) s.words.items s.budget s.tasks.items c.known.ensures c.args.goal c.requires.goal c.args.cause c.requires.cause c.is_replied_false.result c.is_replied_false.ensures is_so c.has_outcome.result c.if-has_outcome.true c.has_outcome.ensures

pub invariant_of-self : goal.invariant_of-self
invariant_of-self c =
    let s = c.args.self.now in
    let is_so : c.is_replied_false.result ≡ true = search (rules, tests) in
    let on = cancel_set (goals_of s) s.words.items s.budget s.tasks.items c.known.ensures c.args.goal c.requires.goal c.args.cause c.requires.cause c.is_replied_false.result c.is_replied_false.ensures is_so c.has_outcome.result c.if-has_outcome.false c.has_outcome.ensures c.cancelled-next.result c.put.new.tasks.items c.cancelled-next.ensures c.put.ensures in
    record { reached = ∣ world_on (Cancel c.args.goal c.args.cause) (goals_of s) s.words.items s.budget s.tasks.items s.words.items c.put.new.tasks.items c.known.ensures refl on ∣₁ }

pub returns-clause-happens : goal.returns-clause-happens
returns-clause-happens c =
    let s = c.args.self.now in
    let is_so : c.is_replied_false.result ≡ true = search (rules, tests) in
    cancel_set (goals_of s) s.words.items s.budget s.tasks.items c.known.ensures c.args.goal c.requires.goal c.args.cause c.requires.cause c.is_replied_false.result c.is_replied_false.ensures is_so c.has_outcome.result c.if-has_outcome.false c.has_outcome.ensures c.cancelled-next.result c.put.new.tasks.items c.cancelled-next.ensures c.put.ensures
