use Rattle.std.proofs.Common.{ap, sym, take}
use Rattle.std.specs.Option.{option_map}
use Rattle.search_learn.specs.Machine.{Clause}
use Rattle.search_learn.proofs.Cases.{false_spent, false_taught, unit_spent, unit_round}
use Rattle.search_watch.specs.Nets.{net}
use Rattle.search_watch.specs.contracts.Rounds.{the_view}
use Rattle.search_watch.proofs.Follows as follows
use Rattle.search_watch.proofs.Found.{consistent}
use Rattle.search_watch.proofs.Numbered.{least-found, none-found, one-of, units-none, units-some, vec-none, vec-some}
use Rattle.search_watch.proofs.Rounds.case_before_end.Goals as goal

pub returns-then-spent : goal.returns-then-spent
returns-then-spent c =
    let p = c.self.inside in
    let m = (the_view p).state in
    let f = c.self.invariant (rw (← c.self.view_is) at c.requires.whole) in
    let more = rw (← c.self.view_is) at c.requires.going in
    let sound = consistent m.vars m.trail (follows.machine (take p.inputs p.watches.clauses) p.budget _ _ _ _ m f f.formula) in
    rw (← c.self.view_is) (false_spent p.budget m more _ (least-found m.vars m.trail (net p.watches) (f.net more) sound c.in-Some.place c.in-Some.is) c.if-spent.true)

pub returns-else-spent : goal.returns-else-spent
returns-else-spent c =
    let p = c.self.inside in
    let m = (the_view p).state in
    let f = c.self.invariant (rw (← c.self.view_is) at c.requires.whole) in
    let more = rw (← c.self.view_is) at c.requires.going in
    let sound = consistent m.vars m.trail (follows.machine (take p.inputs p.watches.clauses) p.budget _ _ _ _ m f f.formula) in
    rw (← c.self.view_is) (false_taught p.budget m more _ (least-found m.vars m.trail (net p.watches) (f.net more) sound c.in-Some.place c.in-Some.is) c.if-spent.false)

pub returns-then-is_empty : goal.returns-then-is_empty
returns-then-is_empty c =
    let p = c.self.inside in
    let m = (the_view p).state in
    let f = c.self.invariant (rw (← c.self.view_is) at c.requires.whole) in
    let more = rw (← c.self.view_is) at c.requires.going in
    let sound = consistent m.vars m.trail (follows.machine (take p.inputs p.watches.clauses) p.budget _ _ _ _ m f f.formula) in
    let none = vec-none p.watches.found.units c.if-is_empty.ensures in
    rw (← c.self.view_is) (record {
      unbroken = record { before = more; none = none-found m.vars m.trail (net p.watches) (f.net more) sound c.in-None.is };
      unit = units-none m.vars m.trail (net p.watches) (f.net more) sound c.in-None.is none;
    })

pub returns-then-spent-2 : goal.returns-then-spent-2
returns-then-spent-2 c =
    let p = c.self.inside in
    let m = (the_view p).state in
    let f = c.self.invariant (rw (← c.self.view_is) at c.requires.whole) in
    let more = rw (← c.self.view_is) at c.requires.going in
    let sound = consistent m.vars m.trail (follows.machine (take p.inputs p.watches.clauses) p.budget _ _ _ _ m f f.formula) in
    let none = none-found m.vars m.trail (net p.watches) (f.net more) sound c.in-None.is in
    let one = one-of p.watches.found.units.items (vec-some p.watches.found.units c.if-is_empty.ensures) in
    rw (← c.self.view_is) (unit_spent p.budget m more (sym (ap (option_map (λ (x : Clause). x.id)) none)) (units-some m.vars m.trail (net p.watches) (f.net more) sound one.0 one.1) c.if-spent-2.true)

pub returns-else-spent-2 : goal.returns-else-spent-2
returns-else-spent-2 c =
    let p = c.self.inside in
    let m = (the_view p).state in
    let f = c.self.invariant (rw (← c.self.view_is) at c.requires.whole) in
    let more = rw (← c.self.view_is) at c.requires.going in
    let sound = consistent m.vars m.trail (follows.machine (take p.inputs p.watches.clauses) p.budget _ _ _ _ m f f.formula) in
    let none = none-found m.vars m.trail (net p.watches) (f.net more) sound c.in-None.is in
    let one = one-of p.watches.found.units.items (vec-some p.watches.found.units c.if-is_empty.ensures) in
    rw (← c.self.view_is) (unit_round p.budget m more (sym (ap (option_map (λ (x : Clause). x.id)) none)) (units-some m.vars m.trail (net p.watches) (f.net more) sound one.0 one.1) c.if-spent-2.false, record { before = more; none = none })
