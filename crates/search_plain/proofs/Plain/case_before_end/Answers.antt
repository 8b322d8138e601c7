use Rattle.std.proofs.Common.{◌∙◌, sym}
use Rattle.search_plain.specs.contracts.Plain.{the_view}
use Rattle.search_learn.proofs.Cases.{false_spent, false_taught, unit_spent, unit_round, all_solved, choice_spent, choice_made}
use Rattle.search_plain.proofs.Plain.case_before_end.Goals as goal

pub returns-then-spent : goal.returns-then-spent
returns-then-spent c =
    let p = c.self.inside in
    let found = c.false_clause.ensures in
    rw (← c.self.view_is) (false_spent p.budget (the_view p).state (rw (← c.self.view_is) at c.requires.going) c.in-Some.id (sym c.in-Some.is ∙ found) c.if-spent.true)

pub returns-else-spent : goal.returns-else-spent
returns-else-spent c =
    let p = c.self.inside in
    let found = c.false_clause.ensures in
    rw (← c.self.view_is) (false_taught p.budget (the_view p).state (rw (← c.self.view_is) at c.requires.going) c.in-Some.id (sym c.in-Some.is ∙ found) c.if-spent.false)

pub returns-then-spent-2 : goal.returns-then-spent-2
returns-then-spent-2 c =
    let p = c.self.inside in
    let found = c.false_clause.ensures in
    let unit = c.has_unit.ensures in
    rw (← c.self.view_is) (unit_spent p.budget (the_view p).state (rw (← c.self.view_is) at c.requires.going) (sym c.in-None.is ∙ found) (sym unit ∙ c.if-has_unit.true) c.if-spent-2.true)

pub returns-else-spent-2 : goal.returns-else-spent-2
returns-else-spent-2 c =
    let p = c.self.inside in
    let found = c.false_clause.ensures in
    let unit = c.has_unit.ensures in
    rw (← c.self.view_is) (unit_round p.budget (the_view p).state (rw (← c.self.view_is) at c.requires.going) (sym c.in-None.is ∙ found) (sym unit ∙ c.if-has_unit.true) c.if-spent-2.false)

pub returns-then-all_assigned : goal.returns-then-all_assigned
returns-then-all_assigned c =
    let p = c.self.inside in
    let found = c.false_clause.ensures in
    let unit = c.has_unit.ensures in
    let all = c.all_assigned.ensures in
    rw (← c.self.view_is) (all_solved p.budget (the_view p).state (rw (← c.self.view_is) at c.requires.going) (sym c.in-None.is ∙ found) (sym unit ∙ c.if-has_unit.false) (sym all ∙ c.if-all_assigned.true))

pub returns-then-spent-3 : goal.returns-then-spent-3
returns-then-spent-3 c =
    let p = c.self.inside in
    let found = c.false_clause.ensures in
    let unit = c.has_unit.ensures in
    let all = c.all_assigned.ensures in
    rw (← c.self.view_is) (choice_spent p.budget (the_view p).state (rw (← c.self.view_is) at c.requires.going) (sym c.in-None.is ∙ found) (sym unit ∙ c.if-has_unit.false) (sym all ∙ c.if-all_assigned.false) c.if-spent-3.true)

pub returns-else-spent-3 : goal.returns-else-spent-3
returns-else-spent-3 c =
    let p = c.self.inside in
    let found = c.false_clause.ensures in
    let unit = c.has_unit.ensures in
    let all = c.all_assigned.ensures in
    rw (← c.self.view_is) (choice_made p.budget (the_view p).state (rw (← c.self.view_is) at c.requires.going) (sym c.in-None.is ∙ found) (sym unit ∙ c.if-has_unit.false) (sym all ∙ c.if-all_assigned.false) c.if-spent-3.false)
