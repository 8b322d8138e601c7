use Rattle.std.proofs.Common.{◌≡◌, ◌++◌, ◌∷◌, ◌∙◌, [], true, cond, nat_lt, ap, sym, arith}
use Rattle.std.proofs.lemmas.Grind.{common_steps}
use Rattle.search_watch.specs.Visits.{entries_of}
use Rattle.search_watch.specs.Added.{none_pair}
use Rattle.search_watch.proofs.watches.Watches.fill.Goals as goal

pub returns-in_ok-push : goal.returns-in_ok-push
returns-in_ok-push c =
    let w = c.args.self.now in
    let ps = w.pairs.items in
    let above = c.if-vars-gt0.true in
    let some : nat_lt 0 c.args.vars ≡ true = grind (arith, common_steps) in
    let none = c.new-none.ensures in
    let pairs = c.in_ok-push.ensures.items ∙ (λ i. ps ++ record { first = none i; second = none i } ∷ []) ∙ sym (ap (λ b. cond b (ps ++ none_pair ∷ []) ps) some) in
    λ i. record { clauses = w.clauses; pairs = pairs i; lists = entries_of w.lists.items; units = w.found.units.items; least = w.found.false_clause }
