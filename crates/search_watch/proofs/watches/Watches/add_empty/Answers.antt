use Rattle.std.proofs.Common.{◌≡◌, ◌++◌, ◌∷◌, ◌∙◌, [], length, ap, sym, subst}
use Rattle.search_watch.specs.Added.{filled}
use Rattle.search_watch.specs.Nets.{Net, IsNet, net}
use Rattle.search_watch.specs.Watched.{lesser}
use Rattle.search_watch.proofs.Empties.{empty-net}
use Rattle.search_watch.proofs.watches.Watches.add_empty.Goals as goal

pub returns-clause-net : goal.returns-clause-net
returns-clause-net c =
    let n : Net = net c.args.self.now in
    let pushed = c.in_ok-push.ensures.ok in
    let before : net c.fill.new.self ≡ record n { clauses = n.clauses ++ [] ∷ []; pairs = filled c.args.vars n.pairs } = c.in_ok-fill.ensures ∙ (λ i. record n { clauses = pushed i; pairs = filled c.args.vars n.pairs }) in
    let units = ap (λ v. v.items) c.note_false.ensures.units ∙ ap (λ (x : Net). x.units) before in
    let len = c.len-clause.ensures in
    let least = c.note_false.ensures.least ∙ (λ i. lesser (before i).least (len i)) in
    let same : ◌≡◌ {A = Net} (record { clauses = (net c.fill.new.self).clauses; pairs = (net c.fill.new.self).pairs; lists = (net c.fill.new.self).lists; units = c.note_false.new.self.units.items; least = c.note_false.new.self.false_clause })
    (record n { clauses = n.clauses ++ [] ∷ []; pairs = filled c.args.vars n.pairs; least = lesser n.least (length n.clauses) }) =
    λ i. record { clauses = (before i).clauses; pairs = (before i).pairs; lists = (before i).lists; units = units i; least = least i } in
    subst (IsNet c.args.vars [] []) (sym same) (empty-net c.args.vars n c.requires.net)
