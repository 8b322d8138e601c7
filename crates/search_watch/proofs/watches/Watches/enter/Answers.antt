use Rattle.std.proofs.Common.{◌++◌, ◌∷◌, ◌∙◌, [], ap}
use Rattle.search_watch.specs.Watched as watched
use Rattle.search_watch.proofs.Tables.{pushed}
use Rattle.search_watch.proofs.watches.Watches.enter.Goals as goal

pub returns-clause-net : goal.returns-clause-net
returns-clause-net c =
    let w = c.args.self.now in
    let at = c.index_of.result in
    let v = c.index_mut.result.now in
    let lists = pushed w.lists.items (watched.index_of c.args.lit) at v c.push.new.self c.args.clause c.index_of.ensures c.requires (c.in_ok-push.ensures.items ∙ ap (λ x. x.items ++ c.args.clause ∷ []) c.index_mut.ensures.value) in
    λ i. record { clauses = w.clauses; pairs = w.pairs.items; lists = lists i; units = w.found.units.items; least = w.found.false_clause }
