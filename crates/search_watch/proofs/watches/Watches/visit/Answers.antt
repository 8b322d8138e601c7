use Rattle.std.proofs.Common.{◌≡◌, ◌<◌, ◌∙◌, ℕ, true, List, get_or, set, take, length, sym, subst, ap}
use Rattle.std.specs.Vec.{with_item}
use Rattle.std.proofs.lemmas.List.{with_items_is, length-map}
use Rattle.search_watch.specs.declared.watch.Pair.{Pair}
use Rattle.search_watch.specs.Visits.{entries_of, has}
use Rattle.search_watch.specs.Watched.{index_of}
use Rattle.search_watch.proofs.Tables.{has-at, taken-list, visit-code}
use Rattle.search_watch.proofs.watches.Watches.visit.Goals as goal

pub walk-requires-clause-entries : goal.walk-requires-clause-entries
walk-requires-clause-entries c =
    let w = c.args.self.now in
    let lit = c.args.lit in
    let shape = c.requires.shape in
    let inside = subst (λ (n : ℕ). index_of lit < n) (length-map w.lists.items _) (shape.room lit c.requires.within) in
    let taken = c.deref_mut-3.ensures.value ∙ ap (λ v. v.items) c.replace-list.ensures.value ∙ taken-list w.lists.items lit c.index_of-at.result c.index_mut.result.now c.index_of-at.ensures inside c.index_mut.ensures.value in
    λ k low. subst (λ (ps : List Pair). get_or c.deref_mut-3.result.now k 0 < length ps) (sym c.deref_mut.ensures.value)
    (shape.size _ (shape.entries lit (get_or c.deref_mut-3.result.now k 0) (subst (λ (xs : List ℕ). has xs (get_or c.deref_mut-3.result.now k 0) ≡ true) taken (has-at c.deref_mut-3.result.now k 0 low))))

pub returns-clause-net : goal.returns-clause-net
returns-clause-net c =
    let w = c.args.self.now in
    let lit = c.args.lit in
    let shape = c.requires.shape in
    let at = c.index_of-at.result in
    let inside = subst (λ (n : ℕ). index_of lit < n) (length-map w.lists.items _) (shape.room lit c.requires.within) in
    let taken = c.deref_mut-3.ensures.value ∙ ap (λ v. v.items) c.replace-list.ensures.value ∙ taken-list w.lists.items lit at c.index_mut.result.now c.index_of-at.ensures inside c.index_mut.ensures.value in
    let out = c.replace-list.new.dest in
    let pairs = with_items_is w.pairs c.walk.new.pairs (c.walk.auto.pairs ∙ ap length c.deref_mut.ensures.value ∙ sym w.pairs.ok.0) in
    let list = with_item w.lists at out in
    let lists = with_items_is list c.walk.new.lists (c.walk.auto.lists ∙ ap length c.deref_mut-2.ensures.value ∙ sym list.ok.0) in
    let none = ap (λ v. v.items) c.replace-list.ensures.after ∙ c.new.ensures.items in
    (λ i. record { clauses = w.clauses; pairs = pairs i; lists = entries_of (set (lists i) at c.truncate.new.self); units = c.walk.new.found.units.items; least = c.walk.new.found.false_clause })
    ∙ visit-code w c.args.trail.now lit at c.in_ok-kept.kept c.deref_mut.result.now c.walk.new.pairs c.deref_mut-2.result.now c.walk.new.lists c.walk.new.found c.deref_mut-3.result.now c.walk.new.entries out c.truncate.new.self
    c.index_of-at.ensures c.deref_mut.ensures.value c.deref_mut-2.ensures.value none taken c.in_ok-kept.ensures
    (c.truncate.ensures.items ∙ ap (take c.in_ok-kept.kept) (with_items_is c.replace-list.result c.walk.new.entries (c.walk.auto.entries ∙ ap length c.deref_mut-3.ensures.value ∙ sym c.replace-list.result.ok.0)))
