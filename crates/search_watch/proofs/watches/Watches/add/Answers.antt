use Rattle.std.proofs.Common.{◌≡◌, ◌≤◌, ◌<◌, ◌++◌, ◌∷◌, ◌∙◌, ℕ, [], List, length, ap, sym, subst}
use Rattle.std.proofs.lemmas.List.{length-map}
use Rattle.search_learn.specs.declared.Step.{Step}
use Rattle.search_watch.specs.declared.watch.Pair.{Pair}
use Rattle.search_watch.specs.Added.{entered, joined, least_with, units_with}
use Rattle.search_watch.specs.Nets.{Net, IsNet, net}
use Rattle.search_watch.specs.Visits.{outcome}
use Rattle.search_watch.specs.Watched.{index_of}
use Rattle.search_watch.proofs.Added.{join-net}
use Rattle.search_watch.proofs.Nets.{all-member}
use Rattle.search_watch.proofs.watches.Watches.add.Goals as goal

pub highest_beside-second-requires-clause-first : goal.highest_beside-second-requires-clause-first
highest_beside-second-requires-clause-first c = all-member _ c.free_literal-first.result c.args.lits.now c.requires.within c.free_literal-first.ensures.member

pub enter-requires : goal.enter-requires
enter-requires c =
    let low = all-member _ c.free_literal-first.result c.args.lits.now c.requires.within c.free_literal-first.ensures.member in
    subst (λ (n : ℕ). index_of c.free_literal-first.result < n) (length-map c.args.self.now.lists.items _) (c.requires.net.shape.room c.free_literal-first.result low)

pub look_at-seen-requires-clause-other : goal.look_at-seen-requires-clause-other
look_at-seen-requires-clause-other c =
    let low = all-member _ c.free_literal-first.result c.args.lits.now c.requires.within c.free_literal-first.ensures.member in
    subst (λ (n : ℕ). c.free_literal-first.result.var ≤ n) (sym c.values.ensures.size) low

pub returns-clause-net : goal.returns-clause-net
returns-clause-net c =
    let t = c.args.trail.now.steps in
    let vars = c.args.trail.now.vars in
    let lits = c.args.lits.now in
    let first = c.free_literal-first.result in
    let second = c.highest_beside-second.result in
    let pair : Pair = record { first = first; second = second } in
    let n : Net = net c.args.self.now in
    let len : c.len-clause.result ≡ length n.clauses = c.len-clause.ensures in
    let pairs = c.in_ok-push.ensures.items in
    let seen : c.look_at-seen.result ≡ outcome t lits first = c.look_at-seen.ensures ∙ ap (λ (x : List Step). outcome x lits first) c.steps.ensures in
    let one : net c.enter.new.self ≡ record n { pairs = n.pairs ++ pair ∷ []; lists = entered n.lists first (length n.clauses) } =
    c.in_ok-enter.ensures.net ∙ (λ i. record n { pairs = pairs i; lists = entered n.lists first (len i) }) in
    let two : net c.enter-2.new.self ≡ record n { pairs = n.pairs ++ pair ∷ []; lists = entered (entered n.lists first (length n.clauses)) second (length n.clauses) } =
    c.in_ok-enter-2.ensures.net ∙ (λ i. record (one i) { lists = entered (one i).lists second (len i) }) in
    let three : net c.note.new.self ≡ record (joined t lits first second n) { clauses = n.clauses } =
    c.in_ok-note.ensures.net ∙ (λ i. record (two i) { units = units_with (seen i) (len i) first (two i).units; least = least_with (seen i) (len i) (two i).least }) in
    let clauses = c.in_ok-push-2.ensures.ok ∙ ap (λ (x : Net). x.clauses ++ lits ∷ []) three in
    let four : record (net c.note.new.self) { clauses = c.push-2.new.self } ≡ joined t lits first second n = λ i. record (three i) { clauses = clauses i } in
    subst (IsNet vars t []) (sym four) (join-net vars t n lits first second c.requires.net c.requires.some c.requires.variables c.requires.within c.requires.machine c.requires.open c.free_literal-first.ensures c.highest_beside-second.ensures.highest)
