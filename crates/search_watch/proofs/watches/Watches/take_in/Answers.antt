use Rattle.std.proofs.Common.{◌≡◌, [], ◌==◌, ◌∙◌, List, length, ap, sym, subst, false}
use Rattle.sat_form.specs.Literals.{Literal}
use Rattle.sat_form.proofs.Sets.{absurd_bool}
use Rattle.search_learn.specs.Values.{IsOfMachine}
use Rattle.search_watch.proofs.Empties.{within-some}
use Rattle.search_watch.proofs.watches.Watches.take_in.Goals as goal

pub add-requires-clause-variables : goal.add-requires-clause-variables
add-requires-clause-variables c =
    let lits = c.args.lits.now in
    let filled : false ≡ (length lits == 0) = c.if-is_empty.ensures in
    within-some c.args.trail.now.vars lits (λ e. absurd_bool (filled ∙ ap (λ (x : List Literal). length x == 0) e)) c.requires.within

pub add-requires-clause-machine : goal.add-requires-clause-machine
add-requires-clause-machine c = subst (IsOfMachine c.args.trail.now.vars) (sym c.requires.none) (λ _. [], tt)
