use Rattle.std.proofs.Common.{◌≡◌, ◌+◌, ◌++◌, ◌∷◌, ◌∙◌, ℕ, [], true, List, take, ap, sym, subst, arith}
use Rattle.std.proofs.lemmas.List.{append-nil, take-append-drop, take_more}
use Rattle.std.proofs.lemmas.Option.{get_or_from_slice_get, slice_get_within}
use Rattle.sat_form.specs.Literals.{Literal}
use Rattle.sat_form.specs.Shape.{are_within}
use Rattle.sat_form.proofs.Holds.{clause_within, formula_within, none_left}
use Rattle.search_watch.proofs.watches.Watches.of.Goals as goal

pub take_in-requires-clause-within : goal.take_in-requires-clause-within
take_in-requires-clause-within c =
    let f = c.args.cnf.now in
    subst (λ (n : ℕ). are_within n c.in-Some.lits.now ≡ true) (sym c.requires.vars) (clause_within f.vars f.clauses c.loop-lits.at c.in-Some.lits.now (formula_within f.vars f.clauses f.in_range) (sym c.in-Some.ensures))

pub loop-lits-smaller : goal.loop-lits-smaller
loop-lits-smaller c =
    let l = slice_get_within c.args.cnf.now.clauses c.loop-lits.at c.in-Some.lits.now (sym c.in-Some.ensures) in
    omega (arith, l)

pub loop-lits-preserved : goal.loop-lits-preserved
loop-lits-preserved c =
    let cs = c.args.cnf.now.clauses in
    let at = c.loop-lits.at in
    let lits = c.in-Some.lits.now in
    let l = slice_get_within cs at lits (sym c.in-Some.ensures) in
    let here = get_or_from_slice_get cs at lits lits (sym c.in-Some.ensures) in
    let more : take (at + 1) cs ≡ take at cs ++ lits ∷ [] = take_more cs at lits l ∙ ap (λ (x : List Literal). take at cs ++ x ∷ []) here in
    record {
      low = omega (arith, l);
      net = c.in_ok-take_in.ensures.net;
      clauses = c.in_ok-take_in.ensures.clauses ∙ ap (λ (x : List (List Literal)). x ++ lits ∷ []) c.loop-lits.invariant.clauses ∙ sym more;
    }

pub returns-clause-clauses : goal.returns-clause-clauses
returns-clause-clauses c =
    let cs = c.args.cnf.now.clauses in
    let at = c.loop-lits.at in
    let none = none_left cs at (sym c.in_default.ensures) in
    c.loop-lits.invariant.clauses ∙ sym (append-nil (take at cs)) ∙ ap (λ (x : List (List Literal)). take at cs ++ x) (sym none) ∙ take-append-drop at cs
