use Rattle.std.proofs.Common.{◌≤◌, ap, sym, ◌∙◌, arith, length}
use Rattle.std.proofs.lemmas.Option.{slice_get_within}
use Rattle.std.proofs.lemmas.List.{take_all}
use Rattle.lrat_lines.specs.Judge.{given}
use Rattle.lrat_judge.proofs.Given.{free_behind, one_more_given, none_past}
use Rattle.lrat_judge.proofs.known.Known.given.Goals as goal

pub add-requires : goal.add-requires
add-requires c = free_behind c.loop-clause.known c.args.cnf.now.clauses c.loop-clause.at c.loop-clause.invariant.within c.loop-clause.invariant.known

pub loop-clause-smaller : goal.loop-clause-smaller
loop-clause-smaller c =
    let l = slice_get_within c.args.cnf.now.clauses c.loop-clause.at c.in-Some.clause.now (sym c.in-Some.ensures) in
    omega (arith, l)

pub loop-clause-preserved : goal.loop-clause-preserved
loop-clause-preserved c =
    let l = slice_get_within c.args.cnf.now.clauses c.loop-clause.at c.in-Some.clause.now (sym c.in-Some.ensures) in
    record {
      within = omega (arith, l);
      known = one_more_given c.loop-clause.known c.add.new.self c.args.cnf.now.clauses c.loop-clause.at c.in-Some.clause.now c.in_ok-from_slice.field-0.items c.loop-clause.invariant.within (sym c.in-Some.ensures) c.in_ok-from_slice.ensures.items c.loop-clause.invariant.known c.in_ok-add.ensures.ok;
    }

pub returns : goal.returns
returns c =
    let h : length c.args.cnf.now.clauses ≤ c.loop-clause.at = none_past c.args.cnf.now.clauses c.loop-clause.at (sym c.in_default.ensures) in
    c.loop-clause.invariant.known ∙ ap given (take_all c.loop-clause.at c.args.cnf.now.clauses h)
