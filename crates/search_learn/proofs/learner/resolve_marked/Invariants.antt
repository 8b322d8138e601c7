use Rattle.std.proofs.Common.{◌≡◌, ◌≤◌, [], length, drop, reverse}
use Rattle.sat_form.specs.Literals.{set_of}
use Rattle.search_learn.specs.Analysis.{Resolved, resolve_back}
use Rattle.search_learn.specs.Marks.{AreMarks}
use Rattle.search_learn.specs.Rule.{clause_with}
use Rattle.search_learn.proofs.Collected.{AreFewer, AreListed}
use Rattle.search_learn.proofs.learner.resolve_marked.Given as goal

abbrev pub invariant-loop-left : goal.invariant-loop-left
invariant-loop-left l =
    let clause_of = clause_with l.clauses in
    let begun : Resolved = record { lits = set_of (clause_of l.false_id); used = [] } in
    let later = drop l.left l.trail.steps in
    let resolved = resolve_back clause_of l.trail.steps l.level begun later in
    record {
      within : l.left ≤ length l.trail.steps;
      marked : AreMarks l.level l.trail.steps l.levels l.marks l.count resolved.lits;
      used : resolved.used ≡ reverse l.hints.items;
      listed : AreListed l.lits.items resolved.lits later;
      fewer : AreFewer l.lits.items later;
    }

abbrev pub decreases-loop-left : goal.decreases-loop-left
decreases-loop-left l = l.left
