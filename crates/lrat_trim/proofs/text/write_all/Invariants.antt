use Rattle.lrat_trim.specs.Passing.{Writes}
use Rattle.lrat_trim.proofs.text.write_all.Given as goal

abbrev pub invariant-loop : goal.invariant-loop
invariant-loop l = Writes l.initial.trimming.lines l.trimming.lines l.initial.out.items l.out.items

abbrev pub decreases-loop : goal.decreases-loop
decreases-loop l = l.trimming.places
