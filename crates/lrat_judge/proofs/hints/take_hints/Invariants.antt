use Rattle.std.proofs.Common.{◌≡◌, List, take, drop, length, map, nat_abs}
use Rattle.sat_form.specs.Literals.{Literal}
use Rattle.lrat_lines.specs.Judge as judge
use Rattle.lrat_judge.specs.Marked.{Same}
use Rattle.lrat_judge.proofs.hints.take_hints.Given as goal

abbrev pub invariant-loop-hint : goal.invariant-loop-hint
invariant-loop-hint l = record {
  rest : (a : List Literal) → Same l.fn.marks a → (b : List Literal) × Same l.marks b × (judge.take_hints l.known a (map nat_abs l.hints) ≡ judge.take_hints l.known b (map nat_abs (drop l.hint-index l.hints)));
  keeps : take (length l.fn.marks) l.marks ≡ l.fn.marks;
}
