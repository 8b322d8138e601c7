use Rattle.std.proofs.Common.{◌≡◌, ◌++◌, List, take, drop, length, map}
use Rattle.sat_form.specs.Literals.{Literal, negate}
use Rattle.lrat_judge.specs.Marked.{Same}
use Rattle.lrat_judge.specs.Assumed.{blocked, rest_of}
use Rattle.lrat_judge.proofs.assumption.assume.Given as goal

abbrev pub invariant-loop-lit : goal.invariant-loop-lit
invariant-loop-lit l = record {
  rest : (a : List Literal) → Same l.fn.marks a → (b : List Literal) × Same l.marks b × (blocked a (rest_of l.left_out l.clause) ≡ blocked b (rest_of l.left_out (drop l.lit-index l.clause)))
      × Same (map negate (rest_of l.left_out l.clause) ++ a) (map negate (rest_of l.left_out (drop l.lit-index l.clause)) ++ b);
  keeps : take (length l.fn.marks) l.marks ≡ l.fn.marks;
}
