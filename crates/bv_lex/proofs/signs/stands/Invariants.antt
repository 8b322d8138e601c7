use Rattle.std.proofs.Common.{◌+◌, drop}
use Rattle.bv_lex.specs.Words.{Stands}
use Rattle.bv_lex.proofs.signs.stands.Given as goal

abbrev pub invariant-loop-k : goal.invariant-loop-k
invariant-loop-k l = record {
  on : Stands l.text l.at l.word → Stands l.text (l.at + l.k) (drop l.k l.word);
  back : Stands l.text (l.at + l.k) (drop l.k l.word) → Stands l.text l.at l.word;
}
