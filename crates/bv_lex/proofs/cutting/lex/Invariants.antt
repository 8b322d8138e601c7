use Rattle.std.proofs.Common.{◌≡◌, ◌≤◌, ◌++◌, ◌-◌, List, Option, length, take}
use Rattle.bvd_text.specs.Places.{place_behind}
use Rattle.bv_lex.specs.declared.token.Token.{Token}
use Rattle.bv_lex.specs.declared.fault.Fault.{Fault}
use Rattle.bv_lex.specs.Cut.{Cut}
use Rattle.bv_lex.proofs.cutting.lex.Given as goal

abbrev pub invariant-loop-at : goal.invariant-loop-at
invariant-loop-at l = record {
  within : l.at ≤ length l.text;
  placed : l.place ≡ place_behind (take l.at l.bytes);
  before : (ts : List Token) (f : Option Fault) → Cut l.bytes l.at ts f → Cut l.bytes 0 (l.tokens.items ++ ts) f;
}

abbrev pub decreases-loop-at : goal.decreases-loop-at
decreases-loop-at l = length l.text - l.at
