use Rattle.std.proofs.Common.{◌≡◌, take}
use Rattle.bvd_text.specs.Places.{place_behind}
use Rattle.bv_lex.proofs.places.place_at.Given as goal

abbrev pub invariant-loop-at : goal.invariant-loop-at
invariant-loop-at l = l.place ≡ place_behind (take l.at l.bytes)
