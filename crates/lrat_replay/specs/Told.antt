-- What is said of a source's text where it may not be told, and what a step says of the answer.
use Rattle.std.specs.Prelude.{ℕ, ◌<◌, List, IfSome, Bool, true, false, Option, None, Some, Result, Ok, Err}
use Rattle.lrat_replay.specs.Memory.{IsOutside}
use Rattle.lrat_replay.specs.declared.stop.ReplayStop.{ReplayStop}

-- it holds of the text that is told, or of some text where none is
abbrev pub OfText : Option (List ℕ) → (List ℕ → Type 0) → Type 0
OfText None P = (text : List ℕ) × P text
OfText (Some text) P = P text

-- What a step brings, from the answers that are right before it to those that are right behind it: a `true` is the answer Ok, a `false` leaves the answer to what follows, and a cause outside the text says nothing.
abbrev pub Brings : Result Bool ReplayStop → (Result (Unit {0}) ReplayStop → Type 0) → (Result (Unit {0}) ReplayStop → Type 0) → Type 0
Brings (Ok true) before after = before (Ok tt)
Brings (Ok false) before after = (r : Result (Unit {0}) ReplayStop) → after r → before r
Brings (Err stop) before after = ¬ (IsOutside stop) → before (Err stop)

-- the answer at the end of a run; a cause outside the text says nothing
abbrev pub Ends : Result (Unit {0}) ReplayStop → (Result (Unit {0}) ReplayStop → Type 0) → Type 0
Ends (Ok x) before = before (Ok tt)
Ends (Err stop) before = ¬ (IsOutside stop) → before (Err stop)

-- the room that is told, if it is, is above so many bytes
abbrev pub IsAbove : Option ℕ → ℕ → Type 0
IsAbove room most = IfSome room (λ n. most < n)
