-- What the command line gives.
use Rattle.std.specs.Prelude.{ℕ, List, [], drop, map, Result, Ok, Err, String, string_bytes}
use Rattle.std.specs.Vec.Iter.{into_iter_items}
use Rattle.std.specs.declared.vec.IntoIter.{IntoIter}

-- the words behind the program's name; a command line that can't be read as text has none
abbrev pub words_given : {Z E : Type 0} → Result (IntoIter (String Z) Z) E → List (List ℕ)
words_given (Ok args) = map string_bytes (drop 1 (into_iter_items args))
words_given (Err e) = []
