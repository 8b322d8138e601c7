-- What holds of the world at every moment that can be reached.
use Rattle.std.specs.Prelude.{◌≡◌, ◌≢◌, ℕ, ◌<◌, true, false, List, [], ◌∷◌, ◌++◌, length, slice_index_or, None}
use Rattle.gate_shape.specs.Edge.{Edge, Gate, constant, input, gate, simplified, key_below}
use Rattle.gate_shape.specs.Listed.{has_gate}
use Rattle.gate_probe.specs.Words.{word_at}
use Rattle.gate_probe.specs.Sound.{IsSound, IsWithin}
use Rattle.goal_alone.specs.Alone.{alone}
use Rattle.goal_alone.specs.Ends.{Made, end_of}
use Rattle.goal_alone.specs.Formula.{most_gates}
use Rattle.gate_world.specs.Work.{Problem, Work, End, Loading, Probing, Walking, Searching, Ended, Replied, OutOfMemory, NoRoom, CancelledBy, is_false, script_of}
use Rattle.gate_world.specs.World.{World, actor_at, nobody}

-- A goal's end is its own answer, or memory ran out, or each word of the table is taken, or it was
-- cancelled by a goal that is replied false
abbrev pub IsEndOf : World → ℕ → Problem → End → Type 0
IsEndOf w budget p (Replied a) = a ≡ alone p.binders p.hyps p.concl budget
IsEndOf w budget p OutOfMemory = Unit {0}
IsEndOf w budget p NoRoom = (s : ℕ) → s < length w.words → word_at w.words s ≢ 0
IsEndOf w budget p (CancelledBy c) = is_false (actor_at w c).work ≡ true

abbrev pub IsWorkOf : World → ℕ → Problem → Work → Type 0
IsWorkOf w budget p (Loading e es g gs) = Unit {0}
IsWorkOf w budget p (Probing g gs probe) = Unit {0}
IsWorkOf w budget p (Walking e es) = Unit {0}
IsWorkOf w budget p (Searching m) = Unit {0}
IsWorkOf w budget p (Ended end) = IsEndOf w budget p end

abbrev pub problem_at : List Problem → ℕ → Problem
problem_at problems g = slice_index_or problems g nobody.problem

-- n sound words, each place in each view holds its word, and each of the goals is unended or has ended so
pub record IsRight (problems : List Problem) (n budget : ℕ) (w : World) : Type 0 where
  pub size : length w.words ≡ n
  pub sound : IsSound w.words
  pub views : (g : ℕ) → IsWithin (actor_at w g).seen w.words
  pub count : length w.actors ≡ length problems
  pub ends : (g : ℕ) → g < length problems → IsWorkOf w budget (problem_at problems g) (actor_at w g).work

-- a fanin of a gate is false, true, an input, or a gate that was made before
abbrev pub IsMade : List Gate → Edge → Type 0
IsMade before (constant s) = Unit {0}
IsMade before (input s k j) = (k < 64) × (j < 128)
IsMade before (gate s a b) = has_gate before record { left = a; right = b } ≡ true

-- the gate is that of a conjunction which isn't simple, over gates that were made before
pub record IsCall (before : List Gate) (g : Gate) : Type 0 where
  pub left : IsMade before g.left
  pub right : IsMade before g.right
  pub apart : simplified g.left g.right ≡ None
  pub ordered : key_below g.right g.left ≡ false

-- Each gate of the goal's script is such a gate, as far as those before it can be made in a list of
-- 4,000,000
abbrev pub IsScripted : Problem → Type 0
IsScripted p = (before : List Gate) (g : Gate) (after : List Gate) → script_of p ≡ before ++ g ∷ after → end_of most_gates [] before ≡ Made → IsCall before g

abbrev pub AreScripted : List Problem → Type 0
AreScripted problems = (g : ℕ) → g < length problems → IsScripted (problem_at problems g)
