-- What a goal's work in hand rests on.
use Rattle.std.specs.Prelude.{◌≡◌, ◌≢◌, ℕ, ◌<◌, List, [], ◌∷◌, ◌++◌, All}
use Rattle.gate_shape.specs.Literal.{Literal}
use Rattle.gate_shape.specs.Edge.{Gate, gate_level, gate_edge}
use Rattle.gate_shape.specs.Word.{gate_word}
use Rattle.gate_shape.specs.Builds.{NotDeep}
use Rattle.gate_probe.specs.Words.{word_at}
use Rattle.gate_probe.specs.Sound.{home, IsGate}
use Rattle.gate_probe.specs.Standing.{StandsIn}
use Rattle.gate_probe.specs.Moves.{Probe, IsEnd}
use Rattle.gate_probe.specs.Searching.{IsSearching}
use Rattle.search_learn.specs.declared.Turn.TheVariants.{More}
use Rattle.search_learn.specs.Machine.{Machine, machine, steps}
use Rattle.goal_alone.specs.Ends.{Made}
use Rattle.goal_alone.specs.Formula.{goal_end, goal_clauses, goal_variables}
use Rattle.goal_alone.specs.Alone.{alone}
use Rattle.gate_world.specs.Work.{Problem, Work, End, Loading, Probing, Walking, Searching, Ended, Replied, OutOfMemory, NoRoom, CancelledBy, script_of}

-- a gate of these is built: a literal stands for it
abbrev pub IsBuilt : List ℕ → Gate → Type 0
IsBuilt seen g = (l : Literal) × StandsIn seen l (gate_edge g)

abbrev pub AreBuilt : List ℕ → List Gate → Type 0
AreBuilt seen [] = Unit {0}
AreBuilt seen (g ∷ gs) = IsBuilt seen g × AreBuilt seen gs

-- these gates of the script are built, and those are still to be
pub record IsBuilding (p : Problem) (seen : List ℕ) (done ahead : List Gate) : Type 0 where
  pub cut : script_of p ≡ done ++ ahead
  pub built : AreBuilt seen done
  pub shallow : All NotDeep done

-- a search for this gate's word, by what was seen
pub record IsProbing (n : ℕ) (seen : List ℕ) (g : Gate) (q : Probe) : Type 0 where
  pub left : Literal
  pub right : Literal
  pub left_stands : StandsIn seen left g.left
  pub right_stands : StandsIn seen right g.right
  pub places : q.places ≡ n
  pub from : q.from ≡ home n left right
  pub word : q.word ≡ gate_word (gate_level g) left right
  pub gate : IsGate seen (gate_word (gate_level g) left right)
  pub search : IsSearching seen q

pub record IsRunning (p : Problem) (budget : ℕ) (m : Machine) : Type 0 where
  pub all_made : goal_end p.hyps p.concl ≡ Made
  pub taken : ℕ
  pub reached : m ≡ steps taken budget (machine (goal_variables p.hyps p.concl) (goal_clauses p.hyps p.concl))
  pub going : m.state.end ≡ More

-- the end is right, where F holds of the goals that are replied false
abbrev pub IsEnding : ℕ → ℕ → List ℕ → (ℕ → Type 0) → Problem → End → Type 0
IsEnding n budget words F p (Replied a) = a ≡ alone p.binders p.hyps p.concl budget
IsEnding n budget words F p OutOfMemory = Unit {0}
IsEnding n budget words F p NoRoom = (s : ℕ) → s < n → word_at words s ≢ 0
IsEnding n budget words F p (CancelledBy c) = F c

abbrev pub IsDoing : ℕ → ℕ → List ℕ → (ℕ → Type 0) → Problem → List ℕ → Work → Type 0
IsDoing n budget words F p seen (Loading e es g gs) = (done : List Gate) × IsBuilding p seen done (g ∷ gs)
IsDoing n budget words F p seen (Probing g gs q) = (done : List Gate) × IsBuilding p seen done (g ∷ gs) × NotDeep g × IsProbing n seen g q × (IsEnd q.last → ⊥)
IsDoing n budget words F p seen (Walking e es) = IsBuilding p seen (script_of p) []
IsDoing n budget words F p seen (Searching m) = IsRunning p budget m
IsDoing n budget words F p seen (Ended end) = IsEnding n budget words F p end
