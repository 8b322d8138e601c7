-- What the code of a goal that builds its circuit has in hand: the script, how far it has come, and where in the table
-- the gates of the script's list are.
use Rattle.std.specs.Prelude.{◌≡◌, ℕ, ◌≤◌, false, List, [], ◌∷◌, ◌++◌, length, None, IfOk}
use Rattle.gate_shape.specs.Literal.{Literal}
use Rattle.gate_shape.specs.Edge.{Edge, Gate, level, gate_edge, simplified, key_below}
use Rattle.gate_shape.specs.Builds.{Known, NotDeep, Stands}
use Rattle.gate_probe.specs.Sound.{IsSound, IsWithin}
use Rattle.gate_probe.specs.Words.{word_at}
use Rattle.gate_probe.specs.Standing.{StandsIn}
use Rattle.gate_probe.specs.Views.{learnt}
use Rattle.gate_probe.specs.Moves.{Probe, probe_after, place_of, MayTell, IsEnd}
use Rattle.gate_world.specs.World.{Actor, Moved, search_goes, probes, moved}
use Rattle.gate_world.specs.Right.{IsScripted}
use Rattle.gate_world.specs.Doing.{IsBuilding, IsProbing, IsDoing}
use Rattle.goal_alone.specs.Ends.{Made, end_of}
use Rattle.goal_alone.specs.Formula.{most_gates}
use Rattle.blast_goal.specs.Script.{list_of, kept_after, AreCalls, AreAnswers, EndsAs, calls_of}
use Rattle.goal_alone.specs.Alone.{Deep}
use Rattle.gate_world.specs.Literals.{if_gate, fanin_gates}
use Rattle.gate_world.specs.Work.{Problem, Work, Loading, Probing, Walking, Searching, Ended, Replied, NoRoom, script_of, edge_of, cone_of, to_walk}
use Rattle.bv_expr.specs.declared.goal.Goal.{Goal}
use Rattle.gate_world.specs.declared.build.Calls.{Calls}
use Rattle.gate_world.specs.declared.build.Stage.{Stage}
use Rattle.gate_world.specs.declared.build.Stage.TheVariants as stage
use Rattle.gate_world.specs.declared.build.Building.{Building}
use Rattle.gate_world.specs.declared.build.Work.{Work as CodeWork}
use Rattle.gate_world.specs.declared.build.Work.TheVariants as code

-- a goal without its name
abbrev pub problem_of : Goal → Problem
problem_of g = record { binders = g.binders; hyps = g.hyps; concl = g.concl }

-- by these words these are the nodes of these gates
abbrev pub AreNodes : List ℕ → List Gate → List ℕ → Type 0
AreNodes words [] [] = Unit {0}
AreNodes words (g ∷ gs) (n ∷ ns) = StandsIn words (record { node = n; sign = false }) (gate_edge g) × AreNodes words gs ns
AreNodes words [] (n ∷ ns) = ⊥
AreNodes words (g ∷ gs) [] = ⊥

-- the calls for these gates of the script are done, and those are still to be made
pub record IsCalls (p : Problem) (words : List ℕ) (done ahead : List Gate) (c : Calls) : Type 0 where
  pub calls : AreCalls [] (script_of p) c.script.calls.items
  pub answers : AreAnswers [] (script_of p) c.script.answers.items
  pub ends : EndsAs [] (script_of p) c.script.answers.items c.script.end
  pub count : length c.script.calls.items ≡ calls_of (length c.script.answers.items) c.script.end
  pub cut : script_of p ≡ done ++ ahead
  pub at : c.call ≡ length done
  pub built : AreNodes words (kept_after [] done) c.built.items
  pub root : IfOk c.script.end (λ root. Stands (list_of (kept_after [] (script_of p))) root (edge_of p))
  pub made : end_of most_gates [] done ≡ Made

-- the literal is one of the script's list, whose gates are in a table
abbrev pub IsOfList : Calls → Literal → Type 0
IsOfList c l = (words : List ℕ) × (kept : List Gate) × (length words ≤ 4000000) × AreNodes words kept c.built.items × Known (list_of kept) l

-- a call is at hand
abbrev pub HasCall : Calls → Type 0
HasCall c = (p : Problem) × (words : List ℕ) × (done : List Gate) × (g : Gate) × (gs : List Gate) × (length words ≤ 4000000) × IsCalls p words done (g ∷ gs) c

-- the call at hand was answered
abbrev pub IsAnswered : Calls → Type 0
IsAnswered c = (p : Problem) × (words : List ℕ) × (done : List Gate) × (g : Gate) × (gs : List Gate) × IsCalls p words done (g ∷ gs) c × (end_of most_gates [] (done ++ g ∷ []) ≡ Made)

-- the words are sound, what was seen is there, and the gate's fanins were seen
pub record IsReadBy (words seen : List ℕ) (g : Gate) : Type 0 where
  pub sound : IsSound words
  pub within : IsWithin seen words
  pub left : (l : Literal) × StandsIn seen l g.left
  pub right : (l : Literal) × StandsIn seen l g.right

abbrev pub AreReadBy : List ℕ → List ℕ → List Gate → Type 0
AreReadBy words seen [] = IsSound words × IsWithin seen words
AreReadBy words seen (g ∷ gs) = IsReadBy words seen g

-- these fanins of the gate are still to be loaded
abbrev pub IsStage : Gate → Stage → List Edge → Type 0
IsStage g stage.Left fs = (length (if_gate g.left) ≡ 1) × (fs ≡ fanin_gates g)
IsStage g (stage.Right first) fs = (length (if_gate g.right) ≡ 1) × (fs ≡ if_gate g.right) × (first ≡ level g.left) × (first ≤ 262143)
IsStage g (stage.Probe q) fs = ⊥

-- what a goal that builds has in hand
abbrev pub ShowsBuilding : Problem → List ℕ → Building → Work → Type 0
ShowsBuilding p words b (Loading e es g gs) = (done : List Gate) × IsCalls p words done (g ∷ gs) b.calls × IsStage g b.stage (e ∷ es)
ShowsBuilding p words b (Probing g gs q) = (done : List Gate) × IsCalls p words done (g ∷ gs) b.calls × (b.stage ≡ stage.Probe q)
ShowsBuilding p words b (Walking e es) = ⊥
ShowsBuilding p words b (Searching m) = ⊥
ShowsBuilding p words b (Ended end) = ⊥

-- the same of a goal whose circuit is built, all calls of whose script are done, and of one that ended on the way
abbrev pub ShowsWork : Problem → List ℕ → CodeWork → Work → Type 0
ShowsWork p words (code.Building b) w = ShowsBuilding p words b w
ShowsWork p words code.Deep w = w ≡ Ended (Replied Deep)
ShowsWork p words code.Full w = w ≡ Ended NoRoom
ShowsWork p words (code.Built c) w = (w ≡ to_walk p (cone_of p)) × (done : List Gate) × IsCalls p words done [] c

-- The goal searches for the word of a gate of its script, by what it has seen of these words
pub record IsAtSearch (p : Problem) (words seen : List ℕ) (done : List Gate) (g : Gate) (gs : List Gate) (c : Calls) (q : Probe) : Type 0 where
  pub calls : IsCalls p words done (g ∷ gs) c
  pub sound : IsSound words
  pub some : 1 ≤ length words
  pub few : length words ≤ 4000000
  pub within : IsWithin seen words
  pub scripted : IsScripted p
  pub building : IsBuilding p seen done (g ∷ gs)
  pub shallow : NotDeep g
  pub probing : IsProbing (length words) seen g q
  pub ongoing : IsEnd q.last → ⊥

-- what the search may be told
pub record MayBeTold (c : Calls) (q : Probe) (word size : ℕ) : Type 0 where
  pub problem : Problem
  pub words : List ℕ
  pub seen : List ℕ
  pub done : List Gate
  pub gate : Gate
  pub behind : List Gate
  pub size_is : length words ≡ size
  pub search : IsAtSearch problem words seen done gate behind c q
  pub here : word ≡ word_at words (place_of q)
  pub may : MayTell q.last word

-- the work behind a word that the search was told
abbrev pub GoesOn : Calls → Probe → ℕ → ℕ → CodeWork → Type 0
GoesOn c q word size work =
    (p : Problem) (words seen : List ℕ) (done : List Gate) (g : Gate) (gs : List Gate) → length words ≡ size → IsAtSearch p words seen done g gs c q → word ≡ word_at words (place_of q)
    → ShowsWork p words work (search_goes size p (learnt seen (place_of q) word) g gs (probe_after q word) (probe_after q word).last)

-- the search is one that a goal is in
abbrev pub IsSearched : List ℕ → Calls → Probe → Type 0
IsSearched words c q = (p : Problem) × (seen : List ℕ) × (done : List Gate) × (g : Gate) × (gs : List Gate) × IsAtSearch p words seen done g gs c q

-- the words and the work are what a load or claim of the goal leaves
abbrev pub IsMovedTo : Moved → List ℕ → CodeWork → Type 0
IsMovedTo m words work = (words ≡ m.words) × ShowsWork m.actor.problem m.words work m.actor.work

abbrev pub SearchMoves : List ℕ → Calls → Probe → List ℕ → CodeWork → Type 0
SearchMoves old c q new work = (a : Actor) (done : List Gate) (g : Gate) (gs : List Gate) → IsAtSearch a.problem old a.seen done g gs c q → IsMovedTo (probes old a g gs q q.last) new work

-- what a goal that builds has in hand, by its world
pub record IsInHand (a : Actor) (w : Work) (words : List ℕ) (b : Building) : Type 0 where
  pub shows : ShowsBuilding a.problem words b w
  pub sound : IsSound words
  pub some : 1 ≤ length words
  pub few : length words ≤ 4000000
  pub within : IsWithin a.seen words
  pub scripted : IsScripted a.problem
  pub doing : IsDoing (length words) 0 words (λ _. Unit {0}) a.problem a.seen w

abbrev pub BuildingMoves : List ℕ → Building → List ℕ → CodeWork → Type 0
BuildingMoves old b new work = (a : Actor) (w : Work) → IsInHand a w old b → IsMovedTo (moved old a w) new work

-- a goal that builds has this in hand by a view of these words; any other has nothing left to build
abbrev pub IsAtWork : List ℕ → CodeWork → Type 0
IsAtWork words (code.Building b) = (a : Actor) × (w : Work) × IsInHand a w words b
IsAtWork words (code.Built c) = Unit {0}
IsAtWork words code.Deep = Unit {0}
IsAtWork words code.Full = Unit {0}

-- the gate is that of a conjunction that isn't simple, with its fanins in the order of their keys
pub record IsProper (g : Gate) : Type 0 where
  pub apart : simplified g.left g.right ≡ None
  pub ordered : key_below g.right g.left ≡ false
