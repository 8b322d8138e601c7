-- What a goal has in hand: its circuit is built call by call, then its cone is walked, then its clauses
-- are searched.
use Rattle.std.specs.Prelude.{ℕ, Bool, true, false, List, [], ◌∷◌, nat_eq, if◌then◌else◌}
use Rattle.gate_shape.specs.Edge.{Edge, Gate, gate_level}
use Rattle.gate_probe.specs.Moves.{Probe, started}
use Rattle.bv_expr.specs.Term.{Term}
use Rattle.bv_expr.specs.Goal.{Binders}
use Rattle.search_learn.specs.declared.Turn.{Turn}
use Rattle.search_learn.specs.declared.Turn.TheVariants as turn
use Rattle.search_learn.specs.Machine.{Machine, machine}
use Rattle.blast_goal.specs.Circuit.{goal_row}
use Rattle.goal_alone.specs.Alone.{Answer, Deep, answer_of}
use Rattle.goal_alone.specs.Formula.{goal_edge, goal_clauses, goal_variables}
use Rattle.gate_world.specs.Literals.{literal_in, fanin_gates, cone_gates}

-- a goal without its name
pub record Problem : Type 0 where
  pub binders : Binders
  pub hyps : List Term
  pub concl : Term

-- the gates of the goal's script, in the order in which they are wanted
abbrev pub script_of : Problem → List Gate
script_of p = (goal_row p.hyps p.concl).gates

abbrev pub edge_of : Problem → Edge
edge_of p = goal_edge p.hyps p.concl

-- the gates of the goal's cone
abbrev pub cone_of : Problem → List Edge
cone_of p = cone_gates (edge_of p)

-- how a goal ends: with its own answer, out of memory, where the table has no room, or cancelled by
-- another goal
pub data End : Type 0 where
  Replied : Answer → End
  OutOfMemory : End
  NoRoom : End
  CancelledBy : ℕ → End

pub data Work : Type 0 where
  -- the fanin whose word is loaded next, those behind it, the gate at hand, and the gates behind it
  Loading : Edge → List Edge → Gate → List Gate → Work
  -- the gate at hand, the gates behind it, and the search for its word
  Probing : Gate → List Gate → Probe → Work
  -- the gate of the cone whose word is loaded next, and those behind it
  Walking : Edge → List Edge → Work
  Searching : Machine → Work
  Ended : End → Work

-- the machine goes on, or its end is the goal's
abbrev pub search_at : Problem → Machine → Turn → Work
search_at p m turn.More = Searching m
search_at p m turn.Sat = Ended (Replied (answer_of p.binders (edge_of p) (goal_clauses p.hyps p.concl) m turn.Sat))
search_at p m turn.Unsat = Ended (Replied (answer_of p.binders (edge_of p) (goal_clauses p.hyps p.concl) m turn.Unsat))
search_at p m (turn.Budget spent) = Ended (Replied (answer_of p.binders (edge_of p) (goal_clauses p.hyps p.concl) m (turn.Budget spent)))

-- the words of these gates are still to be loaded; then the clauses are searched
abbrev pub to_walk : Problem → List Edge → Work
to_walk p [] = Searching (machine (goal_variables p.hyps p.concl) (goal_clauses p.hyps p.concl))
to_walk p (e ∷ es) = Walking e es

-- the gate's fanins were loaded: it is too deep, or the search for its word begins
abbrev pub to_probe : ℕ → List ℕ → Gate → List Gate → Work
to_probe n seen g gs =
    if nat_eq (gate_level g) 262144 then Ended (Replied Deep)
    else Probing g gs (started n (literal_in seen g.left) (literal_in seen g.right) (gate_level g))

-- the words of these fanins are still to be loaded
abbrev pub to_load : ℕ → List ℕ → List Edge → Gate → List Gate → Work
to_load n seen [] g gs = to_probe n seen g gs
to_load n seen (e ∷ es) g gs = Loading e es g gs

-- these gates are still to be built; then the cone is walked
abbrev pub to_build : ℕ → Problem → List ℕ → List Gate → Work
to_build n p seen [] = to_walk p (cone_of p)
to_build n p seen (g ∷ gs) = to_load n seen (fanin_gates g) g gs

-- an unended goal ends, and one that has ended stays
abbrev pub cut_off : End → Work → Work
cut_off end (Loading e es g gs) = Ended end
cut_off end (Probing g gs p) = Ended end
cut_off end (Walking e es) = Ended end
cut_off end (Searching m) = Ended end
cut_off end (Ended old) = Ended old

-- the reply is that the goal is false
abbrev pub answers_false : Answer → Bool
answers_false a = elim a [ Answer.Proved text ↦ false | Answer.False values ↦ true | Answer.Budget spent ↦ false | Answer.Deep ↦ false | Answer.Large ↦ false ]

abbrev pub ends_false : End → Bool
ends_false (Replied a) = answers_false a
ends_false OutOfMemory = false
ends_false NoRoom = false
ends_false (CancelledBy c) = false

abbrev pub is_false : Work → Bool
is_false (Loading e es g gs) = false
is_false (Probing g gs p) = false
is_false (Walking e es) = false
is_false (Searching m) = false
is_false (Ended end) = ends_false end
