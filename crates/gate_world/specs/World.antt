-- The world: a table of words, and goals that each have a view and work in hand. An event is one load or
-- claim of one goal, one machine step of one goal, or a cancellation; and, in contracts alone, that a
-- goal runs out of memory. What needs no load follows at once behind the step before it.
use Rattle.std.specs.Prelude.{ℕ, zero, suc, true, List, [], ◌∷◌, length, map, replicate, slice_set, slice_index_or, if◌then◌else◌}
use Rattle.gate_shape.specs.Edge.{Edge, Gate}
use Rattle.gate_probe.specs.Words.{word_at}
use Rattle.gate_probe.specs.Views.{learnt}
use Rattle.gate_probe.specs.Moves.{Probe, probe_after}
use Rattle.gate_probe.specs.declared.prober.Move.{Move}
use Rattle.gate_probe.specs.declared.prober.Move.TheVariants.{Load, Claim, Found, Full}
use Rattle.bv_expr.specs.Term.{truth}
use Rattle.search_learn.specs.Machine.{advance}
use Rattle.gate_world.specs.Literals.{place_in}
use Rattle.gate_world.specs.Work.{Problem, Work, Loading, Probing, Walking, Searching, Ended, OutOfMemory, NoRoom, CancelledBy, script_of, search_at, to_walk, to_load, to_build, cut_off, is_false}

-- a goal in the world: the words that it has seen at their places, 0 where it has seen none, and its work
pub record Actor : Type 0 where
  pub problem : Problem
  pub seen : List ℕ
  pub work : Work

pub record World : Type 0 where
  pub words : List ℕ
  pub budget : ℕ
  pub actors : List Actor

pub data Event : Type 0 where
  Step : ℕ → Event
  Turn : ℕ → Event
  Cancel : ℕ → ℕ → Event
  Memory : ℕ → Event

-- stands where no goal has this number
abbrev pub nobody : Actor
nobody = record { problem = record { binders = []; hyps = []; concl = truth true }; seen = []; work = Ended OutOfMemory }

abbrev pub actor_at : World → ℕ → Actor
actor_at w g = slice_index_or w.actors g nobody

abbrev pub with_work : Actor → Work → Actor
with_work a work = record { problem = a.problem; seen = a.seen; work = work }

-- the words and the goal behind a step
pub record Moved : Type 0 where
  pub words : List ℕ
  pub actor : Actor

-- the goal has seen a word, and goes on as what it then has seen says
abbrev pub sees : Actor → ℕ → ℕ → (List ℕ → Work) → Actor
sees a s word next = record { problem = a.problem; seen = learnt a.seen s word; work = next (learnt a.seen s word) }

-- behind a move of the search for a gate's word: the gate is built, or there is no room, or it goes on
abbrev pub search_goes : ℕ → Problem → List ℕ → Gate → List Gate → Probe → Move → Work
search_goes n p seen g gs probe (Load s) = Probing g gs probe
search_goes n p seen g gs probe (Claim s wanted) = Probing g gs probe
search_goes n p seen g gs probe (Found node) = to_build n p seen gs
search_goes n p seen g gs probe Full = Ended NoRoom

-- the search is told the word of its place
abbrev pub told : ℕ → Actor → Gate → List Gate → Probe → ℕ → ℕ → Actor
told n a g gs p s word = sees a s word (λ seen. search_goes n a.problem seen g gs (probe_after p word) (probe_after p word).last)

-- a claim of a place: the wanted word is written where none is there, and else the word found stays
abbrev pub claims : List ℕ → Actor → Gate → List Gate → Probe → ℕ → ℕ → ℕ → Moved
claims words a g gs p s wanted zero = record { words = slice_set words s wanted; actor = told (length words) a g gs p s wanted }
claims words a g gs p s wanted (suc found) = record { words = words; actor = told (length words) a g gs p s (suc found) }

abbrev pub idle : List ℕ → Actor → Moved
idle words a = record { words = words; actor = a }

-- one load or claim of a search
abbrev pub probes : List ℕ → Actor → Gate → List Gate → Probe → Move → Moved
probes words a g gs p (Load s) = record { words = words; actor = told (length words) a g gs p s (word_at words s) }
probes words a g gs p (Claim s wanted) = claims words a g gs p s wanted (word_at words s)
probes words a g gs p (Found node) = idle words a
probes words a g gs p Full = idle words a

-- a load of the word of a gate that the goal has built
abbrev pub loads : List ℕ → Actor → Edge → (List ℕ → Work) → Moved
loads words a e next = record { words = words; actor = sees a (place_in a.seen e) (word_at words (place_in a.seen e)) next }

-- one load or claim
abbrev pub moved : List ℕ → Actor → Work → Moved
moved words a (Loading e es g gs) = loads words a e (λ seen. to_load (length words) seen es g gs)
moved words a (Probing g gs p) = probes words a g gs p p.last
moved words a (Walking e es) = loads words a e (λ seen. to_walk a.problem es)
moved words a (Searching m) = idle words a
moved words a (Ended end) = idle words a

-- one machine step
abbrev pub turned : ℕ → Problem → Work → Work
turned budget p (Loading e es g gs) = Loading e es g gs
turned budget p (Probing g gs probe) = Probing g gs probe
turned budget p (Walking e es) = Walking e es
turned budget p (Searching m) = search_at p (advance budget m) (advance budget m).state.end
turned budget p (Ended end) = Ended end

abbrev pub put : World → ℕ → List ℕ → Actor → World
put w g words a = record { words = words; budget = w.budget; actors = slice_set w.actors g a }

abbrev pub put_moved : World → ℕ → Moved → World
put_moved w g m = put w g m.words m.actor

abbrev pub put_work : World → ℕ → Work → World
put_work w g work = put w g w.words (with_work (actor_at w g) work)

-- An event that doesn't fit what the goal has in hand changes nothing. A cancellation fits an unended goal
-- where the goal that it names as its cause is replied false.
abbrev pub happens : World → Event → World
happens w (Step g) = put_moved w g (moved w.words (actor_at w g) (actor_at w g).work)
happens w (Turn g) = put_work w g (turned w.budget (actor_at w g).problem (actor_at w g).work)
happens w (Cancel g cause) = if is_false (actor_at w cause).work then put_work w g (cut_off (CancelledBy cause) (actor_at w g).work) else w
happens w (Memory g) = put_work w g (cut_off OutOfMemory (actor_at w g).work)

-- a list of events, from the first on
abbrev pub run : List Event → World → World
run [] w = w
run (e ∷ es) w = run es (happens w e)

abbrev pub begun_at : ℕ → Problem → Actor
begun_at n p = record { problem = p; seen = []; work = to_build n p [] (script_of p) }

-- all words empty, and each goal at the first load of its script
abbrev pub begun : List Problem → ℕ → ℕ → World
begun problems n budget = record { words = replicate n 0; budget = budget; actors = map (begun_at n) problems }
