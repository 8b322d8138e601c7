-- A goal that walks its cone goes on to do so, and the nodes of gates stay theirs, where more is seen.
use Rattle.std.proofs.Common.{ℕ, false, List}
use Rattle.gate_shape.specs.Edge.{Edge}
use Rattle.gate_probe.specs.Sound.{IsWithin}
use Rattle.gate_probe.proofs.Keeping.{within_more}
use Rattle.gate_probe.proofs.Standing.{stands_more}
use Rattle.gate_world.specs.Work.{Problem, Work, Loading, Probing, Walking, Searching, Ended}
use Rattle.gate_world.specs.Cone.{StandsAt, AreNodesOf, ShowsWalk, ShowsWalked}
use Rattle.gate_world.specs.declared.walk.Walking.{Walking as CodeWalking}
use Rattle.gate_world.specs.declared.walk.Walked.{Walked}
use Rattle.gate_world.specs.declared.walk.Walked.TheVariants as walked

pub at_more : (seen more : List ℕ) (n : ℕ) (e : Edge) → StandsAt seen n e → IsWithin seen more → StandsAt more n e
at_more seen more n e h w = (h.0, stands_more seen more w e (record { node = n; sign = false }) h.1)

pub nodes_of_more : (seen more : List ℕ) (es : List Edge) (nodes : List ℕ) → AreNodesOf seen es nodes → IsWithin seen more → AreNodesOf more es nodes
nodes_of_more seen more es nodes h w = record {
  count = h.count;
  each = λ n l. let k = h.each n l in (k.0, k.1, at_more seen more n k.0 k.2 w);
  all = λ e l. let k = h.all e l in (k.0, k.1, at_more seen more k.0 e k.2 w);
}

pub walk_more : (p : Problem) (seen more : List ℕ) (k : CodeWalking) (w : Work) → ShowsWalk p seen k w → IsWithin seen more → ShowsWalk p more k w
walk_more p seen more k (Loading e es g gs) h w = h
walk_more p seen more k (Probing g gs q) h w = h
walk_more p seen more k (Walking e es) h w = (h.0, within_more h.0 seen more h.1 w, h.2)
walk_more p seen more k (Searching m) h w = h
walk_more p seen more k (Ended end) h w = h

pub walked_more : (p : Problem) (seen more : List ℕ) (walked : Walked) (w : Work) → ShowsWalked p seen walked w → IsWithin seen more → ShowsWalked p more walked w
walked_more p seen more (walked.Asks k) w h in' = walk_more p seen more k w h in'
walked_more p seen more (walked.Whole cone nodes) w h in' = (h.0, h.1, nodes_of_more seen more _ nodes.items h.2 in')
