-- The nodes that goals have in hand at their ends are as many as the gates that a report counts, and so are the different
-- ones among them.
use Rattle.std.proofs.Common.{◌≡◌, ℕ, zero, suc, ◌+◌, ◌≤◌, le_antisymm, Bool, true, false, if◌then◌else◌, nat_eq, List, [], ◌∷◌, ◌++◌, length, slice_get, slice_index_or, All, Some, refl, sym, ap, ap₂, ◌∙◌, subst, arith, true≢false, length-append}
use Rattle.std.specs.List.{list_any, IsDistinct}
use Rattle.std.proofs.lemmas.Cmp.{nat_eq_equiv}
use Rattle.std.proofs.lemmas.List.{length-map}
use Rattle.std.proofs.lemmas.List.Elements.{All-nil, All-cons}
use Rattle.std.proofs.lemmas.List.Folds.{list_any-append}
use Rattle.std.proofs.lemmas.Map.Steps.{length-le_from_distinct_below}
use Rattle.indexmap.specs.IndexSet.{insert_all}
use Rattle.gate_shape.specs.Literal.{Literal}
use Rattle.gate_shape.specs.Edge.{Edge, same}
use Rattle.gate_shape.proofs.Sameness.{same-eq, same-self}
use Rattle.gate_probe.specs.Sound.{IsSound, IsWithin, IsPart}
use Rattle.gate_probe.proofs.Standing.{stands_more, stands_meant, one_literal}
use Rattle.cone_walk.specs.Order.{listed_edge, firsts}
use Rattle.bv_expr.specs.declared.goal.Goal.{Goal}
use Rattle.gate_world.specs.Literals.{arrivals}
use Rattle.gate_world.specs.Work.{Problem, Work, Loading, Probing, Walking, Searching, Ended, edge_of, cone_of}
use Rattle.gate_world.specs.World.{Event, Actor, World, actor_at, nobody, begun, begun_at, happens, run}
use Rattle.gate_world.specs.Coding.{problem_of}
use Rattle.gate_world.specs.Cone.{StandsAt, AreNodesOf}
use Rattle.gate_world.specs.Counted.{work_searched, cone_counted, cones_counted, gates_in_cones, distinct_gates}
use Rattle.gate_world.specs.Tasks.{ShowsTask, IsTask, nodes_of}
use Rattle.gate_world.specs.Nodes.{all_nodes}
use Rattle.gate_world.specs.Reached.{AreIn, IsWorld, problems_of}
use Rattle.gate_world.specs.declared.task.Task.{Task}
use Rattle.gate_world.specs.declared.task.Task.TheVariants as task
use Rattle.gate_world.proofs.Standing.{number_same, number_self, node_small}
use Rattle.gate_world.proofs.Cones.{same_equiv, listed_is, in_left, in_right, in_either, once_firsts, none_once}
use Rattle.gate_world.proofs.Running.{event_stays}
use Rattle.gate_world.proofs.Matched.{no_fewer, once_inserted, inserted_has, or_cases, or_left, or_right}

-- one node stands for a tree, and one tree has a node
one_node : (words : List ℕ) → IsSound words → (e : Edge) (m n : ℕ) → StandsAt words m e → StandsAt words n e → m ≡ n
one_node words sound e m n p q = ap (λ (l : Literal). l.node) (one_literal words sound e (record { node = m; sign = false }) (record { node = n; sign = false }) p.1 q.1)

one_tree : (words : List ℕ) → IsSound words → (n : ℕ) (d e : Edge) → StandsAt words n d → StandsAt words n e → d ≡ e
one_tree words sound n d e p q =
    let part : IsPart words = (words, sound, λ s z. refl) in
    let l : Literal = record { node = n; sign = false } in
    sym (stands_meant words false [] part l d p.1).stands_for ∙ (stands_meant words false [] part l e q.1).stands_for

stands_at_more : (seen words : List ℕ) → IsWithin seen words → (n : ℕ) (e : Edge) → StandsAt seen n e → StandsAt words n e
stands_at_more seen words w n e p = (p.0, stands_more seen words w e (record { node = n; sign = false }) p.1)

abbrev EachStands : List ℕ → List Edge → List ℕ → Type 0
EachStands words es ns = (n : ℕ) → list_any (nat_eq n) ns ≡ true → (e : Edge) × (listed_edge e es ≡ true) × StandsAt words n e

abbrev AllStand : List ℕ → List Edge → List ℕ → Type 0
AllStand words es ns = (e : Edge) → listed_edge e es ≡ true → (n : ℕ) × (list_any (nat_eq n) ns ≡ true) × StandsAt words n e

put_first : (done xs : List Edge) (x : Edge) (b : Bool) → ((ds : List Edge) → firsts ds xs ≡ insert_all same ds xs) → (if b then firsts done xs else firsts (done ++ x ∷ []) xs) ≡ insert_all same (if b then done else done ++ x ∷ []) xs
put_first done xs x true f = f done
put_first done xs x false f = f (done ++ x ∷ [])

-- the first ones of a list are what a set has into which it was put
firsts_inserted : (done xs : List Edge) → firsts done xs ≡ insert_all same done xs
unfolding firsts
firsts_inserted done [] = refl
firsts_inserted done (x ∷ xs) = ap (λ b. if b then firsts done xs else firsts (done ++ x ∷ []) xs) (listed_is x done) ∙ put_first done xs x (list_any (same x) done) (λ ds. firsts_inserted ds xs)

none_among : {K : Type 0} (eq : K → K → Bool) → IsDistinct eq []
unfolding IsDistinct
none_among eq = tt

-- as many gates as nodes, where neither come twice
module _ (words : List ℕ) (sound : IsSound words) where
  nodes_enough : (es : List Edge) (ns : List ℕ) → IsDistinct same es → ((e : Edge) → list_any (same e) es ≡ true → (n : ℕ) × (list_any (nat_eq n) ns ≡ true) × StandsAt words n e) → length es ≤ length ns
  nodes_enough es ns once all =
      no_fewer same nat_eq (λ e n. StandsAt words n e) ns number_same (λ d e n p q. subst (λ x. same d x ≡ true) (one_tree words sound n d e p q) (same-self d)) same-self nat_eq_equiv es once all

  gates_enough : (es : List Edge) (ns : List ℕ) → IsDistinct nat_eq ns → ((n : ℕ) → list_any (nat_eq n) ns ≡ true → (e : Edge) × (list_any (same e) es ≡ true) × StandsAt words n e) → length ns ≤ length es
  gates_enough es ns once each =
      no_fewer nat_eq same (λ n e. StandsAt words n e) es same-eq (λ m n e p q. subst (λ x. nat_eq m x ≡ true) (one_node words sound e m n p q) (number_self m)) number_self same_equiv ns once each

  pub different_ones : (es : List Edge) (ns : List ℕ) → EachStands words es ns → AllStand words es ns → length (insert_all nat_eq [] ns) ≡ length (firsts [] es)
  different_ones es ns each all =
      let nodes : List ℕ = insert_all nat_eq [] ns in
      let gates : List Edge = insert_all same [] es in
      let low : length nodes ≤ length gates = gates_enough gates nodes (once_inserted nat_eq_equiv [] ns (none_among nat_eq))
      (λ n h. let f = each n (sym (inserted_has nat_eq_equiv [] ns n) ∙ h) in (f.0, inserted_has same_equiv [] es f.0 ∙ sym (listed_is f.0 es) ∙ f.1, f.2)) in
      let high : length gates ≤ length nodes = nodes_enough gates nodes (once_inserted same_equiv [] es (none_among same))
      (λ e h. let f = all e (listed_is e es ∙ sym (inserted_has same_equiv [] es e) ∙ h) in (f.0, inserted_has nat_eq_equiv [] ns f.0 ∙ f.1, f.2)) in
      le_antisymm low high ∙ sym (ap length (firsts_inserted [] es))

-- what a goal has in hand are the nodes of the gates that are counted of it
record IsCounted (words : List ℕ) (a : Actor) (t : Task) : Type 0 where
  pub sound : IsSound words
  pub few : length words ≤ 4000000
  pub within : IsWithin a.seen words
  pub nodes : AreNodesOf a.seen (cone_counted a) (nodes_of t)

no_nodes : (seen : List ℕ) → AreNodesOf seen [] []
no_nodes seen = record { count = refl; each = λ n h. absurd (true≢false (sym h)); all = λ e h. absurd (true≢false (sym h)) }

shown_nodes : (g : Goal) (budget : ℕ) (words seen : List ℕ) (t : Task) (w : Work) → ShowsTask g budget words seen t w → AreNodesOf seen (if work_searched w then cone_of (problem_of g) else []) (nodes_of t)
shown_nodes g budget words seen (task.Building b) (Loading e es h gs) s = no_nodes seen
shown_nodes g budget words seen (task.Building b) (Probing h gs q) s = no_nodes seen
shown_nodes g budget words seen (task.Building b) (Walking e es) s = absurd s
shown_nodes g budget words seen (task.Building b) (Searching m) s = absurd s
shown_nodes g budget words seen (task.Building b) (Ended end) s = absurd s
shown_nodes g budget words seen (task.Walking k) (Loading e es h gs) s = absurd s
shown_nodes g budget words seen (task.Walking k) (Probing h gs q) s = absurd s
shown_nodes g budget words seen (task.Walking k) (Walking e es) s = no_nodes seen
shown_nodes g budget words seen (task.Walking k) (Searching m) s = absurd s
shown_nodes g budget words seen (task.Walking k) (Ended end) s = absurd s
shown_nodes g budget words seen (task.Searching c ns) (Loading e es h gs) s = absurd s.0
shown_nodes g budget words seen (task.Searching c ns) (Probing h gs q) s = absurd s.0
shown_nodes g budget words seen (task.Searching c ns) (Walking e es) s = absurd s.0
shown_nodes g budget words seen (task.Searching c ns) (Searching m) s = no_nodes seen
shown_nodes g budget words seen (task.Searching c ns) (Ended end) s = absurd s.0
shown_nodes g budget words seen (task.Ended o ns) (Loading e es h gs) s = absurd s
shown_nodes g budget words seen (task.Ended o ns) (Probing h gs q) s = absurd s
shown_nodes g budget words seen (task.Ended o ns) (Walking e es) s = absurd s
shown_nodes g budget words seen (task.Ended o ns) (Searching m) s = absurd s
shown_nodes g budget words seen (task.Ended o ns) (Ended end) s = s.2

is_counted : (a : Actor) (words : List ℕ) (budget : ℕ) (g : Goal) (t : Task) → IsTask a words budget g t → IsCounted words a t
is_counted a words budget g t h = record {
  sound = h.sound;
  few = h.few;
  within = h.within;
  nodes = subst (λ (p : Problem). AreNodesOf a.seen (if work_searched a.work then cone_of p else []) (nodes_of t)) (sym h.problem) (shown_nodes g budget words a.seen t a.work h.shows);
}

-- goal by goal
abbrev AreCounted : List ℕ → List Actor → List Task → Type 0
AreCounted words [] [] = Unit {0}
AreCounted words [] (t ∷ ts) = ⊥
AreCounted words (a ∷ more) [] = ⊥
AreCounted words (a ∷ more) (t ∷ ts) = IsCounted words a t × AreCounted words more ts

at_each : (words : List ℕ) (actors : List Actor) (tasks : List Task) → length tasks ≡ length actors → ((g : ℕ) (t : Task) → slice_get tasks g ≡ Some t → IsCounted words (slice_index_or actors g nobody) t) → AreCounted words actors tasks
at_each words [] [] l f = tt
at_each words [] (t ∷ ts) l f = absurd (omega arith)
at_each words (a ∷ more) [] l f = absurd (omega arith)
at_each words (a ∷ more) (t ∷ ts) l f = (f 0 t refl, at_each words more ts (omega arith) (λ g. f (suc g)))

-- as many
counted_length : (words : List ℕ) (actors : List Actor) (tasks : List Task) → AreCounted words actors tasks → length (all_nodes tasks) ≡ length (cones_counted actors)
counted_length words [] [] h = refl
counted_length words [] (t ∷ ts) h = absurd h
counted_length words (a ∷ more) [] h = absurd h
counted_length words (a ∷ more) (t ∷ ts) h =
    length-append (nodes_of t) (all_nodes ts) ∙ ap₂ (λ m n. m + n) h.0.nodes.count (counted_length words more ts h.1) ∙ sym (length-append (cone_counted a) (cones_counted more))

counted_each : (words : List ℕ) (actors : List Actor) (tasks : List Task) → AreCounted words actors tasks → EachStands words (cones_counted actors) (all_nodes tasks)
counted_each words [] [] h n i = absurd (true≢false (sym i))
counted_each words [] (t ∷ ts) h n i = absurd h
counted_each words (a ∷ more) [] h n i = absurd h
counted_each words (a ∷ more) (t ∷ ts) h n i =
    or_cases (list_any (nat_eq n) (nodes_of t)) (list_any (nat_eq n) (all_nodes ts)) (sym (list_any-append (nat_eq n) (nodes_of t) (all_nodes ts)) ∙ i)
    (λ e. let f = h.0.nodes.each n e in (f.0, in_left f.0 (cone_counted a) (cones_counted more) f.1, stands_at_more a.seen words h.0.within n f.0 f.2))
    (λ e. let f = counted_each words more ts h.1 n e in (f.0, in_right f.0 (cone_counted a) (cones_counted more) f.1, f.2))

counted_all : (words : List ℕ) (actors : List Actor) (tasks : List Task) → AreCounted words actors tasks → AllStand words (cones_counted actors) (all_nodes tasks)
counted_all words [] [] h e i = absurd (true≢false (sym i))
counted_all words [] (t ∷ ts) h e i = absurd h
counted_all words (a ∷ more) [] h e i = absurd h
counted_all words (a ∷ more) (t ∷ ts) h e i =
    in_either e (cone_counted a) (cones_counted more) i
    (λ l.
    let f = h.0.nodes.all e l in
    (f.0, list_any-append (nat_eq f.0) (nodes_of t) (all_nodes ts) ∙ or_left (list_any (nat_eq f.0) (nodes_of t)) (list_any (nat_eq f.0) (all_nodes ts)) f.1, stands_at_more a.seen words h.0.within f.0 e f.2))
    (λ l.
    let f = counted_all words more ts h.1 e l in
    (f.0, list_any-append (nat_eq f.0) (nodes_of t) (all_nodes ts) ∙ or_right (list_any (nat_eq f.0) (nodes_of t)) (list_any (nat_eq f.0) (all_nodes ts)) f.1, f.2))

-- and as many different ones
counted_different : (words : List ℕ) (actors : List Actor) (tasks : List Task) → AreCounted words actors tasks → length (insert_all nat_eq [] (all_nodes tasks)) ≡ distinct_gates actors
counted_different words [] [] h = sym (ap length (firsts_inserted [] []))
counted_different words [] (t ∷ ts) h = absurd h
counted_different words (a ∷ more) [] h = absurd h
counted_different words (a ∷ more) (t ∷ ts) h =
    different_ones words h.0.sound (cones_counted (a ∷ more)) (all_nodes (t ∷ ts)) (counted_each words (a ∷ more) (t ∷ ts) h) (counted_all words (a ∷ more) (t ∷ ts) h)

-- they aren't many
cone_once : (a : Actor) → IsDistinct same (cone_counted a)
cone_once a = go (work_searched a.work)
  where
    go : (b : Bool) → IsDistinct same (if b then cone_of a.problem else [])
    go true = once_firsts [] (arrivals (edge_of a.problem)) none_once
    go false = none_once

few_nodes : (words : List ℕ) (a : Actor) (t : Task) → IsCounted words a t → length (nodes_of t) ≤ 4194304
few_nodes words a t h =
    let nodes : List ℕ = insert_all nat_eq [] (nodes_of t) in
    let within : length nodes ≤ 4194304 = length-le_from_distinct_below nodes 4194304 (once_inserted nat_eq_equiv [] (nodes_of t) (none_among nat_eq))
    (λ n i. let f = h.nodes.each n (sym (inserted_has nat_eq_equiv [] (nodes_of t) n) ∙ i) in node_small a.seen words h.within h.few f.0 (record { node = n; sign = false }) f.2.1) in
    let enough : length (cone_counted a) ≤ length nodes = nodes_enough words h.sound (cone_counted a) nodes (cone_once a)
    (λ e i. let f = h.nodes.all e (listed_is e (cone_counted a) ∙ i) in (f.0, inserted_has nat_eq_equiv [] (nodes_of t) f.0 ∙ f.1, stands_at_more a.seen words h.within f.0 e f.2)) in
    let count = h.nodes.count in
    omega arith

few_counted : (words : List ℕ) (actors : List Actor) (tasks : List Task) → AreCounted words actors tasks → All (λ t. length (nodes_of t) ≤ 4194304) tasks
few_counted words [] [] h = All-nil (λ t. length (nodes_of t) ≤ 4194304)
few_counted words [] (t ∷ ts) h = absurd h
few_counted words (a ∷ more) [] h = absurd h
few_counted words (a ∷ more) (t ∷ ts) h = All-cons (λ t. length (nodes_of t) ≤ 4194304) t ts (few_nodes words a t h.0) (few_counted words more ts h.1)

-- what a world shows
run_count : (w : World) (events : List Event) → length (run events w).actors ≡ length w.actors
run_count w [] = refl
run_count w (e ∷ es) = run_count (happens w e) es ∙ (event_stays w e).count

other_there : {A B : Type 0} (xs : List A) (ys : List B) (i : ℕ) (y : B) → length ys ≡ length xs → slice_get ys i ≡ Some y → (x : A) × (slice_get xs i ≡ Some x)
other_there xs [] i y l h = absurd (cc)
other_there [] (z ∷ ys) i y l h = absurd (omega arith)
other_there (x ∷ xs) (z ∷ ys) zero y l h = (x, refl)
other_there (x ∷ xs) (z ∷ ys) (suc i) y l h = other_there xs ys i y (omega arith) h

world_counted : (goals : List Goal) (words : List ℕ) (budget : ℕ) (tasks : List Task) (w : World) → AreIn goals words budget tasks w → AreCounted words w.actors tasks
world_counted goals words budget tasks w h =
    let n : ℕ = length words in
    let problems : List Problem = problems_of goals in
    let count : length w.actors ≡ length goals = ap (λ (v : World). length v.actors) h.reached ∙ run_count (begun problems n budget) h.events ∙ length-map problems (begun_at n) ∙ length-map goals problem_of in
    at_each words w.actors tasks (h.count ∙ sym count)
    (λ g t is. let goal = other_there goals tasks g t h.count is in is_counted (actor_at w g) words budget goal.0 t (h.tasks_are g goal.0 t goal.1 is))

pub counts_right : (goals : List Goal) (words : List ℕ) (budget : ℕ) (tasks : List Task) (w : World) → AreIn goals words budget tasks w
    → (length (all_nodes tasks) ≡ gates_in_cones w.actors) × (length (insert_all nat_eq [] (all_nodes tasks)) ≡ distinct_gates w.actors)
counts_right goals words budget tasks w h =
    let counted = world_counted goals words budget tasks w h in
    (counted_length words w.actors tasks counted, counted_different words w.actors tasks counted)

pub few_shown : (goals : List Goal) (words : List ℕ) (budget : ℕ) (tasks : List Task) → IsWorld goals words budget tasks → All (λ t. length (nodes_of t) ≤ 4194304) tasks
few_shown goals words budget tasks h = few_counted words h.world.actors tasks (world_counted goals words budget tasks h.world h.shown)
