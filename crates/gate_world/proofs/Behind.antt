-- What follows behind a load or claim of a goal, and behind a machine step of it.
use Rattle.std.proofs.Common.{◌≡◌, ℕ, zero, suc, ◌≤◌, Bool, true, false, List, [], ◌∷◌, ◌++◌, length, replicate, set, refl, sym, ap, ap₂, ◌∙◌, subst, arith, true≢false, nat_eq, if◌then◌else◌, All}
use Rattle.std.specs.declared.alloc.Global.{Global}
use Rattle.std.specs.declared.vec.Vec.{Vec}
use Rattle.std.proofs.lemmas.List.{append-nil, length-replicate, set-set, set-get_or}
use Rattle.std.proofs.lemmas.List.Elements.{All-nil}
use Rattle.gate_shape.specs.Edge.{Edge, Gate, gate_level}
use Rattle.gate_shape.specs.Builds.{NotDeep}
use Rattle.gate_probe.specs.Words.{word_at}
use Rattle.gate_probe.specs.Sound.{IsSound, IsWithin}
use Rattle.gate_probe.specs.Views.{learnt}
use Rattle.gate_probe.specs.Moves.{Probe, started, probe_after, place_of, IsEnd}
use Rattle.gate_probe.specs.declared.prober.Move.{Move}
use Rattle.gate_probe.specs.declared.prober.Move.TheVariants.{Load, Claim, Found, Full}
use Rattle.search_learn.specs.declared.Turn.{Turn}
use Rattle.search_learn.specs.declared.Turn.TheVariants as turn
use Rattle.search_learn.specs.Machine.{Machine, advance}
use Rattle.cone_walk.specs.declared.Cone.{Cone}
use Rattle.tseitin.specs.Clauses.{AreConeOf}
use Rattle.bv_expr.specs.declared.goal.Goal.{Goal}
use Rattle.goal_reply.specs.declared.reply.Reply.{Reply}
use Rattle.goal_reply.specs.declared.reply.Outcome.{Outcome}
use Rattle.goal_reply.specs.declared.reply.Outcome.TheVariants as outcome
use Rattle.goal_alone.specs.Alone.{Answer, Deep}
use Rattle.gate_world.specs.Literals.{literal_in, place_in, fanin_gates}
use Rattle.gate_world.specs.Work.{Problem, Work, Loading, Probing, Walking, Searching, Ended, Replied, script_of, edge_of, cone_of, search_at, to_walk, to_probe, to_load, to_build}
use Rattle.gate_world.specs.World.{Actor, Moved, with_work, search_goes, told, claims, probes, moved, turned, idle, begun_at}
use Rattle.gate_world.specs.Right.{IsScripted}
use Rattle.gate_world.specs.Doing.{AreBuilt, IsBuilding, IsDoing}
use Rattle.gate_world.specs.Counted.{is_searched, work_searched}
use Rattle.gate_world.specs.Drawn.{has_ended}
use Rattle.gate_world.specs.Coding.{problem_of, IsCalls, IsAtSearch, IsInHand, IsMovedTo, BuildingMoves, ShowsBuilding, ShowsWork}
use Rattle.gate_world.specs.Cone.{AreNodesOf, IsAtWalk, ShowsWalk, ShowsWalked, WalkMoves}
use Rattle.gate_world.specs.Solving.{IsBacked, IsSearchOf, IfEnded, ShowsSearch, ShowsSolved}
use Rattle.gate_world.specs.Tasks.{IsTask, IsHeld, ShowsEnd, ShowsTask, ShowsBuilt, FollowsWalk, FollowsBuild, MayWalk, TaskMoves, TaskTurns, claimed_by, claim_of}
use Rattle.gate_world.specs.declared.build.Calls.{Calls}
use Rattle.gate_world.specs.declared.build.Stage.{Stage}
use Rattle.gate_world.specs.declared.build.Stage.TheVariants as stage
use Rattle.gate_world.specs.declared.build.Building.{Building}
use Rattle.gate_world.specs.declared.build.Work.{Work as CodeWork}
use Rattle.gate_world.specs.declared.build.Work.TheVariants as code
use Rattle.gate_world.specs.declared.walk.Walking.{Walking as CodeWalking}
use Rattle.gate_world.specs.declared.walk.Walked.{Walked}
use Rattle.gate_world.specs.declared.walk.Walked.TheVariants as walked
use Rattle.gate_world.specs.declared.solve.Solving.{Solving}
use Rattle.gate_world.specs.declared.solve.Solved.{Solved}
use Rattle.gate_world.specs.declared.solve.Solved.TheVariants as solved
use Rattle.gate_world.specs.declared.task.Task.{Task}
use Rattle.gate_world.specs.declared.task.Task.TheVariants as task
use Rattle.gate_world.proofs.Doing.{build_doing}
use Rattle.gate_world.proofs.Keeping.{IsActor, Moves, moves, turns}
use Rattle.gate_world.proofs.Running.{moved_problem}
use Rattle.gate_world.proofs.InHand.{probe_in_hand}
use Rattle.gate_world.proofs.Told.{found_on_way, load_at, claim_at, claimed_search}

abbrev anyone : ℕ → Type 0
anyone c = Unit {0}

-- ---- whatever the goal has in hand

held_task : (a : Actor) (words : List ℕ) (budget : ℕ) (g : Goal) (t : Task) → IsHeld a words budget g → ShowsTask g budget words a.seen t a.work → IsTask a words budget g t
held_task a words budget g t h s = record { problem = h.problem; shows = s; sound = h.sound; some = h.some; few = h.few; within = h.within; scripted = h.scripted; doing = h.doing }

held_by : (a : Actor) (words : List ℕ) (budget : ℕ) (g : Goal) (t : Task) → IsTask a words budget g t → IsHeld a words budget g
held_by a words budget g t h = record { problem = h.problem; sound = h.sound; some = h.some; few = h.few; within = h.within; scripted = h.scripted; doing = h.doing }

moved_held : (a : Actor) (old : List ℕ) (budget : ℕ) (g : Goal) → IsHeld a old budget g → IsHeld (moved old a a.work).actor (moved old a a.work).words budget g
moved_held a old budget g h =
    let m : Moved = moved old a a.work in
    let actor : IsActor (length old) budget old anyone a = record { within = h.within; scripted = h.scripted; doing = h.doing } in
    let k : Moves (length old) budget old anyone a m = moves (length old) budget anyone h.some h.few old a a.work refl h.sound actor refl h.doing in
    let size = k.size in
    let some = h.some in
    let few = h.few in
    record {
      problem = moved_problem old a a.work ∙ h.problem;
      sound = k.sound;
      some = subst (λ x. 1 ≤ x) (sym size) some;
      few = subst (λ x. x ≤ 4000000) (sym size) few;
      within = k.actor.within;
      scripted = k.actor.scripted;
      doing = subst (λ x. IsDoing x budget m.words anyone m.actor.problem m.actor.seen m.actor.work) (sym size) k.actor.doing;
    }

-- a goal that builds doesn't do so by its budget
doing_low : (n budget : ℕ) (words : List ℕ) (p q : Problem) (seen : List ℕ) (b : Building) (w : Work) → ShowsBuilding q words b w → IsDoing n budget words anyone p seen w → IsDoing n 0 words anyone p seen w
doing_low n budget words p q seen b (Loading e es g gs) s d = d
doing_low n budget words p q seen b (Probing g gs r) s d = d
doing_low n budget words p q seen b (Walking e es) s d = absurd s
doing_low n budget words p q seen b (Searching m) s d = absurd s
doing_low n budget words p q seen b (Ended end) s d = absurd s

pub in_hand : (a : Actor) (words : List ℕ) (budget : ℕ) (g : Goal) (b : Building) → IsTask a words budget g (task.Building b) → IsInHand a a.work words b
in_hand a words budget g b h = record {
  shows = subst (λ (p : Problem). ShowsBuilding p words b a.work) (sym h.problem) h.shows;
  sound = h.sound;
  some = h.some;
  few = h.few;
  within = h.within;
  scripted = h.scripted;
  doing = doing_low (length words) budget words a.problem (problem_of g) a.seen b a.work h.shows h.doing;
}

-- ---- a goal whose circuit is built has seen its gates

abbrev walks : Work → Bool
walks (Loading e es g gs) = false
walks (Probing g gs q) = false
walks (Walking e es) = true
walks (Searching m) = true
walks (Ended end) = false

walk_walks : (p : Problem) (es : List Edge) → walks (to_walk p es) ≡ true
walk_walks p [] = refl
walk_walks p (e ∷ es) = refl

probe_builds : (n : ℕ) (seen : List ℕ) (g : Gate) (gs : List Gate) → walks (to_probe n seen g gs) ≡ false
probe_builds n seen g gs = go (nat_eq (gate_level g) 262144)
  where
    go : (t : Bool) → walks (if t then Ended (Replied Deep) else Probing g gs (started n (literal_in seen g.left) (literal_in seen g.right) (gate_level g))) ≡ false
    go true = refl
    go false = refl

load_builds : (n : ℕ) (seen : List ℕ) (es : List Edge) (g : Gate) (gs : List Gate) → walks (to_load n seen es g gs) ≡ false
load_builds n seen [] g gs = probe_builds n seen g gs
load_builds n seen (e ∷ es) g gs = refl

build_walks : (n : ℕ) (p : Problem) (seen : List ℕ) (gs : List Gate) → walks (to_build n p seen gs) ≡ true → gs ≡ []
build_walks n p seen [] h = refl
build_walks n p seen (g ∷ gs) h = absurd (true≢false (sym h ∙ load_builds n seen (fanin_gates g) g gs))

search_walks : (n : ℕ) (p : Problem) (seen : List ℕ) (g : Gate) (gs : List Gate) (q : Probe) (m : Move) → walks (search_goes n p seen g gs q m) ≡ true → (node : ℕ) × (m ≡ Found node) × (gs ≡ [])
search_walks n p seen g gs q (Load s) h = absurd (true≢false (sym h))
search_walks n p seen g gs q (Claim s wanted) h = absurd (true≢false (sym h))
search_walks n p seen g gs q (Found node) h = (node, refl, build_walks n p seen gs h)
search_walks n p seen g gs q Full h = absurd (true≢false (sym h))

whole_built : (p : Problem) (seen : List ℕ) (done : List Gate) → IsBuilding p seen done [] → IsBuilding p seen (script_of p) []
whole_built p seen done b = let e : script_of p ≡ done = b.cut ∙ append-nil done in subst (λ gs. IsBuilding p seen gs []) (sym e) b

whole_calls : (p : Problem) (words : List ℕ) (done : List Gate) (c : Calls) → IsCalls p words done [] c → IsCalls p words (script_of p) [] c
whole_calls p words done c h = let e : script_of p ≡ done = h.cut ∙ append-nil done in subst (λ gs. IsCalls p words gs [] c) (sym e) h

-- a search that was told a word, and found the last gate by it
module _ (a : Actor) (words : List ℕ) (done : List Gate) (g : Gate) (gs : List Gate) (c : Calls) (q : Probe) where
  abbrev IsOfBuilt : Actor → Type 0
  IsOfBuilt b = walks b.work ≡ true → IsBuilding a.problem b.seen (script_of a.problem) []

  built_here : IsAtSearch a.problem words a.seen done g gs c q → (n word : ℕ) → word ≡ word_at words (place_of q) → IsOfBuilt (told n a g gs q (place_of q) word)
  built_here h n word is e =
      let now : List ℕ = learnt a.seen (place_of q) word in
      let f = search_walks n a.problem now g gs (probe_after q word) (probe_after q word).last e in
      let b : IsBuilding a.problem now (done ++ g ∷ []) gs = found_on_way a.problem words a.seen done g gs c q h word is f.0 f.1 in
      whole_built a.problem now (done ++ g ∷ []) (subst (λ k. IsBuilding a.problem now (done ++ g ∷ []) k) f.2 b)

  told_built : IsAtSearch a.problem words a.seen done g gs c q → (n s word : ℕ) → s ≡ place_of q → word ≡ word_at words (place_of q) → IsOfBuilt (told n a g gs q s word)
  told_built h n s word at is = subst (λ t. IsOfBuilt (told n a g gs q t word)) (sym at) (built_here h n word is)

claims_built : (a : Actor) (words : List ℕ) (done : List Gate) (g : Gate) (gs : List Gate) (c : Calls) (q : Probe) → IsAtSearch a.problem words a.seen done g gs c q → (s wanted found : ℕ) → q.last ≡ Claim s wanted → word_at words s ≡ found
    → walks (claims words a g gs q s wanted found).actor.work ≡ true → IsBuilding a.problem (claims words a g gs q s wanted found).actor.seen (script_of a.problem) []
claims_built a words done g gs c q h s wanted zero last is =
    let k = claimed_search a.problem words a.seen done g gs c q h s wanted last is in
    told_built a (set words s wanted) done g gs c q k.0 (length words) s wanted (claim_at a.problem words a.seen done g gs c q h s wanted last).0 k.1
claims_built a words done g gs c q h s wanted (suc found) last is =
    let at = (claim_at a.problem words a.seen done g gs c q h s wanted last).0 in
    told_built a words done g gs c q h (length words) s (suc found) at (sym is ∙ ap (word_at words) at)

probes_built : (a : Actor) (words : List ℕ) (done : List Gate) (g : Gate) (gs : List Gate) (c : Calls) (q : Probe) → IsAtSearch a.problem words a.seen done g gs c q → (m : Move) → q.last ≡ m
    → walks (probes words a g gs q m).actor.work ≡ true → IsBuilding a.problem (probes words a g gs q m).actor.seen (script_of a.problem) []
probes_built a words done g gs c q h (Load s) last =
    let at = load_at a.problem words a.seen done g gs c q h s last in
    told_built a words done g gs c q h (length words) s (word_at words s) at (ap (word_at words) at)
probes_built a words done g gs c q h (Claim s wanted) last = claims_built a words done g gs c q h s wanted (word_at words s) last refl
probes_built a words done g gs c q h (Found node) last = λ e. absurd (h.ongoing (subst IsEnd (sym last) tt))
probes_built a words done g gs c q h Full last = λ e. absurd (h.ongoing (subst IsEnd (sym last) tt))

at_probe : (b : Building) (q : Probe) → b.stage ≡ stage.Probe q → b ≡ record { calls = b.calls; stage = stage.Probe q }
at_probe b q e = λ i. record { calls = b.calls; stage = e i }

hand_built : (a : Actor) (w : Work) (words : List ℕ) (b : Building) → IsInHand a w words b → walks (moved words a w).actor.work ≡ true → IsBuilding a.problem (moved words a w).actor.seen (script_of a.problem) []
hand_built a (Loading e es g gs) words b h over = absurd (true≢false (sym over ∙ load_builds (length words) (learnt a.seen (place_in a.seen e) (word_at words (place_in a.seen e))) es g gs))
hand_built a (Probing g gs q) words b h over =
    let s = h.shows in
    let k = probe_in_hand a (Probing g gs q) words b.calls q (subst (λ (x : Building). IsInHand a (Probing g gs q) words x) (at_probe b q s.2) h) in
    subst (λ (v : Work). walks (moved words a v).actor.work ≡ true → IsBuilding a.problem (moved words a v).actor.seen (script_of a.problem) []) (sym k.is) (probes_built a words k.done k.gate k.ahead b.calls q k.search q.last refl) over
hand_built a (Walking e es) words b h over = absurd h.shows
hand_built a (Searching m) words b h over = absurd h.shows
hand_built a (Ended end) words b h over = absurd h.shows

shows_built : (p : Problem) (words seen : List ℕ) (work : CodeWork) (w : Work) → IsSound words → length words ≤ 4000000 → IsWithin seen words → (walks w ≡ true → IsBuilding p seen (script_of p) []) → ShowsWork p words work w → ShowsBuilt p words seen work w
shows_built p words seen (code.Building b) w sound few within f s = s
shows_built p words seen (code.Built c) w sound few within f s = (s.0, record { sound = sound; few = few; within = within; built = f (ap walks s.0 ∙ walk_walks p (cone_of p)); done = whole_calls p words s.1 c s.2 })
shows_built p words seen code.Deep w sound few within f s = s
shows_built p words seen code.Full w sound few within f s = s

may_walk : (p : Problem) (words seen : List ℕ) (work : CodeWork) (w : Work) → ShowsBuilt p words seen work w → MayWalk work
may_walk p words seen (code.Building b) w s = tt
may_walk p words seen (code.Built c) w s = (p, words, seen, s.1)
may_walk p words seen code.Deep w s = tt
may_walk p words seen code.Full w s = tt

-- ---- at the first call

first_built : (p : Problem) (n : ℕ) → walks (to_build n p [] (script_of p)) ≡ true → IsBuilding p [] (script_of p) []
first_built p n h =
    let none : script_of p ≡ [] = build_walks n p [] (script_of p) h in
    record { cut = sym (append-nil (script_of p)); built = subst (AreBuilt []) (sym none) tt; shallow = subst (λ gs. All NotDeep gs) (sym none) (All-nil NotDeep) }

begun_held : (g : Goal) (n : ℕ) (words : List ℕ) (budget : ℕ) → length words ≡ n → 1 ≤ n → n ≤ 4000000 → IsSound words → IsScripted (problem_of g) → IsHeld (begun_at n (problem_of g)) words budget g
begun_held g n words budget size some few sound scripted =
    let p : Problem = problem_of g in
    let doing : IsDoing n budget words anyone p [] (to_build n p [] (script_of p)) = build_doing n budget words anyone p [] sound (λ s z. absurd (z refl)) size some few scripted [] (script_of p) (record { cut = refl; built = tt; shallow = All-nil NotDeep }) in
    record {
      problem = refl;
      sound = sound;
      some = omega arith;
      few = omega arith;
      within = λ s z. absurd (z refl);
      scripted = scripted;
      doing = subst (λ k. IsDoing k budget words anyone p [] (to_build n p [] (script_of p))) (sym size) doing;
    }

begun_shows : (p : Problem) (n : ℕ) (words : List ℕ) (work : CodeWork) → length words ≡ n → n ≤ 4000000 → IsSound words → ShowsWork p words work (begun_at n p).work → ShowsBuilt p words [] work (begun_at n p).work
begun_shows p n words work size few sound s = shows_built p words [] work (begun_at n p).work sound (omega arith) (λ s z. absurd (z refl)) (first_built p n) s

no_word : (n s : ℕ) → word_at (replicate n 0) s ≡ 0
no_word zero s = refl
no_word (suc n) zero = refl
no_word (suc n) (suc s) = no_word n s

-- what a goal begins with, over any empty words
abbrev pub Begins : Problem → ℕ → CodeWork → Type 0
Begins p n work = (words : List ℕ) → length words ≡ n → IsSound words → ShowsWork p words work (begun_at n p).work

pub begun_walks : (p : Problem) (n : ℕ) (work : CodeWork) → n ≤ 4000000 → Begins p n work → MayWalk work
begun_walks p n work few f =
    let words : List ℕ = replicate n 0 in
    let size : length words ≡ n = length-replicate n 0 in
    let sound : IsSound words = (λ s h. absurd (h (no_word n s))) in
    may_walk p words [] work (begun_at n p).work (begun_shows p n words work size few sound (f words size sound))

pub begun_follows : (g : Goal) (n budget : ℕ) (work : CodeWork) (t : Task) → 1 ≤ n → n ≤ 4000000 → IsScripted (problem_of g) → Begins (problem_of g) n work → FollowsBuild budget work t → (words : List ℕ) → length words ≡ n → IsSound words → IsTask (begun_at n (problem_of g)) words budget g t
begun_follows g n budget work t some few scripted f k words size sound = k g (begun_at n (problem_of g)) words (begun_held g n words budget size some few sound scripted) (begun_shows (problem_of g) n words work size few sound (f words size sound))

-- ---- behind a load or claim of a goal that builds

pub record IsBehind (old new : List ℕ) (budget : ℕ) (g : Goal) (a : Actor) (work : CodeWork) : Type 0 where
  pub words : new ≡ (moved old a a.work).words
  pub held : IsHeld (moved old a a.work).actor new budget g
  pub shows : ShowsBuilt (problem_of g) new (moved old a a.work).actor.seen work (moved old a a.work).actor.work
  pub may_walk : MayWalk work

pub build_moved : (old new : List ℕ) (budget : ℕ) (g : Goal) (b : Building) (work : CodeWork) (a : Actor) → BuildingMoves old b new work → IsTask a old budget g (task.Building b) → IsBehind old new budget g a work
build_moved old new budget g b work a f h =
    let m : Moved = moved old a a.work in
    let hand : IsInHand a a.work old b = in_hand a old budget g b h in
    let l : IsMovedTo m new work = f a a.work hand in
    let held : IsHeld m.actor new budget g = subst (λ ws. IsHeld m.actor ws budget g) (sym l.0) (moved_held a old budget g (held_by a old budget g (task.Building b) h)) in
    let here : ShowsWork m.actor.problem new work m.actor.work = subst (λ ws. ShowsWork m.actor.problem ws work m.actor.work) (sym l.0) l.1 in
    let shows : ShowsWork (problem_of g) new work m.actor.work = subst (λ (p : Problem). ShowsWork p new work m.actor.work) held.problem here in
    let seen : walks m.actor.work ≡ true → IsBuilding (problem_of g) m.actor.seen (script_of (problem_of g)) [] = (λ e. subst (λ (p : Problem). IsBuilding p m.actor.seen (script_of p) []) h.problem (hand_built a a.work old b hand e)) in
    let built : ShowsBuilt (problem_of g) new m.actor.seen work m.actor.work = shows_built (problem_of g) new m.actor.seen work m.actor.work held.sound held.few held.within seen shows in
    record { words = l.0; held = held; shows = built; may_walk = may_walk (problem_of g) new m.actor.seen work m.actor.work built }

pub build_follows : (old new : List ℕ) (budget : ℕ) (g : Goal) (b : Building) (work : CodeWork) (t : Task) → BuildingMoves old b new work → FollowsBuild budget work t → TaskMoves old budget g (task.Building b) new t
build_follows old new budget g b work t f k a h =
    let n = build_moved old new budget g b work a f h in
    (n.words, k g (moved old a a.work).actor new n.held n.shows)

-- ---- a claim is taken back

claims_back : (words : List ℕ) (a : Actor) (g : Gate) (gs : List Gate) (q : Probe) (s wanted found : ℕ) → set (claims words a g gs q s wanted found).words s (word_at words s) ≡ words
claims_back words a g gs q s wanted zero = set-set words s wanted (word_at words s) ∙ set-get_or words s 0
claims_back words a g gs q s wanted (suc found) = set-get_or words s 0

probes_back : (words : List ℕ) (a : Actor) (g : Gate) (gs : List Gate) (q : Probe) (m : Move) → set (probes words a g gs q m).words (claimed_by m) (word_at words (claimed_by m)) ≡ words
probes_back words a g gs q (Load s) = set-get_or words 0 0
probes_back words a g gs q (Claim s wanted) = claims_back words a g gs q s wanted (word_at words s)
probes_back words a g gs q (Found node) = set-get_or words 0 0
probes_back words a g gs q Full = set-get_or words 0 0

-- the word that was there before is put back
moved_back : (a : Actor) (w : Work) (words : List ℕ) (b : Building) → ShowsBuilding a.problem words b w → set (moved words a w).words (claim_of b.stage) (word_at words (claim_of b.stage)) ≡ words
moved_back a (Loading e es g gs) words b s = set-get_or words (claim_of b.stage) 0
moved_back a (Probing g gs q) words b s = subst (λ (x : Stage). set (probes words a g gs q q.last).words (claim_of x) (word_at words (claim_of x)) ≡ words) (sym s.2) (probes_back words a g gs q q.last)
moved_back a (Walking e es) words b s = absurd s
moved_back a (Searching m) words b s = absurd s
moved_back a (Ended end) words b s = absurd s

pub taken_back : (old new : List ℕ) (b : Building) (work : CodeWork) (a : Actor) (w : Work) (place word : ℕ) → BuildingMoves old b new work → IsInHand a w old b → place ≡ claim_of b.stage → word ≡ word_at old place → set new place word ≡ old
taken_back old new b work a w place word f h at is =
    let l = f a w h in
    ap (set new place) is ∙ (ap (λ k. set new k (word_at old k)) at ∙ (ap (λ ws. set ws (claim_of b.stage) (word_at old (claim_of b.stage))) l.0 ∙ moved_back a w old b h.shows))

-- ---- behind a load of a goal that walks

at_walk : (a : Actor) (words : List ℕ) (budget : ℕ) (g : Goal) (k : CodeWalking) → IsTask a words budget g (task.Walking k) → IsAtWalk a a.work words k
at_walk a words budget g k h = record { shows = subst (λ (p : Problem). ShowsWalk p a.seen k a.work) (sym h.problem) h.shows; sound = h.sound; few = h.few; within = h.within }

walk_words : (p : Problem) (seen words : List ℕ) (a : Actor) (k : CodeWalking) (w : Work) → ShowsWalk p seen k w → words ≡ (moved words a w).words
walk_words p seen words a k (Loading e es g gs) s = absurd s
walk_words p seen words a k (Probing g gs q) s = absurd s
walk_words p seen words a k (Walking e es) s = refl
walk_words p seen words a k (Searching m) s = absurd s
walk_words p seen words a k (Ended end) s = absurd s

pub walk_follows : (words : List ℕ) (budget : ℕ) (g : Goal) (k : CodeWalking) (walk : Walked) (t : Task) → WalkMoves words k walk → FollowsWalk budget walk t → TaskMoves words budget g (task.Walking k) words t
walk_follows words budget g k walk t f follows a h =
    let m : Moved = moved words a a.work in
    let same : words ≡ m.words = walk_words (problem_of g) a.seen words a k a.work h.shows in
    let held : IsHeld m.actor words budget g = subst (λ ws. IsHeld m.actor ws budget g) (sym same) (moved_held a words budget g (held_by a words budget g (task.Walking k) h)) in
    let shows : ShowsWalked (problem_of g) m.actor.seen walk m.actor.work = subst (λ (p : Problem). ShowsWalked p m.actor.seen walk m.actor.work) h.problem (f a a.work (at_walk a words budget g k h)) in
    (same, follows g m.actor words held shows)

-- the cone is walked: its clauses are searched
pub whole_follows : (budget : ℕ) (walk : Walked) (cone : Cone) (nodes : Vec ℕ Global) (s : Solving) → walk ≡ walked.Whole cone nodes → ((p : Problem) → AreConeOf (edge_of p) cone.nodes.items cone.root → ShowsSearch p budget s (to_walk p [])) → FollowsWalk budget walk (task.Searching s nodes)
whole_follows budget walk cone nodes s e f g a words h shows =
    let k : ShowsWalked (problem_of g) a.seen (walked.Whole cone nodes) a.work = subst (λ (x : Walked). ShowsWalked (problem_of g) a.seen x a.work) e shows in
    let search : ShowsSearch (problem_of g) budget s a.work = subst (λ (w : Work). ShowsSearch (problem_of g) budget s w) (sym k.0) (f (problem_of g) k.1) in
    held_task a words budget g (task.Searching s nodes) h (search, k.2)

-- ---- where nothing is loaded

search_idle : (words : List ℕ) (a : Actor) (p : Problem) (budget : ℕ) (s : Solving) (w : Work) → ShowsSearch p budget s w → moved words a w ≡ idle words a
search_idle words a p budget s (Loading e es g gs) h = absurd h
search_idle words a p budget s (Probing g gs q) h = absurd h
search_idle words a p budget s (Walking e es) h = absurd h
search_idle words a p budget s (Searching m) h = refl
search_idle words a p budget s (Ended end) h = absurd h

end_idle : (words : List ℕ) (a : Actor) (w : Work) → has_ended w ≡ true → moved words a w ≡ idle words a
end_idle words a (Loading e es g gs) h = absurd (true≢false (sym h))
end_idle words a (Probing g gs q) h = absurd (true≢false (sym h))
end_idle words a (Walking e es) h = absurd (true≢false (sym h))
end_idle words a (Searching m) h = absurd (true≢false (sym h))
end_idle words a (Ended end) h = refl

shown_end : (g : Goal) (seen : List ℕ) (o : Outcome) (nodes : List ℕ) (w : Work) → ShowsEnd g seen o nodes w → has_ended w ≡ true
shown_end g seen o nodes (Loading e es h gs) s = absurd s
shown_end g seen o nodes (Probing h gs q) s = absurd s
shown_end g seen o nodes (Walking e es) s = absurd s
shown_end g seen o nodes (Searching m) s = absurd s
shown_end g seen o nodes (Ended end) s = refl

-- the goal searches or has ended
abbrev pub Idles : Task → Type 0
Idles (task.Building b) = ⊥
Idles (task.Walking k) = ⊥
Idles (task.Searching s nodes) = Unit {0}
Idles (task.Ended o nodes) = Unit {0}

pub idles_unless : (t : Task) → ((b : Building) → t ≡ task.Building b → ⊥) → ((k : CodeWalking) → t ≡ task.Walking k → ⊥) → Idles t
idles_unless (task.Building b) f k = f b refl
idles_unless (task.Walking w) f k = k w refl
idles_unless (task.Searching s nodes) f k = tt
idles_unless (task.Ended o nodes) f k = tt

rests : (a : Actor) (words : List ℕ) (budget : ℕ) (g : Goal) (t : Task) → IsTask a words budget g t → moved words a a.work ≡ idle words a → (words ≡ (moved words a a.work).words) × IsTask (moved words a a.work).actor words budget g t
rests a words budget g t h e = subst (λ (m : Moved). (words ≡ m.words) × IsTask m.actor words budget g t) (sym e) (refl, h)

pub idle_follows : (words : List ℕ) (budget : ℕ) (g : Goal) (t : Task) → Idles t → TaskMoves words budget g t words t
idle_follows words budget g (task.Building b) i a h = absurd i
idle_follows words budget g (task.Walking k) i a h = absurd i
idle_follows words budget g (task.Searching s nodes) i a h = let z = h.shows in rests a words budget g (task.Searching s nodes) h (search_idle words a (problem_of g) budget s a.work z.0)
idle_follows words budget g (task.Ended o nodes) i a h = rests a words budget g (task.Ended o nodes) h (end_idle words a a.work (shown_end g a.seen o nodes.items a.work h.shows))

-- ---- behind a machine step

at_machine : (p : Problem) (budget : ℕ) (s : Solving) (w : Work) → ShowsSearch p budget s w → (m : Machine) × (w ≡ Searching m) × IsSearchOf p budget s m
at_machine p budget s (Loading e es g gs) h = absurd h
at_machine p budget s (Probing g gs q) h = absurd h
at_machine p budget s (Walking e es) h = absurd h
at_machine p budget s (Searching m) h = (m, refl, h)
at_machine p budget s (Ended end) h = absurd h

at_search : (a : Actor) (words : List ℕ) (budget : ℕ) (g : Goal) (s : Solving) (nodes : Vec ℕ Global) → IsTask a words budget g (task.Searching s nodes) → (m : Machine) × (a.work ≡ Searching m) × IsSearchOf (problem_of g) budget s m
at_search a words budget g s nodes h = let z = h.shows in at_machine (problem_of g) budget s a.work z.0

turned_held : (a : Actor) (words : List ℕ) (budget : ℕ) (g : Goal) → IsHeld a words budget g → IsHeld (with_work a (turned budget a.problem a.work)) words budget g
turned_held a words budget g h = record { problem = h.problem; sound = h.sound; some = h.some; few = h.few; within = h.within; scripted = h.scripted; doing = turns budget a.problem (length words) words anyone a.seen a.work h.doing }

-- what a turn of a search comes to
abbrev pub SearchTurns : Goal → Solving → Solved → Type 0
SearchTurns g s end = (budget : ℕ) (m : Machine) → IsSearchOf (problem_of g) budget s m → ShowsSolved (problem_of g) budget end (turned budget (problem_of g) (Searching m))

solved_by : (a : Actor) (words : List ℕ) (budget : ℕ) (g : Goal) (s : Solving) (nodes : Vec ℕ Global) (end : Solved) → SearchTurns g s end → IsTask a words budget g (task.Searching s nodes) → ShowsSolved (problem_of g) budget end (turned budget a.problem a.work)
solved_by a words budget g s nodes end f h =
    let k = at_search a words budget g s nodes h in
    let same : turned budget a.problem a.work ≡ turned budget (problem_of g) (Searching k.0) = ap₂ (turned budget) h.problem k.1 in
    subst (λ (w : Work). ShowsSolved (problem_of g) budget end w) (sym same) (f budget k.0 k.2)

pub more_turns : (budget : ℕ) (g : Goal) (s next : Solving) (nodes : Vec ℕ Global) (end : Solved) → end ≡ solved.More next → SearchTurns g s end → TaskTurns budget g (task.Searching s nodes) (task.Searching next nodes)
more_turns budget g s next nodes end e f a words h =
    let k : ShowsSolved (problem_of g) budget (solved.More next) (turned budget a.problem a.work) = subst (λ (x : Solved). ShowsSolved (problem_of g) budget x (turned budget a.problem a.work)) e (solved_by a words budget g s nodes end f h) in
    let z = h.shows in
    held_task (with_work a (turned budget a.problem a.work)) words budget g (task.Searching next nodes) (turned_held a words budget g (held_by a words budget g (task.Searching s nodes) h)) (k, z.1)

end_searched : (p : Problem) (m : Machine) (t : Turn) (r : Answer) → search_at p m t ≡ Ended (Replied r) → is_searched r ≡ true
end_searched p m turn.More r e = absurd (true≢false (sym (ap has_ended e)))
end_searched p m turn.Sat r e = sym (ap work_searched e)
end_searched p m turn.Unsat r e = sym (ap work_searched e)
end_searched p m (turn.Budget spent) r e = sym (ap work_searched e)

turn_searched : (p : Problem) (budget : ℕ) (m : Machine) (r : Answer) → turned budget p (Searching m) ≡ Ended (Replied r) → is_searched r ≡ true
turn_searched p budget m r e = end_searched p (advance budget m) (advance budget m).state.end r e

pub ended_turns : (budget : ℕ) (g : Goal) (s : Solving) (r : Reply) (nodes : Vec ℕ Global) (end : Solved) → end ≡ solved.Ended r → SearchTurns g s end → IfEnded end (IsBacked g) → TaskTurns budget g (task.Searching s nodes) (task.Ended (outcome.Replied r) nodes)
ended_turns budget g s r nodes end e f backed a words h =
    let k : ShowsSolved (problem_of g) budget (solved.Ended r) (turned budget a.problem a.work) = subst (λ (x : Solved). ShowsSolved (problem_of g) budget x (turned budget a.problem a.work)) e (solved_by a words budget g s nodes end f h) in
    let back : IsBacked g r = subst (λ (x : Solved). IfEnded x (IsBacked g)) e backed in
    let at = at_search a words budget g s nodes h in
    let searched : is_searched k.0 ≡ true = turn_searched a.problem budget at.0 k.0 (sym (ap (turned budget a.problem) at.1) ∙ k.1) in
    let z = h.shows in
    let cone : AreNodesOf a.seen (if is_searched k.0 then cone_of (problem_of g) else []) nodes.items = subst (λ t. AreNodesOf a.seen (if t then cone_of (problem_of g) else []) nodes.items) (sym searched) z.1 in
    held_task (with_work a (turned budget a.problem a.work)) words budget g (task.Ended (outcome.Replied r) nodes) (turned_held a words budget g (held_by a words budget g (task.Searching s nodes) h))
    (subst (λ (w : Work). ShowsEnd g a.seen (outcome.Replied r) nodes.items w) (sym k.1) (k.2, back, cone))
