-- Each event keeps what holds of the world.
use Rattle.std.proofs.Common.{◌≡◌, ◌≢◌, ℕ, zero, suc, ◌<◌, ◌≤◌, true, false, List, [], ◌∷◌, length, set, refl, sym, ap, ap₂, ◌∙◌, subst, arith, length-set, true≢false}
use Rattle.std.proofs.lemmas.List.{get_or-set_same}
use Rattle.gate_shape.specs.Edge.{Edge, Gate, gate_level}
use Rattle.gate_shape.specs.Word.{gate_word}
use Rattle.gate_shape.specs.Builds.{NotDeep}
use Rattle.gate_probe.specs.Words.{word_at}
use Rattle.gate_probe.specs.Sound.{IsSound, IsWithin, MayClaim}
use Rattle.gate_probe.specs.Views.{learnt}
use Rattle.gate_probe.specs.Moves.{Probe, probe_after, place_of, IsMove}
use Rattle.gate_probe.specs.declared.prober.Move.{Move}
use Rattle.gate_probe.specs.declared.prober.Move.TheVariants.{Load, Claim, Found, Full}
use Rattle.gate_probe.proofs.Keeping.{set_within, within_more, learnt_within, claim_sound, claim_place, gate_more}
use Rattle.gate_probe.proofs.Parts.{packed_some}
use Rattle.gate_probe.proofs.Standing.{stands_more}
use Rattle.gate_probe.proofs.Searching.{learnt_keeps, turned, search_claims}
use Rattle.search_learn.specs.declared.Turn.{Turn}
use Rattle.search_learn.specs.declared.Turn.TheVariants as turn
use Rattle.search_learn.specs.Machine.{Machine, machine, steps, advance, run}
use Rattle.search_learn.proofs.Cases.{steps_last}
use Rattle.cdcl_solver.specs.Progress.{Progress, opened, turned as search_turned}
use Rattle.goal_alone.specs.Ends.{Made}
use Rattle.goal_alone.specs.Formula.{goal_clauses, goal_variables, goal_edge, goal_end}
use Rattle.goal_alone.specs.Alone.{answer_of, alone, solved}
use Rattle.goal_alone.specs.Ended.{ended, HasEnded}
use Rattle.goal_alone.proofs.Turns.{whole_run}
use Rattle.goal_alone.proofs.Ending.{where_made}
use Rattle.gate_world.specs.Literals.{place_in}
use Rattle.gate_world.specs.Work.{Problem, Work, End, Loading, Probing, Walking, Searching, Ended, Replied, OutOfMemory, NoRoom, CancelledBy, script_of, to_walk, to_load, search_at, cut_off, is_false}
use Rattle.gate_world.specs.World.{Actor, Moved, sees, search_goes, told, claims, probes, loads, moved, turned as turned_work, idle}
use Rattle.gate_world.specs.Right.{IsScripted}
use Rattle.gate_world.proofs.Standing.{node_small}
use Rattle.gate_world.proofs.Calling.{level_some}
use Rattle.gate_world.proofs.Doing.{building_more, load_doing, walked, search_doing}
use Rattle.gate_world.specs.Doing.{IsBuilding, IsProbing, IsEnding, IsDoing}

-- what holds of a goal in the world
pub record IsActor (n budget : ℕ) (words : List ℕ) (F : ℕ → Type 0) (a : Actor) : Type 0 where
  pub within : IsWithin a.seen words
  pub scripted : IsScripted a.problem
  pub doing : IsDoing n budget words F a.problem a.seen a.work

ending_more : (n budget : ℕ) (words more : List ℕ) (F G : ℕ → Type 0) (p : Problem) (end : End) → IsWithin words more → ((c : ℕ) → F c → G c) → IsEnding n budget words F p end → IsEnding n budget more G p end
ending_more n budget words more F G p (Replied a) w f h = h
ending_more n budget words more F G p OutOfMemory w f h = tt
ending_more n budget words more F G p NoRoom w f h = λ s l z. h s l (sym (w s (h s l)) ∙ z)
ending_more n budget words more F G p (CancelledBy c) w f h = f c h

doing_more : (n budget : ℕ) (words more : List ℕ) (F G : ℕ → Type 0) (p : Problem) (seen : List ℕ) (work : Work) → IsWithin words more → ((c : ℕ) → F c → G c) → IsDoing n budget words F p seen work → IsDoing n budget more G p seen work
doing_more n budget words more F G p seen (Loading e es g gs) w f h = h
doing_more n budget words more F G p seen (Probing g gs q) w f h = h
doing_more n budget words more F G p seen (Walking e es) w f h = h
doing_more n budget words more F G p seen (Searching m) w f h = h
doing_more n budget words more F G p seen (Ended end) w f h = ending_more n budget words more F G p end w f h

pub actor_more : (n budget : ℕ) (words more : List ℕ) (F G : ℕ → Type 0) (a : Actor) → IsWithin words more → ((c : ℕ) → F c → G c) → IsActor n budget words F a → IsActor n budget more G a
actor_more n budget words more F G a w f h = record { within = within_more a.seen words more h.within w; scripted = h.scripted; doing = doing_more n budget words more F G a.problem a.seen a.work w f h.doing }

-- a search that was told the word of its place goes on
pub probing_on : (n : ℕ) (words seen : List ℕ) (g : Gate) (q : Probe) (s word : ℕ) → IsWithin seen words → word ≡ word_at words s → IsProbing n seen g q → q.passed < q.places → s ≡ place_of q → IsProbing n (learnt seen s word) g (probe_after q word)
probing_on n words seen g q s word within is h passed at =
    let now : List ℕ = learnt seen s word in
    let more : IsWithin seen now = learnt_keeps seen s word (λ z. is ∙ within s z) in
    let level : 0 < gate_level g = level_some g in
    record {
      left = h.left;
      right = h.right;
      left_stands = stands_more seen now more g.left h.left h.left_stands;
      right_stands = stands_more seen now more g.right h.right h.right_stands;
      places = h.places;
      from = h.from;
      word = h.word;
      gate = gate_more seen now (gate_word (gate_level g) h.left h.right) more h.gate;
      search = turned seen q (probe_after q word) s word now h.search (λ z. packed_some (gate_level g) h.left h.right level (sym h.word ∙ z)) passed at (λ z. is ∙ within s z) refl refl;
    }

-- what a load or claim does
pub record Moves (n budget : ℕ) (words : List ℕ) (F : ℕ → Type 0) (a : Actor) (m : Moved) : Type 0 where
  pub size : length m.words ≡ n
  pub sound : IsSound m.words
  pub grows : IsWithin words m.words
  pub actor : IsActor n budget m.words F m.actor
  pub stays : is_false a.work ≡ true → is_false m.actor.work ≡ true

module _ (n budget : ℕ) (F : ℕ → Type 0) (some : 1 ≤ n) (few : n ≤ 4000000) where
  idle_moves : (words : List ℕ) (a : Actor) → length words ≡ n → IsSound words → IsActor n budget words F a → Moves n budget words F a (idle words a)
  idle_moves words a size sound h = record { size = size; sound = sound; grows = λ s z. refl; actor = h; stays = λ e. e }

  -- the goal has seen the word of a place
  sees_right : (words : List ℕ) (a : Actor) (s word : ℕ) (next : List ℕ → Work) → IsScripted a.problem → IsWithin a.seen words → word ≡ word_at words s
      → (IsWithin a.seen (learnt a.seen s word) → IsWithin (learnt a.seen s word) words → IsDoing n budget words F a.problem (learnt a.seen s word) (next (learnt a.seen s word))) → IsActor n budget words F (sees a s word next)
  sees_right words a s word next scripted within is f =
      let more : IsWithin a.seen (learnt a.seen s word) = learnt_keeps a.seen s word (λ z. is ∙ within s z) in
      let now : IsWithin (learnt a.seen s word) words = learnt_within words a.seen s word within is in
      record { within = now; scripted = scripted; doing = f more now }

  -- a search was told the word of its place
  told_right : (words : List ℕ) (a : Actor) (done : List Gate) (g : Gate) (gs : List Gate) (q : Probe) (s word : ℕ) → length words ≡ n → IsSound words → IsScripted a.problem → IsWithin a.seen words → word ≡ word_at words s
      → IsBuilding a.problem a.seen done (g ∷ gs) → NotDeep g → IsProbing n a.seen g q → q.passed < q.places → s ≡ place_of q → IsActor n budget words F (told n a g gs q s word)
  told_right words a done g gs q s word size sound scripted within is b d h passed at =
      sees_right words a s word (λ seen. search_goes n a.problem seen g gs (probe_after q word) (probe_after q word).last) scripted within is
      (λ more now.
      let seen : List ℕ = learnt a.seen s word in
      let probing : IsProbing n seen g (probe_after q word) = probing_on n words a.seen g q s word within is h passed at in
      search_doing n budget words F a.problem seen sound now size some few scripted done g gs (probe_after q word) (probe_after q word).last (building_more a.problem a.seen seen done (g ∷ gs) more b) d probing refl)

  claim_moves : (words : List ℕ) (a : Actor) (done : List Gate) (g : Gate) (gs : List Gate) (q : Probe) (s wanted found : ℕ) → length words ≡ n → IsSound words → IsActor n budget words F a → a.work ≡ Probing g gs q → IsBuilding a.problem a.seen done (g ∷ gs) → NotDeep g → IsProbing n a.seen g q → q.last ≡ Claim s wanted → found ≡ word_at words s
      → Moves n budget words F a (claims words a g gs q s wanted found)
  claim_moves words a done g gs q s wanted zero size sound h work b d p last is =
      let m : IsMove q (Claim s wanted) = subst (IsMove q) last p.search.move in
      let small : length words ≤ 4000000 = omega arith in
      let xl = node_small a.seen words h.within small g.left p.left p.left_stands in
      let xr = node_small a.seen words h.within small g.right p.right p.right_stands in
      let may : MayClaim n a.seen wanted s = search_claims a.seen n (gate_level g) p.left p.right q s wanted p.search p.places p.from p.word xl xr p.gate last in
      let may' : MayClaim (length words) a.seen wanted s = subst (λ k. MayClaim k a.seen wanted s) (sym size) may in
      let after : List ℕ = set words s wanted in
      let more : IsWithin words after = set_within words s wanted (sym is) in
      let here : word_at after s ≡ wanted = get_or-set_same words s wanted 0 (claim_place (length words) a.seen wanted s may') in
      let size' : length after ≡ n = length-set words s wanted ∙ size in
      let sound' : IsSound after = claim_sound words a.seen wanted s sound h.within may' (sym is) in
      record {
        size = size';
        sound = sound';
        grows = more;
        actor = subst (λ k. IsActor n budget after F (told k a g gs q s wanted)) (sym size) (told_right after a done g gs q s wanted size' sound' h.scripted (within_more a.seen words after h.within more) (sym here) b d p m.0 m.1);
        stays = λ e. absurd (true≢false (sym e ∙ ap is_false work));
      }
  claim_moves words a done g gs q s wanted (suc found) size sound h work b d p last is =
      let m : IsMove q (Claim s wanted) = subst (IsMove q) last p.search.move in
      record {
        size = size;
        sound = sound;
        grows = λ t z. refl;
        actor = subst (λ k. IsActor n budget words F (told k a g gs q s (suc found))) (sym size) (told_right words a done g gs q s (suc found) size sound h.scripted h.within is b d p m.0 m.1);
        stays = λ e. absurd (true≢false (sym e ∙ ap is_false work));
      }

  probe_moves : (words : List ℕ) (a : Actor) (done : List Gate) (g : Gate) (gs : List Gate) (q : Probe) (move : Move) → length words ≡ n → IsSound words → IsActor n budget words F a → a.work ≡ Probing g gs q → IsBuilding a.problem a.seen done (g ∷ gs) → NotDeep g → IsProbing n a.seen g q → q.last ≡ move
      → Moves n budget words F a (probes words a g gs q move)
  probe_moves words a done g gs q (Load s) size sound h work b d p last =
      let m : IsMove q (Load s) = subst (IsMove q) last p.search.move in
      record {
        size = size;
        sound = sound;
        grows = λ t z. refl;
        actor = subst (λ k. IsActor n budget words F (told k a g gs q s (word_at words s))) (sym size) (told_right words a done g gs q s (word_at words s) size sound h.scripted h.within refl b d p m.0 m.1);
        stays = λ e. absurd (true≢false (sym e ∙ ap is_false work));
      }
  probe_moves words a done g gs q (Claim s wanted) size sound h work b d p last = claim_moves words a done g gs q s wanted (word_at words s) size sound h work b d p last refl
  probe_moves words a done g gs q (Found node) size sound h work b d p last = idle_moves words a size sound h
  probe_moves words a done g gs q Full size sound h work b d p last = idle_moves words a size sound h

  load_moves : (words : List ℕ) (a : Actor) (e : Edge) (next : List ℕ → Work) → length words ≡ n → IsSound words → IsActor n budget words F a → is_false a.work ≡ false
      → ((seen : List ℕ) → IsWithin a.seen seen → IsWithin seen words → IsDoing n budget words F a.problem seen (next seen)) → Moves n budget words F a (loads words a e next)
  load_moves words a e next size sound h busy f = record {
    size = size;
    sound = sound;
    grows = λ t z. refl;
    actor = sees_right words a (place_in a.seen e) (word_at words (place_in a.seen e)) next h.scripted h.within refl (f (learnt a.seen (place_in a.seen e) (word_at words (place_in a.seen e))));
    stays = λ t. absurd (true≢false (sym t ∙ busy));
  }

  pub moves : (words : List ℕ) (a : Actor) (work : Work) → length words ≡ n → IsSound words → IsActor n budget words F a → a.work ≡ work → IsDoing n budget words F a.problem a.seen work → Moves n budget words F a (moved words a work)
  moves words a (Loading e es g gs) size sound h is d =
      load_moves words a e (λ seen. to_load (length words) seen es g gs) size sound h (ap is_false is)
      (λ seen more now. subst (λ k. IsDoing n budget words F a.problem seen (to_load k seen es g gs)) (sym size) (load_doing n budget words F a.problem seen sound now size some few h.scripted d.0 es g gs (building_more a.problem a.seen seen d.0 (g ∷ gs) more d.1)))
  moves words a (Probing g gs q) size sound h is d = probe_moves words a d.0 g gs q q.last size sound h is d.1 d.2 d.3 refl
  moves words a (Walking e es) size sound h is d =
      load_moves words a e (λ seen. to_walk a.problem es) size sound h (ap is_false is)
      (λ seen more now. walked n budget words F a.problem seen sound now size some few h.scripted es (building_more a.problem a.seen seen (script_of a.problem) [] more d))
  moves words a (Searching m) size sound h is d = idle_moves words a size sound h
  moves words a (Ended end) size sound h is d = idle_moves words a size sound h

-- a machine step
module _ (budget : ℕ) (p : Problem) where
  abbrev first : Machine
  first = machine (goal_variables p.hyps p.concl) (goal_clauses p.hyps p.concl)

  -- the machine's end is that of the goal alone
  answers_alone : (taken : ℕ) (m : Machine) (t : Turn) → goal_end p.hyps p.concl ≡ Made → m ≡ steps taken budget first → m.state.end ≡ t → t ≢ turn.More
      → answer_of p.binders (goal_edge p.hyps p.concl) (goal_clauses p.hyps p.concl) m t ≡ alone p.binders p.hyps p.concl budget
  unfolding solved
  answers_alone taken m t all is end over =
      let vars : ℕ = goal_variables p.hyps p.concl in
      let s : Progress = search_turned taken (opened vars (goal_clauses p.hyps p.concl) budget) in
      let e : s.machine.state.end ≡ t = sym (ap (λ (x : Machine). x.state.end) is) ∙ end in
      let h : HasEnded vars (goal_clauses p.hyps p.concl) s t = record { steps = taken; reached = refl; end_is = e; is_end = over } in
      let w : s ≡ ended vars (goal_clauses p.hyps p.concl) budget = whole_run vars (goal_clauses p.hyps p.concl) s t h in
      let same : m ≡ run vars (goal_clauses p.hyps p.concl) budget = is ∙ ap (λ (x : Progress). x.machine) w in
      ap₂ (answer_of p.binders (goal_edge p.hyps p.concl) (goal_clauses p.hyps p.concl)) same (sym end ∙ ap (λ (x : Machine). x.state.end) same)
      ∙ sym (where_made p.binders p.hyps p.concl budget all)

  search_goes_on : (n : ℕ) (words : List ℕ) (F : ℕ → Type 0) (seen : List ℕ) (taken : ℕ) (m : Machine) (t : Turn) → goal_end p.hyps p.concl ≡ Made → m ≡ steps taken budget first → m.state.end ≡ t
      → IsDoing n budget words F p seen (search_at p m t)
  search_goes_on n words F seen taken m turn.More all is end = record { all_made = all; taken = taken; reached = is; going = end }
  search_goes_on n words F seen taken m turn.Sat all is end = answers_alone taken m turn.Sat all is end (λ h. cc)
  search_goes_on n words F seen taken m turn.Unsat all is end = answers_alone taken m turn.Unsat all is end (λ h. cc)
  search_goes_on n words F seen taken m (turn.Budget spent) all is end = answers_alone taken m (turn.Budget spent) all is end (λ h. cc)

  pub turns : (n : ℕ) (words : List ℕ) (F : ℕ → Type 0) (seen : List ℕ) (work : Work) → IsDoing n budget words F p seen work → IsDoing n budget words F p seen (turned_work budget p work)
  turns n words F seen (Loading e es g gs) d = d
  turns n words F seen (Probing g gs q) d = d
  turns n words F seen (Walking e es) d = d
  turns n words F seen (Searching m) d =
      let is : advance budget m ≡ steps (suc d.taken) budget first = ap (advance budget) d.reached ∙ sym (steps_last d.taken budget first) in
      search_goes_on n words F seen (suc d.taken) (advance budget m) (advance budget m).state.end d.all_made is refl
  turns n words F seen (Ended end) d = d

pub turns_stay : (budget : ℕ) (p : Problem) (work : Work) → is_false work ≡ true → is_false (turned_work budget p work) ≡ true
turns_stay budget p (Loading e es g gs) h = h
turns_stay budget p (Probing g gs q) h = h
turns_stay budget p (Walking e es) h = h
turns_stay budget p (Searching m) h = absurd (true≢false (sym h))
turns_stay budget p (Ended end) h = h

-- an end from outside
pub cuts : (n budget : ℕ) (words : List ℕ) (F : ℕ → Type 0) (p : Problem) (seen : List ℕ) (end : End) (work : Work) → IsEnding n budget words F p end → IsDoing n budget words F p seen work → IsDoing n budget words F p seen (cut_off end work)
cuts n budget words F p seen end (Loading e es g gs) h d = h
cuts n budget words F p seen end (Probing g gs q) h d = h
cuts n budget words F p seen end (Walking e es) h d = h
cuts n budget words F p seen end (Searching m) h d = h
cuts n budget words F p seen end (Ended old) h d = d

pub cuts_stay : (end : End) (work : Work) → is_false work ≡ true → is_false (cut_off end work) ≡ true
cuts_stay end (Loading e es g gs) h = absurd (true≢false (sym h))
cuts_stay end (Probing g gs q) h = absurd (true≢false (sym h))
cuts_stay end (Walking e es) h = absurd (true≢false (sym h))
cuts_stay end (Searching m) h = absurd (true≢false (sym h))
cuts_stay end (Ended old) h = h
