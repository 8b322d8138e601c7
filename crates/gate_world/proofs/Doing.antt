-- What a goal's work in hand rests on.
use Rattle.std.proofs.Common.{◌≡◌, ◌≢◌, ℕ, ◌+◌, ◌-◌, ◌%◌, ◌<◌, ◌≤◌, Bool, true, false, List, [], ◌∷◌, ◌++◌, length, mod-lt, refl, sym, ap, ap₂, ◌∙◌, subst, arith, nat_eq, if◌then◌else◌}
use Rattle.std.proofs.lemmas.Grind.{common_steps}
use Rattle.std.proofs.lemmas.List.{append-nil, append_assoc}
use Rattle.std.proofs.lemmas.List.Elements.{All-push}
use Rattle.std.proofs.Math.Nat.{mod-eq_of_lt}
use Rattle.gate_shape.specs.Literal.{Literal}
use Rattle.gate_shape.specs.Edge.{Edge, Gate, gate_level, gate_edge}
use Rattle.gate_shape.specs.Word.{gate_word}
use Rattle.gate_shape.specs.Builds.{NotDeep, noted_all}
use Rattle.gate_shape.specs.Listed.{note_new}
use Rattle.gate_probe.specs.Words.{word_at}
use Rattle.gate_probe.specs.Sound.{home, probed, IsSound, IsWithin, IsPart}
use Rattle.gate_probe.specs.Standing.{StandsIn}
use Rattle.gate_probe.specs.Moves.{Probe, started, IsMove, IsEnd}
use Rattle.gate_probe.specs.Searching.{IsTold, IsSearching}
use Rattle.gate_probe.specs.declared.prober.Move.{Move}
use Rattle.gate_probe.specs.declared.prober.Move.TheVariants.{Load, Claim, Found, Full}
use Rattle.gate_probe.proofs.Searching.{reaches}
use Rattle.goal_alone.specs.Ends.{Made, TooDeep as TooDeepEnd, end_of}
use Rattle.goal_alone.specs.Formula.{most_gates, goal_end}
use Rattle.goal_alone.specs.Alone.{Deep, alone}
use Rattle.goal_alone.proofs.Ended.{made, stopped, too_deep}
use Rattle.goal_alone.proofs.Ending.{where_deep}
use Rattle.gate_world.specs.Literals.{literal_in, fanin_gates}
use Rattle.gate_world.specs.Work.{Problem, Probing, Ended, Replied, script_of, cone_of, to_walk, to_probe, to_load, to_build}
use Rattle.gate_world.specs.World.{search_goes}
use Rattle.gate_world.specs.Right.{IsCall, IsScripted}
use Rattle.gate_world.specs.Doing.{IsBuilt, AreBuilt, IsBuilding, IsProbing, IsDoing}
use Rattle.gate_world.proofs.Standing.{literal_is, node_small, built_more, built_push, made_stands}
use Rattle.gate_world.proofs.Calling.{call_gate, found_built, found_stands, level_some}
use Rattle.gate_world.proofs.Counting.{kept_few}

home_small : (n : ℕ) (l r : Literal) → 1 ≤ n → home n l r < n
home_small n l r h = mod-lt _ (omega arith)

pub building_more : (p : Problem) (seen more : List ℕ) (done ahead : List Gate) → IsWithin seen more → IsBuilding p seen done ahead → IsBuilding p more done ahead
building_more p seen more done ahead w b = record { cut = b.cut; built = built_more seen more w done b.built; shallow = b.shallow }

by_bool : (b : Bool) (P : Type 0) → (b ≡ true → P) → (b ≡ false → P) → P
by_bool true P f g = f refl
by_bool false P f g = g refl

module _ (n budget : ℕ) (words : List ℕ) (F : ℕ → Type 0) (p : Problem) (seen : List ℕ) (sound : IsSound words) (within : IsWithin seen words) (size : length words ≡ n) (some : 1 ≤ n) (few : n ≤ 4000000) (scripted : IsScripted p) where
  small : length words ≤ 4000000
  small = omega arith

  part : IsPart seen
  part = (words, sound, within)

  -- the gates that are built can be made in a list
  kept_within : (done : List Gate) → AreBuilt seen done → length (noted_all note_new [] done) ≤ most_gates
  kept_within done b = let k = kept_few seen part words within done b in omega arith

  pub done_made : (done ahead : List Gate) → IsBuilding p seen done ahead → end_of most_gates [] done ≡ Made
  done_made done ahead b = made most_gates [] done b.shallow (kept_within done b.built)

  whole : (done : List Gate) → IsBuilding p seen done [] → IsBuilding p seen (script_of p) []
  whole done b =
      let e : script_of p ≡ done = b.cut ∙ append-nil done in
      subst (λ gs. IsBuilding p seen gs []) (sym e) b

  walk_doing : (es : List Edge) → IsBuilding p seen (script_of p) [] → IsDoing n budget words F p seen (to_walk p es)
  walk_doing [] b = record { all_made = done_made (script_of p) [] b; taken = 0; reached = refl; going = refl }
  walk_doing (e ∷ es) b = b

  -- too deep
  deep_alone : (done : List Gate) (g : Gate) (gs : List Gate) → IsBuilding p seen done (g ∷ gs) → gate_level g ≡ 262144 → Deep ≡ alone p.binders p.hyps p.concl budget
  deep_alone done g gs b deep =
      let e : goal_end p.hyps p.concl ≡ TooDeepEnd = ap (end_of most_gates []) b.cut ∙ stopped most_gates [] done g gs b.shallow (kept_within done b.built) ∙ too_deep most_gates (noted_all note_new [] done) g gs deep in
      sym (where_deep p.binders p.hyps p.concl budget e)

  home_first : (l r : Literal) → home n l r ≡ probed n (home n l r) 0
  home_first l r = let e : home n l r + 0 ≡ home n l r = omega arith in sym (ap (λ x. x % n) e ∙ mod-eq_of_lt (home_small n l r some))

  started_searches : (l r : Literal) (level : ℕ) → IsSearching seen (started n l r level)
  started_searches l r level = record { others = λ k h. absurd (omega arith); told = tt; move = (some, home_first l r) }

  probe_doing : (done : List Gate) (g : Gate) (gs : List Gate) → IsBuilding p seen done (g ∷ gs) → IsDoing n budget words F p seen (to_probe n seen g gs)
  probe_doing done g gs b =
      go (nat_eq (gate_level g) 262144) refl
    where
      shallow : nat_eq (gate_level g) 262144 ≡ false → NotDeep g
      shallow e d = grind (arith, common_steps)

      deep : nat_eq (gate_level g) 262144 ≡ true → gate_level g ≡ 262144
      deep e = grind (arith, common_steps)

      probing : NotDeep g → IsProbing n seen g (started n (literal_in seen g.left) (literal_in seen g.right) (gate_level g))
      probing d =
          let c : IsCall done g = scripted done g gs b.cut (done_made done (g ∷ gs) b) in
          let l = made_stands seen done g.left b.built c.left in
          let r = made_stands seen done g.right b.built c.right in
          let el = literal_is seen part g.left l.0 l.1 in
          let er = literal_is seen part g.right r.0 r.1 in
          record {
            left = l.0;
            right = r.0;
            left_stands = l.1;
            right_stands = r.1;
            places = refl;
            from = ap₂ (home n) el er;
            word = ap₂ (gate_word (gate_level g)) el er;
            gate = call_gate seen part g l.0 r.0 l.1 r.1 (node_small seen words within small g.left l.0 l.1) (node_small seen words within small g.right r.0 r.1) c.apart c.ordered;
            search = started_searches (literal_in seen g.left) (literal_in seen g.right) (gate_level g);
          }

      go : (t : Bool) → nat_eq (gate_level g) 262144 ≡ t → IsDoing n budget words F p seen (if t then Ended (Replied Deep) else Probing g gs (started n (literal_in seen g.left) (literal_in seen g.right) (gate_level g)))
      go true e = deep_alone done g gs b (deep e)
      go false e = (done, b, shallow e, probing (shallow e), λ z. z)

  pub load_doing : (done : List Gate) (es : List Edge) (g : Gate) (gs : List Gate) → IsBuilding p seen done (g ∷ gs) → IsDoing n budget words F p seen (to_load n seen es g gs)
  load_doing done [] g gs b = probe_doing done g gs b
  load_doing done (e ∷ es) g gs b = (done, b)

  pub build_doing : (done gs : List Gate) → IsBuilding p seen done gs → IsDoing n budget words F p seen (to_build n p seen gs)
  build_doing done [] b = walk_doing (cone_of p) (whole done b)
  build_doing done (g ∷ gs) b = load_doing done (fanin_gates g) g gs b

  pub walked : (es : List Edge) → IsBuilding p seen (script_of p) [] → IsDoing n budget words F p seen (to_walk p es)
  walked es b = walk_doing es b

  -- no place is left
  no_room : (g : Gate) (q : Probe) → IsProbing n seen g q → q.last ≡ Full → (s : ℕ) → s < n → word_at words s ≢ 0
  no_room g q b last s l z =
      let m : q.passed ≡ q.places = subst (IsMove q) last b.search.move in
      let r = reaches n q.from s l (subst (λ f. f < n) (sym b.from) (home_small n b.left b.right some)) in
      let o = b.search.others r.0 (let x = r.1 in let y = b.places in omega arith) in
      let place : probed q.places q.from r.0 ≡ s = ap (λ x. probed x q.from r.0) b.places ∙ r.2 in
      o.0 (sym (within (probed q.places q.from r.0) o.0) ∙ ap (word_at words) place ∙ z)

  -- the gate of a search that has found its word is built
  pub found_gate : (g : Gate) (q : Probe) (node : ℕ) → IsProbing n seen g q → q.last ≡ Found node → IsBuilt seen g
  found_gate g q node h last =
      let t : IsTold seen q.word (Found node) = subst (IsTold seen q.word) last h.search.told in
      found_built seen part g h.left h.right h.left_stands h.right_stands (node_small seen words within small g.left h.left h.left_stands) (node_small seen words within small g.right h.right h.right_stands) (node - 8193) (level_some g) (t ∙ h.word)

  pub found_node : (g : Gate) (q : Probe) (node : ℕ) → IsProbing n seen g q → q.last ≡ Found node → StandsIn seen (record { node = node; sign = false }) (gate_edge g)
  found_node g q node h last =
      let m : IsMove q (Found node) = subst (IsMove q) last h.search.move in
      let t : IsTold seen q.word (Found node) = subst (IsTold seen q.word) last h.search.told in
      let at = m.1 in
      let back : 8193 + (node - 8193) ≡ node = omega arith in
      subst (λ k. StandsIn seen (record { node = k; sign = false }) (gate_edge g)) back (found_stands seen part g h.left h.right h.left_stands h.right_stands (node_small seen words within small g.left h.left h.left_stands) (node_small seen words within small g.right h.right h.right_stands) (node - 8193) (level_some g) (t ∙ h.word))

  pub found_building : (done : List Gate) (g : Gate) (gs : List Gate) (q : Probe) (node : ℕ) → IsBuilding p seen done (g ∷ gs) → NotDeep g → IsProbing n seen g q → q.last ≡ Found node → IsBuilding p seen (done ++ g ∷ []) gs
  found_building done g gs q node b d h last =
      record { cut = b.cut ∙ sym (append_assoc done (g ∷ []) gs); built = built_push seen done g b.built (found_gate g q node h last); shallow = All-push NotDeep done g b.shallow d }

  -- the fanins of the next gate were seen
  pub next_seen : (done : List Gate) (g : Gate) (gs : List Gate) → IsBuilding p seen done (g ∷ gs) → ((l : Literal) × StandsIn seen l g.left) × ((r : Literal) × StandsIn seen r g.right)
  next_seen done g gs b =
      let c : IsCall done g = scripted done g gs b.cut (done_made done (g ∷ gs) b) in
      (made_stands seen done g.left b.built c.left, made_stands seen done g.right b.built c.right)

  -- behind a word that was seen the search goes on, or the gate is built, or no place is left
  pub search_doing : (done : List Gate) (g : Gate) (gs : List Gate) (q : Probe) (move : Move) → IsBuilding p seen done (g ∷ gs) → NotDeep g → IsProbing n seen g q → q.last ≡ move
      → IsDoing n budget words F p seen (search_goes n p seen g gs q move)
  search_doing done g gs q (Load s) b d h last = (done, b, d, h, λ z. subst IsEnd last z)
  search_doing done g gs q (Claim s w) b d h last = (done, b, d, h, λ z. subst IsEnd last z)
  search_doing done g gs q (Found node) b d h last = build_doing (done ++ g ∷ []) gs (found_building done g gs q node b d h last)
  search_doing done g gs q Full b d h last = no_room g q h last
