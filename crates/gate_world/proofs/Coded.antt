-- The nodes of a script's gates, and its calls and answers at their places.
use Rattle.std.proofs.Common.{◌≡◌, ◌≢◌, ℕ, zero, suc, ◌+◌, ◌-◌, ◌<◌, ◌≤◌, Bool, true, false, List, [], ◌∷◌, ◌++◌, length, length-append, not, slice_index_or, refl, sym, ap, ◌∙◌, subst, arith, true≢false, nat_eq, nat_lt, if◌then◌else◌, IsTrue, Result, Ok, Err}
use Rattle.std.proofs.lemmas.Grind.{common_steps}
use mathlib.Core.Logic.{dite}
use native.Mathlib.Decide.{ℕ_discrete}
use Rattle.std.proofs.lemmas.List.{append_assoc}
use Rattle.gate_shape.specs.Literal.{Literal}
use Rattle.gate_shape.specs.Edge.{Edge, Gate, constant, input, gate, gate_edge, gate_level}
use Rattle.gate_shape.specs.Builds.{edge, Known, Stands, NotDeep, NoRoom, HasGate}
use Rattle.gate_shape.specs.Listed.{has_gate, no_gate}
use Rattle.gate_shape.specs.declared.builder.GateStop.{GateStop}
use Rattle.gate_shape.specs.declared.builder.GateStop.TheVariants.{Deep, Full, Memory}
use Rattle.gate_shape.proofs.Listing.{note_known, note_unknown, has_gate-found, has_gate-at}
use Rattle.gate_probe.specs.Words.{word_at}
use Rattle.gate_probe.specs.Sound.{IsSound, IsWithin}
use Rattle.gate_probe.specs.Standing.{word_of, StandsIn}
use Rattle.gate_probe.proofs.Meaning.{gate_parts}
use Rattle.gate_probe.proofs.Standing.{stands_more, stands_leaf, edge_gate}
use Rattle.goal_alone.specs.Ends.{Made, TooDeep as TooDeepEnd, TooMany, end_of}
use Rattle.goal_alone.specs.Formula.{most_gates}
use Rattle.blast_goal.specs.Script.{list_of, kept_with, kept_after, IsCall, AreCalls, AreAnswers, EndsAs, calls_of}
use Rattle.gate_world.specs.Work.{Problem, script_of}
use Rattle.gate_world.specs.Coding.{AreNodes, IsCalls}
use Rattle.gate_world.specs.declared.build.Calls.{Calls}

pub nodes_long : (words : List ℕ) (kept : List Gate) (nodes : List ℕ) → AreNodes words kept nodes → length nodes ≡ length kept
nodes_long words [] [] h = refl
nodes_long words (g ∷ gs) (n ∷ ns) h = ap suc (nodes_long words gs ns h.1)
nodes_long words [] (n ∷ ns) h = absurd h
nodes_long words (g ∷ gs) [] h = absurd h

pub nodes_at : (words : List ℕ) (kept : List Gate) (nodes : List ℕ) (k d : ℕ) → AreNodes words kept nodes → k < length kept → StandsIn words (record { node = slice_index_or nodes k d; sign = false }) (gate_edge (slice_index_or kept k no_gate))
nodes_at words [] nodes k d h l = absurd (omega arith)
nodes_at words (g ∷ gs) (n ∷ ns) zero d h l = h.0
nodes_at words (g ∷ gs) (n ∷ ns) (suc k) d h l = nodes_at words gs ns k d h.1 (omega arith)
nodes_at words (g ∷ gs) [] k d h l = absurd h

pub nodes_push : (words : List ℕ) (kept : List Gate) (nodes : List ℕ) (g : Gate) (n : ℕ) → AreNodes words kept nodes → StandsIn words (record { node = n; sign = false }) (gate_edge g) → AreNodes words (kept ++ g ∷ []) (nodes ++ n ∷ [])
nodes_push words [] [] g n h s = (s, tt)
nodes_push words (x ∷ xs) (m ∷ ms) g n h s = (h.0, nodes_push words xs ms g n h.1 s)
nodes_push words [] (m ∷ ms) g n h s = absurd h
nodes_push words (x ∷ xs) [] g n h s = absurd h

pub nodes_more : (words more : List ℕ) (kept : List Gate) (nodes : List ℕ) → IsWithin words more → AreNodes words kept nodes → AreNodes more kept nodes
nodes_more words more [] [] w h = tt
nodes_more words more (g ∷ gs) (n ∷ ns) w h = (stands_more words more w (gate_edge g) (record { node = n; sign = false }) h.0, nodes_more words more gs ns w h.1)
nodes_more words more [] (n ∷ ns) w h = absurd h
nodes_more words more (g ∷ gs) [] w h = absurd h

-- a literal of the list
known_below : (len n : ℕ) → 8193 ≤ n → IsTrue (if nat_lt n 8193 then true else nat_lt (n - 8193) len) → n - 8193 < len
known_below len n l h = grind (arith, common_steps)

pub known_place : (kept : List Gate) (l : Literal) → Known (list_of kept) l → 8193 ≤ l.node → l.node - 8193 < length kept
known_place kept l h le = known_below (length kept) l.node le h.holds

pub leaf_stands : (words : List ℕ) (kept : List Gate) (l : Literal) → l.node < 8193 → StandsIn words l (edge (list_of kept) l)
leaf_stands words kept l h = stands_leaf words (list_of kept) l h

pub gate_stands : (words : List ℕ) (kept : List Gate) (nodes : List ℕ) (l : Literal) (d : ℕ) → AreNodes words kept nodes → Known (list_of kept) l → 8193 ≤ l.node
    → StandsIn words (record { node = slice_index_or nodes (l.node - 8193) d; sign = l.sign }) (edge (list_of kept) l)
gate_stands words kept nodes l d h k le =
    let s = nodes_at words kept nodes (l.node - 8193) d h (known_place kept l k le) in
    subst (StandsIn words (record { node = slice_index_or nodes (l.node - 8193) d; sign = l.sign })) (sym (edge_gate (list_of kept) l le)) (s.0, s.1, refl, s.3, s.4)

-- the literal of a gate's edge is of a gate
pub gate_node : (kept : List Gate) (l : Literal) (g : Gate) → Stands (list_of kept) l (gate_edge g) → 8193 ≤ l.node
gate_node kept l g s = go (nat_lt l.node 8193) refl
  where
    leaf : (e : Edge) → StandsIn [] l e → e ≡ gate_edge g → ⊥
    leaf (constant t) h e = absurd (cc)
    leaf (input t k j) h e = absurd (cc)
    leaf (gate t a b) h e = h.1 refl

    go : (t : Bool) → nat_lt l.node 8193 ≡ t → 8193 ≤ l.node
    go true e = let low : l.node < 8193 = grind (arith, common_steps) in absurd (leaf (edge (list_of kept) l) (stands_leaf [] (list_of kept) l low) s.stands_for)
    go false e = grind (arith, common_steps)

-- the call and the answer for a gate
pub calls_at : (kept done : List Gate) (g : Gate) (gs : List Gate) (cs : List (Literal × Literal)) (d : Literal × Literal) → AreCalls kept (done ++ g ∷ gs) cs → length done < length cs
    → IsCall (kept_after kept done) g (slice_index_or cs (length done) d)
calls_at kept [] g gs [] d h l = absurd (omega arith)
calls_at kept [] g gs (c ∷ cs) d h l = h.0
calls_at kept (x ∷ xs) g gs [] d h l = absurd (omega arith)
calls_at kept (x ∷ xs) g gs (c ∷ cs) d h l = calls_at (kept_with kept x) xs g gs cs d h.1 (omega arith)

pub answers_at : (kept done : List Gate) (g : Gate) (gs : List Gate) (ls : List Literal) (d : Literal) → AreAnswers kept (done ++ g ∷ gs) ls → length done < length ls
    → Stands (list_of (kept_with (kept_after kept done) g)) (slice_index_or ls (length done) d) (gate_edge g)
answers_at kept [] g gs [] d h l = absurd (omega arith)
answers_at kept [] g gs (c ∷ cs) d h l = h.0.stands
answers_at kept (x ∷ xs) g gs [] d h l = absurd (omega arith)
answers_at kept (x ∷ xs) g gs (c ∷ cs) d h l = answers_at (kept_with kept x) xs g gs cs d h.1 (omega arith)

pub kept_push : (kept done : List Gate) (g : Gate) → kept_after kept (done ++ g ∷ []) ≡ kept_with (kept_after kept done) g
kept_push kept [] g = refl
kept_push kept (x ∷ xs) g = kept_push (kept_with kept x) xs g

-- gates that can all be made are answered
not_made_deep : {A : Type 0} → TooDeepEnd ≡ Made → A
not_made_deep e = absurd (cc)

not_made_many : {A : Type 0} → TooMany ≡ Made → A
not_made_many e = absurd (cc)

-- the first gate can be made, and then the others
made_first : (kept : List Gate) (g : Gate) (gs : List Gate) → end_of most_gates kept (g ∷ gs) ≡ Made → NotDeep g × (has_gate kept g ≡ false → length kept < most_gates) × (end_of most_gates (kept_with kept g) gs ≡ Made)
unfolding end_of
made_first kept g gs h = go (nat_eq (gate_level g) 262144) refl (has_gate kept g) refl (nat_lt (length kept) most_gates) refl h
  where
    go : (a : Bool) → nat_eq (gate_level g) 262144 ≡ a → (b : Bool) → has_gate kept g ≡ b → (c : Bool) → nat_lt (length kept) most_gates ≡ c
        → (if a then TooDeepEnd else (if b then end_of most_gates kept gs else (if c then end_of most_gates (kept ++ g ∷ []) gs else TooMany))) ≡ Made
        → NotDeep g × (has_gate kept g ≡ false → length kept < most_gates) × (end_of most_gates (kept_with kept g) gs ≡ Made)
    go true ea b eb c ec h = not_made_deep h
    go false ea true eb c ec h = ((λ d. let x : gate_level g ≢ 262144 = grind (arith, common_steps) in x d), (λ n. absurd (true≢false (sym eb ∙ n))), ap (λ k. end_of most_gates k gs) (note_known kept g eb) ∙ h)
    go false ea false eb true ec h = ((λ d. let x : gate_level g ≢ 262144 = grind (arith, common_steps) in x d), (λ n. grind (arith, common_steps)), ap (λ k. end_of most_gates k gs) (note_unknown kept g eb) ∙ h)
    go false ea false eb false ec h = not_made_many h

has_place : (kept : List Gate) (g : Gate) → has_gate kept g ≡ true → HasGate (list_of kept) g
has_place kept g e = let f = has_gate-found kept g e in let l : f.0 < length kept = f.1 in (f.0, grind (arith, common_steps), f.2)

room_left : (kept : List Gate) (g : Gate) → NoRoom (list_of kept) g → (has_gate kept g ≡ false → length kept < most_gates) → ⊥
room_left kept g none more = go (has_gate kept g) refl
  where
    go : (b : Bool) → has_gate kept g ≡ b → ⊥
    go true e = none.1 (has_place kept g e)
    go false e = let l : length kept < 4000000 = more e in let f : length kept ≡ 4000000 = grind (arith, common_steps, none.0) in absurd (omega arith)

pub made_answered : (kept done rest : List Gate) (ls : List Literal) (end : Result Literal GateStop) → EndsAs kept (done ++ rest) ls end → end_of most_gates kept done ≡ Made → length done ≤ length ls
made_answered kept [] rest ls end h m = omega arith
made_answered kept (x ∷ xs) rest (l ∷ ls) end h m = let r = made_answered (kept_with kept x) xs rest ls end h (made_first kept x xs m).2 in omega arith
made_answered kept (x ∷ xs) rest [] (Ok root) h m = absurd h
made_answered kept (x ∷ xs) rest [] (Err Deep) h m = absurd ((made_first kept x xs m).0 h)
made_answered kept (x ∷ xs) rest [] (Err Full) h m = absurd (room_left kept x h (made_first kept x xs m).1)
made_answered kept (x ∷ xs) rest [] (Err (Memory e)) h m = absurd h

-- where it ends well each gate is answered
pub ended_well : (kept gs : List Gate) (ls : List Literal) (root : Literal) → EndsAs kept gs ls (Ok root) → length ls ≡ length gs
ended_well kept [] [] root h = refl
ended_well kept [] (l ∷ ls) root h = absurd h
ended_well kept (g ∷ gs) [] root h = absurd h
ended_well kept (g ∷ gs) (l ∷ ls) root h = ap suc (ended_well (kept_with kept g) gs ls root h)

longer : (xs ys : List Gate) (y : Gate) → length xs < length (xs ++ y ∷ ys)
longer [] ys y = omega arith
longer (x ∷ xs) ys y = let l = longer xs ys y in omega arith

pub call_there : (done : List Gate) (g : Gate) (gs : List Gate) (ls : List Literal) (end : Result Literal GateStop) → EndsAs [] (done ++ g ∷ gs) ls end → end_of most_gates [] done ≡ Made → length done < calls_of (length ls) end
call_there done g gs ls (Ok root) h m = let e = ended_well [] (done ++ g ∷ gs) ls root h in let l = longer done gs g in omega arith
call_there done g gs ls (Err stop) h m = let l = made_answered [] done (g ∷ gs) ls (Err stop) h m in omega arith

-- the word of a gate's literal
pub word_there : (words : List ℕ) (l : Literal) (e : Edge) → 8193 ≤ l.node → StandsIn words l e → word_of words l ≢ 0
word_there words l (constant s) le h = let n = h.0 in absurd (omega arith)
word_there words l (input s k j) le h = let n = h.2 in let a = h.0 in let b = h.1 in absurd (omega arith)
word_there words l (gate s a b) le h = h.1

pub word_big : (words : List ℕ) (s : ℕ) → IsSound words → word_at words s ≢ 0 → 70368744177664 ≤ word_at words s
word_big words s sound h = let l = (sound s h).gate.level in omega arith

gate_if : (n : ℕ) → not (nat_lt n 8193) ≡ true → 8193 ≤ n
gate_if n h = grind (arith, common_steps)

leaf_if : (n : ℕ) → not (nat_lt n 8193) ≡ false → n < 8193
leaf_if n h = grind (arith, common_steps)

pub is_gate_if : (n : ℕ) (b : Bool) → b ≡ not (nat_lt n 8193) → b ≡ true → 8193 ≤ n
is_gate_if n b e h = gate_if n (sym e ∙ h)

pub is_leaf_if : (n : ℕ) (b : Bool) → b ≡ not (nat_lt n 8193) → b ≡ false → n < 8193
is_leaf_if n b e h = leaf_if n (sym e ∙ h)

before_push : (kept : List Gate) (g : Gate) (k : ℕ) → k < length kept → slice_index_or (kept ++ g ∷ []) k no_gate ≡ slice_index_or kept k no_gate
before_push [] g k l = absurd (omega arith)
before_push (x ∷ xs) g zero l = refl
before_push (x ∷ xs) g (suc k) l = before_push xs g k (omega arith)

pub calls_more : (p : Problem) (words more : List ℕ) (done ahead : List Gate) (c : Calls) → IsWithin words more → IsCalls p words done ahead c → IsCalls p more done ahead c
calls_more p words more done ahead c w h = record { calls = h.calls; answers = h.answers; ends = h.ends; count = h.count; cut = h.cut; at = h.at; built = nodes_more words more (kept_after [] done) c.built.items w h.built; root = h.root; made = h.made }

module _ (p : Problem) (words : List ℕ) (done : List Gate) (g : Gate) (gs : List Gate) (c : Calls) (h : IsCalls p words done (g ∷ gs) c) where
  pub call_index : c.call < length c.script.calls.items
  call_index =
      let l = call_there done g gs c.script.answers.items c.script.end (subst (λ k. EndsAs [] k c.script.answers.items c.script.end) h.cut h.ends) h.made in
      let n = h.count in let a = h.at in
      omega arith

  pub call_is : (d : Literal × Literal) → IsCall (kept_after [] done) g (slice_index_or c.script.calls.items c.call d)
  call_is d =
      let l : length done < length c.script.calls.items = subst (λ k. k < length c.script.calls.items) h.at call_index in
      subst (λ k. IsCall (kept_after [] done) g (slice_index_or c.script.calls.items k d)) (sym h.at) (calls_at [] done g gs c.script.calls.items d (subst (λ k. AreCalls [] k c.script.calls.items) h.cut h.calls) l)

  whole : script_of p ≡ (done ++ g ∷ []) ++ gs
  whole = h.cut ∙ sym (append_assoc done (g ∷ []) gs)

  pub answer_index : end_of most_gates [] (done ++ g ∷ []) ≡ Made → c.call < length c.script.answers.items
  answer_index m =
      let l = made_answered [] (done ++ g ∷ []) gs c.script.answers.items c.script.end (subst (λ k. EndsAs [] k c.script.answers.items c.script.end) whole h.ends) m in
      let n = length-append done (g ∷ []) in let a = h.at in
      omega arith

  pub answer_is : end_of most_gates [] (done ++ g ∷ []) ≡ Made → (d : Literal) → Stands (list_of (kept_with (kept_after [] done) g)) (slice_index_or c.script.answers.items c.call d) (gate_edge g)
  answer_is m d =
      let l : length done < length c.script.answers.items = subst (λ k. k < length c.script.answers.items) h.at (answer_index m) in
      subst (λ k. Stands (list_of (kept_with (kept_after [] done) g)) (slice_index_or c.script.answers.items k d) (gate_edge g)) (sym h.at) (answers_at [] done g gs c.script.answers.items d (subst (λ k. AreAnswers [] k c.script.answers.items) h.cut h.answers) l)

  -- the gate's place in the list is the next one exactly where it isn't kept yet
  pub place_new : (l : Literal) → Stands (list_of (kept_with (kept_after [] done) g)) l (gate_edge g) → (nodes : List ℕ) (n : ℕ) (more : List ℕ) → AreNodes more (kept_after [] done) nodes → StandsIn more (record { node = n; sign = false }) (gate_edge g)
      → (l.node - 8193 ≡ length nodes → AreNodes more (kept_with (kept_after [] done) g) (nodes ++ n ∷ [])) × (l.node - 8193 ≢ length nodes → AreNodes more (kept_with (kept_after [] done) g) nodes)
  place_new l s nodes n more a t = go (has_gate (kept_after [] done) g) refl
    where
      kept : List Gate
      kept = kept_after [] done

      le : 8193 ≤ l.node
      le = gate_node (kept_with kept g) l g s

      at : l.node - 8193 < length (kept_with kept g)
      at = known_place (kept_with kept g) l s.known le

      is : slice_index_or (kept_with kept g) (l.node - 8193) no_gate ≡ g
      is = gate_parts (slice_index_or (kept_with kept g) (l.node - 8193) no_gate) g (same_signs (sym (edge_gate (list_of (kept_with kept g)) l le) ∙ s.stands_for))
        where
          same_signs : {t : Bool} {x y u v : Edge} → gate t x y ≡ gate false u v → gate false x y ≡ gate false u v
          same_signs e = cc

      go : (b : Bool) → has_gate kept g ≡ b → (l.node - 8193 ≡ length nodes → AreNodes more (kept_with kept g) (nodes ++ n ∷ [])) × (l.node - 8193 ≢ length nodes → AreNodes more (kept_with kept g) nodes)
      go true e = (
        (λ q. let z = note_known kept g e in let m = nodes_long more kept nodes a in let i : l.node - 8193 < length kept = subst (λ k. l.node - 8193 < length k) z at in absurd (omega arith)),
        (λ q. rw (note_known kept g e) a),
      )
      go false e = (
        (λ q. rw (note_unknown kept g e) (nodes_push more kept nodes g n a t)),
        (λ q.
            let z = note_unknown kept g e in
            let m = nodes_long more kept nodes a in
            let i : l.node - 8193 < length (kept ++ g ∷ []) = subst (λ k. l.node - 8193 < length k) z at in
            let len = length-append kept (g ∷ []) in
            let inside : l.node - 8193 < length kept = omega arith in
            let there : slice_index_or (kept ++ g ∷ []) (l.node - 8193) no_gate ≡ g = subst (λ k. slice_index_or k (l.node - 8193) no_gate ≡ g) z is in
            let here : slice_index_or kept (l.node - 8193) no_gate ≡ g = sym (before_push kept g (l.node - 8193) inside) ∙ there in
            absurd (true≢false (sym (has_gate-at kept g (l.node - 8193) inside here) ∙ e))),
      )

  -- the call at hand is done
  pub found_on : (more : List ℕ) (n : ℕ) (l : Literal) (new : Calls) → end_of most_gates [] (done ++ g ∷ []) ≡ Made → IsWithin words more → StandsIn more (record { node = n; sign = false }) (gate_edge g)
      → l ≡ slice_index_or c.script.answers.items c.call l → new.script ≡ c.script → new.call ≡ c.call + 1
      → (l.node - 8193 ≡ length c.built.items → new.built.items ≡ c.built.items ++ n ∷ []) → (l.node - 8193 ≢ length c.built.items → new.built.items ≡ c.built.items) → IsCalls p more (done ++ g ∷ []) gs new
  found_on more n l new m within stands is script call pushed same =
      let s : Stands (list_of (kept_with (kept_after [] done) g)) l (gate_edge g) = subst (λ k. Stands (list_of (kept_with (kept_after [] done) g)) k (gate_edge g)) (sym is) (answer_is m l) in
      let old : AreNodes more (kept_after [] done) c.built.items = nodes_more words more (kept_after [] done) c.built.items within h.built in
      let b = place_new l s c.built.items n more old stands in
      let nodes : AreNodes more (kept_with (kept_after [] done) g) new.built.items = dite (ℕ_discrete (l.node - 8193) (length c.built.items)) (λ e. rw (pushed e) (b.0 e)) (λ ne. rw (same ne) (b.1 ne)) in
      let len = length-append done (g ∷ []) in
      let at = h.at in
      record {
        calls = rw script h.calls;
        answers = rw script h.answers;
        ends = rw script h.ends;
        count = rw script h.count;
        cut = whole;
        at = omega arith;
        built = subst (λ k. AreNodes more k new.built.items) (sym (kept_push [] done g)) nodes;
        root = rw script h.root;
        made = m;
      }
