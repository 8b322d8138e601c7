-- What a call begins with.
use Rattle.std.proofs.Common.{◌≡◌, ◌≢◌, ℕ, ◌+◌, ◌<◌, ◌≤◌, max, true, false, List, [], ◌∷◌, ◌++◌, length, refl, sym, ap, ap₂, ◌∙◌, subst, arith, nat_eq, Result, Ok, Err, IfOk}
use Rattle.std.proofs.lemmas.List.{append-nil}
use Rattle.std.proofs.lemmas.List.Elements.{All-nil}
use Rattle.gate_shape.specs.Literal.{Literal}
use Rattle.gate_shape.specs.Edge.{Edge, Gate, constant, input, gate, level, gate_level}
use Rattle.gate_shape.specs.Builds.{NotDeep, Stands}
use Rattle.gate_shape.specs.declared.builder.GateStop.{GateStop}
use Rattle.gate_shape.specs.declared.builder.GateStop.TheVariants.{Deep, Full, Memory}
use Rattle.gate_probe.specs.Sound.{IsSound, IsWithin, IsPart}
use Rattle.gate_probe.specs.Standing.{StandsIn}
use Rattle.gate_probe.specs.Moves.{Probe, started}
use Rattle.gate_probe.proofs.Standing.{stands_more, one_literal}
use Rattle.goal_alone.specs.Alone as answer
use Rattle.goal_alone.specs.Ends.{end_of}
use Rattle.blast_goal.specs.Script.{list_of, AreCalls, AreAnswers, EndsAs, kept_with, kept_after, calls_of}
use Rattle.gate_world.specs.Right.{IsScripted}
use Rattle.gate_world.specs.Literals.{literal_in, if_gate, fanin_gates}
use Rattle.gate_world.specs.Work.{Problem, Ended, Replied, script_of, edge_of, to_probe, to_load, to_build}
use Rattle.gate_world.specs.Coding.{AreNodes, IsCalls, IsReadBy, AreReadBy, ShowsBuilding, ShowsWork}
use Rattle.gate_world.specs.declared.build.Calls.{Calls}
use Rattle.gate_world.specs.declared.build.Stage.TheVariants as stage
use Rattle.gate_world.specs.declared.build.Work.{Work as CodeWork}
use Rattle.gate_world.proofs.Standing.{literal_is, number_self, number_other}
use Rattle.gate_world.proofs.Doing.{next_seen}
use Rattle.gate_world.proofs.Coded.{call_index, made_answered, ended_well}

pub level_sum : (g : Gate) (a b : ℕ) → a ≡ level g.left → b ≡ level g.right → 1 + max a b ≡ gate_level g
unfolding gate_level
level_sum g a b p q = ap₂ (λ x y. 1 + max x y) p q

-- the literal that was seen is the one that the words have
seen_literal : (words seen : List ℕ) → IsSound words → IsWithin seen words → (e : Edge) (l k : Literal) → StandsIn seen l e → StandsIn words k e → literal_in seen e ≡ k
seen_literal words seen sound within e l k s t =
    let part : IsPart seen = (words, sound, within) in
    literal_is seen part e l s ∙ one_literal words sound e l k (stands_more seen words within e l s) t

pub probe_deep : (size : ℕ) (seen : List ℕ) (g : Gate) (gs : List Gate) (lev : ℕ) → lev ≡ gate_level g → lev ≡ 262144 → Ended (Replied answer.Deep) ≡ to_probe size seen g gs
probe_deep size seen g gs lev is deep = let e : nat_eq (gate_level g) 262144 ≡ true = ap (λ n. nat_eq n 262144) (sym is ∙ deep) ∙ number_self 262144 in rw e refl

pub probe_shows : (p : Problem) (words seen : List ℕ) (done : List Gate) (g : Gate) (gs : List Gate) (c : Calls) (size lev : ℕ) (first second : Literal) (q : Probe) → IsCalls p words done (g ∷ gs) c → IsReadBy words seen g
    → StandsIn words first g.left → StandsIn words second g.right → lev ≡ gate_level g → lev ≢ 262144 → q ≡ started size first second lev
    → ShowsBuilding p words (record { calls = c; stage = stage.Probe q }) (to_probe size seen g gs)
probe_shows p words seen done g gs c size lev first second q h r s t is shallow e =
    let n : nat_eq (gate_level g) 262144 ≡ false = number_other (gate_level g) 262144 (λ d. shallow (is ∙ d)) in
    let a : literal_in seen g.left ≡ first = seen_literal words seen r.sound r.within g.left r.left.0 first r.left.1 s in
    let b : literal_in seen g.right ≡ second = seen_literal words seen r.sound r.within g.right r.right.0 second r.right.1 t in
    let same : q ≡ started size (literal_in seen g.left) (literal_in seen g.right) (gate_level g) = e ∙ (λ i. started size ((sym a) i) ((sym b) i) (is i)) in
    rw n (done, h, ap stage.Probe same)

-- a fanin that is a gate, or isn't
pub one_gate : (words : List ℕ) (e : Edge) (l : Literal) → StandsIn words l e → 8193 ≤ l.node → (x : Edge) × (if_gate e ≡ x ∷ [])
one_gate words (constant s) l h le = let n = h.0 in absurd (omega arith)
one_gate words (input s k j) l h le = let n = h.2 in let a = h.0 in let b = h.1 in absurd (omega arith)
one_gate words (gate s a b) l h le = (gate false a b, refl)

pub no_gate_there : (words : List ℕ) (e : Edge) (l : Literal) → StandsIn words l e → l.node < 8193 → (if_gate e ≡ []) × (0 ≡ level e)
unfolding level
no_gate_there words (constant s) l h low = (refl, refl)
no_gate_there words (input s k j) l h low = (refl, refl)
no_gate_there words (gate s a b) l h low = let le = h.0 in absurd (omega arith)

pub left_shows : (p : Problem) (words seen : List ℕ) (done : List Gate) (g : Gate) (gs : List Gate) (c : Calls) (size : ℕ) (l : Literal) → IsCalls p words done (g ∷ gs) c → StandsIn words l g.left → 8193 ≤ l.node
    → ShowsBuilding p words (record { calls = c; stage = stage.Left }) (to_build size p seen (g ∷ gs))
left_shows p words seen done g gs c size l h s le =
    let x = one_gate words g.left l s le in
    let fs : fanin_gates g ≡ x.0 ∷ if_gate g.right = ap (λ es. es ++ if_gate g.right) x.1 in
    subst (λ es. ShowsBuilding p words (record { calls = c; stage = stage.Left }) (to_load size seen es g gs)) (sym fs) (done, h, (ap length x.1, sym fs))

pub right_shows : (p : Problem) (words seen : List ℕ) (done : List Gate) (g : Gate) (gs : List Gate) (c : Calls) (size : ℕ) (l r : Literal) → IsCalls p words done (g ∷ gs) c → StandsIn words l g.left → l.node < 8193 → StandsIn words r g.right → 8193 ≤ r.node
    → ShowsBuilding p words (record { calls = c; stage = stage.Right 0 }) (to_build size p seen (g ∷ gs))
right_shows p words seen done g gs c size l r h s low t le =
    let y = no_gate_there words g.left l s low in
    let x = one_gate words g.right r t le in
    let fs : fanin_gates g ≡ x.0 ∷ [] = ap₂ (λ es hs. es ++ hs) y.0 x.1 in
    subst (λ es. ShowsBuilding p words (record { calls = c; stage = stage.Right 0 }) (to_load size seen es g gs)) (sym fs) (done, h, (ap length x.1, sym x.1, y.1, omega arith))

pub none_shows : (p : Problem) (words seen : List ℕ) (g : Gate) (gs : List Gate) (size : ℕ) (work : CodeWork) (l r : Literal) → StandsIn words l g.left → l.node < 8193 → StandsIn words r g.right → r.node < 8193
    → (0 ≡ level g.left → 0 ≡ level g.right → ShowsWork p words work (to_probe size seen g gs)) → ShowsWork p words work (to_build size p seen (g ∷ gs))
none_shows p words seen g gs size work l r s low t low' f =
    let y = no_gate_there words g.left l s low in
    let x = no_gate_there words g.right r t low' in
    let fs : fanin_gates g ≡ [] = ap₂ (λ es hs. es ++ hs) y.0 x.0 in
    subst (λ es. ShowsWork p words work (to_load size seen es g gs)) (sym fs) (f y.1 x.1)

-- behind the last call
pub ended_short : (kept gs : List Gate) (ls : List Literal) (stop : GateStop) → EndsAs kept gs ls (Err stop) → length ls < length gs
ended_short kept [] [] Deep h = absurd h
ended_short kept [] [] Full h = absurd h
ended_short kept [] [] (Memory e) h = absurd h
ended_short kept [] (l ∷ ls) stop h = absurd h
ended_short kept (g ∷ gs) [] stop h = omega arith
ended_short kept (g ∷ gs) (l ∷ ls) stop h = let r = ended_short (kept_with kept g) gs ls stop h in omega arith

done_by : (p : Problem) (words : List ℕ) (done : List Gate) (c : Calls) → IsCalls p words done [] c → (end : Result Literal GateStop) → c.script.end ≡ end → c.call ≡ length c.script.calls.items
done_by p words done c h (Ok root) e =
    let w = ended_well [] (script_of p) c.script.answers.items root (subst (λ t. EndsAs [] (script_of p) c.script.answers.items t) e h.ends) in
    let n : length c.script.calls.items ≡ length c.script.answers.items = h.count ∙ ap (calls_of (length c.script.answers.items)) e in
    let l : length (script_of p) ≡ length done = ap length (h.cut ∙ append-nil done) in
    let a = h.at in
    omega arith
done_by p words done c h (Err stop) e =
    let ends : EndsAs [] (script_of p) c.script.answers.items (Err stop) = subst (λ t. EndsAs [] (script_of p) c.script.answers.items t) e h.ends in
    let short = ended_short [] (script_of p) c.script.answers.items stop ends in
    let long = made_answered [] done [] c.script.answers.items (Err stop) (subst (λ k. EndsAs [] k c.script.answers.items (Err stop)) h.cut ends) h.made in
    let l : length (script_of p) ≡ length done = ap length (h.cut ∙ append-nil done) in
    absurd (omega arith)

pub calls_done : (p : Problem) (words : List ℕ) (done : List Gate) (c : Calls) → IsCalls p words done [] c → c.call ≡ length c.script.calls.items
calls_done p words done c h = done_by p words done c h c.script.end refl

pub by_ahead : (p : Problem) (words : List ℕ) (done ahead : List Gate) (c : Calls) (P : List Gate → Type 0) → IsCalls p words done ahead c → (IsCalls p words done [] c → c.call ≡ length c.script.calls.items → P []) → ((g : Gate) (gs : List Gate) → IsCalls p words done (g ∷ gs) c → c.call < length c.script.calls.items → P (g ∷ gs)) → P ahead
by_ahead p words done [] c P h f k = f h (calls_done p words done c h)
by_ahead p words done (g ∷ gs) c P h f k = k g gs h (call_index p words done g gs c h)

pub if_ok : {T E : Type 0} (r : Result T E) (P Q : T → Type 0) → ((x : T) → P x → Q x) → IfOk r P → IfOk r Q
if_ok (Ok x) P Q f h = f x h
if_ok (Err e) P Q f h = tt

-- the script's calls, none of them made yet
pub none_made : (p : Problem) (words : List ℕ) (c : Calls) → AreCalls [] (script_of p) c.script.calls.items → AreAnswers [] (script_of p) c.script.answers.items → EndsAs [] (script_of p) c.script.answers.items c.script.end
    → length c.script.calls.items ≡ calls_of (length c.script.answers.items) c.script.end → IfOk c.script.end (λ root. Stands (list_of (kept_after [] (script_of p))) root (edge_of p))
    → c.call ≡ 0 → c.built.items ≡ [] → IsCalls p words [] (script_of p) c
unfolding end_of
none_made p words c calls answers ends count root at built = record { calls = calls; answers = answers; ends = ends; count = count; cut = refl; at = at; built = subst (AreNodes words []) (sym built) tt; root = root; made = refl }

-- before the first call nothing need have been read
pub nothing_read : (p : Problem) (words : List ℕ) (size : ℕ) → length words ≡ size → 1 ≤ size → size ≤ 4000000 → IsSound words → IsScripted p → AreReadBy words [] (script_of p)
nothing_read p words size long some few sound scripted = go (script_of p) refl
  where
    go : (gs : List Gate) → script_of p ≡ gs → AreReadBy words [] gs
    go [] e = (sound, λ s z. absurd (z refl))
    go (g ∷ gs) e =
        let n = next_seen size 0 words (λ _. Unit {0}) p [] sound (λ s z. absurd (z refl)) long some few scripted [] g gs (record { cut = e; built = tt; shallow = All-nil NotDeep }) in
        record { sound = sound; within = λ s z. absurd (z refl); left = n.0; right = n.1 }
