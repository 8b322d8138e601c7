-- A search is told a word.
use Rattle.std.proofs.Common.{◌≡◌, ◌≢◌, ℕ, zero, suc, ◌<◌, ◌≤◌, false, List, [], ◌∷◌, ◌++◌, length, set, mod-lt, refl, sym, ap, ◌∙◌, subst, arith, length-set}
use Rattle.std.proofs.lemmas.List.{get_or-set_same}
use Rattle.gate_shape.specs.Edge.{Gate, gate_edge, gate_level}
use Rattle.gate_probe.specs.Words.{word_at}
use Rattle.gate_probe.specs.Sound.{probed, IsWithin, MayClaim}
use Rattle.gate_probe.specs.Standing.{StandsIn}
use Rattle.gate_probe.specs.Views.{learnt}
use Rattle.gate_probe.specs.Moves.{Probe, probe_after, place_of, IsMove, IsEnd}
use Rattle.gate_probe.specs.declared.prober.Move.{Move}
use Rattle.gate_probe.specs.declared.prober.Move.TheVariants.{Load, Claim, Found, Full}
use Rattle.gate_probe.proofs.Keeping.{set_within, within_more, learnt_within, claim_sound, claim_place}
use Rattle.gate_probe.proofs.Parts.{packed_some}
use Rattle.gate_probe.proofs.Standing.{stands_more}
use Rattle.gate_probe.proofs.Searching.{learnt_keeps, search_claims}
use Rattle.goal_alone.specs.Ends.{Made, end_of}
use Rattle.goal_alone.specs.Formula.{most_gates}
use Rattle.gate_world.specs.Work.{Problem}
use Rattle.gate_world.specs.World.{Actor, Moved, search_goes, told, claims, probes}
use Rattle.gate_world.specs.Doing.{IsBuilding, IsProbing}
use Rattle.gate_world.specs.Coding.{AreReadBy, IsAtSearch, GoesOn, IsMovedTo, ShowsWork}
use Rattle.gate_world.specs.declared.build.Calls.{Calls}
use Rattle.gate_world.specs.declared.build.Work.{Work as CodeWork}
use Rattle.gate_world.proofs.Standing.{node_small}
use Rattle.gate_world.proofs.Doing.{building_more, done_made, found_building, found_node, next_seen}
use Rattle.gate_world.proofs.Keeping.{probing_on}
use Rattle.gate_world.proofs.Calling.{level_some}
use Rattle.gate_world.proofs.Coded.{calls_more}

passed_by : (q : Probe) (m : Move) → IsMove q m → (IsEnd m → ⊥) → q.passed < q.places
passed_by q (Load s) h o = h.0
passed_by q (Claim s w) h o = h.0
passed_by q (Found node) h o = absurd (o tt)
passed_by q Full h o = absurd (o tt)

module _ (p : Problem) (words seen : List ℕ) (done : List Gate) (g : Gate) (gs : List Gate) (c : Calls) (q : Probe) (h : IsAtSearch p words seen done g gs c q) where
  pub passed : q.passed < q.places
  passed = passed_by q q.last h.probing.search.move h.ongoing

  module _ (word : ℕ) (is : word ≡ word_at words (place_of q)) where
    abbrev now : List ℕ
    now = learnt seen (place_of q) word

    pub more : IsWithin seen (learnt seen (place_of q) word)
    more = learnt_keeps seen (place_of q) word (λ z. is ∙ h.within (place_of q) z)

    pub there : IsWithin (learnt seen (place_of q) word) words
    there = learnt_within words seen (place_of q) word h.within is

    pub still : IsProbing (length words) (learnt seen (place_of q) word) g (probe_after q word)
    still = probing_on (length words) words seen g q (place_of q) word h.within is h.probing passed refl

    building : IsBuilding p now done (g ∷ gs)
    building = building_more p seen now done (g ∷ gs) more h.building

    pub found_on_way : (node : ℕ) → (probe_after q word).last ≡ Found node → IsBuilding p (learnt seen (place_of q) word) (done ++ g ∷ []) gs
    found_on_way node last = found_building (length words) 0 words (λ _. Unit {0}) p now h.sound there refl h.some h.few h.scripted done g gs (probe_after q word) node building h.shallow still last

    pub found_made : (node : ℕ) → (probe_after q word).last ≡ Found node → end_of most_gates [] (done ++ g ∷ []) ≡ Made
    found_made node last = done_made (length words) 0 words (λ _. Unit {0}) p now h.sound there refl h.some h.few h.scripted (done ++ g ∷ []) gs (found_on_way node last)

    pub found_here : (node : ℕ) → (probe_after q word).last ≡ Found node → StandsIn words (record { node = node; sign = false }) (gate_edge g)
    found_here node last = stands_more now words there (gate_edge g) (record { node = node; sign = false }) (found_node (length words) 0 words (λ _. Unit {0}) p now h.sound there refl h.some h.few h.scripted g (probe_after q word) node still last)

    reads_by : (rest : List Gate) → IsBuilding p now (done ++ g ∷ []) rest → AreReadBy words now rest
    reads_by [] b = (h.sound, there)
    reads_by (x ∷ xs) b =
        let s = next_seen (length words) 0 words (λ _. Unit {0}) p now h.sound there refl h.some h.few h.scripted (done ++ g ∷ []) x xs b in
        record { sound = h.sound; within = there; left = s.0; right = s.1 }

    pub reads : (node : ℕ) → (probe_after q word).last ≡ Found node → AreReadBy words (learnt seen (place_of q) word) gs
    reads node last = reads_by gs (found_on_way node last)

pub goes_by : (p : Problem) (words : List ℕ) (work : CodeWork) (size : ℕ) (seen : List ℕ) (g : Gate) (gs : List Gate) (q : Probe) (m k : Move) → m ≡ k → ShowsWork p words work (search_goes size p seen g gs q k) → ShowsWork p words work (search_goes size p seen g gs q m)
goes_by p words work size seen g gs q m k e h = subst (λ (x : Move). ShowsWork p words work (search_goes size p seen g gs q x)) (sym e) h

-- a claim that is lost
pub claims_lost : (words : List ℕ) (a : Actor) (g : Gate) (gs : List Gate) (q : Probe) (s wanted found : ℕ) → found ≢ 0 → claims words a g gs q s wanted found ≡ record { words = words; actor = told (length words) a g gs q s found }
claims_lost words a g gs q s wanted zero n = absurd (n refl)
claims_lost words a g gs q s wanted (suc found) n = refl

-- the place of the search is one of the table
place_inside : (n from passed : ℕ) → 1 ≤ n → probed n from passed < n
place_inside n from passed h = mod-lt _ (omega arith)

module _ (p : Problem) (words seen : List ℕ) (done : List Gate) (g : Gate) (gs : List Gate) (c : Calls) (q : Probe) (h : IsAtSearch p words seen done g gs c q) where
  pub inside : place_of q < length words
  inside = subst (λ n. probed n q.from q.passed < length words) (sym h.probing.places) (place_inside (length words) q.from q.passed h.some)

  pub load_at : (s : ℕ) → q.last ≡ Load s → s ≡ place_of q
  load_at s last = let m : IsMove q (Load s) = subst (IsMove q) last h.probing.search.move in m.1

  pub claim_at : (s wanted : ℕ) → q.last ≡ Claim s wanted → (s ≡ place_of q) × (wanted ≢ 0)
  claim_at s wanted last =
      let m : IsMove q (Claim s wanted) = subst (IsMove q) last h.probing.search.move in
      (m.1, λ z. packed_some (gate_level g) h.probing.left h.probing.right (level_some g) (sym h.probing.word ∙ (sym m.2 ∙ z)))

  -- a claim that is won leaves the goal at its search
  pub claimed_search : (s wanted : ℕ) → q.last ≡ Claim s wanted → word_at words s ≡ 0 → IsAtSearch p (set words s wanted) seen done g gs c q × (wanted ≡ word_at (set words s wanted) (place_of q))
  claimed_search s wanted last none =
      let few = h.few in
      let xl = node_small seen words h.within few g.left h.probing.left h.probing.left_stands in
      let xr = node_small seen words h.within few g.right h.probing.right h.probing.right_stands in
      let may : MayClaim (length words) seen wanted s = search_claims seen (length words) (gate_level g) h.probing.left h.probing.right q s wanted h.probing.search h.probing.places h.probing.from h.probing.word xl xr h.probing.gate last in
      let more : IsWithin words (set words s wanted) = set_within words s wanted none in
      let size : length (set words s wanted) ≡ length words = length-set words s wanted in
      let at = claim_at s wanted last in
      let here : word_at (set words s wanted) s ≡ wanted = get_or-set_same words s wanted 0 (claim_place (length words) seen wanted s may) in (
        record {
          calls = calls_more p words (set words s wanted) done (g ∷ gs) c more h.calls;
          sound = claim_sound words seen wanted s h.sound h.within may none;
          some = subst (λ n. 1 ≤ n) (sym size) h.some;
          few = subst (λ n. n ≤ 4000000) (sym size) few;
          within = within_more seen words (set words s wanted) h.within more;
          scripted = h.scripted;
          building = h.building;
          shallow = h.shallow;
          probing = subst (λ n. IsProbing n seen g q) (sym size) h.probing;
          ongoing = h.ongoing;
        },
        sym here ∙ ap (word_at (set words s wanted)) at.0,
      )

-- what a load leaves
pub load_leaves : (old : List ℕ) (a : Actor) (done : List Gate) (g : Gate) (gs : List Gate) (c : Calls) (q : Probe) (s word size : ℕ) (work : CodeWork) → IsAtSearch a.problem old a.seen done g gs c q → q.last ≡ Load s → size ≡ length old → word ≡ word_at old s
    → GoesOn c q word size work → IsMovedTo (probes old a g gs q q.last) old work
load_leaves old a done g gs c q s word size work h last n is f =
    let at = load_at a.problem old a.seen done g gs c q h s last in
    let w : word ≡ word_at old (place_of q) = is ∙ ap (word_at old) at in
    let r = f a.problem old a.seen done g gs (sym n) h w in
    let G : ℕ → ℕ → ℕ → Type 0 = λ k t x. ShowsWork a.problem old work (search_goes k a.problem (learnt a.seen t x) g gs (probe_after q x) (probe_after q x).last) in
    let r1 : G (length old) (place_of q) word = subst (λ k. G k (place_of q) word) n r in
    let r2 : G (length old) s word = subst (λ t. G (length old) t word) (sym at) r1 in
    let r3 : G (length old) s (word_at old s) = subst (λ x. G (length old) s x) is r2 in
    subst (λ (m : Move). IsMovedTo (probes old a g gs q m) old work) (sym last) (refl, r3)

pub lost_leaves : (old : List ℕ) (a : Actor) (done : List Gate) (g : Gate) (gs : List Gate) (c : Calls) (q : Probe) (s wanted word size : ℕ) (work : CodeWork) → IsAtSearch a.problem old a.seen done g gs c q → q.last ≡ Claim s wanted → size ≡ length old → word ≡ word_at old s → word ≢ 0
    → GoesOn c q word size work → IsMovedTo (probes old a g gs q q.last) old work
lost_leaves old a done g gs c q s wanted word size work h last n is some f =
    let at = (claim_at a.problem old a.seen done g gs c q h s wanted last).0 in
    let w : word ≡ word_at old (place_of q) = is ∙ ap (word_at old) at in
    let r = f a.problem old a.seen done g gs (sym n) h w in
    let G : ℕ → ℕ → ℕ → Type 0 = λ k t x. ShowsWork a.problem old work (search_goes k a.problem (learnt a.seen t x) g gs (probe_after q x) (probe_after q x).last) in
    let r1 : G (length old) (place_of q) word = subst (λ k. G k (place_of q) word) n r in
    let r2 : G (length old) s word = subst (λ t. G (length old) t word) (sym at) r1 in
    let r3 : G (length old) s (word_at old s) = subst (λ x. G (length old) s x) is r2 in
    subst (λ (m : Move). IsMovedTo (probes old a g gs q m) old work) (sym last)
    (subst (λ (m : Moved). IsMovedTo m old work) (sym (claims_lost old a g gs q s wanted (word_at old s) (λ z. some (is ∙ z)))) (refl, r3))

claims_won : (words : List ℕ) (a : Actor) (g : Gate) (gs : List Gate) (q : Probe) (s wanted found : ℕ) → found ≡ 0 → claims words a g gs q s wanted found ≡ record { words = set words s wanted; actor = told (length words) a g gs q s wanted }
claims_won words a g gs q s wanted zero n = refl
claims_won words a g gs q s wanted (suc found) n = absurd (omega arith)

pub won_leaves : (old : List ℕ) (a : Actor) (done : List Gate) (g : Gate) (gs : List Gate) (c : Calls) (q : Probe) (s wanted size : ℕ) (work : CodeWork) → IsAtSearch a.problem old a.seen done g gs c q → q.last ≡ Claim s wanted → size ≡ length old → word_at old s ≡ 0
    → GoesOn c q wanted size work → IsMovedTo (probes old a g gs q q.last) (set old s wanted) work
won_leaves old a done g gs c q s wanted size work h last n none f =
    let k = claimed_search a.problem old a.seen done g gs c q h s wanted last none in
    let at = (claim_at a.problem old a.seen done g gs c q h s wanted last).0 in
    let r = f a.problem (set old s wanted) a.seen done g gs (length-set old s wanted ∙ sym n) k.0 k.1 in
    let G : ℕ → ℕ → Type 0 = λ m t. ShowsWork a.problem (set old s wanted) work (search_goes m a.problem (learnt a.seen t wanted) g gs (probe_after q wanted) (probe_after q wanted).last) in
    let r1 : G (length old) (place_of q) = subst (λ m. G m (place_of q)) n r in
    let r2 : G (length old) s = subst (λ t. G (length old) t) (sym at) r1 in
    subst (λ (m : Move). IsMovedTo (probes old a g gs q m) (set old s wanted) work) (sym last)
    (subst (λ (m : Moved). IsMovedTo m (set old s wanted) work) (sym (claims_won old a g gs q s wanted (word_at old s) none)) (refl, r2))
