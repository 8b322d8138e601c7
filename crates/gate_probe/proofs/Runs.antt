-- Whole searches, word by word.
use Rattle.std.proofs.Common.{◌≡◌, ◌≢◌, ℕ, zero, suc, ◌+◌, ◌-◌, ◌%◌, ◌<◌, ◌≤◌, List, [], ◌∷◌, length, map, slice_index_or, Bool, true, false, ◌||◌, ◌==◌, sym, refl, ap, ◌∙◌, subst, arith, if◌then◌else◌, mod-lt}
use Rattle.std.specs.List.{All, Contains, range_with_len}
use Rattle.std.proofs.lemmas.List.Elements.{All-nil, All-cons, All-head, All-tail}
use Rattle.std.proofs.Math.Nat.{mod-eq_of_lt}
use Rattle.gate_shape.specs.Literal.{Literal}
use Rattle.gate_probe.specs.declared.prober.Move.{Move}
use Rattle.gate_probe.specs.declared.prober.Move.TheVariants.{Load, Claim, Found, Full}
use Rattle.gate_probe.specs.Sound.{home, probed}
use Rattle.gate_probe.specs.Moves.{Probe, started, place_of, probe_after, MayTell, IsMove}
use Rattle.gate_probe.specs.Runs.{told, MayTellAll, sight, sights}
use Rattle.gate_probe.proofs.Searching.{move_ok}

-- a word is handed in before all places were passed
going : (p : Probe) (k : Move) (w : ℕ) → IsMove p k → MayTell k w → p.passed < p.places
going p (Load s) w m t = m.0
going p (Claim s x) w m t = m.0
going p (Found node) w m t = absurd t
going p Full w m t = absurd t

-- the search behind one more word: found, at an empty place, or past another word
abbrev found_here : Probe → Probe
found_here p = record { places = p.places; word = p.word; from = p.from; passed = p.passed; last = Found (8193 + place_of p) }

abbrev claims_here : Probe → Probe
claims_here p = record { places = p.places; word = p.word; from = p.from; passed = p.passed; last = Claim (place_of p) p.word }

abbrev passes_here : Probe → Probe
passes_here p = record { places = p.places; word = p.word; from = p.from; passed = p.passed + 1; last = if p.passed + 1 == p.places then Full else Load (probed p.places p.from (p.passed + 1)) }

one_more : (p : Probe) (w : ℕ) (P : Probe → Type 0) → (w ≡ p.word → P (found_here p)) → (w ≡ 0 → P (claims_here p)) → (w ≢ 0 → w ≢ p.word → P (passes_here p)) → P (probe_after p w)
one_more p w P found empty other = go (w == p.word) refl (w == 0) refl
  where
    go : (b : Bool) → (w == p.word) ≡ b → (c : Bool) → (w == 0) ≡ c
        → P (record {
          places = p.places;
          word = p.word;
          from = p.from;
          passed = if b || c then p.passed else p.passed + 1;
          last = if b then Found (8193 + place_of p) else if c then Claim (place_of p) p.word else if p.passed + 1 == p.places then Full else Load (probed p.places p.from (p.passed + 1));
        })
    go true e c f = found (grind arith)
    go false e true f = empty (grind arith)
    go false e false f = other (grind arith) (grind arith)

sight_none : (s w : ℕ) (later : List (ℕ × ℕ)) → w ≡ 0 → sight s w later ≡ later
sight_none s zero later e = refl
sight_none s (suc w) later e = absurd (omega (arith, e))

sight_some : (s w : ℕ) (later : List (ℕ × ℕ)) → w ≢ 0 → sight s w later ≡ (s, w) ∷ later
sight_some s zero later n = absurd (n refl)
sight_some s (suc w) later n = refl

-- what has ended is told nothing more
found_stays : (p : Probe) (node : ℕ) → p.last ≡ Found node → (words : List ℕ) → MayTellAll p words → (told p words ≡ p) × (sights p words ≡ [])
found_stays p node e [] may = (refl, refl)
found_stays p node e (w ∷ more) may = absurd (subst (λ k. MayTell k w) e may.0)

not_full : (node : ℕ) → Found node ≡ Full → ⊥
not_full node e = cc

node_of : (a b : ℕ) → Found a ≡ Found b → a ≡ b
node_of a b e = cc

pair_parts : (a b c d : ℕ) → ◌≡◌ {A = ℕ × ℕ} (a, b) (c, d) → (a ≡ c) × (b ≡ d)
pair_parts a b c d e = (ap (λ (x : ℕ × ℕ). x.0) e, ap (λ (x : ℕ × ℕ). x.1) e)

full_here : (p : Probe) (k : Move) → IsMove p k → p.passed ≡ p.places → k ≡ Full
full_here p (Load s) m e = absurd (let l = m.0 in omega (arith, e, l))
full_here p (Claim s w) m e = absurd (let l = m.0 in omega (arith, e, l))
full_here p (Found node) m e = absurd (let l = m.0 in omega (arith, e, l))
full_here p Full m e = refl

contains_here : (x y : ℕ × ℕ) (xs : List (ℕ × ℕ)) → x ≡ y → Contains (x ∷ xs) y
contains_here x y xs e = (0, omega arith, e)

contains_later : (x y : ℕ × ℕ) (xs : List (ℕ × ℕ)) → Contains xs y → Contains (x ∷ xs) y
contains_later x y xs h = (suc h.0, (let l = h.1 in omega arith), h.2)

contains_cases : (x y : ℕ × ℕ) (xs : List (ℕ × ℕ)) (P : Type 0) → (x ≡ y → P) → (Contains xs y → P) → Contains (x ∷ xs) y → P
contains_cases x y xs P here later h = go h.0 h.1 h.2
  where
    go : (k : ℕ) → k < length (x ∷ xs) → slice_index_or (x ∷ xs) k y ≡ y → P
    go zero l e = here e
    go (suc k) l e = later (k, omega arith, e)

-- the wanted word is met nowhere in a search that comes to Full, and the places are counted
pub full_seen : (p : Probe) → IsMove p p.last → (words : List ℕ) → MayTellAll p words → (told p words).last ≡ Full
    → (p.passed + length (sights p words) ≡ p.places) × All (λ s. s.1 ≢ p.word) (sights p words)
full_seen p m [] may e = (let x : p.passed ≡ p.places = subst (IsMove p) e m in omega arith, All-nil _)
full_seen p m (w ∷ more) may e =
    one_more p w
    (λ q. MayTellAll q more → (told q more).last ≡ Full
    → ((told q more).last ≡ Full → (q.passed + length (sights q more) ≡ p.places) × All (λ s. s.1 ≢ p.word) (sights q more))
    → (p.passed + length (sight (place_of p) w (sights q more)) ≡ p.places) × All (λ s. s.1 ≢ p.word) (sight (place_of p) w (sights q more)))
    (λ is t f h. let s = found_stays (found_here p) (8193 + place_of p) refl more t in absurd (not_full (8193 + place_of p) (sym (ap (λ q. q.last) s.0) ∙ f)))
    (λ is t f h. rw (sight_none (place_of p) w (sights (claims_here p) more) is) (h f))
    (λ some other t f h. rw (sight_some (place_of p) w (sights (passes_here p) more) some) (let x = (h f).0 in omega arith, All-cons (λ (s : ℕ × ℕ). s.1 ≢ p.word) (place_of p, w) _ other (h f).1))
    may.1 e (full_seen (probe_after p w) (move_ok p w (going p p.last w m may.0)) more may.1)

pub seen_full : (p : Probe) → p.word ≢ 0 → IsMove p p.last → (words : List ℕ) → MayTellAll p words → p.passed + length (sights p words) ≡ p.places
    → All (λ s. s.1 ≢ p.word) (sights p words) → (told p words).last ≡ Full
seen_full p n m [] may count others = full_here p p.last m (omega arith)
seen_full p n m (w ∷ more) may count others =
    one_more p w
    (λ q. MayTellAll q more
    → (q.passed + length (sights q more) ≡ p.places → All (λ s. s.1 ≢ p.word) (sights q more) → (told q more).last ≡ Full)
    → p.passed + length (sight (place_of p) w (sights q more)) ≡ p.places → All (λ s. s.1 ≢ p.word) (sight (place_of p) w (sights q more))
    → (told q more).last ≡ Full)
    (λ is t h. rw (sight_some (place_of p) w (sights (found_here p) more) (λ z. n (sym is ∙ z))) (λ c o. absurd (All-head (λ (s : ℕ × ℕ). s.1 ≢ p.word) (place_of p, w) _ o is)))
    (λ is t h. rw (sight_none (place_of p) w (sights (claims_here p) more) is) h)
    (λ some other t h. rw (sight_some (place_of p) w (sights (passes_here p) more) some) (λ c o. h (omega arith) (All-tail (λ (s : ℕ × ℕ). s.1 ≢ p.word) (place_of p, w) _ o)))
    may.1 (seen_full (probe_after p w) n (move_ok p w (going p p.last w m may.0)) more may.1) count others

-- the wanted word is met exactly where it is found
pub found_seen : (p : Probe) → p.word ≢ 0 → (node : ℕ) → p.last ≢ Found node → (words : List ℕ) → MayTellAll p words → (told p words).last ≡ Found node
    → (8193 ≤ node) × Contains (sights p words) (node - 8193, p.word)
found_seen p n node none [] may e = absurd (none e)
found_seen p n node none (w ∷ more) may e =
    one_more p w
    (λ q. MayTellAll q more → (told q more).last ≡ Found node
    → (q.last ≢ Found node → (8193 ≤ node) × Contains (sights q more) (node - 8193, p.word))
    → (8193 ≤ node) × Contains (sight (place_of p) w (sights q more)) (node - 8193, p.word))
    (λ is t f h.
    let s = found_stays (found_here p) (8193 + place_of p) refl more t in
    let at : 8193 + place_of p ≡ node = node_of (8193 + place_of p) node (sym (ap (λ q. q.last) s.0) ∙ f) in
    rw (sight_some (place_of p) w (sights (found_here p) more) (λ z. n (sym is ∙ z)))
    (node_low (place_of p) node at, contains_here (place_of p, w) (node - 8193, p.word) _ (λ i. (place_is (place_of p) node at i, is i))))
    (λ is t f h. rw (sight_none (place_of p) w (sights (claims_here p) more) is) (h (not_claimed (place_of p) p.word node)))
    (λ some other t f h.
    let later = h (not_passed (p.passed + 1 == p.places) (probed p.places p.from (p.passed + 1)) node) in
    rw (sight_some (place_of p) w (sights (passes_here p) more) some) (later.0, contains_later (place_of p, w) (node - 8193, p.word) _ later.1))
    may.1 e (λ other. found_seen (probe_after p w) n node other more may.1 e)
  where
    node_low : (s node : ℕ) → 8193 + s ≡ node → 8193 ≤ node
    node_low s node e = omega arith

    place_is : (s node : ℕ) → 8193 + s ≡ node → s ≡ node - 8193
    place_is s node e = omega arith

    not_claimed : (s w node : ℕ) → Claim s w ≢ Found node
    not_claimed s w node e = cc

    not_passed : (t : Bool) (s node : ℕ) → (if t then Full else Load s) ≢ Found node
    not_passed true s node e = cc
    not_passed false s node e = cc

pub seen_found : (p : Probe) → p.word ≢ 0 → (node : ℕ) → 8193 ≤ node → (words : List ℕ) → MayTellAll p words → Contains (sights p words) (node - 8193, p.word) → (told p words).last ≡ Found node
seen_found p n node low [] may h = absurd (let l = h.1 in omega (arith, l))
seen_found p n node low (w ∷ more) may h =
    one_more p w
    (λ q. MayTellAll q more → (Contains (sights q more) (node - 8193, p.word) → (told q more).last ≡ Found node)
    → Contains (sight (place_of p) w (sights q more)) (node - 8193, p.word) → (told q more).last ≡ Found node)
    (λ is t go.
    let s = found_stays (found_here p) (8193 + place_of p) refl more t in
    rw (sight_some (place_of p) w (sights (found_here p) more) (λ z. n (sym is ∙ z)), s.0, s.1)
    (contains_cases (place_of p, w) (node - 8193, p.word) [] _
    (λ e. ap (λ k. Found k) (node_is (place_of p) node low (pair_parts (place_of p) w (node - 8193) p.word e).0))
    (λ o. absurd (let l = o.1 in omega (arith, l)))))
    (λ is t go. rw (sight_none (place_of p) w (sights (claims_here p) more) is) go)
    (λ some other t go. rw (sight_some (place_of p) w (sights (passes_here p) more) some)
    (contains_cases (place_of p, w) (node - 8193, p.word) (sights (passes_here p) more) _ (λ e. absurd (other (pair_parts (place_of p) w (node - 8193) p.word e).1)) go))
    may.1 (λ o. seen_found (probe_after p w) n node low more may.1 o) h
  where
    node_is : (s node : ℕ) → 8193 ≤ node → s ≡ node - 8193 → 8193 + s ≡ node
    node_is s node l e = omega arith

-- each place is seen once, in the order of the search
pub in_order : (p : Probe) → p.word ≢ 0 → (words : List ℕ) → MayTellAll p words
    → map (λ (s : ℕ × ℕ). s.0) (sights p words) ≡ map (probed p.places p.from) (range_with_len p.passed (length (sights p words)))
in_order p n [] may = refl
in_order p n (w ∷ more) may =
    one_more p w
    (λ q. MayTellAll q more
    → map (λ (s : ℕ × ℕ). s.0) (sights q more) ≡ map (probed p.places p.from) (range_with_len q.passed (length (sights q more)))
    → map (λ (s : ℕ × ℕ). s.0) (sight (place_of p) w (sights q more)) ≡ map (probed p.places p.from) (range_with_len p.passed (length (sight (place_of p) w (sights q more)))))
    (λ is t h. let s = found_stays (found_here p) (8193 + place_of p) refl more t in rw (sight_some (place_of p) w (sights (found_here p) more) (λ z. n (sym is ∙ z)), s.1) refl)
    (λ is t h. rw (sight_none (place_of p) w (sights (claims_here p) more) is) h)
    (λ some other t h. rw (sight_some (place_of p) w (sights (passes_here p) more) some) (ap (λ l. place_of p ∷ l) h))
    may.1 (in_order (probe_after p w) n more may.1)

-- the first move of a search
at_home : (n h : ℕ) → h < n → h ≡ (h + 0) % n
at_home n h l = let z : h + 0 ≡ h = omega arith in rw z (sym (mod-eq_of_lt l))

pub start_moves : (n : ℕ) (left right : Literal) (level : ℕ) → 1 ≤ n → IsMove (started n left right level) (started n left right level).last
start_moves n left right level h = (omega arith, at_home n (home n left right) (mod-lt _ (omega arith)))

pub not_yet : (n : ℕ) (left right : Literal) (level node : ℕ) → (started n left right level).last ≢ Found node
not_yet n left right level node e = loads (home n left right) node e
  where
    loads : (s node : ℕ) → Load s ≡ Found node → ⊥
    loads s node e = cc

pub none_passed : (k n : ℕ) → 0 + k ≡ n → k ≡ n
none_passed k n e = omega arith

pub all_counted : (k n : ℕ) → k ≡ n → 0 + k ≡ n
all_counted k n e = omega arith
