-- The code's lists and pairs as a table.
use Rattle.std.proofs.Common.{◌≡◌, ℕ, zero, suc, nat_eq, take, ◌+◌, ◌-◌, ◌<◌, ◌≤◌, Bool, true, false, List, [], ◌∷◌, ◌++◌, length, get_or, set, drop, refl, ap, sym, ◌∙◌, subst, inl, inr, arith, cond}
use Rattle.std.specs.Prelude.{Some}
use Rattle.std.specs.List.{All, find}
use Rattle.std.specs.declared.vec.Vec.{Vec}
use Rattle.std.specs.declared.alloc.Global.{Global}
use Rattle.std.proofs.lemmas.Bool.{cases_eq}
use Rattle.std.proofs.lemmas.List.{get_or-set_same, get_or-set_other, get_or_default, map-set, length-map, drop-drop, get_or-drop}
use Rattle.std.proofs.Math.ListN.{get_or-map}
use Rattle.std.proofs.Math.Seq.{drop-cons}
use Rattle.sat_form.specs.Literals.{Literal}
use Rattle.search_learn.specs.declared.Step.{Step}
use Rattle.search_watch.specs.declared.watch.Pair.{Pair}
use Rattle.search_watch.specs.declared.watch.Outcome.{Outcome}
use Rattle.search_watch.specs.declared.watch.Outcome.TheVariants.{Stays, Moves, Implies, Fails}
use Rattle.sat_form.proofs.Sets as sets
use Rattle.search_watch.specs.declared.watch.Found.{Found}
use Rattle.search_watch.specs.declared.watches.Watches.{Watches}
use Rattle.search_watch.specs.Nets.{Net, back_in, net, visited, walked}
use Rattle.search_watch.specs.Watched.{other, index_of}
use Rattle.search_watch.specs.Visits.{Table, pair_at, entries_of, has, list_at, table, visit_as, no_pair, visit, walk, ArePairsLow}
use Rattle.search_watch.proofs.Kept.{other-watches}

-- What is found passes what all pass.
pub find-all : (P : Literal → Type 0) (p : Literal → Bool) (c : List Literal) (x : Literal) → All P c → find p c ≡ Some x → P x
find-all P p [] x all is = absurd (cc)
find-all P p (k ∷ c) x all is =
    elim (p k) as (λ b. cond b (Some k) (find p c) ≡ Some x → P x) [
      | true ↦ λ here. let e : k ≡ x = cc in subst (λ (y : Literal). P y) e (all 0 k (omega arith))
      | false ↦ λ later. find-all P p c x (λ j d lt. all (suc j) d (omega arith)) later
    ] is

-- A push into one of the lists.
pub pushed : (ls : List (Vec ℕ Global)) (i j : ℕ) (v new : Vec ℕ Global) (clause : ℕ) → j ≡ i → i < length ls → new.items ≡ (get_or ls j v).items ++ clause ∷ []
    → entries_of (set ls j new) ≡ set (entries_of ls) i (get_or (entries_of ls) i [] ++ clause ∷ [])
pushed ls i j v new clause e inside is =
    let items = λ (x : Vec ℕ Global). x.items in
    let size : i < length (entries_of ls) = subst (λ (n : ℕ). i < n) (sym (length-map ls items)) inside in
    let old : (get_or ls j v).items ≡ get_or (entries_of ls) i [] = ap (λ (k : ℕ). (get_or ls k v).items) e ∙ sym (get_or-map items ls i v) ∙ get_or_default (entries_of ls) i v.items [] size in
    map-set items ls j new ∙ (λ k. set (entries_of ls) (e k) ((is ∙ ap (λ (x : List ℕ). x ++ clause ∷ []) old) k))

-- Pairs stay within the variables.
pub pairs-low : (n : ℕ) (s : Table) (i : ℕ) (o : Literal) (seen : Outcome) → ArePairsLow n s.pairs → i < length s.pairs → o.var ≤ n → ((next : Literal) → seen ≡ Moves next → next.var ≤ n) → ArePairsLow n (visit_as o i seen s).pairs
pairs-low n s i o Stays low inside a b = low
pairs-low n s i o (Moves next) low inside a b = λ j. elim (cases_eq j i) as (λ _. ((pair_at (set s.pairs i (record { first = o; second = next })) j).first.var ≤ n) × ((pair_at (set s.pairs i (record { first = o; second = next })) j).second.var ≤ n)) [
  | inl e ↦
      let new : Pair = record { first = o; second = next } in
      let here : pair_at (set s.pairs i new) j ≡ new = ap (λ (k : ℕ). pair_at (set s.pairs i new) k) e ∙ get_or-set_same s.pairs i new no_pair inside in
      subst (λ (p : Pair). (p.first.var ≤ n) × (p.second.var ≤ n)) (sym here) (a, b next refl)
  | inr d ↦
      let new : Pair = record { first = o; second = next } in
      subst (λ (p : Pair). (p.first.var ≤ n) × (p.second.var ≤ n)) (sym (get_or-set_other s.pairs i j new no_pair d)) (low j)
]
pairs-low n s i o Implies low inside a b = low
pairs-low n s i o Fails low inside a b = low

pub other-low : (n : ℕ) (ps : List Pair) (i : ℕ) (lit : Literal) → ArePairsLow n ps → (other (pair_at ps i) lit).var ≤ n
other-low n ps i lit low = elim (other-watches (pair_at ps i) lit) as (λ _. (other (pair_at ps i) lit).var ≤ n) [
  | inl e ↦ subst (λ (x : Literal). x.var ≤ n) (sym e) (low i).0
  | inr e ↦ subst (λ (x : Literal). x.var ≤ n) (sym e) (low i).1
]

-- What is left of the list behind the place that was visited.
pub rest-same : (kept at : ℕ) (xs ys : List ℕ) → kept ≤ at → drop (kept + 1) ys ≡ drop (kept + 1) xs → drop (at + 1) ys ≡ drop (at + 1) xs
rest-same kept at xs ys low same =
    let e : kept + 1 + (at - kept) ≡ at + 1 = omega arith in
    subst (λ (k : ℕ). drop k ys ≡ drop k xs) e (sym (drop-drop (at - kept) (kept + 1) ys) ∙ ap (drop (at - kept)) same ∙ drop-drop (at - kept) (kept + 1) xs)

-- One step of the walk.
pub walk-step : (t : List Step) (cs : List (List Literal)) (lit : Literal) (at clause : ℕ) (xs ys : List ℕ) (s new whole : Table) → at < length xs → clause ≡ get_or xs at clause
    → drop (at + 1) ys ≡ drop (at + 1) xs → new ≡ visit t cs lit clause s → walk t cs lit (drop at xs) s ≡ whole → walk t cs lit (drop (at + 1) ys) new ≡ whole
walk-step t cs lit at clause xs ys s new whole inside read same is before =
    let next : suc at ≡ at + 1 = omega arith in
    let cons : drop at xs ≡ clause ∷ drop (at + 1) xs = drop-cons xs at clause inside ∙ (λ k. sym read k ∷ drop (next k) xs) in
    (λ k. walk t cs lit (same k) (is k)) ∙ sym (ap (λ (l : List ℕ). walk t cs lit l s) cons) ∙ before

pub rest-read : (n k : ℕ) (xs ys : List ℕ) → drop n ys ≡ drop n xs → n ≤ k → get_or ys k 0 ≡ get_or xs k 0
rest-read n k xs ys same low =
    let e : n + (k - n) ≡ k = omega arith in
    subst (λ (j : ℕ). get_or ys j 0 ≡ get_or xs j 0) e (sym (get_or-drop n ys (k - n) 0) ∙ ap (λ (l : List ℕ). get_or l (k - n) 0) same ∙ get_or-drop n xs (k - n) 0)

-- A list that is taken out of its place.
pub taken-list : (ls : List (Vec ℕ Global)) (lit : Literal) (at : ℕ) (v : Vec ℕ Global) → at ≡ index_of lit → index_of lit < length ls → v ≡ get_or ls at v → v.items ≡ list_at (entries_of ls) lit
taken-list ls lit at v e inside is =
    let items = λ (x : Vec ℕ Global). x.items in
    let size : index_of lit < length (entries_of ls) = subst (λ (n : ℕ). index_of lit < n) (sym (length-map ls items)) inside in
    ap items is ∙ ap (λ (k : ℕ). (get_or ls k v).items) e ∙ sym (get_or-map items ls (index_of lit) v) ∙ get_or_default (entries_of ls) (index_of lit) v.items [] size

-- The code's visit of a list.
pub visit-code : (w : Watches) (t : List Step) (lit : Literal) (at kept : ℕ) (ps0 ps1 : List Pair) (ls0 ls1 : List (Vec ℕ Global)) (f : Found) (es0 es1 : List ℕ) (out back : Vec ℕ Global) → at ≡ index_of lit → ps0 ≡ w.pairs.items
    → ls0 ≡ set w.lists.items at out → out.items ≡ [] → es0 ≡ list_at (entries_of w.lists.items) lit → table ps1 ls1 f (take kept es1) ≡ walk t w.clauses lit es0 (table ps0 ls0 w.found []) → back.items ≡ take kept es1
    → ◌≡◌ {A = Net} (record { clauses = w.clauses; pairs = ps1; lists = entries_of (set ls1 at back); units = f.units.items; least = f.false_clause }) (visited t lit (net w))
visit-code w t lit at kept ps0 ps1 ls0 ls1 f es0 es1 out back place pairs lists none taken walks returned =
    let items = λ (x : Vec ℕ Global). x.items in
    let before : entries_of ls0 ≡ set (entries_of w.lists.items) (index_of lit) [] = ap entries_of lists ∙ map-set items w.lists.items at out ∙ (λ i. set (entries_of w.lists.items) (place i) (none i)) in
    let new : table ps1 ls1 f (take kept es1) ≡ walked t lit (net w) = walks ∙ (λ i. walk t w.clauses lit (taken i) (record { pairs = pairs i; lists = before i; units = w.found.units.items; least = w.found.false_clause; kept = [] })) in
    let after : entries_of (set ls1 at back) ≡ set (entries_of ls1) (index_of lit) (take kept es1) = map-set items ls1 at back ∙ (λ i. set (entries_of ls1) (place i) (returned i)) in
    (λ i. record { clauses = w.clauses; pairs = ps1; lists = after i; units = f.units.items; least = f.false_clause }) ∙ ap (back_in w.clauses lit) new

pub has-at : (xs : List ℕ) (k d : ℕ) → k < length xs → has xs (get_or xs k d) ≡ true
has-at [] k d h = absurd (omega arith)
has-at (x ∷ xs) zero d h = sets.either_left (nat_eq x x) (has xs x) (sets.nat_itself x)
has-at (x ∷ xs) (suc k) d h = sets.either_right (nat_eq (get_or xs k d) x) (has xs (get_or xs k d)) (has-at xs k d (omega arith))
