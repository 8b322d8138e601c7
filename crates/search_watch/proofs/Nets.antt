-- A visit of a literal's list keeps the watches right.
use Rattle.std.proofs.Common.{◌≡◌, ◌⊎◌, ℕ, zero, suc, ◌+◌, drop, ◌<◌, ◌≤◌, true, false, List, [], ◌∷◌, ◌++◌, length, get_or, set, nat_eq, nat_le, not, ◌&&◌, cond, refl, ap, sym, ◌∙◌, subst, inl, inr, arith}
use Rattle.std.specs.Prelude.{Some}
use Rattle.std.specs.List.{All}
use Rattle.std.proofs.lemmas.Bool.{cases_Bool, cases_eq}
use Rattle.std.proofs.lemmas.List.{get_or-set_same, get_or-set_other, length-set, drop_more}
use Rattle.sat_form.specs.Literals.{Literal, member, negate, same_literal}
use Rattle.sat_form.proofs.Sets as sets
use Rattle.search_learn.specs.declared.Step.{Step}
use Rattle.search_learn.specs.Trail.{assigned, cut}
use Rattle.search_watch.specs.declared.watch.Outcome.{Outcome}
use Rattle.search_watch.specs.declared.watch.Outcome.TheVariants.{Stays, Moves, Implies, Fails}
use Rattle.search_watch.specs.Watched.{is_false, other, index_of, IsAtMost}
use Rattle.search_watch.specs.Visits.{Table, ArePairsLow, pair_at, clause_at, list_at, visit_as, visit, walk, has, outcome}
use Rattle.search_watch.specs.Nets.{Net, IsNet, IsShaped, IsThere, negated, visited, walked}
use Rattle.search_watch.proofs.Kept.{lesser-low}
use Rattle.search_watch.proofs.Looks.{begin-walk, end-walk}
use Rattle.search_watch.proofs.Moved.{calm-moved, walk-moves}
use Rattle.search_watch.proofs.Sound.{lesser-one, walk-sound}
use Rattle.search_watch.proofs.Tables.{find-all, other-low, pairs-low}
use Rattle.search_watch.proofs.Walks.{outcome-moves, walk-kept}

pub has-push_cases : (xs : List ℕ) (j i : ℕ) → has (xs ++ j ∷ []) i ≡ true → (has xs i ≡ true) ⊎ (i ≡ j)
has-push_cases [] j i h = elim (sets.one_of (nat_eq i j) false h) [ inl here ↦ inr (sets.nat_is i j here) | inr none ↦ inl none ]
has-push_cases (x ∷ xs) j i h = elim (sets.one_of (nat_eq i x) (has (xs ++ j ∷ []) i) h) [
  | inl here ↦ inl (sets.either_left (nat_eq i x) (has xs i) here)
  | inr later ↦ elim (has-push_cases xs j i later) [ inl old ↦ inl (sets.either_right (nat_eq i x) (has xs i) old) | inr e ↦ inr e ]
]

-- What stands on a trail that was cut stood on it before.
pub cut-member : (k : ℕ) (t : List Step) (x : Literal) → member (assigned (cut k t)) x ≡ true → member (assigned t) x ≡ true
cut-member k [] x h = h
cut-member k (e ∷ t) x h = elim (nat_le e.level k) as (λ b. member (assigned (cond b (e ∷ cut k t) (cut k t))) x ≡ true → member (assigned (e ∷ t)) x ≡ true) [
  | true ↦ λ has. elim (sets.one_of (same_literal x e.lit) (member (assigned (cut k t)) x) has) [
    | inl here ↦ sets.either_left (same_literal x e.lit) (member (assigned t) x) here
    | inr later ↦ sets.either_right (same_literal x e.lit) (member (assigned t) x) (cut-member k t x later)
  ]
  | false ↦ λ has. sets.either_right (same_literal x e.lit) (member (assigned t) x) (cut-member k t x has)
] h

pub cut-unfalse : (k : ℕ) (t : List Step) (w : Literal) → is_false t w ≡ false → is_false (cut k t) w ≡ false
cut-unfalse k t w h = elim (cases_Bool (is_false (cut k t) w)) as (λ _. is_false (cut k t) w ≡ false) [
  | inl wrong ↦ absurd (cc (cut-member k t (negate w) wrong))
  | inr free ↦ free
]

-- what a walk keeps of its table
pub record IsTable (vars room count : ℕ) (cs : List (List Literal)) (s : Table) : Type 0 where
  pub size : length s.pairs ≡ count
  pub lists : length s.lists ≡ room
  pub low : ArePairsLow vars s.pairs
  pub entries : (w : Literal) (i : ℕ) → has (list_at s.lists w) i ≡ true → IsThere cs i
  pub kept : (i : ℕ) → has s.kept i ≡ true → IsThere cs i
  pub least_low : (j : ℕ) → s.least ≡ Some j → j < length cs
  pub empty : (i : ℕ) → i < length cs → clause_at cs i ≡ [] → IsAtMost s.least i

module _ (vars room count : ℕ) (t : List Step) (cs : List (List Literal)) (lit : Literal) (sized : (i : ℕ) → IsThere cs i → i < count) (within : (i : ℕ) → All (λ (l : Literal). l.var ≤ vars) (clause_at cs i)) (rooms : (k : Literal) → k.var ≤ vars → index_of k < room) where
  kept-push : (s : Table) (i : ℕ) → IsThere cs i → IsTable vars room count cs s → (j : ℕ) → has (s.kept ++ i ∷ []) j ≡ true → IsThere cs j
  kept-push s i there is j h = elim (has-push_cases s.kept i j h) [ inl old ↦ is.kept j old | inr e ↦ subst (IsThere cs) (sym e) there ]

  visit-table : (s : Table) (i : ℕ) (o : Outcome) → outcome t (clause_at cs i) (other (pair_at s.pairs i) lit) ≡ o → IsThere cs i → IsTable vars room count cs s → IsTable vars room count cs (visit_as (other (pair_at s.pairs i) lit) i o s)
  visit-table s i Stays told there is = record { size = is.size; lists = is.lists; low = is.low; entries = is.entries; kept = kept-push s i there is; least_low = is.least_low; empty = is.empty }
  visit-table s i (Moves next) told there is =
      let o = other (pair_at s.pairs i) lit in
      let found = outcome-moves _ _ _ next told in
      let low : next.var ≤ vars = find-all (λ (l : Literal). l.var ≤ vars) (λ (l : Literal). not (is_false t l) && not (same_literal l o)) (clause_at cs i) next (within i) found in
      let inside : index_of next < length s.lists = subst (λ (n : ℕ). index_of next < n) (sym is.lists) (rooms next low) in
      let here : i < length s.pairs = subst (λ (n : ℕ). i < n) (sym is.size) (sized i there) in
      let new = list_at s.lists next ++ i ∷ [] in
      record {
        size = length-set s.pairs i _ ∙ is.size;
        lists = length-set s.lists (index_of next) _ ∙ is.lists;
        low = pairs-low vars s i o (Moves next) is.low here (other-low vars s.pairs i lit is.low) (λ n e. find-all (λ (l : Literal). l.var ≤ vars) (λ (l : Literal). not (is_false t l) && not (same_literal l o)) (clause_at cs i) n (within i) (outcome-moves _ _ _ n (told ∙ e)));
        entries = λ w j h. elim (cases_eq (index_of w) (index_of next)) [
          | inl e ↦
              let grown : has new j ≡ true = subst (λ (x : List ℕ). has x j ≡ true) (ap (λ (k : ℕ). get_or (set s.lists (index_of next) new) k []) e ∙ get_or-set_same s.lists (index_of next) new [] inside) h in
              elim (has-push_cases (list_at s.lists next) i j grown) [ inl old ↦ is.entries next j old | inr f ↦ subst (IsThere cs) (sym f) there ]
          | inr d ↦ is.entries w j (subst (λ (x : List ℕ). has x j ≡ true) (get_or-set_other s.lists (index_of next) (index_of w) new [] d) h)
        ];
        kept = is.kept;
        least_low = is.least_low;
        empty = is.empty;
      }
  visit-table s i Implies told there is = record { size = is.size; lists = is.lists; low = is.low; entries = is.entries; kept = kept-push s i there is; least_low = is.least_low; empty = is.empty }
  visit-table s i Fails told there is = record {
    size = is.size;
    lists = is.lists;
    low = is.low;
    entries = is.entries;
    kept = kept-push s i there is;
    least_low = λ j h. elim (lesser-one s.least i j h) [ inl e ↦ subst (λ (k : ℕ). k < length cs) (sym e) there.within | inr old ↦ is.least_low j old ];
    empty = λ j low none. lesser-low s.least i j (is.empty j low none);
  }

  pub walk-table : (rest : List ℕ) (s : Table) → ((i : ℕ) → has rest i ≡ true → IsThere cs i) → IsTable vars room count cs s → IsTable vars room count cs (walk t cs lit rest s)
  walk-table [] s each is = is
  walk-table (i ∷ rest) s each is =
      walk-table rest (visit t cs lit i s) (λ j h. each j (sets.either_right (nat_eq j i) (has rest j) h))
      (visit-table s i (outcome t (clause_at cs i) (other (pair_at s.pairs i) lit)) refl (each i (sets.either_left (nat_eq i i) (has rest i) (sets.nat_itself i))) is)

-- A literal of a clause passes what all of them pass.
pub all-member : (vars : ℕ) (k : Literal) (c : List Literal) → All (λ (l : Literal). l.var ≤ vars) c → member c k ≡ true → k.var ≤ vars
all-member vars k [] all h = absurd (cc)
all-member vars k (l ∷ c) all h = elim (sets.one_of (same_literal k l) (member c k) h) [
  | inl here ↦ subst (λ (x : Literal). x.var ≤ vars) (sym (sets.same_is k l here)) (all 0 l (omega arith))
  | inr deep ↦ all-member vars k c (λ i d lt. all (suc i) d (omega arith)) deep
]

-- A list that was taken out is empty.
pub taken-out : (cs : List (List Literal)) (ls : List (List ℕ)) (lit w : Literal) (i : ℕ) → index_of lit < length ls → ((v : Literal) (j : ℕ) → has (list_at ls v) j ≡ true → IsThere cs j) → has (list_at (set ls (index_of lit) []) w) i ≡ true → IsThere cs i
taken-out cs ls lit w i room entries h = elim (cases_eq (index_of w) (index_of lit)) [
  | inl e ↦ absurd (cc (subst (λ (x : List ℕ). has x i ≡ true) (ap (λ (k : ℕ). get_or (set ls (index_of lit) []) k []) e ∙ get_or-set_same ls (index_of lit) [] [] room) h))
  | inr d ↦ entries w i (subst (λ (x : List ℕ). has x i ≡ true) (get_or-set_other ls (index_of lit) (index_of w) [] [] d) h)
]

module _ (vars : ℕ) (t : List Step) (lit : Literal) (later : List Literal) (n : Net) (wrong : is_false t lit ≡ true) (low : lit.var ≤ vars) where
  abbrev start : Table
  start = record { pairs = n.pairs; lists = set n.lists (index_of lit) []; units = n.units; least = n.least; kept = [] }

  pub visit-shape : IsShaped vars n → ((j : ℕ) → n.least ≡ Some j → j < length n.clauses) → ((i : ℕ) → i < length n.clauses → clause_at n.clauses i ≡ [] → IsAtMost n.least i) → IsTable vars (length n.lists) (length n.pairs) n.clauses (walked t lit n)
  visit-shape shape least_low empty =
      walk-table vars (length n.lists) (length n.pairs) t n.clauses lit shape.size shape.within shape.room (list_at n.lists lit) start (λ i h. shape.entries lit i h)
      (record {
        size = refl;
        lists = length-set n.lists (index_of lit) [];
        low = shape.low;
        entries = λ w i h. taken-out n.clauses n.lists lit w i (shape.room lit low) shape.entries h;
        kept = λ i h. absurd (cc);
        least_low = least_low;
        empty = empty;
      })

  pub visit-net : IsNet vars t (lit ∷ later) n → IsNet vars t later (visited t lit n)
  visit-net is =
      let shape = is.shape in
      let table = visit-shape shape is.least_low is.empty in
      let s = walked t lit n in
      let members : (j : ℕ) (k : Literal) → member (clause_at n.clauses j) k ≡ true → index_of k < length start.lists =
      λ j k h. subst (λ (m : ℕ). index_of k < m) (sym (length-set n.lists (index_of lit) [])) (shape.room k (all-member vars k (clause_at n.clauses j) (shape.within j) h)) in
      let inside : (i : ℕ) → IsThere n.clauses i → i < length n.pairs = shape.size in
      let room : index_of lit < length s.lists = subst (λ (m : ℕ). index_of lit < m) (sym table.lists) (shape.room lit low) in
      let looked = λ (i : ℕ) (there : IsThere n.clauses i). end-walk t (clause_at n.clauses i) lit later i (pair_at s.pairs i) s.lists s.kept _ room
      (walk-kept t n.clauses lit later wrong (list_at n.lists lit) start i (inside i there) members (begin-walk t (clause_at n.clauses i) lit later i (pair_at n.pairs i) n.lists _ (is.looked i there))) in
      record {
        shape = record {
          size = λ i there. subst (λ (m : ℕ). i < m) (sym table.size) (shape.size i there);
          aligned = λ some. table.size ∙ shape.aligned some;
          room = λ k h. subst (λ (m : ℕ). index_of k < m) (sym (length-set s.lists (index_of lit) s.kept ∙ table.lists)) (shape.room k h);
          within = shape.within;
          low = table.low;
          entries = λ w i h. elim (cases_eq (index_of w) (index_of lit)) [
            | inl e ↦ table.kept i (subst (λ (x : List ℕ). has x i ≡ true) (ap (λ (k : ℕ). get_or (set s.lists (index_of lit) s.kept) k []) e ∙ get_or-set_same s.lists (index_of lit) s.kept [] room) h)
            | inr d ↦ table.entries w i (subst (λ (x : List ℕ). has x i ≡ true) (get_or-set_other s.lists (index_of lit) (index_of w) s.kept [] d) h)
          ];
        };
        looked = looked;
        calm = λ i there k under. calm-moved t (cut k t) (clause_at n.clauses i) (pair_at n.pairs i) (pair_at s.pairs i) (is.looked i there).pair (looked i there).pair (cut-unfalse k t)
            (λ w watched. walk-moves t n.clauses lit (list_at n.lists lit) start i w (inside i there) watched) (is.calm i there k under);
        sound = walk-sound t n.clauses lit (list_at n.lists lit) start (λ i h. let there = shape.entries lit i h in (inside i there, (is.looked i there).pair)) is.sound;
        least_low = table.least_low;
        empty = table.empty;
        fresh = is.fresh;
      }

-- An entry's literal is true.
pub stands-at : (t : List Step) (i : ℕ) (e : Step) → i < length t → e ≡ get_or t i e → member (assigned t) e.lit ≡ true
stands-at [] i e low is = absurd (omega arith)
stands-at (x ∷ t) zero e low is = sets.either_left (same_literal e.lit x.lit) (member (assigned t) e.lit) (subst (λ (y : Step). same_literal e.lit y.lit ≡ true) is (sets.same_itself e.lit))
stands-at (x ∷ t) (suc i) e low is = sets.either_right (same_literal e.lit x.lit) (member (assigned t) e.lit) (stands-at t i e (omega arith) is)

-- One entry more was looked at.
pub look-step : (vars : ℕ) (t : List Step) (at : ℕ) (e : Step) (lit : Literal) (n new : Net) → at < length t → e ≡ get_or t at e → lit ≡ negate e.lit → lit.var ≤ vars → IsNet vars t (negated (drop at t)) n → new ≡ visited t lit n
    → IsNet vars t (negated (drop (at + 1) t)) new
look-step vars t at e lit n new low here is within net visit =
    let later = negated (drop (at + 1) t) in
    let wrong : is_false t lit ≡ true = ap (λ (x : Literal). member (assigned t) (negate x)) is ∙ ap (member (assigned t)) (sets.negate_twice e.lit) ∙ stands-at t at e low here in
    let split : negated (drop at t) ≡ lit ∷ later = ap negated (drop_more t at e low ∙ ap (λ (x : Step). x ∷ drop (at + 1) t) (sym here)) ∙ ap (λ (x : Literal). x ∷ later) (sym is) in
    subst (IsNet vars t later) (sym visit) (visit-net vars t lit later n wrong within (subst (λ (l : List Literal). IsNet vars t l n) split net))
