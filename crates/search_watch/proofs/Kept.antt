-- A visit keeps what holds of each clause.
use Rattle.std.proofs.Common.{◌≡◌, ◌≢◌, ◌⊎◌, ℕ, ◌<◌, ◌≤◌, Bool, true, false, List, [], ◌∷◌, ◌++◌, length, get_or, set, nat_eq, nat_lt, refl, ap, sym, ◌∙◌, subst, inl, inr, arith, if◌then◌else◌}
use Rattle.std.specs.Prelude.{Some, None}
use Rattle.std.specs.declared.option.Option.{Option}
use Rattle.std.proofs.lemmas.Bool.{cases_Bool, cases_eq}
use Rattle.std.proofs.lemmas.List.{get_or-set_same, get_or-set_other}
use Rattle.std.proofs.lemmas.List.Elements.{Contains-append_left}
use Rattle.sat_form.specs.Literals.{Literal, member, same_literal}
use Rattle.sat_form.proofs.Sets as sets
use Rattle.search_learn.specs.declared.Step.{Step}
use Rattle.search_learn.specs.Trail.{is_true, is_assigned}
use Rattle.search_learn.proofs.Decisions.{clash, member_any}
use Rattle.search_watch.specs.declared.watch.Pair.{Pair}
use Rattle.search_watch.specs.declared.watch.UnitClause.{UnitClause}
use Rattle.search_watch.specs.Watched.{is_false, is_satisfied, replacement, other, index_of, lesser, IsPair, IsAtMost, IsNoted, Watches}
use Rattle.search_watch.specs.Visits.{list_at, has, IsKeptAs}
use Rattle.search_watch.proofs.Visits.{replacement-some}

-- Membership in a list of numbers.
pub has-push : (xs : List ℕ) (i : ℕ) → has (xs ++ i ∷ []) i ≡ true
has-push [] i = sets.either_left (nat_eq i i) false (sets.nat_itself i)
has-push (x ∷ xs) i = sets.either_right (nat_eq i x) (has (xs ++ i ∷ []) i) (has-push xs i)

pub has-more : (xs : List ℕ) (j i : ℕ) → has xs i ≡ true → has (xs ++ j ∷ []) i ≡ true
has-more [] j i h = absurd (cc)
has-more (x ∷ xs) j i h = elim (sets.one_of (nat_eq i x) (has xs i) h) as (λ _. has ((x ∷ xs) ++ j ∷ []) i ≡ true) [
  | inl here ↦ sets.either_left (nat_eq i x) (has (xs ++ j ∷ []) i) here
  | inr later ↦ sets.either_right (nat_eq i x) (has (xs ++ j ∷ []) i) (has-more xs j i later)
]

pub has-rest : (i0 : ℕ) (rest : List ℕ) (i : ℕ) → has (i0 ∷ rest) i ≡ true → (i ≡ i0) ⊎ (has rest i ≡ true)
has-rest i0 rest i h = elim (sets.one_of (nat_eq i i0) (has rest i) h) as (λ _. (i ≡ i0) ⊎ (has rest i ≡ true)) [
  | inl here ↦ inl (sets.nat_is i i0 here)
  | inr later ↦ inr later
]

-- A list that grew keeps its members.
pub list-grown : (ls : List (List ℕ)) (next w : Literal) (j i : ℕ) → index_of next < length ls → has (list_at ls w) i ≡ true → has (list_at (set ls (index_of next) (list_at ls next ++ j ∷ [])) w) i ≡ true
list-grown ls next w j i room h = elim (cases_eq (index_of w) (index_of next)) as (λ _. has (list_at (set ls (index_of next) (list_at ls next ++ j ∷ [])) w) i ≡ true) [
  | inl e ↦
      let same : get_or (set ls (index_of next) (list_at ls next ++ j ∷ [])) (index_of w) [] ≡ list_at ls next ++ j ∷ [] = ap (λ (k : ℕ). get_or (set ls (index_of next) (list_at ls next ++ j ∷ [])) k []) e ∙ get_or-set_same ls (index_of next) (list_at ls next ++ j ∷ []) [] room in
      let old : has (list_at ls next) i ≡ true = subst (λ (k : ℕ). has (get_or ls k []) i ≡ true) e h in
      subst (λ (x : List ℕ). has x i ≡ true) (sym same) (has-more (list_at ls next) j i old)
  | inr d ↦ subst (λ (x : List ℕ). has x i ≡ true) (sym (get_or-set_other ls (index_of next) (index_of w) (list_at ls next ++ j ∷ []) [] d)) h
]

pub list-pushed : (ls : List (List ℕ)) (next : Literal) (j : ℕ) → index_of next < length ls → has (list_at (set ls (index_of next) (list_at ls next ++ j ∷ [])) next) j ≡ true
list-pushed ls next j room = subst (λ (x : List ℕ). has x j ≡ true) (sym (get_or-set_same ls (index_of next) (list_at ls next ++ j ∷ []) [] room)) (has-push (list_at ls next) j)

-- What was noted stays so.
lesser-low_by : (j i k : ℕ) (b : Bool) → nat_lt i j ≡ b → j ≤ k → IsAtMost (if b then Some i else Some j) k
lesser-low_by j i k true is low = let h : i < j = grind arith in omega arith
lesser-low_by j i k false is low = low

pub lesser-low : (o : Option ℕ) (i k : ℕ) → IsAtMost o k → IsAtMost (lesser o i) k
lesser-low None i k h = absurd h
lesser-low (Some j) i k h = lesser-low_by j i k (nat_lt i j) refl h

lesser-here_by : (j i : ℕ) (b : Bool) → nat_lt i j ≡ b → IsAtMost (if b then Some i else Some j) i
lesser-here_by j i true is = omega arith
lesser-here_by j i false is = let h : j ≤ i = grind arith in h

pub lesser-here : (o : Option ℕ) (i : ℕ) → IsAtMost (lesser o i) i
lesser-here None i = omega arith
lesser-here (Some j) i = lesser-here_by j i (nat_lt i j) refl

pub noted-fewer : (t : List Step) (c : List Literal) (us : List UnitClause) (o : Option ℕ) (i j : ℕ) → IsNoted t c us o i → IsNoted t c us (lesser o j) i
noted-fewer t c us o i j (inl n) = inl (record { is = n.is; at_most = lesser-low o j i n.at_most })
noted-fewer t c us o i j (inr n) = inr n

pub noted-more : (t : List Step) (c : List Literal) (us : List UnitClause) (o : Option ℕ) (i : ℕ) (u : UnitClause) → IsNoted t c us o i → IsNoted t c (us ++ u ∷ []) o i
noted-more t c us o i u (inl n) = inl n
noted-more t c us o i u (inr n) = inr (record { lit = n.lit; is = n.is; listed = Contains-append_left us (u ∷ []) _ n.listed })

-- The watched literal beside the false one is a watched literal, and it isn't the false one unless the clause has no other.
pub other-watches : (p : Pair) (lit : Literal) → Watches p (other p lit)
other-watches p lit = elim (cases_Bool (same_literal p.first lit)) as (λ _. Watches p (other p lit)) [
  | inl e ↦ inr (ap (λ (b : Bool). if b then p.second else p.first) e)
  | inr e ↦ inl (ap (λ (b : Bool). if b then p.second else p.first) e)
]

pub watches-member : (c : List Literal) (p : Pair) (w : Literal) → IsPair c p → Watches p w → member c w ≡ true
watches-member c p w pair (inl e) = subst (λ (x : Literal). member c x ≡ true) (sym e) pair.first
watches-member c p w pair (inr e) = subst (λ (x : Literal). member c x ≡ true) (sym e) pair.second

-- where another literal of the clause can be watched
pub other-apart : (c : List Literal) (p : Pair) (lit next : Literal) → IsPair c p → member c next ≡ true → same_literal next (other p lit) ≡ false → other p lit ≢ lit
other-apart c p lit next pair here apart = λ e. elim (cases_Bool (same_literal p.first lit)) as (λ _. ⊥) [
  | inl one ↦
      let o : other p lit ≡ p.second = ap (λ (b : Bool). if b then p.second else p.first) one in
      let first : p.first ≡ lit = sets.same_is p.first lit one in
      let same : p.first ≡ p.second = first ∙ sym e ∙ o in
      let n : next ≡ other p lit = pair.one same next here ∙ same ∙ sym o in
      clash (same_literal next (other p lit)) (subst (λ (x : Literal). same_literal next x ≡ true) n (sets.same_itself next)) apart
  | inr two ↦
      let o : other p lit ≡ p.first = ap (λ (b : Bool). if b then p.second else p.first) two in
      clash (same_literal p.first lit) (subst (λ (x : Literal). same_literal x lit ≡ true) (sym e ∙ o) (sets.same_itself lit)) two
]

-- The clauses beside the one that is visited.
pub kept-other : (t : List Step) (c : List Literal) (lit : Literal) (later : List Literal) (rest : List ℕ) (i0 i : ℕ) (p : Pair) (ls ls2 : List (List ℕ)) (kept kept2 : List ℕ) (noted noted2 : Type 0) → i ≢ i0
    → ((w : Literal) → has (list_at ls w) i ≡ true → has (list_at ls2 w) i ≡ true) → (has kept i ≡ true → has kept2 i ≡ true) → (noted → noted2)
    → IsKeptAs t c lit later (i0 ∷ rest) i p ls kept noted → IsKeptAs t c lit later rest i p ls2 kept2 noted2
kept-other t c lit later rest i0 i p ls ls2 kept kept2 noted noted2 apart grown stayed still is =
    let shorter = λ (h : has (i0 ∷ rest) i ≡ true). elim (has-rest i0 rest i h) as (λ _. has rest i ≡ true) [ inl e ↦ absurd (apart e) | inr later ↦ later ] in
    record {
      pair = is.pair;
      listed = λ w watched d. grown w (is.listed w watched d);
      walked = λ watched. elim (is.walked watched) as (λ _. (has kept2 i ≡ true) ⊎ (has rest i ≡ true)) [ inl h ↦ inl (stayed h) | inr h ↦ inr (shorter h) ];
      excused = λ w watched wrong. elim (is.excused w watched wrong) as (λ _. (is_satisfied t c ≡ true) ⊎ (noted2 ⊎ ((member later w ≡ true) ⊎ ((w ≡ lit) × (has rest i ≡ true))))) [
        | inl some ↦ inl some
        | inr (inl n) ↦ inr (inl (still n))
        | inr (inr (inl h)) ↦ inr (inr (inl h))
        | inr (inr (inr two)) ↦ inr (inr (inr (two.0, shorter two.1)))
      ];
      one = λ e. elim (is.one e) as (λ _. (is_assigned t p.first ≡ true) ⊎ noted2) [ inl h ↦ inl h | inr n ↦ inr (still n) ];
    }

-- The visited clause, where its other watched literal is true.
pub kept-true : (t : List Step) (c : List Literal) (lit : Literal) (later : List Literal) (rest : List ℕ) (i : ℕ) (p : Pair) (ls : List (List ℕ)) (kept : List ℕ) (noted : Type 0) → is_true t (other p lit) ≡ true
    → IsKeptAs t c lit later (i ∷ rest) i p ls kept noted → IsKeptAs t c lit later rest i p ls (kept ++ i ∷ []) noted
kept-true t c lit later rest i p ls kept noted held is =
    let some : is_satisfied t c ≡ true = member_any (is_true t) c (other p lit) (watches-member c p (other p lit) is.pair (other-watches p lit)) held in
    record {
      pair = is.pair;
      listed = is.listed;
      walked = λ _. inl (has-push kept i);
      excused = λ w watched wrong. inl some;
      one = is.one;
    }

-- where it is noted
pub kept-noted : (t : List Step) (c : List Literal) (lit : Literal) (later : List Literal) (rest : List ℕ) (i : ℕ) (p : Pair) (ls : List (List ℕ)) (kept : List ℕ) (noted noted2 : Type 0) → noted2
    → IsKeptAs t c lit later (i ∷ rest) i p ls kept noted → IsKeptAs t c lit later rest i p ls (kept ++ i ∷ []) noted2
kept-noted t c lit later rest i p ls kept noted noted2 now is = record {
  pair = is.pair;
  listed = is.listed;
  walked = λ _. inl (has-push kept i);
  excused = λ w watched wrong. inr (inl now);
  one = λ _. inr now;
}

-- where another literal is watched
pub kept-moved : (t : List Step) (c : List Literal) (lit : Literal) (later : List Literal) (rest : List ℕ) (i : ℕ) (p : Pair) (ls : List (List ℕ)) (kept : List ℕ) (noted : Type 0) (next : Literal)
    → is_false t lit ≡ true → replacement t c (other p lit) ≡ Some next → index_of next < length ls
    → IsKeptAs t c lit later (i ∷ rest) i p ls kept noted → IsKeptAs t c lit later rest i (record { first = other p lit; second = next }) (set ls (index_of next) (list_at ls next ++ i ∷ [])) kept noted
kept-moved t c lit later rest i p ls kept noted next wrong found room is =
    let o = other p lit in
    let new = replacement-some t c o next found in
    let apart : o ≢ lit = other-apart c p lit next is.pair new.0 new.2 in
    let differ : o ≢ next = λ e. clash (same_literal next o) (subst (λ (x : Literal). same_literal next x ≡ true) (sym e) (sets.same_itself next)) new.2 in
    let unfalse : next ≢ lit = λ e. clash (is_false t lit) wrong (subst (λ (x : Literal). is_false t x ≡ false) e new.1) in
    record {
      pair = record { first = watches-member c p o is.pair (other-watches p lit); second = new.0; one = λ e. absurd (differ e) };
      listed = λ w watched d. elim watched as (λ _. has (list_at (set ls (index_of next) (list_at ls next ++ i ∷ [])) w) i ≡ true) [
        | inl e ↦ list-grown ls next w i i room (is.listed w (subst (λ (x : Literal). Watches p x) (sym e) (other-watches p lit)) d)
        | inr e ↦ subst (λ (x : Literal). has (list_at (set ls (index_of next) (list_at ls next ++ i ∷ [])) x) i ≡ true) (sym e) (list-pushed ls next i room)
      ];
      walked = λ watched. elim watched as (λ _. (has kept i ≡ true) ⊎ (has rest i ≡ true)) [ inl e ↦ absurd (apart (sym e)) | inr e ↦ absurd (unfalse (sym e)) ];
      excused = λ w watched bad. elim watched as (λ _. (is_satisfied t c ≡ true) ⊎ (noted ⊎ ((member later w ≡ true) ⊎ ((w ≡ lit) × (has rest i ≡ true))))) [
        | inl e ↦ elim (is.excused w (subst (λ (x : Literal). Watches p x) (sym e) (other-watches p lit)) bad) as (λ _. (is_satisfied t c ≡ true) ⊎ (noted ⊎ ((member later w ≡ true) ⊎ ((w ≡ lit) × (has rest i ≡ true))))) [
          | inl some ↦ inl some
          | inr (inl n) ↦ inr (inl n)
          | inr (inr (inl h)) ↦ inr (inr (inl h))
          | inr (inr (inr two)) ↦ absurd (apart (sym e ∙ two.0))
        ]
        | inr e ↦ absurd (clash (is_false t w) bad (subst (λ (x : Literal). is_false t x ≡ false) (sym e) new.1))
      ];
      one = λ e. absurd (differ e);
    }
