-- The two literals at which a new clause is watched.
use Rattle.std.proofs.Common.{◌≡◌, ◌≢◌, ◌⊎◌, ℕ, ◌<◌, ◌≤◌, Bool, true, false, not, ◌&&◌, ◌||◌, cond, nat_le, nat_lt, List, [], ◌∷◌, ◌++◌, refl, ap, sym, ◌∙◌, subst, inl, inr, arith}
use Rattle.std.proofs.lemmas.Bool.{cases_Bool}
use Rattle.std.proofs.lemmas.Grind.{common_steps}
use Rattle.std.proofs.lemmas.List.{append_assoc}
use Rattle.sat_form.specs.Literals.{Literal, member, negate, same_literal}
use Rattle.sat_form.proofs.Sets as sets
use Rattle.search_learn.specs.declared.Step.{Step}
use Rattle.search_learn.specs.Rule.{Continues, EntryFollows}
use Rattle.search_learn.specs.Trail.{assigned, clause_false, cut, is_true, level, level_of}
use Rattle.search_learn.specs.Values.{IsOfMachine}
use Rattle.search_learn.proofs.Decisions.{clash, found_none, level_found}
use Rattle.search_watch.specs.Chosen.{IsFree, IsHighest, IsOpen, better, is_higher}
use Rattle.search_watch.specs.Watched.{IsCalmBelow, IsPair, is_false}
use Rattle.search_watch.proofs.Exact.{same_or_not}
use Rattle.search_watch.proofs.Nets.{cut-unfalse}

pub member-push : (c : List Literal) (l k : Literal) → member c k ≡ true → member (c ++ l ∷ []) k ≡ true
member-push [] l k h = absurd (cc)
member-push (x ∷ c) l k h = elim (sets.one_of (same_literal k x) (member c k) h) [
  | inl here ↦ sets.either_left (same_literal k x) (member (c ++ l ∷ []) k) here
  | inr later ↦ sets.either_right (same_literal k x) (member (c ++ l ∷ []) k) (member-push c l k later)
]

pub member-last : (c : List Literal) (l : Literal) → member (c ++ l ∷ []) l ≡ true
member-last [] l = sets.either_left (same_literal l l) false (sets.same_itself l)
member-last (x ∷ c) l = sets.either_right (same_literal l x) (member (c ++ l ∷ []) l) (member-last c l)

pub member-push_cases : (c : List Literal) (l k : Literal) → member (c ++ l ∷ []) k ≡ true → (member c k ≡ true) ⊎ (k ≡ l)
member-push_cases [] l k h = elim (sets.one_of (same_literal k l) false h) [ inl here ↦ inr (sets.same_is k l here) | inr none ↦ absurd (cc) ]
member-push_cases (x ∷ c) l k h = elim (sets.one_of (same_literal k x) (member (c ++ l ∷ []) k) h) [
  | inl here ↦ inl (sets.either_left (same_literal k x) (member c k) here)
  | inr later ↦ elim (member-push_cases c l k later) [ inl old ↦ inl (sets.either_right (same_literal k x) (member c k) old) | inr e ↦ inr e ]
]

pub highest-none : (t : List Step) (l : Literal) → IsHighest t [] l l
highest-none t l = record { beside = λ d. absurd (d refl); one = λ _ w h. absurd (cc); wrong = λ _ w h _. absurd (cc); highest = λ _ w h _. absurd (cc) }

differ : (k l : Literal) → same_literal k l ≡ false → k ≢ l
differ k l h = λ e. clash (same_literal k l) (subst (λ (x : Literal). same_literal k x ≡ true) e (sets.same_itself k)) h

module _ (t : List Step) (c : List Literal) (first best lit : Literal) (is : IsHighest t c first best) where
  keeps : (same_literal lit first ≡ true) ⊎ ((best ≢ first) × (is_higher t lit best ≡ false)) → IsHighest t (c ++ lit ∷ []) first best
  keeps why = record {
    beside = λ d. member-push c lit best (is.beside d);
    one = λ e w h. elim (member-push_cases c lit w h) [
      | inl old ↦ is.one e w old
      | inr last ↦ elim why [ inl same ↦ last ∙ sets.same_is lit first same | inr two ↦ absurd (two.0 e) ]
    ];
    wrong = λ bad w h d. elim (member-push_cases c lit w h) [
      | inl old ↦ is.wrong bad w old d
      | inr last ↦ elim why [
        | inl same ↦ absurd (d (last ∙ sets.same_is lit first same))
        | inr two ↦ subst (λ (x : Literal). is_false t x ≡ true) (sym last) (passed-false (is_false t best) (is_false t lit) _ bad two.1)
      ]
    ];
    highest = λ bad w h d. elim (member-push_cases c lit w h) [
      | inl old ↦ is.highest bad w old d
      | inr last ↦ elim why [
        | inl same ↦ absurd (d (last ∙ sets.same_is lit first same))
        | inr two ↦ subst (λ (x : Literal). level_of t x ≤ level_of t best) (sym last) (passed-low (is_false t best) (is_false t lit) (level_of t best) (level_of t lit) bad two.1)
      ]
    ];
  }
    where
      passed-false : (b l h : Bool) → b ≡ true → (b && (not l || h)) ≡ false → l ≡ true
      passed-false true true h e f = refl
      passed-false true false h e f = cc
      passed-false false l h e f = cc

      passed-low : (b l : Bool) (m n : ℕ) → b ≡ true → (b && (not l || nat_lt m n)) ≡ false → n ≤ m
      passed-low true true m n e f = grind (arith, common_steps)
      passed-low true false m n e f = cc
      passed-low false l m n e f = cc

  turns : lit ≢ first → (best ≡ first) ⊎ (is_higher t lit best ≡ true) → IsHighest t (c ++ lit ∷ []) first lit
  turns other why = record {
    beside = λ _. member-last c lit;
    one = λ e. absurd (other e);
    wrong = λ bad w h d. elim (member-push_cases c lit w h) [
      | inr last ↦ subst (λ (x : Literal). is_false t x ≡ true) (sym last) bad
      | inl old ↦ elim why [
        | inl e ↦ absurd (d (is.one e w old))
        | inr higher ↦ is.wrong (sets.both (is_false t best) _ higher).0 w old d
      ]
    ];
    highest = λ bad w h d. elim (member-push_cases c lit w h) [
      | inr last ↦ subst (λ (x : Literal). level_of t x ≤ level_of t lit) (sym last) (omega arith)
      | inl old ↦ elim why [
        | inl e ↦ absurd (d (is.one e w old))
        | inr higher ↦
            let low = is.highest (sets.both (is_false t best) _ higher).0 w old d in
            let up = taken-high (is_false t best) (is_false t lit) (level_of t best) (level_of t lit) bad higher in
            omega arith
      ]
    ];
  }
    where
      taken-high : (b l : Bool) (m n : ℕ) → l ≡ true → (b && (not l || nat_lt m n)) ≡ true → m < n
      taken-high true true m n e f = grind (arith, common_steps)
      taken-high true false m n e f = cc
      taken-high false l m n e f = cc

  pub highest-more : IsHighest t (c ++ lit ∷ []) first (better t first best lit)
  highest-more = elim (same_literal lit first) as (λ b. same_literal lit first ≡ b → IsHighest t (c ++ lit ∷ []) first (cond (not b && (same_literal best first || is_higher t lit best)) lit best)) [
    | true ↦ λ same. keeps (inl same)
    | false ↦ λ other. elim (same_literal best first) as (λ b. same_literal best first ≡ b → IsHighest t (c ++ lit ∷ []) first (cond (b || is_higher t lit best) lit best)) [
      | true ↦ λ none. turns (differ lit first other) (inl (sets.same_is best first none))
      | false ↦ λ some. elim (is_higher t lit best) as (λ b. is_higher t lit best ≡ b → IsHighest t (c ++ lit ∷ []) first (cond b lit best)) [
        | true ↦ λ higher. turns (differ lit first other) (inr higher)
        | false ↦ λ lower. keeps (inr (differ best first some, lower))
      ] refl
    ] refl
  ] refl

-- the level of what an entry makes false
pub level-entry : (lits_of : ℕ → List Literal) (vars : ℕ) (trail b c : List Step) (e : Step) → trail ≡ b ++ e ∷ c → EntryFollows lits_of vars b e → level_of trail (negate e.lit) ≡ e.level
level-entry lits_of vars trail b c e split f =
    let parts = sets.neither (is_true b e.lit) (is_false b e.lit) f.new in
    ap (λ (t : List Step). level_of t (negate e.lit)) split ∙ level_found b c e (negate e.lit) (found_none b e.lit parts.0 parts.1) (sets.nat_itself e.lit.var)

-- What is false on a trail that was cut has a level up to there.
cut-level_from : (lits_of : ℕ → List Literal) (vars : ℕ) (k : ℕ) (trail b later : List Step) (l : Literal) → trail ≡ b ++ later → Continues lits_of vars b later → member (assigned (cut k later)) (negate l) ≡ true → level_of trail l ≤ k
cut-level_from lits_of vars k trail b [] l split cont h = absurd (cc)
cut-level_from lits_of vars k trail b (e ∷ later) l split cont h =
    let more : trail ≡ (b ++ e ∷ []) ++ later = split ∙ sym (append_assoc b (e ∷ []) later) in
    elim (nat_le e.level k) as (λ s. nat_le e.level k ≡ s → member (assigned (cond s (e ∷ cut k later) (cut k later))) (negate l) ≡ true → level_of trail l ≤ k) [
      | false ↦ λ _ later_has. cut-level_from lits_of vars k trail (b ++ e ∷ []) later l more cont.1 later_has
      | true ↦ λ low has. elim (sets.one_of (same_literal (negate l) e.lit) (member (assigned (cut k later)) (negate l)) has) [
        | inr deep ↦ cut-level_from lits_of vars k trail (b ++ e ∷ []) later l more cont.1 deep
        | inl here ↦
            let is : l ≡ negate e.lit = sym (sets.negate_twice l) ∙ ap negate (sets.same_is (negate l) e.lit here) in
            let own : level_of trail l ≡ e.level = ap (level_of trail) is ∙ level-entry lits_of vars trail b later e split cont.0 in
            let under : e.level ≤ k = at_most e.level k low in
            omega arith
      ]
    ] refl h
  where
    at_most : (a b : ℕ) → nat_le a b ≡ true → a ≤ b
    at_most a b h = grind (arith, common_steps)

pub cut-level : (vars k : ℕ) (t : List Step) (l : Literal) → IsOfMachine vars t → is_false (cut k t) l ≡ true → level_of t l ≤ k
cut-level vars k t l machine h = cut-level_from machine.0 vars k t [] t l refl machine.1 h

pub cut-false : (k : ℕ) (t : List Step) (l : Literal) → is_false (cut k t) l ≡ true → is_false t l ≡ true
cut-false k t l h = elim (cases_Bool (is_false t l)) as (λ _. is_false t l ≡ true) [ inl wrong ↦ wrong | inr free ↦ clash (is_false (cut k t) l) h (cut-unfalse k t l free) ]

pub pair-is : (t : List Step) (c : List Literal) (l k : Literal) → IsFree t c l → IsHighest t c l k → IsPair c (record { first = l; second = k })
pair-is t c l k free highest = record {
  first = free.member;
  second = elim (same_or_not k l) as (λ _. member c k ≡ true) [ inl e ↦ subst (λ (x : Literal). member c x ≡ true) (sym e) free.member | inr d ↦ highest.beside d ];
  one = λ e. highest.one (sym e);
}

-- Such a pair has two literals that aren't false on each earlier level.
pub open-calm : (vars : ℕ) (t : List Step) (c : List Literal) (l k : Literal) → IsOfMachine vars t → (0 < level t → IsOpen t c) → IsFree t c l → IsHighest t c l k → IsCalmBelow t c (record { first = l; second = k })
open-calm vars t c l k machine opens free highest = λ j under.
    let open_ : IsOpen t c = opens (omega arith) in
    let unfalse : is_false t l ≡ false = elim (cases_Bool (is_false t l)) as (λ _. is_false t l ≡ false) [ inl bad ↦ clash (clause_false t c) (free.free bad) open_.free | inr h ↦ h ] in
    let apart : open_.lit ≢ l = λ e. clash (is_false t l) (subst (λ (x : Literal). is_false t x ≡ true) e open_.wrong) unfalse in
    record {
      first = λ bad. clash (is_false t l) (cut-false j t l bad) unfalse;
      second = λ bad.
          let wrong = cut-false j t k bad in
          let low = cut-level vars j t k machine bad in
          let most = highest.highest wrong open_.lit open_.member apart in
          let here = open_.current in
          absurd (omega arith);
      one = λ e. absurd (apart (highest.one (sym e) open_.lit open_.member));
    }
