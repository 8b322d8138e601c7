-- A set of false literals as marks on their variables: a literal that is put in, and one that is taken out.
use Rattle.std.proofs.Common.{◌≡◌, ◌≢◌, ℕ, zero, suc, ◌+◌, ◌-◌, ◌*◌, ◌^◌, ◌<◌, ◌≤◌, Bool, true, false, not, ◌&&◌, ◌||◌, cond, nat_eq, nat_lt, List, [], ◌∷◌, ◌++◌, length, get_or, set, refl, ap, sym, ◌∙◌, subst, inl, inr, arith, get_or-set_other, get_or-set_same, length-set, count_by, add-zero}
use Rattle.std.specs.List.{list_any}
use Rattle.std.proofs.lemmas.Bool.{cases_Bool, cases_eq}
use Rattle.std.proofs.lemmas.List.{append-nil, append_assoc}
use Rattle.sat_form.specs.Literals.{Literal, member, same_literal, same_sign, stands_before, negate, put, put_all, without}
use Rattle.sat_form.specs.Assignment.{is_false}
use Rattle.sat_form.proofs.Sets as sets
use Rattle.search_learn.specs.declared.Step.{Step}
use Rattle.search_learn.specs.Rule.{Continues}
use Rattle.search_learn.specs.Trail.{assigned, is_assigned, level_of}
use Rattle.search_learn.specs.Values.{AreLevels, IsOfMachine}
use Rattle.search_learn.specs.Marks.{AreClear, AreMarks, AreMarksOf}
use Rattle.search_learn.proofs.Decisions.{clash}
use Rattle.search_learn.proofs.Keeps.{in_range}
use Rattle.search_learn.proofs.Ordered.{put_ordered, without_ordered}
use Rattle.search_learn.proofs.Cutting.{gone, member_last}
use Rattle.search_learn.proofs.SameSets.{put_there, count_put, count_without, other_counted, count_small}

-- No literal of a trail is true and false.
abbrev pub IsConsistent : List Step → Type 0
IsConsistent t = (l : Literal) → member (assigned t) l ≡ true → member (assigned t) (negate l) ≡ false

other_sign : (v : Bool) (a b : Bool) → (v && same_sign a b) ≡ true → (v && same_sign (not a) b) ≡ false
other_sign true true true h = refl
other_sign true true false h = absurd (clash false h refl)
other_sign true false true h = absurd (clash false h refl)
other_sign true false false h = refl
other_sign false a b h = refl

consistent_more : (b : List Step) (e : Step) → is_assigned b e.lit ≡ false → IsConsistent b → IsConsistent (b ++ e ∷ [])
consistent_more b e free sound l h =
    member_last b e (negate l)
    ∙ elim (sets.one_of (member (assigned b) l) (same_literal l e.lit) (sym (member_last b e l) ∙ h)) [
      | inl old ↦ ap (λ x. x || same_literal (negate l) e.lit) (sound l old) ∙ fresh l old
      | inr here ↦ ap (λ x. x || same_literal (negate l) e.lit) (gone b (negate l) e.lit free (sets.nat_is l.var e.lit.var (sets.both (nat_eq l.var e.lit.var) _ here).0))
          ∙ other_sign (nat_eq l.var e.lit.var) l.positive e.lit.positive here
    ]
  where
    fresh : (l : Literal) → member (assigned b) l ≡ true → same_literal (negate l) e.lit ≡ false
    fresh l old = elim (same_literal (negate l) e.lit) as (λ t. same_literal (negate l) e.lit ≡ t → t ≡ false) [
      | true ↦ λ same. absurd (clash (member (assigned b) l) old (gone b l e.lit free (sets.nat_is l.var e.lit.var (sets.both (nat_eq l.var e.lit.var) _ same).0)))
      | false ↦ λ _. refl
    ] refl

consistent_later : (clause_of : ℕ → List Literal) (vars : ℕ) (b later : List Step) → Continues clause_of vars b later → IsConsistent b → IsConsistent (b ++ later)
consistent_later clause_of vars b [] cont sound = subst IsConsistent (sym (append-nil b)) sound
consistent_later clause_of vars b (e ∷ later) cont sound =
    subst IsConsistent (append_assoc b (e ∷ []) later) (consistent_later clause_of vars (b ++ e ∷ []) later cont.1 (consistent_more b e cont.0.new sound))

pub consistent : (vars : ℕ) (t : List Step) → IsOfMachine vars t → IsConsistent t
consistent vars t machine = consistent_later machine.0 vars [] t machine.1 (λ l h. refl)

-- A false literal is of the trail's variables.
pub false_range : (vars : ℕ) (t : List Step) (l : Literal) → IsOfMachine vars t → is_false (assigned t) l ≡ true → (0 < l.var) × (l.var ≤ vars)
false_range vars t l machine wrong = in_range machine.0 vars [] t (negate l) machine.1 wrong

-- Of one variable only one literal is false.
false_one : (t : List Step) → IsConsistent t → (k l : Literal) → k.var ≡ l.var → is_false (assigned t) k ≡ true → is_false (assigned t) l ≡ true → k ≡ l
false_one t sound k l e a b = elim (cases_Bool (same_sign k.positive l.positive)) as (λ _. k ≡ l) [
  | inl s ↦ let p = sets.sign_is k.positive l.positive s in λ i. record { var = e i; positive = p i }
  | inr d ↦
      let n : negate k ≡ l = λ i. record { var = e i; positive = opposite k.positive l.positive d i } in
      absurd (clash (is_false (assigned t) l) b (sound l (subst (λ (x : Literal). member (assigned t) x ≡ true) n a)))
]
  where
    opposite : (x y : Bool) → same_sign x y ≡ false → not x ≡ y
    opposite true true h = absurd (cc)
    opposite true false h = refl
    opposite false true h = refl
    opposite false false h = absurd (cc)

pub put_here : (s : List Literal) (l : Literal) → member (put s l) l ≡ true
put_here [] l = sets.either_left (same_literal l l) false (sets.same_itself l)
put_here (k ∷ s) l = elim (stands_before l k) as (λ b. member (cond b (l ∷ k ∷ s) (cond (same_literal l k) (k ∷ s) (k ∷ put s l))) l ≡ true) [
  | true ↦ sets.either_left (same_literal l l) (member (k ∷ s) l) (sets.same_itself l)
  | false ↦ elim (same_literal l k) as (λ b. same_literal l k ≡ b → member (cond b (k ∷ s) (k ∷ put s l)) l ≡ true) [
    | true ↦ λ e. sets.either_left (same_literal l k) (member s l) e
    | false ↦ λ _. sets.either_right (same_literal l k) (member (put s l) l) (put_here s l)
  ] refl
]

put_keeps : (s : List Literal) (l k : Literal) → member s k ≡ true → member (put s l) k ≡ true
put_keeps [] l k h = absurd (cc)
put_keeps (j ∷ s) l k h = elim (stands_before l j) as (λ b. member (cond b (l ∷ j ∷ s) (cond (same_literal l j) (j ∷ s) (j ∷ put s l))) k ≡ true) [
  | true ↦ sets.either_right (same_literal k l) (member (j ∷ s) k) h
  | false ↦ elim (same_literal l j) as (λ b. member (cond b (j ∷ s) (j ∷ put s l)) k ≡ true) [
    | true ↦ h
    | false ↦ elim (sets.one_of (same_literal k j) (member s k) h) as (λ _. member (j ∷ put s l) k ≡ true) [
      | inl here ↦ sets.either_left (same_literal k j) (member (put s l) k) here
      | inr later ↦ sets.either_right (same_literal k j) (member (put s l) k) (put_keeps s l k later)
    ]
  ]
]

put_other : (s : List Literal) (l k : Literal) → k ≢ l → member (put s l) k ≡ member s k
put_other s l k d = elim (cases_Bool (member s k)) as (λ _. member (put s l) k ≡ member s k) [
  | inl h ↦ put_keeps s l k h ∙ sym h
  | inr h ↦ elim (cases_Bool (member (put s l) k)) as (λ _. member (put s l) k ≡ member s k) [
    | inr g ↦ g ∙ sym h
    | inl g ↦ elim (sets.member_put s l k g) as (λ _. member (put s l) k ≡ member s k) [ inl old ↦ absurd (clash (member s k) old h) | inr e ↦ absurd (d e) ]
  ]
]

-- What isn't put in is a member where it was one.
pub put_all_other : (s ls : List Literal) (k : Literal) → (member ls k ≡ true → ⊥) → member (put_all s ls) k ≡ member s k
put_all_other s [] k new = refl
put_all_other s (l ∷ ls) k new =
    put_all_other (put s l) ls k (λ has. new (sets.either_right (same_literal k l) (member ls k) has))
    ∙ put_other s l k (λ is. new (sets.either_left (same_literal k l) (member ls k) (ap (λ (x : Literal). same_literal x l) is ∙ sets.same_itself l)))

without_keeps : (s : List Literal) (l k : Literal) → k ≢ l → member s k ≡ true → member (without s l) k ≡ true
without_keeps [] l k d h = absurd (cc)
without_keeps (j ∷ s) l k d h = elim (same_literal l j) as (λ b. same_literal l j ≡ b → member (cond (not b) (j ∷ without s l) (without s l)) k ≡ true) [
  | true ↦ λ e. elim (sets.one_of (same_literal k j) (member s k) h) as (λ _. member (without s l) k ≡ true) [
    | inl here ↦ absurd (d (sets.same_is k j here ∙ sym (sets.same_is l j e)))
    | inr later ↦ without_keeps s l k d later
  ]
  | false ↦ λ _. elim (sets.one_of (same_literal k j) (member s k) h) as (λ _. member (j ∷ without s l) k ≡ true) [
    | inl here ↦ sets.either_left (same_literal k j) (member (without s l) k) here
    | inr later ↦ sets.either_right (same_literal k j) (member (without s l) k) (without_keeps s l k d later)
  ]
] refl

pub without_other : (s : List Literal) (l k : Literal) → k ≢ l → member (without s l) k ≡ member s k
without_other s l k d = elim (cases_Bool (member s k)) as (λ _. member (without s l) k ≡ member s k) [
  | inl h ↦ without_keeps s l k d h ∙ sym h
  | inr h ↦ elim (cases_Bool (member (without s l) k)) as (λ _. member (without s l) k ≡ member s k) [
    | inl g ↦ absurd (clash (member s k) (sets.member_without s l k g) h)
    | inr g ↦ g ∙ sym h
  ]
]

-- Marks that are put and taken away.
abbrev IsMarked : List Step → List Bool → List Literal → Type 0
IsMarked t marks s = (l : Literal) → is_false (assigned t) l ≡ true → get_or marks (l.var - 1) false ≡ member s l

module _ (t : List Step) (marks : List Bool) (s : List Literal) (l : Literal) (machine : IsOfMachine (length marks) t) (wrong : is_false (assigned t) l ≡ true) (marked : IsMarked t marks s) where
  marks_put : IsMarked t (set marks (l.var - 1) true) (put s l)
  marks_put = λ k bad. elim (cases_eq k.var l.var) as (λ _. get_or (set marks (l.var - 1) true) (k.var - 1) false ≡ member (put s l) k) [
    | inl e ↦
        let same : k ≡ l = false_one t (consistent (length marks) t machine) k l e bad wrong in
        let range = false_range (length marks) t l machine wrong in
        let low = range.0 in let high = range.1 in
        let inside : l.var - 1 < length marks = omega arith in
        subst (λ (x : Literal). get_or (set marks (l.var - 1) true) (x.var - 1) false ≡ member (put s l) x) (sym same) ((rw get_or-set_same refl) ∙ sym (put_here s l))
    | inr d ↦
        let low = (false_range (length marks) t l machine wrong).0 in
        let above = (false_range (length marks) t k machine bad).0 in
        let apart : k.var - 1 ≢ l.var - 1 = omega arith in
        (rw get_or-set_other refl) ∙ marked k bad ∙ sym (put_other s l k (λ e. d (ap (λ (x : Literal). x.var) e)))
  ]

  marks_without : IsMarked t (set marks (l.var - 1) false) (without s l)
  marks_without = λ k bad. elim (cases_eq k.var l.var) as (λ _. get_or (set marks (l.var - 1) false) (k.var - 1) false ≡ member (without s l) k) [
    | inl e ↦
        let same : k ≡ l = false_one t (consistent (length marks) t machine) k l e bad wrong in
        let range = false_range (length marks) t l machine wrong in
        let low = range.0 in let high = range.1 in
        let inside : l.var - 1 < length marks = omega arith in
        let away : member (without s l) l ≡ false = elim (cases_Bool (member (without s l) l)) as (λ _. member (without s l) l ≡ false) [
          | inl h ↦ absurd (sets.absurd_bool (sets.without_itself s l h))
          | inr h ↦ h
        ] in
        subst (λ (x : Literal). get_or (set marks (l.var - 1) false) (x.var - 1) false ≡ member (without s l) x) (sym same) ((rw get_or-set_same refl) ∙ sym away)
    | inr d ↦
        let low = (false_range (length marks) t l machine wrong).0 in
        let above = (false_range (length marks) t k machine bad).0 in
        let apart : k.var - 1 ≢ l.var - 1 = omega arith in
        (rw get_or-set_other refl) ∙ marked k bad ∙ sym (without_other s l k (λ e. d (ap (λ (x : Literal). x.var) e)))
  ]

-- A mark more is of the literal that comes in, and a literal that goes takes its mark along.
only_put : (marks : List Bool) (s : List Literal) (l : Literal) → AreMarksOf marks s → AreMarksOf (set marks (l.var - 1) true) (put s l)
only_put marks s l only = λ i on. elim (cases_eq i (l.var - 1)) as (λ _. (k : Literal) × (member (put s l) k ≡ true) × (k.var - 1 ≡ i)) [
  | inl e ↦ (l, put_here s l, sym e)
  | inr d ↦
      let apart : i ≢ l.var - 1 = d in
      let same : get_or (set marks (l.var - 1) true) i false ≡ get_or marks i false = rw get_or-set_other refl in
      let old = only i (sym same ∙ on) in
      (old.0, put_keeps s l old.0 old.1, old.2)
]

only_without : (marks : List Bool) (s : List Literal) (l : Literal) → l.var - 1 < length marks → AreMarksOf marks s → AreMarksOf (set marks (l.var - 1) false) (without s l)
only_without marks s l inside only = λ i on. elim (cases_eq i (l.var - 1)) as (λ _. (k : Literal) × (member (without s l) k ≡ true) × (k.var - 1 ≡ i)) [
  | inl e ↦
      let gone : get_or (set marks (l.var - 1) false) (l.var - 1) false ≡ false = rw get_or-set_same refl in
      clash (get_or (set marks (l.var - 1) false) i false) on (ap (λ n. get_or (set marks (l.var - 1) false) n false) e ∙ gone)
  | inr d ↦
      let apart : i ≢ l.var - 1 = d in
      let same : get_or (set marks (l.var - 1) false) i false ≡ get_or marks i false = rw get_or-set_other refl in
      let old = only i (sym same ∙ on) in
      (old.0, without_keeps s l old.0 (λ is. d (sym old.2 ∙ ap (λ (x : Literal). x.var - 1) is)) old.1, old.2)
]

module _ (d : ℕ) (t : List Step) (levels : List ℕ) (marks : List Bool) (count : ℕ) (s : List Literal) (are : AreMarks d t levels marks count s) where
  abbrev at_level : Literal → Bool
  at_level l = nat_eq (level_of t l) d

  -- how many there may be
  pub count_fits : count < 2 ^ 63
  count_fits =
      let small = are.small in
      let counted = are.counted in
      let low = count_small at_level 0 (2 * length marks + 2) s (omega arith) are.ordered (λ l has.
      let range = false_range (length marks) t l are.machine (are.falsified l has) in
      let high = range.1 in
      below l.var l.positive (length marks) high) in
      omega arith
    where
      below : (v : ℕ) (b : Bool) (n : ℕ) → v ≤ n → 2 * v + cond b 1 0 < 2 * n + 2
      below v true n h = omega arith
      below v false n h = omega arith

  false_assigned : (l : Literal) → is_false (assigned t) l ≡ true → is_assigned t l ≡ true
  false_assigned l wrong = sets.either_right (member (assigned t) l) _ wrong

  -- A false literal comes in.
  pub with_mark : (l : Literal) → is_false (assigned t) l ≡ true
      → AreMarks d t levels (set marks (l.var - 1) true) (count + cond (get_or marks (l.var - 1) false) 0 (cond (nat_eq (get_or levels (l.var - 1) 0) d) 1 0)) (put s l)
  with_mark l wrong =
      let size = length-set marks (l.var - 1) true in
      record {
        small = let small = are.small in omega arith;
        machine = subst (λ (n : ℕ). IsOfMachine n t) (sym size) are.machine;
        levels_are = subst (λ (n : ℕ). AreLevels n levels t) (sym size) are.levels_are;
        ordered = put_ordered 0 s l (omega arith) are.ordered;
        falsified = λ k has. elim (sets.member_put s l k has) [ inl old ↦ are.falsified k old | inr is ↦ ap (is_false (assigned t)) is ∙ wrong ];
        marked = marks_put t marks s l are.machine wrong are.marked;
        only = only_put marks s l are.only;
        counted = counted_now (member s l) refl;
      }
    where
      range : (0 < l.var) × (l.var ≤ length marks)
      range = false_range (length marks) t l are.machine wrong

      level_is : get_or levels (l.var - 1) 0 ≡ level_of t l
      level_is = are.levels_are.each l range.0 (false_assigned l wrong)

      counted_now : (b : Bool) → member s l ≡ b → count + cond (get_or marks (l.var - 1) false) 0 (cond (nat_eq (get_or levels (l.var - 1) 0) d) 1 0) ≡ count_by at_level (put s l)
      counted_now true has =
          let counted = are.counted in
          ap (λ x. count + cond x 0 (cond (nat_eq (get_or levels (l.var - 1) 0) d) 1 0)) (are.marked l wrong ∙ has) ∙ add-zero count ∙ are.counted ∙ ap (count_by at_level) (sym (put_there 0 s l are.ordered has))
      counted_now false hasnt =
          ap (λ x. count + cond x 0 (cond (nat_eq (get_or levels (l.var - 1) 0) d) 1 0)) (are.marked l wrong ∙ hasnt)
          ∙ ap (λ x. count + cond (nat_eq x d) 1 0) level_is
          ∙ ap (λ x. x + cond (at_level l) 1 0) are.counted
          ∙ sym (count_put at_level s l hasnt)

  -- A member goes.
  pub without_mark : (l : Literal) → member s l ≡ true → AreMarks d t levels (set marks (l.var - 1) false) (count - cond (nat_eq (level_of t l) d) 1 0) (without s l)
  without_mark l has =
      let wrong = are.falsified l has in
      let size = length-set marks (l.var - 1) false in
      record {
        small = let small = are.small in omega arith;
        machine = subst (λ (n : ℕ). IsOfMachine n t) (sym size) are.machine;
        levels_are = subst (λ (n : ℕ). AreLevels n levels t) (sym size) are.levels_are;
        ordered = without_ordered 0 s l are.ordered;
        falsified = λ k one. are.falsified k (sets.member_without s l k one);
        marked = marks_without t marks s l are.machine wrong are.marked;
        only = let range = false_range (length marks) t l are.machine wrong in let low = range.0 in let high = range.1 in only_without marks s l (omega arith) are.only;
        counted = let a = are.counted in let b = count_without at_level 0 s l are.ordered has in omega arith;
      }

  -- one is counted where a member is of the level
  pub some_counted : (l : Literal) → member s l ≡ true → nat_eq (level_of t l) d ≡ true → 0 < count
  some_counted l has here =
      let a = are.counted in
      let b = count_without at_level 0 s l are.ordered has in
      let c : ◌≡◌ {A = ℕ} (cond (at_level l) 1 0) 1 = ap (λ (x : Bool). cond x 1 0) here in
      omega arith

  -- whether another member is of the level
  pub another_counted : (l : Literal) → member s l ≡ true → nat_eq (level_of t l) d ≡ true → list_any at_level (without s l) ≡ nat_lt 1 count
  another_counted l has here = other_counted at_level 0 s l are.ordered has here ∙ ap (nat_lt 1) (sym are.counted)

-- A literal at a place is a member.
pub member_at : (c : List Literal) (i : ℕ) (l : Literal) → i < length c → l ≡ get_or c i l → member c l ≡ true
member_at [] i l inside is = absurd (omega arith)
member_at (k ∷ c) zero l inside is = sets.either_left (same_literal l k) _ (ap (same_literal l) (sym is) ∙ sets.same_itself l)
member_at (k ∷ c) (suc i) l inside is = sets.either_right (same_literal l k) _ (member_at c i l (omega arith) is)

-- No mark is the empty set.
pub none_marked : (d : ℕ) (t : List Step) (levels : List ℕ) (marks : List Bool) → length marks < 2 ^ 31 → IsOfMachine (length marks) t → AreLevels (length marks) levels t → AreClear marks → AreMarks d t levels marks 0 []
none_marked d t levels marks small machine levels_are clear = record {
  small = small;
  machine = machine;
  levels_are = levels_are;
  ordered = tt;
  falsified = λ l has. clash (member [] l) has refl;
  marked = λ l _. clear (l.var - 1);
  only = λ i on. clash (get_or marks i false) on (clear i);
  counted = refl;
}
