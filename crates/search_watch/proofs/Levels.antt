-- Entries of a trail, their levels, and what a cut keeps of them.
use Rattle.std.proofs.Common.{◌≡◌, ◌⊎◌, ℕ, ◌≤◌, Bool, true, false, cond, nat_le, List, [], ◌∷◌, ◌++◌, refl, ap, sym, ◌∙◌, subst, inl, inr, arith}
use Rattle.std.proofs.lemmas.Grind.{common_steps}
use Rattle.std.proofs.lemmas.List.{append-nil, append_assoc}
use Rattle.sat_form.specs.Literals.{Literal, member, negate, same_literal}
use Rattle.sat_form.proofs.Sets as sets
use Rattle.search_learn.specs.declared.Step.{Step}
use Rattle.search_learn.specs.Rule.{Continues}
use Rattle.search_learn.specs.Trail.{assigned, cut, is_true, level, level_of}
use Rattle.search_learn.specs.Values.{IsOfMachine}
use Rattle.search_learn.proofs.Cutting.{cut_none}
use Rattle.search_learn.proofs.Decisions.{found_none, level_found, level_here}
use Rattle.search_learn.proofs.Reach.{cut_continues}
use Rattle.search_watch.specs.Watched.{is_false}

-- An entry stands on a trail.
abbrev pub Stands : List Step → Step → Type 0
Stands [] e = ⊥
Stands (x ∷ t) e = (x ≡ e) ⊎ Stands t e

pub member-stands : (t : List Step) (x : Literal) → member (assigned t) x ≡ true → (e : Step) × Stands t e × (e.lit ≡ x)
member-stands [] x h = absurd (cc)
member-stands (e ∷ t) x h = elim (sets.one_of (same_literal x e.lit) (member (assigned t) x) h) [
  | inl here ↦ (e, inl refl, sym (sets.same_is x e.lit here))
  | inr later ↦ let deep = member-stands t x later in (deep.0, inr deep.1, deep.2)
]

pub stands-member : (t : List Step) (e : Step) → Stands t e → member (assigned t) e.lit ≡ true
stands-member [] e h = absurd h
stands-member (x ∷ t) e (inl is) = sets.either_left (same_literal e.lit x.lit) (member (assigned t) e.lit) (subst (λ (y : Step). same_literal e.lit y.lit ≡ true) (sym is) (sets.same_itself e.lit))
stands-member (x ∷ t) e (inr later) = sets.either_right (same_literal e.lit x.lit) (member (assigned t) e.lit) (stands-member t e later)

at_most : (a b : ℕ) → nat_le a b ≡ true → a ≤ b
at_most a b h = grind (arith, common_steps)

is_at_most : (a b : ℕ) → a ≤ b → nat_le a b ≡ true
is_at_most a b h = grind (arith, common_steps)

pub cut-stands : (k : ℕ) (t : List Step) (e : Step) → Stands (cut k t) e → Stands t e × (e.level ≤ k)
cut-stands k [] e h = absurd h
cut-stands k (x ∷ t) e h = elim (nat_le x.level k) as (λ b. nat_le x.level k ≡ b → Stands (cond b (x ∷ cut k t) (cut k t)) e → Stands (x ∷ t) e × (e.level ≤ k)) [
  | true ↦ λ low has. elim has [
    | inl is ↦ (inl is, subst (λ (y : Step). y.level ≤ k) is (at_most x.level k low))
    | inr later ↦ let deep = cut-stands k t e later in (inr deep.0, deep.1)
  ]
  | false ↦ λ _ has. let deep = cut-stands k t e has in (inr deep.0, deep.1)
] refl h

pub stands-cut : (k : ℕ) (t : List Step) (e : Step) → Stands t e → e.level ≤ k → Stands (cut k t) e
stands-cut k [] e h low = h
stands-cut k (x ∷ t) e (inl is) low =
    let here : nat_le x.level k ≡ true = is_at_most x.level k (subst (λ (y : Step). y.level ≤ k) (sym is) low) in
    subst (λ (b : Bool). Stands (cond b (x ∷ cut k t) (cut k t)) e) (sym here) (inl is)
stands-cut k (x ∷ t) e (inr later) low = elim (nat_le x.level k) as (λ b. Stands (cond b (x ∷ cut k t) (cut k t)) e) [ true ↦ inr (stands-cut k t e later low) | false ↦ stands-cut k t e later low ]

-- Its level is that of its literal's negation.
stands-level_from : (lits_of : ℕ → List Literal) (vars : ℕ) (trail b later : List Step) (e : Step) → trail ≡ b ++ later → Continues lits_of vars b later → Stands later e → level_of trail (negate e.lit) ≡ e.level
stands-level_from lits_of vars trail b [] e split cont h = absurd h
stands-level_from lits_of vars trail b (x ∷ later) e split cont (inl is) =
    let f = cont.0 in
    let parts = sets.neither (is_true b x.lit) (is_false b x.lit) f.new in
    let own : level_of trail (negate x.lit) ≡ x.level = ap (λ (t : List Step). level_of t (negate x.lit)) split ∙ level_found b later x (negate x.lit) (found_none b x.lit parts.0 parts.1) (sets.nat_itself x.lit.var) in
    subst (λ (y : Step). level_of trail (negate y.lit) ≡ y.level) is own
stands-level_from lits_of vars trail b (x ∷ later) e split cont (inr deep) = stands-level_from lits_of vars trail (b ++ x ∷ []) later e (split ∙ sym (append_assoc b (x ∷ []) later)) cont.1 deep

pub stands-level : (vars : ℕ) (t : List Step) (e : Step) → IsOfMachine vars t → Stands t e → level_of t (negate e.lit) ≡ e.level
stands-level vars t e machine h = stands-level_from machine.0 vars t [] t e refl machine.1 h

pub cut-machine : (vars k : ℕ) (t : List Step) → IsOfMachine vars t → IsOfMachine vars (cut k t)
cut-machine vars k t machine = (machine.0, cut_continues machine.0 vars k [] t machine.1)

-- What is false on a cut trail has a level up to there, the same as before; and what has such a level stays false.
pub record IsCutFalse (k : ℕ) (t : List Step) (l : Literal) : Type 0 where
  pub wrong : is_false t l ≡ true
  pub low : level_of t l ≤ k
  pub same : level_of (cut k t) l ≡ level_of t l

pub cut-false_is : (vars k : ℕ) (t : List Step) (l : Literal) → IsOfMachine vars t → is_false (cut k t) l ≡ true → IsCutFalse k t l
cut-false_is vars k t l machine h =
    let e = member-stands (cut k t) (negate l) h in
    let two = cut-stands k t e.0 e.1 in
    let is : negate e.0.lit ≡ l = ap negate e.2 ∙ sets.negate_twice l in
    let before : level_of t l ≡ e.0.level = ap (level_of t) (sym is) ∙ stands-level vars t e.0 machine two.0 in
    let now : level_of (cut k t) l ≡ e.0.level = ap (level_of (cut k t)) (sym is) ∙ stands-level vars (cut k t) e.0 (cut-machine vars k t machine) e.1 in
    let under = two.1 in
    record {
      wrong = subst (λ (x : Literal). member (assigned t) x ≡ true) e.2 (stands-member t e.0 two.0);
      low = omega arith;
      same = now ∙ sym before;
    }

pub false-cut : (vars k : ℕ) (t : List Step) (l : Literal) → IsOfMachine vars t → is_false t l ≡ true → level_of t l ≤ k → is_false (cut k t) l ≡ true
false-cut vars k t l machine h low =
    let e = member-stands t (negate l) h in
    let is : negate e.0.lit ≡ l = ap negate e.2 ∙ sets.negate_twice l in
    let own : level_of t l ≡ e.0.level = ap (level_of t) (sym is) ∙ stands-level vars t e.0 machine e.1 in
    subst (λ (x : Literal). member (assigned (cut k t)) x ≡ true) e.2 (stands-member (cut k t) e.0 (stands-cut k t e.0 e.1 (omega arith)))

pub false-level : (vars : ℕ) (t : List Step) (l : Literal) → IsOfMachine vars t → is_false t l ≡ true → level_of t l ≤ level t
false-level vars t l machine h = (cut-false_is vars (level t) t l machine (subst (λ (u : List Step). is_false u l ≡ true) (sym (cut_none vars (level t) t machine (omega arith))) h)).low

-- A cut trail has at most the level to which it was cut.
low-level : (lits_of : ℕ → List Literal) (vars k : ℕ) (b later : List Step) → Continues lits_of vars b later → level b ≤ k → ((e : Step) → Stands later e → e.level ≤ k) → level (b ++ later) ≤ k
low-level lits_of vars k b [] cont low each = subst (λ (t : List Step). level t ≤ k) (sym (append-nil b)) low
low-level lits_of vars k b (e ∷ later) cont low each =
    let here = level_here lits_of vars b e cont.0 in
    let under = each e (inl refl) in
    subst (λ (t : List Step). level t ≤ k) (append_assoc b (e ∷ []) later) (low-level lits_of vars k (b ++ e ∷ []) later cont.1 (omega arith) (λ x h. each x (inr h)))

pub level-cut : (vars k : ℕ) (t : List Step) → IsOfMachine vars t → level (cut k t) ≤ k
level-cut vars k t machine = let cutting = cut-machine vars k t machine in low-level cutting.0 vars k [] (cut k t) cutting.1 (omega arith) (λ e h. (cut-stands k t e h).1)

pub cut-cut : (j k : ℕ) (t : List Step) → j ≤ k → cut j (cut k t) ≡ cut j t
cut-cut j k [] low = refl
cut-cut j k (e ∷ t) low = elim (nat_le e.level k) as (λ b. nat_le e.level k ≡ b → cut j (cond b (e ∷ cut k t) (cut k t)) ≡ cut j (e ∷ t)) [
  | true ↦ λ _. ap (λ (u : List Step). cond (nat_le e.level j) (e ∷ u) u) (cut-cut j k t low)
  | false ↦ λ over. cut-cut j k t low ∙ sym (ap (λ b. cond b (e ∷ cut j t) (cut j t)) (higher over))
] refl
  where
    higher : nat_le e.level k ≡ false → nat_le e.level j ≡ false
    higher over = grind (arith, common_steps)
