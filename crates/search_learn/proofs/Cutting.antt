-- A trail of the machine, its last entry, and its cuts.
use Rattle.std.proofs.Common.{◌≡◌, ◌≢◌, ℕ, ◌+◌, ◌-◌, ◌<◌, ◌≤◌, Bool, true, false, cond, ◌||◌, ◌&&◌, nat_eq, nat_le, List, [], ◌∷◌, ◌++◌, length, get_or, set, take, refl, ap, sym, ◌∙◌, subst, arith, get_or-set_other, get_or-set_same, length-set}
use Rattle.std.specs.Prelude.{None}
use Rattle.std.specs.declared.option.Option.{Option}
use Rattle.std.proofs.lemmas.List.{append-nil, append_assoc, take_more, take_all}
use Rattle.std.proofs.lemmas.List.Elements.{filter-append}
use Rattle.std.proofs.lemmas.Grind.{common_steps}
use Rattle.sat_form.specs.Literals.{Literal, same_literal, same_sign, member}
use Rattle.search_learn.specs.declared.Step.{Step}
use Rattle.search_learn.specs.Trail.{assigned, is_assigned, level, cut}
use Rattle.search_learn.specs.Rule.{Continues, IsTrail, EntryFollows}
use Rattle.search_learn.specs.Values.{AreValues, IsOfMachine, is_value}
use Rattle.sat_form.proofs.Sets.{nat_is}
use Rattle.search_learn.proofs.Decisions.{level_here, level_append}
use Rattle.search_learn.proofs.Solved.{other_variable}

-- a trail, its last entry apart
abbrev pub front : List Step → List Step
front t = take (length t - 1) t

pub split_last : (t : List Step) (e : Step) → 0 < length t → e ≡ get_or t (length t - 1) e → t ≡ front t ++ e ∷ []
split_last t e some is =
    let whole : length t - 1 + 1 ≡ length t = omega arith in
    sym (take_all (length t - 1 + 1) t (omega arith)) ∙ take_more t (length t - 1) e (omega arith) ∙ ap (λ x. front t ++ x ∷ []) (sym is)

module _ (clause_of : ℕ → List Literal) (vars : ℕ) where
  continues_last : (before later : List Step) (e : Step) → Continues clause_of vars before (later ++ e ∷ []) → Continues clause_of vars before later × EntryFollows clause_of vars (before ++ later) e
  continues_last before [] e cont = (tt, subst (λ (b : List Step). EntryFollows clause_of vars b e) (sym (append-nil before)) cont.0)
  continues_last before (x ∷ later) e cont =
      let deep = continues_last (before ++ x ∷ []) later e cont.1 in
      ((cont.0, deep.0), subst (λ (b : List Step). EntryFollows clause_of vars b e) (append_assoc before (x ∷ []) later) deep.1)

  cut_kept : (to : ℕ) (before later : List Step) → Continues clause_of vars before later → level (before ++ later) ≤ to → cut to later ≡ later
  cut_kept to before [] cont low = refl
  cut_kept to before (e ∷ later) cont low =
      let here = level_here clause_of vars before e cont.0 in
      let whole = ap level (append_assoc before (e ∷ []) later) in
      let split = level_append (before ++ e ∷ []) later in
      let under : nat_le e.level to ≡ true = grind (arith, common_steps) in
      let deep = cut_kept to (before ++ e ∷ []) later cont.1 (omega arith) in
      ap (λ b. cond b (e ∷ cut to later) (cut to later)) under ∙ ap (λ x. e ∷ x) deep

-- The last entry of a trail of the machine.
pub record IsLast (vars : ℕ) (t : List Step) (e : Step) : Type 0 where
  pub front_machine : IsOfMachine vars (front t)
  pub split : t ≡ front t ++ e ∷ []
  pub follows : EntryFollows front_machine.0 vars (front t) e

pub last_entry : (vars : ℕ) (t : List Step) (e : Step) → IsOfMachine vars t → 0 < length t → e ≡ get_or t (length t - 1) e → IsLast vars t e
last_entry vars t e machine some is =
    let split = split_last t e some is in
    let parts = continues_last machine.0 vars [] (front t) e (subst (λ (x : List Step). IsTrail machine.0 vars x) split machine.1) in
    record { front_machine = (machine.0, parts.0); split = split; follows = parts.1 }

-- It has the current level.
pub level_last : (vars : ℕ) (t : List Step) (e : Step) → IsOfMachine vars t → 0 < length t → e ≡ get_or t (length t - 1) e → e.level ≡ level t
level_last vars t e machine some is =
    let last = last_entry vars t e machine some is in
    level_here last.front_machine.0 vars (front t) e last.follows ∙ ap level (sym last.split)

-- Cutting to a level that isn't below the current one leaves all.
pub cut_none : (vars to : ℕ) (t : List Step) → IsOfMachine vars t → level t ≤ to → cut to t ≡ t
cut_none vars to t machine low = cut_kept machine.0 vars to [] t machine.1 low

-- An entry of a higher level is cut off.
pub cut_last : (vars to : ℕ) (t : List Step) (e : Step) → IsLast vars t e → to < e.level → cut to t ≡ cut to (front t)
cut_last vars to t e last over =
    let above : nat_le e.level to ≡ false = grind (arith, common_steps) in
    ap (cut to) last.split
    ∙ filter-append (λ (x : Step). nat_le x.level to) (front t) (e ∷ [])
    ∙ ap (λ b. cut to (front t) ++ cond b (e ∷ []) []) above
    ∙ append-nil (cut to (front t))

pub member_last : (b : List Step) (e : Step) (l : Literal) → member (assigned (b ++ e ∷ [])) l ≡ (member (assigned b) l || same_literal l e.lit)
member_last [] e l = only (same_literal l e.lit)
  where
    only : (x : Bool) → (x || false) ≡ (false || x)
    only true = refl
    only false = refl
member_last (x ∷ b) e l = ap (λ m. same_literal l x.lit || m) (member_last b e l) ∙ regroup (same_literal l x.lit) (member (assigned b) l) (same_literal l e.lit)
  where
    regroup : (x y z : Bool) → (x || (y || z)) ≡ ((x || y) || z)
    regroup true y z = refl
    regroup false y z = refl

pub apart : (m n : ℕ) → 0 < m → 0 < n → nat_eq m n ≡ false → (m - 1) ≢ (n - 1)
apart m n a b h e = let same : m ≡ n = omega arith in grind (arith, common_steps)

-- A literal of another variable isn't the last entry's.
pub not_last : (b : List Step) (e : Step) (l : Literal) → nat_eq l.var e.lit.var ≡ false → member (assigned (b ++ e ∷ [])) l ≡ member (assigned b) l
not_last b e l differ =
    member_last b e l
    ∙ ap (λ x. member (assigned b) l || x) (ap (λ x. x && same_sign l.positive e.lit.positive) differ)
    ∙ last_false (member (assigned b) l)
  where
    last_false : (x : Bool) → (x || false) ≡ x
    last_false true = refl
    last_false false = refl

-- A variable of an unassigned literal stands in no entry.
pub gone : (b : List Step) (l k : Literal) → is_assigned b k ≡ false → l.var ≡ k.var → member (assigned b) l ≡ false
gone b l k free same = elim (member (assigned b) l) as (λ t. member (assigned b) l ≡ t → t ≡ false) [
  | true ↦ λ has. absurd (other_variable (assigned b) l k has free same)
  | false ↦ λ _. refl
] refl

-- Without the last entry its variable has no value.
pub values_popped : (vars : ℕ) (t : List Step) (values : List (Option Bool)) (e : Step) → IsLast vars t e → AreValues vars values t → AreValues vars (set values (e.lit.var - 1) None) (front t)
values_popped vars t values e last are =
    record {
      size = simp length-set are.size;
      each = λ l above. elim (nat_eq l.var e.lit.var) as (λ b. nat_eq l.var e.lit.var ≡ b → is_value (get_or (set values (e.lit.var - 1) None) (l.var - 1) None) l.positive ≡ member (assigned (front t)) l) [
        | true ↦ λ same. value_gone l (nat_is l.var e.lit.var same)
        | false ↦ λ differ.
            let places : (l.var - 1) ≢ (e.lit.var - 1) = apart l.var e.lit.var above last.follows.above differ in
            ap (λ v. is_value v l.positive) (rw get_or-set_other refl)
            ∙ are.each l above
            ∙ ap (λ x. member (assigned x) l) last.split
            ∙ not_last (front t) e l differ
      ] refl;
    }
  where
    value_gone : (l : Literal) → l.var ≡ e.lit.var → is_value (get_or (set values (e.lit.var - 1) None) (l.var - 1) None) l.positive ≡ member (assigned (front t)) l
    value_gone l same =
        ap (λ v. is_value (get_or (set values (e.lit.var - 1) None) (v - 1) None) l.positive) same
        ∙ ap (λ v. is_value v l.positive) none_there
        ∙ sym (gone (front t) l e.lit last.follows.new same)
      where
        none_there : get_or (set values (e.lit.var - 1) None) (e.lit.var - 1) None ≡ None
        none_there =
            let size = are.size in
            let high = last.follows.within in
            let low = last.follows.above in
            let room : (e.lit.var - 1) < length values = omega arith in
            rw get_or-set_same refl
