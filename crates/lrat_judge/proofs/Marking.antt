-- Marks and the literals that they stand for.
use Rattle.std.proofs.Common.{subst, ◌≡◌, ℕ, Bool, true, false, not, ◌&&◌, ◌||◌, cond, List, [], ◌∷◌, ◌++◌, refl, ap, sym, ◌∙◌, arith, nat_eq, length, take, get_or}
use Rattle.std.specs.Prelude.{Some, None}
use Rattle.std.specs.List.{list_all}
use Rattle.std.specs.declared.option.Option.{Option}
use Rattle.std.proofs.lemmas.List.Folds.{list_any-append}
use Rattle.std.proofs.lemmas.List.{take-append-le, take_all, length-append}
use Rattle.std.proofs.Math.ListN.{get_or-append}
use Rattle.std.proofs.Math.Seq.{get_or-append_seam}
use Rattle.sat_form.specs.Literals.{Literal, negate, same_literal, same_sign, member}
use Rattle.sat_form.specs.Assignment.{is_true, is_false, is_assigned, clause_false, unit_literal}
use Rattle.lrat_judge.specs.Values.{Gets}
use Rattle.lrat_judge.specs.Marked.{makes_true, AreTrueAt, IsTrail, Same}
use Rattle.sat_form.proofs.Sets.{neither, nat_is}

abbrev lit : ℕ → Bool → Literal
lit v p = record { var = v; positive = p }

or_false : (b : Bool) → (b || false) ≡ b
or_false true = refl
or_false false = refl

pub member_last : (s : List Literal) (k l : Literal) → member (s ++ l ∷ []) k ≡ (member s k || same_literal k l)
member_last s k l = list_any-append (same_literal k) s (l ∷ []) ∙ ap (λ b. member s k || b) (or_false (same_literal k l))

take_front : (xs ys : List Literal) → take (length xs) (xs ++ ys) ≡ xs
take_front xs ys = take-append-le (length xs) xs ys (omega arith) ∙ take_all (length xs) xs (omega arith)

unassigned_at : (s : List Literal) (v : ℕ) (q p : Bool) → (member s (lit v q) ≡ false) × (member s (lit v (not q)) ≡ false) → member s (lit v p) ≡ false
unassigned_at s v true true h = h.0
unassigned_at s v true false h = h.1
unassigned_at s v false true h = h.1
unassigned_at s v false false h = h.0

-- of a variable without a literal that is true
unassigned : (s : List Literal) (l : Literal) (p : Bool) → is_assigned s l ≡ false → member s (lit l.var p) ≡ false
unassigned s l p h = unassigned_at s l.var l.positive p (neither (is_true s l) (is_false s l) h)

-- without the last
last_free : (trail : List Literal) (l : Literal) → IsTrail (trail ++ l ∷ []) → is_assigned trail l ≡ false
last_free trail l h =
    let a = h (length trail) l (omega (arith, length-append trail (l ∷ []))) in
    sym (ap (λ t. is_assigned t (get_or (trail ++ l ∷ []) (length trail) l)) (take_front trail (l ∷ [])) ∙ ap (is_assigned trail) (get_or-append_seam trail l [] l)) ∙ a

pub pop_marks : (old new : ℕ → Option Bool) (trail : List Literal) (l : Literal) → Gets old new l.var None → AreTrueAt old (trail ++ l ∷ []) → IsTrail (trail ++ l ∷ []) → AreTrueAt new trail
pop_marks old new trail l gets marks are var positive =
    let free = last_free trail l are in
    elim (nat_eq var l.var) as (λ b. nat_eq var l.var ≡ b → makes_true (new var) positive ≡ member trail (lit var positive)) [
      | true ↦ (λ e. let v : var ≡ l.var = nat_is var l.var e in
          ap (λ m. makes_true m positive) (gets var ∙ ap (λ b. cond b None (old var)) e)
          ∙ subst (λ (n : ℕ). false ≡ member trail (lit n positive)) (sym v) (sym (unassigned trail l positive free)))
      | false ↦ (λ e.
          ap (λ m. makes_true m positive) (gets var ∙ ap (λ b. cond b None (old var)) e)
          ∙ marks var positive
          ∙ member_last trail (lit var positive) l ∙ ap (λ b. member trail (lit var positive) || (b && same_sign positive l.positive)) e ∙ or_false (member trail (lit var positive)))
    ] refl

pub pop_trail : (trail : List Literal) (l : Literal) → IsTrail (trail ++ l ∷ []) → IsTrail trail
pop_trail trail l are k d within =
    let a = are k d (omega (arith, length-append trail (l ∷ []))) in
    sym (ap (λ t. is_assigned t (get_or (trail ++ l ∷ []) k d)) (take-append-le k trail (l ∷ []) (omega arith)) ∙ ap (is_assigned (take k trail)) (get_or-append trail (l ∷ []) d k within)) ∙ a

-- Clauses see only which literals are true.
pub false_same : (a b : List Literal) (c : List Literal) → Same a b → clause_false a c ≡ clause_false b c
false_same a b [] h = refl
false_same a b (l ∷ c) h = ap (λ t. t && clause_false a c) (h (negate l)) ∙ ap (λ t. is_false b l && t) (false_same a b c h)

others_same : (a b : List Literal) (l : Literal) (c : List Literal) → Same a b → list_all (λ k. same_literal k l || is_false a k) c ≡ list_all (λ k. same_literal k l || is_false b k) c
others_same a b l [] h = refl
others_same a b l (k ∷ c) h =
    ap (λ t. (same_literal k l || t) && list_all (λ j. same_literal j l || is_false a j) c) (h (negate k))
    ∙ ap (λ t. (same_literal k l || is_false b k) && t) (others_same a b l c h)

pub unit_same : (a b : List Literal) (c : List Literal) → Same a b → unit_literal a c ≡ unit_literal b c
unit_same a b [] h = refl
unit_same a b (l ∷ c) h =
    ap (λ t. cond t (unit_literal a c) (cond (not (is_true a l || t) && list_all (λ k. same_literal k l || is_false a k) c) (Some l) None)) (h (negate l))
    ∙ ap (λ t. cond (is_false b l) t (cond (not (is_true a l || is_false b l) && list_all (λ k. same_literal k l || is_false a k) c) (Some l) None)) (unit_same a b c h)
    ∙ ap (λ t. cond (is_false b l) (unit_literal b c) (cond (not (t || is_false b l) && list_all (λ k. same_literal k l || is_false a k) c) (Some l) None)) (h l)
    ∙ ap (λ t. cond (is_false b l) (unit_literal b c) (cond (not (is_true b l || is_false b l) && t) (Some l) None)) (others_same a b l c h)

-- without the last one
pub undo_last : (old new : ℕ → Option Bool) (whole trail : List Literal) (l : Literal) (var : ℕ) → whole ≡ trail ++ l ∷ [] → var ≡ l.var → Gets old new var None → AreTrueAt old whole → IsTrail whole → AreTrueAt new trail × IsTrail trail
undo_last old new whole trail l var e v gets marks are =
    let m : AreTrueAt old (trail ++ l ∷ []) = subst (λ (t : List Literal). AreTrueAt old t) e marks in
    let t : IsTrail (trail ++ l ∷ []) = subst (λ (t : List Literal). IsTrail t) e are in
    (pop_marks old new trail l (subst (λ (n : ℕ). Gets old new n None) v gets) m t, pop_trail trail l t)
