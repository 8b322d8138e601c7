-- Literals that are assumed to be false, one after the other.
use Rattle.std.proofs.Common.{◌≡◌, ℕ, ◌+◌, ◌<◌, Bool, true, false, not, ◌&&◌, ◌||◌, cond, List, [], ◌∷◌, ◌++◌, map, refl, ap, sym, ◌∙◌, arith, length, drop, get_or, nat_eq, suc, drop-cons, add-one}
use Rattle.std.specs.Prelude.{Some, None}
use Rattle.std.specs.List.{list_any}
use Rattle.std.specs.declared.option.Option.{Option}
use Rattle.std.proofs.lemmas.List.Folds.{list_any-append}
use Rattle.std.proofs.lemmas.Grind.{common_steps}
use Rattle.sat_form.specs.Literals.{Literal, negate, same_literal, same_sign, member}
use Rattle.sat_form.specs.Assignment.{is_true}
use Rattle.lrat_lines.specs.Judge.{two_opposite, others}
use Rattle.lrat_judge.specs.Marked.{Same}
use Rattle.lrat_judge.specs.Assumed.{blocked, rest_of, Assumes}
use Rattle.sat_form.proofs.Sets.{same_is, same_itself, nat_itself}

pub any_same : (p q : Literal → Bool) → ((l : Literal) → p l ≡ q l) → (c : List Literal) → list_any p c ≡ list_any q c
any_same p q h [] = refl
any_same p q h (l ∷ c) = ap (λ b. b || list_any p c) (h l) ∙ ap (λ b. q l || b) (any_same p q h c)

four : (a b c d : Bool) → ((a || b) || (c || d)) ≡ ((a || c) || (b || d))
four true b c d = refl
four false true true d = refl
four false true false d = refl
four false false c d = refl

any_or : (p q : Literal → Bool) (c : List Literal) → list_any (λ l. p l || q l) c ≡ (list_any p c || list_any q c)
any_or p q [] = refl
any_or p q (l ∷ c) = ap (λ b. (p l || q l) || b) (any_or p q c) ∙ four (p l) (q l) (list_any p c) (list_any q c)

sign_not : (a b : Bool) → same_sign (not a) b ≡ same_sign (not b) a
sign_not true true = refl
sign_not true false = refl
sign_not false true = refl
sign_not false false = refl

sign_turn : (a b : Bool) → same_sign a b ≡ same_sign b a
sign_turn true true = refl
sign_turn true false = refl
sign_turn false true = refl
sign_turn false false = refl

turn : (m n : ℕ) → nat_eq m n ≡ nat_eq n m
turn m n = grind (arith, common_steps)

same_turn : (k l : Literal) → same_literal k l ≡ same_literal l k
same_turn k l = ap (λ b. b && same_sign k.positive l.positive) (turn k.var l.var) ∙ ap (λ b. nat_eq l.var k.var && b) (sign_turn k.positive l.positive)

opposite_turn : (k l : Literal) → same_literal (negate l) k ≡ same_literal (negate k) l
opposite_turn k l = ap (λ b. b && same_sign (not l.positive) k.positive) (turn l.var k.var) ∙ ap (λ b. nat_eq k.var l.var && b) (sign_not l.positive k.positive)

sign_apart : (b : Bool) → (true && same_sign (not b) b) ≡ false
sign_apart true = refl
sign_apart false = refl

not_opposite : (k : Literal) → same_literal (negate k) k ≡ false
not_opposite k = ap (λ b. b && same_sign (not k.positive) k.positive) (nat_itself k.var) ∙ sign_apart k.positive

sums : (a m t : Bool) → ((false || a) || ((false || m) || (m || t))) ≡ ((m || a) || t)
sums true true t = refl
sums true false t = refl
sums false true t = refl
sums false false t = refl

blocked_step : (a c : List Literal) (k : Literal) → is_true a k ≡ false → blocked a (k ∷ c) ≡ blocked (negate k ∷ a) c
blocked_step a c k h =
    let m = member c (negate k) in
    let any = list_any (is_true a) c in
    let left : list_any (λ l. same_literal (negate l) k || member c (negate l)) c ≡ (m || two_opposite c) =
    any_or (λ l. same_literal (negate l) k) (λ l. member c (negate l)) c ∙ ap (λ b. b || two_opposite c) (any_same (λ l. same_literal (negate l) k) (same_literal (negate k)) (opposite_turn k) c) in
    let right : list_any (is_true (negate k ∷ a)) c ≡ (m || any) =
    any_or (λ l. same_literal l (negate k)) (is_true a) c ∙ ap (λ b. b || any) (any_same (λ l. same_literal l (negate k)) (same_literal (negate k)) (λ l. same_turn l (negate k)) c) in
    ap (λ b. (b || any) || ((same_literal (negate k) k || m) || list_any (λ l. same_literal (negate l) k || member c (negate l)) c)) h
    ∙ ap (λ b. (false || any) || ((b || m) || list_any (λ l. same_literal (negate l) k || member c (negate l)) c)) (not_opposite k)
    ∙ ap (λ b. (false || any) || ((false || m) || b)) left
    ∙ sums any m (two_opposite c)
    ∙ sym (ap (λ b. b || two_opposite c) right)

or_moved : (s m b : Bool) → (s || (m || b)) ≡ (m || (s || b))
or_moved true true b = refl
or_moved true false b = refl
or_moved false m b = refl

rest_same : (b r : List Literal) (k : Literal) → Same (map negate (k ∷ r) ++ b) (map negate r ++ (negate k ∷ b))
rest_same b r k x =
    ap (λ t. same_literal x (negate k) || t) (list_any-append (same_literal x) (map negate r) b)
    ∙ or_moved (same_literal x (negate k)) (member (map negate r) x) (member b x)
    ∙ sym (list_any-append (same_literal x) (map negate r) (negate k ∷ b))

kept_at : (l k : Literal) (c : List Literal) (b : Bool) → same_literal l k ≡ b → (l ≡ k → ⊥) → cond (not (same_literal l k)) (k ∷ others c l) (others c l) ≡ k ∷ others c l
kept_at l k c true q n = absurd (n (same_is l k q))
kept_at l k c false q n = ap (λ b. cond (not b) (k ∷ others c l) (others c l)) q

rest_kept : (o : Option Literal) (k : Literal) (c : List Literal) → (o ≡ Some k → ⊥) → rest_of o (k ∷ c) ≡ k ∷ rest_of o c
rest_kept None k c n = refl
rest_kept (Some l) k c n = kept_at l k c (same_literal l k) refl (λ e. n (ap Some e))

rest_skipped : (o : Option Literal) (k : Literal) (c : List Literal) → o ≡ Some k → rest_of o (k ∷ c) ≡ rest_of o c
rest_skipped None k c e = cc
rest_skipped (Some l) k c e = let q : l ≡ k = cc in ap (λ b. cond (not b) (k ∷ others c l) (others c l)) (ap (λ x. same_literal x k) q ∙ same_itself k)

-- one literal more
abbrev pub IsAssumed : Option Literal → List Literal → List Literal → List Literal → List Literal → Type 0
IsAssumed o m a whole later = (b : List Literal) × Same m b × (blocked a whole ≡ blocked b (rest_of o later)) × Same (map negate whole ++ a) (map negate (rest_of o later) ++ b)

module _ (o : Option Literal) (m n a whole c : List Literal) (k : Literal) where
  pub skip : o ≡ Some k → IsAssumed o m a whole (k ∷ c) → IsAssumed o m a whole c
  skip e (b, s, t, u) = (b, s, t ∙ ap (blocked b) (rest_skipped o k c e), λ x. u x ∙ ap (λ r. member (map negate r ++ b) x) (rest_skipped o k c e))

  pub assumed : (o ≡ Some k → ⊥) → member m k ≡ false → ((x : Literal) → member n x ≡ (same_literal x (negate k) || member m x)) → IsAssumed o m a whole (k ∷ c) → IsAssumed o n a whole c
  assumed e h more (b, s, t, u) = (
    negate k ∷ b,
    λ x. more x ∙ ap (λ y. same_literal x (negate k) || y) (s x),
    t ∙ ap (blocked b) (rest_kept o k c e) ∙ blocked_step b (rest_of o c) k (sym (s k) ∙ h),
    λ x. u x ∙ ap (λ r. member (map negate r ++ b) x) (rest_kept o k c e) ∙ rest_same b (rest_of o c) k x,
  )

pub next_is : (xs : List Literal) (i : ℕ) (k : Literal) → i < length xs → k ≡ get_or xs i k → drop i xs ≡ k ∷ drop (i + 1) xs
next_is xs i k h e = drop-cons xs i k h ∙ ap (λ l. l ∷ drop (suc i) xs) (sym e) ∙ ap (λ n. k ∷ drop n xs) (sym (add-one i))

nothing : (o : Option Literal) (b : List Literal) → blocked b (rest_of o []) ≡ false
nothing None b = refl
nothing (Some l) b = refl

nothing_more : (o : Option Literal) (b : List Literal) (x : Literal) → member (map negate (rest_of o []) ++ b) x ≡ member b x
nothing_more None b x = refl
nothing_more (Some l) b x = refl

pub ends : (o : Option Literal) (m a whole later : List Literal) → later ≡ [] → IsAssumed o m a whole later → Assumes m a whole true
ends o m a whole later e (b, s, t, u) =
    (t ∙ ap (λ r. blocked b (rest_of o r)) e ∙ nothing o b, λ x. s x ∙ sym (u x ∙ ap (λ r. member (map negate (rest_of o r) ++ b) x) e ∙ nothing_more o b x))
