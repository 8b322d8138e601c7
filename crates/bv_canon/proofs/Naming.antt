-- The names that a canonical line binds: each names its own variable, and each may be bound.
use Rattle.std.proofs.Common.{◌≡◌, ◌≢◌, ℕ, zero, suc, ◌+◌, ◌≤◌, ◌<◌, Bool, true, false, ◌||◌, ◌&&◌, List, [], ◌∷◌, ◌++◌, length, Some, None, refl, sym, ap, ap₂, ◌∙◌, arith, codes}
use Rattle.std.specs.Prelude.{not, slice_get, option_map, bytes_eq, if◌then◌else◌}
use Rattle.std.specs.List.{list_any}
use Rattle.std.proofs.lemmas.Slice.Eq.{bytes_eq-Decides}
use Rattle.std.proofs.lemmas.Bool.{lt-ltb}
use Rattle.bv_lex.specs.declared.fault.FaultKind.TheVariants as fault
use Rattle.bv_expr.specs.declared.ops.Sort.{Sort}
use Rattle.bv_expr.specs.Goal.{Binders}
use Rattle.bv_typing.specs.declared.misfit.Misfit.{Misfit}
use Rattle.bv_typing.specs.Variables.{Bound, bound_from, variable_of, may_bind, binders_of}
use Rattle.bv_typing.specs.Goals.{bound_misfits}
use Rattle.bv_canon.specs.Lines.{binder_tokens}

-- what the binders bind whose tokens stand from i on
abbrev pub bound_list : ℕ → Binders → List Bound
bound_list i [] = []
bound_list i (b ∷ bs) = record { at = i + 1; name = b.0; sort = Some b.1 } ∷ bound_list (i + length (binder_tokens b)) bs

pub binders_again : (i : ℕ) (bs : Binders) → binders_of (bound_list i bs) ≡ bs
binders_again i [] = refl
binders_again i (b ∷ bs) = ap (λ v. b ∷ v) (binders_again (i + length (binder_tokens b)) bs)

-- no two have one name
abbrev pub Apart : Binders → Type 0
Apart bs = (i j : ℕ) → i < j → j < length bs → option_map (λ b. b.0) (slice_get bs i) ≢ option_map (λ b. b.0) (slice_get bs j)

apart_behind : (b : List ℕ × Sort) (bs : Binders) → Apart (b ∷ bs) → Apart bs
apart_behind b bs h i j l m = h (suc i) (suc j) (omega arith) (omega arith)

other : (x y : List ℕ) → (x ≡ y → ⊥) → bytes_eq x y ≡ false
other x y h = go (bytes_eq x y) refl
  where
    go : (b : Bool) → bytes_eq x y ≡ b → bytes_eq x y ≡ false
    go false e = e
    go true e = absurd (h ((bytes_eq-Decides x y).0 e))

same : (x : List ℕ) → bytes_eq x x ≡ true
same x = (bytes_eq-Decides x x).1 refl

within_some : {A : Type 0} (xs : List A) (k : ℕ) (x : A) → slice_get xs k ≡ Some x → k < length xs
within_some [] zero x h = cc
within_some [] (suc k) x h = cc
within_some (y ∷ ys) zero x h = omega arith
within_some (y ∷ ys) (suc k) x h = let l = within_some ys k x h in omega arith

-- the first is named otherwise than each behind it
first_apart : (b : List ℕ × Sort) (bs : Binders) (k : ℕ) (c : List ℕ × Sort) → Apart (b ∷ bs) → slice_get bs k ≡ Some c → b.0 ≡ c.0 → ⊥
first_apart b bs k c h e n = let l = within_some bs k c e in h zero (suc k) (omega arith) (omega arith) (ap Some n ∙ sym (ap (option_map (λ b. b.0)) e))

found : (i m k : ℕ) (bs : Binders) (c : List ℕ × Sort) → Apart bs → slice_get bs k ≡ Some c → bound_from m c.0 (bound_list i bs) ≡ Some (m + k, Some c.1)
found i m zero [] c h e = cc
found i m (suc k) [] c h e = cc
found i m zero (b ∷ bs) c h e =
    let is : b ≡ c = cc in
    ap (λ (c : List ℕ × Sort). if bytes_eq b.0 c.0 then Some (m, Some b.1) else bound_from (m + 1) c.0 (bound_list (i + length (binder_tokens b)) bs)) (sym is)
    ∙ ap (λ q. if q then Some (m, Some b.1) else bound_from (m + 1) b.0 (bound_list (i + length (binder_tokens b)) bs)) (same b.0)
    ∙ ap₂ (λ n s. Some (n, Some s)) (zero_more m) (ap (λ (c : List ℕ × Sort). c.1) is)
  where
    zero_more : (n : ℕ) → n ≡ n + zero
    zero_more n = omega arith
found i m (suc k) (b ∷ bs) c h e =
    ap (λ q. if q then Some (m, Some b.1) else bound_from (m + 1) c.0 (bound_list (i + length (binder_tokens b)) bs)) (other b.0 c.0 (first_apart b bs k c h e))
    ∙ found (i + length (binder_tokens b)) (m + 1) k bs c (apart_behind b bs h) e ∙ ap (λ n. Some (n, Some c.1)) (more m k)
  where
    more : (m k : ℕ) → m + 1 + k ≡ m + suc k
    more m k = omega arith

-- the name of a variable names it
pub names_its_variable : (i k : ℕ) (bs : Binders) (c : List ℕ × Sort) → Apart bs → slice_get bs k ≡ Some c → (c.0 ≡ codes "_" → ⊥) → variable_of (bound_list i bs) c.0 ≡ Some (k, Some c.1)
names_its_variable i k bs c h e n = ap (λ q. if q then None else bound_from 0 c.0 (bound_list i bs)) (other c.0 (codes "_") n) ∙ found i 0 k bs c h e ∙ ap (λ n. Some (n, Some c.1)) (zero_less k)
  where
    zero_less : (k : ℕ) → 0 + k ≡ k
    zero_less k = omega arith

-- ---- names that may be bound

-- none of them has one of these names
abbrev AreFresh : List Bound → Binders → Type 0
AreFresh before bs = (k : ℕ) (c : List ℕ × Sort) → slice_get bs k ≡ Some c → list_any (λ a. bytes_eq a.name c.0) before ≡ false

any_push : (p : Bound → Bool) (xs : List Bound) (x : Bound) → list_any p xs ≡ false → p x ≡ false → list_any p (xs ++ x ∷ []) ≡ false
any_push p [] x h e = ap (λ b. b || false) e
any_push p (y ∷ ys) x h e = ap₂ (λ b c. b || c) (left_false (p y) (list_any p ys) h) (any_push p ys x (right_false (p y) (list_any p ys) h) e)
  where
    left_false : (a b : Bool) → a || b ≡ false → a ≡ false
    left_false false b h = refl
    left_false true b h = cc

    right_false : (a b : Bool) → a || b ≡ false → b ≡ false
    right_false false b h = h
    right_false true b h = cc

length_push : (xs : List Bound) (x : Bound) → length (xs ++ x ∷ []) ≡ length xs + 1
length_push [] x = refl
length_push (y ∷ ys) x = let h = length_push ys x in omega arith

pub may_be_bound : (i : ℕ) (before : List Bound) (bs : Binders) → Apart bs → AreFresh before bs → length before + length bs ≤ 64 → bound_misfits before (bound_list i bs) ≡ []
may_be_bound i before [] h f few = refl
may_be_bound i before (b ∷ bs) h f few =
    let new : Bound = record { at = i + 1; name = b.0; sort = Some b.1 } in
    let fits : may_bind before new ≡ true = ap₂ (λ p q. not p && true && q) (f zero b refl) (lt-ltb (length before) 64 (omega arith)) in
    let fault : Misfit = record { at = i + 1; kind = fault.Typing } in
    let longer = length_push before new in
    ap (λ q. (if q then [] else fault ∷ []) ++ bound_misfits (before ++ new ∷ []) (bound_list (i + length (binder_tokens b)) bs)) fits
    ∙ may_be_bound (i + length (binder_tokens b)) (before ++ new ∷ []) bs (apart_behind b bs h)
    (λ k c e. any_push (λ a. bytes_eq a.name c.0) before new (f (suc k) c e) (other b.0 c.0 (first_apart b bs k c h e))) (omega arith)
