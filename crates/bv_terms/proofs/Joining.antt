-- Sorts of the terms that operators make of parts of fitting kinds.
use Rattle.std.proofs.Common.{◌≡◌, ℕ, ◌+◌, Bool, true, false, ◌&&◌, ◌||◌, Option, Some, None, refl, sym, ◌∙◌, ap, subst}
use Rattle.std.specs.Prelude.{◌==◌, nat_le, if◌then◌else◌, option_and_then}
use Rattle.std.proofs.lemmas.Bool.{eqb-true, eq-eqb, le-leb, and_from, cond-true}
use Rattle.std.proofs.lemmas.Option.{cond_some, option_and_then_some}
use Rattle.bv_grammar.specs.declared.words.Word.{Word}
use Rattle.bv_grammar.specs.declared.words.Word.TheVariants as words
use Rattle.bv_expr.specs.declared.ops.Sort.{Sort}
use Rattle.bv_expr.specs.declared.ops.Sort.TheVariants.{Truth, Vector}
use Rattle.bv_expr.specs.declared.ops.Unary.{Unary}
use Rattle.bv_expr.specs.declared.ops.Unary.TheVariants as of
use Rattle.bv_expr.specs.declared.ops.Binary.{Binary}
use Rattle.bv_expr.specs.declared.ops.Binary.TheVariants as on
use Rattle.bv_expr.specs.Term.{Term, unary, binary, choice, truth_choice}
use Rattle.bv_expr.specs.Sorts.{vectors, where_equal, unary_sort, binary_sort, choice_sort, truth_choice_sort, sort_of}
use Rattle.bv_typing.specs.declared.kind.Kind.{Kind}
use Rattle.bv_typing.specs.declared.kind.Kind.TheVariants as kind
use Rattle.bv_typing.specs.declared.kind.Row.{Row}
use Rattle.bv_typing.specs.declared.kind.Row.TheVariants as row
use Rattle.bv_typing.specs.Rows.{sorted, resized, arithmetic_row, negation_row, prefix_row, equality, binary_of, infix_sort, is_arithmetic, is_comparison, beside_bare, both_bare, plain_row, append_row, infix_row, branches_row, choice_row, ascribed_row}
use Rattle.bv_typing.specs.Readings.{width_in, either, told_or, right_width, infix_width, prefix_unary, sort_in, joined_by, joined, infix_term, choice_term}
use Rattle.bv_terms.specs.Sorting.{IsWidth, read, Readable, Sorts}
use Rattle.bv_terms.proofs.Inverted.{sorted_parts}

-- a kind has a width of 1 to 128, where it has one
abbrev pub HasWidth : Kind → Type 0
HasWidth (kind.Sorted (Vector w)) = IsWidth w
HasWidth _ = Unit {0}

pub vectors_is : (w : ℕ) → IsWidth w → vectors w ≡ Some (Vector w)
vectors_is w h = cond-true (nat_le 1 w && nat_le w 128) (Some (Vector w)) None (and_from (nat_le 1 w) (nat_le w 128) (le-leb 1 w h.0) (le-leb w 128 h.1))

pub equal_is : (w : ℕ) (s : Sort) → where_equal w w s ≡ Some s
equal_is w s = cond-true (w == w) (Some s) None (eq-eqb w w refl)

pub resized_parts : (w : ℕ) (k : Kind) → resized w ≡ row.Typed k → (vectors w ≡ Some (Vector w)) × (k ≡ kind.Sorted (Vector w))
resized_parts w k h = go (nat_le 1 w && nat_le w 128) h
  where
    go : (b : Bool) → (if b then row.Typed (kind.Sorted (Vector w)) else row.TooWide) ≡ row.Typed k → ((if b then Some (Vector w) else None) ≡ Some (Vector w)) × (k ≡ kind.Sorted (Vector w))
    go true e = let f : k ≡ kind.Sorted (Vector w) = cc in (refl, f)
    go false e = cc

-- ---- the sorts of nodes, by those of their parts

pub unary_of : (op : Unary) (x : Term) (s r : Sort) → sort_of x ≡ Some s → unary_sort op s ≡ Some r → sort_of (unary op x) ≡ Some r
unary_of op x s r h e = ap (option_and_then (unary_sort op)) h ∙ e

pub binary_of_sorts : (op : Binary) (x y : Term) (s t r : Sort) → sort_of x ≡ Some s → sort_of y ≡ Some t → binary_sort op s t ≡ Some r → sort_of (binary op x y) ≡ Some r
binary_of_sorts op x y s t r h k e = ap (λ o. option_and_then (λ a. option_and_then (binary_sort op a) (sort_of y)) o) h ∙ ap (option_and_then (binary_sort op s)) k ∙ e

flipped : (v w : ℕ) (r : Sort) → where_equal v w Truth ≡ Some r → where_equal w v Truth ≡ Some r
flipped v w r h =
    let p = cond_some (v == w) Truth r h in
    let e : w ≡ v = sym (eqb-true v w p.0) in
    cond-true (w == v) (Some Truth) None (eq-eqb w v e) ∙ ap Some p.1

less_turned : (s t r : Sort) → binary_sort on.Ult s t ≡ Some r → binary_sort on.Ult t s ≡ Some r
less_turned Truth Truth r h = cc
less_turned Truth (Vector w) r h = cc
less_turned (Vector v) Truth r h = cc
less_turned (Vector v) (Vector w) r h = flipped v w r h

at_most_turned : (s t r : Sort) → binary_sort on.Ule s t ≡ Some r → binary_sort on.Ule t s ≡ Some r
at_most_turned Truth Truth r h = cc
at_most_turned Truth (Vector w) r h = cc
at_most_turned (Vector v) Truth r h = cc
at_most_turned (Vector v) (Vector w) r h = flipped v w r h

equality_truth : (s t r : Sort) → binary_sort (equality s) s t ≡ Some r → r ≡ Truth
equality_truth Truth Truth r h = cc
equality_truth Truth (Vector w) r h = cc
equality_truth (Vector v) Truth r h = cc
equality_truth (Vector v) (Vector w) r h = sym (cond_some (v == w) Truth r h).1

same_op : (o p : Binary) → ◌≡◌ {A = Option Binary} (Some o) (Some p) → p ≡ o
same_op o p h = cc

not_equal : (op : Binary) (x y : Term) (s t r : Sort) → op ≡ equality s → sort_of x ≡ Some s → sort_of y ≡ Some t → binary_sort op s t ≡ Some r → sort_of (unary of.TNot (binary op x y)) ≡ Some r
not_equal op x y s t r e h k b =
    let c : r ≡ Truth = equality_truth s t r (subst (λ q. binary_sort q s t ≡ Some r) e b) in
    unary_of of.TNot (binary op x y) r r (binary_of_sorts op x y s t r h k b) (subst (λ q. unary_sort of.TNot q ≡ Some q) (sym c) refl)

pub joined_sort : (o : Word) (op : Binary) (x y : Term) (s t r : Sort) → binary_of o s ≡ Some op → sort_of x ≡ Some s → sort_of y ≡ Some t → binary_sort op s t ≡ Some r → sort_of (joined_by o (Some op) x y) ≡ Some r
joined_sort words.NotEqual op x y s t r e h k b = not_equal op x y s t r (same_op (equality s) op e) h k b
joined_sort words.BoolNotEqual op x y s t r e h k b = not_equal op x y s t r (same_op (equality s) op e) h k b
joined_sort words.Greater op x y s t r e h k b =
    let q = same_op on.Ult op e in
    binary_of_sorts op y x t s r k h (subst (λ a. binary_sort a t s ≡ Some r) (sym q) (less_turned s t r (subst (λ a. binary_sort a s t ≡ Some r) q b)))
joined_sort words.AtLeast op x y s t r e h k b =
    let q = same_op on.Ule op e in
    binary_of_sorts op y x t s r k h (subst (λ a. binary_sort a t s ≡ Some r) (sym q) (at_most_turned s t r (subst (λ a. binary_sort a s t ≡ Some r) q b)))
joined_sort o op x y s t r e h k b = binary_of_sorts op x y s t r h k b

-- ---- plain infix operators

-- the operator of two parts that are read at v, where the whole is read at w
pub record Joins (o : Word) (v w : ℕ) (j l k : Kind) : Type 0 where
  pub op : Binary
  pub named : binary_of o (sort_in (Some j)) ≡ Some op
  pub also : binary_of o (read v j) ≡ Some op
  pub gives : binary_sort op (read v j) (read v l) ≡ Some (read w k)
  pub left : Readable v j
  pub right : Readable v l

any_width : (o : Word) (v : ℕ) → binary_of o (Vector 0) ≡ binary_of o (Vector v)
any_width words.Equal v = refl
any_width _ v = refl

when : (b : Bool) (r : Row) (k : Kind) → (if b then r else row.Fails) ≡ row.Typed k → (b ≡ true) × (r ≡ row.Typed k)
when true r k h = (refl, h)
when false r k h = cc

both_sorted : (o : Word) (w : ℕ) (s t : Sort) (k : Kind) → sorted (infix_sort o s t) ≡ row.Typed k → (op : Binary) × (binary_of o s ≡ Some op) × (binary_sort op s t ≡ Some (read w k))
both_sorted o w s t k h =
    let p = sorted_parts (infix_sort o s t) k h in
    option_and_then_some (λ op. binary_sort op s t) (binary_of o s) p.0 p.1
    (λ op e f. (op, e, f ∙ ap Some (sym (ap (read w) p.2))))

arithmetic_op : (o : Word) (w : ℕ) → is_arithmetic o ≡ true → (op : Binary) × (binary_of o (Vector 0) ≡ Some op) × (binary_of o (Vector w) ≡ Some op) × (binary_sort op (Vector w) (Vector w) ≡ Some (Vector w))
arithmetic_op words.Times w h = (on.Mul, refl, refl, equal_is w (Vector w))
arithmetic_op words.Divide w h = (on.Udiv, refl, refl, equal_is w (Vector w))
arithmetic_op words.Modulo w h = (on.Umod, refl, refl, equal_is w (Vector w))
arithmetic_op words.Plus w h = (on.Add, refl, refl, equal_is w (Vector w))
arithmetic_op words.Minus w h = (on.Sub, refl, refl, equal_is w (Vector w))
arithmetic_op words.BitAnd w h = (on.And, refl, refl, equal_is w (Vector w))
arithmetic_op words.BitXor w h = (on.Xor, refl, refl, equal_is w (Vector w))
arithmetic_op words.BitOr w h = (on.Or, refl, refl, equal_is w (Vector w))
arithmetic_op _ w h = cc

beside_left : (o : Word) (w u : ℕ) (l k : Kind) → IsWidth u → read u l ≡ Vector u → Readable u l → beside_bare o (Vector u) ≡ row.Typed k → Joins o u w (kind.Sorted (Vector u)) l k
beside_left o w u l k h e g f =
    let p = when (is_arithmetic o || is_comparison o) (sorted (infix_sort o (Vector u) (Vector u))) k f in
    let q = both_sorted o w (Vector u) (Vector u) k p.1 in
    record { op = q.0; named = q.1; also = q.1; gives = ap (binary_sort q.0 (Vector u)) e ∙ q.2; left = tt; right = g }

beside_right : (o : Word) (w u : ℕ) (j k : Kind) → IsWidth u → read u j ≡ Vector u → sort_in (Some j) ≡ Vector 0 → Readable u j → beside_bare o (Vector u) ≡ row.Typed k → Joins o u w j (kind.Sorted (Vector u)) k
beside_right o w u j k h e z g f =
    let p = when (is_arithmetic o || is_comparison o) (sorted (infix_sort o (Vector u) (Vector u))) k f in
    let q = both_sorted o w (Vector u) (Vector u) k p.1 in
    record { op = q.0; named = ap (binary_of o) z ∙ any_width o u ∙ q.1; also = ap (binary_of o) e ∙ q.1; gives = ap (λ s. binary_sort q.0 s (Vector u)) e ∙ q.2; left = g; right = tt }

bare : (o : Word) (w : ℕ) (j l k : Kind) → read w j ≡ Vector w → read w l ≡ Vector w → sort_in (Some j) ≡ Vector 0 → (IsWidth w → Readable w j) → (IsWidth w → Readable w l) → Readable w k → both_bare o ≡ row.Typed k → Joins o w w j l k
bare o w j l k ej el z rj rl r f =
    let p = when (is_arithmetic o) (row.Typed kind.Bare) k f in
    let q = arithmetic_op o w p.0 in
    let e : kind.Bare ≡ k = cc in
    let g : IsWidth w = subst (Readable w) (sym e) r in
    record {
      op = q.0;
      named = ap (binary_of o) z ∙ q.1;
      also = ap (binary_of o) ej ∙ q.2;
      gives = ap (λ s. binary_sort q.0 s (read w l)) ej ∙ ap (binary_sort q.0 (Vector w)) el ∙ q.3 ∙ ap Some (ap (read w) e);
      left = rj g;
      right = rl g;
    }

pub plain_typed : (o : Word) (w : ℕ) (j l k : Kind) → HasWidth j → HasWidth l → plain_row o j l ≡ row.Typed k → Readable w k → Joins o (told_or w (either (width_in (Some j)) (width_in (Some l)))) w j l k
plain_typed o w (kind.Sorted s) (kind.Sorted t) k hj hl f r = let q = both_sorted o w s t k f in record { op = q.0; named = q.1; also = q.1; gives = q.2; left = tt; right = tt }
plain_typed o w (kind.Sorted Truth) kind.Bare k hj hl f r = cc
plain_typed o w (kind.Sorted Truth) (kind.Number n) k hj hl f r = cc
plain_typed o w (kind.Sorted (Vector u)) kind.Bare k hj hl f r = beside_left o w u kind.Bare k hj refl hj f
plain_typed o w (kind.Sorted (Vector u)) (kind.Number n) k hj hl f r = beside_left o w u (kind.Number n) k hj refl hj f
plain_typed o w kind.Bare (kind.Sorted Truth) k hj hl f r = cc
plain_typed o w (kind.Number n) (kind.Sorted Truth) k hj hl f r = cc
plain_typed o w kind.Bare (kind.Sorted (Vector u)) k hj hl f r = beside_right o w u kind.Bare k hl refl refl hl f
plain_typed o w (kind.Number n) (kind.Sorted (Vector u)) k hj hl f r = beside_right o w u (kind.Number n) k hl refl refl hl f
plain_typed o w kind.Bare kind.Bare k hj hl f r = bare o w kind.Bare kind.Bare k refl refl refl (λ g. g) (λ g. g) r f
plain_typed o w kind.Bare (kind.Number n) k hj hl f r = bare o w kind.Bare (kind.Number n) k refl refl refl (λ g. g) (λ g. g) r f
plain_typed o w (kind.Number n) kind.Bare k hj hl f r = bare o w (kind.Number n) kind.Bare k refl refl refl (λ g. g) (λ g. g) r f
plain_typed o w (kind.Number m) (kind.Number n) k hj hl f r = bare o w (kind.Number m) (kind.Number n) k refl refl refl (λ g. g) (λ g. g) r f

plain_sorts : (o : Word) (w : ℕ) (f g : ℕ → Term) (j l k : Kind) → HasWidth j → HasWidth l → plain_row o j l ≡ row.Typed k → Readable w k → Sorts f j → Sorts g l
    → sort_of (joined o (Some j) (f (told_or w (either (width_in (Some j)) (width_in (Some l))))) (g (told_or w (either (width_in (Some j)) (width_in (Some l)))))) ≡ Some (read w k)
plain_sorts o w f g j l k hj hl q r sj sl =
    let v = told_or w (either (width_in (Some j)) (width_in (Some l))) in
    let p = plain_typed o w j l k hj hl q r in
    ap (λ op. sort_of (joined_by o op (f v) (g v))) p.named ∙ joined_sort o p.op (f v) (g v) (read v j) (read v l) (read w k) p.also (sj v p.left) (sl v p.right) p.gives

-- a vector or a bare term, which gives one of the same kind
pub arithmetic_parts : (w : ℕ) (j k : Kind) → arithmetic_row j ≡ row.Typed k → Readable w k → (u : ℕ) × (read w j ≡ Vector u) × (read w k ≡ Vector u) × Readable w j
arithmetic_parts w (kind.Sorted Truth) k h r = cc
arithmetic_parts w (kind.Sorted (Vector u)) k h r = let e : k ≡ kind.Sorted (Vector u) = cc in (u, refl, ap (read w) e, tt)
arithmetic_parts w kind.Bare k h r = let e : k ≡ kind.Bare = cc in (w, refl, ap (read w) e, subst (Readable w) e r)
arithmetic_parts w (kind.Number n) k h r = let e : k ≡ kind.Bare = cc in (w, refl, ap (read w) e, subst (Readable w) e r)

-- an operator that keeps the sort of a vector
pub kept : (op : Unary) → ((u : ℕ) → unary_sort op (Vector u) ≡ Some (Vector u)) → (w : ℕ) (f : ℕ → Term) (j k : Kind) → arithmetic_row j ≡ row.Typed k → Readable w k → Sorts f j → sort_of (unary op (f w)) ≡ Some (read w k)
kept op keeps w f j k h r s =
    let p = arithmetic_parts w j k h r in
    unary_of op (f w) (Vector p.0) (read w k) (s w p.3 ∙ ap Some p.1) (keeps p.0 ∙ ap Some (sym p.2))

shifted : (op : Binary) → ((u v : ℕ) → binary_sort op (Vector u) (Vector v) ≡ Some (Vector u)) → (w u : ℕ) (f g : ℕ → Term) (j k : Kind) → arithmetic_row j ≡ row.Typed k → Readable w k → Sorts f j → Sorts g (kind.Sorted (Vector u))
    → sort_of (binary op (f w) (g 0)) ≡ Some (read w k)
shifted op keeps w u f g j k h r s t =
    let p = arithmetic_parts w j k h r in
    binary_of_sorts op (f w) (g 0) (Vector p.0) (Vector u) (read w k) (s w p.3 ∙ ap Some p.1) (t 0 tt) (keeps p.0 u ∙ ap Some (sym p.2))

appended : (w : ℕ) (f g : ℕ → Term) (j l k : Kind) → append_row j l ≡ row.Typed k → Sorts f j → Sorts g l
    → sort_of (joined words.Append (Some j) (f (told_or w (either (width_in (Some j)) (width_in (Some l))))) (g (told_or w (either (width_in (Some j)) (width_in (Some l)))))) ≡ Some (read w k)
appended w f g (kind.Sorted (Vector a)) (kind.Sorted (Vector b)) k h s t =
    let p = resized_parts (a + b) k h in
    binary_of_sorts on.Append (f a) (g a) (Vector a) (Vector b) (read w k) (s a tt) (t a tt) (p.0 ∙ ap Some (sym (ap (read w) p.1)))
appended w f g (kind.Sorted Truth) l k h s t = cc
appended w f g kind.Bare l k h s t = cc
appended w f g (kind.Number n) l k h s t = cc
appended w f g (kind.Sorted (Vector a)) (kind.Sorted Truth) k h s t = cc
appended w f g (kind.Sorted (Vector a)) kind.Bare k h s t = cc
appended w f g (kind.Sorted (Vector a)) (kind.Number n) k h s t = cc

infix_at : (o : Word) (w : ℕ) (f g : ℕ → Term) (j l k : Kind) → HasWidth j → HasWidth l → infix_row o j l ≡ row.Typed k → Readable w k → Sorts f j → Sorts g l
    → sort_of (infix_term o (Some j) (Some l) (f (told_or w (infix_width o (Some j) (Some l)))) (g (right_width o (told_or w (infix_width o (Some j) (Some l)))))) ≡ Some (read w k)
infix_at words.ShiftLeft w f g j (kind.Number n) k hj hl h r s t = kept (of.ShlBy n) (λ u. refl) w f j k h r s
infix_at words.ShiftLeft w f g j (kind.Sorted (Vector u)) k hj hl h r s t = shifted on.Shl (λ a b. refl) w u f g j k h r s t
infix_at words.ShiftLeft w f g j (kind.Sorted Truth) k hj hl h r s t = cc
infix_at words.ShiftLeft w f g j kind.Bare k hj hl h r s t = cc
infix_at words.ShiftRight w f g j (kind.Number n) k hj hl h r s t = kept (of.LshrBy n) (λ u. refl) w f j k h r s
infix_at words.ShiftRight w f g j (kind.Sorted (Vector u)) k hj hl h r s t = shifted on.Lshr (λ a b. refl) w u f g j k h r s t
infix_at words.ShiftRight w f g j (kind.Sorted Truth) k hj hl h r s t = cc
infix_at words.ShiftRight w f g j kind.Bare k hj hl h r s t = cc
infix_at words.Append w f g j l k hj hl h r s t = appended w f g j l k h s t
infix_at o w f g j l k hj hl h r s t = plain_sorts o w f g j l k hj hl h r s t

pub infix_sorts : (o : Word) (w : ℕ) (f g : ℕ → Term) (a b : Option Kind) (j l k : Kind) → a ≡ Some j → b ≡ Some l → HasWidth j → HasWidth l → infix_row o j l ≡ row.Typed k → Readable w k → Sorts f j → Sorts g l
    → sort_of (infix_term o a b (f (told_or w (infix_width o a b))) (g (right_width o (told_or w (infix_width o a b))))) ≡ Some (read w k)
infix_sorts o w f g a b j l k ea eb hj hl h r s t =
    (λ i. sort_of (infix_term o (ea i) (eb i) (f (told_or w (infix_width o (ea i) (eb i)))) (g (right_width o (told_or w (infix_width o (ea i) (eb i)))))))
    ∙ infix_at o w f g j l k hj hl h r s t

-- ---- prefix operators

negation_parts : (w : ℕ) (j k : Kind) → negation_row j ≡ row.Typed k → (j ≡ kind.Sorted Truth) × (k ≡ kind.Sorted Truth)
negation_parts w (kind.Sorted Truth) k h = let e : k ≡ kind.Sorted Truth = cc in (refl, e)
negation_parts w (kind.Sorted (Vector u)) k h = cc
negation_parts w kind.Bare k h = cc
negation_parts w (kind.Number n) k h = cc

negation : (w : ℕ) (f : ℕ → Term) (j k : Kind) → negation_row j ≡ row.Typed k → Sorts f j → sort_of (unary of.TNot (f w)) ≡ Some (read w k)
negation w f j k h s =
    let p = negation_parts w j k h in
    let t : sort_of (f w) ≡ Some Truth = subst (Sorts f) p.0 s w tt in
    unary_of of.TNot (f w) Truth (read w k) t (ap Some (sym (ap (read w) p.1)))

pub prefix_sorts : (o : Word) (w : ℕ) (f : ℕ → Term) (j k : Kind) → prefix_row o j ≡ row.Typed k → Readable w k → Sorts f j → sort_of (unary (prefix_unary o) (f w)) ≡ Some (read w k)
prefix_sorts words.Complement w f j k h r s = kept of.Not (λ u. refl) w f j k h r s
prefix_sorts words.Minus w f j k h r s = kept of.Neg (λ u. refl) w f j k h r s
prefix_sorts words.Not w f j k h r s = negation w f j k h s
prefix_sorts words.BoolNot w f j k h r s = negation w f j k h s
prefix_sorts _ w f j k h r s = cc

-- ---- choices

choice_from : (c x y : Term) (r s t q : Sort) → sort_of c ≡ Some r → sort_of x ≡ Some s → sort_of y ≡ Some t → choice_sort r s t ≡ Some q → sort_of (choice c x y) ≡ Some q
choice_from c x y r s t q h k l e =
    ap (λ o. option_and_then (λ a. option_and_then (λ b. option_and_then (choice_sort a b) (sort_of y)) (sort_of x)) o) h
    ∙ ap (λ o. option_and_then (λ b. option_and_then (choice_sort r b) (sort_of y)) o) k ∙ ap (option_and_then (choice_sort r s)) l ∙ e

truth_choice_from : (c x y : Term) → sort_of c ≡ Some Truth → sort_of x ≡ Some Truth → sort_of y ≡ Some Truth → sort_of (truth_choice c x y) ≡ Some Truth
truth_choice_from c x y h k l =
    ap (λ o. option_and_then (λ a. option_and_then (λ b. option_and_then (truth_choice_sort a b) (sort_of y)) (sort_of x)) o) h
    ∙ ap (λ o. option_and_then (λ b. option_and_then (truth_choice_sort Truth b) (sort_of y)) o) k ∙ ap (option_and_then (truth_choice_sort Truth Truth)) l

as_sum : (s t q : Sort) → binary_sort on.Add s t ≡ Some q → choice_sort Truth s t ≡ Some q
as_sum Truth Truth q h = cc
as_sum Truth (Vector w) q h = cc
as_sum (Vector v) Truth q h = cc
as_sum (Vector v) (Vector w) q h = h

vector_choice : (w : ℕ) (c : Term) (f g : ℕ → Term) (j l k : Kind) → sort_of c ≡ Some Truth → HasWidth j → HasWidth l → plain_row words.Plus j l ≡ row.Typed k → Readable w k → Sorts f j → Sorts g l
    → sort_of (choice c (f (told_or w (either (width_in (Some j)) (width_in (Some l))))) (g (told_or w (either (width_in (Some j)) (width_in (Some l)))))) ≡ Some (read w k)
vector_choice w c f g j l k hc hj hl h r s t =
    let v = told_or w (either (width_in (Some j)) (width_in (Some l))) in
    let p = plain_typed words.Plus w j l k hj hl h r in
    let e : binary_sort on.Add (read v j) (read v l) ≡ Some (read w k) = subst (λ q. binary_sort q (read v j) (read v l) ≡ Some (read w k)) (same_op on.Add p.op p.also) p.gives in
    choice_from c (f v) (g v) Truth (read v j) (read v l) (read w k) hc (s v p.left) (t v p.right) (as_sum (read v j) (read v l) (read w k) e)

branches : (w : ℕ) (c : Term) (f g : ℕ → Term) (j l k : Kind) → sort_of c ≡ Some Truth → HasWidth j → HasWidth l → branches_row j l ≡ row.Typed k → Readable w k → Sorts f j → Sorts g l
    → sort_of (choice_term (Some j) c (f (told_or w (either (width_in (Some j)) (width_in (Some l))))) (g (told_or w (either (width_in (Some j)) (width_in (Some l)))))) ≡ Some (read w k)
branches w c f g (kind.Sorted Truth) (kind.Sorted Truth) k hc hj hl h r s t =
    let e : k ≡ kind.Sorted Truth = cc in
    truth_choice_from c (f w) (g w) hc (s w tt) (t w tt) ∙ ap Some (sym (ap (read w) e))
branches w c f g (kind.Sorted Truth) (kind.Sorted (Vector u)) k hc hj hl h r s t = cc
branches w c f g (kind.Sorted Truth) kind.Bare k hc hj hl h r s t = cc
branches w c f g (kind.Sorted Truth) (kind.Number n) k hc hj hl h r s t = cc
branches w c f g (kind.Sorted (Vector u)) l k hc hj hl h r s t = vector_choice w c f g (kind.Sorted (Vector u)) l k hc hj hl h r s t
branches w c f g kind.Bare l k hc hj hl h r s t = vector_choice w c f g kind.Bare l k hc hj hl h r s t
branches w c f g (kind.Number n) l k hc hj hl h r s t = vector_choice w c f g (kind.Number n) l k hc hj hl h r s t

test_parts : (c j l k : Kind) → choice_row c j l ≡ row.Typed k → (c ≡ kind.Sorted Truth) × (branches_row j l ≡ row.Typed k)
test_parts (kind.Sorted Truth) j l k h = (refl, h)
test_parts (kind.Sorted (Vector u)) j l k h = cc
test_parts kind.Bare j l k h = cc
test_parts (kind.Number n) j l k h = cc

pub choice_sorts : (w : ℕ) (q f g : ℕ → Term) (a b : Option Kind) (c j l k : Kind) → a ≡ Some j → b ≡ Some l → HasWidth j → HasWidth l → choice_row c j l ≡ row.Typed k → Readable w k → Sorts q c → Sorts f j → Sorts g l
    → sort_of (choice_term a (q w) (f (told_or w (either (width_in a) (width_in b)))) (g (told_or w (either (width_in a) (width_in b))))) ≡ Some (read w k)
choice_sorts w q f g a b c j l k ea eb hj hl h r sq s t =
    let p = test_parts c j l k h in
    (λ i. sort_of (choice_term (ea i) (q w) (f (told_or w (either (width_in (ea i)) (width_in (eb i))))) (g (told_or w (either (width_in (ea i)) (width_in (eb i)))))))
    ∙ branches w (q w) f g j l k (subst (Sorts q) p.0 sq w tt) hj hl p.1 r s t

-- ---- ascriptions

pub ascribed_sorts : (w u : ℕ) (f : ℕ → Term) (j k : Kind) → IsWidth u → ascribed_row (Vector u) j ≡ row.Typed k → Sorts f j → sort_of (f u) ≡ Some (read w k)
ascribed_sorts w u f (kind.Sorted Truth) k hu h s = cc
ascribed_sorts w u f (kind.Sorted (Vector v)) k hu h s =
    let p = when (v == u) (row.Typed (kind.Sorted (Vector u))) k h in
    let e : k ≡ kind.Sorted (Vector u) = cc in
    s u tt ∙ ap (λ n. Some (Vector n)) (eqb-true v u p.0) ∙ ap Some (sym (ap (read w) e))
ascribed_sorts w u f kind.Bare k hu h s = let e : k ≡ kind.Sorted (Vector u) = cc in s u hu ∙ ap Some (sym (ap (read w) e))
ascribed_sorts w u f (kind.Number n) k hu h s = let e : k ≡ kind.Sorted (Vector u) = cc in s u hu ∙ ap Some (sym (ap (read w) e))

pub ascribed_truth : (w : ℕ) (f : ℕ → Term) (j k : Kind) → ascribed_row Truth j ≡ row.Typed k → Sorts f j → sort_of (f w) ≡ Some (read w k)
ascribed_truth w f (kind.Sorted Truth) k h s = let e : k ≡ kind.Sorted Truth = cc in s w tt ∙ ap Some (sym (ap (read w) e))
ascribed_truth w f (kind.Sorted (Vector u)) k h s = cc
ascribed_truth w f kind.Bare k h s = cc
ascribed_truth w f (kind.Number n) k h s = cc
