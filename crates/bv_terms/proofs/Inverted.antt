-- What the parts of a typed tree are.
use Rattle.std.proofs.Common.{◌≡◌, ℕ, ◌≤◌, Bool, true, false, List, ◌∷◌, Option, Some, None, refl, ap}
use Rattle.std.specs.Prelude.{nat_le, if◌then◌else◌, option_map, option_and_then}
use Rattle.std.proofs.lemmas.Bool.{leb-true}
use Rattle.bv_expr.specs.declared.ops.Sort.{Sort}
use Rattle.bv_typing.specs.declared.kind.Kind.{Kind}
use Rattle.bv_typing.specs.declared.kind.Kind.TheVariants as kind
use Rattle.bv_typing.specs.declared.kind.Row.{Row}
use Rattle.bv_typing.specs.declared.kind.Row.TheVariants as row
use Rattle.bv_typing.specs.Rows.{sorted}
use Rattle.bv_typing.specs.Readings.{kind_in, typed, within}

pub kind_row : (r : Row) (k : Kind) → kind_in r ≡ Some k → r ≡ row.Typed k
kind_row (row.Typed j) k h = let e : j ≡ k = cc in ap row.Typed e
kind_row row.Fails k h = cc
kind_row row.TooWide k h = cc

within_parts : (d : ℕ) (r : Row) (k : Kind) → within d r ≡ row.Typed k → (d ≤ 1000) × (r ≡ row.Typed k)
within_parts d r k h = go (nat_le d 1000) refl h
  where
    go : (b : Bool) → nat_le d 1000 ≡ b → (if b then r else row.Fails) ≡ row.Typed k → (d ≤ 1000) × (r ≡ row.Typed k)
    go true e f = (leb-true d 1000 e, f)
    go false e f = cc

pub record One (f : Kind → Row) (d : ℕ) (o : Option Kind) (k : Kind) : Type 0 where
  pub part : Kind
  pub is : o ≡ Some part
  pub shallow : d ≤ 1000
  pub fits : f part ≡ row.Typed k

pub one_part : (f : Kind → Row) (d : ℕ) (o : Option Kind) (k : Kind) → typed (option_map (λ j. within d (f j)) o) ≡ Some k → One f d o k
one_part f d None k h = cc
one_part f d (Some j) k h =
    let r = within_parts d (f j) k (kind_row (within d (f j)) k h) in
    record { part = j; is = refl; shallow = r.0; fits = r.1 }

pub record Two {A : Type 0} (f : Kind → A → Row) (d : ℕ) (o : Option Kind) (p : Option A) (k : Kind) : Type 0 where
  pub left : Kind
  pub right : A
  pub left_is : o ≡ Some left
  pub right_is : p ≡ Some right
  pub shallow : d ≤ 1000
  pub fits : f left right ≡ row.Typed k

pub two_parts : {A : Type 0} (f : Kind → A → Row) (d : ℕ) (o : Option Kind) (p : Option A) (k : Kind) → typed (option_and_then (λ j. option_map (λ l. within d (f j l)) p) o) ≡ Some k → Two f d o p k
two_parts f d None p k h = cc
two_parts f d (Some j) None k h = cc
two_parts f d (Some j) (Some l) k h =
    let r = within_parts d (f j l) k (kind_row (within d (f j l)) k h) in
    record { left = j; right = l; left_is = refl; right_is = refl; shallow = r.0; fits = r.1 }

pub record Three (f : Kind → Kind → Kind → Row) (d : ℕ) (o p q : Option Kind) (k : Kind) : Type 0 where
  pub test : Kind
  pub left : Kind
  pub right : Kind
  pub test_is : o ≡ Some test
  pub left_is : p ≡ Some left
  pub right_is : q ≡ Some right
  pub shallow : d ≤ 1000
  pub fits : f test left right ≡ row.Typed k

pub three_parts : (f : Kind → Kind → Kind → Row) (d : ℕ) (o p q : Option Kind) (k : Kind)
    → typed (option_and_then (λ c. option_and_then (λ j. option_map (λ l. within d (f c j l)) q) p) o) ≡ Some k → Three f d o p q k
three_parts f d None p q k h = cc
three_parts f d (Some c) None q k h = cc
three_parts f d (Some c) (Some j) None k h = cc
three_parts f d (Some c) (Some j) (Some l) k h =
    let r = within_parts d (f c j l) k (kind_row (within d (f c j l)) k h) in
    record { test = c; left = j; right = l; test_is = refl; left_is = refl; right_is = refl; shallow = r.0; fits = r.1 }

pub ascribed_part : (f : Kind → Row) (o : Option Kind) (k : Kind) → typed (option_map f o) ≡ Some k → (j : Kind) × (o ≡ Some j) × (f j ≡ row.Typed k)
ascribed_part f None k h = cc
ascribed_part f (Some j) k h = (j, refl, kind_row (f j) k h)

pub kinds_parts : (o : Option Kind) (p : Option (List Kind)) (ks : List Kind) → option_and_then (λ k. option_map (λ js. k ∷ js) p) o ≡ Some ks → (k : Kind) × (js : List Kind) × (o ≡ Some k) × (p ≡ Some js) × (ks ≡ k ∷ js)
kinds_parts None p ks h = cc
kinds_parts (Some k) None ks h = cc
kinds_parts (Some k) (Some js) ks h = let e : ks ≡ k ∷ js = cc in (k, js, refl, refl, e)

pub sorted_parts : (o : Option Sort) (k : Kind) → sorted o ≡ row.Typed k → (s : Sort) × (o ≡ Some s) × (k ≡ kind.Sorted s)
sorted_parts None k h = cc
sorted_parts (Some s) k h = let e : k ≡ kind.Sorted s = cc in (s, refl, e)
