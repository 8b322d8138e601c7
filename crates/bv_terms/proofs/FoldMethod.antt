-- A method makes its term of what its receiver and its arguments put on the stack.
use Rattle.std.proofs.Common.{◌≡◌, ℕ, ◌+◌, ◌-◌, inl, List, [], ◌∷◌, Option, Some, None, refl, sym, ◌∙◌, ap, subst}
use Rattle.bv_expr.specs.declared.ops.Sort.TheVariants.{Truth, Vector}
use Rattle.bv_expr.specs.declared.ops.Unary.TheVariants as of
use Rattle.bv_expr.specs.declared.ops.Binary.{Binary}
use Rattle.bv_expr.specs.declared.ops.Binary.TheVariants as on
use Rattle.bv_expr.specs.Term.{Term, unary, binary}
use Rattle.bv_typing.specs.declared.item.Item.{Item}
use Rattle.bv_typing.specs.declared.item.Item.TheVariants.{Number, Made}
use Rattle.bv_typing.specs.declared.kind.Kind.{Kind}
use Rattle.bv_typing.specs.declared.kind.Kind.TheVariants as kind
use Rattle.bv_typing.specs.declared.kind.Row.TheVariants as row
use Rattle.bv_typing.specs.declared.method.Method.{Method}
use Rattle.bv_typing.specs.declared.method.Method.TheVariants as by_method
use Rattle.bv_typing.specs.declared.method.Numbered.{Numbered}
use Rattle.bv_typing.specs.Rows.{arguments_row, method_row}
use Rattle.bv_typing.specs.Readings.{told_or, width_for, numbered_unary, method_term}
use Rattle.bv_terms.specs.Sorting.{IsWidth, Readable}
use Rattle.bv_terms.specs.Building.{checked, put, method_step}
use Rattle.bv_terms.proofs.Joining.{HasWidth}
use Rattle.bv_terms.proofs.Typed.{AllFit}
use Rattle.bv_terms.proofs.Built.{Takes, checked_made}
use Rattle.bv_terms.proofs.FoldParts.{Fitting, takes, readable}

-- one by one onto a stack
abbrev pub onto : List Item → List Item → List Item
onto [] st = st
onto (x ∷ xs) st = onto xs (x ∷ st)

abbrev pub AllTake : ℕ → List Kind → Type 0
AllTake w [] = Unit {0}
AllTake w (k ∷ ks) = Takes w k × AllTake w ks

-- the method makes its term of these arguments
abbrev pub Makes : Option Method → Term → List Item → List Item → Type 0
Makes m x st is = Fitting (method_term m x is) → method_step m (onto is (Made x ∷ st)) ≡ Some (Made (method_term m x is) ∷ st)

-- the arguments can be read at the width that they are told, and it makes its term of them
pub record MadeMethod (m : Option Method) (v : ℕ) (x : Term) (g : ℕ → List Item) (ks : List Kind) : Type 0 where
  pub all_take : AllTake v ks
  pub makes : (st : List Item) → Makes m x st (g v)

-- a term on the stack
on_stack : (t : Term) (st : List Item) → Fitting t → put (checked t) st ≡ Some (Made t ∷ st)
on_stack t st c = ap (λ o. put o st) (checked_made t c.0 c.1 c.2)

of_arguments : (m : Option Method) (x : Term) (st is js : List Item) → is ≡ js → Makes m x st js → Makes m x st is
of_arguments m x st is js e h = subst (Makes m x st) (sym e) h

two_numbers : (g : ℕ → List Item) (a b : ℕ) → AllFit g (kind.Number a ∷ kind.Number b ∷ []) → g 0 ≡ Number a ∷ Number b ∷ []
two_numbers g a b f = f.2 0 ∙ (λ i. f.3.as_number a refl i ∷ (f.4.2 0 ∙ (λ j. f.4.3.as_number b refl j ∷ f.4.4 0 j)) i)

with_made : (op : Binary) (u : ℕ) (x : Term) (g : ℕ → List Item) (l : Kind) → IsWidth u → AllFit g (l ∷ []) → MadeMethod (Some (by_method.With op)) u x g (l ∷ [])
with_made op u x g l hu a =
    let y = a.3.as_made u (readable u l hu) in
    record {
      all_take = (takes u l (readable u l hu), tt);
      makes = λ st. of_arguments (Some (by_method.With op)) x st (g u) (Made y.0 ∷ []) (a.2 u ∙ (λ i. y.1 i ∷ a.4 u i)) (on_stack (binary op x y.0) st);
    }

shift_made : (v : ℕ) (x : Term) (g : ℕ → List Item) → AllFit g (kind.Sorted (Vector v) ∷ []) → MadeMethod (Some by_method.ArithmeticShift) 0 x g (kind.Sorted (Vector v) ∷ [])
shift_made v x g a =
    let y = a.3.as_made 0 tt in
    record {
      all_take = (tt, tt);
      makes = λ st. of_arguments (Some by_method.ArithmeticShift) x st (g 0) (Made y.0 ∷ []) (a.2 0 ∙ (λ i. y.1 i ∷ a.4 0 i)) (on_stack (binary on.Ashr x y.0) st);
    }

numbered_made : (m : Numbered) (n : ℕ) (x : Term) (g : ℕ → List Item) → AllFit g (kind.Number n ∷ []) → MadeMethod (Some (by_method.By m)) 0 x g (kind.Number n ∷ [])
numbered_made m n x g a = record {
  all_take = (inl refl, tt);
  makes = λ st. of_arguments (Some (by_method.By m)) x st (g 0) (Number n ∷ []) (a.2 0 ∙ (λ i. a.3.as_number n refl i ∷ a.4 0 i)) (on_stack (unary (numbered_unary m n) x) st);
}

extract_made : (start len : ℕ) (x : Term) (g : ℕ → List Item) → AllFit g (kind.Number start ∷ kind.Number len ∷ []) → MadeMethod (Some by_method.Extract) 0 x g (kind.Number start ∷ kind.Number len ∷ [])
extract_made start len x g a = record {
  all_take = (inl refl, (inl refl, tt));
  makes = λ st. of_arguments (Some by_method.Extract) x st (g 0) (Number start ∷ Number len ∷ []) (two_numbers g start len a) (on_stack (unary (of.Extract start len) x) st);
}

between_made : (high low : ℕ) (x : Term) (g : ℕ → List Item) → AllFit g (kind.Number high ∷ kind.Number low ∷ []) → MadeMethod (Some by_method.ExtractBetween) 0 x g (kind.Number high ∷ kind.Number low ∷ [])
between_made high low x g a = record {
  all_take = (inl refl, (inl refl, tt));
  makes = λ st. of_arguments (Some by_method.ExtractBetween) x st (g 0) (Number high ∷ Number low ∷ []) (two_numbers g high low a) (on_stack (unary (of.Extract low (high - low + 1)) x) st);
}

arguments_made : (m : Method) (w u : ℕ) (x : Term) (g : ℕ → List Item) (ks : List Kind) (k : Kind) → IsWidth u → arguments_row m u ks ≡ row.Typed k → AllFit g ks
    → MadeMethod (Some m) (told_or w (width_for (Some m) (Some (kind.Sorted (Vector u))))) x g ks
arguments_made by_method.Msb w u x g [] k hu h a = record { all_take = tt; makes = λ st. of_arguments (Some by_method.Msb) x st (g 0) [] (a 0) (on_stack (unary of.Msb x) st) }
arguments_made (by_method.With op) w u x g (l ∷ []) k hu h a = with_made op u x g l hu a
arguments_made by_method.ArithmeticShift w u x g (kind.Sorted (Vector v) ∷ []) k hu h a = shift_made v x g a
arguments_made (by_method.By m) w u x g (kind.Number n ∷ []) k hu h a = numbered_made m n x g a
arguments_made by_method.Extract w u x g (kind.Number start ∷ kind.Number len ∷ []) k hu h a = extract_made start len x g a
arguments_made by_method.ExtractBetween w u x g (kind.Number high ∷ kind.Number low ∷ []) k hu h a = between_made high low x g a
arguments_made _ w u x g _ k hu h a = cc

-- its receiver is a vector
pub receiver : (m : Option Method) (w : ℕ) (j : Kind) (ks : List Kind) (k : Kind) → method_row m j ks ≡ row.Typed k → Readable w j
receiver None w j ks k h = cc
receiver (Some m) w (kind.Sorted s) ks k h = tt
receiver (Some m) w kind.Bare ks k h = cc
receiver (Some m) w (kind.Number n) ks k h = cc

method_at_made : (m : Option Method) (w : ℕ) (x : Term) (g : ℕ → List Item) (j : Kind) (ks : List Kind) (k : Kind) → HasWidth j → method_row m j ks ≡ row.Typed k → AllFit g ks
    → MadeMethod m (told_or w (width_for m (Some j))) x g ks
method_at_made None w x g j ks k hj h a = cc
method_at_made (Some m) w x g (kind.Sorted Truth) ks k hj h a = cc
method_at_made (Some m) w x g (kind.Sorted (Vector u)) ks k hj h a = arguments_made m w u x g ks k hj h a
method_at_made (Some m) w x g kind.Bare ks k hj h a = cc
method_at_made (Some m) w x g (kind.Number n) ks k hj h a = cc

pub method_made : (m : Option Method) (w : ℕ) (x : Term) (g : ℕ → List Item) (o : Option Kind) (j : Kind) (ks : List Kind) (k : Kind) → o ≡ Some j → HasWidth j → method_row m j ks ≡ row.Typed k → AllFit g ks
    → MadeMethod m (told_or w (width_for m o)) x g ks
method_made m w x g o j ks k e hj h a = subst (λ p. MadeMethod m (told_or w (width_for m p)) x g ks) (sym e) (method_at_made m w x g j ks k hj h a)
