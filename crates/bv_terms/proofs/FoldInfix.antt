-- An infix operator makes its term of what its parts put on the stack.
use Rattle.std.proofs.Common.{◌≡◌, ℕ, inl, Option, Some, refl, sym, ◌∙◌, ap, subst, arith}
use Rattle.std.specs.Prelude.{if◌then◌else◌, option_and_then}
use Rattle.std.proofs.lemmas.Option.{option_and_then_some}
use Rattle.bv_grammar.specs.declared.words.Word.{Word}
use Rattle.bv_grammar.specs.declared.words.Word.TheVariants as words
use Rattle.bv_expr.specs.declared.ops.Sort.TheVariants.{Truth, Vector}
use Rattle.bv_expr.specs.declared.ops.Unary.TheVariants as of
use Rattle.bv_expr.specs.declared.ops.Binary.{Binary}
use Rattle.bv_expr.specs.declared.ops.Binary.TheVariants as on
use Rattle.bv_expr.specs.Term.{Term, unary, binary}
use Rattle.bv_expr.specs.Sorts.{unary_sort, sort_of}
use Rattle.bv_typing.specs.declared.item.Item.{Item}
use Rattle.bv_typing.specs.declared.item.Item.TheVariants.{Number, Made}
use Rattle.bv_typing.specs.declared.kind.Kind.{Kind}
use Rattle.bv_typing.specs.declared.kind.Kind.TheVariants as kind
use Rattle.bv_typing.specs.declared.kind.Row.TheVariants as row
use Rattle.bv_typing.specs.Rows.{binary_of, plain_row, append_row, amount_row, infix_row}
use Rattle.bv_typing.specs.Readings.{told_or, right_width, infix_width, either, width_in, negated, is_turned, shift_unary, sort_in, joined_by, joined, infix_term}
use Rattle.bv_terms.specs.Sorting.{read, Readable}
use Rattle.bv_terms.specs.Building.{checked, unary_item, negated_item, joined_item, infix_item}
use Rattle.bv_terms.proofs.Joining.{arithmetic_parts, plain_typed}
use Rattle.bv_terms.proofs.Built.{Takes, checked_made}
use Rattle.bv_terms.proofs.FoldParts.{Fitting, takes, has_width, Part}

-- the parts can be read at the widths that they are told, v and u, and the operator makes the term of theirs
pub record Infix (o : Word) (v u : ℕ) (p q : ℕ → Item) (f g : ℕ → Term) (a b : Option Kind) (j l : Kind) : Type 0 where
  pub left : Takes v j
  pub right : Takes u l
  pub makes : Fitting (infix_term o a b (f v) (g u)) → infix_item o (p v) (q u) ≡ Some (Made (infix_term o a b (f v) (g u)))

not_made : (z : Term) → Fitting (unary of.TNot z) → option_and_then (unary_item of.TNot) (checked z) ≡ Some (Made (unary of.TNot z))
not_made z (r, h, d) =
    option_and_then_some (unary_sort of.TNot) (sort_of z) r h
    (λ s e f. ap (option_and_then (unary_item of.TNot)) (checked_made z s e (omega arith)) ∙ checked_made (unary of.TNot z) r h d)

negated_made : (o : Word) (z : Term) → Fitting (negated o z) → negated_item o (checked z) ≡ Some (Made (negated o z))
negated_made words.NotEqual z c = not_made z c
negated_made words.BoolNotEqual z c = not_made z c
negated_made _ z c = checked_made z c.0 c.1 c.2

-- of two terms
joined_made : (o : Word) (j : Kind) (op : Binary) (v : ℕ) (x y : Term) → sort_of x ≡ Some (read v j) → binary_of o (read v j) ≡ Some op → binary_of o (sort_in (Some j)) ≡ Some op
    → Fitting (joined o (Some j) x y) → infix_item o (Made x) (Made y) ≡ Some (Made (joined o (Some j) x y))
joined_made o j op v x y h e f c =
    ap (λ s. joined_item o (option_and_then (binary_of o) s) x y) h ∙ ap (λ q. joined_item o q x y) e
    ∙ negated_made o (if is_turned o then binary op y x else binary op x y) (subst (λ q. Fitting (joined_by o q x y)) f c)
    ∙ ap (λ q. Some (Made (joined_by o q x y))) (sym f)

-- of parts that are terms there
both_made : (o : Word) (x y : Item) (s t : Term) (r : Option Item) → x ≡ Made s → y ≡ Made t → infix_item o (Made s) (Made t) ≡ r → infix_item o x y ≡ r
both_made o x y s t r e f h = (λ i. infix_item o (e i) (f i)) ∙ h

number_made : (o : Word) (x y : Item) (s : Term) (n : ℕ) (r : Option Item) → x ≡ Made s → y ≡ Number n → infix_item o (Made s) (Number n) ≡ r → infix_item o x y ≡ r
number_made o x y s n r e f h = (λ i. infix_item o (e i) (f i)) ∙ h

left_by_number : (n w : ℕ) (p q : ℕ → Item) (f g : ℕ → Term) (j k : Kind) → Part p f j → Part q g (kind.Number n) → amount_row j (kind.Number n) ≡ row.Typed k → Readable w k
    → Infix words.ShiftLeft w 0 p q f g (Some j) (Some (kind.Number n)) j (kind.Number n)
left_by_number n w p q f g j k x y h r =
    let a = arithmetic_parts w j k h r in
    record {
      left = takes w j a.3;
      right = inl refl;
      makes = λ c. number_made words.ShiftLeft (p w) (q 0) (f w) n _ (x.as_made w a.3) (y.as_number n refl) (checked_made (unary (shift_unary words.ShiftLeft n) (f w)) c.0 c.1 c.2);
    }

right_by_number : (n w : ℕ) (p q : ℕ → Item) (f g : ℕ → Term) (j k : Kind) → Part p f j → Part q g (kind.Number n) → amount_row j (kind.Number n) ≡ row.Typed k → Readable w k
    → Infix words.ShiftRight w 0 p q f g (Some j) (Some (kind.Number n)) j (kind.Number n)
right_by_number n w p q f g j k x y h r =
    let a = arithmetic_parts w j k h r in
    record {
      left = takes w j a.3;
      right = inl refl;
      makes = λ c. number_made words.ShiftRight (p w) (q 0) (f w) n _ (x.as_made w a.3) (y.as_number n refl) (checked_made (unary (shift_unary words.ShiftRight n) (f w)) c.0 c.1 c.2);
    }

left_by_vector : (a w : ℕ) (p q : ℕ → Item) (f g : ℕ → Term) (j k : Kind) → Part p f j → Part q g (kind.Sorted (Vector a)) → amount_row j (kind.Sorted (Vector a)) ≡ row.Typed k → Readable w k
    → Infix words.ShiftLeft w 0 p q f g (Some j) (Some (kind.Sorted (Vector a))) j (kind.Sorted (Vector a))
left_by_vector a w p q f g j k x y h r =
    let m = arithmetic_parts w j k h r in
    record {
      left = takes w j m.3;
      right = tt;
      makes = λ c. both_made words.ShiftLeft (p w) (q 0) (f w) (g 0) _ (x.as_made w m.3) (y.as_made 0 tt) (joined_made words.ShiftLeft j on.Shl w (f w) (g 0) (x.sorts w m.3) refl refl c);
    }

right_by_vector : (a w : ℕ) (p q : ℕ → Item) (f g : ℕ → Term) (j k : Kind) → Part p f j → Part q g (kind.Sorted (Vector a)) → amount_row j (kind.Sorted (Vector a)) ≡ row.Typed k → Readable w k
    → Infix words.ShiftRight w 0 p q f g (Some j) (Some (kind.Sorted (Vector a))) j (kind.Sorted (Vector a))
right_by_vector a w p q f g j k x y h r =
    let m = arithmetic_parts w j k h r in
    record {
      left = takes w j m.3;
      right = tt;
      makes = λ c. both_made words.ShiftRight (p w) (q 0) (f w) (g 0) _ (x.as_made w m.3) (y.as_made 0 tt) (joined_made words.ShiftRight j on.Lshr w (f w) (g 0) (x.sorts w m.3) refl refl c);
    }

appended : (w : ℕ) (p q : ℕ → Item) (f g : ℕ → Term) (j l k : Kind) → Part p f j → Part q g l → append_row j l ≡ row.Typed k
    → Infix words.Append (told_or w (either (width_in (Some j)) (width_in (Some l)))) (told_or w (either (width_in (Some j)) (width_in (Some l)))) p q f g (Some j) (Some l) j l
appended w p q f g (kind.Sorted (Vector a)) (kind.Sorted (Vector b)) k x y h = record {
  left = tt;
  right = tt;
  makes = λ c. both_made words.Append (p a) (q a) (f a) (g a) _ (x.as_made a tt) (y.as_made a tt) (joined_made words.Append (kind.Sorted (Vector a)) on.Append a (f a) (g a) (x.sorts a tt) refl refl c);
}
appended w p q f g (kind.Sorted Truth) l k x y h = cc
appended w p q f g kind.Bare l k x y h = cc
appended w p q f g (kind.Number n) l k x y h = cc
appended w p q f g (kind.Sorted (Vector a)) (kind.Sorted Truth) k x y h = cc
appended w p q f g (kind.Sorted (Vector a)) kind.Bare k x y h = cc
appended w p q f g (kind.Sorted (Vector a)) (kind.Number n) k x y h = cc

-- of the other operators, whose parts are read at one width
pub record Plain (o : Word) (v : ℕ) (p q : ℕ → Item) (f g : ℕ → Term) (j l : Kind) : Type 0 where
  pub left : Takes v j
  pub right : Takes v l
  pub makes : Fitting (joined o (Some j) (f v) (g v)) → infix_item o (p v) (q v) ≡ Some (Made (joined o (Some j) (f v) (g v)))

plain : (o : Word) (w : ℕ) (p q : ℕ → Item) (f g : ℕ → Term) (j l k : Kind) → Part p f j → Part q g l → plain_row o j l ≡ row.Typed k → Readable w k
    → Plain o (told_or w (either (width_in (Some j)) (width_in (Some l)))) p q f g j l
plain o w p q f g j l k x y h r =
    let v = told_or w (either (width_in (Some j)) (width_in (Some l))) in
    let a = plain_typed o w j l k (has_width f j x.sorts) (has_width g l y.sorts) h r in
    record {
      left = takes v j a.left;
      right = takes v l a.right;
      makes = λ c. both_made o (p v) (q v) (f v) (g v) _ (x.as_made v a.left) (y.as_made v a.right) (joined_made o j a.op v (f v) (g v) (x.sorts v a.left) a.also a.named c);
    }

infix_at : (o : Word) (w : ℕ) (p q : ℕ → Item) (f g : ℕ → Term) (j l k : Kind) → Part p f j → Part q g l → infix_row o j l ≡ row.Typed k → Readable w k
    → Infix o (told_or w (infix_width o (Some j) (Some l))) (right_width o (told_or w (infix_width o (Some j) (Some l)))) p q f g (Some j) (Some l) j l
infix_at words.ShiftLeft w p q f g j (kind.Number n) k x y h r = left_by_number n w p q f g j k x y h r
infix_at words.ShiftLeft w p q f g j (kind.Sorted (Vector a)) k x y h r = left_by_vector a w p q f g j k x y h r
infix_at words.ShiftLeft w p q f g j (kind.Sorted Truth) k x y h r = cc
infix_at words.ShiftLeft w p q f g j kind.Bare k x y h r = cc
infix_at words.ShiftRight w p q f g j (kind.Number n) k x y h r = right_by_number n w p q f g j k x y h r
infix_at words.ShiftRight w p q f g j (kind.Sorted (Vector a)) k x y h r = right_by_vector a w p q f g j k x y h r
infix_at words.ShiftRight w p q f g j (kind.Sorted Truth) k x y h r = cc
infix_at words.ShiftRight w p q f g j kind.Bare k x y h r = cc
infix_at words.Append w p q f g j l k x y h r = appended w p q f g j l k x y h
infix_at o w p q f g j l k x y h r = let a = plain o w p q f g j l k x y h r in record { left = a.left; right = a.right; makes = a.makes }

pub infix_made : (o : Word) (w : ℕ) (p q : ℕ → Item) (f g : ℕ → Term) (a b : Option Kind) (j l k : Kind) → a ≡ Some j → b ≡ Some l → Part p f j → Part q g l → infix_row o j l ≡ row.Typed k → Readable w k
    → Infix o (told_or w (infix_width o a b)) (right_width o (told_or w (infix_width o a b))) p q f g a b j l
infix_made o w p q f g a b j l k d e x y h r =
    subst (λ c. Infix o (told_or w (infix_width o c b)) (right_width o (told_or w (infix_width o c b))) p q f g c b j l) (sym d)
    (subst (λ c. Infix o (told_or w (infix_width o (Some j) c)) (right_width o (told_or w (infix_width o (Some j) c))) p q f g (Some j) c j l) (sym e) (infix_at o w p q f g j l k x y h r))
