-- A choice makes its term of what its parts put on the stack.
use Rattle.std.proofs.Common.{◌≡◌, ℕ, Option, Some, refl, sym, ◌∙◌, ap, subst}
use Rattle.bv_grammar.specs.declared.words.Word.TheVariants as words
use Rattle.bv_expr.specs.declared.ops.Sort.TheVariants.{Truth, Vector}
use Rattle.bv_expr.specs.Term.{Term}
use Rattle.bv_expr.specs.Sorts.{sort_of}
use Rattle.bv_typing.specs.declared.item.Item.{Item}
use Rattle.bv_typing.specs.declared.item.Item.TheVariants.{Made}
use Rattle.bv_typing.specs.declared.kind.Kind.{Kind}
use Rattle.bv_typing.specs.declared.kind.Kind.TheVariants as kind
use Rattle.bv_typing.specs.declared.kind.Row.TheVariants as row
use Rattle.bv_typing.specs.Rows.{branches_row, choice_row}
use Rattle.bv_typing.specs.Readings.{told_or, either, width_in, choice_term}
use Rattle.bv_terms.specs.Sorting.{read, Readable}
use Rattle.bv_terms.specs.Building.{checked, choice_as, choice_item}
use Rattle.bv_terms.proofs.Joining.{HasWidth, plain_typed}
use Rattle.bv_terms.proofs.Built.{checked_made}
use Rattle.bv_terms.proofs.FoldParts.{Fitting, has_width, Part}

-- the test is a truth, the two others can be read at the width that they are told, and their terms make the choice
pub record Choice (w v : ℕ) (t p q : ℕ → Item) (d f g : ℕ → Term) (a : Option Kind) (c j l : Kind) : Type 0 where
  pub test : Readable w c
  pub left : Readable v j
  pub right : Readable v l
  pub makes : Fitting (choice_term a (d w) (f v) (g v)) → choice_item (t w) (p v) (q v) ≡ Some (Made (choice_term a (d w) (f v) (g v)))

test_parts : (w : ℕ) (c j l k : Kind) → choice_row c j l ≡ row.Typed k → Readable w c × (branches_row j l ≡ row.Typed k)
test_parts w (kind.Sorted Truth) j l k h = (tt, h)
test_parts w (kind.Sorted (Vector u)) j l k h = cc
test_parts w kind.Bare j l k h = cc
test_parts w (kind.Number n) j l k h = cc

branches : (w : ℕ) (j l k : Kind) → HasWidth j → HasWidth l → branches_row j l ≡ row.Typed k → Readable w k
    → Readable (told_or w (either (width_in (Some j)) (width_in (Some l)))) j × Readable (told_or w (either (width_in (Some j)) (width_in (Some l)))) l
branches w (kind.Sorted Truth) (kind.Sorted Truth) k hj hl h r = (tt, tt)
branches w (kind.Sorted Truth) (kind.Sorted (Vector u)) k hj hl h r = cc
branches w (kind.Sorted Truth) kind.Bare k hj hl h r = cc
branches w (kind.Sorted Truth) (kind.Number n) k hj hl h r = cc
branches w (kind.Sorted (Vector u)) l k hj hl h r = let a = plain_typed words.Plus w (kind.Sorted (Vector u)) l k hj hl h r in (a.left, a.right)
branches w kind.Bare l k hj hl h r = let a = plain_typed words.Plus w kind.Bare l k hj hl h r in (a.left, a.right)
branches w (kind.Number n) l k hj hl h r = let a = plain_typed words.Plus w (kind.Number n) l k hj hl h r in (a.left, a.right)

-- between truths where the second part is one
same_choice : (v : ℕ) (j : Kind) (c x y : Term) → choice_as (Some (read v j)) c x y ≡ choice_term (Some j) c x y
same_choice v (kind.Sorted Truth) c x y = refl
same_choice v (kind.Sorted (Vector u)) c x y = refl
same_choice v kind.Bare c x y = refl
same_choice v (kind.Number n) c x y = refl

chosen : (v : ℕ) (j : Kind) (x y z : Item) (r s t : Term) → x ≡ Made r → y ≡ Made s → z ≡ Made t → sort_of s ≡ Some (read v j) → Fitting (choice_term (Some j) r s t) → choice_item x y z ≡ Some (Made (choice_term (Some j) r s t))
chosen v j x y z r s t d e f h c =
    (λ i. choice_item (d i) (e i) (f i)) ∙ ap (λ o. checked (choice_as o r s t)) h ∙ ap checked (same_choice v j r s t) ∙ checked_made (choice_term (Some j) r s t) c.0 c.1 c.2

choice_at : (w : ℕ) (t p q : ℕ → Item) (d f g : ℕ → Term) (c j l k : Kind) → Part t d c → Part p f j → Part q g l → choice_row c j l ≡ row.Typed k → Readable w k
    → Choice w (told_or w (either (width_in (Some j)) (width_in (Some l)))) t p q d f g (Some j) c j l
choice_at w t p q d f g c j l k z x y h r =
    let v = told_or w (either (width_in (Some j)) (width_in (Some l))) in
    let a = test_parts w c j l k h in
    let b = branches w j l k (has_width f j x.sorts) (has_width g l y.sorts) a.1 r in
    record {
      test = a.0;
      left = b.0;
      right = b.1;
      makes = chosen v j (t w) (p v) (q v) (d w) (f v) (g v) (z.as_made w a.0) (x.as_made v b.0) (y.as_made v b.1) (x.sorts v b.0);
    }

pub choice_made : (w : ℕ) (t p q : ℕ → Item) (d f g : ℕ → Term) (a b : Option Kind) (c j l k : Kind) → a ≡ Some j → b ≡ Some l → Part t d c → Part p f j → Part q g l → choice_row c j l ≡ row.Typed k → Readable w k
    → Choice w (told_or w (either (width_in a) (width_in b))) t p q d f g a c j l
choice_made w t p q d f g a b c j l k m n z x y h r =
    subst (λ o. Choice w (told_or w (either (width_in o) (width_in b))) t p q d f g o c j l) (sym m)
    (subst (λ o. Choice w (told_or w (either (width_in (Some j)) (width_in o))) t p q d f g (Some j) c j l) (sym n) (choice_at w t p q d f g c j l k z x y h r))
