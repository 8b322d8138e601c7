-- The term of a typed tree has the sort of its kind.
use Rattle.std.proofs.Common.{◌≡◌, ℕ, zero, suc, ◌+◌, ◌-◌, ◌≤◌, Bool, true, false, ◌||◌, List, [], ◌∷◌, Option, Some, None, refl, sym, ◌∙◌, ap, subst, arith}
use Rattle.std.specs.Prelude.{◌==◌, if◌then◌else◌}
use Rattle.bv_value.specs.BitVector.{of_number}
use Rattle.bv_grammar.specs.declared.words.Word.{Word}
use Rattle.bv_grammar.specs.declared.words.Word.TheVariants as words
use Rattle.bv_expr.specs.declared.ops.Sort.{Sort}
use Rattle.bv_expr.specs.declared.ops.Sort.TheVariants.{Truth, Vector}
use Rattle.bv_expr.specs.declared.ops.Unary.TheVariants as of
use Rattle.bv_expr.specs.declared.ops.Binary.{Binary}
use Rattle.bv_expr.specs.declared.ops.Binary.TheVariants as on
use Rattle.bv_expr.specs.Term.{Term, constant, unary}
use Rattle.bv_expr.specs.Sorts.{vectors, binary_sort, sort_of}
use Rattle.bv_trees.specs.declared.pieces.Sort.{Sort as Written}
use Rattle.bv_trees.specs.declared.pieces.Sort.TheVariants as written
use Rattle.bv_trees.specs.Trees.{Tree, Trees, name, numeral, literal, prefix, infix_, method, ascribed, no_more, and}
use Rattle.bv_trees.specs.Trees as trees
use Rattle.bv_limits.specs.Depths as of_tree
use Rattle.bv_typing.specs.declared.item.Item.{Item}
use Rattle.bv_typing.specs.declared.item.Item.TheVariants.{Number, Made}
use Rattle.bv_typing.specs.declared.kind.Kind.{Kind}
use Rattle.bv_typing.specs.declared.kind.Kind.TheVariants as kind
use Rattle.bv_typing.specs.declared.kind.Row.TheVariants as row
use Rattle.bv_typing.specs.declared.method.Method.{Method}
use Rattle.bv_typing.specs.declared.method.Method.TheVariants as by_method
use Rattle.bv_typing.specs.declared.method.Numbered.{Numbered}
use Rattle.bv_typing.specs.declared.method.Numbered.TheVariants as numbered
use Rattle.bv_typing.specs.Source.{Source, number_at}
use Rattle.bv_typing.specs.Rows.{sorted, resized, negation_row, arithmetic_row, prefix_row, infix_sort, is_arithmetic, is_comparison, beside_bare, both_bare, plain_row, amount_row, append_row, infix_row, branches_row, choice_row, argument_row, numbered_row, arguments_row, method_row}
use Rattle.bv_typing.specs.Variables.{sort_at}
use Rattle.bv_typing.specs.Readings.{Env, variable_at, method_at, name_row, kind_in, ascribed_to, kind_of, kinds, width_for, width_of_sort, told_or, variable_term, constant_term, numbered_unary, method_term, numeral_item, term, items, item}
use Rattle.bv_terms.proofs.Within.{Within, vectors_within, vector_within}
use Rattle.bv_terms.proofs.Inverted.{kind_row, one_part, two_parts, three_parts, ascribed_part, kinds_parts, sorted_parts}
use Rattle.bv_terms.specs.Sorting.{IsWidth, read, Readable, Sorts, Bounded}
use Rattle.bv_terms.proofs.Joining.{HasWidth, vectors_is, resized_parts, unary_of, binary_of_sorts, prefix_sorts, infix_sorts, choice_sorts, ascribed_sorts, ascribed_truth}

name_sorts : (v : Option (ℕ × Option Sort)) (k : Kind) (w : ℕ) → ((n u : ℕ) → v ≡ Some (n, Some (Vector u)) → IsWidth u) → kind_in (name_row v) ≡ Some k → sort_of (variable_term v) ≡ Some (read w k)
name_sorts None k w b h = cc
name_sorts (Some (n, None)) k w b h = cc
name_sorts (Some (n, Some Truth)) k w b h = let e : k ≡ kind.Sorted Truth = cc in ap Some (sym (ap (read w) e))
name_sorts (Some (n, Some (Vector u))) k w b h = let e : k ≡ kind.Sorted (Vector u) = cc in vectors_is u (b n u refl) ∙ ap Some (sym (ap (read w) e))

literal_sorts : (u n w : ℕ) (k : Kind) → kind_in (sorted (vectors u)) ≡ Some k → sort_of (constant (of_number u n)) ≡ Some (read w k)
literal_sorts u n w k h =
    let p = sorted_parts (vectors u) k (kind_row (sorted (vectors u)) k h) in
    p.1 ∙ ap Some (sym (ap (read w) p.2))

numeral_sorts : (n w : ℕ) (k : Kind) → ◌≡◌ {A = Option Kind} (Some (kind.Number n)) (Some k) → Readable w k → sort_of (constant (of_number w n)) ≡ Some (read w k)
numeral_sorts n w k h r =
    let e : kind.Number n ≡ k = cc in
    let g : IsWidth w = subst (Readable w) (sym e) r in
    vectors_is w g ∙ ap Some (ap (read w) e)

truth_sorts : (c : Word) (w : ℕ) (k : Kind) → ◌≡◌ {A = Option Kind} (Some (kind.Sorted Truth)) (Some k) → sort_of (constant_term c) ≡ Some (read w k)
truth_sorts c w k h = let e : kind.Sorted Truth ≡ k = cc in is_truth c ∙ ap Some (ap (read w) e)
  where
    is_truth : (o : Word) → sort_of (constant_term o) ≡ Some Truth
    is_truth words.True = refl
    is_truth words.TrueProposition = refl
    is_truth _ = refl

width_of_sorts : (f : ℕ → Term) (k : Kind) → Sorts f k → HasWidth k
width_of_sorts f (kind.Sorted Truth) s = tt
width_of_sorts f (kind.Sorted (Vector u)) s = vector_within (f 0) u (s 0 tt)
width_of_sorts f kind.Bare s = tt
width_of_sorts f (kind.Number n) s = tt

written_within : (s : Source) (t : Written) → Within (sort_at s t)
written_within s written.Truth = tt
written_within s (written.Vector i) = vectors_within (number_at s i)

ascription_sorts : (o : Option Sort) → Within o → (w : ℕ) (f : ℕ → Term) (j k : Kind) → ascribed_to o j ≡ row.Typed k → Sorts f j → sort_of (f (told_or w (width_of_sort o))) ≡ Some (read w k)
ascription_sorts None b w f j k h s = cc
ascription_sorts (Some Truth) b w f j k h s = ascribed_truth w f j k h s
ascription_sorts (Some (Vector u)) b w f j k h s = ascribed_sorts w u f j k b h s

-- ---- what is a number

not_sorted : (o : Option Sort) (n : ℕ) → sorted o ≡ row.Typed (kind.Number n) → ⊥
not_sorted None n h = cc
not_sorted (Some s) n h = cc

not_resized : (w n : ℕ) → resized w ≡ row.Typed (kind.Number n) → ⊥
not_resized w n h = let e = (resized_parts w (kind.Number n) h).1 in cc

no_beside : (o : Word) (s : Sort) (n : ℕ) → beside_bare o s ≡ row.Typed (kind.Number n) → ⊥
no_beside o Truth n h = cc
no_beside o (Vector v) n h = go (is_arithmetic o || is_comparison o) h
  where
    go : (b : Bool) → (if b then sorted (infix_sort o (Vector v) (Vector v)) else row.Fails) ≡ row.Typed (kind.Number n) → ⊥
    go true e = not_sorted (infix_sort o (Vector v) (Vector v)) n e
    go false e = cc

no_both : (o : Word) (n : ℕ) → both_bare o ≡ row.Typed (kind.Number n) → ⊥
no_both o n h = go (is_arithmetic o) h
  where
    go : (b : Bool) → (if b then row.Typed kind.Bare else row.Fails) ≡ row.Typed (kind.Number n) → ⊥
    go true e = cc
    go false e = cc

no_plain : (o : Word) (j l : Kind) (n : ℕ) → plain_row o j l ≡ row.Typed (kind.Number n) → ⊥
no_plain o (kind.Sorted s) (kind.Sorted t) n h = not_sorted (infix_sort o s t) n h
no_plain o (kind.Sorted s) kind.Bare n h = no_beside o s n h
no_plain o (kind.Sorted s) (kind.Number m) n h = no_beside o s n h
no_plain o kind.Bare (kind.Sorted t) n h = no_beside o t n h
no_plain o (kind.Number m) (kind.Sorted t) n h = no_beside o t n h
no_plain o kind.Bare kind.Bare n h = no_both o n h
no_plain o kind.Bare (kind.Number m) n h = no_both o n h
no_plain o (kind.Number m) kind.Bare n h = no_both o n h
no_plain o (kind.Number m) (kind.Number l) n h = no_both o n h

no_arithmetic : (j : Kind) (n : ℕ) → arithmetic_row j ≡ row.Typed (kind.Number n) → ⊥
no_arithmetic (kind.Sorted Truth) n h = cc
no_arithmetic (kind.Sorted (Vector u)) n h = cc
no_arithmetic kind.Bare n h = cc
no_arithmetic (kind.Number m) n h = cc

no_negation : (j : Kind) (n : ℕ) → negation_row j ≡ row.Typed (kind.Number n) → ⊥
no_negation (kind.Sorted Truth) n h = cc
no_negation (kind.Sorted (Vector u)) n h = cc
no_negation kind.Bare n h = cc
no_negation (kind.Number m) n h = cc

no_prefix : (o : Word) (j : Kind) (n : ℕ) → prefix_row o j ≡ row.Typed (kind.Number n) → ⊥
no_prefix words.Complement j n h = no_arithmetic j n h
no_prefix words.Minus j n h = no_arithmetic j n h
no_prefix words.Not j n h = no_negation j n h
no_prefix words.BoolNot j n h = no_negation j n h
no_prefix _ j n h = cc

no_amount : (j l : Kind) (n : ℕ) → amount_row j l ≡ row.Typed (kind.Number n) → ⊥
no_amount j (kind.Number m) n h = no_arithmetic j n h
no_amount j (kind.Sorted (Vector w)) n h = no_arithmetic j n h
no_amount j (kind.Sorted Truth) n h = cc
no_amount j kind.Bare n h = cc

no_append : (j l : Kind) (n : ℕ) → append_row j l ≡ row.Typed (kind.Number n) → ⊥
no_append (kind.Sorted (Vector a)) (kind.Sorted (Vector b)) n h = not_resized (a + b) n h
no_append (kind.Sorted (Vector a)) (kind.Sorted Truth) n h = cc
no_append (kind.Sorted (Vector a)) kind.Bare n h = cc
no_append (kind.Sorted (Vector a)) (kind.Number m) n h = cc
no_append (kind.Sorted Truth) l n h = cc
no_append kind.Bare l n h = cc
no_append (kind.Number m) l n h = cc

no_infix : (o : Word) (j l : Kind) (n : ℕ) → infix_row o j l ≡ row.Typed (kind.Number n) → ⊥
no_infix words.ShiftLeft j l n h = no_amount j l n h
no_infix words.ShiftRight j l n h = no_amount j l n h
no_infix words.Append j l n h = no_append j l n h
no_infix o j l n h = no_plain o j l n h

no_branches : (j l : Kind) (n : ℕ) → branches_row j l ≡ row.Typed (kind.Number n) → ⊥
no_branches (kind.Sorted Truth) (kind.Sorted Truth) n h = cc
no_branches j l n h = no_plain words.Plus j l n h

no_choice : (c j l : Kind) (n : ℕ) → choice_row c j l ≡ row.Typed (kind.Number n) → ⊥
no_choice (kind.Sorted Truth) j l n h = no_branches j l n h
no_choice (kind.Sorted (Vector u)) j l n h = cc
no_choice kind.Bare j l n h = cc
no_choice (kind.Number m) j l n h = cc

no_ascribed : (o : Option Sort) (j : Kind) (n : ℕ) → ascribed_to o j ≡ row.Typed (kind.Number n) → ⊥
no_ascribed None j n h = cc
no_ascribed (Some Truth) (kind.Sorted Truth) n h = cc
no_ascribed (Some Truth) (kind.Sorted (Vector u)) n h = cc
no_ascribed (Some Truth) kind.Bare n h = cc
no_ascribed (Some Truth) (kind.Number m) n h = cc
no_ascribed (Some (Vector w)) (kind.Sorted Truth) n h = cc
no_ascribed (Some (Vector w)) (kind.Sorted (Vector v)) n h = go (v == w) h
  where
    go : (b : Bool) → (if b then row.Typed (kind.Sorted (Vector w)) else row.Fails) ≡ row.Typed (kind.Number n) → ⊥
    go true e = cc
    go false e = cc
no_ascribed (Some (Vector w)) kind.Bare n h = cc
no_ascribed (Some (Vector w)) (kind.Number m) n h = cc

no_numbered : (m : Numbered) (w a n : ℕ) → numbered_row m w a ≡ row.Typed (kind.Number n) → ⊥
no_numbered numbered.AshrBy w a n h = cc
no_numbered numbered.RotL w a n h = cc
no_numbered numbered.RotR w a n h = cc
no_numbered numbered.Bit w a n h = cc
no_numbered numbered.SetWidth w a n h = not_resized a n h
no_numbered numbered.SignExtend w a n h = not_resized a n h

no_argument : (op : Binary) (w : ℕ) (k : Kind) (n : ℕ) → argument_row op w k ≡ row.Typed (kind.Number n) → ⊥
no_argument op w (kind.Sorted s) n h = not_sorted (binary_sort op (Vector w) s) n h
no_argument op w kind.Bare n h = not_sorted (binary_sort op (Vector w) (Vector w)) n h
no_argument op w (kind.Number m) n h = not_sorted (binary_sort op (Vector w) (Vector w)) n h

no_arguments : (m : Method) (w : ℕ) (ks : List Kind) (n : ℕ) → arguments_row m w ks ≡ row.Typed (kind.Number n) → ⊥
no_arguments by_method.Msb w [] n h = cc
no_arguments (by_method.With op) w (k ∷ []) n h = no_argument op w k n h
no_arguments by_method.ArithmeticShift w (kind.Sorted (Vector v) ∷ []) n h = cc
no_arguments (by_method.By m) w (kind.Number a ∷ []) n h = no_numbered m w a n h
no_arguments by_method.Extract w (kind.Number start ∷ kind.Number len ∷ []) n h = not_resized len n h
no_arguments by_method.ExtractBetween w (kind.Number high ∷ kind.Number low ∷ []) n h = not_resized (high - low + 1) n h
no_arguments _ w _ n h = cc

no_method : (m : Option Method) (j : Kind) (ks : List Kind) (n : ℕ) → method_row m j ks ≡ row.Typed (kind.Number n) → ⊥
no_method None j ks n h = cc
no_method (Some m) (kind.Sorted Truth) ks n h = cc
no_method (Some m) (kind.Sorted (Vector w)) ks n h = no_arguments m w ks n h
no_method (Some m) kind.Bare ks n h = cc
no_method (Some m) (kind.Number a) ks n h = cc

no_name : (v : Option (ℕ × Option Sort)) (n : ℕ) → kind_in (name_row v) ≡ Some (kind.Number n) → ⊥
no_name None n h = cc
no_name (Some (k, None)) n h = cc
no_name (Some (k, Some s)) n h = cc

-- ---- items

-- a part whose item, read at no width, is a number, or else a term of its sort
pub record Fits (g : ℕ → Item) (k : Kind) : Type 0 where
  pub as_number : (n : ℕ) → k ≡ kind.Number n → g 0 ≡ Number n
  pub as_made : (v : ℕ) → Readable v k → (y : Term) × (g v ≡ Made y) × (sort_of y ≡ Some (read v k))

term_fits : (f : ℕ → Term) (k : Kind) → ((n : ℕ) → k ≡ kind.Number n → ⊥) → Sorts f k → Fits (λ v. Made (f v)) k
term_fits f k other s = record { as_number = λ n e. absurd (other n e); as_made = λ v r. (f v, refl, s v r) }

numeral_made : (v n : ℕ) → IsWidth v → numeral_item v n ≡ Made (constant (of_number v n))
numeral_made zero n h = absurd (zero_no h.0)
  where
    zero_no : 1 ≤ 0 → ⊥
    zero_no l = omega arith
numeral_made (suc v) n h = refl

numeral_fits : (m : ℕ) (k : Kind) → ◌≡◌ {A = Option Kind} (Some (kind.Number m)) (Some k) → Fits (λ v. numeral_item v m) k
numeral_fits m k h =
    let e : kind.Number m ≡ k = cc in
    record {
      as_number = λ n f. same m n k h f;
      as_made = λ v r. (constant (of_number v m), numeral_made v m (subst (Readable v) (sym e) r), numeral_sorts m v k h r);
    }
  where
    same : (a b : ℕ) (c : Kind) → ◌≡◌ {A = Option Kind} (Some (kind.Number a)) (Some c) → c ≡ kind.Number b → Number a ≡ Number b
    same a b c p q = let r : a ≡ b = cc in ap Number r

abbrev pub AllFit : (ℕ → List Item) → List Kind → Type 0
AllFit g [] = (v : ℕ) → g v ≡ []
AllFit g (k ∷ ks) = (x : ℕ → Item) × (xs : ℕ → List Item) × ((v : ℕ) → g v ≡ x v ∷ xs v) × Fits x k × AllFit xs ks

-- ---- methods

argument_as : (op : Binary) (w : ℕ) (k : Kind) → argument_row op w k ≡ sorted (binary_sort op (Vector w) (read w k))
argument_as op w (kind.Sorted s) = refl
argument_as op w kind.Bare = refl
argument_as op w (kind.Number n) = refl

readable_at : (w : ℕ) (k : Kind) → IsWidth w → Readable w k
readable_at w (kind.Sorted s) h = tt
readable_at w kind.Bare h = h
readable_at w (kind.Number n) h = h

with_sorts : (op : Binary) (w u : ℕ) (x : Term) (g : ℕ → List Item) (l k : Kind) → IsWidth u → sort_of x ≡ Some (Vector u) → argument_row op u l ≡ row.Typed k → AllFit g (l ∷ [])
    → sort_of (method_term (Some (by_method.With op)) x (g u)) ≡ Some (read w k)
with_sorts op w u x g l k hu hx h a =
    let p = sorted_parts (binary_sort op (Vector u) (read u l)) k (sym (argument_as op u l) ∙ h) in
    let y = a.3.as_made u (readable_at u l hu) in
    ap (λ is. sort_of (method_term (Some (by_method.With op)) x is)) (a.2 u ∙ (λ i. y.1 i ∷ a.4 u i))
    ∙ binary_of_sorts op x y.0 (Vector u) (read u l) (read w k) hx y.2 (p.1 ∙ ap Some (sym (ap (read w) p.2)))

numbered_sorts : (m : Numbered) (w u n : ℕ) (x : Term) (k : Kind) → sort_of x ≡ Some (Vector u) → numbered_row m u n ≡ row.Typed k → sort_of (unary (numbered_unary m n) x) ≡ Some (read w k)
numbered_sorts numbered.AshrBy w u n x k hx h = let e : k ≡ kind.Sorted (Vector u) = cc in unary_of (of.AshrBy n) x (Vector u) (read w k) hx (ap Some (sym (ap (read w) e)))
numbered_sorts numbered.RotL w u n x k hx h = let e : k ≡ kind.Sorted (Vector u) = cc in unary_of (of.RotL n) x (Vector u) (read w k) hx (ap Some (sym (ap (read w) e)))
numbered_sorts numbered.RotR w u n x k hx h = let e : k ≡ kind.Sorted (Vector u) = cc in unary_of (of.RotR n) x (Vector u) (read w k) hx (ap Some (sym (ap (read w) e)))
numbered_sorts numbered.Bit w u n x k hx h = let e : k ≡ kind.Sorted Truth = cc in unary_of (of.Bit n) x (Vector u) (read w k) hx (ap Some (sym (ap (read w) e)))
numbered_sorts numbered.SetWidth w u n x k hx h = let p = resized_parts n k h in unary_of (of.SetWidth n) x (Vector u) (read w k) hx (p.0 ∙ ap Some (sym (ap (read w) p.1)))
numbered_sorts numbered.SignExtend w u n x k hx h = let p = resized_parts n k h in unary_of (of.SignExtend n) x (Vector u) (read w k) hx (p.0 ∙ ap Some (sym (ap (read w) p.1)))

extract_sorts : (w u start len : ℕ) (x : Term) (k : Kind) → sort_of x ≡ Some (Vector u) → resized len ≡ row.Typed k → sort_of (unary (of.Extract start len) x) ≡ Some (read w k)
extract_sorts w u start len x k hx h = let p = resized_parts len k h in unary_of (of.Extract start len) x (Vector u) (read w k) hx (p.0 ∙ ap Some (sym (ap (read w) p.1)))

two_numbers : (g : ℕ → List Item) (a b : ℕ) → AllFit g (kind.Number a ∷ kind.Number b ∷ []) → g 0 ≡ Number a ∷ Number b ∷ []
two_numbers g a b f = f.2 0 ∙ (λ i. f.3.as_number a refl i ∷ (f.4.2 0 ∙ (λ j. f.4.3.as_number b refl j ∷ f.4.4 0 j)) i)

arguments_sorts : (m : Method) (w u : ℕ) (x : Term) (g : ℕ → List Item) (ks : List Kind) (k : Kind) → IsWidth u → sort_of x ≡ Some (Vector u) → arguments_row m u ks ≡ row.Typed k → AllFit g ks
    → sort_of (method_term (Some m) x (g (told_or w (width_for (Some m) (Some (kind.Sorted (Vector u))))))) ≡ Some (read w k)
arguments_sorts by_method.Msb w u x g [] k hu hx h a =
    let e : k ≡ kind.Sorted Truth = cc in
    ap (λ is. sort_of (method_term (Some by_method.Msb) x is)) (a 0) ∙ unary_of of.Msb x (Vector u) (read w k) hx (ap Some (sym (ap (read w) e)))
arguments_sorts (by_method.With op) w u x g (l ∷ []) k hu hx h a = with_sorts op w u x g l k hu hx h a
arguments_sorts by_method.ArithmeticShift w u x g (kind.Sorted (Vector v) ∷ []) k hu hx h a =
    let e : k ≡ kind.Sorted (Vector u) = cc in
    let y = a.3.as_made 0 tt in
    ap (λ is. sort_of (method_term (Some by_method.ArithmeticShift) x is)) (a.2 0 ∙ (λ i. y.1 i ∷ a.4 0 i))
    ∙ binary_of_sorts on.Ashr x y.0 (Vector u) (Vector v) (read w k) hx y.2 (ap Some (sym (ap (read w) e)))
arguments_sorts (by_method.By m) w u x g (kind.Number n ∷ []) k hu hx h a =
    ap (λ is. sort_of (method_term (Some (by_method.By m)) x is)) (a.2 0 ∙ (λ i. a.3.as_number n refl i ∷ a.4 0 i)) ∙ numbered_sorts m w u n x k hx h
arguments_sorts by_method.Extract w u x g (kind.Number start ∷ kind.Number len ∷ []) k hu hx h a =
    ap (λ is. sort_of (method_term (Some by_method.Extract) x is)) (two_numbers g start len a) ∙ extract_sorts w u start len x k hx h
arguments_sorts by_method.ExtractBetween w u x g (kind.Number high ∷ kind.Number low ∷ []) k hu hx h a =
    ap (λ is. sort_of (method_term (Some by_method.ExtractBetween) x is)) (two_numbers g high low a) ∙ extract_sorts w u low (high - low + 1) x k hx h
arguments_sorts _ w u x g _ k hu hx h a = cc

method_at_sorts : (m : Option Method) (w : ℕ) (f : ℕ → Term) (g : ℕ → List Item) (j : Kind) (ks : List Kind) (k : Kind) → HasWidth j → method_row m j ks ≡ row.Typed k → Sorts f j → AllFit g ks
    → sort_of (method_term m (f w) (g (told_or w (width_for m (Some j))))) ≡ Some (read w k)
method_at_sorts None w f g j ks k hj h s a = cc
method_at_sorts (Some m) w f g (kind.Sorted Truth) ks k hj h s a = cc
method_at_sorts (Some m) w f g (kind.Sorted (Vector u)) ks k hj h s a = arguments_sorts m w u (f w) g ks k hj (s w tt) h a
method_at_sorts (Some m) w f g kind.Bare ks k hj h s a = cc
method_at_sorts (Some m) w f g (kind.Number n) ks k hj h s a = cc

method_sorts : (m : Option Method) (w : ℕ) (f : ℕ → Term) (g : ℕ → List Item) (o : Option Kind) (j : Kind) (ks : List Kind) (k : Kind) → o ≡ Some j → HasWidth j → method_row m j ks ≡ row.Typed k → Sorts f j → AllFit g ks
    → sort_of (method_term m (f w) (g (told_or w (width_for m o)))) ≡ Some (read w k)
method_sorts m w f g o j ks k e hj h s a = ap (λ p. sort_of (method_term m (f w) (g (told_or w (width_for m p))))) e ∙ method_at_sorts m w f g j ks k hj h s a

-- ---- trees

not_number : (e : Env) (t : Tree) (n : ℕ) → kind_of e t ≡ Some (kind.Number n) → (i : ℕ) × (t ≡ numeral i)
not_number e (name i) n h = absurd (no_name (variable_at e i) n h)
not_number e (numeral i) n h = (i, refl)
not_number e (literal i j) n h = absurd (not_sorted (vectors (number_at e.source j)) n (kind_row _ (kind.Number n) h))
not_number e (trees.constant c i) n h = cc
not_number e (prefix o i x) n h = let p = one_part (prefix_row o) (of_tree.depth (prefix o i x)) (kind_of e x) (kind.Number n) h in absurd (no_prefix o p.part n p.fits)
not_number e (infix_ o i x y) n h = let p = two_parts (infix_row o) (of_tree.depth (infix_ o i x y)) (kind_of e x) (kind_of e y) (kind.Number n) h in absurd (no_infix o p.left p.right n p.fits)
not_number e (trees.choice i x y z) n h =
    let p = three_parts choice_row (of_tree.depth (trees.choice i x y z)) (kind_of e x) (kind_of e y) (kind_of e z) (kind.Number n) h in absurd (no_choice p.test p.left p.right n p.fits)
not_number e (method i x xs) n h = let p = two_parts (method_row (method_at e i)) (of_tree.depth (method i x xs)) (kind_of e x) (kinds e xs) (kind.Number n) h in absurd (no_method (method_at e i) p.left p.right n p.fits)
not_number e (ascribed i x s) n h = let p = ascribed_part (ascribed_to (sort_at e.source s)) (kind_of e x) (kind.Number n) h in absurd (no_ascribed (sort_at e.source s) p.0 n p.2)

fits_from : (e : Env) (t : Tree) (k : Kind) → kind_of e t ≡ Some k → Sorts (λ v. term e v t) k → Fits (λ v. item e v t) k
fits_from e (numeral i) k h s = numeral_fits (number_at e.source i) k h
fits_from e (name i) k h s = term_fits (λ v. term e v (name i)) k (λ n q. let c = (not_number e (name i) n (h ∙ ap Some q)).1 in cc) s
fits_from e (literal i j) k h s = term_fits (λ v. term e v (literal i j)) k (λ n q. let c = (not_number e (literal i j) n (h ∙ ap Some q)).1 in cc) s
fits_from e (trees.constant o i) k h s = term_fits (λ v. term e v (trees.constant o i)) k (λ n q. let c = (not_number e (trees.constant o i) n (h ∙ ap Some q)).1 in cc) s
fits_from e (prefix o i x) k h s = term_fits (λ v. term e v (prefix o i x)) k (λ n q. let c = (not_number e (prefix o i x) n (h ∙ ap Some q)).1 in cc) s
fits_from e (infix_ o i x y) k h s = term_fits (λ v. term e v (infix_ o i x y)) k (λ n q. let c = (not_number e (infix_ o i x y) n (h ∙ ap Some q)).1 in cc) s
fits_from e (trees.choice i x y z) k h s = term_fits (λ v. term e v (trees.choice i x y z)) k (λ n q. let c = (not_number e (trees.choice i x y z) n (h ∙ ap Some q)).1 in cc) s
fits_from e (method i x xs) k h s = term_fits (λ v. term e v (method i x xs)) k (λ n q. let c = (not_number e (method i x xs) n (h ∙ ap Some q)).1 in cc) s
fits_from e (ascribed i x t) k h s = term_fits (λ v. term e v (ascribed i x t)) k (λ n q. let c = (not_number e (ascribed i x t) n (h ∙ ap Some q)).1 in cc) s

mutual
  -- a typed tree's term has the sort of its kind, where it is read at a width or needs none
  pub sorts : (e : Env) → Bounded e → (t : Tree) (k : Kind) → kind_of e t ≡ Some k → Sorts (λ v. term e v t) k
  sorts e b (name i) k h = λ w r. name_sorts (variable_at e i) k w (b i) h
  sorts e b (numeral i) k h = λ w r. numeral_sorts (number_at e.source i) w k h r
  sorts e b (literal i j) k h = λ w r. literal_sorts (number_at e.source j) (number_at e.source i) w k h
  sorts e b (trees.constant c i) k h = λ w r. truth_sorts c w k h
  sorts e b (prefix o i x) k h =
      let p = one_part (prefix_row o) (of_tree.depth (prefix o i x)) (kind_of e x) k h in
      λ w r. prefix_sorts o w (λ v. term e v x) p.part k p.fits r (sorts e b x p.part p.is)
  sorts e b (infix_ o i x y) k h =
      let p = two_parts (infix_row o) (of_tree.depth (infix_ o i x y)) (kind_of e x) (kind_of e y) k h in
      let s = sorts e b x p.left p.left_is in
      let t = sorts e b y p.right p.right_is in
      λ w r. infix_sorts o w (λ v. term e v x) (λ v. term e v y) (kind_of e x) (kind_of e y) p.left p.right k p.left_is p.right_is (width_of_sorts (λ v. term e v x) p.left s) (width_of_sorts (λ v. term e v y) p.right t) p.fits r s t
  sorts e b (trees.choice i x y z) k h =
      let p = three_parts choice_row (of_tree.depth (trees.choice i x y z)) (kind_of e x) (kind_of e y) (kind_of e z) k h in
      let q = sorts e b x p.test p.test_is in
      let s = sorts e b y p.left p.left_is in
      let t = sorts e b z p.right p.right_is in
      λ w r. choice_sorts w (λ v. term e v x) (λ v. term e v y) (λ v. term e v z) (kind_of e y) (kind_of e z) p.test p.left p.right k p.left_is p.right_is (width_of_sorts (λ v. term e v y) p.left s) (width_of_sorts (λ v. term e v z) p.right t) p.fits r q s t
  sorts e b (method i x xs) k h =
      let p = two_parts (method_row (method_at e i)) (of_tree.depth (method i x xs)) (kind_of e x) (kinds e xs) k h in
      let s = sorts e b x p.left p.left_is in
      λ w r. method_sorts (method_at e i) w (λ v. term e v x) (λ v. items e v xs) (kind_of e x) p.left p.right k p.left_is (width_of_sorts (λ v. term e v x) p.left s) p.fits s (all_fit e b xs p.right p.right_is)
  sorts e b (ascribed i x t) k h =
      let p = ascribed_part (ascribed_to (sort_at e.source t)) (kind_of e x) k h in
      λ w r. ascription_sorts (sort_at e.source t) (written_within e.source t) w (λ v. term e v x) p.0 k p.2 (sorts e b x p.0 p.1)

  pub all_fit : (e : Env) → Bounded e → (xs : Trees) (ks : List Kind) → kinds e xs ≡ Some ks → AllFit (λ v. items e v xs) ks
  all_fit e b no_more ks h = let q : [] ≡ ks = cc in subst (AllFit (λ v. [])) q (λ v. refl)
  all_fit e b (and x xs) ks h =
      let p = kinds_parts (kind_of e x) (kinds e xs) ks h in
      subst (AllFit (λ v. items e v (and x xs))) (sym p.4)
      ((λ v. item e v x), (λ v. items e v xs), (λ v. refl), fits_from e x p.0 p.2 (sorts e b x p.0 p.2), all_fit e b xs p.1 p.3)
