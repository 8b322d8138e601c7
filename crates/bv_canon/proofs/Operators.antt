-- How each operator that canonical text writes is read: its word's level, the sorts that its row takes, and the node that it
-- makes again.
use Rattle.std.proofs.Common.{◌≡◌, ℕ, ◌+◌, Bool, true, false, List, [], ◌∷◌, Option, Some, None, refl, ap}
use Rattle.std.specs.Prelude.{nat_le, ◌&&◌, if◌then◌else◌, map}
use Rattle.std.specs.Char.{encode_utf8}
use Rattle.bv_grammar.specs.declared.words.Word.{Word}
use Rattle.bv_grammar.specs.declared.words.Word.TheVariants as words
use Rattle.bv_grammar.specs.declared.words.Fixity.{Fixity}
use Rattle.bv_grammar.specs.Operators.{prefix_level, fixity_of, when_fits}
use Rattle.bv_terminals.specs.Spellings.{look_up, or_comma, signs}
use Rattle.bv_expr.specs.declared.ops.Sort.{Sort}
use Rattle.bv_expr.specs.declared.ops.Sort.TheVariants.{Truth, Vector}
use Rattle.bv_expr.specs.declared.ops.Unary.{Unary}
use Rattle.bv_expr.specs.declared.ops.Unary.TheVariants as of
use Rattle.bv_expr.specs.declared.ops.Binary.{Binary}
use Rattle.bv_expr.specs.declared.ops.Binary.TheVariants as on
use Rattle.bv_expr.specs.Term.{Term, unary, binary}
use Rattle.bv_expr.specs.Sorts.{vectors, unary_sort, binary_sort}
use Rattle.bv_limits.specs.Depths.{added}
use Rattle.bv_typing.specs.declared.item.Item.TheVariants.{Number, Made}
use Rattle.bv_typing.specs.declared.kind.Kind.{Kind}
use Rattle.bv_typing.specs.declared.kind.Kind.TheVariants as kind
use Rattle.bv_typing.specs.declared.kind.Row.{Row}
use Rattle.bv_typing.specs.declared.kind.Row.TheVariants as row
use Rattle.bv_typing.specs.declared.method.Method.TheVariants as method
use Rattle.bv_typing.specs.declared.method.Numbered.TheVariants as numbered
use Rattle.bv_typing.specs.Methods.{method_of}
use Rattle.bv_typing.specs.Rows.{sorted, resized, prefix_row, infix_row, method_row}
use Rattle.bv_typing.specs.Readings.{prefix_unary, infix_term, method_term, width_for}
use Rattle.bv_print.specs.Spelling.{Form, Prefix, Infix, Method, unary_form, binary_form, kept_numbers}

-- the word of a sign
abbrev pub word_of : List ℕ → Word
word_of w = or_comma (look_up signs w)

-- the row is this sort's
abbrev pub Gives : Row → Sort → Type 0
Gives q r = q ≡ row.Typed (kind.Sorted r)

-- an operator before its part
pub record PrefixOf (op : Unary) (w ns : List ℕ) : Type 0 where
  pub level : ℕ
  pub has_level : prefix_level (word_of w) ≡ Some level
  pub gives : (s r : Sort) → unary_sort op s ≡ Some r → Gives (prefix_row (word_of w) (kind.Sorted s)) r
  pub makes : prefix_unary (word_of w) ≡ op
  pub alone : ns ≡ []

-- an operator between its part and a number
pub record ShiftOf (op : Unary) (w ns : List ℕ) : Type 0 where
  pub fixity : Fixity
  pub fits : when_fits 0 1024 (fixity_of (word_of w)) ≡ Some fixity
  pub amount : ℕ
  pub one : ns ≡ amount ∷ []
  pub gives : (s r : Sort) → unary_sort op s ≡ Some r → Gives (infix_row (word_of w) (kind.Sorted s) (kind.Number amount)) r
  pub makes : (s : Sort) (x y : Term) → infix_term (word_of w) (Some (kind.Sorted s)) (Some (kind.Number amount)) x y ≡ unary op x
  pub adds : added (word_of w) ≡ 1

-- a method of its part with numbers
pub record NumberedOf (op : Unary) (w ns : List ℕ) : Type 0 where
  pub gives : (s r : Sort) → unary_sort op s ≡ Some r → Gives (method_row (method_of w) (kind.Sorted s) (map kind.Number ns)) r
  pub makes : (x : Term) → method_term (method_of w) x (map Number ns) ≡ unary op x
  pub width : (k : Option Kind) → width_for (method_of w) k ≡ Some 0

abbrev pub UnaryOf : Unary → Form → List ℕ → Type 0
UnaryOf op (Prefix w) ns = PrefixOf op w ns
UnaryOf op (Infix w) ns = ShiftOf op w ns
UnaryOf op (Method w) ns = NumberedOf op w ns

-- an operator between its parts
pub record InfixOf (op : Binary) (w : List ℕ) : Type 0 where
  pub fixity : Fixity
  pub fits : when_fits 0 1024 (fixity_of (word_of w)) ≡ Some fixity
  pub gives : (s t r : Sort) → binary_sort op s t ≡ Some r → Gives (infix_row (word_of w) (kind.Sorted s) (kind.Sorted t)) r
  pub makes : (s t r : Sort) (x y : Term) → binary_sort op s t ≡ Some r → infix_term (word_of w) (Some (kind.Sorted s)) (Some (kind.Sorted t)) x y ≡ binary op x y
  pub adds : added (word_of w) ≡ 1

-- a method of its first part with the other one
pub record MethodOf (op : Binary) (w : List ℕ) : Type 0 where
  pub gives : (s t r : Sort) → binary_sort op s t ≡ Some r → Gives (method_row (method_of w) (kind.Sorted s) (kind.Sorted t ∷ [])) r
  pub makes : (x y : Term) → method_term (method_of w) x (Made y ∷ []) ≡ binary op x y

abbrev pub BinaryOf : Binary → Form → Type 0
BinaryOf op (Prefix w) = ⊥
BinaryOf op (Infix w) = InfixOf op w
BinaryOf op (Method w) = MethodOf op w

-- ---- rows

-- a row that gives the sort that an operator gives
sorted_gives : (o : Option Sort) (r : Sort) → o ≡ Some r → Gives (sorted o) r
sorted_gives o r h = ap sorted h

vector_gives : (w : ℕ) (r : Sort) → ◌≡◌ {A = Option Sort} (Some (Vector w)) (Some r) → Gives (row.Typed (kind.Sorted (Vector w))) r
vector_gives w r h = ap sorted h

truth_gives : (r : Sort) → ◌≡◌ {A = Option Sort} (Some Truth) (Some r) → Gives (row.Typed (kind.Sorted Truth)) r
truth_gives r h = ap sorted h

-- a width that an operator gives
resized_gives : (w : ℕ) (r : Sort) → vectors w ≡ Some r → Gives (resized w) r
resized_gives w r h = go (nat_le 1 w && nat_le w 128) h
  where
    go : (b : Bool) → (if b then Some (Vector w) else None) ≡ Some r → (if b then row.Typed (kind.Sorted (Vector w)) else row.TooWide) ≡ row.Typed (kind.Sorted r)
    go true e = ap sorted e
    go false e = cc

-- ---- operators on one part

not_gives : (s r : Sort) → unary_sort of.Not s ≡ Some r → Gives (prefix_row words.Complement (kind.Sorted s)) r
not_gives Truth r h = cc
not_gives (Vector w) r h = vector_gives w r h

neg_gives : (s r : Sort) → unary_sort of.Neg s ≡ Some r → Gives (prefix_row words.Minus (kind.Sorted s)) r
neg_gives Truth r h = cc
neg_gives (Vector w) r h = vector_gives w r h

negation_gives : (s r : Sort) → unary_sort of.TNot s ≡ Some r → Gives (prefix_row words.BoolNot (kind.Sorted s)) r
negation_gives Truth r h = truth_gives r h
negation_gives (Vector w) r h = cc

shlby_gives : (n : ℕ) (s r : Sort) → unary_sort (of.ShlBy n) s ≡ Some r → Gives (infix_row words.ShiftLeft (kind.Sorted s) (kind.Number n)) r
shlby_gives n Truth r h = cc
shlby_gives n (Vector w) r h = vector_gives w r h

lshrby_gives : (n : ℕ) (s r : Sort) → unary_sort (of.LshrBy n) s ≡ Some r → Gives (infix_row words.ShiftRight (kind.Sorted s) (kind.Number n)) r
lshrby_gives n Truth r h = cc
lshrby_gives n (Vector w) r h = vector_gives w r h

msb_gives : (s r : Sort) → unary_sort of.Msb s ≡ Some r → Gives (method_row (Some method.Msb) (kind.Sorted s) []) r
msb_gives Truth r h = cc
msb_gives (Vector w) r h = truth_gives r h

ashrby_gives : (n : ℕ) (s r : Sort) → unary_sort (of.AshrBy n) s ≡ Some r → Gives (method_row (Some (method.By numbered.AshrBy)) (kind.Sorted s) (kind.Number n ∷ [])) r
ashrby_gives n Truth r h = cc
ashrby_gives n (Vector w) r h = vector_gives w r h

rotl_gives : (n : ℕ) (s r : Sort) → unary_sort (of.RotL n) s ≡ Some r → Gives (method_row (Some (method.By numbered.RotL)) (kind.Sorted s) (kind.Number n ∷ [])) r
rotl_gives n Truth r h = cc
rotl_gives n (Vector w) r h = vector_gives w r h

rotr_gives : (n : ℕ) (s r : Sort) → unary_sort (of.RotR n) s ≡ Some r → Gives (method_row (Some (method.By numbered.RotR)) (kind.Sorted s) (kind.Number n ∷ [])) r
rotr_gives n Truth r h = cc
rotr_gives n (Vector w) r h = vector_gives w r h

bit_gives : (n : ℕ) (s r : Sort) → unary_sort (of.Bit n) s ≡ Some r → Gives (method_row (Some (method.By numbered.Bit)) (kind.Sorted s) (kind.Number n ∷ [])) r
bit_gives n Truth r h = cc
bit_gives n (Vector w) r h = truth_gives r h

setwidth_gives : (n : ℕ) (s r : Sort) → unary_sort (of.SetWidth n) s ≡ Some r → Gives (method_row (Some (method.By numbered.SetWidth)) (kind.Sorted s) (kind.Number n ∷ [])) r
setwidth_gives n Truth r h = cc
setwidth_gives n (Vector w) r h = resized_gives n r h

signextend_gives : (n : ℕ) (s r : Sort) → unary_sort (of.SignExtend n) s ≡ Some r → Gives (method_row (Some (method.By numbered.SignExtend)) (kind.Sorted s) (kind.Number n ∷ [])) r
signextend_gives n Truth r h = cc
signextend_gives n (Vector w) r h = resized_gives n r h

extract_gives : (m n : ℕ) (s r : Sort) → unary_sort (of.Extract m n) s ≡ Some r → Gives (method_row (Some method.Extract) (kind.Sorted s) (kind.Number m ∷ kind.Number n ∷ [])) r
extract_gives m n Truth r h = cc
extract_gives m n (Vector w) r h = resized_gives n r h

pub unary_of : (op : Unary) → UnaryOf op (unary_form op) (kept_numbers op)
unfolding encode_utf8
unary_of of.Not = record { level = 100; has_level = refl; gives = not_gives; makes = refl; alone = refl }
unary_of of.Neg = record { level = 75; has_level = refl; gives = neg_gives; makes = refl; alone = refl }
unary_of of.TNot = record { level = 40; has_level = refl; gives = negation_gives; makes = refl; alone = refl }
unary_of of.Msb = record { gives = msb_gives; makes = λ x. refl; width = λ k. refl }
unary_of (of.ShlBy n) = record { fixity = record { level = 75; left = 75; right = 76 }; fits = refl; amount = n; one = refl; gives = shlby_gives n; makes = λ s x y. refl; adds = refl }
unary_of (of.LshrBy n) = record { fixity = record { level = 75; left = 75; right = 76 }; fits = refl; amount = n; one = refl; gives = lshrby_gives n; makes = λ s x y. refl; adds = refl }
unary_of (of.Extract m n) = record { gives = extract_gives m n; makes = λ x. refl; width = λ k. refl }
unary_of (of.AshrBy n) = record { gives = ashrby_gives n; makes = λ x. refl; width = λ k. refl }
unary_of (of.RotL n) = record { gives = rotl_gives n; makes = λ x. refl; width = λ k. refl }
unary_of (of.RotR n) = record { gives = rotr_gives n; makes = λ x. refl; width = λ k. refl }
unary_of (of.Bit n) = record { gives = bit_gives n; makes = λ x. refl; width = λ k. refl }
unary_of (of.SetWidth n) = record { gives = setwidth_gives n; makes = λ x. refl; width = λ k. refl }
unary_of (of.SignExtend n) = record { gives = signextend_gives n; makes = λ x. refl; width = λ k. refl }

-- ---- operators on two parts

eq_gives : (s t r : Sort) → binary_sort on.Eq s t ≡ Some r → Gives (infix_row words.Equal (kind.Sorted s) (kind.Sorted t)) r
eq_gives Truth Truth r h = cc
eq_gives Truth (Vector w) r h = cc
eq_gives (Vector v) t r h = sorted_gives (binary_sort on.Eq (Vector v) t) r h

teq_gives : (s t r : Sort) → binary_sort on.TEq s t ≡ Some r → Gives (infix_row words.Equal (kind.Sorted s) (kind.Sorted t)) r
teq_gives Truth t r h = sorted_gives (binary_sort on.TEq Truth t) r h
teq_gives (Vector v) Truth r h = cc
teq_gives (Vector v) (Vector w) r h = cc

eq_makes : (s t r : Sort) (x y : Term) → binary_sort on.Eq s t ≡ Some r → infix_term words.Equal (Some (kind.Sorted s)) (Some (kind.Sorted t)) x y ≡ binary on.Eq x y
eq_makes Truth Truth r x y h = cc
eq_makes Truth (Vector w) r x y h = cc
eq_makes (Vector v) t r x y h = refl

teq_makes : (s t r : Sort) (x y : Term) → binary_sort on.TEq s t ≡ Some r → infix_term words.Equal (Some (kind.Sorted s)) (Some (kind.Sorted t)) x y ≡ binary on.TEq x y
teq_makes Truth t r x y h = refl
teq_makes (Vector v) Truth r x y h = cc
teq_makes (Vector v) (Vector w) r x y h = cc

shl_gives : (s t r : Sort) → binary_sort on.Shl s t ≡ Some r → Gives (infix_row words.ShiftLeft (kind.Sorted s) (kind.Sorted t)) r
shl_gives Truth Truth r h = cc
shl_gives Truth (Vector w) r h = cc
shl_gives (Vector v) Truth r h = cc
shl_gives (Vector v) (Vector w) r h = vector_gives v r h

lshr_gives : (s t r : Sort) → binary_sort on.Lshr s t ≡ Some r → Gives (infix_row words.ShiftRight (kind.Sorted s) (kind.Sorted t)) r
lshr_gives Truth Truth r h = cc
lshr_gives Truth (Vector w) r h = cc
lshr_gives (Vector v) Truth r h = cc
lshr_gives (Vector v) (Vector w) r h = vector_gives v r h

append_gives : (s t r : Sort) → binary_sort on.Append s t ≡ Some r → Gives (infix_row words.Append (kind.Sorted s) (kind.Sorted t)) r
append_gives Truth Truth r h = cc
append_gives Truth (Vector w) r h = cc
append_gives (Vector v) Truth r h = cc
append_gives (Vector v) (Vector w) r h = resized_gives (v + w) r h

ashr_gives : (s t r : Sort) → binary_sort on.Ashr s t ≡ Some r → Gives (method_row (Some method.ArithmeticShift) (kind.Sorted s) (kind.Sorted t ∷ [])) r
ashr_gives Truth Truth r h = cc
ashr_gives Truth (Vector w) r h = cc
ashr_gives (Vector v) Truth r h = cc
ashr_gives (Vector v) (Vector w) r h = vector_gives v r h

sdiv_gives : (s t r : Sort) → binary_sort on.Sdiv s t ≡ Some r → Gives (method_row (Some (method.With on.Sdiv)) (kind.Sorted s) (kind.Sorted t ∷ [])) r
sdiv_gives Truth Truth r h = cc
sdiv_gives Truth (Vector w) r h = cc
sdiv_gives (Vector v) t r h = sorted_gives (binary_sort on.Sdiv (Vector v) t) r h

srem_gives : (s t r : Sort) → binary_sort on.Srem s t ≡ Some r → Gives (method_row (Some (method.With on.Srem)) (kind.Sorted s) (kind.Sorted t ∷ [])) r
srem_gives Truth Truth r h = cc
srem_gives Truth (Vector w) r h = cc
srem_gives (Vector v) t r h = sorted_gives (binary_sort on.Srem (Vector v) t) r h

smod_gives : (s t r : Sort) → binary_sort on.Smod s t ≡ Some r → Gives (method_row (Some (method.With on.Smod)) (kind.Sorted s) (kind.Sorted t ∷ [])) r
smod_gives Truth Truth r h = cc
smod_gives Truth (Vector w) r h = cc
smod_gives (Vector v) t r h = sorted_gives (binary_sort on.Smod (Vector v) t) r h

slt_gives : (s t r : Sort) → binary_sort on.Slt s t ≡ Some r → Gives (method_row (Some (method.With on.Slt)) (kind.Sorted s) (kind.Sorted t ∷ [])) r
slt_gives Truth Truth r h = cc
slt_gives Truth (Vector w) r h = cc
slt_gives (Vector v) t r h = sorted_gives (binary_sort on.Slt (Vector v) t) r h

sle_gives : (s t r : Sort) → binary_sort on.Sle s t ≡ Some r → Gives (method_row (Some (method.With on.Sle)) (kind.Sorted s) (kind.Sorted t ∷ [])) r
sle_gives Truth Truth r h = cc
sle_gives Truth (Vector w) r h = cc
sle_gives (Vector v) t r h = sorted_gives (binary_sort on.Sle (Vector v) t) r h

pub binary_of : (op : Binary) → BinaryOf op (binary_form op)
unfolding encode_utf8
binary_of on.And = record { fixity = record { level = 60; left = 60; right = 61 }; fits = refl; gives = λ s t r h. sorted_gives (binary_sort on.And s t) r h; makes = λ s t r x y h. refl; adds = refl }
binary_of on.Or = record { fixity = record { level = 55; left = 55; right = 56 }; fits = refl; gives = λ s t r h. sorted_gives (binary_sort on.Or s t) r h; makes = λ s t r x y h. refl; adds = refl }
binary_of on.Xor = record { fixity = record { level = 58; left = 58; right = 59 }; fits = refl; gives = λ s t r h. sorted_gives (binary_sort on.Xor s t) r h; makes = λ s t r x y h. refl; adds = refl }
binary_of on.Add = record { fixity = record { level = 65; left = 65; right = 66 }; fits = refl; gives = λ s t r h. sorted_gives (binary_sort on.Add s t) r h; makes = λ s t r x y h. refl; adds = refl }
binary_of on.Sub = record { fixity = record { level = 65; left = 65; right = 66 }; fits = refl; gives = λ s t r h. sorted_gives (binary_sort on.Sub s t) r h; makes = λ s t r x y h. refl; adds = refl }
binary_of on.Mul = record { fixity = record { level = 70; left = 70; right = 71 }; fits = refl; gives = λ s t r h. sorted_gives (binary_sort on.Mul s t) r h; makes = λ s t r x y h. refl; adds = refl }
binary_of on.Udiv = record { fixity = record { level = 70; left = 70; right = 71 }; fits = refl; gives = λ s t r h. sorted_gives (binary_sort on.Udiv s t) r h; makes = λ s t r x y h. refl; adds = refl }
binary_of on.Umod = record { fixity = record { level = 70; left = 70; right = 71 }; fits = refl; gives = λ s t r h. sorted_gives (binary_sort on.Umod s t) r h; makes = λ s t r x y h. refl; adds = refl }
binary_of on.Ult = record { fixity = record { level = 50; left = 51; right = 51 }; fits = refl; gives = λ s t r h. sorted_gives (binary_sort on.Ult s t) r h; makes = λ s t r x y h. refl; adds = refl }
binary_of on.Ule = record { fixity = record { level = 50; left = 51; right = 51 }; fits = refl; gives = λ s t r h. sorted_gives (binary_sort on.Ule s t) r h; makes = λ s t r x y h. refl; adds = refl }
binary_of on.TAnd = record { fixity = record { level = 35; left = 35; right = 36 }; fits = refl; gives = λ s t r h. sorted_gives (binary_sort on.TAnd s t) r h; makes = λ s t r x y h. refl; adds = refl }
binary_of on.TOr = record { fixity = record { level = 30; left = 30; right = 31 }; fits = refl; gives = λ s t r h. sorted_gives (binary_sort on.TOr s t) r h; makes = λ s t r x y h. refl; adds = refl }
binary_of on.TXor = record { fixity = record { level = 33; left = 33; right = 34 }; fits = refl; gives = λ s t r h. sorted_gives (binary_sort on.TXor s t) r h; makes = λ s t r x y h. refl; adds = refl }
binary_of on.Implies = record { fixity = record { level = 25; left = 26; right = 25 }; fits = refl; gives = λ s t r h. sorted_gives (binary_sort on.Implies s t) r h; makes = λ s t r x y h. refl; adds = refl }
binary_of on.Append = record { fixity = record { level = 65; left = 65; right = 66 }; fits = refl; gives = append_gives; makes = λ s t r x y h. refl; adds = refl }
binary_of on.Shl = record { fixity = record { level = 75; left = 75; right = 76 }; fits = refl; gives = shl_gives; makes = λ s t r x y h. refl; adds = refl }
binary_of on.Lshr = record { fixity = record { level = 75; left = 75; right = 76 }; fits = refl; gives = lshr_gives; makes = λ s t r x y h. refl; adds = refl }
binary_of on.Eq = record { fixity = record { level = 50; left = 51; right = 51 }; fits = refl; gives = eq_gives; makes = eq_makes; adds = refl }
binary_of on.TEq = record { fixity = record { level = 50; left = 51; right = 51 }; fits = refl; gives = teq_gives; makes = teq_makes; adds = refl }
binary_of on.Sdiv = record { gives = sdiv_gives; makes = λ x y. refl }
binary_of on.Srem = record { gives = srem_gives; makes = λ x y. refl }
binary_of on.Smod = record { gives = smod_gives; makes = λ x y. refl }
binary_of on.Slt = record { gives = slt_gives; makes = λ x y. refl }
binary_of on.Sle = record { gives = sle_gives; makes = λ x y. refl }
binary_of on.Ashr = record { gives = ashr_gives; makes = λ x y. refl }
