-- What the trees of a goal read as: of which kind each is, and which term. A bare part is read at a width that stands beside
-- it or is written behind it.
use Rattle.std.specs.Prelude.{ℕ, zero, suc, ◌+◌, ◌-◌, Bool, true, false, nat_le, if◌then◌else◌, List, [], ◌∷◌, Option, Some, None, option_map, option_and_then}
use Rattle.bv_value.specs.BitVector.{of_number}
use Rattle.bv_grammar.specs.declared.words.Word.{Word}
use Rattle.bv_grammar.specs.declared.words.Word.TheVariants as words
use Rattle.bv_expr.specs.declared.ops.Sort.{Sort}
use Rattle.bv_expr.specs.declared.ops.Sort.TheVariants.{Truth, Vector}
use Rattle.bv_expr.specs.declared.ops.Unary.{Unary}
use Rattle.bv_expr.specs.declared.ops.Unary.TheVariants as of
use Rattle.bv_expr.specs.declared.ops.Binary.{Binary}
use Rattle.bv_expr.specs.declared.ops.Binary.TheVariants as on
use Rattle.bv_expr.specs.Term.{Term, constant, variable, truth, truth_variable, unary, binary, choice, truth_choice}
use Rattle.bv_expr.specs.Sorts.{vectors}
use Rattle.bv_trees.specs.Trees.{Tree, Trees, name, numeral, literal, prefix, infix_, method, ascribed, no_more, and}
use Rattle.bv_trees.specs.Trees as trees
use Rattle.bv_limits.specs.Depths.{depth}
use Rattle.bv_typing.specs.declared.kind.Kind.{Kind}
use Rattle.bv_typing.specs.declared.kind.Kind.TheVariants as kind
use Rattle.bv_typing.specs.declared.kind.Row.{Row}
use Rattle.bv_typing.specs.declared.kind.Row.TheVariants as row
use Rattle.bv_typing.specs.declared.method.Method.{Method}
use Rattle.bv_typing.specs.declared.method.Method.TheVariants as by_method
use Rattle.bv_typing.specs.declared.method.Numbered.{Numbered}
use Rattle.bv_typing.specs.declared.method.Numbered.TheVariants as numbered
use Rattle.bv_typing.specs.declared.item.Item.{Item}
use Rattle.bv_typing.specs.declared.item.Item.TheVariants.{Number, Made}
use Rattle.bv_typing.specs.Source.{Source, text_at, number_at}
use Rattle.bv_typing.specs.Methods.{method_of}
use Rattle.bv_typing.specs.Rows.{sorted, prefix_row, infix_row, choice_row, ascribed_row, method_row, binary_of}
use Rattle.bv_typing.specs.Variables.{Bound, variable_of, sort_at}

-- a file, and the variables of the goal that is read
pub record Env : Type 0 where
  pub source : Source
  pub bounds : List Bound

abbrev pub variable_at : Env → ℕ → Option (ℕ × Option Sort)
variable_at e i = variable_of e.bounds (text_at e.source i)

abbrev pub method_at : Env → ℕ → Option Method
method_at e i = method_of (text_at e.source i)

-- ---- kinds

abbrev pub name_row : Option (ℕ × Option Sort) → Row
name_row None = row.Fails
name_row (Some v) = sorted v.1

abbrev pub kind_in : Row → Option Kind
kind_in (row.Typed k) = Some k
kind_in row.Fails = None
kind_in row.TooWide = None

-- of which kind a form is by its row
abbrev pub typed : Option Row → Option Kind
typed r = option_and_then kind_in r

-- A term that is deeper than 1,000 isn't typed. (It met a limit before.)
abbrev pub within : ℕ → Row → Row
within d r = if nat_le d 1000 then r else row.Fails

abbrev pub ascribed_to : Option Sort → Kind → Row
ascribed_to None k = row.Fails
ascribed_to (Some s) k = ascribed_row s k

abbrev pub row_on : (Kind → Row) → Option Kind → Option Row
row_on f k = option_map f k

-- what a form's own row says, where all its parts are typed
abbrev mutual
  pub judged : Env → Tree → Option Row
  judged e (name i) = Some (name_row (variable_at e i))
  judged e (numeral i) = Some (row.Typed (kind.Number (number_at e.source i)))
  judged e (literal i w) = Some (sorted (vectors (number_at e.source w)))
  judged e (trees.constant c i) = Some (row.Typed (kind.Sorted Truth))
  judged e (prefix o i x) = option_map (λ k. within (depth (prefix o i x)) (prefix_row o k)) (typed (judged e x))
  judged e (infix_ o i x y) = option_and_then (λ k. option_map (λ l. within (depth (infix_ o i x y)) (infix_row o k l)) (typed (judged e y))) (typed (judged e x))
  judged e (trees.choice i x y z) =
      option_and_then (λ c. option_and_then (λ k. option_map (λ l. within (depth (trees.choice i x y z)) (choice_row c k l)) (typed (judged e z))) (typed (judged e y))) (typed (judged e x))
  judged e (method i x xs) = option_and_then (λ k. option_map (λ ks. within (depth (method i x xs)) (method_row (method_at e i) k ks)) (kinds e xs)) (typed (judged e x))
  judged e (ascribed i x s) = option_map (ascribed_to (sort_at e.source s)) (typed (judged e x))

  pub kinds : Env → Trees → Option (List Kind)
  kinds e no_more = Some []
  kinds e (and x xs) = option_and_then (λ k. option_map (λ ks. k ∷ ks) (kinds e xs)) (typed (judged e x))

-- of which kind a tree is, where it is typed
abbrev pub kind_of : Env → Tree → Option Kind
kind_of e x = typed (judged e x)

-- ---- widths

abbrev pub width_in : Option Kind → Option ℕ
width_in (Some (kind.Sorted (Vector w))) = Some w
width_in _ = None

-- the width of the first of two that has one
abbrev pub either : Option ℕ → Option ℕ → Option ℕ
either (Some w) other = Some w
either None other = other

-- a width that is told, or else the one at which the whole is read
abbrev pub told_or : ℕ → Option ℕ → ℕ
told_or w None = w
told_or w (Some v) = v

abbrev pub is_shift : Word → Bool
is_shift words.ShiftLeft = true
is_shift words.ShiftRight = true
is_shift _ = false

-- the width that the parts of an infix operator tell; a shift's amount tells none
abbrev pub infix_width : Word → Option Kind → Option Kind → Option ℕ
infix_width o k l = if is_shift o then None else either (width_in k) (width_in l)

-- the width at which its right part is read; an amount that is a numeral is read at none, as a number
abbrev pub right_width : Word → ℕ → ℕ
right_width o w = if is_shift o then 0 else w

-- the width at which the arguments of a method are read; numbers are read at none
abbrev pub width_for : Option Method → Option Kind → Option ℕ
width_for (Some (by_method.With op)) k = width_in k
width_for _ k = Some 0

abbrev pub width_of_sort : Option Sort → Option ℕ
width_of_sort (Some (Vector w)) = Some w
width_of_sort _ = None

-- ---- terms

abbrev pub negated : Word → Term → Term
negated words.NotEqual x = unary of.TNot x
negated words.BoolNotEqual x = unary of.TNot x
negated _ x = x

abbrev pub is_turned : Word → Bool
is_turned words.Greater = true
is_turned words.AtLeast = true
is_turned _ = false

abbrev pub variable_term : Option (ℕ × Option Sort) → Term
variable_term (Some (k, Some Truth)) = truth_variable k
variable_term (Some (k, Some (Vector w))) = variable k w
-- an untyped name, which is no term
variable_term _ = truth false

abbrev pub constant_term : Word → Term
constant_term words.True = truth true
constant_term words.TrueProposition = truth true
constant_term _ = truth false

-- the node that a prefix operator makes
abbrev pub prefix_unary : Word → Unary
prefix_unary words.Complement = of.Not
prefix_unary words.Minus = of.Neg
prefix_unary _ = of.TNot

-- the node of a shift by a number
abbrev pub shift_unary : Word → ℕ → Unary
shift_unary words.ShiftLeft n = of.ShlBy n
shift_unary _ n = of.LshrBy n

-- the sort of a kind; a bare term is read as a vector
abbrev pub sort_in : Option Kind → Sort
sort_in (Some (kind.Sorted s)) = s
sort_in _ = Vector 0

abbrev pub joined_by : Word → Option Binary → Term → Term → Term
joined_by o (Some op) x y = negated o (if is_turned o then binary op y x else binary op x y)
-- an operator that isn't infix makes no node
joined_by o None x y = x

abbrev pub joined : Word → Option Kind → Term → Term → Term
joined o k x y = joined_by o (binary_of o (sort_in k)) x y

-- where its right part is a numeral, a shift is one by a number
abbrev pub infix_term : Word → Option Kind → Option Kind → Term → Term → Term
infix_term words.ShiftLeft k (Some (kind.Number n)) x y = unary (shift_unary words.ShiftLeft n) x
infix_term words.ShiftRight k (Some (kind.Number n)) x y = unary (shift_unary words.ShiftRight n) x
infix_term o k l x y = joined o k x y

abbrev pub choice_term : Option Kind → Term → Term → Term → Term
choice_term (Some (kind.Sorted Truth)) c x y = truth_choice c x y
choice_term _ c x y = choice c x y

abbrev pub numbered_unary : Numbered → ℕ → Unary
numbered_unary numbered.AshrBy n = of.AshrBy n
numbered_unary numbered.RotL n = of.RotL n
numbered_unary numbered.RotR n = of.RotR n
numbered_unary numbered.Bit n = of.Bit n
numbered_unary numbered.SetWidth n = of.SetWidth n
numbered_unary numbered.SignExtend n = of.SignExtend n

abbrev pub method_term : Option Method → Term → List Item → Term
method_term (Some by_method.Msb) x [] = unary of.Msb x
method_term (Some (by_method.With op)) x (Made y ∷ []) = binary op x y
method_term (Some by_method.ArithmeticShift) x (Made y ∷ []) = binary on.Ashr x y
method_term (Some (by_method.By m)) x (Number n ∷ []) = unary (numbered_unary m n) x
method_term (Some by_method.Extract) x (Number start ∷ Number len ∷ []) = unary (of.Extract start len) x
method_term (Some by_method.ExtractBetween) x (Number high ∷ Number low ∷ []) = unary (of.Extract low (high - low + 1)) x
-- untyped
method_term _ x items = x

-- a numeral that is read at no width is a number
abbrev pub numeral_item : ℕ → ℕ → Item
numeral_item zero n = Number n
numeral_item (suc w) n = Made (constant (of_number (suc w) n))

-- the item of a tree with this term
abbrev pub item_of : Env → ℕ → Tree → Term → Item
item_of e w (numeral i) t = numeral_item w (number_at e.source i)
item_of e w _ t = Made t

-- the term of a tree that is read at a width, which matters where it is bare alone
abbrev mutual
  pub term : Env → ℕ → Tree → Term
  term e w (name i) = variable_term (variable_at e i)
  term e w (numeral i) = constant (of_number w (number_at e.source i))
  term e w (literal i j) = constant (of_number (number_at e.source j) (number_at e.source i))
  term e w (trees.constant c i) = constant_term c
  term e w (prefix o i x) = unary (prefix_unary o) (term e w x)
  term e w (infix_ o i x y) =
      infix_term o (kind_of e x) (kind_of e y) (term e (told_or w (infix_width o (kind_of e x) (kind_of e y))) x)
      (term e (right_width o (told_or w (infix_width o (kind_of e x) (kind_of e y)))) y)
  term e w (trees.choice i x y z) =
      choice_term (kind_of e y) (term e w x) (term e (told_or w (either (width_in (kind_of e y)) (width_in (kind_of e z)))) y)
      (term e (told_or w (either (width_in (kind_of e y)) (width_in (kind_of e z)))) z)
  term e w (method i x xs) = method_term (method_at e i) (term e w x) (items e (told_or w (width_for (method_at e i) (kind_of e x))) xs)
  term e w (ascribed i x s) = term e (told_or w (width_of_sort (sort_at e.source s))) x

  pub items : Env → ℕ → Trees → List Item
  items e w no_more = []
  items e w (and x xs) = item_of e w x (term e w x) ∷ items e w xs

abbrev pub item : Env → ℕ → Tree → Item
item e w x = item_of e w x (term e w x)
