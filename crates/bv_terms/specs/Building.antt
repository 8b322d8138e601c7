-- How terms are built from pieces and their widths, with a stack of items.
use Rattle.std.specs.Prelude.{ℕ, zero, suc, ◌+◌, ◌-◌, Bool, true, false, nat_le, nat_lt, ◌&&◌, is_some, if◌then◌else◌, List, [], ◌∷◌, Option, Some, None, option_and_then}
use Rattle.bv_value.specs.BitVector.{of_number}
use Rattle.bv_grammar.specs.declared.words.Word.{Word}
use Rattle.bv_grammar.specs.declared.words.Word.TheVariants as words
use Rattle.bv_expr.specs.declared.ops.Sort.{Sort}
use Rattle.bv_expr.specs.declared.ops.Sort.TheVariants.{Truth}
use Rattle.bv_expr.specs.declared.ops.Unary.{Unary}
use Rattle.bv_expr.specs.declared.ops.Unary.TheVariants as of
use Rattle.bv_expr.specs.declared.ops.Binary.{Binary}
use Rattle.bv_expr.specs.declared.ops.Binary.TheVariants as on
use Rattle.bv_expr.specs.Term.{Term, constant, unary, binary, choice, truth_choice, depth}
use Rattle.bv_expr.specs.Sorts.{sort_of}
use Rattle.bv_trees.specs.declared.pieces.Piece.{Piece}
use Rattle.bv_trees.specs.declared.pieces.Piece.TheVariants as piece
use Rattle.bv_typing.specs.declared.item.Item.{Item}
use Rattle.bv_typing.specs.declared.item.Item.TheVariants.{Number, Made}
use Rattle.bv_typing.specs.declared.method.Method.{Method}
use Rattle.bv_typing.specs.declared.method.Method.TheVariants as by_method
use Rattle.bv_typing.specs.declared.method.Numbered.{Numbered}
use Rattle.bv_typing.specs.Source.{number_at}
use Rattle.bv_typing.specs.Rows.{binary_of}
use Rattle.bv_typing.specs.Stacks.{top, below}
use Rattle.bv_typing.specs.Readings.{Env, variable_at, method_at, variable_term, constant_term, prefix_unary, shift_unary, is_shift, is_turned, numbered_unary}

-- ---- items from items

-- a term whose sorts fit, at most 1,000 deep
abbrev pub is_expr : Term → Bool
is_expr t = is_some (sort_of t) && nat_le (depth t) 1000

abbrev pub checked : Term → Option Item
checked t = if is_expr t then Some (Made t) else None

-- a variable, whose number is below 64
abbrev pub variable_item : Option (ℕ × Option Sort) → Option Item
variable_item (Some (k, Some s)) = if nat_lt k 64 then checked (variable_term (Some (k, Some s))) else None
variable_item _ = None

abbrev pub numeral_item : ℕ → ℕ → Option Item
numeral_item zero n = Some (Number n)
numeral_item (suc w) n = checked (constant (of_number (suc w) n))

abbrev pub unary_item : Unary → Item → Option Item
unary_item op (Made x) = checked (unary op x)
unary_item op (Number n) = None

abbrev pub binary_item : Binary → Item → Item → Option Item
binary_item op (Made x) (Made y) = checked (binary op x y)
binary_item op _ _ = None

abbrev pub shift_item : Word → Term → ℕ → Option Item
shift_item o x n = if is_shift o then checked (unary (shift_unary o n) x) else None

abbrev pub is_negated : Word → Bool
is_negated words.NotEqual = true
is_negated words.BoolNotEqual = true
is_negated _ = false

-- negated, where the operator is a negated one
abbrev pub negated_item : Word → Option Item → Option Item
negated_item o x = if is_negated o then option_and_then (unary_item of.TNot) x else x

-- with its parts in the other order, where the operator is `>` or `≥`
abbrev pub turned : Word → Binary → Term → Term → Term
turned o op x y = if is_turned o then binary op y x else binary op x y

abbrev pub joined_item : Word → Option Binary → Term → Term → Option Item
joined_item o None x y = None
joined_item o (Some op) x y = negated_item o (checked (if is_turned o then binary op y x else binary op x y))

abbrev pub infix_item : Word → Item → Item → Option Item
infix_item o (Made x) (Number n) = shift_item o x n
infix_item o (Made x) (Made y) = joined_item o (option_and_then (binary_of o) (sort_of x)) x y
infix_item o (Number n) _ = None

-- a choice between truths where the second part is one
abbrev pub choice_as : Option Sort → Term → Term → Term → Term
choice_as (Some Truth) c x y = truth_choice c x y
choice_as _ c x y = choice c x y

abbrev pub choice_item : Item → Item → Item → Option Item
choice_item (Made c) (Made x) (Made y) = checked (choice_as (sort_of x) c x y)
choice_item _ _ _ = None

abbrev pub numbered_item : Numbered → Item → Item → Option Item
numbered_item m (Made x) (Number n) = checked (unary (numbered_unary m n) x)
numbered_item m _ _ = None

abbrev pub extract_item : Item → Item → Item → Option Item
extract_item (Made x) (Number start) (Number len) = checked (unary (of.Extract start len) x)
extract_item _ _ _ = None

abbrev pub between_item : Item → Item → Item → Option Item
between_item (Made x) (Number high) (Number low) = checked (unary (of.Extract low (high - low + 1)) x)
between_item _ _ _ = None

-- An operator whose number of bits, where it keeps one, is at most 128. (Another one fits no term.)
abbrev pub is_narrow : Unary → Bool
is_narrow (of.Extract start w) = nat_le w 128
is_narrow (of.SetWidth w) = nat_le w 128
is_narrow (of.SignExtend w) = nat_le w 128
is_narrow _ = true

abbrev pub narrow : Unary → Option Unary
narrow op = if is_narrow op then Some op else None

-- ---- with a stack

abbrev pub term_in : Item → Option Term
term_in (Made x) = Some x
term_in (Number n) = None

abbrev pub number_in : Item → Option ℕ
number_in (Made x) = None
number_in (Number n) = Some n

abbrev pub popped_term : List Item → Option Term × List Item
popped_term [] = (None, [])
popped_term (x ∷ st) = (term_in x, st)

abbrev pub popped_number : List Item → Option ℕ × List Item
popped_number [] = (None, [])
popped_number (x ∷ st) = (number_in x, st)

-- the two or three topmost items, the lowest one first, and what is below them
abbrev pub top_two : List Item → Option (List Item × Item × Item)
top_two (y ∷ x ∷ st) = Some (st, x, y)
top_two _ = None

abbrev pub top_three : List Item → Option (List Item × Item × Item × Item)
top_three (z ∷ y ∷ x ∷ st) = Some (st, x, y, z)
top_three _ = None

abbrev pub put : Option Item → List Item → Option (List Item)
put None st = None
put (Some x) st = Some (x ∷ st)

abbrev pub by_one : (Item → Option Item) → List Item → Option (List Item)
by_one f (x ∷ st) = put (f x) st
by_one f [] = None

abbrev pub by_two : (Item → Item → Option Item) → List Item → Option (List Item)
by_two f (y ∷ x ∷ st) = put (f x y) st
by_two f _ = None

abbrev pub by_three : (Item → Item → Item → Option Item) → List Item → Option (List Item)
by_three f (z ∷ y ∷ x ∷ st) = put (f x y z) st
by_three f _ = None

abbrev pub method_step : Option Method → List Item → Option (List Item)
method_step None st = None
method_step (Some by_method.Msb) st = by_one (unary_item of.Msb) st
method_step (Some (by_method.With op)) st = by_two (binary_item op) st
method_step (Some by_method.ArithmeticShift) st = by_two (binary_item on.Ashr) st
method_step (Some (by_method.By m)) st = by_two (numbered_item m) st
method_step (Some by_method.Extract) st = by_three extract_item st
method_step (Some by_method.ExtractBetween) st = by_three between_item st

-- what a piece that is read at a width does
abbrev pub step : Env → Piece → ℕ → List Item → Option (List Item)
step e (piece.Name i) w st = put (variable_item (variable_at e i)) st
step e (piece.Numeral i) w st = put (numeral_item w (number_at e.source i)) st
step e (piece.Literal i j) w st = put (checked (constant (of_number (number_at e.source j) (number_at e.source i)))) st
step e (piece.Constant c i) w st = put (checked (constant_term c)) st
step e (piece.Prefix o i) w st = by_one (unary_item (prefix_unary o)) st
step e (piece.Infix o i) w st = by_two (infix_item o) st
step e (piece.Choice i) w st = by_three choice_item st
step e (piece.Method i) w st = method_step (method_at e i) st
step e _ w st = Some st

-- what pieces do, with their widths
abbrev pub build : Env → List Piece → List ℕ → List Item → Option (List Item)
build e [] ws st = Some st
build e (p ∷ ps) ws st = option_and_then (build e ps (below ws)) (step e p (top ws) st)
