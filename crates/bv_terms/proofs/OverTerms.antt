-- The variables of a tree's term are variables of its goal.
use Rattle.std.proofs.Common.{◌≡◌, ℕ, zero, suc, Bool, true, false, List, [], ◌∷◌, ◌++◌, Option, Some, None, refl}
use Rattle.std.specs.Prelude.{All, if◌then◌else◌}
use Rattle.std.proofs.lemmas.List.Elements.{All-nil, All-cons, All-append}
use Rattle.bv_grammar.specs.declared.words.Word.{Word}
use Rattle.bv_grammar.specs.declared.words.Word.TheVariants as words
use Rattle.bv_expr.specs.declared.ops.Sort.{Sort}
use Rattle.bv_expr.specs.declared.ops.Sort.TheVariants.{Truth, Vector}
use Rattle.bv_expr.specs.declared.ops.Binary.{Binary}
use Rattle.bv_expr.specs.Term.{Term, binary}
use Rattle.bv_expr.specs.Goal.{variables}
use Rattle.bv_trees.specs.Trees.{Tree, Trees, name, numeral, literal, prefix, infix_, method, ascribed, no_more, and}
use Rattle.bv_trees.specs.Trees as trees
use Rattle.bv_typing.specs.declared.item.Item.{Item}
use Rattle.bv_typing.specs.declared.item.Item.TheVariants.{Number, Made}
use Rattle.bv_typing.specs.declared.kind.Kind.{Kind}
use Rattle.bv_typing.specs.declared.kind.Kind.TheVariants as kind
use Rattle.bv_typing.specs.declared.method.Method.{Method}
use Rattle.bv_typing.specs.declared.method.Method.TheVariants as by_method
use Rattle.bv_typing.specs.Source.{number_at}
use Rattle.bv_typing.specs.Rows.{binary_of}
use Rattle.bv_typing.specs.Variables.{sort_at}
use Rattle.bv_typing.specs.Readings.{Env, variable_at, method_at, kind_of, told_or, right_width, infix_width, either, width_in, width_for, width_of_sort, negated, is_turned, variable_term, constant_term, sort_in, joined_by, infix_term, choice_term, method_term, numeral_item, item_of, term, items}

-- a property of variables, numbers with sorts
abbrev Property : Type 1
Property = ℕ × Sort → Type 0

abbrev Over : Property → Term → Type 0
Over P t = All P (variables t)

-- it holds of those that an environment gives
abbrev pub Given : (ℕ × Sort → Type 0) → Env → Type 0
Given P e = (i k : ℕ) (s : Sort) → variable_at e i ≡ Some (k, Some s) → P (k, s)

abbrev pub ItemOver : (ℕ × Sort → Type 0) → Item → Type 0
ItemOver P (Number n) = Unit {0}
ItemOver P (Made x) = All P (variables x)

abbrev pub ItemsOver : (ℕ × Sort → Type 0) → List Item → Type 0
ItemsOver P [] = Unit {0}
ItemsOver P (x ∷ xs) = ItemOver P x × ItemsOver P xs

variable_over : (P : Property) (v : Option (ℕ × Option Sort)) → ((k : ℕ) (s : Sort) → v ≡ Some (k, Some s) → P (k, s)) → Over P (variable_term v)
variable_over P None h = All-nil P
variable_over P (Some (k, None)) h = All-nil P
variable_over P (Some (k, Some Truth)) h = All-cons P (k, Truth) [] (h k Truth refl) (All-nil P)
variable_over P (Some (k, Some (Vector w))) h = All-cons P (k, Vector w) [] (h k (Vector w) refl) (All-nil P)

constant_over : (P : Property) (c : Word) → Over P (constant_term c)
constant_over P words.True = All-nil P
constant_over P words.TrueProposition = All-nil P
constant_over P _ = All-nil P

both_over : (P : Property) (x y : Term) → Over P x → Over P y → All P (variables x ++ variables y)
both_over P x y h k = All-append P (variables x) (variables y) h k

either_over : (P : Property) (t : Bool) (op : Binary) (x y : Term) → Over P x → Over P y → Over P (if t then binary op y x else binary op x y)
either_over P true op x y h k = both_over P y x k h
either_over P false op x y h k = both_over P x y h k

negated_over : (P : Property) (o : Word) (x : Term) → Over P x → Over P (negated o x)
negated_over P words.NotEqual x h = h
negated_over P words.BoolNotEqual x h = h
negated_over P _ x h = h

joined_over : (P : Property) (o : Word) (op : Option Binary) (x y : Term) → Over P x → Over P y → Over P (joined_by o op x y)
joined_over P o None x y h k = h
joined_over P o (Some op) x y h k = negated_over P o (if is_turned o then binary op y x else binary op x y) (either_over P (is_turned o) op x y h k)

infix_over : (P : Property) (o : Word) (j l : Option Kind) (x y : Term) → Over P x → Over P y → Over P (infix_term o j l x y)
infix_over P words.ShiftLeft j (Some (kind.Number n)) x y h k = h
infix_over P words.ShiftRight j (Some (kind.Number n)) x y h k = h
infix_over P o j l x y h k = joined_over P o (binary_of o (sort_in j)) x y h k

three_over : (P : Property) (c x y : Term) → Over P c → Over P x → Over P y → All P (variables c ++ (variables x ++ variables y))
three_over P c x y g h k = All-append P (variables c) (variables x ++ variables y) g (both_over P x y h k)

choice_over : (P : Property) (j : Option Kind) (c x y : Term) → Over P c → Over P x → Over P y → Over P (choice_term j c x y)
choice_over P (Some (kind.Sorted Truth)) c x y g h k = three_over P c x y g h k
choice_over P _ c x y g h k = three_over P c x y g h k

method_over : (P : Property) (m : Option Method) (x : Term) (is : List Item) → Over P x → ItemsOver P is → Over P (method_term m x is)
method_over P (Some by_method.Msb) x [] h k = h
method_over P (Some (by_method.With op)) x (Made y ∷ []) h k = both_over P x y h k.0
method_over P (Some by_method.ArithmeticShift) x (Made y ∷ []) h k = both_over P x y h k.0
method_over P (Some (by_method.By m)) x (Number n ∷ []) h k = h
method_over P (Some by_method.Extract) x (Number start ∷ Number len ∷ []) h k = h
method_over P (Some by_method.ExtractBetween) x (Number high ∷ Number low ∷ []) h k = h
method_over P _ x is h k = h

numeral_over : (P : Property) (w n : ℕ) → ItemOver P (numeral_item w n)
numeral_over P zero n = tt
numeral_over P (suc w) n = All-nil P

item_over : (P : Property) (e : Env) (w : ℕ) (x : Tree) (t : Term) → Over P t → ItemOver P (item_of e w x t)
item_over P e w (numeral i) t h = numeral_over P w (number_at e.source i)
item_over P e w (name i) t h = h
item_over P e w (literal i j) t h = h
item_over P e w (trees.constant c i) t h = h
item_over P e w (prefix o i x) t h = h
item_over P e w (infix_ o i x y) t h = h
item_over P e w (trees.choice i x y z) t h = h
item_over P e w (method i x xs) t h = h
item_over P e w (ascribed i x s) t h = h

mutual
  -- what holds of the variables of an environment holds of those of every term that is read there
  pub term_over : (P : ℕ × Sort → Type 0) (e : Env) → Given P e → (w : ℕ) (t : Tree) → All P (variables (term e w t))
  term_over P e g w (name i) = variable_over P (variable_at e i) (g i)
  term_over P e g w (numeral i) = All-nil P
  term_over P e g w (literal i j) = All-nil P
  term_over P e g w (trees.constant c i) = constant_over P c
  term_over P e g w (prefix o i x) = term_over P e g w x
  term_over P e g w (infix_ o i x y) =
      let v = told_or w (infix_width o (kind_of e x) (kind_of e y)) in
      infix_over P o (kind_of e x) (kind_of e y) (term e v x) (term e (right_width o v) y) (term_over P e g v x) (term_over P e g (right_width o v) y)
  term_over P e g w (trees.choice i x y z) =
      let v = told_or w (either (width_in (kind_of e y)) (width_in (kind_of e z))) in
      choice_over P (kind_of e y) (term e w x) (term e v y) (term e v z) (term_over P e g w x) (term_over P e g v y) (term_over P e g v z)
  term_over P e g w (method i x xs) =
      let v = told_or w (width_for (method_at e i) (kind_of e x)) in
      method_over P (method_at e i) (term e w x) (items e v xs) (term_over P e g w x) (items_over P e g v xs)
  term_over P e g w (ascribed i x s) = term_over P e g (told_or w (width_of_sort (sort_at e.source s))) x

  pub items_over : (P : ℕ × Sort → Type 0) (e : Env) → Given P e → (w : ℕ) (xs : Trees) → ItemsOver P (items e w xs)
  items_over P e g w no_more = tt
  items_over P e g w (and x xs) = (item_over P e w x (term e w x) (term_over P e g w x), items_over P e g w xs)
