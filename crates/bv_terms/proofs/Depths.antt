-- A term is no deeper than its tree.
use Rattle.std.proofs.Common.{◌≡◌, ℕ, zero, suc, ◌+◌, ◌≤◌, max, Bool, true, false, List, [], ◌∷◌, Option, Some, None, arith, refl}
use Rattle.std.proofs.Math.Nat.{le-max_left, le-max_right, max-le}
use Rattle.std.specs.Prelude.{if◌then◌else◌}
use Rattle.bv_grammar.specs.declared.words.Word.{Word}
use Rattle.bv_grammar.specs.declared.words.Word.TheVariants as words
use Rattle.bv_expr.specs.declared.ops.Sort.{Sort}
use Rattle.bv_expr.specs.declared.ops.Sort.TheVariants.{Truth, Vector}
use Rattle.bv_expr.specs.declared.ops.Binary.{Binary}
use Rattle.bv_expr.specs.Term.{Term, binary, depth}
use Rattle.bv_trees.specs.Trees.{Tree, Trees, name, numeral, literal, prefix, infix_, method, ascribed, no_more, and}
use Rattle.bv_trees.specs.Trees as trees
use Rattle.bv_limits.specs.Depths as of_tree
use Rattle.bv_limits.specs.Depths.{added, depths}
use Rattle.bv_typing.specs.declared.item.Item.{Item}
use Rattle.bv_typing.specs.declared.item.Item.TheVariants.{Number, Made}
use Rattle.bv_typing.specs.declared.kind.Kind.{Kind}
use Rattle.bv_typing.specs.declared.kind.Kind.TheVariants as kind
use Rattle.bv_typing.specs.declared.method.Method.{Method}
use Rattle.bv_typing.specs.declared.method.Method.TheVariants as by_method
use Rattle.bv_typing.specs.Variables.{sort_at}
use Rattle.bv_typing.specs.Rows.{binary_of}
use Rattle.bv_typing.specs.Readings.{Env, variable_at, method_at, kind_of, told_or, right_width, infix_width, either, width_in, width_for, width_of_sort, negated, is_turned, variable_term, constant_term, joined_by, sort_in, infix_term, choice_term, method_term, numeral_item, item_of, term, items}

abbrev pub item_depth : Item → ℕ
item_depth (Number n) = 0
item_depth (Made x) = depth x

abbrev pub items_depth : List Item → ℕ
items_depth [] = 0
items_depth (x ∷ xs) = max (item_depth x) (items_depth xs)

variable_depth : (v : Option (ℕ × Option Sort)) → depth (variable_term v) ≡ 1
variable_depth None = refl
variable_depth (Some (k, None)) = refl
variable_depth (Some (k, Some Truth)) = refl
variable_depth (Some (k, Some (Vector w))) = refl

constant_depth : (c : Word) → depth (constant_term c) ≡ 1
constant_depth words.True = refl
constant_depth words.TrueProposition = refl
constant_depth _ = refl

either_way : (t : Bool) (op : Binary) (x y : Term) → depth (if t then binary op y x else binary op x y) ≤ max (depth x) (depth y) + 1
either_way true op x y = let h : max (depth y) (depth x) ≤ max (depth x) (depth y) = max-le (le-max_right (depth x) (depth y)) (le-max_left (depth x) (depth y)) in omega arith
either_way false op x y = omega arith

negated_depth : (o : Word) (x : Term) (d : ℕ) → depth x ≤ d + 1 → depth (negated o x) ≤ d + added o
negated_depth words.NotEqual x d h = omega arith
negated_depth words.BoolNotEqual x d h = omega arith
negated_depth _ x d h = h

joined_depth : (o : Word) (op : Option Binary) (x y : Term) → depth (joined_by o op x y) ≤ max (depth x) (depth y) + added o
joined_depth o None x y = omega (arith, le-max_left (depth x) (depth y))
joined_depth o (Some op) x y = negated_depth o _ (max (depth x) (depth y)) (either_way (is_turned o) op x y)

one_more : (o : Word) → 1 ≤ added o
one_more words.NotEqual = omega arith
one_more words.BoolNotEqual = omega arith
one_more _ = omega arith

shift_depth : (o : Word) (x y : Term) → depth x + 1 ≤ max (depth x) (depth y) + added o
shift_depth o x y = omega (arith, le-max_left (depth x) (depth y), one_more o)

infix_depth : (o : Word) (k l : Option Kind) (x y : Term) → depth (infix_term o k l x y) ≤ max (depth x) (depth y) + added o
infix_depth words.ShiftLeft k (Some (kind.Number n)) x y = shift_depth words.ShiftLeft x y
infix_depth words.ShiftRight k (Some (kind.Number n)) x y = shift_depth words.ShiftRight x y
infix_depth o k l x y = joined_depth o (binary_of o (sort_in k)) x y

choice_depth : (k : Option Kind) (c x y : Term) → depth (choice_term k c x y) ≤ max (depth c) (max (depth x) (depth y)) + 1
choice_depth (Some (kind.Sorted Truth)) c x y = omega arith
choice_depth _ c x y = omega arith

grown : {a b c d : ℕ} → a ≤ c → b ≤ d → max a b ≤ max c d
grown {c = c} {d = d} h k = max-le (omega (arith, h, le-max_left c d)) (omega (arith, k, le-max_right c d))

with_one : (x y : Term) → max (depth x) (depth y) + 1 ≤ max (depth x) (max (depth y) 0) + 1
with_one x y = let h : max (depth x) (depth y) ≤ max (depth x) (max (depth y) 0) = grown (omega arith) (le-max_left (depth y) 0) in omega arith

alone : (d n : ℕ) → d + 1 ≤ max d n + 1
alone d n = omega (arith, le-max_left d n)

left_out : (d n : ℕ) → d ≤ max d n + 1
left_out d n = omega (arith, le-max_left d n)

method_depth : (m : Option Method) (x : Term) (is : List Item) → depth (method_term m x is) ≤ max (depth x) (items_depth is) + 1
method_depth (Some by_method.Msb) x [] = alone (depth x) 0
method_depth (Some (by_method.With op)) x (Made y ∷ []) = with_one x y
method_depth (Some by_method.ArithmeticShift) x (Made y ∷ []) = with_one x y
method_depth (Some (by_method.By m)) x (Number n ∷ []) = alone (depth x) (max 0 0)
method_depth (Some by_method.Extract) x (Number start ∷ Number len ∷ []) = alone (depth x) (max 0 (max 0 0))
method_depth (Some by_method.ExtractBetween) x (Number high ∷ Number low ∷ []) = alone (depth x) (max 0 (max 0 0))
method_depth _ x is = left_out (depth x) (items_depth is)

numeral_depth : (w n : ℕ) → item_depth (numeral_item w n) ≤ 1
numeral_depth zero n = omega arith
numeral_depth (suc w) n = omega arith

-- the item of a tree is no deeper than the tree, where its term isn't
pub of_depth : (e : Env) (w : ℕ) (x : Tree) (t : Term) → depth t ≤ of_tree.depth x → item_depth (item_of e w x t) ≤ of_tree.depth x
of_depth e w (numeral i) t h = numeral_depth w _
of_depth e w (name i) t h = h
of_depth e w (literal i j) t h = h
of_depth e w (trees.constant c i) t h = h
of_depth e w (prefix o i x) t h = h
of_depth e w (infix_ o i x y) t h = h
of_depth e w (trees.choice i x y z) t h = h
of_depth e w (method i x xs) t h = h
of_depth e w (ascribed i x s) t h = h

mutual
  pub term_depth : (e : Env) (w : ℕ) (t : Tree) → depth (term e w t) ≤ of_tree.depth t
  term_depth e w (name i) = omega (arith, variable_depth (variable_at e i))
  term_depth e w (numeral i) = omega arith
  term_depth e w (literal i j) = omega arith
  term_depth e w (trees.constant c i) = omega (arith, constant_depth c)
  term_depth e w (prefix o i x) = let h : depth (term e w x) ≤ of_tree.depth x = term_depth e w x in omega arith
  term_depth e w (infix_ o i x y) =
      let v = told_or w (infix_width o (kind_of e x) (kind_of e y)) in
      let parts : max (depth (term e v x)) (depth (term e (right_width o v) y)) ≤ max (of_tree.depth x) (of_tree.depth y) = grown (term_depth e v x) (term_depth e (right_width o v) y) in
      let whole : depth (term e w (infix_ o i x y)) ≤ max (depth (term e v x)) (depth (term e (right_width o v) y)) + added o = infix_depth o (kind_of e x) (kind_of e y) (term e v x) (term e (right_width o v) y) in
      omega arith
  term_depth e w (trees.choice i x y z) =
      let v = told_or w (either (width_in (kind_of e y)) (width_in (kind_of e z))) in
      let parts : max (depth (term e w x)) (max (depth (term e v y)) (depth (term e v z))) ≤ max (of_tree.depth x) (max (of_tree.depth y) (of_tree.depth z)) = grown (term_depth e w x) (grown (term_depth e v y) (term_depth e v z)) in
      let whole : depth (term e w (trees.choice i x y z)) ≤ max (depth (term e w x)) (max (depth (term e v y)) (depth (term e v z))) + 1 = choice_depth (kind_of e y) (term e w x) (term e v y) (term e v z) in
      omega arith
  term_depth e w (method i x xs) =
      let v = told_or w (width_for (method_at e i) (kind_of e x)) in
      let parts : max (depth (term e w x)) (items_depth (items e v xs)) ≤ max (of_tree.depth x) (depths xs) = grown (term_depth e w x) (all_depths e v xs) in
      let whole : depth (term e w (method i x xs)) ≤ max (depth (term e w x)) (items_depth (items e v xs)) + 1 = method_depth (method_at e i) (term e w x) (items e v xs) in
      omega arith
  term_depth e w (ascribed i x s) = term_depth e (told_or w (width_of_sort (sort_at e.source s))) x

  pub all_depths : (e : Env) (w : ℕ) (xs : Trees) → items_depth (items e w xs) ≤ depths xs
  all_depths e w no_more = omega arith
  all_depths e w (and x xs) = grown (of_depth e w x (term e w x) (term_depth e w x)) (all_depths e w xs)
