-- The pieces of a typed tree, with their widths, put its item on the stack.
use Rattle.std.proofs.Common.{◌≡◌, ℕ, ◌<◌, ◌≤◌, ◌&&◌, ◌⊎◌, inr, List, ◌∷◌, ◌++◌, Option, Some, None, sym, ◌∙◌, ap, subst, arith}
use Rattle.std.specs.Prelude.{nat_le, is_some, if◌then◌else◌, option_and_then}
use Rattle.std.proofs.lemmas.Bool.{and_from, le-leb, cond-true}
use Rattle.std.proofs.lemmas.Option.{option_and_then_some}
use Rattle.bv_grammar.specs.declared.words.Word.{Word}
use Rattle.bv_grammar.specs.declared.words.Word.TheVariants as words
use Rattle.bv_expr.specs.declared.ops.Sort.{Sort}
use Rattle.bv_expr.specs.declared.ops.Unary.TheVariants as of
use Rattle.bv_expr.specs.declared.ops.Binary.{Binary}
use Rattle.bv_expr.specs.Term.{Term, unary, binary, depth}
use Rattle.bv_expr.specs.Sorts.{unary_sort, sort_of}
use Rattle.bv_trees.specs.declared.pieces.Piece.{Piece}
use Rattle.bv_trees.specs.Trees.{Tree, Trees, name, numeral, literal, prefix, infix_, method, ascribed, no_more, and}
use Rattle.bv_trees.specs.Trees as trees
use Rattle.bv_trees.specs.Codes.{pieces}
use Rattle.bv_limits.specs.Depths as of_tree
use Rattle.bv_typing.specs.declared.item.Item.{Item}
use Rattle.bv_typing.specs.declared.item.Item.TheVariants.{Made}
use Rattle.bv_typing.specs.declared.kind.Kind.{Kind}
use Rattle.bv_typing.specs.declared.kind.Kind.TheVariants as kind
use Rattle.bv_typing.specs.Rows.{prefix_row, binary_of, infix_row, choice_row, method_row}
use Rattle.bv_typing.specs.Variables.{sort_at}
use Rattle.bv_typing.specs.Readings.{Env, variable_at, method_at, kind_of, kinds, ascribed_to, negated, is_turned, sort_in, joined_by, joined, term, item}
use Rattle.bv_terms.specs.Sorting.{IsWidth, read, Readable, Bounded}
use Rattle.bv_terms.specs.Widths.{widths}
use Rattle.bv_terms.specs.Building.{checked, negated_item, joined_item, infix_item, unary_item, put, build}
use Rattle.bv_terms.proofs.Inverted.{one_part, two_parts, three_parts, ascribed_part}
use Rattle.bv_terms.proofs.Depths.{term_depth}
use Rattle.bv_terms.proofs.Typed.{sorts}

-- a number is read at no width, or at one
abbrev pub Takes : ℕ → Kind → Type 0
Takes w (kind.Sorted s) = Unit {0}
Takes w kind.Bare = IsWidth w
Takes w (kind.Number n) = (w ≡ 0) ⊎ IsWidth w

takes : (w : ℕ) (k : Kind) → Readable w k → Takes w k
takes w (kind.Sorted s) r = tt
takes w kind.Bare r = r
takes w (kind.Number n) r = inr r

-- the variables' numbers are below 64
abbrev pub Numbered : Env → Type 0
Numbered e = (i k : ℕ) (s : Sort) → variable_at e i ≡ Some (k, Some s) → k < 64

pub checked_made : (t : Term) (s : Sort) → sort_of t ≡ Some s → depth t ≤ 1000 → checked t ≡ Some (Made t)
checked_made t s h d = cond-true (is_some (sort_of t) && nat_le (depth t) 1000) (Some (Made t)) None (and_from (is_some (sort_of t)) (nat_le (depth t) 1000) (ap is_some h) (le-leb (depth t) 1000 d))

not_made : (z : Term) (r : Sort) → sort_of (unary of.TNot z) ≡ Some r → depth (unary of.TNot z) ≤ 1000 → option_and_then (unary_item of.TNot) (checked z) ≡ Some (Made (unary of.TNot z))
not_made z r h d =
    option_and_then_some (unary_sort of.TNot) (sort_of z) r h
    (λ s e f. ap (option_and_then (unary_item of.TNot)) (checked_made z s e (omega arith)) ∙ checked_made (unary of.TNot z) r h d)

negated_made : (o : Word) (z : Term) (r : Sort) → sort_of (negated o z) ≡ Some r → depth (negated o z) ≤ 1000 → negated_item o (checked z) ≡ Some (Made (negated o z))
negated_made words.NotEqual z r h d = not_made z r h d
negated_made words.BoolNotEqual z r h d = not_made z r h d
negated_made _ z r h d = checked_made z r h d

joined_made : (o : Word) (j : Kind) (op : Binary) (v : ℕ) (x y : Term) (r : Sort) → sort_of x ≡ Some (read v j) → binary_of o (read v j) ≡ Some op → binary_of o (sort_in (Some j)) ≡ Some op
    → sort_of (joined o (Some j) x y) ≡ Some r → depth (joined o (Some j) x y) ≤ 1000 → infix_item o (Made x) (Made y) ≡ Some (Made (joined o (Some j) x y))
joined_made o j op v x y r hx e f h d =
    ap (λ s. joined_item o (option_and_then (binary_of o) s) x y) hx ∙ ap (λ q. joined_item o q x y) e
    ∙ negated_made o (if is_turned o then binary op y x else binary op x y) r (ap (λ q. sort_of (joined_by o q x y)) (sym f) ∙ h) (subst (λ q. depth (joined_by o q x y) ≤ 1000) f d)
    ∙ ap (λ q. Some (Made (joined_by o q x y))) (sym f)

-- a typed tree is at most 1,000 deep
pub shallow : (e : Env) (t : Tree) (k : Kind) → kind_of e t ≡ Some k → of_tree.depth t ≤ 1000
shallow e (name i) k h = omega arith
shallow e (numeral i) k h = omega arith
shallow e (literal i j) k h = omega arith
shallow e (trees.constant c i) k h = omega arith
shallow e (prefix o i x) k h = let p = one_part (prefix_row o) (of_tree.depth (prefix o i x)) (kind_of e x) k h in p.shallow
shallow e (infix_ o i x y) k h = let p = two_parts (infix_row o) (of_tree.depth (infix_ o i x y)) (kind_of e x) (kind_of e y) k h in p.shallow
shallow e (ascribed i x s) k h = let p = ascribed_part (ascribed_to (sort_at e.source s)) (kind_of e x) k h in shallow e x p.0 p.1
shallow e (trees.choice i x y z) k h = let p = three_parts choice_row (of_tree.depth (trees.choice i x y z)) (kind_of e x) (kind_of e y) (kind_of e z) k h in p.shallow
shallow e (method i x xs) k h = let p = two_parts (method_row (method_at e i)) (of_tree.depth (method i x xs)) (kind_of e x) (kinds e xs) k h in p.shallow

-- its term can be held
pub held : (e : Env) → Bounded e → (t : Tree) (k : Kind) → kind_of e t ≡ Some k → (w : ℕ) → Readable w k → checked (term e w t) ≡ Some (Made (term e w t))
held e bd t k h w r =
    let d : depth (term e w t) ≤ 1000 = omega (arith, term_depth e w t, shallow e t k h) in
    checked_made (term e w t) (read w k) (sorts e bd t k h w r) d

same_build : {ps qs : List Piece} {ws us : List ℕ} (e : Env) (st : List Item) → ps ≡ qs → ws ≡ us → build e ps ws st ≡ build e qs us st
same_build e st p q = λ i. build e (p i) (q i) st

put_made : (e : Env) (ps : List Piece) (ws : List ℕ) (st : List Item) (o : Option Item) (x : Item) → o ≡ Some x → option_and_then (build e ps ws) (put o st) ≡ build e ps ws (x ∷ st)
put_made e ps ws st o x h = ap (λ q. option_and_then (build e ps ws) (put q st)) h

-- what the pieces of a typed tree do, with their widths
abbrev pub Builds : Env → Tree → Type 0
Builds e t = (k : Kind) → kind_of e t ≡ Some k → (w : ℕ) → Takes w k → (ps : List Piece) (ws : List ℕ) (st : List Item) → build e (pieces t ++ ps) (widths e w t ++ ws) st ≡ build e ps ws (item e w t ∷ st)
