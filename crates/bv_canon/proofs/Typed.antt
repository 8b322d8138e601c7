-- What the rows of forms give where their parts are typed, with the faults and the terms that then follow.
use Rattle.std.proofs.Common.{◌≡◌, ℕ, ◌+◌, ◌≤◌, max, List, [], ◌∷◌, Option, Some, refl, ap, ap₂, ◌∙◌, arith}
use Rattle.std.proofs.lemmas.Bool.{le-leb}
use Rattle.std.specs.Prelude.{if◌then◌else◌, option_map, option_and_then}
use Rattle.bv_grammar.specs.declared.words.Word.{Word}
use Rattle.bv_expr.specs.declared.ops.Sort.{Sort}
use Rattle.bv_expr.specs.Term.{Term}
use Rattle.bv_limits.specs.Depths.{depth, depths, added}
use Rattle.bv_trees.specs.Trees.{Tree, Trees, name, numeral, literal, constant, prefix, infix_, choice, method, ascribed, no_more, and}
use Rattle.bv_typing.specs.declared.item.Item.TheVariants.{Made}
use Rattle.bv_typing.specs.declared.kind.Kind.{Kind}
use Rattle.bv_typing.specs.declared.kind.Kind.TheVariants as kind
use Rattle.bv_typing.specs.declared.kind.Row.{Row}
use Rattle.bv_typing.specs.declared.kind.Row.TheVariants as row
use Rattle.bv_typing.specs.Rows.{prefix_row, infix_row, choice_row, method_row}
use Rattle.bv_typing.specs.Readings.{Env, method_at, typed, within, judged, kinds, kind_of, item_of}
use Rattle.bv_typing.specs.Goals.{own, all_misfits}

-- what a form that is typed has
pub kind_is : (e : Env) (x : Tree) (k : Kind) → judged e x ≡ Some (row.Typed k) → kind_of e x ≡ Some k
kind_is e x k h = ap typed h

pub own_fits : (i : ℕ) (r : Option Row) (k : Kind) → r ≡ Some (row.Typed k) → own i r ≡ []
own_fits i r k h = ap (own i) h

within_is : (d : ℕ) (r q : Row) → d ≤ 1000 → r ≡ q → within d r ≡ q
within_is d r q h e = ap (λ b. if b then r else row.Fails) (le-leb d 1000 h) ∙ e

pub judged_prefix : (e : Env) (o : Word) (i : ℕ) (x : Tree) (j k : Kind) → kind_of e x ≡ Some j → depth x + 1 ≤ 1000 → prefix_row o j ≡ row.Typed k → judged e (prefix o i x) ≡ Some (row.Typed k)
judged_prefix e o i x j k t d r = ap (option_map (λ j. within (depth x + 1) (prefix_row o j))) t ∙ ap Some (within_is (depth x + 1) _ _ d r)

pub judged_infix : (e : Env) (o : Word) (i : ℕ) (x y : Tree) (j l k : Kind) → kind_of e x ≡ Some j → kind_of e y ≡ Some l → max (depth x) (depth y) + added o ≤ 1000 → infix_row o j l ≡ row.Typed k
    → judged e (infix_ o i x y) ≡ Some (row.Typed k)
judged_infix e o i x y j l k t u d r =
    ap₂ (λ a b. option_and_then (λ k. option_map (λ l. within (max (depth x) (depth y) + added o) (infix_row o k l)) b) a) t u ∙ ap Some (within_is (max (depth x) (depth y) + added o) _ _ d r)

pub judged_choice : (e : Env) (i : ℕ) (x y z : Tree) (c j l k : Kind) → kind_of e x ≡ Some c → kind_of e y ≡ Some j → kind_of e z ≡ Some l → max (depth x) (max (depth y) (depth z)) + 1 ≤ 1000 → choice_row c j l ≡ row.Typed k
    → judged e (choice i x y z) ≡ Some (row.Typed k)
judged_choice e i x y z c j l k t u v d r =
    ap (λ q. option_and_then (λ c. option_and_then (λ k. option_map (λ l. within (max (depth x) (max (depth y) (depth z)) + 1) (choice_row c k l)) (kind_of e z)) (kind_of e y)) q) t
    ∙ ap₂ (λ a b. option_and_then (λ k. option_map (λ l. within (max (depth x) (max (depth y) (depth z)) + 1) (choice_row c k l)) b) a) u v
    ∙ ap Some (within_is (max (depth x) (max (depth y) (depth z)) + 1) _ _ d r)

pub judged_method : (e : Env) (i : ℕ) (x : Tree) (xs : Trees) (j k : Kind) (ls : List Kind) → kind_of e x ≡ Some j → kinds e xs ≡ Some ls → max (depth x) (depths xs) + 1 ≤ 1000 → method_row (method_at e i) j ls ≡ row.Typed k
    → judged e (method i x xs) ≡ Some (row.Typed k)
judged_method e i x xs j k ls t u d r =
    ap₂ (λ a b. option_and_then (λ k. option_map (λ ks. within (max (depth x) (depths xs) + 1) (method_row (method_at e i) k ks)) b) a) t u ∙ ap Some (within_is (max (depth x) (depths xs) + 1) _ _ d r)

pub kinds_one : (e : Env) (y : Tree) (l : Kind) → kind_of e y ≡ Some l → kinds e (and y no_more) ≡ Some (l ∷ [])
kinds_one e y l u = ap (λ q. option_and_then (λ k. option_map (λ ks. k ∷ ks) (Some [])) q) u

-- a term that has a sort is no numeral
pub item_made : (e : Env) (w : ℕ) (x : Tree) (s : Sort) (t : Term) → kind_of e x ≡ Some (kind.Sorted s) → item_of e w x t ≡ Made t
item_made e w (numeral i) s t h = cc
item_made e w (name i) s t h = refl
item_made e w (literal i j) s t h = refl
item_made e w (constant c i) s t h = refl
item_made e w (prefix o i x) s t h = refl
item_made e w (infix_ o i x y) s t h = refl
item_made e w (choice i x y z) s t h = refl
item_made e w (method i x xs) s t h = refl
item_made e w (ascribed i x a) s t h = refl

-- ---- lists of numbers as arguments

-- the numerals from i on, this many
abbrev pub numerals : ℕ → List ℕ → Trees
numerals i [] = no_more
numerals i (n ∷ ns) = and (numeral i) (numerals (i + 1) ns)

pub numerals_fit : (e : Env) (i : ℕ) (ns : List ℕ) → all_misfits e (numerals i ns) ≡ []
numerals_fit e i [] = refl
numerals_fit e i (n ∷ ns) = numerals_fit e (i + 1) ns

pub numerals_deep : (i : ℕ) (ns : List ℕ) → depths (numerals i ns) ≤ 1
numerals_deep i [] = omega arith
numerals_deep i (n ∷ ns) = let h = numerals_deep (i + 1) ns in omega (arith)
