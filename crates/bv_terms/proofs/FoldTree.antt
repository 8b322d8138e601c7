-- The pieces of a typed tree, with the widths at which they are read, put its item on the stack.
use Rattle.std.proofs.Common.{◌≡◌, ℕ, zero, suc, ◌<◌, ◌≤◌, ◌⊎◌, inl, inr, List, [], ◌∷◌, ◌++◌, Option, Some, None, refl, ◌∙◌, ap, subst, arith, append_assoc}
use Rattle.std.specs.Prelude.{nat_lt, option_and_then}
use Rattle.std.proofs.lemmas.Bool.{lt-ltb, cond-true}
use Rattle.bv_value.specs.BitVector.{of_number}
use Rattle.bv_grammar.specs.declared.words.Word.{Word}
use Rattle.bv_expr.specs.declared.ops.Sort.{Sort}
use Rattle.bv_expr.specs.Term.{constant, depth}
use Rattle.bv_trees.specs.declared.pieces.Sort.{Sort as Written}
use Rattle.bv_trees.specs.declared.pieces.Piece.{Piece}
use Rattle.bv_trees.specs.declared.pieces.Piece.TheVariants as piece
use Rattle.bv_trees.specs.Trees.{Tree, Trees, name, numeral, literal, prefix, infix_, method, ascribed, no_more, and}
use Rattle.bv_trees.specs.Trees as trees
use Rattle.bv_trees.specs.Codes.{pieces, arguments}
use Rattle.bv_limits.specs.Depths as of_tree
use Rattle.bv_typing.specs.declared.item.Item.{Item}
use Rattle.bv_typing.specs.declared.item.Item.TheVariants.{Made}
use Rattle.bv_typing.specs.declared.kind.Kind.{Kind}
use Rattle.bv_typing.specs.declared.kind.Kind.TheVariants as kind
use Rattle.bv_typing.specs.Source.{number_at}
use Rattle.bv_typing.specs.Rows.{prefix_row, infix_row, choice_row, method_row}
use Rattle.bv_typing.specs.Variables.{sort_at}
use Rattle.bv_typing.specs.Readings.{Env, variable_at, method_at, kind_in, name_row, kind_of, kinds, ascribed_to, width_in, width_for, width_of_sort, told_or, right_width, infix_width, either, prefix_unary, variable_term, constant_term, numeral_item, term, items, item}
use Rattle.bv_terms.specs.Sorting.{read, Readable, Bounded}
use Rattle.bv_terms.specs.Widths.{widths, all_widths}
use Rattle.bv_terms.specs.Building as b
use Rattle.bv_terms.specs.Building.{checked, unary_item, infix_item, choice_item, variable_item, put, method_step, build}
use Rattle.bv_terms.proofs.Told.{two, three, behind}
use Rattle.bv_terms.proofs.Inverted.{one_part, two_parts, three_parts, ascribed_part, kinds_parts}
use Rattle.bv_terms.proofs.Depths.{term_depth}
use Rattle.bv_terms.proofs.Typed.{sorts, all_fit}
use Rattle.bv_terms.proofs.Built.{Takes, Numbered, shallow, held, Builds}
use Rattle.bv_terms.proofs.FoldParts.{Fitting, takes, has_width, written_width, part_of, reads}
use Rattle.bv_terms.proofs.FoldPrefix.{prefix_part, prefix_made, ascribed_part_read}
use Rattle.bv_terms.proofs.FoldInfix.{infix_made}
use Rattle.bv_terms.proofs.FoldChoice.{choice_made}
use Rattle.bv_terms.proofs.FoldMethod.{onto, AllTake, receiver, method_made}

same_build : {ps qs : List Piece} {ws us : List ℕ} (e : Env) (st : List Item) → ps ≡ qs → ws ≡ us → build e ps ws st ≡ build e qs us st
same_build e st p q = λ i. build e (p i) (q i) st

put_made : (e : Env) (ps : List Piece) (ws : List ℕ) (st : List Item) (o : Option Item) (x : Item) → o ≡ Some x → option_and_then (build e ps ws) (put o st) ≡ build e ps ws (x ∷ st)
put_made e ps ws st o x h = ap (λ q. option_and_then (build e ps ws) (put q st)) h

-- the term of a typed tree has a sort, and isn't deeper than 1,000
fitting : (e : Env) → Bounded e → (t : Tree) (k : Kind) → kind_of e t ≡ Some k → (w : ℕ) → Readable w k → Fitting (term e w t)
fitting e bd t k h w r =
    let d : depth (term e w t) ≤ 1000 = omega (arith, term_depth e w t, shallow e t k h) in
    (read w k, sorts e bd t k h w r, d)

-- ---- leaves

name_made : (v : Option (ℕ × Option Sort)) (k : Kind) → ((n : ℕ) (s : Sort) → v ≡ Some (n, Some s) → n < 64) → kind_in (name_row v) ≡ Some k → checked (variable_term v) ≡ Some (Made (variable_term v))
    → variable_item v ≡ Some (Made (variable_term v))
name_made None k nb h c = cc
name_made (Some (n, None)) k nb h c = cc
name_made (Some (n, Some s)) k nb h c = cond-true (nat_lt n 64) (checked (variable_term (Some (n, Some s)))) None (lt-ltb n 64 (nb n s refl)) ∙ c

number_taken : (n w : ℕ) (k : Kind) → ◌≡◌ {A = Option Kind} (Some (kind.Number n)) (Some k) → Takes w k → (w ≡ 0) ⊎ Readable w k
number_taken n w (kind.Number m) h t = t
number_taken n w (kind.Sorted s) h t = cc
number_taken n w kind.Bare h t = cc

numeral_made : (w n : ℕ) → (w ≡ 0) ⊎ (checked (constant (of_number w n)) ≡ Some (Made (constant (of_number w n)))) → b.numeral_item w n ≡ Some (numeral_item w n)
numeral_made zero n c = refl
numeral_made (suc w) n (inl z) = cc
numeral_made (suc w) n (inr c) = c

one_of : {A B C : Type 0} → (B → C) → A ⊎ B → A ⊎ C
one_of f (inl x) = inl x
one_of f (inr y) = inr (f y)

name_built : (e : Env) → Bounded e → Numbered e → (i : ℕ) → Builds e (name i)
name_built e bd nb i k h w t ps ws st =
    let r = reads e bd (name i) k h (variable_term (variable_at e i)) refl w t in
    put_made e ps ws st (variable_item (variable_at e i)) (Made (variable_term (variable_at e i))) (name_made (variable_at e i) k (nb i) h (held e bd (name i) k h w r))

numeral_built : (e : Env) → Bounded e → (i : ℕ) → Builds e (numeral i)
numeral_built e bd i k h w t ps ws st =
    let n = number_at e.source i in
    put_made e ps ws st (b.numeral_item w n) (numeral_item w n) (numeral_made w n (one_of (held e bd (numeral i) k h w) (number_taken n w k h t)))

literal_built : (e : Env) → Bounded e → (i j : ℕ) → Builds e (literal i j)
literal_built e bd i j k h w t ps ws st =
    let r = reads e bd (literal i j) k h (term e 0 (literal i j)) refl w t in
    put_made e ps ws st (checked (term e w (literal i j))) (Made (term e w (literal i j))) (held e bd (literal i j) k h w r)

constant_built : (e : Env) → Bounded e → (c : Word) (i : ℕ) → Builds e (trees.constant c i)
constant_built e bd c i k h w t ps ws st =
    let r = reads e bd (trees.constant c i) k h (constant_term c) refl w t in
    put_made e ps ws st (checked (constant_term c)) (Made (constant_term c)) (held e bd (trees.constant c i) k h w r)

-- ---- trees of trees

prefix_built : (e : Env) → Bounded e → (o : Word) (i : ℕ) (x : Tree) → Builds e x → Builds e (prefix o i x)
prefix_built e bd o i x hx k h w t ps ws st =
    let f = one_part (prefix_row o) (of_tree.depth (prefix o i x)) (kind_of e x) k h in
    let p = part_of e bd x f.part f.is in
    let r = reads e bd (prefix o i x) k h (term e 0 (prefix o i x)) refl w t in
    let rx = prefix_part o w f.part k f.fits r in
    same_build e st (append_assoc (pieces x) (piece.Prefix o i ∷ []) ps) (append_assoc (widths e w x) (w ∷ []) ws)
    ∙ hx f.part f.is w (takes w f.part rx) (piece.Prefix o i ∷ ps) (w ∷ ws) st
    ∙ put_made e ps ws st (unary_item (prefix_unary o) (item e w x)) (Made (term e w (prefix o i x))) (prefix_made (prefix_unary o) (item e w x) (term e w x) (p.as_made w rx) (fitting e bd (prefix o i x) k h w r))

ascribed_built : (e : Env) → Bounded e → (i : ℕ) (x : Tree) (s : Written) → Builds e x → Builds e (ascribed i x s)
ascribed_built e bd i x s hx k h w t ps ws st =
    let o = sort_at e.source s in
    let v = told_or w (width_of_sort o) in
    let f = ascribed_part (ascribed_to o) (kind_of e x) k h in
    let p = part_of e bd x f.0 f.1 in
    let rx = ascribed_part_read o (written_width e.source s) w f.0 k f.2 in
    same_build e st (append_assoc (pieces x) (piece.Ascribed i s ∷ []) ps) (append_assoc (widths e v x) (w ∷ []) ws)
    ∙ hx f.0 f.1 v (takes v f.0 rx) (piece.Ascribed i s ∷ ps) (w ∷ ws) st
    ∙ ap (λ y. build e ps ws (y ∷ st)) (p.as_made v rx)

infix_built : (e : Env) → Bounded e → (o : Word) (i : ℕ) (x y : Tree) → Builds e x → Builds e y → Builds e (infix_ o i x y)
infix_built e bd o i x y hx hy k h w t ps ws st =
    let v = told_or w (infix_width o (kind_of e x) (kind_of e y)) in
    let u = right_width o v in
    let f = two_parts (infix_row o) (of_tree.depth (infix_ o i x y)) (kind_of e x) (kind_of e y) k h in
    let r = reads e bd (infix_ o i x y) k h (term e 0 (infix_ o i x y)) refl w t in
    let m = infix_made o w (λ a. item e a x) (λ a. item e a y) (λ a. term e a x) (λ a. term e a y) (kind_of e x) (kind_of e y) f.left f.right k f.left_is f.right_is (part_of e bd x f.left f.left_is) (part_of e bd y f.right f.right_is) f.fits r in
    same_build e st (two (pieces x) (pieces y) (piece.Infix o i ∷ []) ps) (two (widths e v x) (widths e u y) (w ∷ []) ws)
    ∙ hx f.left f.left_is v m.left (pieces y ++ (piece.Infix o i ∷ ps)) (widths e u y ++ (w ∷ ws)) st
    ∙ hy f.right f.right_is u m.right (piece.Infix o i ∷ ps) (w ∷ ws) (item e v x ∷ st)
    ∙ put_made e ps ws st (infix_item o (item e v x) (item e u y)) (Made (term e w (infix_ o i x y))) (m.makes (fitting e bd (infix_ o i x y) k h w r))

choice_built : (e : Env) → Bounded e → (i : ℕ) (x y z : Tree) → Builds e x → Builds e y → Builds e z → Builds e (trees.choice i x y z)
choice_built e bd i x y z hx hy hz k h w t ps ws st =
    let v = told_or w (either (width_in (kind_of e y)) (width_in (kind_of e z))) in
    let f = three_parts choice_row (of_tree.depth (trees.choice i x y z)) (kind_of e x) (kind_of e y) (kind_of e z) k h in
    let r = reads e bd (trees.choice i x y z) k h (term e 0 (trees.choice i x y z)) refl w t in
    let m = choice_made w (λ a. item e a x) (λ a. item e a y) (λ a. item e a z) (λ a. term e a x) (λ a. term e a y) (λ a. term e a z) (kind_of e y) (kind_of e z) f.test f.left f.right k f.left_is f.right_is
    (part_of e bd x f.test f.test_is) (part_of e bd y f.left f.left_is) (part_of e bd z f.right f.right_is) f.fits r in
    same_build e st (three (pieces x) (pieces y) (pieces z) (piece.Choice i ∷ []) ps) (three (widths e w x) (widths e v y) (widths e v z) (w ∷ []) ws)
    ∙ hx f.test f.test_is w (takes w f.test m.test) (pieces y ++ (pieces z ++ (piece.Choice i ∷ ps))) (widths e v y ++ (widths e v z ++ (w ∷ ws))) st
    ∙ hy f.left f.left_is v (takes v f.left m.left) (pieces z ++ (piece.Choice i ∷ ps)) (widths e v z ++ (w ∷ ws)) (item e w x ∷ st)
    ∙ hz f.right f.right_is v (takes v f.right m.right) (piece.Choice i ∷ ps) (w ∷ ws) (item e v y ∷ item e w x ∷ st)
    ∙ put_made e ps ws st (choice_item (item e w x) (item e v y) (item e v z)) (Made (term e w (trees.choice i x y z))) (m.makes (fitting e bd (trees.choice i x y z) k h w r))

-- ---- methods

-- arguments put their items one by one
abbrev pub AllBuild : Env → Trees → Type 0
AllBuild e xs = (ks : List Kind) → kinds e xs ≡ Some ks → (v : ℕ) → AllTake v ks → (ps : List Piece) (ws : List ℕ) (st : List Item) → build e (arguments xs ++ ps) (all_widths e v xs ++ ws) st ≡ build e ps ws (onto (items e v xs) st)

more_built : (e : Env) (x : Tree) (xs : Trees) → Builds e x → AllBuild e xs → AllBuild e (and x xs)
more_built e x xs hx hs ks h v t ps ws st =
    let f = kinds_parts (kind_of e x) (kinds e xs) ks h in
    let a = subst (AllTake v) f.4 t in
    same_build e st (append_assoc (pieces x) (arguments xs) ps) (append_assoc (widths e v x) (all_widths e v xs) ws)
    ∙ hx f.0 f.2 v a.0 (arguments xs ++ ps) (all_widths e v xs ++ ws) st
    ∙ hs f.1 f.3 v a.1 ps ws (item e v x ∷ st)

method_built : (e : Env) → Bounded e → (i : ℕ) (x : Tree) (xs : Trees) → Builds e x → AllBuild e xs → Builds e (method i x xs)
method_built e bd i x xs hx hs k h w t ps ws st =
    let n = method_at e i in
    let v = told_or w (width_for n (kind_of e x)) in
    let f = two_parts (method_row n) (of_tree.depth (method i x xs)) (kind_of e x) (kinds e xs) k h in
    let p = part_of e bd x f.left f.left_is in
    let r = reads e bd (method i x xs) k h (term e 0 (method i x xs)) refl w t in
    let rx = receiver n w f.left f.right k f.fits in
    let m = method_made n w (term e w x) (λ a. items e a xs) (kind_of e x) f.left f.right k f.left_is (has_width (λ a. term e a x) f.left p.sorts) f.fits (all_fit e bd xs f.right f.right_is) in
    same_build e st (behind (pieces x) (piece.Call i) (arguments xs) (piece.Method i ∷ []) ps) (behind (widths e w x) w (all_widths e v xs) (w ∷ []) ws)
    ∙ hx f.left f.left_is w (takes w f.left rx) (piece.Call i ∷ (arguments xs ++ (piece.Method i ∷ ps))) (w ∷ (all_widths e v xs ++ (w ∷ ws))) st
    ∙ hs f.right f.right_is v m.all_take (piece.Method i ∷ ps) (w ∷ ws) (item e w x ∷ st)
    ∙ ap (λ y. option_and_then (build e ps ws) (method_step n (onto (items e v xs) (y ∷ st)))) (p.as_made w rx)
    ∙ ap (option_and_then (build e ps ws)) (m.makes st (fitting e bd (method i x xs) k h w r))

-- ---- all trees

mutual
  pub built_tree : (e : Env) → Bounded e → Numbered e → (t : Tree) → Builds e t
  built_tree e bd nb (name i) = name_built e bd nb i
  built_tree e bd nb (numeral i) = numeral_built e bd i
  built_tree e bd nb (literal i j) = literal_built e bd i j
  built_tree e bd nb (trees.constant c i) = constant_built e bd c i
  built_tree e bd nb (prefix o i x) = prefix_built e bd o i x (built_tree e bd nb x)
  built_tree e bd nb (infix_ o i x y) = infix_built e bd o i x y (built_tree e bd nb x) (built_tree e bd nb y)
  built_tree e bd nb (trees.choice i x y z) = choice_built e bd i x y z (built_tree e bd nb x) (built_tree e bd nb y) (built_tree e bd nb z)
  built_tree e bd nb (method i x xs) = method_built e bd i x xs (built_tree e bd nb x) (all_built e bd nb xs)
  built_tree e bd nb (ascribed i x s) = ascribed_built e bd i x s (built_tree e bd nb x)

  pub all_built : (e : Env) → Bounded e → Numbered e → (xs : Trees) → AllBuild e xs
  all_built e bd nb no_more = λ ks h v t ps ws st. refl
  all_built e bd nb (and x xs) = more_built e x xs (built_tree e bd nb x) (all_built e bd nb xs)
