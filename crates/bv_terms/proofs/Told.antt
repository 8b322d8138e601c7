-- The widths that are found backward are those of the tree.
use Rattle.std.proofs.Common.{◌≡◌, ℕ, zero, suc, List, [], ◌∷◌, ◌++◌, refl, sym, ap, ◌∙◌, append_assoc}
use Rattle.bv_trees.specs.declared.pieces.Piece.{Piece}
use Rattle.bv_trees.specs.declared.pieces.Piece.TheVariants as piece
use Rattle.bv_trees.specs.Trees.{Tree, Trees, name, numeral, literal, prefix, infix_, method, ascribed, no_more, and}
use Rattle.bv_trees.specs.Trees as trees
use Rattle.bv_trees.specs.Codes.{pieces, arguments}
use Rattle.bv_typing.specs.declared.note.Note.{Note}
use Rattle.bv_typing.specs.Stacks.{top, below}
use Rattle.bv_typing.specs.Variables.{sort_at}
use Rattle.bv_typing.specs.Readings.{Env, kind_of, method_at, told_or, right_width, infix_width, either, width_in, width_for, width_of_sort}
use Rattle.bv_typing.specs.Notes.{nothing, tells, number_of, notes, all_notes}
use Rattle.bv_terms.specs.Widths.{widths, all_widths, many, told, found}

same_told : {ps qs : List Piece} {ns ms : List Note} (ws : List ℕ) → ps ≡ qs → ns ≡ ms → told ps ns ws ≡ told qs ms ws
same_told ws p n = λ i. told (p i) (n i) ws

same_found : {ps qs : List Piece} {ns ms : List Note} (ws : List ℕ) → ps ≡ qs → ns ≡ ms → found ps ns ws ≡ found qs ms ws
same_found ws p n = λ i. found (p i) (n i) ws

pub two : {A : Type 0} (a b c d : List A) → (a ++ (b ++ c)) ++ d ≡ a ++ (b ++ (c ++ d))
two a b c d = append_assoc a (b ++ c) d ∙ ap (λ z. a ++ z) (append_assoc b c d)

pub three : {A : Type 0} (a b c d f : List A) → (a ++ (b ++ (c ++ d))) ++ f ≡ a ++ (b ++ (c ++ (d ++ f)))
three a b c d f = append_assoc a (b ++ (c ++ d)) f ∙ ap (λ z. a ++ z) (two b c d f)

pub behind : {A : Type 0} (a : List A) (c : A) (b d f : List A) → (a ++ (c ∷ (b ++ d))) ++ f ≡ a ++ (c ∷ (b ++ (d ++ f)))
behind a c b d f = append_assoc a (c ∷ (b ++ d)) f ∙ ap (λ z. a ++ (c ∷ z)) (append_assoc b d f)

-- below so many
abbrev belows : ℕ → List ℕ → List ℕ
belows zero ws = ws
belows (suc n) ws = below (belows n ws)

belows_many : (n v : ℕ) (ws : List ℕ) → belows n (many n v ws) ≡ ws
belows_many zero v ws = refl
belows_many (suc n) v ws = ap below (belows_many n v (v ∷ ws))

mutual
  -- a tree takes one width
  pub told_tree : (e : Env) (t : Tree) (ps : List Piece) (ns : List Note) (ws : List ℕ) → told (pieces t ++ ps) (notes e t ++ ns) ws ≡ below (told ps ns ws)
  told_tree e (name i) ps ns ws = refl
  told_tree e (numeral i) ps ns ws = refl
  told_tree e (literal i j) ps ns ws = refl
  told_tree e (trees.constant c i) ps ns ws = refl
  told_tree e (prefix o i x) ps ns ws =
      same_told ws (append_assoc (pieces x) (piece.Prefix o i ∷ []) ps) (append_assoc (notes e x) (nothing ∷ []) ns) ∙ told_tree e x (piece.Prefix o i ∷ ps) (nothing ∷ ns) ws
  told_tree e (infix_ o i x y) ps ns ws =
      let n : Note = tells (infix_width o (kind_of e x) (kind_of e y)) in
      same_told ws (two (pieces x) (pieces y) (piece.Infix o i ∷ []) ps) (two (notes e x) (notes e y) (n ∷ []) ns)
      ∙ told_tree e x (pieces y ++ (piece.Infix o i ∷ ps)) (notes e y ++ (n ∷ ns)) ws
      ∙ ap below (told_tree e y (piece.Infix o i ∷ ps) (n ∷ ns) ws)
  told_tree e (trees.choice i x y z) ps ns ws =
      let n : Note = tells (either (width_in (kind_of e y)) (width_in (kind_of e z))) in
      same_told ws (three (pieces x) (pieces y) (pieces z) (piece.Choice i ∷ []) ps) (three (notes e x) (notes e y) (notes e z) (n ∷ []) ns)
      ∙ told_tree e x (pieces y ++ (pieces z ++ (piece.Choice i ∷ ps))) (notes e y ++ (notes e z ++ (n ∷ ns))) ws
      ∙ ap below (told_tree e y (pieces z ++ (piece.Choice i ∷ ps)) (notes e z ++ (n ∷ ns)) ws)
      ∙ ap (λ s. below (below s)) (told_tree e z (piece.Choice i ∷ ps) (n ∷ ns) ws)
  told_tree e (method i x xs) ps ns ws =
      let v = width_for (method_at e i) (kind_of e x) in
      let n : Note = record { width = v; arguments = number_of xs } in
      same_told ws (behind (pieces x) (piece.Call i) (arguments xs) (piece.Method i ∷ []) ps) (behind (notes e x) nothing (all_notes e xs) (n ∷ []) ns)
      ∙ told_tree e x (piece.Call i ∷ (arguments xs ++ (piece.Method i ∷ ps))) (nothing ∷ (all_notes e xs ++ (n ∷ ns))) ws
      ∙ ap below (told_all e xs (piece.Method i ∷ ps) (n ∷ ns) ws ∙ belows_many (number_of xs) (told_or (top (told ps ns ws)) v) (top (told ps ns ws) ∷ below (told ps ns ws)))
  told_tree e (ascribed i x s) ps ns ws =
      let n : Note = tells (width_of_sort (sort_at e.source s)) in
      same_told ws (append_assoc (pieces x) (piece.Ascribed i s ∷ []) ps) (append_assoc (notes e x) (n ∷ []) ns) ∙ told_tree e x (piece.Ascribed i s ∷ ps) (n ∷ ns) ws

  -- and arguments one each
  pub told_all : (e : Env) (xs : Trees) (ps : List Piece) (ns : List Note) (ws : List ℕ) → told (arguments xs ++ ps) (all_notes e xs ++ ns) ws ≡ belows (number_of xs) (told ps ns ws)
  told_all e no_more ps ns ws = refl
  told_all e (and x xs) ps ns ws =
      same_told ws (append_assoc (pieces x) (arguments xs) ps) (append_assoc (notes e x) (all_notes e xs) ns)
      ∙ told_tree e x (arguments xs ++ ps) (all_notes e xs ++ ns) ws
      ∙ ap below (told_all e xs ps ns ws)

mutual
  pub found_tree : (e : Env) (t : Tree) (w : ℕ) (ps : List Piece) (ns : List Note) (ws : List ℕ) → top (told ps ns ws) ≡ w → found (pieces t ++ ps) (notes e t ++ ns) ws ≡ widths e w t ++ found ps ns ws
  found_tree e (name i) w ps ns ws h = ap (λ v. v ∷ found ps ns ws) h
  found_tree e (numeral i) w ps ns ws h = ap (λ v. v ∷ found ps ns ws) h
  found_tree e (literal i j) w ps ns ws h = ap (λ v. v ∷ found ps ns ws) h
  found_tree e (trees.constant c i) w ps ns ws h = ap (λ v. v ∷ found ps ns ws) h
  found_tree e (prefix o i x) w ps ns ws h =
      same_found ws (append_assoc (pieces x) (piece.Prefix o i ∷ []) ps) (append_assoc (notes e x) (nothing ∷ []) ns)
      ∙ found_tree e x w (piece.Prefix o i ∷ ps) (nothing ∷ ns) ws h
      ∙ ap (λ v. widths e w x ++ (v ∷ found ps ns ws)) h
      ∙ sym (append_assoc (widths e w x) (w ∷ []) (found ps ns ws))
  found_tree e (infix_ o i x y) w ps ns ws h =
      let u = infix_width o (kind_of e x) (kind_of e y) in
      let n : Note = tells u in
      let v = told_or w u in
      same_found ws (two (pieces x) (pieces y) (piece.Infix o i ∷ []) ps) (two (notes e x) (notes e y) (n ∷ []) ns)
      ∙ found_tree e x v (pieces y ++ (piece.Infix o i ∷ ps)) (notes e y ++ (n ∷ ns)) ws (ap top (told_tree e y (piece.Infix o i ∷ ps) (n ∷ ns) ws) ∙ ap (λ a. told_or a u) h)
      ∙ ap (λ r. widths e v x ++ r) (found_tree e y (right_width o v) (piece.Infix o i ∷ ps) (n ∷ ns) ws (ap (λ a. right_width o (told_or a u)) h))
      ∙ ap (λ a. widths e v x ++ (widths e (right_width o v) y ++ (a ∷ found ps ns ws))) h
      ∙ sym (two (widths e v x) (widths e (right_width o v) y) (w ∷ []) (found ps ns ws))
  found_tree e (trees.choice i x y z) w ps ns ws h =
      let u = either (width_in (kind_of e y)) (width_in (kind_of e z)) in
      let n : Note = tells u in
      let v = told_or w u in
      same_found ws (three (pieces x) (pieces y) (pieces z) (piece.Choice i ∷ []) ps) (three (notes e x) (notes e y) (notes e z) (n ∷ []) ns)
      ∙ found_tree e x w (pieces y ++ (pieces z ++ (piece.Choice i ∷ ps))) (notes e y ++ (notes e z ++ (n ∷ ns))) ws
      (ap top (told_tree e y (pieces z ++ (piece.Choice i ∷ ps)) (notes e z ++ (n ∷ ns)) ws ∙ ap below (told_tree e z (piece.Choice i ∷ ps) (n ∷ ns) ws)) ∙ h)
      ∙ ap (λ r. widths e w x ++ r) (found_tree e y v (pieces z ++ (piece.Choice i ∷ ps)) (notes e z ++ (n ∷ ns)) ws (ap top (told_tree e z (piece.Choice i ∷ ps) (n ∷ ns) ws) ∙ ap (λ a. told_or a u) h))
      ∙ ap (λ r. widths e w x ++ (widths e v y ++ r)) (found_tree e z v (piece.Choice i ∷ ps) (n ∷ ns) ws (ap (λ a. told_or a u) h))
      ∙ ap (λ a. widths e w x ++ (widths e v y ++ (widths e v z ++ (a ∷ found ps ns ws)))) h
      ∙ sym (three (widths e w x) (widths e v y) (widths e v z) (w ∷ []) (found ps ns ws))
  found_tree e (method i x xs) w ps ns ws h =
      let u = width_for (method_at e i) (kind_of e x) in
      let n : Note = record { width = u; arguments = number_of xs } in
      let v = told_or w u in
      let r = below (told ps ns ws) in
      let all : told (piece.Method i ∷ ps) (n ∷ ns) ws ≡ many (number_of xs) v (w ∷ r) = ap (λ a. many (number_of xs) (told_or a u) (a ∷ r)) h in
      let under : told (arguments xs ++ (piece.Method i ∷ ps)) (all_notes e xs ++ (n ∷ ns)) ws ≡ w ∷ r =
      told_all e xs (piece.Method i ∷ ps) (n ∷ ns) ws ∙ ap (belows (number_of xs)) all ∙ belows_many (number_of xs) v (w ∷ r) in
      same_found ws (behind (pieces x) (piece.Call i) (arguments xs) (piece.Method i ∷ []) ps) (behind (notes e x) nothing (all_notes e xs) (n ∷ []) ns)
      ∙ found_tree e x w (piece.Call i ∷ (arguments xs ++ (piece.Method i ∷ ps))) (nothing ∷ (all_notes e xs ++ (n ∷ ns))) ws (ap top under)
      ∙ ap (λ a. widths e w x ++ (a ∷ found (arguments xs ++ (piece.Method i ∷ ps)) (all_notes e xs ++ (n ∷ ns)) ws)) (ap top under)
      ∙ ap (λ a. widths e w x ++ (w ∷ a)) (found_all e xs v (w ∷ r) (piece.Method i ∷ ps) (n ∷ ns) ws all)
      ∙ ap (λ a. widths e w x ++ (w ∷ (all_widths e v xs ++ (a ∷ found ps ns ws)))) h
      ∙ sym (behind (widths e w x) w (all_widths e v xs) (w ∷ []) (found ps ns ws))
  found_tree e (ascribed i x s) w ps ns ws h =
      let u = width_of_sort (sort_at e.source s) in
      let n : Note = tells u in
      let v = told_or w u in
      same_found ws (append_assoc (pieces x) (piece.Ascribed i s ∷ []) ps) (append_assoc (notes e x) (n ∷ []) ns)
      ∙ found_tree e x v (piece.Ascribed i s ∷ ps) (n ∷ ns) ws (ap (λ a. told_or a u) h)
      ∙ ap (λ a. widths e v x ++ (a ∷ found ps ns ws)) h
      ∙ sym (append_assoc (widths e v x) (w ∷ []) (found ps ns ws))

  pub found_all : (e : Env) (xs : Trees) (v : ℕ) (r : List ℕ) (ps : List Piece) (ns : List Note) (ws : List ℕ) → told ps ns ws ≡ many (number_of xs) v r → found (arguments xs ++ ps) (all_notes e xs ++ ns) ws ≡ all_widths e v xs ++ found ps ns ws
  found_all e no_more v r ps ns ws h = refl
  found_all e (and x xs) v r ps ns ws h =
      same_found ws (append_assoc (pieces x) (arguments xs) ps) (append_assoc (notes e x) (all_notes e xs) ns)
      ∙ found_tree e x v (arguments xs ++ ps) (all_notes e xs ++ ns) ws (ap top (told_all e xs ps ns ws ∙ ap (belows (number_of xs)) h ∙ belows_many (number_of xs) v (v ∷ r)))
      ∙ ap (λ a. widths e v x ++ a) (found_all e xs v (v ∷ r) ps ns ws h)
      ∙ sym (append_assoc (widths e v x) (all_widths e v xs) (found ps ns ws))
