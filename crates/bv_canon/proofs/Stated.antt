-- The terms of the goals of a file are terms that the syntax can spell.
use Rattle.std.proofs.Common.{◌≡◌, ◌≢◌, Bool, true, false, not, ◌&&◌, ℕ, zero, suc, ◌+◌, ◌%◌, ◌<◌, ◌^◌, List, [], ◌∷◌, ◌++◌, length, Option, Some, None, refl, sym, subst, arith, ap, ap₂, ◌∙◌, codes}
use Rattle.std.specs.Prelude.{All, slice_get, is_some, nat_lt, bytes_eq, if◌then◌else◌}
use Rattle.std.specs.List.{list_any}
use Rattle.std.proofs.Math.Nat.{mod-lt, one-le-pow}
use Rattle.std.proofs.lemmas.Slice.Eq.{bytes_eq-Decides}
use Rattle.std.proofs.lemmas.List.Elements.{All-nil, All-cons}
use Rattle.bv_lex.specs.declared.fault.FaultKind.TheVariants as fault
use Rattle.bv_grammar.specs.declared.words.Word.{Word}
use Rattle.bv_grammar.specs.declared.words.Word.TheVariants as words
use Rattle.bv_expr.specs.declared.ops.Sort.{Sort}
use Rattle.bv_expr.specs.declared.ops.Sort.TheVariants.{Truth, Vector}
use Rattle.bv_expr.specs.declared.ops.Unary.{Unary}
use Rattle.bv_expr.specs.declared.ops.Unary.TheVariants as of
use Rattle.bv_expr.specs.declared.ops.Binary.{Binary}
use Rattle.bv_expr.specs.Goal.{Binders}
use Rattle.bv_expr.specs.Term.{Term, constant, variable, truth, truth_variable, unary, binary, choice, truth_choice}
use Rattle.bv_trees.specs.Trees.{Tree, Trees, name, numeral, literal, prefix, infix_, method, ascribed, no_more, and}
use Rattle.bv_trees.specs.Trees as trees
use Rattle.bv_typing.specs.declared.misfit.Misfit.{Misfit}
use Rattle.bv_typing.specs.declared.item.Item.{Item}
use Rattle.bv_typing.specs.declared.item.Item.TheVariants.{Number, Made}
use Rattle.bv_typing.specs.declared.kind.Kind.{Kind}
use Rattle.bv_typing.specs.declared.kind.Kind.TheVariants as kind
use Rattle.bv_typing.specs.declared.method.Method.{Method}
use Rattle.bv_typing.specs.declared.method.Method.TheVariants as by_method
use Rattle.bv_typing.specs.declared.method.Numbered.{Numbered}
use Rattle.bv_typing.specs.declared.method.Numbered.TheVariants as numbered
use Rattle.bv_typing.specs.Source.{text_at, number_at}
use Rattle.bv_typing.specs.Rows.{binary_of}
use Rattle.bv_typing.specs.Variables.{Bound, sort_at, bound_from, variable_of, may_bind, sorted_binder, binders_of}
use Rattle.bv_typing.specs.Readings.{Env, variable_at, method_at, kind_of, width_in, width_for, width_of_sort, told_or, either, infix_width, right_width, negated, is_turned, variable_term, constant_term, prefix_unary, sort_in, joined_by, infix_term, choice_term, numbered_unary, method_term, numeral_item, item_of, term, items, item}
use Rattle.bv_typing.specs.Goals.{bound_misfits}
use Rattle.bv_terms.specs.Sorting.{Bounded}
use Rattle.bv_terms.proofs.Typed.{all_fit}
use Rattle.bv_print.specs.Spelling.{kept_numbers}
use Rattle.bv_print.specs.Canonical.{name_at, name_of}
use Rattle.bv_canon.proofs.Typed.{kinds_one}

-- ---- what is bound

-- each has a sort
abbrev pub HaveSorts : List Bound → Type 0
HaveSorts [] = Unit {0}
HaveSorts (b ∷ bs) = ((s : Sort) × (b.sort ≡ Some s)) × HaveSorts bs

sort_there : (o : Option Sort) → is_some o ≡ true → (s : Sort) × (o ≡ Some s)
sort_there None h = absurd (cc)
sort_there (Some s) h = (s, refl)

pub none_left : {A : Type 0} (u v : List A) → u ++ v ≡ [] → u ≡ []
none_left [] v h = refl
none_left (x ∷ u) v h = cc

pub none_right : {A : Type 0} (u v : List A) → u ++ v ≡ [] → v ≡ []
none_right [] v h = h
none_right (x ∷ u) v h = cc

pub have_sorts : (before bs : List Bound) → bound_misfits before bs ≡ [] → HaveSorts bs
have_sorts before [] h = tt
have_sorts before (b ∷ bs) h =
    let misfit : Misfit = record { at = b.at; kind = fault.Typing } in
    let own = none_left (if may_bind before b then [] else misfit ∷ []) (bound_misfits (before ++ b ∷ []) bs) h in
    let rest = none_right (if may_bind before b then [] else misfit ∷ []) (bound_misfits (before ++ b ∷ []) bs) h in
    (sort_there b.sort (middle (not (list_any (λ a. bytes_eq a.name b.name) before)) (is_some b.sort) (nat_lt (length before) 64) misfit own), have_sorts (before ++ b ∷ []) bs rest)
  where
    middle : (x y z : Bool) (m : Misfit) → (if x && y && z then [] else m ∷ []) ≡ [] → y ≡ true
    middle x true z m h = refl
    middle true false true m h = absurd (cc)
    middle true false false m h = absurd (cc)
    middle false false z m h = absurd (cc)

-- the variable of a name
found_binder : (m : ℕ) (text : List ℕ) (bs : List Bound) (k : ℕ) (s : Sort) → HaveSorts bs → bound_from m text bs ≡ Some (k, Some s) → (j : ℕ) × (k ≡ m + j) × (slice_get (binders_of bs) j ≡ Some (text, s))
found_binder m text [] k s h e = absurd (cc)
found_binder m text (b ∷ bs) k s h e = go (bytes_eq b.name text) refl e (λ f. found_binder (m + 1) text bs k s h.1 f)
  where
    t : Sort
    t = h.0.0

    sorted : sorted_binder b.name b.sort ≡ (b.name, t) ∷ []
    sorted = ap (sorted_binder b.name) h.0.1

    go : (c : Bool) → bytes_eq b.name text ≡ c → (if c then Some (m, b.sort) else bound_from (m + 1) text bs) ≡ Some (k, Some s)
        → (bound_from (m + 1) text bs ≡ Some (k, Some s) → (j : ℕ) × (k ≡ m + 1 + j) × (slice_get (binders_of bs) j ≡ Some (text, s))) → (j : ℕ) × (k ≡ m + j) × (slice_get (sorted_binder b.name b.sort ++ binders_of bs) j ≡ Some (text, s))
    go true same found others =
        let is : b.name ≡ text = (bytes_eq-Decides b.name text).0 same in
        let pair = inside found in
        let at : m ≡ k = ap (λ (p : ℕ × Option Sort). p.0) pair in
        let sort : b.sort ≡ Some s = ap (λ (p : ℕ × Option Sort). p.1) pair in
        let one : t ≡ s = some_same (sym h.0.1 ∙ sort) in
        (0, sym at ∙ (omega arith), ap (λ v. slice_get (v ++ binders_of bs) 0) sorted ∙ ap₂ (λ (u : List ℕ) (v : Sort). Some (u, v)) is one)
      where
        some_same : {a b : Sort} → Some a ≡ Some b → a ≡ b
        some_same e = cc

        inside : {a b : ℕ × Option Sort} → Some a ≡ Some b → a ≡ b
        inside e = cc
    go false same found others =
        let r = others found in
        (suc r.0, r.1 ∙ (omega arith), ap (λ v. slice_get (v ++ binders_of bs) (suc r.0)) sorted ∙ r.2)

-- what a name names: it is no `_`, and is that binder
pub named_binder : (bs : List Bound) (text : List ℕ) (k : ℕ) (s : Sort) → HaveSorts bs → variable_of bs text ≡ Some (k, Some s) → (text ≢ codes "_") × (slice_get (binders_of bs) k ≡ Some (text, s))
named_binder bs text k s h e = go (bytes_eq text (codes "_")) refl e
  where
    go : (c : Bool) → bytes_eq text (codes "_") ≡ c → (if c then None else bound_from 0 text bs) ≡ Some (k, Some s) → (text ≢ codes "_") × (slice_get (binders_of bs) k ≡ Some (text, s))
    go true same found = absurd (cc)
    go false same found =
        let r = found_binder 0 text bs k s h found in
        let at : r.0 ≡ k = omega (arith, r.1) in
        ((λ n. let c = (bytes_eq-Decides text (codes "_")).1 n in absurd (cc)), subst (λ n. slice_get (binders_of bs) n ≡ Some (text, s)) at r.2)

-- ---- terms of trees

-- numbers that are written: all but the length of an extracted part, which may be counted from two of them
abbrev pub written_numbers : Unary → List ℕ
written_numbers (of.Extract start len) = start ∷ []
written_numbers op = kept_numbers op

abbrev pub Small : List ℕ → Type 0
Small ns = All (λ n. n < 2 ^ 128) ns

-- variables have names other than `_`, written numbers are small, and those of constants fit their widths
abbrev pub Fine : Binders → Term → Type 0
Fine binders (constant v) = v.number < 2 ^ v.width
Fine binders (variable k w) = name_at binders k ≢ codes "_"
Fine binders (truth b) = Unit {0}
Fine binders (truth_variable k) = name_at binders k ≢ codes "_"
Fine binders (unary op x) = Small (written_numbers op) × Fine binders x
Fine binders (binary op x y) = Fine binders x × Fine binders y
Fine binders (choice c x y) = Fine binders c × Fine binders x × Fine binders y
Fine binders (truth_choice c x y) = Fine binders c × Fine binders x × Fine binders y

number_fits : (w n : ℕ) → n % 2 ^ w < 2 ^ w
number_fits w n = mod-lt n (one-le-pow w 2 (omega arith))

no_numbers : Small []
no_numbers = All-nil (λ n. n < 2 ^ 128)

one_number : (n : ℕ) → n < 2 ^ 128 → Small (n ∷ [])
one_number n h = All-cons (λ n. n < 2 ^ 128) n [] h no_numbers

fine_name : (bs : List Bound) (text : List ℕ) → HaveSorts bs → (v : Option (ℕ × Option Sort)) → variable_of bs text ≡ v → Fine (binders_of bs) (variable_term v)
fine_name bs text h None e = tt
fine_name bs text h (Some (k, None)) e = tt
fine_name bs text h (Some (k, Some Truth)) e = let n = named_binder bs text k Truth h e in λ q. n.0 (sym (ap name_of n.1) ∙ q)
fine_name bs text h (Some (k, Some (Vector w))) e = let n = named_binder bs text k (Vector w) h e in λ q. n.0 (sym (ap name_of n.1) ∙ q)

fine_constant : (binders : Binders) (c : Word) → Fine binders (constant_term c)
fine_constant binders words.True = tt
fine_constant binders words.TrueProposition = tt
fine_constant binders _ = tt

prefix_numbers : (o : Word) → Small (written_numbers (prefix_unary o))
prefix_numbers words.Complement = no_numbers
prefix_numbers words.Minus = no_numbers
prefix_numbers _ = no_numbers

fine_negated : (binders : Binders) (o : Word) (x : Term) → Fine binders x → Fine binders (negated o x)
fine_negated binders words.NotEqual x h = (no_numbers, h)
fine_negated binders words.BoolNotEqual x h = (no_numbers, h)
fine_negated binders _ x h = h

fine_joined : (binders : Binders) (o : Word) (op : Option Binary) (x y : Term) → Fine binders x → Fine binders y → Fine binders (joined_by o op x y)
fine_joined binders o None x y h g = h
fine_joined binders o (Some op) x y h g = fine_negated binders o (if is_turned o then binary op y x else binary op x y) (turned (is_turned o))
  where
    turned : (b : Bool) → Fine binders (if b then binary op y x else binary op x y)
    turned true = (g, h)
    turned false = (h, g)

fine_infix : (binders : Binders) (o : Word) (k l : Option Kind) (x y : Term) → ((n : ℕ) → l ≡ Some (kind.Number n) → n < 2 ^ 128) → Fine binders x → Fine binders y → Fine binders (infix_term o k l x y)
fine_infix binders words.ShiftLeft k (Some (kind.Number n)) x y small h g = (one_number n (small n refl), h)
fine_infix binders words.ShiftRight k (Some (kind.Number n)) x y small h g = (one_number n (small n refl), h)
fine_infix binders o k l x y small h g = fine_joined binders o (binary_of o (sort_in k)) x y h g

fine_choice : (binders : Binders) (k : Option Kind) (c x y : Term) → Fine binders c → Fine binders x → Fine binders y → Fine binders (choice_term k c x y)
fine_choice binders (Some (kind.Sorted Truth)) c x y f h g = (f, h, g)
fine_choice binders _ c x y f h g = (f, h, g)

-- arguments
abbrev pub FineItem : Binders → Item → Type 0
FineItem binders (Number n) = n < 2 ^ 128
FineItem binders (Made t) = Fine binders t

abbrev pub FineItems : Binders → List Item → Type 0
FineItems binders [] = Unit {0}
FineItems binders (i ∷ is) = FineItem binders i × FineItems binders is

numbered_fine : (m : Numbered) (n : ℕ) → n < 2 ^ 128 → Small (written_numbers (numbered_unary m n))
numbered_fine numbered.AshrBy n h = one_number n h
numbered_fine numbered.RotL n h = one_number n h
numbered_fine numbered.RotR n h = one_number n h
numbered_fine numbered.Bit n h = one_number n h
numbered_fine numbered.SetWidth n h = one_number n h
numbered_fine numbered.SignExtend n h = one_number n h

fine_method : (binders : Binders) (m : Option Method) (x : Term) (is : List Item) → Fine binders x → FineItems binders is → Fine binders (method_term m x is)
fine_method binders (Some by_method.Msb) x [] h g = (no_numbers, h)
fine_method binders (Some (by_method.With op)) x (Made y ∷ []) h g = (h, g.0)
fine_method binders (Some by_method.ArithmeticShift) x (Made y ∷ []) h g = (h, g.0)
fine_method binders (Some (by_method.By m)) x (Number n ∷ []) h g = (numbered_fine m n g.0, h)
fine_method binders (Some by_method.Extract) x (Number start ∷ Number len ∷ []) h g = (one_number start g.0, h)
fine_method binders (Some by_method.ExtractBetween) x (Number high ∷ Number low ∷ []) h g = (one_number low g.1.0, h)
fine_method binders m x is h g = h

fine_numeral : (binders : Binders) (w n : ℕ) → n < 2 ^ 128 → FineItem binders (numeral_item w n)
fine_numeral binders zero n h = h
fine_numeral binders (suc w) n h = number_fits (suc w) n

fine_item : (e : Env) (binders : Binders) (w : ℕ) (x : Tree) (t : Term) → ((i : ℕ) → number_at e.source i < 2 ^ 128) → Fine binders t → FineItem binders (item_of e w x t)
fine_item e binders w (numeral i) t small h = fine_numeral binders w (number_at e.source i) (small i)
fine_item e binders w (name i) t small h = h
fine_item e binders w (literal i j) t small h = h
fine_item e binders w (trees.constant c i) t small h = h
fine_item e binders w (prefix o i x) t small h = h
fine_item e binders w (infix_ o i x y) t small h = h
fine_item e binders w (trees.choice i x y z) t small h = h
fine_item e binders w (method i x xs) t small h = h
fine_item e binders w (ascribed i x s) t small h = h

-- a numeral's number
item_small : (e : Env) (x : Tree) (n : ℕ) → ((i : ℕ) → number_at e.source i < 2 ^ 128) → item e 0 x ≡ Number n → n < 2 ^ 128
item_small e (numeral i) n small h = let same : number_at e.source i ≡ n = cc in subst (λ m. m < 2 ^ 128) same (small i)
item_small e (name i) n small h = absurd (cc)
item_small e (literal i j) n small h = absurd (cc)
item_small e (trees.constant c i) n small h = absurd (cc)
item_small e (prefix o i x) n small h = absurd (cc)
item_small e (infix_ o i x y) n small h = absurd (cc)
item_small e (trees.choice i x y z) n small h = absurd (cc)
item_small e (method i x xs) n small h = absurd (cc)
item_small e (ascribed i x s) n small h = absurd (cc)

kind_small : (e : Env) → Bounded e → ((i : ℕ) → number_at e.source i < 2 ^ 128) → (x : Tree) (n : ℕ) → kind_of e x ≡ Some (kind.Number n) → n < 2 ^ 128
kind_small e b small x n h =
    let a = all_fit e b (and x no_more) (kind.Number n ∷ []) (kinds_one e x (kind.Number n) h) in
    let one : item e 0 x ≡ a.0 0 = first (a.2 0) in
    item_small e x n small (one ∙ a.3.as_number n refl)
  where
    first : {x y : Item} {xs ys : List Item} → x ∷ xs ≡ y ∷ ys → x ≡ y
    first e = cc

-- what holds of the variables and numbers of a file
pub record IsKnown (e : Env) : Type 0 where
  pub sorts : HaveSorts e.bounds
  pub bounded : Bounded e
  pub small : (i : ℕ) → number_at e.source i < 2 ^ 128

mutual
  pub fine_term : (e : Env) → IsKnown e → (w : ℕ) (x : Tree) → Fine (binders_of e.bounds) (term e w x)
  fine_term e k w (name i) = fine_name e.bounds (text_at e.source i) k.sorts (variable_at e i) refl
  fine_term e k w (numeral i) = number_fits w (number_at e.source i)
  fine_term e k w (literal i j) = number_fits (number_at e.source j) (number_at e.source i)
  fine_term e k w (trees.constant c i) = fine_constant (binders_of e.bounds) c
  fine_term e k w (prefix o i x) = (prefix_numbers o, fine_term e k w x)
  fine_term e k w (infix_ o i x y) =
      fine_infix (binders_of e.bounds) o (kind_of e x) (kind_of e y) (term e (told_or w (infix_width o (kind_of e x) (kind_of e y))) x) (term e (right_width o (told_or w (infix_width o (kind_of e x) (kind_of e y)))) y)
      (λ n h. kind_small e k.bounded k.small y n h) (fine_term e k (told_or w (infix_width o (kind_of e x) (kind_of e y))) x) (fine_term e k (right_width o (told_or w (infix_width o (kind_of e x) (kind_of e y)))) y)
  fine_term e k w (trees.choice i x y z) =
      fine_choice (binders_of e.bounds) (kind_of e y) (term e w x) (term e (told_or w (either (width_in (kind_of e y)) (width_in (kind_of e z)))) y) (term e (told_or w (either (width_in (kind_of e y)) (width_in (kind_of e z)))) z)
      (fine_term e k w x) (fine_term e k (told_or w (either (width_in (kind_of e y)) (width_in (kind_of e z)))) y) (fine_term e k (told_or w (either (width_in (kind_of e y)) (width_in (kind_of e z)))) z)
  fine_term e k w (method i x xs) =
      fine_method (binders_of e.bounds) (method_at e i) (term e w x) (items e (told_or w (width_for (method_at e i) (kind_of e x))) xs) (fine_term e k w x) (fine_items e k (told_or w (width_for (method_at e i) (kind_of e x))) xs)
  fine_term e k w (ascribed i x s) = fine_term e k (told_or w (width_of_sort (sort_at e.source s))) x

  pub fine_items : (e : Env) → IsKnown e → (w : ℕ) (xs : Trees) → FineItems (binders_of e.bounds) (items e w xs)
  fine_items e k w no_more = tt
  fine_items e k w (and x xs) = (fine_item e (binders_of e.bounds) w x (term e w x) k.small (fine_term e k w x), fine_items e k w xs)
