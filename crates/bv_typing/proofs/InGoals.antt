-- The goals of a file one by one: where each ends, what it binds, what its pieces note, and its faults.
use Rattle.std.proofs.Common.{◌≡◌, ℕ, zero, suc, ◌+◌, ◌-◌, ◌<◌, List, [], ◌∷◌, ◌++◌, length, take, drop, Option, refl, sym, ap, arith, ◌∙◌, append_assoc, append-nil, length-append, Bool, true, false}
use Rattle.std.specs.Prelude.{map, flat_map, if◌then◌else◌}
use Rattle.bv_expr.specs.declared.ops.Sort.{Sort}
use Rattle.bv_trees.specs.declared.pieces.Piece.{Piece}
use Rattle.bv_trees.specs.declared.pieces.Piece.TheVariants as piece
use Rattle.bv_trees.specs.Trees.{Tree, Trees, name, numeral, literal, prefix, infix_, method, ascribed, no_more, and, Binder, variables, hypothesis, Goal}
use Rattle.bv_trees.specs.Trees as trees
use Rattle.bv_trees.specs.Codes.{pieces, arguments, binder_pieces, goal_pieces}
use Rattle.bv_typing.specs.declared.misfit.Misfit.{Misfit}
use Rattle.bv_typing.specs.declared.variables.Binding.{Binding}
use Rattle.bv_typing.specs.Source.{Source}
use Rattle.bv_typing.specs.Variables.{bounds, all_bounds, named, placed, piece_bindings, sort_at}
use Rattle.bv_typing.specs.Readings.{Env}
use Rattle.bv_typing.specs.Goals.{hypotheses, terms_of, env_of, misfits, truth_misfits, bound_misfits, goal_misfits, least}
use Rattle.bv_typing.specs.Earliest.{also}
use Rattle.bv_typing.specs.declared.note.Note.{Note}
use Rattle.bv_typing.specs.Notes.{nothing, notes, binder_notes, goal_notes}
use Rattle.bv_typing.specs.Judging as spec
use Rattle.bv_typing.specs.Judging.{Judging, judge, judge_all, start, least_of, env_at}
use Rattle.bv_typing.specs.Faults.{is_end, goal_end, bindings_in, goal_misfit}
use Rattle.bv_typing.proofs.Least.{least-append}
use Rattle.bv_typing.proofs.Judged.{part, terms_parts, found, found_twice, pieces_split, tree_judged, binders_judged, least_found}

-- ---- the pieces of terms

-- a piece of a term
abbrev IsInner : Piece → Type 0
IsInner (piece.Goal h i) = ⊥
IsInner (piece.Variables i j s) = ⊥
IsInner (piece.Proof s) = ⊥
IsInner _ = Unit {0}

data AreInner : List Piece → Type 0 where
  none : AreInner []
  one : {p : Piece} {ps : List Piece} → IsInner p → AreInner ps → AreInner (p ∷ ps)

both : {ps qs : List Piece} → AreInner ps → AreInner qs → AreInner (ps ++ qs)
both none k = k
both (one h hs) k = one h (both hs k)

mutual
  tree_inner : (t : Tree) → AreInner (pieces t)
  tree_inner (name i) = one tt none
  tree_inner (numeral i) = one tt none
  tree_inner (literal i w) = one tt none
  tree_inner (trees.constant c i) = one tt none
  tree_inner (prefix o i x) = both (tree_inner x) (one tt none)
  tree_inner (infix_ o i x y) = both (tree_inner x) (both (tree_inner y) (one tt none))
  tree_inner (trees.choice i x y z) = both (tree_inner x) (both (tree_inner y) (both (tree_inner z) (one tt none)))
  tree_inner (method i x xs) = both (tree_inner x) (one tt (both (trees_inner xs) (one tt none)))
  tree_inner (ascribed i x s) = both (tree_inner x) (one tt none)

  trees_inner : (xs : Trees) → AreInner (arguments xs)
  trees_inner no_more = none
  trees_inner (and x xs) = both (tree_inner x) (trees_inner xs)

-- they end no goal
end_behind : (ps qs : List Piece) → AreInner ps → goal_end (ps ++ qs) ≡ length ps + goal_end qs
end_behind [] qs none = sym (zero_plus (goal_end qs))
  where
    zero_plus : (n : ℕ) → 0 + n ≡ n
    zero_plus n = omega arith
end_behind (p ∷ ps) qs (one h hs) = one_more p h (end_behind ps qs hs)
  where
    next : (m n k : ℕ) → m ≡ n + k → suc m ≡ suc n + k
    next m n k e = omega (arith, e)

    one_more : (p : Piece) → IsInner p → goal_end (ps ++ qs) ≡ length ps + goal_end qs → goal_end (p ∷ (ps ++ qs)) ≡ suc (length ps) + goal_end qs
    one_more (piece.Name i) h e = next _ (length ps) (goal_end qs) e
    one_more (piece.Numeral i) h e = next _ (length ps) (goal_end qs) e
    one_more (piece.Literal i w) h e = next _ (length ps) (goal_end qs) e
    one_more (piece.Constant c i) h e = next _ (length ps) (goal_end qs) e
    one_more (piece.Prefix o i) h e = next _ (length ps) (goal_end qs) e
    one_more (piece.Infix o i) h e = next _ (length ps) (goal_end qs) e
    one_more (piece.Choice i) h e = next _ (length ps) (goal_end qs) e
    one_more (piece.Call i) h e = next _ (length ps) (goal_end qs) e
    one_more (piece.Method i) h e = next _ (length ps) (goal_end qs) e
    one_more (piece.Ascribed i s) h e = next _ (length ps) (goal_end qs) e
    one_more (piece.Goal g i) h e = absurd h
    one_more (piece.Variables i j s) h e = absurd h
    one_more (piece.Proof s) h e = absurd h

-- they bind no names
no_bindings : (s : Source) (p : Piece) → IsInner p → piece_bindings s p ≡ []
no_bindings s (piece.Name i) h = refl
no_bindings s (piece.Numeral i) h = refl
no_bindings s (piece.Literal i w) h = refl
no_bindings s (piece.Constant c i) h = refl
no_bindings s (piece.Prefix o i) h = refl
no_bindings s (piece.Infix o i) h = refl
no_bindings s (piece.Choice i) h = refl
no_bindings s (piece.Call i) h = refl
no_bindings s (piece.Method i) h = refl
no_bindings s (piece.Ascribed i t) h = refl
no_bindings s (piece.Goal g i) h = absurd h
no_bindings s (piece.Variables i j t) h = absurd h
no_bindings s (piece.Proof t) h = absurd h

bindings_behind : (s : Source) (ps qs : List Piece) → AreInner ps → bindings_in s (ps ++ qs) ≡ bindings_in s qs
bindings_behind s [] qs none = refl
bindings_behind s (p ∷ ps) qs (one h hs) = ap (λ v. v ++ bindings_in s (ps ++ qs)) (no_bindings s p h) ∙ bindings_behind s ps qs hs

-- ---- one goal

abbrev pub own_pieces : Goal → List Piece
own_pieces g = piece.Goal g.head g.path ∷ (binder_pieces g.binders ++ (pieces g.conclusion ++ piece.Proof g.stored ∷ []))

four : (a b : List Piece) (p : Piece) (c : List Piece) → a ++ (b ++ (p ∷ c)) ≡ (a ++ (b ++ p ∷ [])) ++ c
four a b p c = ap (λ v. a ++ v) (sym (append_assoc b (p ∷ []) c)) ∙ sym (append_assoc a (b ++ p ∷ []) c)

goals_split : (g : Goal) (gs : List Goal) → goal_pieces (g ∷ gs) ≡ own_pieces g ++ goal_pieces gs
goals_split g gs = ap (λ v. piece.Goal g.head g.path ∷ v) (four (binder_pieces g.binders) (pieces g.conclusion) (piece.Proof g.stored) (goal_pieces gs))

binders_end : (bs : List Binder) (qs : List Piece) → goal_end (binder_pieces bs ++ qs) ≡ length (binder_pieces bs) + goal_end qs
binders_end [] qs = zero_plus (goal_end qs)
  where
    zero_plus : (n : ℕ) → n ≡ 0 + n
    zero_plus n = omega arith
binders_end (variables i j s ∷ bs) qs = next _ (length (binder_pieces bs)) (goal_end qs) (binders_end bs qs)
  where
    next : (m n k : ℕ) → m ≡ n + k → suc m ≡ suc n + k
    next m n k e = omega (arith, e)
binders_end (hypothesis x ∷ bs) qs =
    ap goal_end (append_assoc (pieces x) (binder_pieces bs) qs) ∙ end_behind (pieces x) (binder_pieces bs ++ qs) (tree_inner x)
    ∙ sums _ (length (pieces x)) (length (binder_pieces bs)) (goal_end qs) _ (binders_end bs qs) (length_both (pieces x) (binder_pieces bs))
  where
    sums : (m a b c k : ℕ) → m ≡ b + c → k ≡ a + b → a + m ≡ k + c
    sums m a b c k e f = omega (arith, e, f)

    length_both : (xs ys : List Piece) → length (xs ++ ys) ≡ length xs + length ys
    length_both [] ys = omega arith
    length_both (x ∷ xs) ys = omega (arith, length_both xs ys)

length_two : (xs ys : List Piece) → length (xs ++ ys) ≡ length xs + length ys
length_two [] ys = omega arith
length_two (x ∷ xs) ys = omega (arith, length_two xs ys)

own_end : (g : Goal) (qs : List Piece) → goal_end (own_pieces g ++ qs) ≡ length (own_pieces g)
own_end g qs =
    let bs = binder_pieces g.binders in
    let c = pieces g.conclusion in
    let p = piece.Proof g.stored in
    ap (λ v. suc (goal_end v)) (sym (four bs c p qs) ∙ refl)
    ∙ ap suc (binders_end g.binders (c ++ p ∷ qs))
    ∙ ap (λ n. suc (length bs + n)) (end_behind c (p ∷ qs) (tree_inner g.conclusion))
    ∙ ap suc (sums (length bs) (length c) (length (c ++ p ∷ [])) _ (length_two c (p ∷ [])) (length_two bs (c ++ p ∷ [])))
  where
    sums : (b c d k : ℕ) → d ≡ c + 1 → k ≡ b + d → b + (c + 1) ≡ k
    sums b c d k e f = omega (arith, e, f)

take_own : (xs ys : List Piece) → take (length xs) (xs ++ ys) ≡ xs
take_own [] ys = refl
take_own (x ∷ xs) ys = ap (λ v. x ∷ v) (take_own xs ys)

drop_own : (xs ys : List Piece) → drop (length xs) (xs ++ ys) ≡ ys
drop_own [] ys = refl
drop_own (x ∷ xs) ys = drop_own xs ys

-- the first goal, and the others
pub first_goal : (n : ℕ) (ps : List Piece) (g : Goal) (gs : List Goal) → n ≡ goal_end ps → ps ≡ goal_pieces (g ∷ gs) → take n ps ≡ goal_pieces (g ∷ [])
first_goal n ps g gs e f =
    let split = f ∙ goals_split g gs in
    let end = e ∙ ap goal_end split ∙ own_end g (goal_pieces gs) in
    (λ i. take (end i) (split i)) ∙ take_own (own_pieces g) (goal_pieces gs)

pub other_goals : (n : ℕ) (ps : List Piece) (g : Goal) (gs : List Goal) → n ≡ goal_end ps → ps ≡ goal_pieces (g ∷ gs) → drop n ps ≡ goal_pieces gs
other_goals n ps g gs e f =
    let split = f ∙ goals_split g gs in
    let end = e ∙ ap goal_end split ∙ own_end g (goal_pieces gs) in
    (λ i. drop (end i) (split i)) ∙ drop_own (own_pieces g) (goal_pieces gs)

-- where there are pieces, the first goal has some
pub end_some : (ps : List Piece) → 0 < length ps → 0 < goal_end ps
end_some [] h = absurd (omega (arith, h))
end_some (p ∷ ps) h = some_by (is_end p) (goal_end ps)
  where
    some_by : (b : Bool) (n : ℕ) → 0 < (if b then 1 else suc n)
    some_by true n = omega arith
    some_by false n = omega arith

named_placed : (s : Source) (t : Option Sort) (i n : ℕ) → map (named s) (placed t i n) ≡ bounds s t i n
named_placed s t i zero = refl
named_placed s t i (suc n) = ap (λ v. named s (record { at = i; sort = t }) ∷ v) (named_placed s t (i + 1) n)

map_both : (s : Source) (xs ys : List Binding) → map (named s) (xs ++ ys) ≡ map (named s) xs ++ map (named s) ys
map_both s [] ys = refl
map_both s (x ∷ xs) ys = ap (λ v. named s x ∷ v) (map_both s xs ys)

binders_bind : (s : Source) (bs : List Binder) (qs : List Piece) → map (named s) (bindings_in s (binder_pieces bs ++ qs)) ≡ all_bounds s bs ++ map (named s) (bindings_in s qs)
binders_bind s [] qs = refl
binders_bind s (variables i j w ∷ bs) qs =
    map_both s (placed (sort_at s w) i (j - i)) (bindings_in s (binder_pieces bs ++ qs))
    ∙ (λ k. named_placed s (sort_at s w) i (j - i) k ++ binders_bind s bs qs k)
    ∙ sym (append_assoc (bounds s (sort_at s w) i (j - i)) (all_bounds s bs) (map (named s) (bindings_in s qs)))
binders_bind s (hypothesis x ∷ bs) qs =
    ap (λ v. map (named s) (bindings_in s v)) (append_assoc (pieces x) (binder_pieces bs) qs)
    ∙ ap (map (named s)) (bindings_behind s (pieces x) (binder_pieces bs ++ qs) (tree_inner x))
    ∙ binders_bind s bs qs

pub own_bind : (s : Source) (g : Goal) → map (named s) (bindings_in s (own_pieces g)) ≡ all_bounds s g.binders
own_bind s g =
    binders_bind s g.binders (pieces g.conclusion ++ piece.Proof g.stored ∷ [])
    ∙ ap (λ v. all_bounds s g.binders ++ map (named s) v) (bindings_behind s (pieces g.conclusion) (piece.Proof g.stored ∷ []) (tree_inner g.conclusion))
    ∙ append-nil (all_bounds s g.binders)

-- ---- the walk over its pieces

flat_last : {A B : Type 0} (f : A → List B) (xs : List A) (x : A) → flat_map f xs ++ f x ≡ flat_map f (xs ++ x ∷ [])
flat_last f [] x = sym (append-nil (f x))
flat_last f (y ∷ ys) x = append_assoc (f y) (flat_map f ys) (f x) ∙ ap (λ v. f y ++ v) (flat_last f ys x)

parts_last : (e : Env) (ts : List Tree) (t : Tree) → terms_parts e ts ++ part e t ∷ [] ≡ terms_parts e (ts ++ t ∷ [])
parts_last e [] t = refl
parts_last e (u ∷ us) t = ap (λ v. part e u ∷ v) (parts_last e us t)

own_judged : (e : Env) (g : Goal) → judge_all e (own_pieces g) start
    ≡ spec.passed (found (terms_parts e (hypotheses g.binders) ++ part e g.conclusion ∷ []) (binder_notes e g.binders ++ notes e g.conclusion) (flat_map (misfits e) (hypotheses g.binders) ++ misfits e g.conclusion) (spec.passed start))
own_judged e g =
    let c = g.conclusion in
    let p = piece.Proof g.stored in
    pieces_split e (binder_pieces g.binders) (pieces c ++ p ∷ []) (spec.passed start)
    ∙ ap (judge_all e (pieces c ++ p ∷ [])) (binders_judged e g.binders (spec.passed start))
    ∙ pieces_split e (pieces c) (p ∷ []) _
    ∙ ap (judge_all e (p ∷ [])) (tree_judged e c _ ∙ found_twice (terms_parts e (hypotheses g.binders)) (part e c ∷ []) (binder_notes e g.binders) (notes e c) (flat_map (misfits e) (hypotheses g.binders)) (misfits e c) (spec.passed start))

-- ---- what its pieces note

one_more : (ns : List Note) (n : Note) → length (ns ++ n ∷ []) ≡ length ns + 1
one_more ns n = omega (arith, length-append ns (n ∷ []))

noted_by : (e : Env) (p : Piece) (s : Judging) → length (judge e p s).notes ≡ length s.notes + 1
noted_by e (piece.Name i) s = one_more s.notes _
noted_by e (piece.Numeral i) s = one_more s.notes _
noted_by e (piece.Literal i w) s = one_more s.notes _
noted_by e (piece.Constant c i) s = one_more s.notes _
noted_by e (piece.Prefix o i) s = one_more s.notes _
noted_by e (piece.Infix o i) s = one_more s.notes _
noted_by e (piece.Choice i) s = one_more s.notes _
noted_by e (piece.Call i) s = one_more s.notes _
noted_by e (piece.Method i) s = one_more s.notes _
noted_by e (piece.Ascribed i w) s = one_more s.notes _
noted_by e (piece.Goal h i) s = one_more s.notes _
noted_by e (piece.Variables i j w) s = one_more s.notes _
noted_by e (piece.Proof t) s = one_more s.notes _

-- a note for each piece
all_noted : (e : Env) (ps : List Piece) (s : Judging) → length (judge_all e ps s).notes ≡ length s.notes + length ps
all_noted e [] s = omega arith
all_noted e (p ∷ ps) s = omega (arith, all_noted e ps (judge e p s), noted_by e p s)

pub each_noted : (e : Env) (ps : List Piece) (ns : List Note) → ns ≡ (judge_all e ps start).notes → length ns ≡ length ps
each_noted e ps ns h = omega (arith, ap length h, all_noted e ps start)

own_notes : (s : Source) (g : Goal) → (judge_all (env_of s g) (own_pieces g) start).notes ≡ goal_notes s g
own_notes s g =
    let e = env_of s g in
    ap (λ (j : Judging). j.notes) (own_judged e g)
    ∙ ap (λ v. nothing ∷ v) (append_assoc (binder_notes e g.binders) (notes e g.conclusion) (nothing ∷ []))

same_env : (s : Source) (g : Goal) → env_at s (bindings_in s (own_pieces g)) ≡ env_of s g
same_env s g = λ i. record { source = s; bounds = own_bind s g i }

pub notes_are : (s : Source) (ps : List Piece) (bs : List Binding) (ns : List Note) → bs ≡ bindings_in s ps → ns ≡ (judge_all (env_at s bs) ps start).notes → (g : Goal) → ps ≡ goal_pieces (g ∷ []) → ns ≡ goal_notes s g
notes_are s ps bs ns b h g e =
    h ∙ ap (λ (v : List Binding). (judge_all (env_at s v) ps start).notes) b
    ∙ ap (λ (v : List Piece). (judge_all (env_at s (bindings_in s v)) v start).notes) e
    ∙ ap (λ (v : Env). (judge_all v (own_pieces g) start).notes) (same_env s g)
    ∙ own_notes s g

-- ---- its faults

own_least : (e : Env) (g : Goal) → least_of (judge_all e (own_pieces g) start) ≡ least (flat_map (misfits e) (terms_of g) ++ flat_map (truth_misfits e) (terms_of g))
own_least e g =
    ap least_of (own_judged e g)
    ∙ (λ i. least_of (found (parts_last e (hypotheses g.binders) g.conclusion i) [] (flat_last (misfits e) (hypotheses g.binders) g.conclusion i) start))
    ∙ least_found e (terms_of g) [] (flat_map (misfits e) (terms_of g))

own_misfit : (s : Source) (g : Goal) → goal_misfit s (own_pieces g) ≡ least (goal_misfits s g)
own_misfit s g =
    (λ i. also (least (bound_misfits [] (own_bind s g i))) (least_of (judge_all (record { source = s; bounds = own_bind s g i }) (own_pieces g) start)))
    ∙ ap (also (least (bound_misfits [] (all_bounds s g.binders)))) (own_least (env_of s g) g)
    ∙ sym (least-append (bound_misfits [] (all_bounds s g.binders)) (flat_map (misfits (env_of s g)) (terms_of g) ++ flat_map (truth_misfits (env_of s g)) (terms_of g)))

pub misfit_is : (s : Source) (ps : List Piece) (bs : List Binding) (a b m : Option Misfit) → bs ≡ bindings_in s ps → a ≡ least (bound_misfits [] (map (named s) bs)) → b ≡ least_of (judge_all (env_at s bs) ps start) → m ≡ also a b
    → (g : Goal) → ps ≡ goal_pieces (g ∷ []) → m ≡ least (goal_misfits s g)
misfit_is s ps bs a b m d h k l g e =
    l ∙ (λ i. also (h i) (k i))
    ∙ ap (λ (v : List Binding). also (least (bound_misfits [] (map (named s) v))) (least_of (judge_all (env_at s v) ps start))) d
    ∙ ap (goal_misfit s) e ∙ own_misfit s g
