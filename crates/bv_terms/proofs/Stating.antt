-- What goals state, goal by goal.
use Rattle.std.proofs.Common.{◌≡◌, ℕ, ◌-◌, ◌<◌, List, [], ◌∷◌, ◌++◌, length, Option, Some, None, refl, sym, ap, subst, arith, ◌∙◌, append_assoc, append-nil, length-append}
use Rattle.std.specs.Prelude.{Result, IfOk, map, reverse, slice_get}
use Rattle.std.proofs.lemmas.Result.{IfOk-weaker}
use Rattle.std.proofs.lemmas.List.{reverse-reverse, reverse-append, map-append}
use Rattle.std.proofs.lemmas.Grind.{reverse_onto}
use Rattle.bv_expr.specs.Term.{Term}
use Rattle.bv_expr.specs.Goal.{Binders, IsGoal}
use Rattle.bv_expr.specs.declared.goal.Goal.{Goal as Stated}
use Rattle.bv_expr.specs.Statement.{Statement, statement_of}
use Rattle.bv_trees.specs.declared.pieces.Piece.{Piece}
use Rattle.bv_trees.specs.declared.pieces.Piece.TheVariants as piece
use Rattle.bv_trees.specs.Codes.{pieces, binder_pieces, goal_pieces}
use Rattle.bv_trees.specs.Trees.{Tree, Goal}
use Rattle.bv_typing.specs.declared.item.Item.{Item}
use Rattle.bv_typing.specs.declared.item.Item.TheVariants.{Made}
use Rattle.bv_typing.specs.declared.note.Note.{Note}
use Rattle.bv_typing.specs.declared.misfit.Misfit.{Misfit}
use Rattle.bv_typing.specs.declared.variables.Binding.{Binding}
use Rattle.bv_typing.specs.declared.judging.Judgement.{Judgement}
use Rattle.bv_typing.specs.Source.{Source}
use Rattle.bv_typing.specs.Stacks.{popped}
use Rattle.bv_typing.specs.Variables.{named, binders_of}
use Rattle.bv_typing.specs.Readings.{Env, term}
use Rattle.bv_typing.specs.Earliest.{also}
use Rattle.bv_typing.specs.Goals.{hypotheses, env_of, goal_misfits, file_misfits, least, statement, States}
use Rattle.bv_typing.specs.Judging.{env_at}
use Rattle.bv_typing.specs.Faults.{bindings_in}
use Rattle.bv_typing.proofs.Least.{also_none, least_behind}
use Rattle.bv_typing.proofs.InGoals.{own_bind}
use Rattle.bv_terms.specs.Widths.{found}
use Rattle.bv_terms.specs.Building.{build}
use Rattle.bv_terms.specs.Goals.{AreOfGoals, AreOfGoal, AreOfTyped, IsJudged, made}
use Rattle.bv_terms.proofs.FoldGoal.{built_goal}
use Rattle.bv_terms.proofs.OverGoals.{goal_bounded, goal_numbered, goal_fits}

-- ---- faults

pub none_least : (fs : List Misfit) → least fs ≡ None → fs ≡ []
none_least [] h = refl
none_least (f ∷ fs) h = cc

first_none : (a b : Option Misfit) → also a b ≡ None → a ≡ None
first_none None b h = refl
first_none (Some f) b h = cc

second_none : (a b : Option Misfit) → also a b ≡ None → b ≡ None
second_none None b h = h
second_none (Some f) b h = cc

-- where none is found, a goal's types fit
pub are_typed : (s : Source) (ps : List Piece) (a b m : Option Misfit) → AreOfGoal ps → ((g : Goal) → ps ≡ goal_pieces (g ∷ []) → b ≡ least (goal_misfits s g)) → m ≡ also a b → m ≡ None → AreOfTyped s ps
are_typed s ps a b m o h k e = record {
  goal = o;
  fit = λ g f. none_least (goal_misfits s g) (sym (h g f) ∙ second_none a b (sym k ∙ e));
}

-- ---- terms

made_same : (xs ys : List Term) → made xs ≡ made ys → xs ≡ ys
made_same [] [] e = refl
made_same [] (y ∷ ys) e = cc
made_same (x ∷ xs) [] e = cc
made_same (x ∷ xs) (y ∷ ys) e =
    let first : x ≡ y = cc in
    let others : made xs ≡ made ys = cc in
    λ i. first i ∷ made_same xs ys others i

made_reverse : (f : Tree → Term) (ts : List Tree) → reverse (map (λ t. Made (f t)) ts) ≡ made (reverse (map f ts))
made_reverse f [] = refl
made_reverse f (t ∷ ts) =
    reverse_onto (map (λ t. Made (f t)) ts) (Made (f t)) []
    ∙ ap (λ v. v ++ Made (f t) ∷ []) (made_reverse f ts)
    ∙ sym (map-append Made (reverse (map f ts)) (f t ∷ []))
    ∙ ap made (sym (reverse_onto (map f ts) (f t) []))

env_is : (s : Source) (ps : List Piece) (bs : List Binding) (g : Goal) → bs ≡ bindings_in s ps → ps ≡ goal_pieces (g ∷ []) → env_at s bs ≡ env_of s g
env_is s ps bs g b e = λ i. record { source = s; bounds = (ap (map (named s)) b ∙ ap (λ v. map (named s) (bindings_in s v)) e ∙ own_bind s g) i }

pub binders_are : (s : Source) (ps : List Piece) (bs : List Binding) (g : Goal) → bs ≡ bindings_in s ps → ps ≡ goal_pieces (g ∷ []) → binders_of (map (named s) bs) ≡ (statement s g).binders
binders_are s ps bs g b e = ap (λ (v : Env). binders_of v.bounds) (env_is s ps bs g b e)

-- what a goal's pieces build
pub built_is : (s : Source) (ps : List Piece) (j : Judgement) → IsJudged s ps j → AreOfTyped s ps → (g : Goal) → ps ≡ goal_pieces (g ∷ [])
    → build (env_at s j.bindings.items) ps (found ps j.notes.items []) [] ≡ Some (made ((statement s g).concl ∷ reverse (statement s g).hyps))
built_is s ps j h t g e =
    let fit = t.fit g e in
    let env = env_is s ps j.bindings.items g h.bindings e in
    let noted = h.notes g e in
    (λ i. build (env i) (e i) (found (e i) (noted i) []) [])
    ∙ built_goal s g (goal_bounded s g fit) (goal_numbered s g fit) fit
    ∙ ap (λ v. Some (Made (term (env_of s g) 0 g.conclusion) ∷ v)) (made_reverse (term (env_of s g) 0) (hypotheses g.binders))

pub built_so : (s : Source) (ps : List Piece) (j : Judgement) (bs : List Binding) (ns : List Note) (ws : List ℕ) (r : Option (List Item)) → bs ≡ j.bindings.items → ns ≡ j.notes.items → ws ≡ found ps ns [] → r ≡ build (env_at s bs) ps ws []
    → IsJudged s ps j → AreOfTyped s ps → (g : Goal) → ps ≡ goal_pieces (g ∷ []) → r ≡ Some (made ((statement s g).concl ∷ reverse (statement s g).hyps))
built_so s ps j bs ns ws r b n w e h t g f = e ∙ (λ i. build (env_at s (b i)) ps ((w ∙ ap (λ v. found ps v []) n) i) []) ∙ built_is s ps j h t g f

-- the parts of a goal make it
pub parts_fit : (s : Source) (ps : List Piece) (g : Goal) → AreOfTyped s ps → ps ≡ goal_pieces (g ∷ []) → (bs : Binders) (hyps : List Term) (concl : Term) → bs ≡ (statement s g).binders → (hyps ≡ (statement s g).hyps) × (concl ≡ (statement s g).concl) → IsGoal bs hyps concl
parts_fit s ps g t e bs hyps concl b h =
    let fit = goal_fits s g (t.fit g e) in
    subst (λ v. IsGoal v hyps concl) (sym b) (subst (λ v. IsGoal (statement s g).binders v concl) (sym h.0) (subst (λ v. IsGoal (statement s g).binders (statement s g).hyps v) (sym h.1) fit))

-- and they are what it states
pub stated : (goal : Stated) (said : Statement) → goal.name ≡ said.name → goal.binders ≡ said.binders → (goal.hyps ≡ said.hyps) × (goal.concl ≡ said.concl) → goal.stored ≡ said.stored → statement_of goal ≡ said
stated goal said n b h t = λ i. record { name = n i; binders = b i; hyps = h.0 i; concl = h.1 i; stored = t i }

pub same_items : (r : Option (List Item)) (st us : List Item) → r ≡ Some st → r ≡ Some us → st ≡ us
same_items r st us e f = cc

pub terms_are : (st us : List Item) (topmost t : Term) (below ts : List Term) → st ≡ us → st ≡ made (topmost ∷ reverse below) → us ≡ made (t ∷ reverse ts) → (below ≡ ts) × (topmost ≡ t)
terms_are st us topmost t below ts h e f =
    let same : topmost ∷ reverse below ≡ t ∷ reverse ts = made_same (topmost ∷ reverse below) (t ∷ reverse ts) (sym e ∙ h ∙ f) in
    let first : topmost ≡ t = cc in
    let others : reverse below ≡ reverse ts = cc in
    (sym (reverse-reverse below) ∙ ap reverse others ∙ reverse-reverse ts, first)

-- parts of a stack that a goal's pieces build are its terms
pub parted_are : {E : Type 0} (r : Result (List Term × Term) E) (s : Source) (ps : List Piece) (o : Option (List Item)) (st : List Item) → o ≡ Some st → ((g : Goal) → ps ≡ goal_pieces (g ∷ []) → o ≡ Some (made ((statement s g).concl ∷ reverse (statement s g).hyps)))
    → IfOk r (λ t. st ≡ made (t.1 ∷ reverse t.0)) → IfOk r (λ t. (g : Goal) → ps ≡ goal_pieces (g ∷ []) → (t.0 ≡ (statement s g).hyps) × (t.1 ≡ (statement s g).concl))
parted_are r s ps o st e h k =
    IfOk-weaker r (λ t. st ≡ made (t.1 ∷ reverse t.0)) (λ t. (g : Goal) → ps ≡ goal_pieces (g ∷ []) → (t.0 ≡ (statement s g).hyps) × (t.1 ≡ (statement s g).concl))
    (λ t f g d.
    let us = made ((statement s g).concl ∷ reverse (statement s g).hyps) in
    terms_are st us t.1 (statement s g).concl t.0 (statement s g).hyps (same_items o st us e (h g d)) f refl)
    k

-- the topmost of items that are terms
pub topmost_made : (st rest : List Item) (x : Item) (ts : List Term) → (Some x, rest) ≡ popped st → st ≡ made ts → (t : Term) × (us : List Term) × (x ≡ Made t) × (rest ≡ made us) × (st ≡ x ∷ rest)
topmost_made st rest x [] p e = let none : Some x ≡ None = ap (λ v. v.0) (p ∙ ap popped e) in cc
topmost_made st rest x (t ∷ ts) p e =
    let both = p ∙ ap popped e in
    let some : Some x ≡ Some (Made t) = ap (λ v. v.0) both in
    let first : x ≡ Made t = cc in
    let others : rest ≡ made ts = ap (λ v. v.1) both in
    (t, ts, first, others, e ∙ (λ i. sym first i ∷ sym others i))

pub more_made : (all xs ys rest st : List Item) (x : Item) → all ≡ xs ++ st → st ≡ x ∷ rest → ys ≡ xs ++ x ∷ [] → all ≡ ys ++ rest
more_made all xs ys rest st x e f g = e ∙ ap (λ v. xs ++ v) f ∙ sym (append_assoc xs (x ∷ []) rest) ∙ ap (λ v. v ++ rest) (sym g)

pub topmost_first : (st : List Item) (old new : List Term) (t : Term) → st ≡ made (reverse old) → old ≡ new ++ t ∷ [] → st ≡ made (t ∷ reverse new)
topmost_first st old new t e f = e ∙ ap (λ v. made (reverse v)) f ∙ ap made (reverse-append new (t ∷ []))

pub not_empty : (st : List Item) (old : List Term) (t : Term) (ts : List Term) → st ≡ made (reverse old) → length old ≡ 0 → st ≡ made (t ∷ ts) → ⊥
not_empty st [] t ts e h f = let no : [] ≡ made (t ∷ ts) = sym e ∙ f in cc
not_empty st (x ∷ old) t ts e h f = omega (arith, h)

-- one more goal
pub one_more : (old new : List Stated) (goal : Stated) (said : Statement) → new ≡ old ++ goal ∷ [] → statement_of goal ≡ said → map statement_of new ≡ map statement_of old ++ said ∷ []
one_more old new goal said e f = ap (map statement_of) e ∙ map-append statement_of old (goal ∷ []) ∙ ap (λ v. map statement_of old ++ v ∷ []) f

-- ---- all goals

-- these goals are left; what was found goes before their faults, and what was added before what they state
pub record Left (s : Source) (gs : List Goal) (rest : List Piece) (m : Option Misfit) (before now : List Statement) : Type 0 where
  pub others : List Goal
  pub are : rest ≡ goal_pieces others
  pub so_far : also m (least (file_misfits s others)) ≡ least (file_misfits s gs)
  pub added : m ≡ None → now ++ map (statement s) others ≡ before ++ map (statement s) gs

pub record AllPassed (s : Source) (ps rest : List Piece) (m : Option Misfit) (before now : List Statement) : Type 0 where
  pub passed : (gs : List Goal) → ps ≡ goal_pieces gs → Left s gs rest m before now

pub none_passed : (s : Source) (ps : List Piece) (now : List Statement) → AllPassed s ps ps None now now
none_passed s ps now = record { passed = λ gs e. record { others = gs; are = e; so_far = refl; added = λ h. refl } }

-- the pieces up to the end of the first goal, and the others
pub record AreSplit (rest front back : List Piece) : Type 0 where
  pub first : (g : Goal) (gs : List Goal) → rest ≡ goal_pieces (g ∷ gs) → front ≡ goal_pieces (g ∷ [])
  pub others : (g : Goal) (gs : List Goal) → rest ≡ goal_pieces (g ∷ gs) → back ≡ goal_pieces gs

-- a goal is passed
pub record IsPassed (s : Source) (ps : List Piece) (m n : Option Misfit) (now new : List Statement) : Type 0 where
  pub found : (g : Goal) → ps ≡ goal_pieces (g ∷ []) → n ≡ also m (least (goal_misfits s g))
  pub added : n ≡ None → (g : Goal) → ps ≡ goal_pieces (g ∷ []) → new ≡ now ++ statement s g ∷ []

next_left : (s : Source) (gs os : List Goal) (rest front back : List Piece) (m n : Option Misfit) (before now new : List Statement) → 0 < length rest → AreSplit rest front back → IsPassed s front m n now new
    → rest ≡ goal_pieces os → also m (least (file_misfits s os)) ≡ least (file_misfits s gs) → (m ≡ None → now ++ map (statement s) os ≡ before ++ map (statement s) gs)
    → Left s gs back n before new
next_left s gs [] rest front back m n before now new h d p e f k = absurd (omega (arith, h, ap length e))
next_left s gs (o ∷ os) rest front back m n before now new h d p e f k =
    let own = d.first o os e in
    record {
      others = os;
      are = d.others o os e;
      so_far = ap (λ v. also v (least (file_misfits s os))) (p.found o own) ∙ least_behind m (goal_misfits s o) (file_misfits s os) ∙ f;
      added = λ none.
          ap (λ v. v ++ map (statement s) os) (p.added none o own)
          ∙ append_assoc now (statement s o ∷ []) (map (statement s) os)
          ∙ k (first_none m (least (goal_misfits s o)) (sym (p.found o own) ∙ none));
    }

pub next_passed : (s : Source) (ps rest front back : List Piece) (m n : Option Misfit) (before now new : List Statement) → 0 < length rest → AreSplit rest front back → IsPassed s front m n now new
    → AllPassed s ps rest m before now → AllPassed s ps back n before new
next_passed s ps rest front back m n before now new h d p a = record {
  passed = λ gs e. let l = a.passed gs e in next_left s gs l.others rest front back m n before now new h d p l.are l.so_far l.added;
}

-- there is a next one
next_goal : (os : List Goal) (rest front back : List Piece) → 0 < length rest → AreSplit rest front back → rest ≡ goal_pieces os → AreOfGoal front
next_goal [] rest front back h d e = absurd (omega (arith, h, ap length e))
next_goal (o ∷ os) rest front back h d e = (o, d.first o os e)

pub of_next : (s : Source) (ps rest front back : List Piece) (m : Option Misfit) (before now : List Statement) → 0 < length rest → AreSplit rest front back → AreOfGoals ps → AllPassed s ps rest m before now → AreOfGoal front
of_next s ps rest front back m before now h d o a = let l = a.passed o.0 o.1 in next_goal l.others rest front back h d l.are

no_goals : (os : List Goal) → [] ≡ goal_pieces os → os ≡ []
no_goals [] e = refl
no_goals (o ∷ os) e = cc

no_pieces : (rest : List Piece) → length rest ≡ 0 → rest ≡ []
no_pieces [] e = refl
no_pieces (p ∷ ps) e = absurd (omega (arith, e))

pub all_found : (s : Source) (ps rest : List Piece) (m : Option Misfit) (before now : List Statement) → length rest ≡ 0 → AllPassed s ps rest m before now → (gs : List Goal) → ps ≡ goal_pieces gs → m ≡ least (file_misfits s gs)
all_found s ps rest m before now h a gs e =
    let l = a.passed gs e in
    let none = no_goals l.others (sym (no_pieces rest h) ∙ l.are) in
    sym (also_none m) ∙ ap (λ v. also m (least (file_misfits s v))) (sym none) ∙ l.so_far

pub all_added : (s : Source) (ps rest : List Piece) (m : Option Misfit) (before now : List Statement) → length rest ≡ 0 → AllPassed s ps rest m before now
    → m ≡ None → (gs : List Goal) → ps ≡ goal_pieces gs → now ≡ before ++ map (statement s) gs
all_added s ps rest m before now h a none gs e =
    let l = a.passed gs e in
    let no_more = no_goals l.others (sym (no_pieces rest h) ∙ l.are) in
    sym (append-nil now) ∙ ap (λ v. now ++ map (statement s) v) (sym no_more) ∙ l.added none

-- a file whose types fit
pub states : (s : Source) (gs : List Goal) (ss : List Statement) → None ≡ least (file_misfits s gs) → ss ≡ map (statement s) gs → States s gs ss
states s gs ss h e = record { fit = none_least (file_misfits s gs) (sym h); are = e }

-- ---- the head and the string of a goal

last_one : (xs : List Piece) (p : Piece) → slice_get (xs ++ p ∷ []) (length (xs ++ p ∷ []) - 1) ≡ Some p
last_one xs p =
    let count : length (xs ++ p ∷ []) - 1 ≡ length xs = omega (arith, length-append xs (p ∷ [])) in
    ap (slice_get (xs ++ p ∷ [])) count ∙ at_seam xs
  where
    at_seam : (ys : List Piece) → slice_get (ys ++ p ∷ []) (length ys) ≡ Some p
    at_seam [] = refl
    at_seam (y ∷ ys) = at_seam ys

pub last_piece : (ps : List Piece) (g : Goal) → ps ≡ goal_pieces (g ∷ []) → slice_get ps (length ps - 1) ≡ Some (piece.Proof g.stored)
last_piece ps g e =
    let front = piece.Goal g.head g.path ∷ (binder_pieces g.binders ++ pieces g.conclusion) in
    let split : ps ≡ front ++ piece.Proof g.stored ∷ [] = e ∙ ap (λ v. piece.Goal g.head g.path ∷ v) (sym (append_assoc (binder_pieces g.binders) (pieces g.conclusion) (piece.Proof g.stored ∷ []))) in
    ap (λ (v : List Piece). slice_get v (length v - 1)) split ∙ last_one front (piece.Proof g.stored)
