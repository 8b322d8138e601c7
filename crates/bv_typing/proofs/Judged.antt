-- The walk over the pieces of a tree finds its kind, what it notes and its faults.
use Rattle.std.proofs.Common.{◌≡◌, ℕ, suc, ◌+◌, max, List, [], ◌∷◌, ◌++◌, Option, Some, None, refl, sym, ap, arith, ◌∙◌, append_assoc, append-nil}
use Rattle.std.specs.Prelude.{option_map, option_and_then, map, flat_map}
use Rattle.bv_grammar.specs.declared.words.Word.{Word}
use Rattle.bv_expr.specs.declared.ops.Sort.TheVariants.{Truth}
use Rattle.bv_expr.specs.Sorts.{vectors}
use Rattle.bv_limits.specs.Depths.{depth, depths}
use Rattle.bv_trees.specs.declared.pieces.Piece.{Piece}
use Rattle.bv_trees.specs.declared.pieces.Piece.TheVariants as piece
use Rattle.bv_trees.specs.Trees.{Tree, Trees, name, numeral, literal, prefix, infix_, method, ascribed, no_more, and, Binder, variables, hypothesis, Goal}
use Rattle.bv_trees.specs.Trees as trees
use Rattle.bv_trees.specs.Codes.{pieces, arguments, binder_pieces}
use Rattle.bv_typing.specs.declared.kind.Kind.{Kind}
use Rattle.bv_typing.specs.declared.kind.Kind.TheVariants as kind
use Rattle.bv_typing.specs.declared.kind.Row.{Row}
use Rattle.bv_typing.specs.declared.kind.Row.TheVariants as row
use Rattle.bv_typing.specs.declared.method.Method.{Method}
use Rattle.bv_typing.specs.declared.misfit.Misfit.{Misfit}
use Rattle.bv_typing.specs.declared.note.Note.{Note}
use Rattle.bv_typing.specs.declared.verdicts.Typed.{Typed}
use Rattle.bv_typing.specs.declared.verdicts.Verdict.{Verdict}
use Rattle.bv_typing.specs.declared.verdicts.Gathered.{Gathered}
use Rattle.bv_typing.specs.declared.judging.Part.{Part}
use Rattle.bv_typing.specs.declared.judging.Slot.{Slot}
use Rattle.bv_typing.specs.declared.judging.Slot.TheVariants as slot
use Rattle.bv_typing.specs.Source.{number_at}
use Rattle.bv_typing.specs.Rows.{sorted}
use Rattle.bv_typing.specs.Variables.{sort_at}
use Rattle.bv_typing.specs.Readings.{Env, judged, kinds, kind_of, typed, name_row, variable_at, method_at, infix_width, either, width_in, width_for}
use Rattle.bv_typing.specs.Goals.{own, misfits, all_misfits, outermost, least, not_truth, truth_misfits, hypotheses}
use Rattle.bv_typing.specs.Earliest.{also}
use Rattle.bv_typing.specs.Notes.{nothing, tells, number_of, notes, all_notes, binder_notes}
use Rattle.bv_typing.specs.Verdicts.{none_gathered, gathered_before, kinds_before, deepest, method_verdict, ascribed_verdict, prefix_verdict, infix_verdict, choice_verdict}
use Rattle.bv_typing.specs.Judging as spec
use Rattle.bv_typing.specs.Judging.{Judging, judge, judge_all, gather, complete, row_in, typed_in, kind_in, truths_misfit, least_of, start}
use Rattle.bv_typing.proofs.Least.{also_none, also_assoc, least-append, least_behind}
use Rattle.bv_typing.proofs.ByParts.{at, kind_again, with_row, says_prefix, says_infix, says_choice, says_ascribed, says_method, few_of}

-- ---- what is found

abbrev pub part : Env → Tree → Part
part e t = record { typed = at (depth t) (kind_of e t); outermost = outermost t }

abbrev pub parts : Env → Trees → List Part
parts e no_more = []
parts e (and x xs) = part e x ∷ parts e xs

-- one behind the other
abbrev pub pushed : List Part → List Slot → List Slot
pushed [] ss = ss
pushed (p ∷ ps) ss = pushed ps (slot.Term p ∷ ss)

abbrev pub found : List Part → List Note → List Misfit → Judging → Judging
found ps ns fs s = record { slots = pushed ps s.slots; notes = s.notes ++ ns; least = also s.least (least fs) }

abbrev pub tree_found : Env → Tree → Judging → Judging
tree_found e t s = found (part e t ∷ []) (notes e t) (misfits e t) s

pub pieces_split : (e : Env) (ps qs : List Piece) (s : Judging) → judge_all e (ps ++ qs) s ≡ judge_all e qs (judge_all e ps s)
pieces_split e [] qs s = refl
pieces_split e (p ∷ ps) qs s = pieces_split e ps qs (judge e p s)

-- pieces, and others behind them
behind : (e : Env) (ps qs : List Piece) (s t : Judging) → judge_all e ps s ≡ t → judge_all e (ps ++ qs) s ≡ judge_all e qs t
behind e ps qs s t h = pieces_split e ps qs s ∙ ap (judge_all e qs) h

pushed_behind : (ps qs : List Part) (ss : List Slot) → pushed qs (pushed ps ss) ≡ pushed (ps ++ qs) ss
pushed_behind [] qs ss = refl
pushed_behind (p ∷ ps) qs ss = pushed_behind ps qs (slot.Term p ∷ ss)

-- what is found, and more behind it
pub found_twice : (ps qs : List Part) (ns ms : List Note) (fs gs : List Misfit) (s : Judging) → found qs ms gs (found ps ns fs s) ≡ found (ps ++ qs) (ns ++ ms) (fs ++ gs) s
found_twice ps qs ns ms fs gs s = λ i. record { slots = pushed_behind ps qs s.slots i; notes = append_assoc s.notes ns ms i; least = least_behind s.least fs gs i }

found_nothing : (s : Judging) → s ≡ found [] [] [] s
found_nothing s = λ i. record { slots = s.slots; notes = sym (append-nil s.notes) i; least = sym (also_none s.least) i }

-- a term is complete, whose parts were found so
completes : (i o : ℕ) (v : Option Verdict) (n : Note) (r : Option Row) (a : Option Typed) (n' : Note) (ns : List Note) (fs : List Misfit) (ps : List Part) (s : Judging) → typed_in v ≡ a → n ≡ n' → row_in v ≡ r
    → complete i o v n s.slots (found ps ns fs s) ≡ found (record { typed = a; outermost = o } ∷ []) (ns ++ n' ∷ []) (fs ++ own i r) s
completes i o v n r a n' ns fs ps s e f g =
    (λ k. record { slots = slot.Term (record { typed = e k; outermost = o }) ∷ s.slots; notes = (s.notes ++ ns) ++ f k ∷ []; least = also (also s.least (least fs)) (least (own i (g k))) })
    ∙ (λ k. record { slots = slot.Term (record { typed = a; outermost = o }) ∷ s.slots; notes = append_assoc s.notes ns (n' ∷ []) k; least = least_behind s.least fs (own i r) k })

leaves : (i : ℕ) (r : Row) (s : Judging) → spec.leaf i r s ≡ found (record { typed = at 1 (typed (Some r)); outermost = i } ∷ []) (nothing ∷ []) (own i (Some r)) s
leaves i r s = λ k. record { slots = slot.Term (record { typed = with_row 1 r k; outermost = i }) ∷ s.slots; notes = s.notes ++ nothing ∷ []; least = also s.least (least (own i (Some r))) }

-- ---- the arguments of a method

abbrev gathered_to : List Part → Gathered → Gathered
gathered_to [] g = g
gathered_to (p ∷ ps) g = gathered_before p.typed (gathered_to ps g)

gather-pushed : (ps : List Part) (ss : List Slot) (g : Gathered) → gather (pushed ps ss) g ≡ gather ss (gathered_to ps g)
gather-pushed [] ss g = refl
gather-pushed (p ∷ ps) ss g = gather-pushed ps (slot.Term p ∷ ss) g

plus_one : (m n : ℕ) → m ≡ n → m + 1 ≡ suc n
plus_one m n e = omega (arith, e)

count_is : (e : Env) (xs : Trees) → (gathered_to (parts e xs) none_gathered).count ≡ number_of xs
count_is e no_more = refl
count_is e (and x xs) = plus_one _ _ (count_is e xs)

kinds_more : (d : ℕ) (a : Option Kind) (b : Option (List Kind)) → kinds_before (at d a) (option_map few_of b) ≡ option_map few_of (option_and_then (λ k. option_map (λ ks. k ∷ ks) b) a)
kinds_more d None None = refl
kinds_more d None (Some ks) = refl
kinds_more d (Some k) None = refl
kinds_more d (Some k) (Some ks) = refl

kinds_are : (e : Env) (xs : Trees) → (gathered_to (parts e xs) none_gathered).kinds ≡ option_map few_of (kinds e xs)
kinds_are e no_more = refl
kinds_are e (and x xs) = ap (kinds_before (at (depth x) (kind_of e x))) (kinds_are e xs) ∙ kinds_more (depth x) (kind_of e x) (kinds e xs)

-- where all are typed, the deepest of them is known
deeper_by : (d f g : ℕ) (a : Option Kind) (b : Option (List Kind)) → ((ks : List Kind) → b ≡ Some ks → g ≡ f)
    → (ks : List Kind) → option_and_then (λ k. option_map (λ ls. k ∷ ls) b) a ≡ Some ks → deepest (at d a) g ≡ max d f
deeper_by d f g None b h ks e = cc
deeper_by d f g (Some k) None h ks e = cc
deeper_by d f g (Some k) (Some ls) h ks e = ap (max d) (h ls refl)

depth_is : (e : Env) (xs : Trees) (ks : List Kind) → kinds e xs ≡ Some ks → (gathered_to (parts e xs) none_gathered).depth ≡ depths xs
depth_is e no_more ks h = refl
depth_is e (and x xs) ks h = deeper_by (depth x) (depths xs) _ (kind_of e x) (kinds e xs) (depth_is e xs) ks h

-- ---- trees

note_of_infix : (o : Word) (d f : ℕ) (a b : Option Kind) → tells (infix_width o (kind_in (at d a)) (kind_in (at f b))) ≡ tells (infix_width o a b)
note_of_infix o d f a b = λ i. tells (infix_width o (kind_again d a i) (kind_again f b i))

note_of_choice : (d f : ℕ) (a b : Option Kind) → tells (either (width_in (kind_in (at d a))) (width_in (kind_in (at f b)))) ≡ tells (either (width_in a) (width_in b))
note_of_choice d f a b = λ i. tells (either (width_in (kind_again d a i)) (width_in (kind_again f b i)))

abbrev method_note : Option Method → Option Kind → ℕ → Note
method_note m a n = record { width = width_for m a; arguments = n }

note_of_method : (m : Option Method) (d : ℕ) (a : Option Kind) (g n : ℕ) → g ≡ n → method_note m (kind_in (at d a)) g ≡ method_note m a n
note_of_method m d a g n e = λ i. method_note m (kind_again d a i) (e i)

-- arguments, behind a method that is called
called_behind : (x : Part) (ps : List Part) (ns ms : List Note) (fs gs : List Misfit) (s : Judging)
    → found ps ms gs (spec.calling (found (x ∷ []) ns fs s)) ≡ record { slots = pushed ps (slot.Call ∷ slot.Term x ∷ s.slots); notes = s.notes ++ (ns ++ nothing ∷ ms); least = also s.least (least (fs ++ gs)) }
called_behind x ps ns ms fs gs s =
    λ i. record { slots = pushed ps (slot.Call ∷ slot.Term x ∷ s.slots); notes = (append_assoc (s.notes ++ ns) (nothing ∷ []) ms ∙ append_assoc s.notes ns (nothing ∷ ms)) i; least = least_behind s.least fs gs i }

method_behind : (m : Option Method) (i : ℕ) (x : Part) (ps : List Part) (ns : List Note) (fs : List Misfit) (s t : Judging) → t ≡ record { slots = pushed ps (slot.Call ∷ slot.Term x ∷ s.slots); notes = s.notes ++ ns; least = also s.least (least fs) }
    → spec.on_method m i (gather t.slots none_gathered) t ≡ spec.called m i x (gathered_to ps none_gathered) s.slots (found ps ns fs s)
method_behind m i x ps ns fs s t e =
    (λ k. spec.on_method m i (gather (e k).slots none_gathered) (e k))
    ∙ (λ k. spec.on_method m i (gather-pushed ps (slot.Call ∷ slot.Term x ∷ s.slots) none_gathered k) (record { slots = pushed ps (slot.Call ∷ slot.Term x ∷ s.slots); notes = s.notes ++ ns; least = also s.least (least fs) }))

two : (a b c : List Note) → (a ++ b) ++ c ≡ a ++ (b ++ c)
two a b c = append_assoc a b c

same_found : (ps : List Part) {ns ms : List Note} {fs gs : List Misfit} (s : Judging) → ns ≡ ms → fs ≡ gs → found ps ns fs s ≡ found ps ms gs s
same_found ps s e f = λ i. found ps (e i) (f i) s

three_notes : (a b c : List Note) (n : Note) → ((a ++ b) ++ c) ++ n ∷ [] ≡ a ++ (b ++ (c ++ n ∷ []))
three_notes a b c n = append_assoc (a ++ b) c (n ∷ []) ∙ append_assoc a b (c ++ n ∷ [])

three_misfits : (a b c d : List Misfit) → ((a ++ b) ++ c) ++ d ≡ a ++ (b ++ (c ++ d))
three_misfits a b c d = append_assoc (a ++ b) c d ∙ append_assoc a b (c ++ d)

mutual
  pub tree_judged : (e : Env) (t : Tree) (s : Judging) → judge_all e (pieces t) s ≡ tree_found e t s
  tree_judged e (name i) s = leaves i (name_row (variable_at e i)) s
  tree_judged e (numeral i) s = leaves i (row.Typed (kind.Number (number_at e.source i))) s
  tree_judged e (literal i w) s = leaves i (sorted (vectors (number_at e.source w))) s
  tree_judged e (trees.constant c i) s = leaves i (row.Typed (kind.Sorted Truth)) s
  tree_judged e (prefix o i x) s =
      let v = says_prefix o (depth x) (kind_of e x) in
      behind e (pieces x) (piece.Prefix o i ∷ []) s _ (tree_judged e x s)
      ∙ completes i i (prefix_verdict o (at (depth x) (kind_of e x))) nothing (judged e (prefix o i x)) _ nothing (notes e x) (misfits e x) (part e x ∷ []) s v.typed_is refl v.row_is
  tree_judged e (infix_ o i x y) s =
      let v = says_infix o (depth x) (depth y) (kind_of e x) (kind_of e y) in
      behind e (pieces x) (pieces y ++ piece.Infix o i ∷ []) s _ (tree_judged e x s)
      ∙ behind e (pieces y) (piece.Infix o i ∷ []) _ _ (tree_judged e y _ ∙ found_twice (part e x ∷ []) (part e y ∷ []) (notes e x) (notes e y) (misfits e x) (misfits e y) s)
      ∙ completes i i (infix_verdict o (at (depth x) (kind_of e x)) (at (depth y) (kind_of e y))) _ (judged e (infix_ o i x y)) _ _ (notes e x ++ notes e y) (misfits e x ++ misfits e y) (part e x ∷ part e y ∷ []) s
      v.typed_is (note_of_infix o (depth x) (depth y) (kind_of e x) (kind_of e y)) v.row_is
      ∙ same_found (part e (infix_ o i x y) ∷ []) s (append_assoc (notes e x) (notes e y) _) (append_assoc (misfits e x) (misfits e y) _)
  tree_judged e (trees.choice i x y z) s =
      let v = says_choice (depth x) (depth y) (depth z) (kind_of e x) (kind_of e y) (kind_of e z) in
      behind e (pieces x) (pieces y ++ (pieces z ++ piece.Choice i ∷ [])) s _ (tree_judged e x s)
      ∙ behind e (pieces y) (pieces z ++ piece.Choice i ∷ []) _ _ (tree_judged e y _ ∙ found_twice (part e x ∷ []) (part e y ∷ []) (notes e x) (notes e y) (misfits e x) (misfits e y) s)
      ∙ behind e (pieces z) (piece.Choice i ∷ []) _ _ (tree_judged e z _ ∙ found_twice (part e x ∷ part e y ∷ []) (part e z ∷ []) (notes e x ++ notes e y) (notes e z) (misfits e x ++ misfits e y) (misfits e z) s)
      ∙ completes i i (choice_verdict (at (depth x) (kind_of e x)) (at (depth y) (kind_of e y)) (at (depth z) (kind_of e z))) _ (judged e (trees.choice i x y z)) _ _ ((notes e x ++ notes e y) ++ notes e z) ((misfits e x ++ misfits e y) ++ misfits e z) (part e x ∷ part e y ∷ part e z ∷ []) s
      v.typed_is (note_of_choice (depth y) (depth z) (kind_of e y) (kind_of e z)) v.row_is
      ∙ same_found (part e (trees.choice i x y z) ∷ []) s (three_notes (notes e x) (notes e y) (notes e z) _) (three_misfits (misfits e x) (misfits e y) (misfits e z) _)
  tree_judged e (method i x xs) s =
      let m = method_at e i in
      let g = gathered_to (parts e xs) none_gathered in
      let v = says_method m (depth x) (depths xs) (kind_of e x) (kinds e xs) g (kinds_are e xs) (depth_is e xs) in
      behind e (pieces x) (piece.Call i ∷ (arguments xs ++ piece.Method i ∷ [])) s _ (tree_judged e x s)
      ∙ behind e (arguments xs) (piece.Method i ∷ []) _ _ (trees_judged e xs _)
      ∙ method_behind m i (part e x) (parts e xs) (notes e x ++ nothing ∷ all_notes e xs) (misfits e x ++ all_misfits e xs) s _ (called_behind (part e x) (parts e xs) (notes e x) (all_notes e xs) (misfits e x) (all_misfits e xs) s)
      ∙ completes i i (method_verdict m (at (depth x) (kind_of e x)) g) _ (judged e (method i x xs)) _ _ (notes e x ++ nothing ∷ all_notes e xs) (misfits e x ++ all_misfits e xs) (parts e xs) s
      v.typed_is (note_of_method m (depth x) (kind_of e x) g.count (number_of xs) (count_is e xs)) v.row_is
      ∙ same_found (part e (method i x xs) ∷ []) s (append_assoc (notes e x) (nothing ∷ all_notes e xs) _) (append_assoc (misfits e x) (all_misfits e xs) _)
  tree_judged e (ascribed i x w) s =
      let v = says_ascribed (sort_at e.source w) (depth x) (kind_of e x) in
      behind e (pieces x) (piece.Ascribed i w ∷ []) s _ (tree_judged e x s)
      ∙ completes i (outermost x) (ascribed_verdict (sort_at e.source w) (at (depth x) (kind_of e x))) _ (judged e (ascribed i x w)) _ _ (notes e x) (misfits e x) (part e x ∷ []) s v.typed_is refl v.row_is

  pub trees_judged : (e : Env) (xs : Trees) (s : Judging) → judge_all e (arguments xs) s ≡ found (parts e xs) (all_notes e xs) (all_misfits e xs) s
  trees_judged e no_more s = found_nothing s
  trees_judged e (and x xs) s =
      behind e (pieces x) (arguments xs) s _ (tree_judged e x s)
      ∙ trees_judged e xs _
      ∙ found_twice (part e x ∷ []) (parts e xs) (notes e x) (all_notes e xs) (misfits e x) (all_misfits e xs) s

-- ---- goals

abbrev pub terms_parts : Env → List Tree → List Part
terms_parts e ts = map (part e) ts

-- the binders of a goal
pub binders_judged : (e : Env) (bs : List Binder) (s : Judging) → judge_all e (binder_pieces bs) s ≡ found (terms_parts e (hypotheses bs)) (binder_notes e bs) (flat_map (misfits e) (hypotheses bs)) s
binders_judged e [] s = found_nothing s
binders_judged e (variables i j w ∷ bs) s =
    binders_judged e bs (spec.passed s)
    ∙ (λ k. record { slots = pushed (terms_parts e (hypotheses bs)) s.slots; notes = append_assoc s.notes (nothing ∷ []) (binder_notes e bs) k; least = also s.least (least (flat_map (misfits e) (hypotheses bs))) })
binders_judged e (hypothesis x ∷ bs) s =
    behind e (pieces x) (binder_pieces bs) s _ (tree_judged e x s)
    ∙ binders_judged e bs _
    ∙ found_twice (part e x ∷ []) (terms_parts e (hypotheses bs)) (notes e x) (binder_notes e bs) (misfits e x) (flat_map (misfits e) (hypotheses bs)) s

-- those that are no truths
no_truths : (ps : List Part) (ss : List Slot) (m : Option Misfit) → truths_misfit (pushed ps ss) m ≡ truths_misfit ss (also (least (flat_map (λ p. not_truth p.outermost (kind_in p.typed)) ps)) m)
no_truths [] ss m = refl
no_truths (p ∷ ps) ss m =
    no_truths ps (slot.Term p ∷ ss) m
    ∙ ap (truths_misfit ss) (sym (also_assoc (spec.part_misfit p) (least (flat_map (λ q. not_truth q.outermost (kind_in q.typed)) ps)) m) ∙ ap (λ n. also n m) (sym (least-append (not_truth p.outermost (kind_in p.typed)) (flat_map (λ q. not_truth q.outermost (kind_in q.typed)) ps))))

truths_of : (e : Env) (ts : List Tree) → flat_map (λ (p : Part). not_truth p.outermost (kind_in p.typed)) (terms_parts e ts) ≡ flat_map (truth_misfits e) ts
truths_of e [] = refl
truths_of e (t ∷ ts) = λ i. not_truth (outermost t) (kind_again (depth t) (kind_of e t) i) ++ truths_of e ts i

-- the least fault of terms that were found so
pub least_found : (e : Env) (ts : List Tree) (ns : List Note) (fs : List Misfit) → least_of (found (terms_parts e ts) ns fs start) ≡ least (fs ++ flat_map (truth_misfits e) ts)
least_found e ts ns fs =
    ap (also (least fs)) (no_truths (terms_parts e ts) [] None ∙ also_none _ ∙ ap least (truths_of e ts))
    ∙ sym (least-append fs (flat_map (truth_misfits e) ts))
