-- The pieces of a goal whose types fit, with the widths that are found from its notes, put the terms of its hypotheses and of
-- its conclusion on the stack.
use Rattle.std.proofs.Common.{◌≡◌, List, [], ◌∷◌, ◌++◌, Some, refl, sym, ◌∙◌, ap, append_assoc, append-nil}
use Rattle.std.specs.Prelude.{flat_map, map, reverse}
use Rattle.std.proofs.lemmas.Grind.{reverse_onto}
use Rattle.bv_expr.specs.declared.ops.Sort.TheVariants.{Truth}
use Rattle.bv_trees.specs.declared.pieces.Piece.{Piece}
use Rattle.bv_trees.specs.declared.pieces.Piece.TheVariants as piece
use Rattle.bv_trees.specs.Trees.{Tree, Binder, variables, hypothesis, Goal}
use Rattle.bv_trees.specs.Codes.{pieces, binder_pieces}
use Rattle.bv_typing.specs.declared.item.Item.{Item}
use Rattle.bv_typing.specs.declared.item.Item.TheVariants.{Made}
use Rattle.bv_typing.specs.declared.note.Note.{Note}
use Rattle.bv_typing.specs.declared.kind.Kind.TheVariants as kind
use Rattle.bv_typing.specs.Source.{Source}
use Rattle.bv_typing.specs.Variables.{all_bounds}
use Rattle.bv_typing.specs.Readings.{Env, kind_of, term}
use Rattle.bv_typing.specs.Notes.{nothing, notes, binder_notes}
use Rattle.bv_typing.specs.Goals.{hypotheses, terms_of, env_of, misfits, truth_misfits, bound_misfits, goal_misfits}
use Rattle.bv_typing.specs.Stacks.{top, below}
use Rattle.bv_typing.proofs.InGoals.{own_pieces}
use Rattle.bv_terms.specs.Sorting.{Bounded}
use Rattle.bv_terms.specs.Widths.{told, found}
use Rattle.bv_terms.specs.Building.{build}
use Rattle.bv_terms.proofs.Told.{told_tree, found_tree}
use Rattle.bv_terms.proofs.Built.{Numbered}
use Rattle.bv_terms.proofs.FoldParts.{part_of}
use Rattle.bv_terms.proofs.FoldMethod.{onto}
use Rattle.bv_terms.proofs.FoldTree.{built_tree}
use Rattle.bv_terms.proofs.FoldFits.{both_none, AreTruths, fitting_truths, last_truth}

-- the notes of a goal's pieces
abbrev pub goal_notes : Source → Goal → List Note
goal_notes s g = nothing ∷ (binder_notes (env_of s g) g.binders ++ (notes (env_of s g) g.conclusion ++ nothing ∷ []))

-- the items of truths
abbrev pub truth_items : Env → List Tree → List Item
truth_items e ts = map (λ x. Made (term e 0 x)) ts

-- one by one onto a stack, they lie there in turned order
onto_reverse : (xs st : List Item) → onto xs st ≡ reverse xs ++ st
onto_reverse [] st = refl
onto_reverse (x ∷ xs) st = onto_reverse xs (x ∷ st) ∙ sym (append_assoc (reverse xs) (x ∷ []) st) ∙ ap (λ v. v ++ st) (sym (reverse_onto xs x []))

-- ---- nothing is told from outside

-- behind a tree nothing is told where nothing is told before it
tree_told_none : (e : Env) (t : Tree) (ps : List Piece) (ns : List Note) → told ps ns [] ≡ [] → told (pieces t ++ ps) (notes e t ++ ns) [] ≡ []
tree_told_none e t ps ns h = told_tree e t ps ns [] ∙ ap below h

binders_told_none : (e : Env) (bs : List Binder) (ps : List Piece) (ns : List Note) → told ps ns [] ≡ [] → told (binder_pieces bs ++ ps) (binder_notes e bs ++ ns) [] ≡ []
binders_told_none e [] ps ns h = h
binders_told_none e (variables i j s ∷ bs) ps ns h = ap below (binders_told_none e bs ps ns h)
binders_told_none e (hypothesis x ∷ bs) ps ns h =
    (λ i. told (append_assoc (pieces x) (binder_pieces bs) ps i) (append_assoc (notes e x) (binder_notes e bs) ns i) [])
    ∙ tree_told_none e x (binder_pieces bs ++ ps) (binder_notes e bs ++ ns) (binders_told_none e bs ps ns h)

-- ---- truths

truth_built : (e : Env) → Bounded e → Numbered e → (t : Tree) → kind_of e t ≡ Some (kind.Sorted Truth) → (ps : List Piece) (ns : List Note) (st : List Item) → told ps ns [] ≡ []
    → build e (pieces t ++ ps) (found (pieces t ++ ps) (notes e t ++ ns) []) st ≡ build e ps (found ps ns []) (Made (term e 0 t) ∷ st)
truth_built e bd nb t k ps ns st h =
    ap (λ ws. build e (pieces t ++ ps) ws st) (found_tree e t 0 ps ns [] (ap top h))
    ∙ built_tree e bd nb t (kind.Sorted Truth) k 0 tt ps (found ps ns []) st
    ∙ ap (λ x. build e ps (found ps ns []) (x ∷ st)) ((part_of e bd t (kind.Sorted Truth) k).as_made 0 tt)

binders_built : (e : Env) → Bounded e → Numbered e → (bs : List Binder) → AreTruths e (hypotheses bs) → (ps : List Piece) (ns : List Note) (st : List Item) → told ps ns [] ≡ []
    → build e (binder_pieces bs ++ ps) (found (binder_pieces bs ++ ps) (binder_notes e bs ++ ns) []) st ≡ build e ps (found ps ns []) (onto (truth_items e (hypotheses bs)) st)
binders_built e bd nb [] a ps ns st h = refl
binders_built e bd nb (variables i j s ∷ bs) a ps ns st h = binders_built e bd nb bs a ps ns st h
binders_built e bd nb (hypothesis x ∷ bs) a ps ns st h =
    (λ i. build e (append_assoc (pieces x) (binder_pieces bs) ps i) (found (append_assoc (pieces x) (binder_pieces bs) ps i) (append_assoc (notes e x) (binder_notes e bs) ns i) []) st)
    ∙ truth_built e bd nb x a.0 (binder_pieces bs ++ ps) (binder_notes e bs ++ ns) st (binders_told_none e bs ps ns h)
    ∙ binders_built e bd nb bs a.1 ps ns (Made (term e 0 x) ∷ st) h

-- ---- goals

-- the terms of a goal whose types fit are truths
goal_truths : (s : Source) (g : Goal) → goal_misfits s g ≡ [] → AreTruths (env_of s g) (hypotheses g.binders) × (kind_of (env_of s g) g.conclusion ≡ Some (kind.Sorted Truth))
goal_truths s g h =
    let e = env_of s g in
    let p = both_none (bound_misfits [] (all_bounds s g.binders)) (flat_map (misfits e) (terms_of g) ++ flat_map (truth_misfits e) (terms_of g)) h in
    let q = both_none (flat_map (misfits e) (terms_of g)) (flat_map (truth_misfits e) (terms_of g)) p.1 in
    last_truth e (hypotheses g.binders) g.conclusion (fitting_truths e (terms_of g) q.0 q.1)

-- its conclusion's term lies topmost, and below it those of its hypotheses, the last first
pub built_goal : (s : Source) (g : Goal) → Bounded (env_of s g) → Numbered (env_of s g) → goal_misfits s g ≡ []
    → build (env_of s g) (own_pieces g) (found (own_pieces g) (goal_notes s g) []) [] ≡ Some (Made (term (env_of s g) 0 g.conclusion) ∷ reverse (truth_items (env_of s g) (hypotheses g.binders)))
built_goal s g bd nb h =
    let e = env_of s g in
    let t = goal_truths s g h in
    let end = piece.Proof g.stored ∷ [] in
    binders_built e bd nb g.binders t.0 (pieces g.conclusion ++ end) (notes e g.conclusion ++ nothing ∷ []) [] (tree_told_none e g.conclusion end (nothing ∷ []) refl)
    ∙ truth_built e bd nb g.conclusion t.1 end (nothing ∷ []) (onto (truth_items e (hypotheses g.binders)) []) refl
    ∙ ap (λ st. Some (Made (term e 0 g.conclusion) ∷ st)) (onto_reverse (truth_items e (hypotheses g.binders)) [] ∙ append-nil (reverse (truth_items e (hypotheses g.binders))))
