-- Pieces of terms that are complete.
use Rattle.std.proofs.Common.{◌≡◌, ℕ, List, [], ◌∷◌, ◌++◌, Some, refl, sym, ap, subst, ◌∙◌, ◌⊎◌, inl, inr, append_assoc, append-nil}
use Rattle.bv_grammar.specs.declared.words.Terminal.{Terminal}
use Rattle.bv_trees.specs.declared.pieces.Piece.{Piece}
use Rattle.bv_trees.specs.Trees.{Tree}
use Rattle.bv_trees.specs.Codes.{pieces}
use Rattle.bv_trees.specs.Complete as d
use Rattle.bv_trees.specs.Complete.{Within, operator_of, Holds, IsLoose, Among, IsComplete}
use Rattle.bv_trees.proofs.Parts.{Whole}

-- these are the pieces of terms, and what stands in them is complete
pub record Held (ts : List Terminal) (ps : List Piece) : Type 0 where
  pub terms : List Tree
  pub holds : Holds ps terms
  pub complete : (y : Tree) (at : ℕ) → Among y terms → operator_of y ≡ Some at → IsComplete ts y at

-- pieces that begin with these
pub record Has (pre ps : List Piece) : Type 0 where
  pub rest : List Piece
  pub all : pre ++ rest ≡ ps

pub has_none : {ps : List Piece} → Has [] ps
has_none {ps} = record { rest = ps; all = refl }

pub has_itself : {ps : List Piece} → Has ps ps
has_itself {ps} = record { rest = []; all = append-nil ps }

pub has_more : {pre ps : List Piece} (qs : List Piece) → Has pre ps → Has pre (ps ++ qs)
has_more {pre} qs h = record { rest = h.rest ++ qs; all = sym (append_assoc pre h.rest qs) ∙ ap (λ w. w ++ qs) h.all }

pub has_as : {pre ps qs : List Piece} → ps ≡ qs → Has pre ps → Has pre qs
has_as {pre} e h = subst (Has pre) e h

pub held_as : {ts : List Terminal} {ps qs : List Piece} → ps ≡ qs → Held ts ps → Held ts qs
held_as {ts} e h = subst (Held ts) e h

among_split : (xs ys : List Tree) {y : Tree} → Among y (xs ++ ys) → Among y xs ⊎ Among y ys
among_split [] ys h = inr h
among_split (x ∷ xs) ys (d.in_first h) = inl (d.in_first h)
among_split (x ∷ xs) ys (d.in_others h) = elim (among_split xs ys h) [ inl a ↦ inl (d.in_others a) | inr b ↦ inr b ]

among_one : {x y : Tree} → Among y (x ∷ []) → Within y x
among_one (d.in_first h) = h
among_one (d.in_others h) = elim h [ ]

holds_both : {ps qs : List Piece} {xs ys : List Tree} → Holds ps xs → Holds qs ys → Holds (ps ++ qs) (xs ++ ys)
holds_both d.nothing k = k
holds_both {qs = qs} {ys = ys} (d.a_term {x = x} {ps = ps} {xs = xs} h) k = subst (λ w. Holds w (x ∷ (xs ++ ys))) (sym (append_assoc (pieces x) ps qs)) (d.a_term (holds_both h k))
holds_both (d.loose o h) k = d.loose o (holds_both h k)

one_term : (x : Tree) → Holds (pieces x) (x ∷ [])
one_term x = subst (λ w. Holds w (x ∷ [])) (append-nil (pieces x)) (d.a_term d.nothing)

pub none_held : {ts : List Terminal} → Held ts []
none_held = record { terms = []; holds = d.nothing; complete = λ y at h e. elim h [ ] }

pub held_term : {ts : List Terminal} {ps : List Piece} {x : Tree} → Held ts ps → Whole ts x → Held ts (ps ++ pieces x)
held_term {x = x} h w = record {
  terms = h.terms ++ x ∷ [];
  holds = holds_both h.holds (one_term x);
  complete = λ y at a e. elim (among_split h.terms (x ∷ []) a) [ inl b ↦ h.complete y at b e | inr b ↦ w y at (among_one b) e ];
}

pub held_loose : {ts : List Terminal} {ps : List Piece} {o : Piece} → Held ts ps → IsLoose o → Held ts (ps ++ o ∷ [])
held_loose {o = o} h w = record {
  terms = h.terms ++ [];
  holds = holds_both h.holds (d.loose w d.nothing);
  complete = λ y at a e. elim (among_split h.terms [] a) [ inl b ↦ h.complete y at b e | inr b ↦ elim b [ ] ];
}
