-- The tokens of a goal's line are read as that goal alone.
use Rattle.std.proofs.Common.{◌≡◌, ℕ, ◌+◌, ◌-◌, Bool, true, List, [], ◌∷◌, ◌++◌, length, Some, None, refl, ap, ap₂, ◌∙◌, subst, arith, length-append}
use Rattle.std.specs.Prelude.{All, map, flat_map, if◌then◌else◌}
use Rattle.std.proofs.lemmas.List.Elements.{All-head, All-tail}
use Rattle.bv_grammar.specs.declared.words.Word.{Word}
use Rattle.bv_grammar.specs.declared.words.Word.TheVariants as words
use Rattle.bv_grammar.specs.declared.words.Terminal.{Terminal}
use Rattle.bv_grammar.specs.declared.words.Terminal.TheVariants as terminal_kinds
use Rattle.bv_grammar.specs.Grammar.{begins_binder, begins_name, Begins, by_round, by_brace, by_binder}
use Rattle.bv_expr.specs.declared.ops.Sort.{Sort}
use Rattle.bv_expr.specs.declared.ops.Sort.TheVariants.{Truth, Vector}
use Rattle.bv_expr.specs.Goal.{Binders, is_sort}
use Rattle.bv_expr.specs.Sorts.{vectors, sort_of}
use Rattle.bv_expr.specs.Term.{Term}
use Rattle.bv_trees.specs.declared.pieces.Sort.{Sort as Written}
use Rattle.bv_trees.specs.declared.pieces.Sort.TheVariants as written
use Rattle.bv_trees.specs.Trees.{Tree, Binder, variables, hypothesis}
use Rattle.bv_trees.specs.Terms as t
use Rattle.bv_trees.specs.Terms.{IsAt, IsWord, IsNot, SortAt}
use Rattle.bv_trees.specs.Files as f
use Rattle.bv_typing.specs.declared.kind.Kind.TheVariants as kind
use Rattle.bv_typing.specs.Source.{Source}
use Rattle.bv_typing.specs.Variables.{Bound, sort_at, bounds, all_bounds}
use Rattle.bv_typing.specs.Readings.{Env, term, kind_of}
use Rattle.bv_typing.specs.Goals.{misfits, outermost, not_truth, truth_misfits, hypotheses}
use Rattle.bv_canon.specs.Written.{right, term_tokens}
use Rattle.bv_canon.specs.Lines.{sort_tokens, binder_tokens, hypothesis_tokens}
use Rattle.bv_canon.specs.Reading.{terminals, Stand, AreNamed, IsRead, IsSpellable}
use Rattle.bv_canon.proofs.Standing.{terminal_is, text_is, number_is, stand_left, stand_right}
use Rattle.bv_canon.proofs.Ends.{one_at, before_right}
use Rattle.bv_canon.proofs.Naming.{bound_list}
use Rattle.bv_canon.proofs.Terms.{term_read}

-- ---- what doesn't begin

no_name_word : (a : Terminal) (w : Word) → Begins begins_name a → a ≡ terminal_kinds.Word w → ⊥
no_name_word a w by_binder e = cc

no_binder_colon : (a : Terminal) → Begins begins_binder a → a ≡ terminal_kinds.Word words.Colon → ⊥
no_binder_colon a by_round e = cc
no_binder_colon a by_brace e = cc

no_further_name : (ts : List Terminal) (i : ℕ) {w : Word} → IsWord ts w i → IsNot ts begins_name i
no_further_name ts i {w = w} e a h b = no_name_word a w b (one_at ts i h e)

no_further_binder : (ts : List Terminal) (i : ℕ) → IsWord ts words.Colon i → IsNot ts begins_binder i
no_further_binder ts i e a h b = no_binder_colon a b (one_at ts i h e)

-- ---- sorts

-- the tokens from i up to j are this sort
record IsSort (s : Source) (i : ℕ) (sort : Sort) (j : ℕ) : Type 0 where
  tree : Written
  derived : SortAt (terminals s) i tree j
  is : sort_at s tree ≡ Some sort

vectors_some : (w : ℕ) → is_sort (Vector w) ≡ true → vectors w ≡ Some (Vector w)
vectors_some w h = ap (λ b. if b then Some (Vector w) else None) h

sort_read : (s : Source) (sort : Sort) (i : ℕ) → is_sort sort ≡ true → Stand s i (sort_tokens sort) → IsSort s i sort (i + length (sort_tokens sort))
sort_read s Truth i fits h = record { tree = written.Truth; derived = t.truths (terminal_is h.0); is = refl }
sort_read s (Vector w) i fits h =
    subst (λ n. IsSort s i (Vector w) n) (omega arith) (record { tree = written.Vector (i + 1); derived = t.vectors (terminal_is h.0) (terminal_is h.1.0); is = ap vectors (number_is h.1.0) ∙ vectors_some w fits })

-- ---- binders

-- The tokens from i up to k are binders, which bind these names and assume these terms.
pub record AreBinders (e : Env) (i k : ℕ) (bound : List Bound) (hyps : List Term) : Type 0 where
  pub binders : List Binder
  pub derived : f.Binders (terminals e.source) i binders k
  pub binds : all_bounds e.source binders ≡ bound
  pub fit : flat_map (misfits e) (hypotheses binders) ≡ []
  pub truths : flat_map (truth_misfits e) (hypotheses binders) ≡ []
  pub are : map (term e 0) (hypotheses binders) ≡ hyps

from : {e : Env} {i j k : ℕ} {bound : List Bound} {hyps : List Term} → i ≡ j → AreBinders e i k bound hyps → AreBinders e j k bound hyps
from {e} {k = k} {bound = bound} {hyps = hyps} h r = subst (λ n. AreBinders e n k bound hyps) h r

no_binders : (e : Env) (i : ℕ) → IsWord (terminals e.source) words.Colon i → AreBinders e i i [] []
no_binders e i h = record { binders = []; derived = f.no_binder (no_further_binder (terminals e.source) i h); binds = refl; fit = refl; truths = refl; are = refl }

both_none : {A : Type 0} {u v : List A} → u ≡ [] → v ≡ [] → u ++ v ≡ []
both_none {A} h k = ap₂ (λ (u v : List A). u ++ v) h k

-- a variable before them
variable_before : (e : Env) (b : List ℕ × Sort) (i k : ℕ) (bound : List Bound) (hyps : List Term) → is_sort b.1 ≡ true → Stand e.source i (binder_tokens b) → AreBinders e (i + length (binder_tokens b)) k bound hyps
    → AreBinders e i k (record { at = i + 1; name = b.0; sort = Some b.1 } ∷ bound) hyps
variable_before e b i k bound hyps fits h rest =
    let s = e.source in
    let q = sort_read s b.1 (i + 1 + 1 + 1) fits (stand_left s (i + 1 + 1 + 1) (sort_tokens b.1) (right ∷ []) h.1.1.1) in
    let close = stand_right s (i + 1 + 1 + 1) (sort_tokens b.1) (right ∷ []) h.1.1.1 in
    let r = from {j = i + 1 + 1 + 1 + length (sort_tokens b.1) + 1} (omega (arith, length-append (sort_tokens b.1) (right ∷ []))) rest in
    let one : bounds s (sort_at s q.tree) (i + 1) (i + 1 + 1 - (i + 1)) ≡ record { at = i + 1; name = b.0; sort = Some b.1 } ∷ [] = ap (bounds s (sort_at s q.tree) (i + 1)) (one_name (i + 1)) ∙ ap₂ (λ n o. record { at = i + 1; name = n; sort = o } ∷ []) (text_is h.1.0) q.is in
    record {
      binders = variables (i + 1) (i + 1 + 1) q.tree ∷ r.binders;
      derived = f.round (terminal_is h.0) (terminal_is h.1.0) (f.no_name (no_further_name (terminals s) (i + 1 + 1) (terminal_is h.1.1.0))) (terminal_is h.1.1.0) (f.to_sort q.derived) (terminal_is close.0) r.derived;
      binds = ap₂ (λ u v. u ++ v) one r.binds;
      fit = r.fit;
      truths = r.truths;
      are = r.are;
    }
  where
    one_name : (n : ℕ) → n + 1 - n ≡ 1
    one_name n = omega arith

pub variables_before : (e : Env) (bs : Binders) (i k : ℕ) (hyps : List Term) → All (λ b. is_sort b.1 ≡ true) bs → Stand e.source i (flat_map binder_tokens bs) → AreBinders e (i + length (flat_map binder_tokens bs)) k [] hyps
    → AreBinders e i k (bound_list i bs) hyps
variables_before e [] i k hyps fits h rest = from (omega arith) rest
variables_before e (b ∷ bs) i k hyps fits h rest =
    let s = e.source in
    let r = variables_before e bs (i + length (binder_tokens b)) k hyps (All-tail (λ b. is_sort b.1 ≡ true) b bs fits) (stand_right s i (binder_tokens b) (flat_map binder_tokens bs) h)
    (from (omega (arith, length-append (binder_tokens b) (flat_map binder_tokens bs))) rest) in
    variable_before e b i k (bound_list (i + length (binder_tokens b)) bs) hyps (All-head (λ b. is_sort b.1 ≡ true) b bs fits) (stand_left s i (binder_tokens b) (flat_map binder_tokens bs) h) r

-- ---- hypotheses

-- a truth whose names name its variables
pub record IsReadable (e : Env) (binders : Binders) (x : Term) : Type 0 where
  pub fits : IsSpellable binders x
  pub truth : sort_of x ≡ Some Truth
  pub named : AreNamed e.bounds binders x

-- a term that stands somewhere is a truth
pub truth_read : (e : Env) (binders : Binders) (x : Term) (b : Bool) (i : ℕ) → IsReadable e binders x → Stand e.source i (term_tokens b binders x) → IsRead e i x Truth (i + length (term_tokens b binders x))
truth_read e binders x b i r h = term_read binders x b e i Truth h r.fits.expr.leaves r.fits.expr.shallow r.truth r.named

pub is_truth : (e : Env) (x : Tree) → kind_of e x ≡ Some (kind.Sorted Truth) → truth_misfits e x ≡ []
is_truth e x h = ap (not_truth (outermost x)) h

hypothesis_before : (e : Env) (binders : Binders) (x : Term) (i k : ℕ) (hyps : List Term) → IsReadable e binders x → Stand e.source i (hypothesis_tokens binders x) → AreBinders e (i + length (hypothesis_tokens binders x)) k [] hyps
    → AreBinders e i k [] (x ∷ hyps)
hypothesis_before e binders x i k hyps fits h rest =
    let s = e.source in
    let ws = term_tokens true binders x in
    let q = truth_read e binders x true (i + 1 + 1 + 1) fits (stand_left s (i + 1 + 1 + 1) ws (right ∷ []) h.1.1.1) in
    let close = stand_right s (i + 1 + 1 + 1) ws (right ∷ []) h.1.1.1 in
    let r = from {j = i + 1 + 1 + 1 + length ws + 1} (omega (arith, length-append ws (right ∷ []))) rest in
    record {
      binders = hypothesis q.tree ∷ r.binders;
      derived = f.round (terminal_is h.0) (terminal_is h.1.0) (f.no_name (no_further_name (terminals s) (i + 1 + 1) (terminal_is h.1.1.0))) (terminal_is h.1.1.0) (f.to_term (before_right q.derived (terminal_is close.0))) (terminal_is close.0) r.derived;
      binds = r.binds;
      fit = both_none q.fit r.fit;
      truths = both_none (is_truth e q.tree q.typed) r.truths;
      are = ap₂ (λ y ys. y ∷ ys) (q.is 0) r.are;
    }

pub hypotheses_before : (e : Env) (binders : Binders) (hyps : List Term) (i k : ℕ) → All (IsReadable e binders) hyps → Stand e.source i (flat_map (hypothesis_tokens binders) hyps) → k ≡ i + length (flat_map (hypothesis_tokens binders) hyps)
    → IsWord (terminals e.source) words.Colon k → AreBinders e i k [] hyps
hypotheses_before e binders [] i k fits h n colon = from {j = i} (omega (arith, n)) (no_binders e k colon)
hypotheses_before e binders (x ∷ hyps) i k fits h n colon =
    let s = e.source in
    let ws = hypothesis_tokens binders x in
    let others = flat_map (hypothesis_tokens binders) hyps in
    hypothesis_before e binders x i k hyps (All-head (IsReadable e binders) x hyps fits) (stand_left s i ws others h)
    (hypotheses_before e binders hyps (i + length ws) k (All-tail (IsReadable e binders) x hyps fits) (stand_right s i ws others h) (omega (arith, n, length-append ws others)) colon)
