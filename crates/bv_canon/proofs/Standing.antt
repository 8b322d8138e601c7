-- Tokens that stand somewhere: what each of them tells, and the parts of a list of them.
use Rattle.std.proofs.Common.{◌≡◌, ℕ, ◌+◌, List, [], ◌∷◌, ◌++◌, length, Some, ap, ap₂, ◌∙◌, subst, arith}
use Rattle.std.specs.Prelude.{option_map}
use Rattle.std.proofs.lemmas.Option.{slice_get-map}
use Rattle.bv_terminals.specs.Spellings.{terminal_of, terminal_of_kind}
use Rattle.bv_trees.specs.Terms.{IsAt}
use Rattle.bv_typing.specs.Source.{Source, text_of, text_at, number_of, number_of_kind, number_at}
use Rattle.bv_canon.specs.Written.{Written, terminal}
use Rattle.bv_canon.specs.Reading.{terminals, Shows, Stand}

pub terminal_is : {s : Source} {i : ℕ} {w : Written} → Shows s i w → IsAt (terminals s) (terminal w) i
terminal_is {s} {i} {w} h = slice_get-map (terminal_of s.bytes) s.tokens i ∙ ap (option_map (terminal_of s.bytes)) h.here ∙ ap₂ (λ k t. Some (terminal_of_kind k t)) h.kind h.text

pub text_is : {s : Source} {i : ℕ} {w : Written} → Shows s i w → text_at s i ≡ w.text
text_is {s} {i} {w} h = ap (text_of s.bytes) h.here ∙ h.text

pub number_is : {s : Source} {i : ℕ} {w : Written} → Shows s i w → number_at s i ≡ number_of_kind w.kind
number_is {s} {i} {w} h = ap number_of h.here ∙ ap number_of_kind h.kind

pub stand_left : (s : Source) (i : ℕ) (u v : List Written) → Stand s i (u ++ v) → Stand s i u
stand_left s i [] v h = tt
stand_left s i (w ∷ u) v h = (h.0, stand_left s (i + 1) u v h.1)

pub stand_right : (s : Source) (i : ℕ) (u v : List Written) → Stand s i (u ++ v) → Stand s (i + length u) v
stand_right s i [] v h = subst (λ k. Stand s k v) (omega arith) h
stand_right s i (w ∷ u) v h = subst (λ k. Stand s k v) (omega arith) (stand_right s (i + 1) u v h.1)
