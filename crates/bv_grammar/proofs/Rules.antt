-- What a rule leads to.
use Rattle.std.proofs.Common.{◌≡◌, ℕ, ◌<◌, List, ◌∷◌, ◌++◌, sym, arith, subst, ◌∙◌}
use Rattle.std.specs.Prelude.{slice_get}
use Rattle.bv_grammar.specs.declared.words.Terminal.{Terminal}
use Rattle.bv_grammar.specs.Grammar.{Symbol, Rule}
use Rattle.bv_grammar.specs.Derivation.{Derives, here, taken, at_end, not_next, by_rule}
use Rattle.bv_grammar.proofs.Place.{Leads}
use Rattle.bv_grammar.proofs.Tables.{table, predicts}

pub forced : {ts : List Terminal} {s : Symbol} {r a c : List Symbol} {i n : ℕ} → Rule s r → table s (slice_get ts i) ≡ r → i < n → Derives ts (s ∷ a) i c n → Derives ts (r ++ a) i c n
forced q e h here = absurd (omega arith)
forced q e h (taken f d) = elim q [ ]
forced q e h (at_end f d) = elim q [ ]
forced q e h (not_next f d) = elim q [ ]
forced {ts} {a = a} {c = c} {i = i} {n = n} q e h (by_rule q' d) = subst (λ v. Derives ts (v ++ a) i c n) (sym (predicts a q' h d) ∙ e) d

pub on_rule : {ts : List Terminal} {s : Symbol} {r : List Symbol} {i : ℕ} (a : List Symbol) → Rule s r → table s (slice_get ts i) ≡ r → Leads ts (s ∷ a) i (r ++ a) i
on_rule a q e = record { derives = by_rule q here; only = λ c n h d. forced q e h d }
