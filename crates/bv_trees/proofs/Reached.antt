-- What is complete is reached.
use Rattle.std.proofs.Common.{ℕ, ◌+◌, ◌≤◌, List, arith, ◌⊎◌, inl, inr}
use Rattle.bv_grammar.specs.declared.words.Terminal.{Terminal}
use Rattle.bv_grammar.specs.Grammar.{Symbol, file}
use Rattle.bv_grammar.specs.Grammar as g
use Rattle.bv_grammar.specs.Derivation.{Derives, here, not_next, IsSyntaxFault}
use Rattle.bv_grammar.proofs.Derivations.{follow}
use Rattle.bv_grammar.proofs.Unique.{through}
use Rattle.bv_trees.specs.Trees.{Tree}
use Rattle.bv_trees.proofs.Derived.{by_operand, by_atoms}
use Rattle.bv_trees.proofs.OfTerms.{on}
use Rattle.bv_trees.specs.Complete as c
use Rattle.bv_trees.specs.Complete.{Complete}
use Rattle.bv_trees.proofs.Parts.{so_far_leads, called_leads, argument_leads}

within : (m n : ℕ) → (m ≤ n) ⊎ (n + 1 ≤ m)
within m n = grind arith

pub reached : {ts : List Terminal} {end j : ℕ} {b : List Symbol} → IsSyntaxFault ts end → Derives ts file 0 b j → j ≤ end
reached {end = end} {j = j} f d = elim (within j end) [ inl h ↦ h | inr more ↦ absurd (f.not_here (through (end + 1) (omega arith) more d)) ]

pub complete_reached : {ts : List Terminal} {end at j : ℕ} {x : Tree} → IsSyntaxFault ts end → Complete ts at x j → j ≤ end
complete_reached f (c.of_prefix r o) = reached f (follow r (by_operand o here))
complete_reached f (c.of_if r o) = reached f (follow r (by_operand o here))
complete_reached f (c.of_infix r s) = reached f (so_far_leads s r)
complete_reached f (c.of_method r k e u) = reached f (follow (on (called_leads k r) g.then_arguments) (not_next e (by_atoms u here)))
complete_reached f (c.of_further r k e) = reached f (called_leads k r)
complete_reached f (c.of_argument r k) = reached f (argument_leads k r)
