-- What stands on a trail, entry by entry.
use Rattle.std.proofs.Common.{◌≡◌, ◌≢◌, ℕ, true, false, List, [], ◌∷◌, ◌++◌, inl, inr}
use Rattle.sat_form.specs.Literals.{Literal, same_literal, member}
use Rattle.search_learn.specs.declared.Step.{Step}
use Rattle.search_learn.specs.Analysis.{Resolved, is_resolved, resolve_back}
use Rattle.search_learn.specs.Trail.{assigned}
use Rattle.sat_form.proofs.Sets.{one_of, either_left, either_right, same_itself}

pub assigned_more : (before : List Step) (e : Step) (x : Literal) → member (assigned before) x ≡ true → member (assigned (before ++ e ∷ [])) x ≡ true
assigned_more [] e x has = cc
assigned_more (b ∷ before) e x has =
    elim (one_of (same_literal x b.lit) (member (assigned before) x) has) [ inl same ↦ either_left (same_literal x b.lit) _ same | inr later ↦ either_right (same_literal x b.lit) _ (assigned_more before e x later) ]

pub assigned_last : (before : List Step) (e : Step) → member (assigned (before ++ e ∷ [])) e.lit ≡ true
assigned_last [] e = either_left (same_literal e.lit e.lit) false (same_itself e.lit)
assigned_last (b ∷ before) e = either_right (same_literal e.lit b.lit) _ (assigned_last before e)

module _ (lits_of : ℕ → List Literal) (trail : List Step) (d : ℕ) (start : Resolved) where
  -- no decision is resolved
  abbrev pub AreReasoned : List Step → Type 0
  AreReasoned [] = Unit {0}
  AreReasoned (e ∷ later) = (is_resolved lits_of trail d (resolve_back lits_of trail d start later).lits e ≡ true → e.reason ≢ 0) × AreReasoned later
