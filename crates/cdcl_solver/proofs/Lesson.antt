-- The clause that a conflict teaches checks by its hints.
use Rattle.std.proofs.Common.{◌≡◌, ℕ, true, false, List, [], map, refl}
use Rattle.std.specs.Prelude.{Some}
use Rattle.sat_form.specs.Literals.{Literal, negate, member, set_of}
use Rattle.sat_form.specs.Assignment.{is_false}
use Rattle.search_learn.specs.declared.Step.{Step}
use Rattle.search_learn.specs.Analysis.{lesson}
use Rattle.search_learn.specs.Trail.{assigned, clause_false, level}
use Rattle.search_learn.specs.Rule.{IsTrail}
use Rattle.lrat_lines.specs.Judge.{Clauses, clause_of, take_hints}
use Rattle.lrat_lines.specs.Judge.Taken.{Conflict}
use Rattle.sat_form.proofs.Sets.{member_all, set_of_member}
use Rattle.cdcl_solver.proofs.Follows.{lesson_checks}
use Rattle.search_learn.proofs.Decisions.{are_reasoned}

pub learnt_checks : (db : Clauses) (lits_of : ℕ → List Literal) (vars : ℕ) (trail : List Step) (false_id : ℕ)
    → ((id : ℕ) (l : Literal) → member (lits_of id) l ≡ true → clause_of db id ≡ Some (lits_of id))
    → clause_of db false_id ≡ Some (lits_of false_id)
    → IsTrail lits_of vars trail
    → clause_false trail (lits_of false_id) ≡ true
    → let s = lesson lits_of trail (level trail) false_id in take_hints db (map negate s.lits) s.hints ≡ Conflict
learnt_checks db lits_of vars trail false_id there there_false is_trail all =
    lesson_checks db lits_of vars trail (level trail) false_id there there_false is_trail
    (are_reasoned lits_of vars trail (level trail) (record { lits = set_of (lits_of false_id); used = [] }) [] trail refl is_trail (λ k none. absurd (nothing none)) refl
    (λ k has. member_all (is_false (assigned trail)) (lits_of false_id) k all (set_of_member (lits_of false_id) k has)))
  where
    nothing : false ≡ true → ⊥
    nothing h = cc
