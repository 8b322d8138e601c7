-- Clauses that want a group.
use Rattle.std.proofs.Common.{◌≡◌, ℕ, ℤ, Bool, not, ◌&&◌, ◌||◌, cond, List, [], ◌∷◌, refl, ap, ◌∙◌}
use Rattle.std.specs.Prelude.{Some}
use Rattle.std.specs.List.{list_any, find}
use Rattle.std.specs.Option.{option_map}
use Rattle.std.specs.Ordering.{nat_cmp}
use Rattle.std.specs.BTreeSet.{BTreeSet, contains}
use Rattle.sat_form.specs.Literals.{Literal, negate, member}
use Rattle.sat_form.specs.Assignment.{is_true}
use Rattle.lrat_lines.specs.Judge.{Clauses, Entry, Group, split_hints, others, is_missed, judge_missing}
use Rattle.lrat_lines.specs.Judge.Cause.{MissingGroup}
use Rattle.lrat_judge.specs.Marked.{Same}
use Rattle.lrat_judge.specs.Named.{AreNamed, has_named, is_uncovered}
use Rattle.lrat_judge.proofs.Assuming.{any_same}

-- the names, and those that are to come
abbrev pub named_with : BTreeSet ℕ → List ℤ → ℕ → Bool
named_with named zs id = contains nat_cmp named id || has_named (split_hints zs).groups id

missed_same : (m a : List Literal) (pivot : Literal) (gs : List Group) → Same m a → (e : Entry) → is_missed m pivot gs e ≡ is_missed a pivot gs e
missed_same m a pivot gs same e = ap (λ b. member e.lits (negate pivot) && (not (has_named gs e.id) && not b)) (any_same (is_true m) (is_true a) same (others e.lits (negate pivot)))

found_same : (p q : Entry → Bool) → ((e : Entry) → p e ≡ q e) → (db : Clauses) → find p db ≡ find q db
found_same p q h [] = refl
found_same p q h (e ∷ db) = ap (λ b. cond b (Some e) (find p db)) (h e) ∙ ap (λ o. cond (q e) (Some e) o) (found_same p q h db)

-- The judgement sees only which literals are true.
pub missing_same : (db : Clauses) (m a : List Literal) (pivot : Literal) (gs : List Group) → Same m a → judge_missing db m pivot gs ≡ judge_missing db a pivot gs
missing_same db m a pivot gs same = ap (option_map (λ e. MissingGroup e.id)) (found_same (is_missed m pivot gs) (is_missed a pivot gs) (missed_same m a pivot gs same) db)

-- It sees only which clauses have groups.
pub missing_named : (db : Clauses) (m : List Literal) (pivot : Literal) (named : BTreeSet ℕ) (gs : List Group) → AreNamed named gs → option_map (λ e. MissingGroup e.id) (find (is_uncovered m pivot named) db) ≡ judge_missing db m pivot gs
missing_named db m pivot named gs are =
    ap (option_map (λ e. MissingGroup e.id)) (found_same (is_uncovered m pivot named) (is_missed m pivot gs) (λ e. ap (λ b. member e.lits (negate pivot) && (not b && not (list_any (is_true m) (others e.lits (negate pivot))))) (are e.id)) db)
