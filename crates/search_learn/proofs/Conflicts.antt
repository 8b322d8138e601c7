-- Conflict analysis by marks, entry by entry.
use Rattle.std.proofs.Common.{◌≡◌, ◌≢◌, ℕ, zero, suc, ◌+◌, ◌<◌, true, List, [], ◌∷◌, ◌++◌, length, get_or, take, drop, refl, ap, sym, ◌∙◌, subst, arith, take-append-drop}
use Rattle.std.proofs.lemmas.List.{append-nil, append_assoc, drop_more}
use Rattle.sat_form.specs.Assignment.{is_false}
use Rattle.sat_form.specs.Literals.{Literal, member, negate, set_of, without}
use Rattle.sat_form.proofs.Sets.{absurd_bool, member_all, negate_twice, others_false, set_of_member}
use Rattle.search_learn.specs.declared.Step.{Step}
use Rattle.search_learn.specs.Analysis.{Resolved, is_resolved, resolve_back}
use Rattle.search_learn.specs.Marks.{AreFalse}
use Rattle.search_learn.specs.Rule.{Continues, EntryFollows, IsTrail}
use Rattle.search_learn.specs.Trail.{assigned, clause_false, level, level_of}
use Rattle.search_learn.proofs.Decisions.{are_reasoned, level_entry}
use Rattle.search_learn.proofs.Entries.{AreReasoned, assigned_last}
use Rattle.search_learn.proofs.Reach.{assigned_append}

continues_at : (clause_of : ℕ → List Literal) (vars : ℕ) (before later : List Step) (i : ℕ) (e : Step) → Continues clause_of vars before later → i < length later → e ≡ get_or later i e → EntryFollows clause_of vars (before ++ take i later) e
continues_at clause_of vars before [] i e cont inside is = absurd (omega arith)
continues_at clause_of vars before (x ∷ later) zero e cont inside is =
    subst (λ (b : List Step). EntryFollows clause_of vars b e) (sym (append-nil before)) (subst (λ (y : Step). EntryFollows clause_of vars before y) (sym is) cont.0)
continues_at clause_of vars before (x ∷ later) (suc i) e cont inside is =
    subst (λ (b : List Step). EntryFollows clause_of vars b e) (append_assoc before (x ∷ []) (take i later)) (continues_at clause_of vars (before ++ x ∷ []) later i e cont.1 (omega arith) is)

module _ (clause_of : ℕ → List Literal) (trail : List Step) (d : ℕ) (start : Resolved) where
  reasoned_at : (later : List Step) (i : ℕ) (e : Step) → AreReasoned clause_of trail d start later → i < length later → e ≡ get_or later i e
      → is_resolved clause_of trail d (resolve_back clause_of trail d start (drop (suc i) later)).lits e ≡ true → e.reason ≢ 0
  reasoned_at [] i e all inside is resolved = absurd (omega arith)
  reasoned_at (x ∷ later) zero e all inside is resolved =
      subst (λ (y : Step). is_resolved clause_of trail d (resolve_back clause_of trail d start later).lits y ≡ true → y.reason ≢ 0) (sym is) all.0 resolved
  reasoned_at (x ∷ later) (suc i) e all inside is resolved = reasoned_at later i e all.1 (omega arith) is resolved

-- What is known of an entry in a conflict.
pub record IsMet (clause_of : ℕ → List Literal) (trail : List Step) (d : ℕ) (start : Resolved) (i : ℕ) (e : Step) : Type 0 where
  pub falsified : is_false (assigned trail) (negate e.lit) ≡ true
  pub level_is : level_of trail (negate e.lit) ≡ e.level
  pub others : is_resolved clause_of trail d (resolve_back clause_of trail d start (drop (i + 1) trail)).lits e ≡ true → AreFalse trail (without (clause_of e.reason) e.lit)
  pub earlier : is_resolved clause_of trail d (resolve_back clause_of trail d start (drop (i + 1) trail)).lits e ≡ true → AreFalse (take i trail) (without (clause_of e.reason) e.lit)

module _ (clause_of : ℕ → List Literal) (vars : ℕ) (trail : List Step) (d id : ℕ) (machine : IsTrail clause_of vars trail) (current : d ≡ level trail) (conflict : clause_false trail (clause_of id) ≡ true) where
  abbrev pub begun : Resolved
  begun = record { lits = set_of (clause_of id); used = [] }

  pub clause_falsified : AreFalse trail (clause_of id)
  clause_falsified l has = member_all (is_false (assigned trail)) (clause_of id) l conflict has

  start_falsified : (k : Literal) → member begun.lits k ≡ true → is_false (assigned trail) k ≡ true
  start_falsified k has = clause_falsified k (set_of_member (clause_of id) k has)

  pub met : (i : ℕ) (e : Step) → i < length trail → e ≡ get_or trail i e → IsMet clause_of trail d begun i e
  met i e inside is =
      record {
        falsified = ap (member (assigned trail)) (negate_twice e.lit) ∙ ap (λ (t : List Step). member (assigned t) e.lit) (split ∙ sym (append_assoc front (e ∷ []) later)) ∙ assigned_append (front ++ e ∷ []) later e.lit (assigned_last front e);
        level_is = level_entry clause_of vars trail front later e split follows;
        others = λ resolved l has. ap (λ (t : List Step). is_false (assigned t) l) split ∙ assigned_append front (e ∷ later) (negate l) (implied_by resolved l has);
        earlier = implied_by;
      }
    where
      front : List Step
      front = take i trail

      later : List Step
      later = drop (i + 1) trail

      split : trail ≡ front ++ e ∷ later
      split = sym (take-append-drop i trail) ∙ ap (λ x. front ++ x) (drop_more trail i e inside ∙ ap (λ x. x ∷ later) (sym is))

      follows : EntryFollows clause_of vars front e
      follows = continues_at clause_of vars [] trail i e machine inside is

      implied_by : is_resolved clause_of trail d (resolve_back clause_of trail d begun (drop (i + 1) trail)).lits e ≡ true → AreFalse front (without (clause_of e.reason) e.lit)
      implied_by resolved l has =
          let reasoned = are_reasoned clause_of vars trail d begun [] trail refl machine (λ k none. absurd_bool none) current start_falsified in
          let some = reasoned_at clause_of trail d begun trail i e reasoned inside is (ap (λ n. is_resolved clause_of trail d (resolve_back clause_of trail d begun (drop n trail)).lits e) (let s : suc i ≡ i + 1 = omega arith in s) ∙ resolved) in
          member_all (is_false (assigned front)) (without (clause_of e.reason) e.lit) l (others_false (assigned front) (clause_of e.reason) e.lit (follows.implied some)) has
