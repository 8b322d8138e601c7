-- What each state of the machine keeps.
use Rattle.std.proofs.Common.{subst, ◌≡◌, ◌≢◌, ℕ, ◌<◌, ◌≤◌, true, false, cond, List, [], ◌∷◌, ◌++◌, refl, ap, sym, ◌∙◌, inl, inr, nat_eq, nat_le, arith, add-zero}
use Rattle.std.specs.Prelude.{Some, None}
use Rattle.std.specs.List.{find}
use Rattle.std.specs.Option.{option_map_or}
use Rattle.std.proofs.lemmas.List.{append-nil, append_assoc}
use Rattle.std.proofs.lemmas.Grind.{common_steps}
use Rattle.sat_form.specs.Literals.{Literal, negate, same_literal, member, without}
use Rattle.sat_form.specs.Assignment.{is_true, is_false, is_assigned, unit_literal}
use Rattle.search_learn.specs.declared.Step.{Step}
use Rattle.search_learn.specs.Trail.{assigned, level, cut}
use Rattle.search_learn.specs.Rule.{Continues, IsTrail, EntryFollows}
use Rattle.search_learn.specs.Machine.{Clause, State, clause_at, propagate, propagate_one, assign}
use Rattle.sat_form.proofs.Sets.{neither, one_of, either_left, either_right, all_weaker, unit_of, others_false, member_of_unit, absurd_bool}
use Rattle.search_learn.proofs.Decisions.{level_append, level_push, level_here}

module _ (lits_of : ℕ → List Literal) (vars : ℕ) where
  -- a cut below the level leaves nothing of what follows
  cut_all : (to : ℕ) (before later : List Step) → Continues lits_of vars before later → to < level before → cut to later ≡ []
  cut_all to before [] cont low = refl
  cut_all to before (e ∷ later) cont low =
      let here = level_here lits_of vars before e cont.0 in
      let split = level_append before (e ∷ []) in
      let above : to < level (before ++ e ∷ []) = omega arith in
      let over : nat_le e.level to ≡ false = grind (arith, common_steps) in
      ap (λ b. cond b (e ∷ cut to later) (cut to later)) over ∙ cut_all to (before ++ e ∷ []) later cont.1 above

  -- What is cut is a trail too.
  pub cut_continues : (to : ℕ) (before later : List Step) → Continues lits_of vars before later → Continues lits_of vars before (cut to later)
  cut_continues to before [] cont = tt
  cut_continues to before (e ∷ later) cont =
      elim (nat_le e.level to) as (λ b. nat_le e.level to ≡ b → Continues lits_of vars before (cond b (e ∷ cut to later) (cut to later))) [
        | true ↦ λ _. (cont.0, cut_continues to (before ++ e ∷ []) later cont.1)
        | false ↦ λ over.
            let here = level_here lits_of vars before e cont.0 in
            let low : to < level (before ++ e ∷ []) = grind (arith, common_steps) in
            let none = cut_all to (before ++ e ∷ []) later cont.1 low in
            nothing_left (cut to later) none before
      ] refl
    where
      nothing_left : (es : List Step) → es ≡ [] → (before : List Step) → Continues lits_of vars before es
      nothing_left [] e before = tt
      nothing_left (x ∷ es) e before = cc

  -- An entry is put behind a trail.
  pub continues_push : (before later : List Step) (e : Step) → Continues lits_of vars before later → EntryFollows lits_of vars (before ++ later) e → Continues lits_of vars before (later ++ e ∷ [])
  continues_push before [] e cont follows = (subst (λ (b : List Step). EntryFollows lits_of vars b e) (append-nil before) follows, tt)
  continues_push before (x ∷ later) e cont follows =
      (cont.0, continues_push (before ++ x ∷ []) later e cont.1 (subst (λ (b : List Step). EntryFollows lits_of vars b e) (sym (append_assoc before (x ∷ []) later)) follows))

pub assigned_append : (b c : List Step) (x : Literal) → member (assigned b) x ≡ true → member (assigned (b ++ c)) x ≡ true
assigned_append [] c x has = absurd_bool has
assigned_append (e ∷ b) c x has = elim (one_of (same_literal x e.lit) (member (assigned b) x) has) [ inl same ↦ either_left (same_literal x e.lit) _ same | inr later ↦ either_right (same_literal x e.lit) _ (assigned_append b c x later) ]

-- A clause among all: it is found by its id, and its variables are in range.
pub record IsKnown (all : List Clause) (vars : ℕ) (c : Clause) : Type 0 where
  pub found : find (λ x. nat_eq x.id c.id) all ≡ Some c
  pub above : c.id ≢ 0
  pub within : (l : Literal) → member c.lits l ≡ true → (0 < l.var) × (l.var ≤ vars)

abbrev pub AreKnown : List Clause → ℕ → List Clause → Type 0
AreKnown all vars [] = Unit {0}
AreKnown all vars (c ∷ cs) = IsKnown all vars c × AreKnown all vars cs

-- In a round: the trail is one of the machine, begins with the one at the round's start, and has no decision behind it.
pub record IsRound (all : List Clause) (vars : ℕ) (seen trail : List Step) : Type 0 where
  pub is_trail : IsTrail (clause_at all) vars trail
  pub new : List Step
  pub begins : trail ≡ seen ++ new
  pub level_is : level trail ≡ level seen

module _ (all : List Clause) (vars : ℕ) (seen : List Step) where
  clause_is : (c : Clause) → IsKnown all vars c → clause_at all c.id ≡ c.lits
  clause_is c known = ap (λ o. option_map_or (λ x. x.lits) o []) known.found

  pub put_unit : (m : State) (c : Clause) (l : Literal) → IsKnown all vars c → IsRound all vars seen m.trail → unit_literal (assigned seen) c.lits ≡ Some l → is_assigned (assigned m.trail) l ≡ false
      → IsRound all vars seen (m.trail ++ record { lit = l; level = level seen; reason = c.id } ∷ [])
  put_unit m c l known round unit free =
      let e : Step = record { lit = l; level = level seen; reason = c.id } in
      let has = member_of_unit (assigned seen) c.lits l unit in
      let parts = neither (is_true (assigned m.trail) l) (is_false (assigned m.trail) l) free in
      let isnt : nat_eq c.id 0 ≡ false = not_zero c.id known.above in
      let others = all_weaker (is_false (assigned seen)) (is_false (assigned m.trail))
      (λ k h. ap (λ t. member (assigned t) (negate k)) round.begins ∙ assigned_append seen round.new (negate k) h)
      (without c.lits l) (others_false (assigned seen) c.lits l unit) in
      record {
        is_trail = continues_push (clause_at all) vars [] m.trail e round.is_trail (record {
          above = (known.within l has).0;
          within = (known.within l has).1;
          new = free;
          decided = λ zero. absurd (known.above zero);
          at_level = λ _. sym round.level_is;
          implied = λ _. ap (unit_literal (assigned m.trail)) (clause_is c known) ∙ (unit_of (assigned m.trail) c.lits l has others parts.0 parts.1).1;
        });
        new = round.new ++ e ∷ [];
        begins = ap (λ t. t ++ e ∷ []) round.begins ∙ append_assoc seen round.new (e ∷ []);
        level_is = level_push m.trail e false isnt ∙ add-zero (level m.trail) ∙ round.level_is;
      }
    where
      not_zero : (n : ℕ) → n ≢ 0 → nat_eq n 0 ≡ false
      not_zero n h = grind (arith, common_steps)

  -- Case 4 keeps the trail one of the machine.
  pub propagate_keeps : (cs : List Clause) → AreKnown all vars cs → (m : State) → IsRound all vars seen m.trail → IsRound all vars seen (propagate seen cs m).trail
  propagate_keeps [] known m round = round
  propagate_keeps (c ∷ cs) known m round =
      elim (unit_literal (assigned seen) c.lits) as (λ o. unit_literal (assigned seen) c.lits ≡ o → IsRound all vars seen (propagate seen cs (propagate_one seen c o m)).trail) [
        | None ↦ λ _. propagate_keeps cs known.1 m round
        | Some l ↦ λ unit. elim (is_assigned (assigned m.trail) l) as (λ b. is_assigned (assigned m.trail) l ≡ b → IsRound all vars seen (propagate seen cs (cond b m (assign m (record { lit = l; level = level seen; reason = c.id })))).trail) [
          | true ↦ λ _. propagate_keeps cs known.1 m round
          | false ↦ λ free. propagate_keeps cs known.1 (assign m (record { lit = l; level = level seen; reason = c.id })) (put_unit m c l known.0 round unit free)
        ] refl
      ] refl
