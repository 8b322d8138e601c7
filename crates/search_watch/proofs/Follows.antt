-- What the machine by watched literals keeps over its steps.
use Rattle.std.proofs.Common.{◌≡◌, ◌≢◌, ℕ, zero, suc, ◌+◌, ◌-◌, ◌<◌, ◌≤◌, Bool, true, false, not, ◌&&◌, ◌||◌, cond, nat_eq, List, [], ◌∷◌, ◌++◌, length, get_or, take, refl, ap, sym, ◌∙◌, subst, inl, inr, arith}
use Rattle.std.specs.Prelude.{None, is_none}
use Rattle.std.specs.List.{All, find, list_all, list_any, range_with_len}
use Rattle.std.proofs.lemmas.Bool.{cases_eq}
use Rattle.std.proofs.lemmas.Grind.{common_steps}
use Rattle.std.proofs.lemmas.List.{take-append-le}
use Rattle.sat_form.specs.Literals.{Literal, negate, same_literal, set_of}
use Rattle.sat_form.specs.Shape.{is_formula}
use Rattle.sat_form.proofs.Sets as sets
use Rattle.search_heap.specs.Ranking.{Ranking, comes_before}
use Rattle.search_learn.specs.declared.Step.{Step}
use Rattle.search_learn.specs.declared.Turn.{Turn}
use Rattle.search_learn.specs.declared.Turn.TheVariants.{More, Unsat}
use Rattle.search_learn.specs.Analysis.{Lesson, back_level, resolve_back}
use Rattle.search_learn.specs.Cases.{Teaches, put_entries, put_one}
use Rattle.search_learn.specs.Engine.{Engine, stepped}
use Rattle.search_learn.specs.Machine.{Clause, Moved, State, all_assigned, assign, choose, clause_at, quietly, step}
use Rattle.search_learn.specs.Rule.{clause_with}
use Rattle.search_learn.specs.Trail.{clause_false, cut, is_assigned, is_true, level, unit_literal}
use Rattle.search_learn.specs.Values.{IsOfMachine}
use Rattle.search_learn.proofs.Cases.{stepped_whole}
use Rattle.search_learn.proofs.Decisions.{clash, two_signs}
use Rattle.search_learn.proofs.Entries.{assigned_last}
use Rattle.search_learn.proofs.Keeps.{Kept}
use Rattle.search_learn.proofs.Lessons.{all_ranged, teaches_ranged}
use Rattle.search_learn.proofs.Places.{same_clause}
use Rattle.search_learn.specs.Kept.{Holds}
use Rattle.search_learn.proofs.Held.{holds_refute}
use Rattle.search_learn.proofs.Steps.{holds_stop, kept_of}
use Rattle.search_watch.specs.Cases.{IsQuiet, IsUnbroken}
use Rattle.search_watch.specs.Chosen.{IsOpen}
use Rattle.search_watch.specs.Kept.{Follows}
use Rattle.search_watch.specs.Members.{HasFree, IsCutOrSame, IsFirstFree, IsKept, IsUnassigned, NoneFree}
use Rattle.search_watch.specs.Nets.{Net, IsNet}
use Rattle.search_watch.specs.Visits as visits
use Rattle.search_watch.specs.Watched.{is_false}
use Rattle.search_watch.proofs.Begins.{assigned-grows}
use Rattle.search_watch.proofs.Choice.{chooses}
use Rattle.search_watch.proofs.Cuts.{cut-net}
use Rattle.search_watch.proofs.Found.{consistent}
use Rattle.search_watch.proofs.Levels.{cut-cut, level-cut}
use Rattle.search_watch.proofs.Members.{unassigned-or}
use Rattle.search_watch.proofs.Numbered.{HasPlace, find-place, least-none, none-unit}
use Rattle.search_watch.proofs.Taught.{IsTaughtBy, back-below, taught-by, taught-open}

-- What is assigned stays so in a round.
pub entries-keep : (es : List Step) (m : State) (l : Literal) → is_assigned m.trail l ≡ true → is_assigned (put_entries es m).trail l ≡ true
entries-keep [] m l h = h
entries-keep (e ∷ es) m l h = entries-keep es (put_one m e) l (elim (is_assigned m.trail e.lit) as (λ b. is_assigned (cond b m (assign m e)).trail l ≡ true) [ true ↦ h | false ↦ assigned-grows m.trail (e ∷ []) l h ])

-- Where more is assigned, what is unassigned was so before.
pub free-grown : (vars : ℕ) (t u : List Step) (r : Ranking) → ((l : Literal) → is_assigned t l ≡ true → is_assigned u l ≡ true) → HasFree vars t r → HasFree vars u r
free-grown vars t u r grows has = λ v above within free. has v above within (elim (unassigned-or t v) as (λ _. IsUnassigned t v) [
  | inl h ↦ h
  | inr is ↦ clash (is_assigned u (record { var = v; positive = true })) (grows (record { var = v; positive = true }) is) free
])

-- A decision takes one variable out.
pub free-decided : (vars : ℕ) (t : List Step) (e : Step) (old new : Ranking) (v : ℕ) → e.lit.var ≡ v → HasFree vars t old → IsKept t old new v → HasFree vars (t ++ e ∷ []) new
free-decided vars t e old new v is has kept = λ w above within free.
    let before : IsUnassigned t w = elim (unassigned-or t w) as (λ _. IsUnassigned t w) [
      | inl h ↦ h
      | inr held ↦ clash (is_assigned (t ++ e ∷ []) (record { var = w; positive = true })) (assigned-grows t (e ∷ []) (record { var = w; positive = true }) held) free
    ] in
    let apart : w ≢ v = λ same. clash (is_assigned (t ++ e ∷ []) (record { var = w; positive = true })) (last t e w (same ∙ sym is)) free in
    kept w above apart before (has w above within before)
  where
    last : (t : List Step) (e : Step) (w : ℕ) → w ≡ e.lit.var → is_assigned (t ++ e ∷ []) (record { var = w; positive = true }) ≡ true
    last t e w same =
        let var : nat_eq w e.lit.var ≡ true = subst (λ (x : ℕ). nat_eq w x ≡ true) same (sets.nat_itself w) in
        assigned-behind t e (record { var = w; positive = true }) (two_signs (nat_eq w e.lit.var) true e.lit.positive var)
      where
        assigned-behind : (t : List Step) (e : Step) (l : Literal) → (same_literal l e.lit || same_literal (negate l) e.lit) ≡ true → is_assigned (t ++ e ∷ []) l ≡ true
        assigned-behind t e l h = elim (sets.one_of (same_literal l e.lit) _ h) [
          | inl a ↦ sets.either_left (is_true (t ++ e ∷ []) l) (is_false (t ++ e ∷ []) l) (subst (λ (x : Literal). is_true (t ++ e ∷ []) x ≡ true) (sym (sets.same_is l e.lit a)) (assigned_last t e))
          | inr b ↦ sets.either_right (is_true (t ++ e ∷ []) l) (is_false (t ++ e ∷ []) l) (subst (λ (x : Literal). is_true (t ++ e ∷ []) x ≡ true) (sym (sets.same_is (negate l) e.lit b)) (assigned_last t e))
        ]

pub free-members : (vars : ℕ) (t : List Step) (r q : Ranking) → q.members ≡ r.members → HasFree vars t r → HasFree vars t q
free-members vars t r q same has = λ v above within free. ap (λ (ms : List Bool). get_or ms (v - 1) false) same ∙ has v above within free

-- Whether all variables are assigned.
range-all : (p : ℕ → Bool) (a n : ℕ) → ((v : ℕ) → a ≤ v → v < a + n → p v ≡ true) → list_all p (range_with_len a n) ≡ true
range-all p a zero each = refl
range-all p a (suc n) each = sets.join (p a) (list_all p (range_with_len (a + 1) n)) (each a (omega arith) (omega arith)) (range-all p (a + 1) n (λ v low high. each v (omega arith) (omega arith)))

range-not : (p : ℕ → Bool) (a n v : ℕ) → a ≤ v → v < a + n → p v ≡ false → list_all p (range_with_len a n) ≡ false
range-not p a zero v low high wrong = absurd (omega arith)
range-not p a (suc n) v low high wrong = elim (cases_eq v a) as (λ _. list_all p (range_with_len a (suc n)) ≡ false) [
  | inl e ↦ ap (λ b. b && list_all p (range_with_len (a + 1) n)) (subst (λ (x : ℕ). p x ≡ false) e wrong)
  | inr d ↦ elim (p a) as (λ b. (b && list_all p (range_with_len (a + 1) n)) ≡ false) [ false ↦ refl | true ↦ range-not p (a + 1) n v (omega arith) (omega arith) wrong ]
]

pub all-taken : (m : State) (r : Ranking) → HasFree m.vars m.trail r → NoneFree m.trail r → all_assigned m ≡ true
all-taken m r has none = range-all (λ v. is_assigned m.trail (record { var = v; positive = true })) 1 m.vars (λ v low high. elim (unassigned-or m.trail v) as (λ _. is_assigned m.trail (record { var = v; positive = true }) ≡ true) [
  | inr h ↦ h
  | inl free ↦ none v (omega arith) (has v (omega arith) (omega arith) free)
])

pub one-free : (m : State) (v : ℕ) → 0 < v → v ≤ m.vars → IsUnassigned m.trail v → all_assigned m ≡ false
one-free m v above within free = range-not (λ w. is_assigned m.trail (record { var = w; positive = true })) 1 m.vars v (omega arith) (omega arith) free

pub first-chosen : (m : State) (r : Ranking) (v : ℕ) → m.scores ≡ r.scores → length m.scores ≡ m.vars → HasFree m.vars m.trail r → IsFirstFree m.trail r v → choose m 0 (range_with_len 1 m.vars) ≡ v
first-chosen m r v same size has first =
    chooses m v first.above first.free (λ w above within free. subst (λ (s : List ℕ). comes_before s w v ≡ false) (sym same) (first.first w above (has w above within free) free))
    (subst (λ (n : ℕ). v ≤ n) (ap length (sym same) ∙ size) first.within)

-- The given clauses stand before the learnt ones: where these grow, those stay.
pub stepped_given : (s : Engine) (r : Moved) (cs : List (List Literal)) → cs ≡ s.clauses → step s.budget s.state ≡ r → s.broken ≡ false → record s { clauses = cs; state = r.state; last = r.learnt; broken = false } ≡ stepped s
stepped_given s r cs same moves whole = (λ i. record s { clauses = same i; state = r.state; last = r.learnt; broken = false }) ∙ stepped_whole s r moves whole

pub follows_given : (cs ds : List (List Literal)) (budget vars learner : ℕ) (n : Net) (r : Ranking) (m : State) → cs ≡ ds → Follows ds budget vars learner n r m → Follows cs budget vars learner n r m
follows_given cs ds budget vars learner n r m same f = subst (λ (x : List (List Literal)). Follows x budget vars learner n r m) (sym same) f

taken_within : (k : ℕ) (cs : List (List Literal)) → k ≡ length (take k cs) → k ≤ length cs
taken_within zero cs is = omega arith
taken_within (suc k) [] is = absurd (omega arith)
taken_within (suc k) (c ∷ cs) is = let deep = taken_within k cs (omega arith) in omega arith

pub taken_more : (k : ℕ) (cs ds : List (List Literal)) → k ≡ length (take k cs) → take k (cs ++ ds) ≡ take k cs
taken_more k cs ds is = let within : k ≤ length cs = taken_within k cs is in rw take-append-le refl

module _ (cs : List (List Literal)) (budget vars learner : ℕ) (n : Net) (r : Ranking) (m : State) (f : Follows cs budget vars learner n r m) where
  pub follows_stop : (turn : Turn) → step budget m ≡ quietly (record m { end = turn }) → (turn ≡ More → m.end ≡ More) → Follows cs budget vars learner n r (record m { end = turn })
  follows_stop turn moves same = record {
    learnt = f.learnt;
    size = f.size;
    given = f.given;
    formula = f.formula;
    holds = holds_stop cs budget vars f.learnt m turn f.holds moves same;
    clauses = f.clauses;
    learner = f.learner;
    members = f.members;
    net = λ e. f.net (same e);
    free = λ e. f.free (same e);
  }

  -- an end, with variables taken out of the heap
  pub follows_ends : (turn : Turn) (q : Ranking) → turn ≢ More → q.scores ≡ m.scores → length q.members ≡ length r.members → step budget m ≡ quietly (record m { end = turn }) → Follows cs budget vars learner n q (record m { scores = q.scores; end = turn })
  follows_ends turn q ends scores size moves = record {
    learnt = f.learnt;
    size = f.size;
    given = f.given;
    formula = f.formula;
    holds = subst (Holds cs budget vars f.learnt) (λ i. record m { scores = sym scores i; end = turn }) (holds_stop cs budget vars f.learnt m turn f.holds moves (λ e. absurd (ends e)));
    clauses = f.clauses;
    learner = f.learner;
    members = size ∙ f.members;
    net = λ e. absurd (ends e);
    free = λ e. absurd (ends e);
  }

  pub follows_refute : (s : Lesson) → Teaches budget m s → s.lits ≡ [] → Follows cs budget vars learner n r (record m { spent = m.spent + 1; conflicts = m.conflicts + 1; end = Unsat })
  follows_refute s t empty = record {
    learnt = f.learnt;
    size = f.size;
    given = f.given;
    formula = f.formula;
    holds = holds_refute cs budget vars f.learnt m s f.holds t empty;
    clauses = f.clauses;
    learner = f.learner;
    members = f.members;
    net = λ e. absurd (cc);
    free = λ e. absurd (cc);
  }

  module _ (formula : is_formula m.vars cs ≡ true) where
    pub kept : Kept m
    kept = kept_of cs budget vars f.learnt m formula f.holds

    pub machine : IsOfMachine m.vars m.trail
    machine = (clause_at m.clauses, kept.is_trail)

    pub quiet-least : IsUnbroken m → n.least ≡ None
    quiet-least u = least-none m.vars m.trail n (f.net u.before) (consistent m.vars m.trail machine) (sym (ap (λ (x : List Clause). find (λ (c : Clause). clause_false m.trail c.lits) x) f.clauses) ∙ u.none)

    pub quiet-units : IsQuiet m → n.units ≡ []
    quiet-units q = none-unit m.vars m.trail n (f.net q.unbroken.before) (consistent m.vars m.trail machine) (sym (ap (λ (x : List Clause). list_any (λ (c : Clause). not (is_none (unit_literal m.trail c.lits))) x) f.clauses) ∙ q.unit)

    module _ (s : Lesson) (t : Teaches budget m s) (some : s.lits ≢ []) where
      place : HasPlace (clause_false m.trail) 1 n.clauses t.clause
      place = find-place (clause_false m.trail) 1 n.clauses t.clause (sym (ap (λ (x : List Clause). find (λ (c : Clause). clause_false m.trail c.lits) x) f.clauses) ∙ t.found)

      same_lits : clause_at m.clauses t.clause.id ≡ visits.clause_at n.clauses place.place
      same_lits = ap (λ (x : List Clause). clause_at x t.clause.id) f.clauses ∙ same_clause n.clauses t.clause.id ∙ with_place t.clause.id place.place place.id
        where
          above : (j : ℕ) → nat_eq (1 + j) 0 ≡ false
          above j = grind (arith, common_steps)

          less : (j : ℕ) → 1 + j - 1 ≡ j
          less j = omega arith

          here : (j : ℕ) → clause_with n.clauses (1 + j) ≡ visits.clause_at n.clauses j
          here j = ap (λ (b : Bool). cond b [] (get_or n.clauses (1 + j - 1) [])) (above j) ∙ ap (λ (k : ℕ). get_or n.clauses k []) (less j)

          with_place : (id j : ℕ) → id ≡ 1 + j → clause_with n.clauses id ≡ visits.clause_at n.clauses j
          with_place id j e = ap (clause_with n.clauses) e ∙ here j

      taught : IsTaughtBy m.trail s.lits
      taught = taught-by m.vars m.trail n place.place (clause_at m.clauses) (f.net t.before) kept.is_trail place.low (subst (λ (c : List Literal). clause_false m.trail c ≡ true) place.lits place.passes) s.lits
          (ap (λ (x : Lesson). x.lits) t.is ∙ ap (λ (c : List Literal). (resolve_back (clause_at m.clauses) m.trail (level m.trail) (record { lits = set_of c; used = [] }) m.trail).lits) same_lits) some

      back_is : s.back ≡ back_level m.trail (level m.trail) s.lits
      back_is = ap (λ (x : Lesson). x.back) t.is ∙ ap (λ (x : Lesson). back_level m.trail (level m.trail) x.lits) (sym t.is)

      pub back_low : s.back < level m.trail
      back_low = subst (λ (k : ℕ). k < level m.trail) (sym back_is) (back-below m.vars m.trail s.lits machine taught)

      pub cut-is : (u : List Step) → IsCutOrSame (cut s.back m.trail) u → (k : ℕ) × (k < level m.trail) × (u ≡ cut k m.trail) × (0 < level u → k ≡ s.back)
      cut-is u (inl e) = (s.back, back_low, e, λ _. refl)
      cut-is u (inr e) =
          let low = back_low in
          let same : u ≡ cut 0 m.trail = e ∙ cut-cut 0 s.back m.trail (omega arith) in
          (0, omega arith, same, λ above. let none = level-cut m.vars 0 m.trail machine in let at = ap level same in absurd (omega arith))

      pub opens : (u : List Step) → IsCutOrSame (cut s.back m.trail) u → 0 < level u → IsOpen u s.lits
      opens u h above =
          let k = cut-is u h in
          let b = back_level m.trail (level m.trail) s.lits in
          let same : u ≡ cut b m.trail = k.2 ∙ ap (λ (x : ℕ). cut x m.trail) (k.3 above ∙ back_is) in
          subst (λ (x : List Step). IsOpen x s.lits) (sym same) (taught-open m.vars m.trail s.lits machine taught (subst (λ (x : List Step). 0 < level x) same above))

      pub net-cut : (u : List Step) → IsCutOrSame (cut s.back m.trail) u → IsNet m.vars u [] (record n { units = []; least = None })
      net-cut u h = let k = cut-is u h in subst (λ (x : List Step). IsNet m.vars x [] (record n { units = []; least = None })) (sym k.2) (cut-net m.vars k.0 m.trail n machine k.1 (f.net t.before))

      pub ranged : All (λ (l : Literal). l.var ≤ m.vars) s.lits
      ranged = all_ranged m.vars s.lits (teaches_ranged budget m s kept t)

      pub variables : 0 < m.vars
      variables = let r = teaches_ranged budget m s kept t taught.lit taught.here in let a = r.0 in let b = r.1 in omega arith
