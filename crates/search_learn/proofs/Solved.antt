-- After Sat the signs satisfy the clauses.
use Rattle.std.proofs.Common.{subst, ◌≡◌, ◌≢◌, ℕ, zero, suc, ◌+◌, ◌-◌, ◌*◌, ◌<◌, ◌≤◌, Bool, true, false, not, ◌&&◌, ◌||◌, cond, List, [], ◌∷◌, ◌++◌, refl, ap, sym, ◌∙◌, ◌⊎◌, inl, inr, nat_eq, nat_le, nat_lt, get_or, set, length, arith, get_or-set_other, get_or-set_same, length-set}
use Rattle.std.specs.Prelude.{Some, None, is_none}
use Rattle.std.specs.List.{list_all, find, range_with_len}
use Rattle.std.specs.declared.option.Option.{Option}
use Rattle.std.proofs.Math.Numerals.{sub-one}
use Rattle.std.proofs.lemmas.Grind.{common_steps}
use Rattle.std.proofs.lemmas.List.{append-nil, append_assoc, length-replicate}
use Rattle.sat_form.specs.Literals.{Literal, negate, same_sign, same_literal, member}
use Rattle.sat_form.specs.Assignment.{is_false, is_assigned, clause_false, unit_literal}
use Rattle.sat_form.specs.Truth.{literal_true, satisfies, value_of}
use Rattle.sat_form.specs.Shape.{variables_within}
use Rattle.search_learn.specs.declared.Step.{Step}
use Rattle.search_learn.specs.declared.Turn.{Turn}
use Rattle.search_learn.specs.declared.Turn.TheVariants.{More, Sat, Unsat, Budget}
use Rattle.search_learn.specs.Luby.{luby}
use Rattle.search_learn.specs.Analysis.{Lesson, lesson}
use Rattle.search_learn.specs.Trail.{assigned, level, cut}
use Rattle.search_learn.specs.Rule.{IsTrail}
use Rattle.search_learn.specs.Machine as machine
use Rattle.search_learn.specs.Machine.{step, step_from, step_if, Reached, Clause, State, clause_at, numbered, is_sat, false_clause, has_unit, all_assigned, assign, propagate, propagate_one}
use Rattle.sat_form.proofs.Sets.{both, join, neither, one_of, either_left, either_right, nat_is, nat_itself, sign_itself, same_is, same_itself, absurd_bool, member_of_unit, member_all}
use Rattle.search_learn.proofs.Decisions.{clash, two_signs, member_any}
use Rattle.search_learn.proofs.Reach.{AreKnown, IsRound, put_unit}
use Rattle.search_learn.proofs.Keeps.{in_range, Kept, are_known}
use Rattle.search_learn.proofs.Reached.{variable, in_range_all, either_sign, same_propagated, range_in, choose_free, choose_some, step_kept, start_kept}

-- Each variable on the trail has its value as its sign.
abbrev value_in : List Bool → ℕ → Bool
value_in values v = get_or values (v - 1) false

value_is : (values : List Bool) (v : ℕ) → value_in values v ≡ value_of values v
value_is values v = ap (λ k. get_or values k false) (sub-one v)

pub record Agree (vars : ℕ) (m : State) : Type 0 where
  pub size : length m.signs ≡ vars
  pub signs : (k : Literal) → member (assigned m.trail) k ≡ true → get_or m.signs (k.var - 1) false ≡ k.positive

true_before : (b : List Step) (e : Step) (k : Literal) → member (assigned (b ++ e ∷ [])) k ≡ true → (member (assigned b) k ≡ true) ⊎ (k ≡ e.lit)
true_before [] e k h = elim (one_of (same_literal k e.lit) false h) [ inl same ↦ inr (same_is k e.lit same) | inr none ↦ inl none ]
true_before (x ∷ b) e k h =
    elim (one_of (same_literal k x.lit) (member (assigned (b ++ e ∷ [])) k) h) [
      | inl same ↦ inl (either_left (same_literal k x.lit) _ same)
      | inr later ↦ elim (true_before b e k later) [ inl old ↦ inl (either_right (same_literal k x.lit) _ old) | inr is ↦ inr is ]
    ]

-- of two literals of one variable the one is the other or its negation
pub other_variable : (a : List Literal) (k l : Literal) → member a k ≡ true → is_assigned a l ≡ false → k.var ≢ l.var
other_variable a k l has free same =
    let parts = neither (member a l) (member a (negate l)) free in
    elim (one_of (same_literal l k) (same_literal (negate l) k) (two_signs (nat_eq l.var k.var) l.positive k.positive (ap (nat_eq l.var) same ∙ nat_itself l.var))) [
      | inl is ↦ clash (member a l) (ap (member a) (same_is l k is) ∙ has) parts.0
      | inr is ↦ clash (member a (negate l)) (ap (member a) (same_is (negate l) k is) ∙ has) parts.1
    ]

pub assign_agrees : (lits_of : ℕ → List Literal) (vars : ℕ) (m : State) (e : Step) → IsTrail lits_of vars m.trail → is_assigned (assigned m.trail) e.lit ≡ false → 0 < e.lit.var → e.lit.var ≤ vars → Agree vars m → Agree vars (assign m e)
assign_agrees lits_of vars m e trail free above within agree =
    record {
      size = simp length-set agree.size;
      signs = λ k has. elim (true_before m.trail e k has) [
        | inl old ↦
            let differ = other_variable (assigned m.trail) k e.lit old free in
            let k_above : 0 < k.var = (in_range lits_of vars [] m.trail k trail old).0 in
            let places : (k.var - 1) ≢ (e.lit.var - 1) = apart k.var e.lit.var k_above above differ in
            (rw get_or-set_other refl) ∙ agree.signs k old
        | inr is ↦
            let size = agree.size in
            let room : (e.lit.var - 1) < length m.signs = omega arith in
            ap (λ (x : Literal). get_or (set m.signs (e.lit.var - 1) e.lit.positive) (x.var - 1) false) is ∙ (rw get_or-set_same refl) ∙ ap (λ (x : Literal). x.positive) (sym is)
      ];
    }
  where
    apart : (m n : ℕ) → 0 < m → 0 < n → m ≢ n → (m - 1) ≢ (n - 1)
    apart m n a b d h = d (omega arith)

-- some literal isn't false
some_unfalse : (a c : List Literal) → clause_false a c ≡ false → (l : Literal) × (member c l ≡ true) × (is_false a l ≡ false)
some_unfalse a [] h = clash true refl h
some_unfalse a (l ∷ c) h =
    elim (is_false a l) as (λ b. is_false a l ≡ b → (b && clause_false a c) ≡ false → (k : Literal) × (member (l ∷ c) k ≡ true) × (is_false a k ≡ false)) [
      | true ↦ λ _ rest. let deep = some_unfalse a c rest in (deep.0, either_right (same_literal deep.0 l) (member c deep.0) deep.1, deep.2)
      | false ↦ λ here _. (l, either_left (same_literal l l) (member c l) (same_itself l), here)
    ] refl h

range_all : (p : ℕ → Bool) (low n v : ℕ) → list_all p (range_with_len low n) ≡ true → low ≤ v → v < low + n → p v ≡ true
range_all p low zero v h a b = absurd (omega arith)
range_all p low (suc n) v h a b =
    let parts = both (p low) (list_all p (range_with_len (low + 1) n)) h in
    elim (nat_eq low v) as (λ t. nat_eq low v ≡ t → p v ≡ true) [
      | true ↦ λ is. ap p (sym (nat_is low v is)) ∙ parts.0
      | false ↦ λ isnt. range_all p (low + 1) n v parts.1 (next low v isnt a) (omega arith)
    ] refl
  where
    next : (m n : ℕ) → nat_eq m n ≡ false → m ≤ n → m + 1 ≤ n
    next m n e l = grind (arith, common_steps)

same_assigned : (trail : List Step) (l : Literal) → is_assigned (assigned trail) (variable l.var) ≡ true → is_assigned (assigned trail) l ≡ true
same_assigned trail l h = elim (is_assigned (assigned trail) l) as (λ b. is_assigned (assigned trail) l ≡ b → b ≡ true) [
  | true ↦ λ _. refl
  | false ↦ λ free. clash (is_assigned (assigned trail) (variable l.var)) h (from l.var l.positive free)
] refl
  where
    from : (v : ℕ) (b : Bool) → is_assigned (assigned trail) (record { var = v; positive = b }) ≡ false → is_assigned (assigned trail) (variable v) ≡ false
    from v true f = f
    from v false f =
        let parts = neither (member (assigned trail) (record { var = v; positive = false })) (member (assigned trail) (record { var = v; positive = true })) f in
        ap (λ x. x || member (assigned trail) (record { var = v; positive = false })) parts.1 ∙ parts.0

-- In a state of case 1 the signs make each clause true.
clauses_true : (vars : ℕ) (m : State) → m.vars ≡ vars → Agree vars m → all_assigned m ≡ true → (k : ℕ) (cs : List (List Literal)) → variables_within vars cs ≡ true
    → list_all (λ c. not (clause_false (assigned m.trail) c.lits)) (numbered k cs) ≡ true → satisfies (value_in m.signs) cs ≡ true
clauses_true vars m same agree all k [] within unfalse = refl
clauses_true vars m same agree all k (c ∷ cs) within unfalse =
    let parts = both (not (clause_false (assigned m.trail) c)) (list_all (λ x. not (clause_false (assigned m.trail) x.lits)) (numbered (k + 1) cs)) unfalse in
    let ranges = both (list_all (λ l. nat_lt 0 l.var && nat_le l.var vars) c) (variables_within vars cs) within in
    let one = some_unfalse (assigned m.trail) c (flip (clause_false (assigned m.trail) c) parts.0) in
    let l = one.0 in
    let range = in_range_all vars l (member_all (λ x. nat_lt 0 x.var && nat_le x.var vars) c l ranges.0 one.1) in
    let low = range.0 in let high = range.1 in
    let done = same_assigned m.trail l (range_all (λ v. is_assigned (assigned m.trail) (variable v)) 1 m.vars l.var all (omega arith) (omega arith)) in
    let t : member (assigned m.trail) l ≡ true = elim (one_of (member (assigned m.trail) l) (is_false (assigned m.trail) l) done) [ inl t ↦ t | inr f ↦ clash (is_false (assigned m.trail) l) f one.2 ] in
    join _ _
    (member_any (literal_true (value_in m.signs)) c l one.1 (ap (λ b. same_sign b l.positive) (agree.signs l t) ∙ sign_itself l.positive))
    (clauses_true vars m same agree all (k + 1) cs ranges.1 parts.1)
  where
    flip : (b : Bool) → not b ≡ true → b ≡ false
    flip true h = sym h
    flip false h = refl

propagate_agrees : (all : List Clause) (vars : ℕ) (seen : List Step) (cs : List Clause) → AreKnown all vars cs → (m : State) → IsRound all vars seen m.trail → Agree vars m → Agree vars (propagate seen cs m)
propagate_agrees all vars seen [] known m round agree = agree
propagate_agrees all vars seen (c ∷ cs) known m round agree =
    elim (unit_literal (assigned seen) c.lits) as (λ o. unit_literal (assigned seen) c.lits ≡ o → Agree vars (propagate seen cs (propagate_one seen c o m))) [
      | None ↦ λ _. propagate_agrees all vars seen cs known.1 m round agree
      | Some l ↦ λ unit. elim (is_assigned (assigned m.trail) l) as (λ b. is_assigned (assigned m.trail) l ≡ b → Agree vars (propagate seen cs (cond b m (assign m (record { lit = l; level = level seen; reason = c.id }))))) [
        | true ↦ λ _. propagate_agrees all vars seen cs known.1 m round agree
        | false ↦ λ free.
            let e : Step = record { lit = l; level = level seen; reason = c.id } in
            let range = known.0.within l (member_of_unit (assigned seen) c.lits l unit) in
            propagate_agrees all vars seen cs known.1 (assign m e) (put_unit all vars seen m c l known.0 round unit free)
            (assign_agrees (clause_at all) vars m e round.is_trail free range.0 range.1 agree)
      ] refl
    ] refl

cut_member : (to : ℕ) (trail : List Step) (k : Literal) → member (assigned (cut to trail)) k ≡ true → member (assigned trail) k ≡ true
cut_member to [] k h = h
cut_member to (e ∷ trail) k h =
    elim (nat_le e.level to) as (λ b. member (assigned (cond b (e ∷ cut to trail) (cut to trail))) k ≡ true → (same_literal k e.lit || member (assigned trail) k) ≡ true) [
      | true ↦ λ one. elim (one_of (same_literal k e.lit) (member (assigned (cut to trail)) k) one) [ inl same ↦ either_left (same_literal k e.lit) _ same | inr later ↦ either_right (same_literal k e.lit) _ (cut_member to trail k later) ]
      | false ↦ λ later. either_right (same_literal k e.lit) _ (cut_member to trail k later)
    ] h

start_agrees : (vars : ℕ) (cs : List (List Literal)) → Agree vars (machine.start vars cs)
start_agrees vars cs = record { size = simp length-replicate; signs = λ k none. absurd_bool none }

-- What leads to the law on Sat.
pub record Leads (vars : ℕ) (cs : List (List Literal)) (m : State) : Type 0 where
  pub same : m.vars ≡ vars
  pub agree : Agree m.vars m
  pub more : List Clause
  pub given : m.clauses ≡ numbered 1 cs ++ more
  pub sat : m.end ≡ Sat → is_sat m ≡ true

both_ends : (t : Turn) → t ≡ More → t ≡ Sat → false ≡ true
both_ends t a b = cc

end_propagated : (seen : List Step) (cs : List Clause) (m : State) → (propagate seen cs m).end ≡ m.end
end_propagated seen [] m = refl
end_propagated seen (c ∷ cs) m = end_propagated seen cs (propagate_one seen c (unit_literal (assigned seen) c.lits) m) ∙ one (unit_literal (assigned seen) c.lits)
  where
    one_if : (b : Bool) (e : Step) → (cond b m (assign m e)).end ≡ m.end
    one_if true e = refl
    one_if false e = refl

    one : (o : Option Literal) → (propagate_one seen c o m).end ≡ m.end
    one None = refl
    one (Some l) = one_if (is_assigned (assigned m.trail) l) (record { lit = l; level = level seen; reason = c.id })

cut_agrees : (vars to : ℕ) (m t : State) → Agree vars m → t.signs ≡ m.signs → t.trail ≡ cut to m.trail → Agree vars t
cut_agrees vars to m t agree signs trail =
    record {
      size = ap length signs ∙ agree.size;
      signs = λ k has. ap (λ s. get_or s (k.var - 1) false) signs ∙ agree.signs k (cut_member to m.trail k (ap (λ x. member (assigned x) k) (sym trail) ∙ has));
    }

restart_leads : (vars : ℕ) (cs : List (List Literal)) (m : State) → m.end ≡ More → Leads vars cs m → Leads vars cs (machine.restart m)
restart_leads vars cs m e leads =
    elim (nat_eq m.since (64 * luby (m.restarts + 1))) as (λ b. Leads vars cs (elim b as (λ _. State) [ true ↦ record m { trail = cut 0 m.trail; restarts = m.restarts + 1; since = 0 } | false ↦ m ])) [
      | true ↦ record { same = leads.same; agree = cut_agrees m.vars 0 m (record m { trail = cut 0 m.trail; restarts = m.restarts + 1; since = 0 }) leads.agree refl refl; more = leads.more; given = leads.given; sat = λ s. absurd_bool (both_ends m.end e s) }
      | false ↦ leads
    ]

conflict_leads : (vars : ℕ) (cs : List (List Literal)) (m : State) (s : Lesson) → m.end ≡ More → Leads vars cs m → Leads vars cs (machine.conflict_with m s).state
conflict_leads vars cs m s e leads =
    elim s.lits as (λ ls. Leads vars cs (machine.after_lesson (machine.count_conflict m) s ls)) [
      | [] ↦ record { same = leads.same; agree = record { size = leads.agree.size; signs = leads.agree.signs }; more = leads.more; given = leads.given; sat = λ unsat. cc }
      | l ∷ ls ↦
          let m2 = machine.add_lesson (machine.count_conflict m) s in
          let new : Clause = record { id = m.inputs + (m.conflicts + 1); lits = s.lits } in
          restart_leads vars cs m2 e (record {
            same = leads.same;
            agree = cut_agrees m.vars s.back m m2 leads.agree refl refl;
            more = leads.more ++ new ∷ [];
            given = ap (λ l. l ++ new ∷ []) leads.given ∙ append_assoc (numbered 1 cs) leads.more (new ∷ []);
            sat = λ x. absurd_bool (both_ends m.end e x);
          })
    ]

move_leads : (vars : ℕ) (cs : List (List Literal)) (m : State) → Kept m → m.end ≡ More → is_sat m ≡ false → Leads vars cs m → Leads vars cs (machine.move m (false_clause m)).state
move_leads vars cs m kept e unsat leads =
    elim (false_clause m) as (λ o. false_clause m ≡ o → Leads vars cs (machine.move m o).state) [
      | Some c ↦ λ _. conflict_leads vars cs m (lesson (clause_at m.clauses) m.trail (level m.trail) c.id) e leads
      | None ↦ λ none. elim (has_unit m) as (λ b. has_unit m ≡ b → Leads vars cs (elim b as (λ _. machine.Moved) [ true ↦ machine.quietly (propagate m.trail m.clauses m) | false ↦ machine.quietly (machine.decide m (machine.choose m 0 (range_with_len 1 m.vars))) ]).state) [
        | true ↦ λ _.
            let t = propagate m.trail m.clauses m in
            let same = same_propagated m.trail m.clauses m in
            let known = are_known m.vars (m.inputs + m.conflicts + 1) m.clauses kept.rising kept.within in
            let round : IsRound m.clauses m.vars m.trail m.trail = record { is_trail = kept.is_trail; new = []; begins = sym (append-nil m.trail); level_is = refl } in
            record {
              same = same.vars ∙ leads.same;
              agree = subst (λ (n : ℕ). Agree n t) (sym same.vars) (propagate_agrees m.clauses m.vars m.trail m.clauses known m round leads.agree);
              more = leads.more;
              given = same.clauses ∙ leads.given;
              sat = λ s. absurd_bool (both_ends m.end e (sym (end_propagated m.trail m.clauses m) ∙ s));
            }
        | false ↦ λ no_unit.
            let ranged = range_in m 1 m.vars (omega arith) (omega arith) in
            let some : all_assigned m ≡ false = ap (λ b. not b && all_assigned m) (sym no_unit) ∙ (ap (λ o. (is_none o && not (has_unit m)) && all_assigned m) (sym none) ∙ unsat) in
            let v = machine.choose m 0 (range_with_len 1 m.vars) in
            elim (choose_free m 0 (range_with_len 1 m.vars) ranged (inl refl)) [
              | inl none_chosen ↦ absurd (choose_some m 0 (range_with_len 1 m.vars) ranged (inr some) none_chosen)
              | inr free ↦
                  let entry : Step = record { lit = record { var = v; positive = get_or m.signs (v - 1) false }; level = level m.trail + 1; reason = 0 } in
                  let after = assign_agrees (clause_at m.clauses) m.vars m entry kept.is_trail (either_sign m.trail v (get_or m.signs (v - 1) false) free.free) free.above free.within leads.agree in
                  record { same = leads.same; agree = after; more = leads.more; given = leads.given; sat = λ s. absurd_bool (both_ends m.end e s) }
            ]
      ] refl
    ] refl

step_leads : (vars : ℕ) (cs : List (List Literal)) (budget : ℕ) (m : State) → Kept m → Leads vars cs m → Leads vars cs (step budget m).state
unfolding step
step_leads vars cs budget m kept leads =
    elim m.end as (λ t. m.end ≡ t → Leads vars cs (step_from t budget m).state) [
      | More ↦ λ e. elim (is_sat m) as (λ b. is_sat m ≡ b → Leads vars cs (step_if b (nat_le budget m.spent) m).state) [
        | true ↦ λ solved. record { same = leads.same; agree = record { size = leads.agree.size; signs = leads.agree.signs }; more = leads.more; given = leads.given; sat = λ _. solved }
        | false ↦ λ unsat. elim (nat_le budget m.spent) as (λ b. Leads vars cs (step_if false b m).state) [
          | true ↦ record { same = leads.same; agree = record { size = leads.agree.size; signs = leads.agree.signs }; more = leads.more; given = leads.given; sat = λ s. cc }
          | false ↦ move_leads vars cs m kept e unsat leads
        ]
      ] refl
      | Sat ↦ λ _. leads
      | Unsat ↦ λ _. leads
      | Budget n ↦ λ _. leads
    ] refl

steps_lead : (vars : ℕ) (cs : List (List Literal)) (n budget : ℕ) (m : machine.Machine) → Kept m.state → Leads vars cs m.state → Leads vars cs (machine.steps n budget m).state
steps_lead vars cs zero budget m kept leads = leads
steps_lead vars cs (suc n) budget m kept leads = steps_lead vars cs n budget (machine.advance budget m) (step_kept budget m.state kept) (step_leads vars cs budget m.state kept leads)

start_leads : (vars : ℕ) (cs : List (List Literal)) → Leads vars cs (machine.start vars cs)
start_leads vars cs = record { same = refl; agree = start_agrees vars cs; more = []; given = sym (append-nil (numbered 1 cs)); sat = λ s. cc }

first_all : (p : Clause → Bool) (xs ys : List Clause) → list_all p (xs ++ ys) ≡ true → list_all p xs ≡ true
first_all p [] ys h = refl
first_all p (x ∷ xs) ys h = let parts = both (p x) (list_all p (xs ++ ys)) h in join _ _ parts.0 (first_all p xs ys parts.1)

none_passes : (p : Clause → Bool) (xs : List Clause) → is_none (find p xs) ≡ true → list_all (λ x. not (p x)) xs ≡ true
none_passes p [] h = refl
none_passes p (x ∷ xs) h = elim (p x) as (λ b. is_none (cond b (Some x) (find p xs)) ≡ true → (not b && list_all (λ y. not (p y)) xs) ≡ true) [ true ↦ λ some. absurd_bool some | false ↦ λ rest. none_passes p xs rest ] h

-- After Sat the signs satisfy the clauses.
solves : (vars : ℕ) (cs : List (List Literal)) (budget : ℕ) (m : State) → variables_within vars cs ≡ true → Reached vars cs budget m → m.end ≡ Sat → satisfies (value_in m.signs) cs ≡ true
solves vars cs budget m within reached is_end =
    let leads : Leads vars cs m = subst (λ (s : State). Leads vars cs s) (sym reached.1) (steps_lead vars cs reached.0 budget (machine.machine vars cs) (start_kept vars cs within) (start_leads vars cs)) in
    let solved = both (is_none (false_clause m) && not (has_unit m)) (all_assigned m) (leads.sat is_end) in
    let unfalse = both (is_none (false_clause m)) (not (has_unit m)) solved.0 in
    let passes = ap (λ l. list_all (λ c. not (clause_false (assigned m.trail) c.lits)) l) (sym leads.given) ∙ none_passes (λ c. clause_false (assigned m.trail) c.lits) m.clauses unfalse.0 in
    clauses_true vars m leads.same (subst (λ (n : ℕ). Agree n m) leads.same leads.agree) solved.1 1 cs within (first_all (λ c. not (clause_false (assigned m.trail) c.lits)) (numbered 1 cs) leads.more passes)

-- After Sat the signs are values that satisfy the clauses.
pub sat_solves : (vars : ℕ) (cs : List (List Literal)) (budget : ℕ) (m : State) → variables_within vars cs ≡ true → Reached vars cs budget m → m.end ≡ Sat → satisfies (value_of m.signs) cs ≡ true
sat_solves vars cs budget m within reached sat = ap (λ (f : ℕ → Bool). satisfies f cs) (λ i v. sym (value_is m.signs v) i) ∙ solves vars cs budget m within reached sat
