-- The steps of the machine, case by case.
use Rattle.std.proofs.Common.{◌≡◌, ◌≢◌, ℕ, zero, suc, ◌-◌, ◌^◌, ◌<◌, ◌≤◌, Bool, true, false, not, ◌&&◌, cond, nat_le, nat_lt, nat_eq, set, length-take, List, [], ◌∷◌, ◌++◌, length, get_or, refl, ap, sym, ◌∙◌, arith, inl, inr}
use Rattle.std.specs.Prelude.{Some, None, is_none}
use Rattle.std.specs.List.{range_with_len, All, sum_by}
use Rattle.std.specs.Option.{option_map}
use Rattle.std.specs.declared.option.Option.{Option}
use Rattle.std.proofs.lemmas.Grind.{common_steps}
use Rattle.std.proofs.lemmas.List.Elements.{All-nil, All-cons}
use Rattle.std.proofs.lemmas.List.Sums.{sum_by-set, sum_by-cons, count_by-le-length}
use Rattle.sat_form.specs.Literals.{Literal, member, same_literal}
use Rattle.sat_form.specs.Shape.{is_formula, variables_within}
use Rattle.search_learn.specs.declared.Step.{Step}
use Rattle.search_learn.specs.declared.Turn.{Turn}
use Rattle.search_learn.specs.declared.Turn.TheVariants.{More, Sat, Unsat, Budget}
use Rattle.search_learn.specs.Trail.{assigned, level, unit_literal}
use Rattle.search_learn.specs.Analysis.{Lesson, lesson}
use Rattle.search_learn.specs.Machine.{Clause, State, Moved, Machine, clause_at, false_clause, has_unit, all_assigned, is_sat, propagate, propagate_one, choose, decide, conflict_with, quietly, step, step_from, step_if, move, advance, steps, Reached}
use Rattle.search_learn.specs.Engine.{Engine, stepped, moved}
use Rattle.search_learn.specs.Values.{is_value, AreValues, IsOfMachine}
use Rattle.search_learn.specs.Cases.{IsConflict, IsRound, IsChoice, unit_entry, unit_entries, put_entries}
use Rattle.sat_form.proofs.Sets.{both, member_of_unit, either_left, either_right, same_itself}
use Rattle.search_learn.proofs.Keeps.{AreWithin}
use Rattle.search_learn.proofs.Cutting.{front, last_entry, values_popped}
use Rattle.search_learn.proofs.Reached.{IsFree, choose_free, choose_some, range_in}

-- Before the end.
pub step_before : (budget : ℕ) (m : State) → m.end ≡ More → step budget m ≡ step_if (is_sat m) (nat_le budget m.spent) m
unfolding step
step_before budget m more = ap (λ t. step_from t budget m) more

step_ended : (budget : ℕ) (m : State) (t : Turn) → t ≢ More → step_from t budget m ≡ quietly m
step_ended budget m More h = absurd (h refl)
step_ended budget m Sat h = refl
step_ended budget m Unsat h = refl
step_ended budget m (Budget n) h = refl

pub case_ended : (budget : ℕ) (m : State) → m.end ≢ More → step budget m ≡ quietly m
unfolding step
case_ended budget m h = step_ended budget m m.end h

at_most : (a b : ℕ) → a ≤ b → nat_le a b ≡ true
at_most a b h = grind (arith, common_steps)

above : (a b : ℕ) → b < a → nat_le a b ≡ false
above a b h = grind (arith, common_steps)

case_spent : (budget : ℕ) (m : State) → m.end ≡ More → is_sat m ≡ false → budget ≤ m.spent → step budget m ≡ quietly (record m { end = Budget m.spent })
case_spent budget m more unsat spent =
    step_before budget m more
    ∙ ap (λ b. step_if b (nat_le budget m.spent) m) unsat
    ∙ ap (λ b. step_if false b m) (at_most budget m.spent spent)

case_moves : (budget : ℕ) (m : State) → m.end ≡ More → is_sat m ≡ false → m.spent < budget → step budget m ≡ move m (false_clause m)
case_moves budget m more unsat going =
    step_before budget m more
    ∙ ap (λ b. step_if b (nat_le budget m.spent) m) unsat
    ∙ ap (λ b. step_if false b m) (above budget m.spent going)

found_clause : (o : Option Clause) (id : ℕ) → Some id ≡ option_map (λ c. c.id) o → (c : Clause) × (o ≡ Some c) × (c.id ≡ id)
found_clause None id h = cc
found_clause (Some c) id h = (c, refl, cc)

found_none : (o : Option Clause) → ◌≡◌ {A = Option ℕ} None (option_map (λ c. c.id) o) → o ≡ None
found_none None h = refl
found_none (Some c) h = cc

unsat_false : (m : State) (c : Clause) → false_clause m ≡ Some c → is_sat m ≡ false
unsat_false m c found = ap (λ o. (is_none o && not (has_unit m)) && all_assigned m) found

unsat_unit : (m : State) → false_clause m ≡ None → has_unit m ≡ true → is_sat m ≡ false
unsat_unit m none unit = ap (λ o. (is_none o && not (has_unit m)) && all_assigned m) none ∙ ap (λ b. not b && all_assigned m) unit

sat_is : (m : State) (b : Bool) → false_clause m ≡ None → has_unit m ≡ false → all_assigned m ≡ b → is_sat m ≡ b
sat_is m b none unit all = ap (λ o. (is_none o && not (has_unit m)) && all_assigned m) none ∙ ap (λ x. not x && all_assigned m) unit ∙ all

module _ (budget : ℕ) (m : State) (more : m.end ≡ More) where
  pub false_spent : (id : ℕ) → Some id ≡ option_map (λ c. c.id) (false_clause m) → budget ≤ m.spent → step budget m ≡ quietly (record m { end = Budget m.spent })
  false_spent id found spent = let one = found_clause (false_clause m) id found in case_spent budget m more (unsat_false m one.0 one.1) spent

  pub false_taught : (id : ℕ) → Some id ≡ option_map (λ c. c.id) (false_clause m) → m.spent < budget → IsConflict budget m id
  false_taught id found going =
      let one = found_clause (false_clause m) id found in
      record {
        clause = one.0;
        found = one.1;
        is = one.2;
        going = going;
        before = more;
        moves = case_moves budget m more (unsat_false m one.0 one.1) going ∙ ap (move m) one.1 ∙ ap (λ n. conflict_with m (lesson (clause_at m.clauses) m.trail (level m.trail) n)) one.2;
      }

  module _ (none_found : ◌≡◌ {A = Option ℕ} None (option_map (λ (c : Clause). c.id) (false_clause m))) where
    none_is : false_clause m ≡ None
    none_is = found_none (false_clause m) none_found

    pub unit_spent : has_unit m ≡ true → budget ≤ m.spent → step budget m ≡ quietly (record m { end = Budget m.spent })
    unit_spent unit spent = case_spent budget m more (unsat_unit m none_is unit) spent

    pub unit_round : has_unit m ≡ true → m.spent < budget → IsRound budget m
    unit_round unit going = record {
      going = going;
      moves = case_moves budget m more (unsat_unit m none_is unit) going ∙ ap (move m) none_is
          ∙ ap (λ b. elim b as (λ _. Moved) [ true ↦ quietly (propagate m.trail m.clauses m) | false ↦ quietly (decide m (choose m 0 (range_with_len 1 m.vars))) ]) unit;
    }

    pub all_solved : has_unit m ≡ false → all_assigned m ≡ true → step budget m ≡ quietly (record m { end = Sat })
    all_solved unit all = step_before budget m more ∙ ap (λ b. step_if b (nat_le budget m.spent) m) (sat_is m true none_is unit all)

    pub choice_spent : has_unit m ≡ false → all_assigned m ≡ false → budget ≤ m.spent → step budget m ≡ quietly (record m { end = Budget m.spent })
    choice_spent unit all spent = case_spent budget m more (sat_is m false none_is unit all) spent

    pub choice_made : has_unit m ≡ false → all_assigned m ≡ false → m.spent < budget → IsChoice budget m
    choice_made unit all going = record {
      unassigned = all;
      going = going;
      moves = case_moves budget m more (sat_is m false none_is unit all) going ∙ ap (move m) none_is
          ∙ ap (λ b. elim b as (λ _. Moved) [ true ↦ quietly (propagate m.trail m.clauses m) | false ↦ quietly (decide m (choose m 0 (range_with_len 1 m.vars))) ]) unit;
    }

-- One step more.
pub steps_last : (n budget : ℕ) (a : Machine) → steps (suc n) budget a ≡ advance budget (steps n budget a)
steps_last zero budget a = refl
steps_last (suc n) budget a = steps_last n budget (advance budget a)

pub reached_more : (vars : ℕ) (cs : List (List Literal)) (budget : ℕ) (m t : State) (r : Option Lesson) → Reached vars cs budget m → step budget m ≡ record { state = t; learnt = r } → Reached vars cs budget t
reached_more vars cs budget m t r reached moves =
    (suc reached.0, sym (ap (λ (x : Moved). x.state) moves) ∙ ap (λ (x : State). (step budget x).state) reached.1 ∙ ap (λ (x : Machine). x.state) (sym (steps_last reached.0 budget _)))

pub stepped_is : (s : Engine) (r : Moved) → step s.budget s.state ≡ r → record s { state = r.state; last = r.learnt } ≡ stepped s
stepped_is s r moves = sym (ap (moved s) moves)

-- A round, in two parts.
put_all : (seen : List Step) (cs : List Clause) (m : State) → propagate seen cs m ≡ put_entries (unit_entries seen (level seen) cs) m
put_all seen [] m = refl
put_all seen (c ∷ cs) m =
    elim (unit_literal seen c.lits) as (λ o. propagate seen cs (propagate_one seen c o m) ≡ put_entries (unit_entry (level seen) c.id o ++ unit_entries seen (level seen) cs) m) [
      | None ↦ put_all seen cs m
      | Some l ↦ put_all seen cs (propagate_one seen c (Some l) m)
    ]

pub round_is : (budget : ℕ) (m t : State) (es : List Step) → IsRound budget m → es ≡ unit_entries m.trail (level m.trail) m.clauses → put_entries es m ≡ t → step budget m ≡ quietly t
round_is budget m t es round is put = round.moves ∙ ap quietly (put_all m.trail m.clauses m ∙ ap (λ x. put_entries x m) (sym is) ∙ put)

-- The chosen variable is free.
pub chosen_free : (budget : ℕ) (m : State) → IsChoice budget m → IsFree m (choose m 0 (range_with_len 1 m.vars))
chosen_free budget m choice =
    let ranged = range_in m 1 m.vars (omega arith) (omega arith) in
    elim (choose_free m 0 (range_with_len 1 m.vars) ranged (inl refl)) [
      | inl none_chosen ↦ absurd (choose_some m 0 (range_with_len 1 m.vars) ranged (inr choice.unassigned) none_chosen)
      | inr free ↦ free
    ]

-- What a round puts is in range.
entry_within : (seen : List Step) (d vars : ℕ) (c : Clause) → ((l : Literal) → member c.lits l ≡ true → (0 < l.var) × (l.var ≤ vars)) → (es : List Step) → All (λ (e : Step). e.lit.var ≤ vars) es
    → (o : Option Literal) → unit_literal seen c.lits ≡ o → All (λ (e : Step). e.lit.var ≤ vars) (unit_entry d c.id o ++ es)
entry_within seen d vars c within es all None unit = all
entry_within seen d vars c within es all (Some l) unit =
    All-cons (λ (e : Step). e.lit.var ≤ vars) (record { lit = l; level = d; reason = c.id }) es (within l (member_of_unit (assigned seen) c.lits l unit)).1 all

pub entries_within : (seen : List Step) (d vars : ℕ) (cs : List Clause) → AreWithin vars cs → All (λ (e : Step). e.lit.var ≤ vars) (unit_entries seen d cs)
entries_within seen d vars [] within = All-nil (λ (e : Step). e.lit.var ≤ vars)
entries_within seen d vars (c ∷ cs) within = entry_within seen d vars c within.0 (unit_entries seen d cs) (entries_within seen d vars cs within.1) (unit_literal seen c.lits) refl

-- As many variables have values as there are entries.
none_there : (o : Option Bool) (b : Bool) → is_value o b ≡ true → ◌≡◌ {A = ℕ} (cond (is_none o) 0 1) 1
none_there None b h = cc
none_there (Some v) b h = refl

abbrev valued : List (Option Bool) → ℕ
valued values = sum_by (λ o. cond (is_none o) 0 1) values

valued_fits : (values : List (Option Bool)) → valued values ≤ length values
valued_fits [] = omega arith
valued_fits (o ∷ values) = let deep = valued_fits values in let first = sum_by-cons (λ (x : Option Bool). cond (is_none x) 0 1) o values in let low = one o in omega arith
  where
    one : (o : Option Bool) → cond (is_none o) 0 1 ≤ 1
    one None = omega arith
    one (Some v) = omega arith

entries_fit : (n vars : ℕ) (t : List Step) (values : List (Option Bool)) → length t ≡ n → IsOfMachine vars t → AreValues vars values t → n ≤ valued values
entries_fit zero vars t values size machine are = omega arith
entries_fit (suc n) vars t values size machine are =
    let e = get_or t (length t - 1) none in
    let some : 0 < length t = omega arith in
    let last = last_entry vars t e machine some (get_or_any t (length t - 1) (omega arith)) in
    let shorter : length (front t) ≡ n = simp length-take (omega arith) in
    let deep = entries_fit n vars (front t) (set values (e.lit.var - 1) None) shorter last.front_machine (values_popped vars t values e last are) in
    let a = last.follows.above in let b = last.follows.within in let s = are.size in
    let place : (e.lit.var - 1) < length values = omega arith in
    let moved = sum_by-set (λ (x : Option Bool). cond (is_none x) 0 1) values (e.lit.var - 1) None None place in
    let here : ◌≡◌ {A = ℕ} (cond (is_none (get_or values (e.lit.var - 1) None)) 0 1) 1 = none_there (get_or values (e.lit.var - 1) None) e.lit.positive (are.each e.lit a ∙ ap (λ x. member (assigned x) e.lit) last.split ∙ assigned_last (front t) e) in
    omega arith
  where
    none : Step
    none = record { lit = record { var = 0; positive = false }; level = 0; reason = 0 }

    get_or_any : (t : List Step) (i : ℕ) → i < length t → get_or t i none ≡ get_or t i (get_or t i none)
    get_or_any t i h = grind (arith, common_steps)

    assigned_last : (b : List Step) (x : Step) → member (assigned (b ++ x ∷ [])) x.lit ≡ true
    assigned_last [] x = either_left (same_literal x.lit x.lit) false (same_itself x.lit)
    assigned_last (y ∷ b) x = either_right (same_literal x.lit y.lit) _ (assigned_last b x)

decisions_fit : (t : List Step) → level t ≤ length t
decisions_fit t = count_by-le-length (λ (e : Step). nat_eq e.reason 0) t

-- The level is at most the number of variables.
pub level_fits : (vars : ℕ) (t : List Step) (values : List (Option Bool)) → IsOfMachine vars t → AreValues vars values t → level t ≤ vars
level_fits vars t values machine are =
    let a = entries_fit (length t) vars t values refl machine are in
    let b = valued_fits values in
    let d = decisions_fit t in
    let s = are.size in
    omega arith

pub vars_small : (vars : ℕ) (cs : List (List Literal)) → is_formula vars cs ≡ true → vars < 2 ^ 31
vars_small vars cs h = let t = (both (nat_lt vars (2 ^ 31)) (nat_lt (length cs) (2 ^ 62)) (both _ (variables_within vars cs) h).0).0 in below vars t
  where
    below : (n : ℕ) → nat_lt n (2 ^ 31) ≡ true → n < 2 ^ 31
    below n h = grind (arith, common_steps)

pub stepped_whole : (s : Engine) (r : Moved) → step s.budget s.state ≡ r → s.broken ≡ false → record s { state = r.state; last = r.learnt; broken = false } ≡ stepped s
stepped_whole s r moves whole = ap (λ b. record s { state = r.state; last = r.learnt; broken = b }) (sym whole) ∙ stepped_is s r moves
