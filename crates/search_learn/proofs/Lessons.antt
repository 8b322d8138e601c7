-- What a conflict teaches.
use Rattle.std.proofs.Common.{◌≡◌, ◌≢◌, ℕ, zero, suc, ◌+◌, ◌-◌, ◌*◌, ◌<◌, ◌≤◌, Bool, true, false, cond, nat_eq, List, [], ◌∷◌, ◌++◌, length, get_or, set, length-set, get_or-set_other, refl, ap, sym, ◌∙◌, subst, arith, length-append}
use Rattle.std.proofs.lemmas.List.{append_assoc}
use Rattle.std.proofs.lemmas.List.Elements.{All-nil, All-cons}
use Rattle.std.proofs.lemmas.List.Sums.{sum_by-cons}
use Rattle.search_learn.proofs.Decisions.{are_reasoned}
use Rattle.std.specs.Prelude.{Some, Ok, Err, IfOk}
use Rattle.std.specs.declared.result.Result.{Result}
use Rattle.search_learn.specs.declared.Learnt.{Learnt}
use Rattle.std.specs.List.{find, All}
use Rattle.std.specs.Option.{option_map_or}
use Rattle.std.proofs.lemmas.Grind.{common_steps}
use Rattle.sat_form.specs.Literals.{Literal, member, negate, same_literal, set_of}
use Rattle.sat_form.specs.Assignment.{clause_false, is_false}
use Rattle.search_learn.specs.declared.Step.{Step}
use Rattle.search_learn.specs.Trail.{assigned, level}
use Rattle.search_learn.specs.Rule.{IsTrail, clause_with}
use Rattle.search_learn.specs.Analysis.{Lesson, Resolved, lesson, seen}
use Rattle.search_learn.specs.Machine.{Clause, State, numbered, clause_at, false_clause, after_lesson, add_lesson, restart, raise, count_conflict, conflict_with, step}
use Rattle.search_learn.proofs.Places.{same_clause, same_lesson}
use Rattle.search_learn.specs.Cases.{IsConflict, Teaches, times}
use Rattle.search_learn.proofs.Reach.{IsKnown}
use Rattle.search_learn.proofs.Keeps.{Kept, are_known, in_range, lesson_false}
use Rattle.sat_form.proofs.Sets.{member_all, set_of_member, absurd_bool, either_left, either_right, same_itself}
use Rattle.search_learn.proofs.Reached.{found_known}

pub trail_by_place : (all : List (List Literal)) (vars : ℕ) (trail : List Step) → IsTrail (clause_at (numbered 1 all)) vars trail → IsTrail (clause_with all) vars trail
trail_by_place all vars trail h = subst (λ (f : ℕ → List Literal). IsTrail f vars trail) (λ i id. same_clause all id i) h

id_range : (p : Clause → Bool) (k : ℕ) (cs : List (List Literal)) (c : Clause) → find p (numbered k cs) ≡ Some c → (k ≤ c.id) × (c.id < k + length cs)
id_range p k [] c h = cc
id_range p k (x ∷ cs) c h =
    elim (p (record { id = k; lits = x })) as (λ b. cond b (Some (record { id = k; lits = x })) (find p (numbered (k + 1) cs)) ≡ Some c → (k ≤ c.id) × (c.id < k + suc (length cs))) [
      | true ↦ λ here. let e : record { id = k; lits = x } ≡ c = cc in let i : k ≡ c.id = ap (λ (y : Clause). y.id) e in (omega arith, omega arith)
      | false ↦ λ later. let deep = id_range p (k + 1) cs c later in let a = deep.0 in let b = deep.1 in (omega arith, omega arith)
    ] h

pub id_known : (budget : ℕ) (m : State) (cs : List (List Literal)) (learnt : List (List Literal)) (id : ℕ) → m.clauses ≡ numbered 1 (cs ++ learnt) → IsConflict budget m id → (0 < id) × (id ≤ length cs + length learnt)
id_known budget m cs learnt id all here =
    let range = id_range (λ c. clause_false (assigned m.trail) c.lits) 1 (cs ++ learnt) here.clause (ap (find (λ c. clause_false (assigned m.trail) c.lits)) (sym all) ∙ here.found) in
    let a = range.0 in let b = range.1 in
    let is = here.is in
    let size : length (cs ++ learnt) ≡ length cs + length learnt = length-append cs learnt in
    (omega arith, omega arith)

pub found_here : (m : State) (c : Clause) → Kept m → false_clause m ≡ Some c → IsKnown m.clauses m.vars c × (clause_false (assigned m.trail) c.lits ≡ true)
found_here m c kept found = found_known m.clauses m.vars (λ x. clause_false (assigned m.trail) x.lits) m.clauses c (are_known m.vars (m.inputs + m.conflicts + 1) m.clauses kept.rising kept.within) found

pub false_by_place : (budget : ℕ) (m : State) (all : List (List Literal)) (id : ℕ) → m.clauses ≡ numbered 1 all → Kept m → IsConflict budget m id → clause_false (assigned m.trail) (clause_with all id) ≡ true
false_by_place budget m all id is kept here =
    let one = found_here m here.clause kept here.found in
    let lits : clause_at m.clauses here.clause.id ≡ here.clause.lits = ap (λ o. option_map_or (λ (x : Clause). x.lits) o []) one.0.found in
    ap (clause_false (assigned m.trail)) (sym (same_clause all id) ∙ ap (λ cs. clause_at cs id) (sym is) ∙ ap (clause_at m.clauses) (sym here.is) ∙ lits) ∙ one.1

pub teaches : (budget : ℕ) (m : State) (all : List (List Literal)) (id : ℕ) → m.clauses ≡ numbered 1 all → IsConflict budget m id → {E : Type 0} (r : Result Learnt E)
    → IfOk r (λ l. seen l ≡ lesson (clause_with all) m.trail (level m.trail) id) → IfOk r (λ l. Teaches budget m (seen l))
teaches budget m all id is here (Err e) h = tt
teaches budget m all id is here (Ok l) h =
    let lesson_is : seen l ≡ lesson (clause_at m.clauses) m.trail (level m.trail) id = h ∙ same_lesson all m.trail (level m.trail) id ∙ ap (λ cs. lesson (clause_at cs) m.trail (level m.trail) id) (sym is) in
    record {
      clause = here.clause;
      found = here.found;
      going = here.going;
      before = here.before;
      is = lesson_is ∙ ap (λ n. lesson (clause_at m.clauses) m.trail (level m.trail) n) (sym here.is);
      moves = here.moves ∙ ap (conflict_with m) (sym lesson_is);
    }

-- The literals of a lesson are in range.
pub lesson_ranged : (m : State) (c : Clause) → Kept m → false_clause m ≡ Some c → (l : Literal) → member (lesson (clause_at m.clauses) m.trail (level m.trail) c.id).lits l ≡ true → (0 < l.var) × (l.var ≤ m.vars)
lesson_ranged m c kept found l has =
    let here = found_here m c kept found in
    let lits_of = clause_at m.clauses in
    let lits : lits_of c.id ≡ c.lits = ap (λ o. option_map_or (λ (x : Clause). x.lits) o []) here.0.found in
    let start : Resolved = record { lits = set_of (lits_of c.id); used = [] } in
    let all : (k : Literal) → member start.lits k ≡ true → is_false (assigned m.trail) k ≡ true =
    λ k one. member_all (is_false (assigned m.trail)) (lits_of c.id) k (ap (clause_false (assigned m.trail)) lits ∙ here.1) (set_of_member (lits_of c.id) k one) in
    let reasoned = are_reasoned lits_of m.vars m.trail (level m.trail) start [] m.trail refl kept.is_trail (λ k none. absurd_bool none) refl all in
    in_range lits_of m.vars [] m.trail (negate l) kept.is_trail (lesson_false lits_of m.vars m.trail (level m.trail) start all [] m.trail refl kept.is_trail reasoned l has)

pub all_ranged : (vars : ℕ) (ls : List Literal) → ((l : Literal) → member ls l ≡ true → (0 < l.var) × (l.var ≤ vars)) → All (λ (l : Literal). l.var ≤ vars) ls
all_ranged vars [] h = All-nil (λ (l : Literal). l.var ≤ vars)
all_ranged vars (l ∷ ls) h =
    All-cons (λ (k : Literal). k.var ≤ vars) l ls (h l (either_left (same_literal l l) (member ls l) (same_itself l))).1
    (all_ranged vars ls (λ k has. h k (either_right (same_literal k l) (member ls k) has)))

pub length_raised : (by : ℕ) (scores : List ℕ) (ls : List Literal) → length (raise by scores ls) ≡ length scores
length_raised by scores [] = refl
length_raised by scores (l ∷ ls) = length_raised by (set scores (l.var - 1) (get_or scores (l.var - 1) 0 + by)) ls ∙ length-set scores (l.var - 1) _

-- A score grows by so much for each time that its variable stands in the clause.
pub raise_low : (by : ℕ) (scores : List ℕ) (ls : List Literal) → ((l : Literal) → member ls l ≡ true → 0 < l.var) → (i : ℕ) → get_or (raise by scores ls) i 0 ≤ get_or scores i 0 + by * times (i + 1) ls
raise_low by scores [] above i = omega arith
raise_low by scores (l ∷ ls) above i =
    let next = set scores (l.var - 1) (get_or scores (l.var - 1) 0 + by) in
    let deep = raise_low by next ls (λ k has. above k (either_right (same_literal k l) (member ls k) has)) i in
    let low = above l (either_left (same_literal l l) (member ls l) (same_itself l)) in
    let first = sum_by-cons (λ (k : Literal). cond (nat_eq k.var (i + 1)) 1 0) l ls in
    elim (nat_eq l.var (i + 1)) as (λ b. nat_eq l.var (i + 1) ≡ b → times (i + 1) (l ∷ ls) ≡ cond b 1 0 + times (i + 1) ls → get_or (raise by next ls) i 0 ≤ get_or scores i 0 + by * times (i + 1) (l ∷ ls)) [
      | true ↦ λ is count.
          let here = one_raised by scores (l.var - 1) i in
          let product : by * times (i + 1) (l ∷ ls) ≡ by + by * times (i + 1) ls = ap (λ n. by * n) count ∙ one_more by (times (i + 1) ls) in
          omega arith
      | false ↦ λ isnt count.
          let places : i ≢ (l.var - 1) = apart l.var i low isnt in
          let here : get_or next i 0 ≡ get_or scores i 0 = rw get_or-set_other refl in
          let product : by * times (i + 1) (l ∷ ls) ≡ by * times (i + 1) ls = ap (λ n. by * n) (count ∙ none_more (times (i + 1) ls)) in
          omega arith
    ] refl first
  where
    one_raised : (by : ℕ) (scores : List ℕ) (j i : ℕ) → get_or (set scores j (get_or scores j 0 + by)) i 0 ≤ get_or scores i 0 + by
    one_raised by [] j i = omega arith
    one_raised by (x ∷ xs) zero zero = omega arith
    one_raised by (x ∷ xs) zero (suc i) = omega arith
    one_raised by (x ∷ xs) (suc j) zero = omega arith
    one_raised by (x ∷ xs) (suc j) (suc i) = one_raised by xs j i

    apart : (v i : ℕ) → 0 < v → nat_eq v (i + 1) ≡ false → i ≢ (v - 1)
    apart v i a h e = let same : v ≡ i + 1 = omega arith in grind (arith, common_steps)

    one_more : (a b : ℕ) → a * (1 + b) ≡ a + a * b
    one_more a b = grind (arith, common_steps)

    none_more : (n : ℕ) → 0 + n ≡ n
    none_more n = omega arith

abbrev pub taught : State → Clause → Lesson
taught m c = lesson (clause_at m.clauses) m.trail (level m.trail) c.id

pub teaches_ranged : (budget : ℕ) (m : State) (s : Lesson) → Kept m → Teaches budget m s → (l : Literal) → member s.lits l ≡ true → (0 < l.var) × (l.var ≤ m.vars)
teaches_ranged budget m s kept t l has = lesson_ranged m t.clause kept t.found l (ap (λ (x : Lesson). member x.lits l) (sym t.is) ∙ has)

after_some : (m : State) (s : Lesson) (ls : List Literal) → ls ≢ [] → after_lesson m s ls ≡ restart (add_lesson m s)
after_some m s [] h = absurd (h refl)
after_some m s (l ∷ ls) h = refl

numbered_push : (k : ℕ) (cs : List (List Literal)) (c : List Literal) (id : ℕ) → id ≡ k + length cs → numbered k (cs ++ c ∷ []) ≡ numbered k cs ++ record { id = id; lits = c } ∷ []
numbered_push k [] c id h = let e : k ≡ id = omega arith in ap (λ n. record { id = n; lits = c } ∷ []) e
numbered_push k (x ∷ cs) c id h = ap (λ l. record { id = k; lits = x } ∷ l) (numbered_push (k + 1) cs c id (omega arith))

-- A clause is learnt.
pub clauses_pushed : (m : State) (cs : List (List Literal)) (learnt : List (List Literal)) (lits : List Literal) → m.clauses ≡ numbered 1 (cs ++ learnt) → m.inputs ≡ length cs → length learnt ≡ m.conflicts
    → numbered 1 (cs ++ (learnt ++ lits ∷ [])) ≡ m.clauses ++ record { id = m.inputs + (m.conflicts + 1); lits = lits } ∷ []
clauses_pushed m cs learnt lits all given each =
    let size : length (cs ++ learnt) ≡ length cs + length learnt = length-append cs learnt in
    ap (numbered 1) (sym (append_assoc cs learnt (lits ∷ [])))
    ∙ numbered_push 1 (cs ++ learnt) lits (m.inputs + (m.conflicts + 1)) (omega arith)
    ∙ ap (λ x. x ++ record { id = m.inputs + (m.conflicts + 1); lits = lits } ∷ []) (sym all)

abbrev pub added : State → List Clause → List Step → List ℕ → ℕ → ℕ → State
added m clauses trail scores restarts since = record m { clauses = clauses; trail = trail; scores = scores; spent = m.spent + 1; conflicts = m.conflicts + 1; restarts = restarts; since = since }

pub add_moves : (budget : ℕ) (m : State) (s : Lesson) (clauses : List Clause) (trail : List Step) (scores : List ℕ) (restarts since : ℕ) → Teaches budget m s → s.lits ≢ []
    → clauses ≡ m.clauses ++ record { id = m.inputs + (m.conflicts + 1); lits = s.lits } ∷ [] → scores ≡ raise (m.conflicts + 1) m.scores s.lits
    → restart (add_lesson (count_conflict m) s) ≡ record (add_lesson (count_conflict m) s) { trail = trail; since = since; restarts = restarts }
    → step budget m ≡ record { state = added m clauses trail scores restarts since; learnt = Some s }
add_moves budget m s clauses trail scores restarts since t some pushed raised restarted =
    t.moves
    ∙ ap (λ (x : State). record { state = x; learnt = Some s }) (after_some (count_conflict m) s s.lits some ∙ restarted)
    ∙ (λ i. record { state = added m (sym pushed i) trail (sym raised i) restarts since; learnt = Some s })

pub any_default : (xs : List Bool) (i : ℕ) (d e : Bool) → i < length xs → get_or xs i d ≡ get_or xs i e
any_default [] i d e h = absurd (omega arith)
any_default (x ∷ xs) zero d e h = refl
any_default (x ∷ xs) (suc i) d e h = any_default xs i d e (omega arith)
