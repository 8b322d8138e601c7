-- What a program that runs the machine keeps over a conflict.
use Rattle.std.proofs.Common.{◌≡◌, ℕ, zero, suc, ◌+◌, ◌-◌, ◌*◌, ◌^◌, ◌<◌, ◌≤◌, Bool, false, List, [], ◌++◌, length, get_or, replicate, refl, ap, sym, ◌∙◌, subst, arith}
use Rattle.std.proofs.lemmas.List.{append-nil, length-replicate}
use Rattle.search_learn.proofs.Ordered.{lesson_times}
use Rattle.std.specs.Prelude.{Some}
use Rattle.std.proofs.lemmas.Grind.{common_steps}
use Rattle.sat_form.specs.Literals.{Literal}
use Rattle.search_learn.specs.declared.Step.{Step}
use Rattle.search_learn.specs.declared.Turn.TheVariants.{More, Unsat}
use Rattle.search_learn.specs.Trail.{level}
use Rattle.search_learn.specs.Analysis.{Lesson}
use Rattle.search_learn.specs.Machine.{Clause, State, numbered, clause_at, after_lesson, raise, count_conflict, step}
use Rattle.search_learn.specs.Kept.{Holds}
use Rattle.search_learn.specs.Cases.{Teaches, times}
use Rattle.search_learn.proofs.Lessons.{added, length_raised, raise_low, teaches_ranged}
use Rattle.search_learn.proofs.Cases.{reached_more}
use Rattle.search_learn.proofs.Keeps.{Kept}

more_room : (a b c : ℕ) → a ≤ b * c → a ≤ (b + 1) * c
more_room a b c h = let e : (b + 1) * c ≡ b * c + c = grind (arith, common_steps) in omega arith

pub holds_refute : (cs : List (List Literal)) (budget : ℕ) (vars learnt : ℕ) (m : State) (s : Lesson) → Holds cs budget vars learnt m → Teaches budget m s → s.lits ≡ []
    → Holds cs budget vars learnt (record m { spent = m.spent + 1; conflicts = m.conflicts + 1; end = Unsat })
holds_refute cs budget vars learnt m s h t empty =
    let going = t.going in let paid = h.paid in let restarts = h.restarts in let since = h.since in let lessons = h.lessons in
    record {
      limit = h.limit;
      over = h.over;
      signs = h.signs;
      scores = h.scores;
      low = λ i. more_room _ m.conflicts (2 ^ 64) (h.low i);
      paid = omega arith;
      bound = omega arith;
      restarts = omega arith;
      since = omega arith;
      lessons = omega arith;
      each = λ e. cc;
      reached = reached_more m.vars cs budget m _ (Some s) h.reached (t.moves ∙ ap (λ ls. record { state = after_lesson (count_conflict m) s ls; learnt = Some s }) empty);
    }

zero_kept : (n i : ℕ) → get_or {A = ℕ} (replicate {A = ℕ} n 0) i 0 ≡ zero
zero_kept zero i = refl
zero_kept (suc n) zero = refl
zero_kept (suc n) (suc i) = zero_kept n i

pub holds_start : (vars : ℕ) (cs : List (List Literal)) (budget : ℕ) → budget ≤ 2 ^ 62 → (over : ℕ) (scores : List ℕ) (signs : List Bool) (learnt : List (List Literal)) (trail : List Step)
    → over ≡ vars → scores ≡ replicate vars 0 → signs ≡ replicate vars false → learnt ≡ [] → trail ≡ []
    → Holds cs budget over (length learnt) (record { vars = vars; inputs = length cs; clauses = numbered 1 (cs ++ learnt); trail = trail; scores = scores; signs = signs; spent = 0; conflicts = 0; restarts = 0; since = 0; end = More })
holds_start vars cs budget limit over scores signs learnt trail v sc si le tr =
    let none : length learnt ≡ 0 = ap length le in
    record {
      limit = limit;
      over = v;
      signs = ap length si ∙ length-replicate vars false;
      scores = ap length sc ∙ length-replicate vars 0;
      low = λ i. let e : get_or scores i 0 ≡ 0 = ap (λ x. get_or x i 0) sc ∙ zero_kept vars i in omega arith;
      paid = omega arith;
      bound = omega arith;
      restarts = omega arith;
      since = omega arith;
      lessons = omega arith;
      each = λ e. none;
      reached = (
        0,
        λ i. record {
          vars = vars;
          inputs = length cs;
          clauses = (ap (λ l. numbered 1 (cs ++ l)) le ∙ ap (numbered 1) (append-nil cs)) i;
          trail = tr i;
          scores = sc i;
          signs = si i;
          spent = 0;
          conflicts = 0;
          restarts = 0;
          since = 0;
          end = More;
        },
      );
    }

product_bound : (a b : ℕ) → a ≤ 2 ^ 62 → b ≤ 2 → a * b ≤ 2 ^ 63
product_bound a zero h l = let e : a * 0 ≡ 0 = grind (arith, common_steps) in omega arith
product_bound a (suc zero) h l = let e : a * 1 ≡ a = grind (arith, common_steps) in omega arith
product_bound a (suc (suc zero)) h l = let e : a * 2 ≡ a + a = grind (arith, common_steps) in omega arith
product_bound a (suc (suc (suc b))) h l = absurd (omega arith)

pub raise_room : (cs : List (List Literal)) (budget : ℕ) (vars learnt : ℕ) (m : State) (s : Lesson) → Holds cs budget vars learnt m → Teaches budget m s
    → (v : ℕ) → 0 < v → get_or m.scores (v - 1) 0 + (m.conflicts + 1) * times v s.lits < 2 ^ 128
raise_room cs budget vars learnt m s h t v above =
    let two : times v s.lits ≤ 2 = subst (λ (x : Lesson). times v x.lits ≤ 2) (sym t.is) (lesson_times (clause_at m.clauses) m.trail (level m.trail) t.clause.id v) in
    let going = t.going in let paid = h.paid in let limit = h.limit in
    let more = product_bound (m.conflicts + 1) (times v s.lits) (omega arith) two in
    let low = h.low (v - 1) in
    let most = scores_bound m.conflicts (omega arith) in
    omega arith
  where
    scores_bound : (a : ℕ) → a ≤ 2 ^ 62 → a * 2 ^ 64 ≤ 2 ^ 126
    scores_bound a h = omega arith

pub holds_add : (cs : List (List Literal)) (budget : ℕ) (vars now learnt : ℕ) (m : State) (s : Lesson) (clauses : List Clause) (trail : List Step) (scores : List ℕ) (restarts since new_learnt : ℕ)
    → Holds cs budget vars learnt m → Kept m → Teaches budget m s → step budget m ≡ record { state = added m clauses trail scores restarts since; learnt = Some s }
    → scores ≡ raise (m.conflicts + 1) m.scores s.lits → now ≡ m.vars → restarts ≤ m.restarts + 1 → since ≤ m.since + 1 → new_learnt ≡ learnt + 1
    → Holds cs budget now new_learnt (added m clauses trail scores restarts since)
holds_add cs budget vars now learnt m s clauses trail scores restarts since new_learnt h kept t moves raised over restarts_low since_low one =
    let going = t.going in let paid = h.paid in let old_restarts = h.restarts in let old_since = h.since in let lessons = h.lessons in let limit = h.limit in let equal = h.each t.before in
    record {
      limit = h.limit;
      over = over;
      signs = h.signs;
      scores = ap length raised ∙ length_raised (m.conflicts + 1) m.scores s.lits ∙ h.scores;
      low = λ i.
          let two : times (i + 1) s.lits ≤ 2 = subst (λ (x : Lesson). times (i + 1) x.lits ≤ 2) (sym t.is) (lesson_times (clause_at m.clauses) m.trail (level m.trail) t.clause.id (i + 1)) in
          let more = product_bound (m.conflicts + 1) (times (i + 1) s.lits) (omega arith) two in
          let low = h.low i in
          let here = raise_low (m.conflicts + 1) m.scores s.lits (λ l has. (teaches_ranged budget m s kept t l has).0) i in
          let is : get_or scores i 0 ≡ get_or (raise (m.conflicts + 1) m.scores s.lits) i 0 = ap (λ x. get_or x i 0) raised in
          omega arith;
      paid = omega arith;
      bound = omega arith;
      restarts = omega arith;
      since = omega arith;
      lessons = omega arith;
      each = λ e. omega arith;
      reached = reached_more m.vars cs budget m _ (Some s) h.reached moves;
    }
