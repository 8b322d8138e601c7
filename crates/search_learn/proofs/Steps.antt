-- What a program that runs the machine keeps over steps that learn nothing.
use Rattle.std.proofs.Common.{◌≡◌, ℕ, ◌≤◌, Bool, true, List, length, arith, subst, sym}
use Rattle.std.specs.Prelude.{None}
use Rattle.sat_form.specs.Literals.{Literal}
use Rattle.sat_form.specs.Shape.{is_formula, variables_within}
use Rattle.sat_form.proofs.Sets.{both}
use Rattle.search_learn.specs.declared.Step.{Step}
use Rattle.search_learn.specs.declared.Turn.{Turn}
use Rattle.search_learn.specs.declared.Turn.TheVariants.{More}
use Rattle.search_learn.specs.Machine.{State, clause_at, quietly, step}
use Rattle.search_learn.specs.Rule.{IsTrail}
use Rattle.search_learn.specs.Values.{IsOfMachine}
use Rattle.search_learn.proofs.Keeps.{Kept}
use Rattle.search_learn.proofs.Reached.{reached_kept}
use Rattle.search_learn.proofs.Cases.{reached_more}
use Rattle.search_learn.specs.Kept.{Holds}

pub kept_of : (cs : List (List Literal)) (budget : ℕ) (vars learnt : ℕ) (m : State) → is_formula m.vars cs ≡ true → Holds cs budget vars learnt m → Kept m
kept_of cs budget vars learnt m formula holds = reached_kept m.vars cs budget m (both _ (variables_within m.vars cs) formula).1 holds.reached

-- Its trail is one of the machine.
pub machine_of : (cs : List (List Literal)) (budget : ℕ) (vars learnt : ℕ) (m : State) → is_formula m.vars cs ≡ true → Holds cs budget vars learnt m → IsOfMachine vars m.trail
machine_of cs budget vars learnt m formula holds = (clause_at m.clauses, subst (λ (v : ℕ). IsTrail (clause_at m.clauses) v m.trail) (sym holds.over) (kept_of cs budget vars learnt m formula holds).is_trail)

pub holds_stop : (cs : List (List Literal)) (budget : ℕ) (vars learnt : ℕ) (m : State) (turn : Turn) → Holds cs budget vars learnt m → step budget m ≡ quietly (record m { end = turn }) → (turn ≡ More → m.end ≡ More) → Holds cs budget vars learnt (record m { end = turn })
holds_stop cs budget vars learnt m turn h moves same = record {
  limit = h.limit;
  over = h.over;
  signs = h.signs;
  scores = h.scores;
  low = h.low;
  paid = h.paid;
  bound = h.bound;
  restarts = h.restarts;
  since = h.since;
  lessons = h.lessons;
  each = λ e. h.each (same e);
  reached = reached_more m.vars cs budget m (record m { end = turn }) None h.reached moves;
}

-- What a step that learns nothing leaves.
pub holds_more : (cs : List (List Literal)) (budget : ℕ) (vars now learnt : ℕ) (m : State) (trail : List Step) (signs : List Bool) (spent : ℕ) → Holds cs budget vars learnt m
    → step budget m ≡ quietly (record m { trail = trail; signs = signs; spent = spent }) → now ≡ m.vars → length signs ≡ m.vars → m.spent ≤ spent
    → Holds cs budget now learnt (record m { trail = trail; signs = signs; spent = spent })
holds_more cs budget vars now learnt m trail signs spent h moves over size more =
    let paid = h.paid in
    record {
      limit = h.limit;
      over = over;
      signs = size;
      scores = h.scores;
      low = h.low;
      paid = omega arith;
      bound = h.bound;
      restarts = h.restarts;
      since = h.since;
      lessons = h.lessons;
      each = h.each;
      reached = reached_more m.vars cs budget m (record m { trail = trail; signs = signs; spent = spent }) None h.reached moves;
    }
