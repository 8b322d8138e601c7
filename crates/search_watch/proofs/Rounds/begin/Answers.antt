use Rattle.std.proofs.Common.{◌≡◌, ◌+◌, ◌-◌, ◌∙◌, ◌≤◌, ℕ, Bool, true, false, [], List, length, get_or, replicate, take, ap, sym, refl, subst, arith}
use Rattle.std.specs.Prelude.{None}
use Rattle.std.proofs.lemmas.List.{append-nil, length-replicate, get_or-replicate, take_all}
use Rattle.sat_form.specs.Literals.{Literal}
use Rattle.sat_form.specs.Shape.{is_formula}
use Rattle.search_heap.specs.Ranking.{Ranking}
use Rattle.search_learn.specs.declared.Step.{Step}
use Rattle.search_learn.specs.declared.Turn.TheVariants.{More}
use Rattle.search_learn.specs.Engine.{Engine, begun}
use Rattle.search_learn.specs.Machine.{State, numbered}
use Rattle.search_learn.specs.Values.{Entries}
use Rattle.search_learn.specs.Kept.{Holds}
use Rattle.search_learn.proofs.Held as lessons
use Rattle.search_watch.specs.Nets.{IsNet, net}
use Rattle.search_watch.proofs.Follows.{follows_given}
use Rattle.search_watch.proofs.Rounds.begin.Goals as goal

all_given : (k : ℕ) (cs : List (List Literal)) → k ≡ length cs → take k cs ≡ cs
all_given k cs is = take_all k cs (omega arith)

pub invariant_of-result : goal.invariant_of-result
invariant_of-result c =
    let a = c.args in
    let q = c.requires in
    let cs = a.watches.clauses in
    let over : a.trail.vars ≡ a.vars = ap (λ (x : Entries). x.vars) q.trail in
    let steps : a.trail.steps ≡ [] = ap (λ (x : Entries). x.steps) q.trail in
    let scores : a.heap.scores ≡ replicate a.vars 0 = ap (λ (x : Ranking). x.scores) q.heap in
    let members : a.heap.members ≡ replicate a.vars true = ap (λ (x : Ranking). x.members) q.heap in
    let held = lessons.holds_start a.vars cs a.budget q.limit a.trail.vars a.heap.scores a.signs.items [] a.trail.steps over scores q.signs refl steps in
    let state : ℕ → List (List Literal) → State =
    λ count all. record { vars = a.vars; inputs = count; clauses = numbered 1 all; trail = a.trail.steps; scores = a.heap.scores; signs = a.signs.items; spent = 0; conflicts = 0; restarts = 0; since = 0; end = More } in
    let none = append-nil cs in
    λ _. follows_given (take a.inputs cs) cs a.budget a.trail.vars a.learner (net a.watches) a.heap (state a.inputs cs) (all_given a.inputs cs q.given) (record {
      learnt = 0;
      size = more_none (length cs);
      given = q.given;
      formula = q.formula;
      holds = subst (λ (x : State). Holds cs a.budget a.trail.vars 0 x) (λ i. state (sym q.given i) (none i)) held;
      clauses = refl;
      learner = q.learner;
      members = ap length members ∙ length-replicate a.vars true;
      net = λ _. subst (λ (t : List Step). IsNet a.vars t [] (net a.watches)) (sym steps) q.net;
      free = λ _ v above within _. ap (λ (ms : List Bool). get_or ms (v - 1) false) members ∙ get_or-replicate a.vars (v - 1) true false (omega arith);
    })
  where
    more_none : (x : ℕ) → x ≡ x + 0
    more_none x = omega arith

pub returns : goal.returns
returns c =
    let a = c.args in
    let q = c.requires in
    let cs = a.watches.clauses in
    λ i. record {
      vars = a.vars;
      clauses = all_given a.inputs cs q.given i;
      budget = a.budget;
      state = record {
        vars = a.vars;
        inputs = q.given i;
        clauses = numbered 1 cs;
        trail = (q.trail i).steps;
        scores = (q.heap i).scores;
        signs = q.signs i;
        spent = 0;
        conflicts = 0;
        restarts = 0;
        since = 0;
        end = More;
      };
      last = None;
      broken = false;
    }
