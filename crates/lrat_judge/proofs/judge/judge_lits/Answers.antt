use Rattle.std.proofs.Common.{◌≡◌, ◌++◌, [], List, Bool, ap, sym, ◌∙◌, subst, map, nat_abs}
use Rattle.std.specs.Option.{option_map}
use Rattle.sat_form.specs.Literals.{Literal, negate, member}
use Rattle.lrat_lines.specs.Judge as judge
use Rattle.lrat_judge.specs.Judged.{cause_shown}
use Rattle.lrat_judge.specs.Marked.{Same}
use Rattle.lrat_judge.specs.Taken.{Comes}
use Rattle.lrat_judge.specs.Assumed.{Assumes, judge_new}
use Rattle.lrat_judge.specs.declared.hints.Taken.{Taken}
use Rattle.lrat_judge.proofs.Judging.{new_blocked, new_open, passed_on}
use Rattle.lrat_judge.proofs.judge.judge_lits.Goals as goal

pub returns-then-not-branch : goal.returns-then-not-branch
returns-then-not-branch c =
    let start : Same c.args.marks.now [] = λ l. ap (λ (m : List Literal). member m l) c.requires in
    let a = subst (λ (b : Bool). Assumes c.assume.new.marks [] c.args.lits.now b) c.if-not-branch.true (c.in_ok-assume.ensures.assumed [] start) in
    record { cause = new_blocked c.args.known.now c.args.lits.now (judge.split_hints c.args.hints.now) c.assume.new.marks a }

pub returns-in-Conflict : goal.returns-in-Conflict
returns-in-Conflict c =
    let start : Same c.args.marks.now [] = λ l. ap (λ (m : List Literal). member m l) c.requires in
    let a = subst (λ (b : Bool). Assumes c.assume.new.marks [] c.args.lits.now b) c.if-not-branch.false (c.in_ok-assume.ensures.assumed [] start) in
    let first : (judge.split_hints c.args.hints.now).first ≡ map nat_abs c.split_at.result.0.now = c.leading.ensures.first ∙ ap (map nat_abs) (sym c.split_at.ensures.front) in
    let whole = new_open c.args.known.now c.args.lits.now (judge.split_hints c.args.hints.now) c.assume.new.marks (map nat_abs c.split_at.result.0.now) a first in
    let t = subst (λ (x : Taken). Comes c.take_hints.new.marks (judge.take_hints c.args.known.now (map negate c.args.lits.now ++ []) (map nat_abs c.split_at.result.0.now)) x) c.in-Conflict.is (c.in_ok-take_hints.ensures.taken (map negate c.args.lits.now ++ []) a.1) in
    record { cause = sym (whole ∙ ap (judge.judge_first c.args.known.now c.args.lits.now (judge.split_hints c.args.hints.now).groups) t) }

pub returns-in-Stop : goal.returns-in-Stop
returns-in-Stop c =
    let start : Same c.args.marks.now [] = λ l. ap (λ (m : List Literal). member m l) c.requires in
    let a = subst (λ (b : Bool). Assumes c.assume.new.marks [] c.args.lits.now b) c.if-not-branch.false (c.in_ok-assume.ensures.assumed [] start) in
    let first : (judge.split_hints c.args.hints.now).first ≡ map nat_abs c.split_at.result.0.now = c.leading.ensures.first ∙ ap (map nat_abs) (sym c.split_at.ensures.front) in
    let whole = new_open c.args.known.now c.args.lits.now (judge.split_hints c.args.hints.now) c.assume.new.marks (map nat_abs c.split_at.result.0.now) a first in
    let t = subst (λ (x : Taken). Comes c.take_hints.new.marks (judge.take_hints c.args.known.now (map negate c.args.lits.now ++ []) (map nat_abs c.split_at.result.0.now)) x) c.in-Stop.is (c.in_ok-take_hints.ensures.taken (map negate c.args.lits.now ++ []) a.1) in
    record { cause = sym (whole ∙ ap (judge.judge_first c.args.known.now c.args.lits.now (judge.split_hints c.args.hints.now).groups) t) }

pub returns-in-Open : goal.returns-in-Open
returns-in-Open c =
    let start : Same c.args.marks.now [] = λ l. ap (λ (m : List Literal). member m l) c.requires in
    let a = subst (λ (b : Bool). Assumes c.assume.new.marks [] c.args.lits.now b) c.if-not-branch.false (c.in_ok-assume.ensures.assumed [] start) in
    let first : (judge.split_hints c.args.hints.now).first ≡ map nat_abs c.split_at.result.0.now = c.leading.ensures.first ∙ ap (map nat_abs) (sym c.split_at.ensures.front) in
    let whole = new_open c.args.known.now c.args.lits.now (judge.split_hints c.args.hints.now) c.assume.new.marks (map nat_abs c.split_at.result.0.now) a first in
    let t = subst (λ (x : Taken). Comes c.take_hints.new.marks (judge.take_hints c.args.known.now (map negate c.args.lits.now ++ []) (map nat_abs c.split_at.result.0.now)) x) c.in-Open.is (c.in_ok-take_hints.ensures.taken (map negate c.args.lits.now ++ []) a.1) in
    let groups : (judge.split_hints c.split_at.result.1.now).groups ≡ (judge.split_hints c.args.hints.now).groups = ap (λ h. (judge.split_hints h).groups) c.split_at.ensures.back ∙ ap (λ (h : judge.Hints). h.groups) c.leading.ensures.groups in
    record {
      cause = passed_on c.judge_pivot.result c.take_hints.new.marks (option_map cause_shown) (λ b. judge.judge_pivot c.args.known.now b c.args.lits.now (judge.split_hints c.split_at.result.1.now).groups) (judge_new c.args.known.now c.args.lits.now (judge.split_hints c.args.hints.now)) t.0 c.judge_pivot.ensures.cause t.2
          (ap (judge.judge_pivot c.args.known.now t.0 c.args.lits.now) groups ∙ sym (whole ∙ ap (judge.judge_first c.args.known.now c.args.lits.now (judge.split_hints c.args.hints.now).groups) t.1));
    }
