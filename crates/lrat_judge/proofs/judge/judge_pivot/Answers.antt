use Rattle.std.proofs.Common.{◌≡◌, List, ap}
use Rattle.std.specs.Option.{option_map}
use Rattle.std.specs.declared.option.Option.{Option}
use Rattle.sat_form.specs.Literals.{Literal}
use Rattle.lrat_lines.specs.Judge as judge
use Rattle.lrat_judge.specs.declared.cause.Cause.{Cause}
use Rattle.lrat_judge.specs.Judged.{cause_shown}
use Rattle.lrat_judge.specs.Marked.{Same}
use Rattle.lrat_judge.proofs.Judging.{pivot_left, ok_weaker}
use Rattle.lrat_judge.proofs.judge.judge_pivot.Goals as goal

pub returns : goal.returns
returns c =
    let db = c.args.known.now in
    let lits = c.args.lits.now in
    let pivot = c.in-Some.pivot.now in
    let groups = (judge.split_hints c.args.groups.now).groups in
    record {
      cause = ok_weaker c.missing.result (λ (x : Option Cause). option_map cause_shown x ≡ judge.judge_missing db c.judge_groups.new.marks pivot groups)
          (λ (x : Option Cause). (a : List Literal) → Same c.args.marks.now a → option_map cause_shown x ≡ judge.judge_pivot db a lits groups)
          (λ x missing a same. pivot_left db lits pivot groups c.args.marks.now c.judge_groups.new.marks a (option_map cause_shown c.in_ok-cause.field-0) (option_map cause_shown x)
          c.in-Some.ensures.value (c.in_ok-cause.ensures.cause a same) (ap (option_map cause_shown) c.in_default-2.is) c.judge_groups.ensures.marks missing same)
          c.missing.ensures;
    }
