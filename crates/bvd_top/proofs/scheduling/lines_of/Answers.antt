use Rattle.std.proofs.Common.{◌≡◌, ◌∙◌, ◌+◌, ◌≤◌, ◌++◌, ◌∷◌, [], List, take, drop, arith, ap, sym, length, string_bytes}
use Rattle.std.specs.Option.{option_to_list}
use Rattle.std.proofs.lemmas.List.{map-append, length-take-le, drop-drop}
use Rattle.std.specs.Vec.Iter.{into_iter_items}
use Rattle.bv_expr.specs.Statement.{statement_of}
use Rattle.bvd_report.specs.Report.{Line}
use Rattle.bvd_report.specs.Shown.{outcome_shown, line_shown, lines_shown}
use Rattle.bvd_top.specs.Listed.{lines_by}
use Rattle.bvd_top.proofs.FilesRead.{next_taken}
use Rattle.bvd_top.proofs.Together.{line_more}
use Rattle.bvd_top.proofs.scheduling.lines_of.Goals as goal

pub goals-preserved : goal.goals-preserved
goals-preserved c =
    let item = c.goal-item.result in
    let outcome = c.in-Some.outcome in
    let number = c.goals.number in
    let first = c.args.first in
    let outcomes = into_iter_items c.args.outcomes.now in
    let here = take c.goals.goal-index c.args.goals.now in
    let within : c.goals.goal-index ≤ length c.args.goals.now = omega arith in
    let count : length here ≡ c.goals.goal-index = length-take-le c.goals.goal-index c.args.goals.now within in
    let taken = next_taken c.args.goals.now c.goals.goal-index item c.goals-test.true c.goal-item.is in
    let behind = into_iter_items c.next.new.self in
    let split : drop c.goals.goal-index outcomes ≡ outcome ∷ behind = sym c.goals.invariant.rest ∙ c.next.ensures.items ∙ ap (λ o. option_to_list o ++ behind) c.in-Some.is in
    let there : drop (length here) outcomes ≡ outcome ∷ behind = ap (λ n. drop n outcomes) count ∙ split in
    let at : number ≡ first + length here = omega (arith, c.goals.invariant.number, count) in
    let enough : length here ≤ length outcomes = omega (arith, count, within, c.requires.enough) in
    let line : List _ → Line = λ name. record { goal = statement_of item; certificate = name; told = outcome_shown outcome } in
    record {
      lines = ap lines_shown c.in_ok-keep.ensures ∙ map-append line_shown c.goals.lines.items (_ ∷ []) ∙ ap (λ l. l ++ line (string_bytes c.in_ok-certificate.certificate) ∷ []) c.goals.invariant.lines
          ∙ ap (λ name. lines_by first here outcomes ++ line name ∷ []) c.in_ok-certificate.ensures
          ∙ sym (ap (λ l. lines_by first l outcomes) taken ∙ line_more first number here item outcomes behind outcome at enough there);
      rest = ap (drop 1) (sym split) ∙ drop-drop 1 c.goals.goal-index outcomes;
      number = omega (arith, c.goals.invariant.number);
    }
