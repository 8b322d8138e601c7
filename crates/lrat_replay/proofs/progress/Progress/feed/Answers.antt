use Rattle.std.proofs.Common.{ℕ, ◌≡◌, ◌+◌, ◌++◌, List, [], length, refl, arith, rules, length-append}
use Rattle.std.specs.Prelude.{Ok, Err}
use Rattle.std.proofs.lemmas.Grind.{common_steps}
use Rattle.std.proofs.lemmas.Result.{err_from_is_err_and}
use Rattle.lrat_lines.specs.Replay.{ComesTo, lines_within}
use Rattle.lrat_lines.specs.Replay.Verdict.{Accepted}
use Rattle.lrat_replay.specs.Standing.{WillComeTo}
use Rattle.lrat_replay.proofs.Stepping.{accepted, error_back, line_leads, onward}
use Rattle.lrat_replay.proofs.progress.Progress.feed.Goals as goal

pub returns-in_err-end_line-clause-leads : goal.returns-in_err-end_line-clause-leads
returns-in_err-end_line-clause-leads c most rest =
    let p = err_from_is_err_and c.from_residual.result c.from_residual.ensures.1 in
    let stop = c.in_err-end_line.field-0.0 in
    let empty : List ℕ = [] in
    let line = line_leads (Err stop) c.lines.self.judge c.end_line.new.self.judge (c.lines.self.judged + 1) (c.end_line.new.self.judged + 1) most c.lines.self.begun.items empty c.in-Some.line.now c.lines.rest.now c.in-Some.behind.now rest c.lines.self.one_line c.in-Some.ensures.line c.in-Some.ensures.some refl c.in_err-end_line.ensures.leads in
    rw (p.1, p.2) (error_back stop
    (WillComeTo c.args.self.now (length c.args.piece.now + most) (c.args.piece.now ++ rest))
    (WillComeTo c.lines.self (length c.lines.rest.now + most) (c.lines.rest.now ++ rest))
    (ComesTo c.end_line.new.self.judge (c.end_line.new.self.judged + 1) (lines_within (length empty + (length c.in-Some.behind.now + most)) (empty ++ (c.in-Some.behind.now ++ rest))))
    (WillComeTo c.end_line.new.self most rest) (c.lines.invariant.leads most rest) line)

pub returns-then-branch-clause-leads : goal.returns-then-branch-clause-leads
returns-then-branch-clause-leads c most rest =
    let line = line_leads (Ok c.in_ok-end_line.field-0) c.lines.self.judge c.end_line.new.self.judge (c.lines.self.judged + 1) (c.end_line.new.self.judged + 1) most c.lines.self.begun.items c.end_line.new.self.begun.items c.in-Some.line.now c.lines.rest.now c.in-Some.behind.now rest c.lines.self.one_line c.in-Some.ensures.line c.in-Some.ensures.some c.in_ok-end_line.ensures.begun c.in_ok-end_line.ensures.leads in
    c.lines.invariant.leads most rest Accepted (accepted c.in_ok-end_line.field-0
    (WillComeTo c.lines.self (length c.lines.rest.now + most) (c.lines.rest.now ++ rest))
    (WillComeTo c.end_line.new.self (length c.in-Some.behind.now + most) (c.in-Some.behind.now ++ rest)) c.if-branch.true line)

pub lines-preserved : goal.lines-preserved
lines-preserved c =
    let long : length c.lines.rest.now ≡ length c.in-Some.line.now + (length c.in-Some.behind.now + 1) = rw c.in-Some.ensures.some (simp length-append (omega arith)) in
    let none : length c.end_line.new.self.begun.items ≡ 0 = rw c.in_ok-end_line.ensures.begun refl in
    record {
      leads = λ most rest v h.
          let line = line_leads (Ok c.in_ok-end_line.field-0) c.lines.self.judge c.end_line.new.self.judge (c.lines.self.judged + 1) (c.end_line.new.self.judged + 1) most c.lines.self.begun.items c.end_line.new.self.begun.items c.in-Some.line.now c.lines.rest.now c.in-Some.behind.now rest c.lines.self.one_line c.in-Some.ensures.line c.in-Some.ensures.some c.in_ok-end_line.ensures.begun c.in_ok-end_line.ensures.leads in
          c.lines.invariant.leads most rest v (onward c.in_ok-end_line.field-0
          (WillComeTo c.lines.self (length c.lines.rest.now + most) (c.lines.rest.now ++ rest))
          (WillComeTo c.end_line.new.self (length c.in-Some.behind.now + most) (c.in-Some.behind.now ++ rest)) c.if-branch.false line v h);
      judged = grind (arith, common_steps);
      left = search rules;
    }
