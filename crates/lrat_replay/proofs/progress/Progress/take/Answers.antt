use Rattle.std.proofs.Common.{◌≡◌, ◌+◌, ◌-◌, ◌≤◌, ◌++◌, [], length, take, drop, sym, arith, rules, length-drop}
use Rattle.std.proofs.lemmas.Grind.{common_steps}
use Rattle.std.proofs.lemmas.List.{take-append-drop, length-take-le, take_all}
use Rattle.std.proofs.lemmas.Result.{err_from_is_err_and}
use Rattle.lrat_replay.specs.Standing.{WillComeTo}
use Rattle.lrat_replay.proofs.Answering.{fed_accepted, fed_accepts, fed_goes, fed_onward, fed_refused, fed_too_long}
use Rattle.lrat_replay.proofs.Stepping.{line_not_long, line_not_read}
use Rattle.lrat_replay.proofs.progress.Progress.take.Goals as goal

pub returns-in_err-feed-clause-answers : goal.returns-in_err-feed-clause-answers
returns-in_err-feed-clause-answers c rest =
    let p = err_from_is_err_and c.from_residual.result c.from_residual.ensures.1 in
    let n = c.min-taken.result in
    let within : n ≤ length c.args.bytes.now = search rules in
    let fits : n ≤ c.args.self.now.left = search rules in
    let fed = take n c.args.bytes.now in
    let long : length fed ≡ n = length-take-le n c.args.bytes.now within in
    rw (p.1, p.2) (fed_refused c.args.self.now c.feed.new.self c.args.bytes.now fed (drop n c.args.bytes.now) c.in_err-feed.field-0.0 rest (sym (take-append-drop n c.args.bytes.now)) (omega arith) c.in_err-feed.ensures.leads)

pub returns-in_err-feed-clause-too_long : goal.returns-in_err-feed-clause-too_long
returns-in_err-feed-clause-too_long c =
    let p = err_from_is_err_and c.from_residual.result c.from_residual.ensures.1 in
    rw (p.1, p.2) (λ e. absurd (line_not_long c.in_err-feed.field-0.0 (WillComeTo c.args.self.now (length (take c.min-taken.result c.args.bytes.now) + 0) (take c.min-taken.result c.args.bytes.now ++ [])) (WillComeTo c.feed.new.self 0 []) (c.in_err-feed.ensures.leads 0 []) e))

pub returns-in_err-feed-clause-inside : goal.returns-in_err-feed-clause-inside
returns-in_err-feed-clause-inside c =
    let p = err_from_is_err_and c.from_residual.result c.from_residual.ensures.1 in
    rw (p.1, p.2) (line_not_read c.in_err-feed.field-0.0 (WillComeTo c.args.self.now (length (take c.min-taken.result c.args.bytes.now) + 0) (take c.min-taken.result c.args.bytes.now ++ [])) (WillComeTo c.feed.new.self 0 []) (c.in_err-feed.ensures.leads 0 []))

pub returns-then-branch-clause-answers : goal.returns-then-branch-clause-answers
returns-then-branch-clause-answers c rest =
    let n = c.min-taken.result in
    let within : n ≤ length c.args.bytes.now = search rules in
    let fits : n ≤ c.args.self.now.left = search rules in
    let long : length (take n c.args.bytes.now) ≡ n = length-take-le n c.args.bytes.now within in
    fed_accepted c.args.self.now c.feed.new.self c.args.bytes.now (take n c.args.bytes.now) (drop n c.args.bytes.now) c.in_ok-feed.field-0 rest (sym (take-append-drop n c.args.bytes.now)) (omega arith) c.if-branch.true c.in_ok-feed.ensures.leads

pub returns-then-taken-bytes-clause-answers : goal.returns-then-taken-bytes-clause-answers
returns-then-taken-bytes-clause-answers c rest _ =
    let n = c.min-taken.result in
    let within : n ≤ length c.args.bytes.now = search rules in
    let full : n ≡ c.args.self.now.left = grind (arith, common_steps) in
    let long : length (take n c.args.bytes.now) ≡ n = length-take-le n c.args.bytes.now within in
    let behind : length (drop n c.args.bytes.now) ≡ length c.args.bytes.now - n = length-drop n c.args.bytes.now in
    fed_too_long c.args.self.now c.feed.new.self c.args.bytes.now (take n c.args.bytes.now) (drop n c.args.bytes.now) c.in_ok-feed.field-0 rest (sym (take-append-drop n c.args.bytes.now)) (omega arith) (omega arith) c.if-branch.false c.in_ok-feed.ensures.leads

pub returns-clause-answers : goal.returns-clause-answers
returns-clause-answers c rest r answer =
    let n = c.min-taken.result in
    let all : length c.args.bytes.now ≤ n = c.if-taken-bytes.false in
    let fits : n ≤ c.args.self.now.left = search rules in
    let within : n ≤ length c.args.bytes.now = search rules in
    let kept : c.feed.new.self.left ≡ c.args.self.now.left = search rules in
    fed_onward c.args.self.now c.feed.new.self c.args.bytes.now (take n c.args.bytes.now) c.in_ok-feed.field-0 rest (c.feed.new.self.left - n) r (sym (take_all n c.args.bytes.now all)) (omega arith) c.if-branch.false c.in_ok-feed.ensures.leads answer

pub returns-then-branch-clause-accepts : goal.returns-then-branch-clause-accepts
returns-then-branch-clause-accepts c _ =
    let n = c.min-taken.result in
    fed_accepts c.args.self.now c.feed.new.self c.args.bytes.now (take n c.args.bytes.now) (drop n c.args.bytes.now) c.in_ok-feed.field-0 (sym (take-append-drop n c.args.bytes.now)) c.if-branch.true c.in_ok-feed.ensures.leads

pub returns-clause-goes_on : goal.returns-clause-goes_on
returns-clause-goes_on c _ =
    let n = c.min-taken.result in
    let all : length c.args.bytes.now ≤ n = c.if-taken-bytes.false in
    fed_goes c.args.self.now c.feed.new.self c.args.bytes.now (take n c.args.bytes.now) c.in_ok-feed.field-0 (sym (take_all n c.args.bytes.now all)) c.if-branch.false c.in_ok-feed.ensures.leads
