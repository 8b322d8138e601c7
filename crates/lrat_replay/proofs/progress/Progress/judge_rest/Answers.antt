use Rattle.std.proofs.Common.{ℕ, ◌≡◌, ◌+◌, ◌<◌, List, [], length, rules, subst, sym}
use Rattle.lrat_lines.specs.Replay.{ComesTo}
use Rattle.lrat_lines.specs.Replay.Verdict.{Undecided}
use Rattle.lrat_replay.specs.Leads.{Leads}
use Rattle.lrat_replay.proofs.Splitting.{lines_within-rest}
use Rattle.lrat_replay.proofs.progress.Progress.judge_rest.Goals as goal

pub returns : goal.returns
returns c most =
    let some : 0 < length c.args.self.now.begun.items = search rules in
    subst (λ (lines : List (List ℕ)). Leads c.end_line.result (ComesTo c.args.self.now.judge (c.args.self.now.judged + 1) lines) (λ v. v ≡ Undecided))
    (sym (lines_within-rest most c.args.self.now.begun.items c.args.self.now.one_line some)) (c.end_line.ensures.leads [])
