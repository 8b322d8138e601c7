use Rattle.std.proofs.Common.{ℕ, ◌+◌, refl, subst}
use Rattle.lrat_replay.specs.Taken.{TookAtMost}
use Rattle.lrat_replay.proofs.Taking.{took_none}
use Rattle.lrat_lines.specs.Judge.{given}
use Rattle.lrat_replay.proofs.Concluding.{exactly, never_short, of_some, refutes}
use Rattle.lrat_replay.proofs.Stopping.{took_behind}
use Rattle.lrat_replay.proofs.checker.replay.Goals as goal

pub returns-clause-exact : goal.returns-clause-exact
returns-clause-exact g c =
    let new = c.in_ok-progress.ensures in
    exactly c.args.cnf.now.clauses c.args.most c.in_ok-progress.progress new.judge new.begun new.judged new.left c.run.result (g.R.Source.left c.args.source.now) c.run.ensures.answers

pub returns-clause-told_or_not : goal.returns-clause-told_or_not
returns-clause-told_or_not g c =
    let new = c.in_ok-progress.ensures in
    of_some c.args.cnf.now.clauses c.args.most c.in_ok-progress.progress new.judge new.begun new.judged new.left c.run.result (g.R.Source.left c.args.source.now) c.run.ensures.answers

pub returns-clause-refuted : goal.returns-clause-refuted
returns-clause-refuted g c =
    let new = c.in_ok-progress.ensures in
    refutes c.args.cnf.now.clauses c.args.most c.in_ok-progress.progress new.judge new.begun new.judged new.left (c.checked_lines_refute.ensures c.args.cnf.now.clauses) (c.checked_lines_are_accepted.ensures.only (given c.args.cnf.now.clauses) 1) c.run.result (g.R.Source.left c.args.source.now) c.run.ensures.answers

pub returns-clause-short : goal.returns-clause-short
returns-clause-short g c =
    never_short c.run.result c.args.most c.in_ok-progress.progress (g.R.Source.room c.args.source.now) c.in_ok-progress.ensures.left c.run.ensures.too_long

pub returns-in_err-progress-clause-taken : goal.returns-in_err-progress-clause-taken
returns-in_err-progress-clause-taken g c = took_none (g.R.Source.left c.args.source.now) (g.R.Source.left c.args.source.now) (c.args.most + 1) refl

pub returns-clause-taken : goal.returns-clause-taken
returns-clause-taken g c =
    subst (λ (n : ℕ). TookAtMost (g.R.Source.left c.args.source.now) (g.R.Source.left c.run.new.source) (n + 1)) c.in_ok-progress.ensures.left c.run.ensures.taken

pub returns-clause-behind : goal.returns-clause-behind
returns-clause-behind g c text told ok =
    let new = c.in_ok-progress.ensures in
    took_behind c.args.cnf.now.clauses c.in_ok-progress.progress new.judge new.begun new.judged 65535 text (g.R.Source.left c.args.source.now) (g.R.Source.left c.run.new.source) (c.run.ensures.stopped ok) told
