use Rattle.std.proofs.Common.{length, arith, sym, ◌∙◌}
use Rattle.bv_lex.specs.Runs.{belongs}
use Rattle.bv_lex.proofs.Running.{each_read, run_longest}
use Rattle.bv_lex.proofs.runs.run_end.Goals as goal

pub returns-then-not-has-clause-each : goal.returns-then-not-has-clause-each
returns-then-not-has-clause-each c = each_read (belongs c.args.run) c.args.text.now c.args.from c.loop-at.at (omega arith) c.loop-at.invariant

pub returns-then-not-has-clause-longest : goal.returns-then-not-has-clause-longest
returns-then-not-has-clause-longest c m le r =
    run_longest (belongs c.args.run) c.args.text.now c.args.from c.loop-at.at m (omega arith) (λ h. sym c.has.ensures ∙ c.if-not-has.true) r

pub returns-clause-each : goal.returns-clause-each
returns-clause-each c = each_read (belongs c.args.run) c.args.text.now c.args.from (length c.args.text.now) (omega arith) (λ k low high. c.loop-at.invariant k low (omega arith))

pub returns-clause-longest : goal.returns-clause-longest
returns-clause-longest c m le r = run_longest (belongs c.args.run) c.args.text.now c.args.from (length c.args.text.now) m (omega arith) (λ h. absurd (omega arith)) r
