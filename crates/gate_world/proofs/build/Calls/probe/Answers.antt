use Rattle.std.proofs.Common.{◌+◌, sym, ap, ◌∙◌}
use Rattle.gate_world.proofs.Begun.{level_sum, probe_deep, probe_shows}
use Rattle.gate_world.proofs.build.Calls.probe.Goals as goal

pub returns-then-level-eq262144 : goal.returns-then-level-eq262144
returns-then-level-eq262144 c = λ p words seen done g gs h r a b.
    sym (probe_deep c.args.size seen g gs (1 + c.max-level.result) (ap (λ n. 1 + n) c.max-level.ensures ∙ level_sum g c.args.left c.args.right a b) c.if-level-eq262144.true)

pub returns : goal.returns
returns c = λ p words seen done g gs h r a b.
    probe_shows p words seen done g gs c.args.self c.args.size (1 + c.max-level.result) c.fanins-first.result.0 c.fanins-first.result.1 c.start-prober.result h r
    (c.fanins-first.ensures.left p words done g gs h) (c.fanins-first.ensures.right p words done g gs h) (ap (λ n. 1 + n) c.max-level.ensures ∙ level_sum g c.args.left c.args.right a b) c.if-level-eq262144.false c.start-prober.ensures.search
