use Rattle.gate_shape.specs.Builds.{edges}
use Rattle.bv_value.specs.Operations as is
use Rattle.blast_logic.specs.Words.{word}
use Rattle.blast_logic.proofs.Wiring.{wired, written}
use Rattle.blast_shift.proofs.Standing.{stand_shifted_left}
use Rattle.blast_shift.proofs.Values.{shifted_left-value}
use Rattle.blast_shift.proofs.shifts.shl_by.Goals as goal

pub returns-clause-built : goal.returns-clause-built
returns-clause-built g c = wired _ (stand_shifted_left c.args.x.now c.requires c.args.n c.capped-places.ensures c.new.ensures) c.behind_copies.ensures

pub returns-clause-value : goal.returns-clause-value
returns-clause-value g c =
    let xs = edges (g.B.Builder.meaning c.args.b.now) c.args.x.now in
    written _ (λ bits. is.shl_by (word bits xs) c.args.n) (returns-clause-built g c) (λ bits. shifted_left-value bits c.args.n xs)
