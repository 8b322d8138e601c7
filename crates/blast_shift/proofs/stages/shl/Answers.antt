use Rattle.gate_shape.specs.Builds.{edges}
use Rattle.blast_logic.specs.Words.{written_number}
use Rattle.bv_value.specs.Operations as is
use Rattle.blast_logic.specs.Words.{word}
use Rattle.blast_logic.proofs.Wiring.{written}
use Rattle.blast_shift.proofs.Moves.{is_move_up}
use Rattle.blast_shift.proofs.Shifting.{variable_shift-word}
use Rattle.blast_shift.proofs.stages.shl.Goals as goal

pub returns-clause-value : goal.returns-clause-value
returns-clause-value g c =
    let xs = edges (g.B.Builder.meaning c.args.b.now) c.args.x.now in
    let ys = edges (g.B.Builder.meaning c.args.b.now) c.args.y.now in
    written _ (λ bits. is.shl_by (word bits xs) (written_number bits ys)) c.variable_shift.ensures (λ bits. variable_shift-word is_move_up bits xs ys tt)
