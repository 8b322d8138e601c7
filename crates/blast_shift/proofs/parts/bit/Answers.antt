use Rattle.gate_shape.specs.Builds.{edges}
use Rattle.gate_shape.proofs.Building.{builds_plain}
use Rattle.bv_value.specs.Operations as is
use Rattle.blast_logic.proofs.Meanings.{meant}
use Rattle.blast_logic.specs.Words.{word}
use Rattle.blast_shift.proofs.Standing.{stands_item, stands_behind}
use Rattle.blast_shift.proofs.Values.{bit-value}
use Rattle.blast_shift.proofs.parts.bit.Goals as goal

pub returns-then-n-x-clause-built : goal.returns-then-n-x-clause-built
returns-then-n-x-clause-built g c = builds_plain (stands_item c.args.x.now c.requires c.if-n-x.true c.index-x-n.is)

pub returns-then-n-x-clause-value : goal.returns-then-n-x-clause-value
returns-then-n-x-clause-value g c =
    let xs = edges (g.B.Builder.meaning c.args.b.now) c.args.x.now in
    meant (λ bits. is.bit (word bits xs) c.args.n) (returns-then-n-x-clause-built g c) (λ bits. bit-value bits c.args.n xs)

pub returns-else-n-x-clause-built : goal.returns-else-n-x-clause-built
returns-else-n-x-clause-built g c = builds_plain (stands_behind c.args.x.now c.requires c.if-n-x.false c.new.ensures)

pub returns-else-n-x-clause-value : goal.returns-else-n-x-clause-value
returns-else-n-x-clause-value g c =
    let xs = edges (g.B.Builder.meaning c.args.b.now) c.args.x.now in
    meant (λ bits. is.bit (word bits xs) c.args.n) (returns-else-n-x-clause-built g c) (λ bits. bit-value bits c.args.n xs)
