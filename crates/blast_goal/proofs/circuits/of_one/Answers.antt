use Rattle.gate_shape.specs.Edge.{Edge, invert}
use Rattle.gate_shape.specs.Row.{plain}
use Rattle.gate_shape.proofs.Building.{stand_self}
use Rattle.blast_goal.specs.Circuit.{unary_row}
use Rattle.blast_goal.proofs.Rows.{builds_single, builds_at_one, stands_first}
use Rattle.blast_goal.proofs.circuits.of_one.Goals as goal

pub returns-in-Not : goal.returns-in-Not
unfolding unary_row
returns-in-Not g c = rw c.in-Not.is c.not.ensures.built

pub returns-in-Neg : goal.returns-in-Neg
unfolding unary_row
returns-in-Neg g c = rw c.in-Neg.is c.neg.ensures.built

pub returns-in-Msb : goal.returns-in-Msb
unfolding unary_row
returns-in-Msb g c = rw c.in-Msb.is (builds_single _ c.msb.ensures.built c.single.ensures)

pub returns-in-TNot : goal.returns-in-TNot
unfolding unary_row
returns-in-TNot g c = rw c.in-TNot.is (builds_single _ (builds_at_one (λ (e : Edge). plain (invert e)) (stands_first (stand_self c.requires.known) c.requires.positive c.index-x-0.is) c.truth_not.ensures.built) c.single-in-TNot.ensures)

pub returns-in-ShlBy : goal.returns-in-ShlBy
unfolding unary_row
returns-in-ShlBy g c = rw c.in-ShlBy.is c.shl_by.ensures.built

pub returns-in-LshrBy : goal.returns-in-LshrBy
unfolding unary_row
returns-in-LshrBy g c = rw c.in-LshrBy.is c.lshr_by.ensures.built

pub returns-in-AshrBy : goal.returns-in-AshrBy
unfolding unary_row
returns-in-AshrBy g c = rw c.in-AshrBy.is c.ashr_by.ensures.built

pub returns-in-RotL : goal.returns-in-RotL
unfolding unary_row
returns-in-RotL g c = rw c.in-RotL.is c.rotl.ensures.built

pub returns-in-RotR : goal.returns-in-RotR
unfolding unary_row
returns-in-RotR g c = rw c.in-RotR.is c.rotr.ensures.built

pub returns-in-Bit : goal.returns-in-Bit
unfolding unary_row
returns-in-Bit g c = rw c.in-Bit.is (builds_single _ c.bit.ensures.built c.single-in-Bit.ensures)

pub returns-in-Extract : goal.returns-in-Extract
unfolding unary_row
returns-in-Extract g c = rw c.in-Extract.is c.extract.ensures.built

pub returns-in-SetWidth : goal.returns-in-SetWidth
unfolding unary_row
returns-in-SetWidth g c = rw c.in-SetWidth.is c.set_width.ensures.built

pub returns-in-SignExtend : goal.returns-in-SignExtend
unfolding unary_row
returns-in-SignExtend g c = rw c.in-SignExtend.is c.sign_extend.ensures.built
