use Rattle.gate_shape.specs.Row.{both, either, differ}
use Rattle.gate_shape.proofs.Building.{stand_self, builds_at_two}
use Rattle.blast_logic.specs.Truths.{implication, equivalence}
use Rattle.blast_goal.specs.Circuit.{binary_row}
use Rattle.blast_goal.proofs.Rows.{builds_single, stands_first}
use Rattle.blast_goal.proofs.circuits.of_two.Goals as goal

pub returns-in-And : goal.returns-in-And
unfolding binary_row
returns-in-And g c = rw c.in-And.is c.and.ensures.built

pub returns-in-Or : goal.returns-in-Or
unfolding binary_row
returns-in-Or g c = rw c.in-Or.is c.or.ensures.built

pub returns-in-Xor : goal.returns-in-Xor
unfolding binary_row
returns-in-Xor g c = rw c.in-Xor.is c.xor.ensures.built

pub returns-in-Add : goal.returns-in-Add
unfolding binary_row
returns-in-Add g c = rw c.in-Add.is c.sum.ensures

pub returns-in-Sub : goal.returns-in-Sub
unfolding binary_row
returns-in-Sub g c = rw c.in-Sub.is c.sub.ensures.built

pub returns-in-Mul : goal.returns-in-Mul
unfolding binary_row
returns-in-Mul g c = rw c.in-Mul.is c.mul.ensures.built

pub returns-in-Udiv : goal.returns-in-Udiv
unfolding binary_row
returns-in-Udiv g c = rw c.in-Udiv.is c.udiv.ensures.built

pub returns-in-Umod : goal.returns-in-Umod
unfolding binary_row
returns-in-Umod g c = rw c.in-Umod.is c.umod.ensures.built

pub returns-in-Sdiv : goal.returns-in-Sdiv
unfolding binary_row
returns-in-Sdiv g c = rw c.in-Sdiv.is c.sdiv.ensures.built

pub returns-in-Srem : goal.returns-in-Srem
unfolding binary_row
returns-in-Srem g c = rw c.in-Srem.is c.srem.ensures.built

pub returns-in-Smod : goal.returns-in-Smod
unfolding binary_row
returns-in-Smod g c = rw c.in-Smod.is c.smod.ensures.built

pub returns-in-Append : goal.returns-in-Append
unfolding binary_row
returns-in-Append g c = rw c.in-Append.is c.append.ensures.built

pub returns-in-Shl : goal.returns-in-Shl
unfolding binary_row
returns-in-Shl g c = rw c.in-Shl.is c.shl.ensures.built

pub returns-in-Lshr : goal.returns-in-Lshr
unfolding binary_row
returns-in-Lshr g c = rw c.in-Lshr.is c.lshr.ensures.built

pub returns-in-Ashr : goal.returns-in-Ashr
unfolding binary_row
returns-in-Ashr g c = rw c.in-Ashr.is c.ashr.ensures.built

pub returns-in-Eq : goal.returns-in-Eq
unfolding binary_row
returns-in-Eq g c = rw c.in-Eq.is (builds_single _ c.eq.ensures.built c.single.ensures)

pub returns-in-Ult : goal.returns-in-Ult
unfolding binary_row
returns-in-Ult g c = rw c.in-Ult.is (builds_single _ c.ult.ensures.built c.single-in-Ult.ensures)

pub returns-in-Ule : goal.returns-in-Ule
unfolding binary_row
returns-in-Ule g c = rw c.in-Ule.is (builds_single _ c.ule.ensures.built c.single-in-Ule.ensures)

pub returns-in-Slt : goal.returns-in-Slt
unfolding binary_row
returns-in-Slt g c = rw c.in-Slt.is (builds_single _ c.slt.ensures.built c.single-in-Slt.ensures)

pub returns-in-Sle : goal.returns-in-Sle
unfolding binary_row
returns-in-Sle g c = rw c.in-Sle.is (builds_single _ c.sle.ensures.built c.single-in-Sle.ensures)

pub returns-in-TAnd : goal.returns-in-TAnd
unfolding binary_row
returns-in-TAnd g c =
    let p = stands_first (stand_self c.requires.left) c.requires.left_positive c.index-x-0.is in
    let q = stands_first (stand_self c.requires.right) c.requires.right_positive c.index-y-0.is in
    rw c.in-TAnd.is (builds_single _ (builds_at_two both p q c.truth_and.ensures.built) c.single-in-TAnd.ensures)

pub returns-in-TOr : goal.returns-in-TOr
unfolding binary_row
returns-in-TOr g c =
    let p = stands_first (stand_self c.requires.left) c.requires.left_positive c.index-x-0.is in
    let q = stands_first (stand_self c.requires.right) c.requires.right_positive c.index-y-0.is in
    rw c.in-TOr.is (builds_single _ (builds_at_two either p q c.truth_or.ensures.built) c.single-in-TOr.ensures)

pub returns-in-TXor : goal.returns-in-TXor
unfolding binary_row
returns-in-TXor g c =
    let p = stands_first (stand_self c.requires.left) c.requires.left_positive c.index-x-0.is in
    let q = stands_first (stand_self c.requires.right) c.requires.right_positive c.index-y-0.is in
    rw c.in-TXor.is (builds_single _ (builds_at_two differ p q c.truth_xor.ensures.built) c.single-in-TXor.ensures)

pub returns-in-Implies : goal.returns-in-Implies
unfolding binary_row
returns-in-Implies g c =
    let p = stands_first (stand_self c.requires.left) c.requires.left_positive c.index-x-0.is in
    let q = stands_first (stand_self c.requires.right) c.requires.right_positive c.index-y-0.is in
    rw c.in-Implies.is (builds_single _ (builds_at_two implication p q c.implies.ensures.built) c.single-in-Implies.ensures)

pub returns-in-TEq : goal.returns-in-TEq
unfolding binary_row
returns-in-TEq g c =
    let p = stands_first (stand_self c.requires.left) c.requires.left_positive c.index-x-0.is in
    let q = stands_first (stand_self c.requires.right) c.requires.right_positive c.index-y-0.is in
    rw c.in-TEq.is (builds_single _ (builds_at_two equivalence p q c.truth_eq.ensures.built) c.single-in-TEq.ensures)
