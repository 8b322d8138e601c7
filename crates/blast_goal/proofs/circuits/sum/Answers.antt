use Rattle.gate_shape.proofs.Building.{builds_exit, builds_then, builds_plain, builds_answer, builds_at_lists_and_one, stand_self, stands_false}
use Rattle.blast_arith.specs.Sums.{adder}
use Rattle.blast_goal.specs.Circuit.{sum}
use Rattle.blast_goal.proofs.circuits.sum.Goals as goal

pub returns-in_err-sums : goal.returns-in_err-sums
unfolding sum
returns-in_err-sums g c =
    builds_exit _ c.from_residual.ensures.1 (builds_at_lists_and_one adder (stand_self c.requires.left) (stand_self c.requires.right) (stands_false c.new.ensures) c.in_err-sums.ensures.built)

pub returns : goal.returns
unfolding sum
returns g c =
    let p = builds_at_lists_and_one adder (stand_self c.requires.left) (stand_self c.requires.right) (stands_false c.new.ensures) c.in_ok-sums.ensures.built in
    builds_then _ p (builds_plain (builds_answer p).0)
