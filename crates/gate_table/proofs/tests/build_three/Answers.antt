use Rattle.gate_shape.proofs.Building.{known_kept, known_answer}
use Rattle.gate_table.specs.Seats.{known_by}
use Rattle.gate_table.proofs.tests.build_three.Goals as goal

pub invariant_of-result : goal.invariant_of-result
invariant_of-result c =
    let b2 = c.in_ok-second.ensures.built in let b3 = c.in_ok-third.ensures.built in
    let k1 = known_answer c.in_ok-first.ensures.built in
    record {
      known = (
        known_kept (known_by c.and-2.new.seat) (known_by c.and-3.new.seat) c.in_ok-first.first b3.keeps (known_kept (known_by c.and.new.seat) (known_by c.and-2.new.seat) c.in_ok-first.first b2.keeps k1),
        known_kept (known_by c.and-2.new.seat) (known_by c.and-3.new.seat) c.in_ok-second.second b3.keeps (known_answer b2),
        known_answer b3,
      );
    }
