use Rattle.std.proofs.Common.{◌≡◌, ◌∙◌, sym, ap, length, arith}
use Rattle.std.proofs.lemmas.List.{length-map}
use Rattle.gate_shape.specs.Builds.{edge, edges}
use Rattle.gate_shape.proofs.Building.{stand_self, stand_after, stands_false, stand_lengths, builds_then, builds_exit, builds_plain, builds_answer, builds_at_lists_and_one}
use Rattle.blast_arith.specs.Sums.{adder}
use Rattle.blast_mul.specs.Product.{add_partial}
use Rattle.blast_mul.proofs.Multiplying.{add_partial-length, partial_product-length}
use Rattle.blast_mul.proofs.add_partial.Goals as goal

pub add-requires-clause-lengths : goal.add-requires-clause-lengths
add-requires-clause-lengths g c =
    let m = g.B.Builder.meaning c.args.b.now in
    let n : length c.args.x.now ≡ length (edges m c.args.x.now) = simp length-map in
    let row = partial_product-length (edges m c.args.x.now) c.args.place (edge m c.args.bit) (omega arith) in
    let same = ap length c.deref.ensures.value ∙ stand_lengths (builds_answer c.in_ok-row.ensures) in
    c.requires.lengths ∙ (n ∙ sym (same ∙ row))

pub returns-in_err-row-clause-built : goal.returns-in_err-row-clause-built
unfolding add_partial
returns-in_err-row-clause-built g c = builds_exit _ c.from_residual.ensures.1 c.in_err-row.ensures

pub returns-in_err-sums-clause-built : goal.returns-in_err-sums-clause-built
unfolding add_partial
returns-in_err-sums-clause-built g c =
    let p = c.in_ok-row.ensures in
    let row = rw (sym c.deref.ensures.value) at (builds_answer p) in
    builds_then _ p (builds_exit _ c.from_residual-in_err-sums.ensures.1 (builds_at_lists_and_one adder (stand_after p (stand_self c.requires.sum)) row (stands_false c.new.ensures) c.in_err-sums.ensures.built))

pub returns-clause-built : goal.returns-clause-built
unfolding add_partial
returns-clause-built g c =
    let p = c.in_ok-row.ensures in
    let row = rw (sym c.deref.ensures.value) at (builds_answer p) in
    let q = builds_at_lists_and_one adder (stand_after p (stand_self c.requires.sum)) row (stands_false c.new.ensures) c.in_ok-sums.ensures.built in
    builds_then _ p (builds_then _ q (builds_plain (builds_answer q).0))

pub returns-clause-lengths : goal.returns-clause-lengths
returns-clause-lengths g c =
    let m = g.B.Builder.meaning c.args.b.now in
    let n : length c.args.x.now ≡ length (edges m c.args.x.now) = simp length-map in
    let k : length (edges m c.args.sum.now) ≡ length (edges m c.args.x.now) = simp length-map c.requires.lengths in
    stand_lengths (builds_answer (returns-clause-built g c)) ∙ (add_partial-length (edges m c.args.x.now) (edges m c.args.sum.now) c.args.place (edge m c.args.bit) k (omega arith) ∙ sym n)
