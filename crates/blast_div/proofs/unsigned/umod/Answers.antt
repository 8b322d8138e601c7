use Rattle.std.proofs.Common.{◌≡◌, ◌∙◌, sym, ap, length}
use Rattle.std.proofs.lemmas.List.{length-map}
use Rattle.gate_shape.specs.Builds.{edge, edges}
use Rattle.gate_shape.proofs.Building.{stand_self, stand_after, stand_lengths, builds_then, builds_exit, builds_answer, builds_at_one_and_lists, answers_with}
use Rattle.blast_logic.specs.Chosen.{chosen}
use Rattle.blast_div.specs.Division.{remainder}
use Rattle.blast_div.proofs.Zeros.{division-length, remainder-word}
use Rattle.blast_div.proofs.unsigned.umod.Goals as goal

pub is_zero-requires : goal.is_zero-requires
is_zero-requires g c = (stand_after c.in_ok-_quotient.ensures.built (stand_self c.requires.right)).known

pub returns-clause-built : goal.returns-clause-built
unfolding remainder
returns-clause-built g c =
    let p = c.in_ok-_quotient.ensures.built in
    let q = rw (stand_after p (stand_self c.requires.right)).stand_for at c.in_ok-zero.ensures in
    let rest = rw (sym c.deref.ensures.value) at (stand_after q (builds_answer p).1) in
    let r = builds_at_one_and_lists chosen (builds_answer q) (stand_after q (stand_after p (stand_self c.requires.left))) rest c.choose.ensures.built in
    builds_then _ p (builds_then _ q r)

pub returns-in_err-_quotient-clause-built : goal.returns-in_err-_quotient-clause-built
unfolding remainder
returns-in_err-_quotient-clause-built g c = builds_exit _ c.from_residual.ensures.1 c.in_err-_quotient.ensures.built

pub returns-in_err-zero-clause-built : goal.returns-in_err-zero-clause-built
unfolding remainder
returns-in_err-zero-clause-built g c =
    let p = c.in_ok-_quotient.ensures.built in
    let q = rw (stand_after p (stand_self c.requires.right)).stand_for at c.in_err-zero.ensures in
    builds_then _ p (builds_exit _ c.from_residual-in_err-zero.ensures.1 q)

pub choose-requires-clause-lengths : goal.choose-requires-clause-lengths
choose-requires-clause-lengths g c =
    let m = g.B.Builder.meaning c.args.b.now in
    let n : length (edges m c.args.x.now) ≡ length (edges m c.args.y.now) = simp length-map c.requires.lengths in
    sym (ap length c.deref.ensures.value ∙ (stand_lengths (builds_answer c.in_ok-_quotient.ensures.built).1 ∙ (division-length (edges m c.args.x.now) (edges m c.args.y.now) n ∙ length-map c.args.x.now (edge m))))

pub returns-clause-value : goal.returns-clause-value
returns-clause-value g c =
    let m = g.B.Builder.meaning c.args.b.now in
    let n : length (edges m c.args.x.now) ≡ length (edges m c.args.y.now) = simp length-map c.requires.lengths in
    let after = g.B.Builder.meaning c.choose.new.b in
    answers_with _ (returns-clause-built g c) (λ v s bits. rw s.stand_for (remainder-word bits (edges m c.args.x.now) (edges m c.args.y.now) n))
