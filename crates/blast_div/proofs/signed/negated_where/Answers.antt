use Rattle.std.proofs.Common.{◌∙◌, sym, ap, length}
use Rattle.std.proofs.lemmas.List.{length-map}
use Rattle.gate_shape.specs.Builds.{edge, edges}
use Rattle.gate_shape.proofs.Building.{stand_self, stand_after, stands_self, stands_after, stand_lengths, builds_then, builds_exit, builds_answer, builds_at_one_and_lists, answers_with}
use Rattle.blast_arith.proofs.Adding.{negative-length}
use Rattle.blast_logic.specs.Chosen.{chosen}
use Rattle.blast_div.specs.Signed.{negated_where}
use Rattle.blast_div.proofs.Signing.{negated_where-length}
use Rattle.blast_div.proofs.signed.negated_where.Goals as goal

pub returns-in_err-negated-clause-built : goal.returns-in_err-negated-clause-built
unfolding negated_where
returns-in_err-negated-clause-built g c = builds_exit _ c.from_residual.ensures.1 c.in_err-negated.ensures.built

pub choose-requires-clause-lengths : goal.choose-requires-clause-lengths
choose-requires-clause-lengths g c =
    let m = g.B.Builder.meaning c.args.b.now in
    ap length c.deref.ensures.value ∙ (stand_lengths (builds_answer c.in_ok-negated.ensures.built) ∙ (negative-length (edges m c.args.x.now) ∙ length-map c.args.x.now (edge m)))

pub returns-clause-built : goal.returns-clause-built
unfolding negated_where
returns-clause-built g c =
    let p = c.in_ok-negated.ensures.built in
    let n = rw (sym c.deref.ensures.value) at (builds_answer p) in
    builds_then _ p (builds_at_one_and_lists chosen (stands_after p (stands_self c.requires.condition)) n (stand_after p (stand_self c.requires.known)) c.choose.ensures.built)

pub returns-clause-lengths : goal.returns-clause-lengths
returns-clause-lengths g c =
    let m = g.B.Builder.meaning c.args.b.now in
    answers_with _ (returns-clause-built g c) (λ v s. stand_lengths s ∙ (negated_where-length (edge m c.args.c) (edges m c.args.x.now) ∙ length-map c.args.x.now (edge m)))
