use Rattle.std.proofs.Common.{◌∙◌, sym, ap, length, replicate}
use Rattle.std.proofs.lemmas.List.{length-map, length-replicate}
use Rattle.blast_logic.specs.Words.{written_number}
use Rattle.gate_shape.specs.Builds.{edge, edges}
use Rattle.gate_shape.proofs.Building.{builds_then, builds_exit, builds_memory_exit, builds_answer, keeps_self, builds_at_one_and_lists, stand_self, stand_after, stands_after, stand_lengths}
use Rattle.bv_value.specs.Operations as is
use Rattle.blast_logic.specs.Chosen.{chosen}
use Rattle.blast_logic.specs.Words.{word}
use Rattle.blast_logic.specs.Words.{top_bit}
use Rattle.blast_shift.specs.Stages.{variable_shift_signed}
use Rattle.blast_logic.proofs.Wiring.{written, stand_given, stand_as, stand_copies, at_least}
use Rattle.blast_shift.proofs.Standing.{stands_top}
use Rattle.blast_shift.proofs.Staging.{overflow_at}
use Rattle.blast_shift.proofs.Moves.{is_move_down_signed}
use Rattle.blast_shift.proofs.Shifting.{stages-length, variable_shift_signed-word}
use Rattle.blast_shift.proofs.stages.ashr.Goals as goal

pub returns-in_err-moved-clause-built : goal.returns-in_err-moved-clause-built
unfolding variable_shift_signed
returns-in_err-moved-clause-built g c = builds_exit _ c.from_residual.ensures.1 c.in_err-moved.ensures

pub returns-in_err-over-clause-built : goal.returns-in_err-over-clause-built
unfolding variable_shift_signed
returns-in_err-over-clause-built g c =
    let m = g.B.Builder.meaning c.args.b.now in
    let p = c.in_ok-moved.ensures in
    builds_then _ p (builds_exit _ c.from_residual-in_err-over.ensures.1 (overflow_at m c.args.x.now (stand_after p (stand_self c.requires.right)).stand_for c.in_err-over.ensures))

pub returns-in_err-tops-clause-built : goal.returns-in_err-tops-clause-built
unfolding variable_shift_signed
returns-in_err-tops-clause-built g c =
    let m = g.B.Builder.meaning c.args.b.now in
    let p = c.in_ok-moved.ensures in
    let q = overflow_at m c.args.x.now (stand_after p (stand_self c.requires.right)).stand_for c.in_ok-over.ensures in
    builds_then _ p (builds_then _ q (builds_memory_exit _ c.from_residual-in_err-tops.ensures.1 c.in_err-tops.ensures (keeps_self _)))

pub choose-requires-clause-lengths : goal.choose-requires-clause-lengths
choose-requires-clause-lengths g c =
    let m = g.B.Builder.meaning c.args.b.now in
    let moved = builds_answer c.in_ok-moved.ensures in
    ap length (c.deref.ensures.value ∙ c.in_ok-tops.ensures) ∙ length-replicate _ _
    ∙ sym (ap length c.deref-2.ensures.value ∙ stand_lengths moved ∙ stages-length is_move_down_signed (edges m c.args.x.now) (edges m c.args.y.now) ∙ length-map c.args.x.now (edge m))

pub choose-requires-clause-left : goal.choose-requires-clause-left
choose-requires-clause-left g c =
    let p = c.in_ok-moved.ensures in
    let top = stands_after c.in_ok-over.ensures (stands_after p (stands_top c.args.x.now c.requires.left c.requires.positive c.index-x-x.is)) in
    (stand_given (c.deref.ensures.value ∙ c.in_ok-tops.ensures) (stand_copies (length c.args.x.now) top)).known

pub returns-clause-built : goal.returns-clause-built
unfolding variable_shift_signed
returns-clause-built g c =
    let m = g.B.Builder.meaning c.args.b.now in
    let p = c.in_ok-moved.ensures in
    let q = overflow_at m c.args.x.now (stand_after p (stand_self c.requires.right)).stand_for c.in_ok-over.ensures in
    let top = stands_after q (stands_after p (stands_top c.args.x.now c.requires.left c.requires.positive c.index-x-x.is)) in
    let same = ap (λ w. replicate w (top_bit (edges m c.args.x.now))) (sym (length-map c.args.x.now (edge m))) in
    let tops = stand_as same (stand_given (c.deref.ensures.value ∙ c.in_ok-tops.ensures) (stand_copies (length c.args.x.now) top)) in
    let moved = stand_given c.deref-2.ensures.value (stand_after q (builds_answer p)) in
    builds_then _ p (builds_then _ q (builds_at_one_and_lists chosen (builds_answer q) tops moved c.choose.ensures.built))

pub returns-clause-value : goal.returns-clause-value
returns-clause-value g c =
    let xs = edges (g.B.Builder.meaning c.args.b.now) c.args.x.now in
    let ys = edges (g.B.Builder.meaning c.args.b.now) c.args.y.now in
    written _ (λ bits. is.ashr_by (word bits xs) (written_number bits ys)) (returns-clause-built g c) (λ bits. variable_shift_signed-word bits xs ys (at_least _ c.args.x.now c.requires.positive))
