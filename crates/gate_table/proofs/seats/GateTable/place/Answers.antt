use Rattle.std.proofs.Common.{◌≡◌, sym, ◌∙◌, subst, IfErr}
use Rattle.gate_shape.specs.Word.{gate_word}
use Rattle.gate_shape.specs.declared.builder.GateStop.TheVariants.{Full}
use Rattle.gate_table.specs.Searches.{IsMissed}
use Rattle.gate_table.proofs.Knowing.{once, place_built, level_positive}
use Rattle.gate_table.proofs.Searched.{wanted}
use Rattle.gate_table.proofs.seats.GateTable.place.Goals as goal

pub find-found-requires-clause-wanted : goal.find-found-requires-clause-wanted
find-found-requires-clause-wanted c =
    let q = c.requires in
    wanted c.args.seat.now c.keeps.ensures.part c.args.left c.args.right q.left_known q.right_known c.fits.ensures c.fits-2.ensures q.apart q.order c.args.level q.level_right q.level_small

pub returns-clause-built : goal.returns-clause-built
returns-clause-built c =
    let q = c.requires in let f = c.find-found.ensures in
    let full = subst (λ t. IfErr c.find-found.result (λ e. (e ≡ Full) × IsMissed t.words c.find-found.new.seat.view.seen (gate_word c.args.level c.args.left c.args.right))) (sym (f.table ∙ q.seat)) f.full in
    (place_built c.args.seat.now c.find-found.new.seat c.keeps-2.ensures.part f.table f.kept c.args.left c.args.right q.left_known q.right_known c.args.level q.level_right q.level_small c.fits.ensures c.fits-2.ensures (level_positive _ _ q.level_right) c.keeps-2.ensures.below c.find-found.result f.ok full).0

pub returns-clause-once : goal.returns-clause-once
returns-clause-once c = once c.find-found.new.seat c.keeps-2.ensures.part
