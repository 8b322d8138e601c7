use Rattle.std.proofs.Common.{◌∷◌, [], ap, sym, ◌∙◌, take, length, arith}
use Rattle.std.proofs.lemmas.List.{take-append-le, length-append}
use Rattle.lrat_judge.specs.Values.{value_in}
use Rattle.lrat_judge.proofs.Marking.{undo_last}
use Rattle.lrat_judge.proofs.marks.Marks.undo_to.Goals as goal

pub loop-self-preserved-in-Some : goal.loop-self-preserved-in-Some
loop-self-preserved-in-Some c =
    let u = undo_last (value_in c.loop-self.self-inside.values) (value_in c.clear.new.self) c.loop-self.self-inside.trail.items c.pop.new.self.items c.in-Some.lit c.var.result c.in-Some.ensures.items c.var.ensures.value c.clear.ensures c.loop-self.invariant.marks c.loop-self.invariant.trail in
    record {
      front =
          sym (ap (take c.args.count) c.in-Some.ensures.items ∙ take-append-le c.args.count c.pop.new.self.items (c.in-Some.lit ∷ []) (omega (arith, ap length c.in-Some.ensures.items, length-append c.pop.new.self.items (c.in-Some.lit ∷ []))))
          ∙ c.loop-self.invariant.front;
      marks = u.0;
      trail = u.1;
    }
