use Rattle.std.proofs.Common.{◌≡◌, ◌<◌, ◌≤◌, ◌+◌, ◌-◌, ◌*◌, ◌^◌, ◌∙◌, ℕ, List, drop, ap, sym, set, length, arith, get_or, length-set, subst}
use Rattle.sat_form.specs.Literals.{Literal}
use Rattle.search_learn.specs.Cases.{times}
use Rattle.search_learn.specs.Machine.{raise}
use Rattle.search_heap.specs.Ranking.{Ranking, score_of}
use Rattle.search_learn.proofs.Raising.{raise_first, room_next, room_here}
use Rattle.search_watch.proofs.moves.raise.Goals as goal

pub raise-requires-clause-room : goal.raise-requires-clause-room
raise-requires-clause-room c =
    let value = c.var.ensures.value in
    let range = c.var.ensures.range.0 in
    let fits = room_here (2 ^ 128) c.args.by c.loop-lit.heap.scores c.args.lits.now c.loop-lit.lit-index c.lit-item.result c.loop-lit-test.true c.lit-item.is (omega arith) c.loop-lit.invariant.room in
    subst (λ (v : ℕ). score_of c.loop-lit.heap.scores v + c.args.by < 2 ^ 128) (sym value) fits

pub loop-lit-preserved : goal.loop-lit-preserved
loop-lit-preserved c =
    let l = c.lit-item.result in
    let r = c.loop-lit.heap in
    let at = c.loop-lit.lit-index in
    let value = c.var.ensures.value in
    let range = c.var.ensures.range.0 in
    let above : 0 < l.var = omega arith in
    let size = c.loop-lit.invariant.size in
    let inside : (l.var - 1) < length r.scores = let w : (get_or c.args.lits.now at l).var ≤ length c.args.heap.now.scores = c.requires.within at l c.loop-lit-test.true in let e = ap (λ (x : Literal). x.var) c.lit-item.is in omega arith in
    let new : c.raise.new.self.scores ≡ set r.scores (l.var - 1) (score_of r.scores l.var + c.args.by) =
    ap (λ (x : Ranking). x.scores) c.raise.ensures ∙ ap (λ (v : ℕ). set r.scores (v - 1) (score_of r.scores v + c.args.by)) value in
    record {
      size = ap length new ∙ length-set r.scores _ _ ∙ size;
      members = ap (λ (x : Ranking). x.members) c.raise.ensures ∙ c.loop-lit.invariant.members;
      room = subst (λ (s : List ℕ). (v : ℕ) → 0 < v → get_or s (v - 1) 0 + c.args.by * times v (drop (at + 1) c.args.lits.now) < 2 ^ 128) (sym new)
          (room_next (2 ^ 128) c.args.by r.scores c.args.lits.now at l c.loop-lit-test.true c.lit-item.is above inside c.loop-lit.invariant.room);
      raised = c.loop-lit.invariant.raised ∙ raise_first c.args.by r.scores c.args.lits.now at l c.loop-lit-test.true c.lit-item.is ∙ ap (λ (s : List ℕ). raise c.args.by s (drop (at + 1) c.args.lits.now)) (sym new);
    }
