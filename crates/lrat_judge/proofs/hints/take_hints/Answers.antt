use Rattle.std.proofs.Common.{◌+◌, ◌∷◌, ap, sym, ◌∙◌, refl, subst, map, drop, length, nat_abs, arith}
use Rattle.std.proofs.lemmas.List.{take_all}
use Rattle.lrat_lines.specs.Judge as judge
use Rattle.lrat_judge.specs.Taken.{Comes}
use Rattle.lrat_judge.specs.declared.hints.Taken.{Taken}
use Rattle.lrat_judge.proofs.Hinted.{hints_stop, hints_more, ids_step, keeps_more}
use Rattle.lrat_judge.proofs.hints.take_hints.Goals as goal

pub loop-hint-init : goal.loop-hint-init
loop-hint-init c = record { rest = λ a same. (a, same, refl); keeps = take_all (length c.args.marks.now) c.args.marks.now (omega arith) }

pub loop-hint-preserved : goal.loop-hint-preserved
loop-hint-preserved c = record {
  rest = λ a same.
      let i = c.loop-hint.invariant.rest a same in
      let o = subst (λ (x : Taken). Comes c.take_hint.new.marks (judge.take_clause c.id_of.result i.0 (judge.clause_of c.args.known.now c.id_of.result)) x) c.in-Open.is (c.in_ok-taken.ensures.taken i.0 i.1) in
      (o.0, o.2, i.2 ∙ ap (judge.take_hints c.args.known.now i.0) (ids_step c.args.hints.now c.loop-hint.hint-index (omega arith) ∙ ap (λ n. n ∷ map nat_abs (drop (c.loop-hint.hint-index + 1) c.args.hints.now)) (sym c.id_of.ensures)) ∙ hints_more c.args.known.now i.0 o.0 c.id_of.result (map nat_abs (drop (c.loop-hint.hint-index + 1) c.args.hints.now)) o.1);
  keeps = keeps_more c.args.marks.now c.loop-hint.marks c.take_hint.new.marks c.loop-hint.invariant.keeps c.in_ok-taken.ensures.keeps;
}

pub returns-in_default : goal.returns-in_default
returns-in_default c = record {
  taken = λ a same.
      let i = c.loop-hint.invariant.rest a same in
      subst (λ (x : judge.Taken). Comes c.take_hint.new.marks x c.in_ok-taken.taken) (sym (i.2 ∙ ap (judge.take_hints c.args.known.now i.0) (ids_step c.args.hints.now c.loop-hint.hint-index (omega arith) ∙ ap (λ n. n ∷ map nat_abs (drop (c.loop-hint.hint-index + 1) c.args.hints.now)) (sym c.id_of.ensures))))
      (hints_stop c.args.known.now i.0 c.take_hint.new.marks c.id_of.result (map nat_abs (drop (c.loop-hint.hint-index + 1) c.args.hints.now)) c.in_ok-taken.taken c.in_default.not-Open (c.in_ok-taken.ensures.taken i.0 i.1));
  keeps = keeps_more c.args.marks.now c.loop-hint.marks c.take_hint.new.marks c.loop-hint.invariant.keeps c.in_ok-taken.ensures.keeps;
}
