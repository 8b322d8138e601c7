use Rattle.std.proofs.Common.{◌≡◌, ap, sym, ◌∙◌, arith, length, vec_len, Bool, true, false, subst}
use Rattle.std.specs.Prelude.{Ok}
use Rattle.lrat_lines.specs.Judge.{judge, is_last}
use Rattle.lrat_lines.specs.Lines.Line.{Add as Addition}
use Rattle.std.specs.declared.result.Result.{Result}
use Rattle.lrat_lines.specs.Judge.{Clauses, Cause}
use Rattle.lrat_judge.specs.declared.cause.Judged.{Judged}
use Rattle.lrat_judge.specs.declared.cause.Judged.TheVariants.{Kept, Empty}
use Rattle.lrat_judge.specs.Judged.{IsJudged}
use Rattle.lrat_judge.proofs.Judging.{refused, checked, last_by_length}
use Rattle.lrat_judge.proofs.judge.Judge.add.Goals as goal
use Rattle.lrat_judge.proofs.judge.Judge.add.Goals.{then-is_empty, else-is_empty}

shown_empty : (judged : Judged) (old new : Clauses) (verdict : Result Clauses Cause) (last : Bool) → judged ≡ Empty → verdict ≡ Ok new → last ≡ true → IsJudged judged old new verdict last
shown_empty judged old new verdict last e v l = subst (λ (j : Judged). IsJudged j old new verdict last) (sym e) (v, l)

shown_kept : (judged : Judged) (old new : Clauses) (verdict : Result Clauses Cause) (last : Bool) → judged ≡ Kept → verdict ≡ Ok new → last ≡ false → IsJudged judged old new verdict last
shown_kept judged old new verdict last e v l = subst (λ (j : Judged). IsJudged j old new verdict last) (sym e) (v, l)

pub returns-in-Some-clause-judged : goal.returns-in-Some-clause-judged
returns-in-Some-clause-judged c = (refused c.args.self.now c.self.inside.known c.args.id c.args.lits.items c.deref.result.now c.args.hints.now c.in_ok-cause.field-0 c.self.view_is c.deref.ensures.value c.in_ok-cause.ensures.cause c.in-Some.cause c.in-Some.is, c.self.view_is)

pub returns-clause-judged : goal.returns-clause-judged
returns-clause-judged c =
    let verdict : judge c.args.self.now (Addition c.args.id c.args.lits.items c.args.hints.now) ≡ Ok c.add.new.self =
    checked c.args.self.now c.self.inside.known c.args.id c.args.lits.items c.deref.result.now c.args.hints.now c.in_ok-cause.field-0 c.self.view_is c.deref.ensures.value c.in_ok-cause.ensures.cause c.add.new.self c.in_default.is c.in_ok-add.ensures.ok in
    let length_is : vec_len c.args.lits ≡ length c.args.lits.items = omega (arith, ap length c.deref.ensures.value, c.deref.ensures.len) in
    let last : (b : Bool) → c.is_empty.result ≡ b → is_last (Addition c.args.id c.args.lits.items c.args.hints.now) ≡ b =
    (λ b h. last_by_length c.args.id c.args.lits.items c.args.hints.now (vec_len c.args.lits) b length_is (sym c.is_empty.ensures ∙ h)) in
    elim c.if-is_empty.branch [
      | then-is_empty w ↦ shown_empty c.if-is_empty.judged c.args.self.now c.add.new.self (judge c.args.self.now (Addition c.args.id c.args.lits.items c.args.hints.now)) (is_last (Addition c.args.id c.args.lits.items c.args.hints.now)) w.judged-is verdict (last true w.if-is_empty.true)
      | else-is_empty w ↦ shown_kept c.if-is_empty.judged c.args.self.now c.add.new.self (judge c.args.self.now (Addition c.args.id c.args.lits.items c.args.hints.now)) (is_last (Addition c.args.id c.args.lits.items c.args.hints.now)) w.judged-is verdict (last false w.if-is_empty.false)
    ]
