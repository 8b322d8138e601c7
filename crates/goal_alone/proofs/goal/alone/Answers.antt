use Rattle.std.proofs.Common.{refl, sym, subst}
use Rattle.goal_alone.specs.Alone.{Answer}
use Rattle.goal_alone.specs.Told.{IsAnswer}
use Rattle.goal_alone.proofs.Ending.{where_made, where_deep, where_large}
use Rattle.goal_alone.proofs.goal.alone.Goals as goal

pub returns-in-Ok-searched-clause-answer : goal.returns-in-Ok-searched-clause-answer
returns-in-Ok-searched-clause-answer c =
    let g = c.args.goal.now in
    let reply = c.in-Ok-searched.reply in
    let P : Answer → Type 0 = λ a. IsAnswer reply a in
    subst P (sym (where_made g.binders g.hyps g.concl c.args.budget c.in-Ok.ensures.made)) c.in-Ok-searched.ensures.answer

pub returns-in-Err-Deep-clause-answer : goal.returns-in-Err-Deep-clause-answer
returns-in-Err-Deep-clause-answer c =
    let g = c.args.goal.now in
    where_deep g.binders g.hyps g.concl c.args.budget (c.in-Err-Deep.ensures.deep (rw c.in-Err-Deep.field-0-is refl))

pub returns-in-Err-Large-clause-answer : goal.returns-in-Err-Large-clause-answer
returns-in-Err-Large-clause-answer c =
    let g = c.args.goal.now in
    where_large g.binders g.hyps g.concl c.args.budget (c.in-Err-Large.ensures.large (rw c.in-Err-Large.field-0-is refl))
