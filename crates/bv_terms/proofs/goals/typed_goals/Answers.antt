use Rattle.std.proofs.Common.{◌≡◌, ◌++◌, ◌∙◌, Some, map, sym, ap, subst}
use Rattle.bv_expr.specs.Statement.{statement_of}
use Rattle.bv_typing.specs.Source.{source}
use Rattle.bv_typing.specs.Goals.{file_misfits, least, statement}
use Rattle.bv_terms.specs.Goals.{AreTexts}
use Rattle.bv_terms.proofs.Text.{are_texts}
use Rattle.bv_terms.proofs.Stating.{states}
use Rattle.bv_terms.proofs.goals.typed_goals.Goals as goal

pub add_goals-requires-clause-texts : goal.add_goals-requires-clause-texts
add_goals-requires-clause-texts c = subst AreTexts (sym c.new-file.ensures) (are_texts c.args.bytes.now c.args.tokens.now c.requires.cut c.requires.text)

pub returns-in-Some : goal.returns-in-Some
returns-in-Some c = record {
  goals = tt;
  misfit = λ m e gs p.
      let same : c.in-Some.misfit ≡ m = cc in
      ap (λ s. least (file_misfits s gs)) (sym c.new-file.ensures) ∙ sym (c.in_ok-misfit.ensures.found gs p) ∙ c.in-Some.is ∙ ap Some same;
}

pub returns-in-None : goal.returns-in-None
returns-in-None c = record {
  goals = λ gs p.
      states (source c.args.bytes.now c.args.tokens.now) gs (map statement_of c.add_goals.new.goals.items)
      (sym c.in-None.is ∙ c.in_ok-misfit.ensures.found gs p ∙ ap (λ s. least (file_misfits s gs)) c.new-file.ensures)
      (c.in_ok-misfit.ensures.added c.in-None.is gs p
      ∙ ap (λ v. map statement_of v ++ map (statement c.new-file.result) gs) c.new-goals.ensures.items
      ∙ ap (λ s. map (statement s) gs) c.new-file.ensures);
  misfit = tt;
}
