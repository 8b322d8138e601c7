use Rattle.std.proofs.Common.{sym, rules, ◌∙◌}
use denote.Enum.Bare.{same_true, true_same}
use Rattle.bv_grammar.specs.contracts.words.Word.{the_type}
use Rattle.bv_grammar.proofs.reading.is_same_word.Goals as goal

pub returns : goal.returns
returns c = (λ h. same_true the_type (search rules) _ _ (sym c.eq.ensures ∙ h), λ e. c.eq.ensures ∙ true_same the_type _ _ e)
