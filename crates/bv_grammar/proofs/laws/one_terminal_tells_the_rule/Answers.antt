use Rattle.std.proofs.Common.{◌∙◌, sym, ap}
use Rattle.bv_grammar.proofs.Tables.{table, predicts}
use Rattle.bv_grammar.proofs.laws.one_terminal_tells_the_rule.Goals as goal

pub returns : goal.returns
returns c = λ s r r' q q' ts us a a' b b' i j m n e h d h' d'. sym (predicts a q h d) ∙ ap (table s) e ∙ predicts a' q' h' d'
