use Rattle.std.proofs.Common.{get_or, sym, ◌∙◌}
use Rattle.std.proofs.lemmas.Option.{slice_get-get_or}
use Rattle.bv_lex.proofs.Longest.{blank_cut, only_other}
use Rattle.bv_lex.proofs.front.front.Goals as goal

pub sign-requires-clause-signs : goal.sign-requires-clause-signs
sign-requires-clause-signs c =
    only_other c.args.text.now c.args.at (record { byte = get_or c.args.text.now c.args.at 0; here = slice_get-get_or c.args.text.now c.args.at 0 c.requires; class = sym c.class_of.ensures ∙ c.in-Other.is })

pub returns-in-Blank-clause-front : goal.returns-in-Blank-clause-front
returns-in-Blank-clause-front c =
    blank_cut c.args.text.now c.args.at (record { byte = get_or c.args.text.now c.args.at 0; here = slice_get-get_or c.args.text.now c.args.at 0 c.requires; class = sym c.class_of.ensures ∙ c.in-Blank.is })
