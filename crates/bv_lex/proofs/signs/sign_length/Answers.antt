use Rattle.std.specs.Char.{encode_utf8}
use Rattle.bv_lex.proofs.signs.sign_length.Goals as goal

pub returns-clause-there : goal.returns-clause-there
unfolding encode_utf8
returns-clause-there c = c.longest_of.ensures.there

pub returns-clause-longest : goal.returns-clause-longest
unfolding encode_utf8
returns-clause-longest c = c.longest_of.ensures.longest
