use Rattle.std.proofs.Common.{refl}
use Rattle.bv_lex.proofs.Longest.{only_slash}
use Rattle.bv_lex.proofs.front.from_slash.Goals as goal

pub sign-requires-clause-signs : goal.sign-requires-clause-signs
sign-requires-clause-signs c = only_slash c.args.text.now c.args.at c.requires (c.if-is_pair.ensures.no_ refl)
