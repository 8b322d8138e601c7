use Rattle.std.proofs.Common.{ap, ◌∙◌}
use Rattle.sat_form.specs.Literals.{negate}
use Rattle.sat_form.proofs.Coded.{literal_of-xor}
use Rattle.sat_form.proofs.lit.Lit.not.Goals as goal

pub returns : goal.returns
returns c = literal_of-xor c.self.inside.code ∙ ap negate c.self.view_is
