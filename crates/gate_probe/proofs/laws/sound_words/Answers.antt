use Rattle.std.proofs.Common.{subst}
use Rattle.gate_probe.specs.Standing.{StandsIn}
use Rattle.gate_probe.proofs.Keeping.{claim_sound}
use Rattle.gate_probe.proofs.Standing.{stands_more, one_literal, meant_stands, stands_meant}
use Rattle.gate_probe.proofs.laws.sound_words.Goals as goal

pub returns-clause-claims : goal.returns-clause-claims
returns-clause-claims c = claim_sound

pub returns-clause-once : goal.returns-clause-once
returns-clause-once c = one_literal

pub returns-clause-for_good : goal.returns-clause-for_good
returns-clause-for_good c = stands_more

pub returns-clause-means : goal.returns-clause-means
returns-clause-means c seen filled base part l e = ((λ s. subst (StandsIn seen l) s.stands_for (meant_stands seen filled base l s.known)), λ h. stands_meant seen filled base part l e h)
