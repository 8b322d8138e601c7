use Rattle.lrat_lines.proofs.Verdicts.{checked_is_accepted, accepted_is_checked, checked_text_is_accepted}
use Rattle.lrat_lines.proofs.laws.checked_lines_are_accepted.Goals as goal

pub returns : goal.returns
returns c = record { front = checked_is_accepted; only = accepted_is_checked; whole = checked_text_is_accepted }
