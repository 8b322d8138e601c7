use Rattle.bv_canon.proofs.Goals.{line_read}
use Rattle.bv_canon.proofs.laws.lines_are_read_back.Goals as goal

pub returns : goal.returns
returns c = line_read
