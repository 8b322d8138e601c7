use Rattle.lrat_lines.proofs.Spelling.{line_reads_back, text_reads_back}
use Rattle.lrat_lines.proofs.laws.written_lines_read_back.Goals as goal

pub returns : goal.returns
returns c = record { line = line_reads_back; text = text_reads_back }
