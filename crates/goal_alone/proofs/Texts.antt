-- The text of lines, one after another.
use Rattle.std.proofs.Common.{◌≡◌, ℕ, true, List}
use Rattle.std.specs.List.{list_all}
use Rattle.lrat_lines.specs.Lines as lines
use Rattle.lrat_lines.specs.Lines.{Text, written, is_writable}
use Rattle.lrat_lines.proofs.Spelling.{text_reads_back}

-- a written text has the lines that it was written from
pub reads_back : (text : List ℕ) (ls ts : List lines.Line) → text ≡ written ls → ls ≡ ts → list_all is_writable ls ≡ true → Text text ts
reads_back text ls ts is same h = rw (is, same) (text_reads_back ts (rw same at h))
