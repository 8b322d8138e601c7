use Rattle.std.proofs.Common.{take}
use Rattle.std.specs.Prelude.{All}
use Rattle.bvd_top.specs.Parsed.{AreParsed, IsOfFile}
use Rattle.bvd_top.proofs.parsing.parse_all.Given as goal

abbrev pub invariant-reads : goal.invariant-reads
invariant-reads l = record {
  parsed : AreParsed (take l.read-index l.reads) l.files.items;
  of_file : All (λ f. IsOfFile f.stated) l.files.items;
}
