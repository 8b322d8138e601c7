use Rattle.std.proofs.Common.{◌∷◌, ◌++◌, [], take, sym, subst, refl, List}
use Rattle.bvd_top.specs.declared.reading.Read.{Read}
use Rattle.bvd_top.specs.declared.parsing.File.{File}
use Rattle.std.specs.Prelude.{All}
use Rattle.std.proofs.lemmas.List.Elements.{All-push}
use Rattle.bvd_top.specs.Parsed.{AreParsed, IsOfFile}
use Rattle.bvd_top.proofs.FilesRead.{next_taken}
use Rattle.bvd_top.proofs.FilesStated.{parsed_more}
use Rattle.bvd_top.proofs.parsing.parse_all.Goals as goal

pub reads-preserved : goal.reads-preserved
reads-preserved c =
    let read : Read = c.read-item.result in
    let file : File = record { path = read.path; stated = c.in_ok-stated.stated } in
    let before = take c.reads.read-index c.args.reads.now in
    let more = parsed_more before c.reads.files.items read file c.reads.invariant.parsed refl c.in_ok-stated.ensures.parsed in
    let F : File → Type 0 = λ f. IsOfFile f.stated in
    record {
      parsed = subst (λ (l : List Read). AreParsed l c.keep.new.items.items) (sym {A = List Read} (next_taken c.args.reads.now c.reads.read-index read c.reads-test.true c.read-item.is))
          (subst (λ (l : List File). AreParsed (before ++ read ∷ []) l) (sym {A = List File} c.in_ok-keep.ensures) more);
      of_file = subst (All F) (sym {A = List File} c.in_ok-keep.ensures) (All-push F c.reads.files.items file c.reads.invariant.of_file c.in_ok-stated.ensures.of_file);
    }
