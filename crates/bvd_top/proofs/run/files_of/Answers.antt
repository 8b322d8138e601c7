use Rattle.std.proofs.Common.{◌∙◌, map, subst}
use Rattle.std.proofs.lemmas.List.{length-map}
use Rattle.bvd_host.specs.Causes.{Rose}
use Rattle.bvd_top.specs.Reading.{AreRead}
use Rattle.bvd_top.specs.Parsed.{AreParsed}
use Rattle.bvd_top.proofs.FilesStated.{files_stated, files_small, files_count}
use Rattle.bvd_top.proofs.run.files_of.Goals as goal

pub returns-clause-stated : goal.returns-clause-stated
returns-clause-stated g c =
    let files = g.K.Keeper.files c.args.keeper.now in
    let missing = Rose (g.K.Keeper.missing c.args.keeper.now) (g.K.Keeper.missing c.read_all.new.keeper) in
    let reads = c.in_ok-reads.reads.items in
    let read = subst (λ l. AreRead 4194304 files missing (map (λ n. n.now) l) reads) c.deref.ensures.value c.in_ok-reads.ensures.read in
    let parsed = subst (λ l. AreParsed l c.in_ok-parse_all.field-0.items) c.deref-2.ensures.value c.in_ok-parse_all.ensures.parsed in
    files_stated files missing (map (λ n. n.now) c.args.request.now.files.items) reads c.in_ok-parse_all.field-0.items read parsed

pub returns-clause-small : goal.returns-clause-small
returns-clause-small g c = files_small c.deref-2.result.now c.in_ok-parse_all.field-0.items c.in_ok-parse_all.ensures.parsed

pub returns-clause-count : goal.returns-clause-count
returns-clause-count g c =
    let files = g.K.Keeper.files c.args.keeper.now in
    let missing = Rose (g.K.Keeper.missing c.args.keeper.now) (g.K.Keeper.missing c.read_all.new.keeper) in
    let reads = c.in_ok-reads.reads.items in
    let read = subst (λ l. AreRead 4194304 files missing (map (λ n. n.now) l) reads) c.deref.ensures.value c.in_ok-reads.ensures.read in
    let parsed = subst (λ l. AreParsed l c.in_ok-parse_all.field-0.items) c.deref-2.ensures.value c.in_ok-parse_all.ensures.parsed in
    files_count 4194304 files missing (map (λ n. n.now) c.args.request.now.files.items) reads c.in_ok-parse_all.field-0.items read parsed
    ∙ length-map c.args.request.now.files.items (λ n. n.now)
