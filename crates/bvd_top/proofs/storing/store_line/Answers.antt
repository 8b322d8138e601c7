use Rattle.std.proofs.Common.{◌≡◌, sym, subst, string_bytes, Some, None}
use Rattle.std.specs.Prelude.{option_map}
use Rattle.bvd_host.specs.Files.{with_file}
use Rattle.cert_store.specs.CutShort.{IsCutShort}
use Rattle.bvd_report.specs.Shown.{told_shown}
use Rattle.bvd_top.specs.Storing.{text_of}
use Rattle.bvd_top.proofs.Stored.{ok_only, err_then, line_stored, line_cut, line_left}
use Rattle.bvd_top.proofs.storing.store_line.Goals as goal

pub returns-in-Some-clause-ok : goal.returns-in-Some-clause-ok
returns-in-Some-clause-ok g c =
    let before = g.K.Keeper.files c.args.keeper.now in
    let after = g.K.Keeper.files c.store.new.keeper in
    let name = string_bytes c.args.line.now.certificate in
    let told = told_shown c.args.line.now.told in
    let text = c.in-Some.text.now in
    let is : text_of told ≡ Some text = sym c.in-Some.ensures in
    ok_only c.store.result _ _ (λ (e : after ≡ option_map (λ f. with_file f c.as_str.result.now text) before).
    line_stored name text told before after is (subst (λ n. after ≡ option_map (λ f. with_file f n text) before) c.as_str.ensures.value e)) c.store.ensures.ok

pub returns-in-Some-clause-err : goal.returns-in-Some-clause-err
returns-in-Some-clause-err g c =
    let before = g.K.Keeper.files c.args.keeper.now in
    let after = g.K.Keeper.files c.store.new.keeper in
    let name = string_bytes c.args.line.now.certificate in
    let told = told_shown c.args.line.now.told in
    let text = c.in-Some.text.now in
    let is : text_of told ≡ Some text = sym c.in-Some.ensures in
    err_then c.store.result _ _ (λ (cut : IsCutShort c.as_str.result.now text before after). line_cut name text told before after is (subst (λ n. IsCutShort n text before after) c.as_str.ensures.value cut)) c.store.ensures.err

pub returns-in-None-clause-ok : goal.returns-in-None-clause-ok
returns-in-None-clause-ok g c =
    let is : text_of (told_shown c.args.line.now.told) ≡ None = sym c.in-None.ensures in
    line_left (string_bytes c.args.line.now.certificate) (told_shown c.args.line.now.told) (g.K.Keeper.files c.args.keeper.now) is
