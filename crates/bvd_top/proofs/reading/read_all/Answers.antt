use Rattle.std.proofs.Common.{◌∙◌, ◌+◌, [], take, map, arith, sym, subst, get_or, ℕ, List, Bor}
use Rattle.std.specs.Prelude.{All}
use Rattle.std.proofs.lemmas.List.Elements.{All-push}
use Rattle.bvd_top.specs.declared.reading.Read.{Read}
use Rattle.bvd_top.specs.Reading.{IsWithin}
use Rattle.bvd_top.proofs.FilesRead.{read_next, names_next}
use Rattle.bvd_top.proofs.reading.read_all.Goals as goal

pub names-preserved : goal.names-preserved
names-preserved g c =
    let d : Bor (List ℕ) = record { ref_ptr = (0, 0); now = [] } in
    let read : Read = record { path = get_or c.args.names.now c.names.name-index d; content = c.in_ok-content.content } in
    let W : Read → Type 0 = λ r. IsWithin 4194304 r.content in
    record {
      read = read_next 4194304 (g.K.Keeper.files c.args.keeper.now) (g.K.Keeper.files c.names.keeper) (g.K.Keeper.missing c.args.keeper.now) (g.K.Keeper.missing c.names.keeper) (g.K.Keeper.missing c.read_file.new.keeper)
          (map (λ n. n.now) (take c.names.name-index c.args.names.now)) (map (λ n. n.now) (take (c.names.name-index + 1) c.args.names.now)) c.names.reads.items c.keep.new.items.items read
          c.names.invariant.read c.names.invariant.files c.names.invariant.missing c.in_ok-content.ensures.missing c.in_ok-content.ensures.read
          (names_next (λ n. n.now) c.args.names.now c.names.name-index d c.names-test.true) c.in_ok-keep.ensures;
      within = subst (All W) (sym {A = List Read} c.in_ok-keep.ensures) (All-push W c.names.reads.items read c.names.invariant.within c.in_ok-content.ensures.within);
      files = c.in_ok-content.ensures.files ∙ c.names.invariant.files;
      faults = c.in_ok-content.ensures.cause.spared (λ failed. cc) ∙ c.names.invariant.faults;
      missing = omega (arith, c.in_ok-content.ensures.missing, c.names.invariant.missing);
    }
