use Rattle.std.proofs.Common.{◌≡◌, ◌++◌, ◌∷◌, [], map, take}
use Rattle.std.specs.Fmt.{decimal}
use Rattle.lrat_lines.specs.Spaced.{spaced}
use Rattle.lrat_lines.proofs.Appending.{kept_behind, ended, on_ok}
use Rattle.lrat_lines.proofs.writing.write_until_zero.Goals as goal

pub returns-in_err-write_word-clause-keeps : goal.returns-in_err-write_word-clause-keeps
returns-in_err-write_word-clause-keeps g c =
    kept_behind c.args.out.now.items (spaced (map g.T.Spelled.spelled (take c.loop-item.item-index c.args.items.now))) c.loop-item.out.items c.write_word.new.out.items c.loop-item.invariant c.write_word.ensures.keeps

pub returns-clause-ok : goal.returns-clause-ok
returns-clause-ok g c =
    on_ok c.extend_from_slice.result c.loop-item.out.items c.extend_from_slice.new.self.items (32 ∷ 48 ∷ []) (c.extend_from_slice.new.self.items ≡ c.args.out.now.items ++ spaced (map g.T.Spelled.spelled c.args.items.now ++ decimal 0 ∷ []))
    c.extend_from_slice.ensures.items
    (ended g.T.Spelled.spelled c.args.items.now c.loop-item.item-index c.args.out.now.items c.loop-item.out.items c.extend_from_slice.new.self.items c.loop-item-test.false c.loop-item.invariant)
