use Rattle.std.proofs.Common.{◌≡◌, true, take}
use Rattle.std.specs.List.{list_all}
use Rattle.lrat_lines.specs.Lines.{is_hint}
use Rattle.lrat_trim.specs.Marks.{moved_hints}
use Rattle.lrat_trim.proofs.renumber.moved_hints.Given as goal

abbrev pub invariant-loop-hint : goal.invariant-loop-hint
invariant-loop-hint l = record {
  so_far : l.new.items ≡ moved_hints l.inputs l.ids (take l.hint-index l.hints);
  range : list_all is_hint l.new.items ≡ true;
}
