use Rattle.std.proofs.Common.{◌≡◌, ◌+◌, true, map}
use Rattle.std.specs.List.{list_all}
use Rattle.lrat_lines.specs.Lines.{is_id, is_writable}
use Rattle.lrat_lines.specs.Seen.{seen}
use Rattle.lrat_trim.specs.Derivation.{logged_from}
use Rattle.lrat_trim.specs.Marks.{marked_from}
use Rattle.lrat_trim.specs.Passing.{IsRenumbered, rest_from}
use Rattle.lrat_trim.proofs.renumber.marked_lines.Given as goal

abbrev pub invariant-loop-at : goal.invariant-loop-at
invariant-loop-at l = record {
  stands : IsRenumbered l.inputs l.marks (marked_from l.marks 0 (logged_from (l.inputs + 1) l.lines)) l.at (rest_from l.inputs l.lines l.at) l.ids.items (map seen l.new.items);
  fits : list_all is_id l.ids.items ≡ true;
  writable : list_all is_writable (map seen l.new.items) ≡ true;
}
