use Rattle.std.proofs.Common.{◌≡◌, ◌-◌}
use Rattle.std.specs.Prelude.{string_bytes}
use Rattle.bv_typing.specs.Goals.{path_text}
use Rattle.bv_typing.proofs.names.path_text.Given as goal

abbrev pub invariant-loop-at : goal.invariant-loop-at
invariant-loop-at l = string_bytes l.text ≡ path_text l.file l.from (l.at - l.from)
