use Rattle.std.proofs.Common.{◌≡◌, ℕ, ◌+◌, ◌<◌, ◌||◌, false, nat_eq, get_or, length, take}
use Rattle.std.specs.List.{list_any}
use Rattle.lrat_trim.proofs.needed.mark_all.Given as goal

abbrev pub invariant-loop-hint : goal.invariant-loop-hint
invariant-loop-hint l = (j : ℕ) → j < length l.marks → get_or l.marks j false ≡ (list_any (nat_eq (l.inputs + 1 + j)) (take l.hint-index l.hints) || get_or l.initial.marks j false)
