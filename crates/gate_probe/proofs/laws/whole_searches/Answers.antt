use Rattle.gate_probe.specs.Moves.{started}
use Rattle.gate_probe.proofs.Parts.{packed_some}
use Rattle.gate_probe.proofs.Runs.{full_seen, seen_full, found_seen, seen_found, in_order, start_moves, not_yet, none_passed, all_counted}
use Rattle.gate_probe.proofs.laws.whole_searches.Goals as goal

pub returns-clause-full : goal.returns-clause-full
returns-clause-full c n left right level words run =
    let p = started n left right level in
    let m = start_moves n left right level run.0 in
    ((λ e. let h = full_seen p m words run.2 e in (none_passed _ n h.0, h.1)), (λ h. seen_full p (packed_some level left right run.1) m words run.2 (all_counted _ n h.0) h.1))

pub returns-clause-found : goal.returns-clause-found
returns-clause-found c n left right level words run node =
    let p = started n left right level in
    let some = packed_some level left right run.1 in
    (found_seen p some node (not_yet n left right level node) words run.2, λ h. seen_found p some node h.0 words run.2 h.1)

pub returns-clause-places : goal.returns-clause-places
returns-clause-places c n left right level words run = in_order (started n left right level) (packed_some level left right run.1) words run.2
