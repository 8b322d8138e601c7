use Rattle.std.proofs.Common.{◌<◌, ◌≤◌, length, sym, ap, arith, refl, ◌∙◌}
use Rattle.std.specs.Prelude.{slice_get}
use Rattle.bv_grammar.proofs.Stepping.{at_start, after_took, after_passed, after_failed, at_end, stepped_as, ends_as}
use Rattle.bv_grammar.proofs.reading.read.Goals as goal

pub loop-symbol-init : goal.loop-symbol-init
loop-symbol-init c = at_start c.args.terminals.now _ _ _ c.new-taken.ensures.items c.new-stack.ensures c.in_ok-push.ensures

pub loop-symbol-preserved-in-Continue-branch-4 : goal.loop-symbol-preserved-in-Continue-branch-4
loop-symbol-preserved-in-Continue-branch-4 c =
    let next = c.terminal_at-next.ensures ∙ ap (slice_get c.args.terminals.now) (c.len.ensures ∙ c.loop-symbol.taken.ok.0) in
    let h = stepped_as c.in-Some.symbol _ _ _ _ _ _ next c.in-Took.is c.in_ok-role.ensures in
    (after_took c.args.terminals.now _ _ _ _ _ c.in-Some.symbol _ _ c.loop-symbol.invariant c.in-Some.ensures.some h c.waiting-waiting.ensures c.in_ok-push-in-Took.ensures.items).0

pub loop-symbol-smaller-in-Continue-branch-4 : goal.loop-symbol-smaller-in-Continue-branch-4
loop-symbol-smaller-in-Continue-branch-4 c =
    let next = c.terminal_at-next.ensures ∙ ap (slice_get c.args.terminals.now) (c.len.ensures ∙ c.loop-symbol.taken.ok.0) in
    let h = stepped_as c.in-Some.symbol _ _ _ _ _ _ next c.in-Took.is c.in_ok-role.ensures in
    (after_took c.args.terminals.now _ _ _ _ _ c.in-Some.symbol _ _ c.loop-symbol.invariant c.in-Some.ensures.some h c.waiting-waiting.ensures c.in_ok-push-in-Took.ensures.items).1

pub loop-symbol-preserved : goal.loop-symbol-preserved
loop-symbol-preserved c =
    let next = c.terminal_at-next.ensures ∙ ap (slice_get c.args.terminals.now) (c.len.ensures ∙ c.loop-symbol.taken.ok.0) in
    let h = stepped_as c.in-Some.symbol _ _ _ _ _ _ next c.in-Passed.is c.in_ok-role.ensures in
    (after_passed c.args.terminals.now _ _ _ _ c.in-Some.symbol c.loop-symbol.invariant c.in-Some.ensures.some h).0

pub loop-symbol-smaller : goal.loop-symbol-smaller
loop-symbol-smaller c =
    let next = c.terminal_at-next.ensures ∙ ap (slice_get c.args.terminals.now) (c.len.ensures ∙ c.loop-symbol.taken.ok.0) in
    let h = stepped_as c.in-Some.symbol _ _ _ _ _ _ next c.in-Passed.is c.in_ok-role.ensures in
    (after_passed c.args.terminals.now _ _ _ _ c.in-Some.symbol c.loop-symbol.invariant c.in-Some.ensures.some h).1

pub returns-in-Failed-clause-end : goal.returns-in-Failed-clause-end
returns-in-Failed-clause-end c =
    let next = c.terminal_at-next.ensures ∙ ap (slice_get c.args.terminals.now) (c.len.ensures ∙ c.loop-symbol.taken.ok.0) in
    let h = stepped_as c.in-Some.symbol _ _ _ _ _ _ next c.in-Failed.is c.in_ok-role.ensures in
    let fault = after_failed c.args.terminals.now _ _ _ _ c.in-Some.symbol c.loop-symbol.invariant c.in-Some.ensures.some h in
    ends_as c.args.terminals.now _ _ _ _ (ap length (sym c.faulty.ensures.taken) ∙ sym c.faulty.result.taken.ok.0) (sym c.faulty.ensures.end) fault

pub returns-clause-end : goal.returns-clause-end
returns-clause-end c =
    let more = λ (h : length c.loop-symbol.taken.items < length c.args.terminals.now). c.ended.ensures.more (omega (arith, h, c.loop-symbol.taken.ok.0)) in
    let full = λ (h : length c.args.terminals.now ≤ length c.loop-symbol.taken.items). c.ended.ensures.whole (omega (arith, h, c.loop-symbol.taken.ok.0)) in
    let end = at_end c.args.terminals.now _ _ _ c.loop-symbol.invariant c.in_default.ensures.none more full in
    ends_as c.args.terminals.now _ _ _ _ (ap length (sym c.ended.ensures.taken) ∙ sym c.ended.result.taken.ok.0) refl end
