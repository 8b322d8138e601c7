use Rattle.std.proofs.Common.{◌∙◌, ◌++◌, ◌∷◌, [], sym, ap, ap₂, arith}
use Rattle.gate_shape.specs.Builds.{edge}
use Rattle.gate_shape.specs.declared.builder.GateStop.TheVariants.{Memory}
use Rattle.gate_shape.proofs.Building.{builds_memory_exit}
use Rattle.blast_goal.specs.Recorded.{Recorded}
use Rattle.blast_goal.proofs.Scripting.{same_keeps, recorded_once, call_answered_is, call_answered, call_refused}
use Rattle.blast_goal.proofs.recorder.Recorder.call.Goals as goal

pub returns-in_err-reserve-clause-built : goal.returns-in_err-reserve-clause-built
returns-in_err-reserve-clause-built c =
    let i = c.self.inside in
    let same = ap (λ z. record { list = i.list; calls = z; answers = i.answers.items; refused = i.refused }) c.reserve.ensures.items ∙ c.self.view_is in
    builds_memory_exit (Memory _) c.from_residual.ensures.1 tt (same_keeps _ _ same)

pub returns-in_err-reserve-clause-once : goal.returns-in_err-reserve-clause-once
returns-in_err-reserve-clause-once c =
    let i = c.self.inside in
    recorded_once record { list = i.list; calls = c.reserve.new.self.items; answers = i.answers.items; refused = i.refused } c.self.invariant.once

pub returns-in_err-reserve-2-clause-built : goal.returns-in_err-reserve-2-clause-built
returns-in_err-reserve-2-clause-built c =
    let i = c.self.inside in
    let same = ap₂ (λ z y. record { list = i.list; calls = z; answers = y; refused = i.refused }) c.reserve.ensures.items c.reserve-2.ensures.items ∙ c.self.view_is in
    builds_memory_exit (Memory _) c.from_residual-in_err-reserve-2.ensures.1 tt (same_keeps _ _ same)

pub returns-in_err-reserve-2-clause-once : goal.returns-in_err-reserve-2-clause-once
returns-in_err-reserve-2-clause-once c =
    let i = c.self.inside in
    recorded_once record { list = i.list; calls = c.reserve.new.self.items; answers = c.reserve-2.new.self.items; refused = i.refused } c.self.invariant.once

pub invariant_of-self-in-Ok : goal.invariant_of-self-in-Ok
unfolding edge
invariant_of-self-in-Ok c =
    let i = c.self.inside in
    let old : Recorded = record { list = i.list; calls = i.calls.items; answers = i.answers.items; refused = i.refused } in
    let o = c.in_order-call.ensures in
    let one = rw (sym c.self.view_is) at c.requires.one in
    let calls_are = c.push_reserved.ensures.items ∙ ap (λ z. z ++ c.in_order-call.result ∷ []) c.reserve.ensures.items in
    let answers_are = c.push_reserved-in-Ok.ensures.items ∙ ap (λ z. z ++ c.in-Ok.answer ∷ []) c.reserve-2.ensures.items in
    call_answered_is old c.self.invariant c.in_order-call.result o.left o.right c.args.a c.args.b one o.gate c.and.new.self c.in-Ok.answer c.in-Ok.ensures.built c.in-Ok.ensures.once (omega (arith, c.len-count.ensures.count, c.len-count.ensures.within)) _ _ calls_are answers_are

pub returns-in-Ok-clause-built : goal.returns-in-Ok-clause-built
unfolding edge
returns-in-Ok-clause-built c =
    let i = c.self.inside in
    let old : Recorded = record { list = i.list; calls = i.calls.items; answers = i.answers.items; refused = i.refused } in
    let o = c.in_order-call.ensures in
    let one = rw (sym c.self.view_is) at c.requires.one in
    let calls_are = c.push_reserved.ensures.items ∙ ap (λ z. z ++ c.in_order-call.result ∷ []) c.reserve.ensures.items in
    let answers_are = c.push_reserved-in-Ok.ensures.items ∙ ap (λ z. z ++ c.in-Ok.answer ∷ []) c.reserve-2.ensures.items in
    rw (sym c.self.view_is) (call_answered old c.self.invariant c.in_order-call.result o.left o.right c.args.a c.args.b one o.gate c.and.new.self c.in-Ok.answer c.in-Ok.ensures.built c.in-Ok.ensures.once (omega (arith, c.len-count.ensures.count, c.len-count.ensures.within)) _ _ calls_are answers_are)

pub returns-in-Ok-clause-once : goal.returns-in-Ok-clause-once
returns-in-Ok-clause-once c = recorded_once record { list = c.and.new.self; calls = c.push_reserved.new.self.items; answers = c.push_reserved-in-Ok.new.self.items; refused = c.self.inside.refused } c.in-Ok.ensures.once

pub returns-in-Err-clause-built : goal.returns-in-Err-clause-built
unfolding edge
returns-in-Err-clause-built c =
    let i = c.self.inside in
    let old : Recorded = record { list = i.list; calls = i.calls.items; answers = i.answers.items; refused = i.refused } in
    let o = c.in_order-call.ensures in
    let one = rw (sym c.self.view_is) at c.requires.one in
    rw (sym c.self.view_is) (call_refused old c.self.invariant c.in_order-call.result o.left o.right c.args.a c.args.b one o.gate c.in-Err.stop c.and.new.self c.reserve.new.self.items c.reserve-2.new.self.items c.in-Err.ensures.refused c.reserve.ensures.items c.in-Err.ensures.built)

pub returns-in-Err-clause-once : goal.returns-in-Err-clause-once
returns-in-Err-clause-once c = recorded_once record { list = c.and.new.self; calls = c.reserve.new.self.items; answers = c.reserve-2.new.self.items; refused = c.in_order-call.result } c.in-Err.ensures.once
