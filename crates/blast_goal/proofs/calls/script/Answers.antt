use Rattle.gate_shape.specs.declared.builder.GateStop.TheVariants.{Deep, Full}
use Rattle.blast_goal.specs.Circuit.{goal_row}
use Rattle.blast_goal.proofs.Scripting.{Scripted, whole_script, stopped_result, if_ok}
use Rattle.blast_goal.proofs.calls.script.Goals as goal

pub returns-in-Ok : goal.returns-in-Ok
returns-in-Ok c =
    let row = goal_row c.args.goal.now.hyps c.args.goal.now.concl in
    let w = c.whole in
    let s : Scripted row w.result.calls.items w.result.answers.items w.result.end = rw (w.ensures.calls, w.ensures.answers, w.ensures.end) (whole_script row c.new-recorder.result c.new-recorder.ensures c.edge.new.b w.ensures.recorded c.in-Ok.root c.in-Ok.ensures.built) in
    record { calls = s.calls_right; answers = s.answers_right; end = s.ends; count = s.count; root = s.root }

pub returns-in-Err-Deep : goal.returns-in-Err-Deep
returns-in-Err-Deep c =
    let row = goal_row c.args.goal.now.hyps c.args.goal.now.concl in
    let w = c.stopped in
    let s = stopped_result row c.new-recorder.result c.new-recorder.ensures c.edge.new.b w.ensures.recorded (λ s. s.calls.items) (λ s. s.answers.items) (λ s. s.end) Deep (λ m. m) (rw c.in-Err-Deep.field-0-is at c.in-Err-Deep.ensures.built) w.result w.ensures.calls w.ensures.answers w.ensures.end in
    record {
      calls = if_ok w.result (λ x h. h.calls_right) s;
      answers = if_ok w.result (λ x h. h.answers_right) s;
      end = if_ok w.result (λ x h. h.ends) s;
      count = if_ok w.result (λ x h. h.count) s;
      root = if_ok w.result (λ x h. h.root) s;
    }

pub returns-in-Err-Full : goal.returns-in-Err-Full
returns-in-Err-Full c =
    let row = goal_row c.args.goal.now.hyps c.args.goal.now.concl in
    let w = c.stopped-in-Err-Full in
    let s = stopped_result row c.new-recorder.result c.new-recorder.ensures c.edge.new.b w.ensures.recorded (λ s. s.calls.items) (λ s. s.answers.items) (λ s. s.end) Full (λ m. m) (rw c.in-Err-Full.field-0-is at c.in-Err-Full.ensures.built) w.result w.ensures.calls w.ensures.answers w.ensures.end in
    record {
      calls = if_ok w.result (λ x h. h.calls_right) s;
      answers = if_ok w.result (λ x h. h.answers_right) s;
      end = if_ok w.result (λ x h. h.ends) s;
      count = if_ok w.result (λ x h. h.count) s;
      root = if_ok w.result (λ x h. h.root) s;
    }
