use Rattle.std.proofs.Common.{flat_map}
use Rattle.bv_print.specs.Canonical.{binder_text, head_text, hypothesis_text}
use Rattle.bv_print.specs.Values.{Begins}
use Rattle.bv_print.proofs.Fronts.{appended, from_err, through}
use Rattle.bv_print.proofs.goals.push_line.Goals as goal

pub returns-clause-err : goal.returns-clause-err
returns-clause-err c =
    let g = c.args.goal.now in
    let start = c.args.out.now.items in
    let headed = c.push_head.new.out.items in
    let bound = c.push_binders.new.out.items in
    let assumed = c.push_hypotheses.new.out.items in
    let end = c.push_conclusion.new.out.items in
    let first : Begins start headed = appended start (head_text g.name) headed c.in_ok-push_head.ensures.ok in
    let second : Begins headed bound = appended headed (flat_map binder_text c.as_slice.result.now) bound c.in_ok-push_binders.ensures.ok in
    let third : Begins bound assumed = appended bound (flat_map (hypothesis_text c.as_slice-2.result.now) c.as_slice-3.result.now) assumed c.in_ok-push_hypotheses.ensures.ok in
    from_err c.push_conclusion.result (Begins assumed end) (Begins start end) (λ last. through start assumed end (through start bound assumed (through start headed bound first second) third) last) c.push_conclusion.ensures.err
