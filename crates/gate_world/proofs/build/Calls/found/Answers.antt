use Rattle.std.proofs.Common.{◌≤◌, ◌+◌, ◌-◌, [], refl, sym, ap, ◌∙◌, subst, arith}
use Rattle.gate_shape.specs.Edge.{gate_edge}
use Rattle.gate_shape.specs.Builds.{Stands}
use Rattle.blast_goal.specs.Script.{list_of, kept_after, kept_with}
use Rattle.gate_world.proofs.Coded.{answer_index, answer_is, gate_node, found_on}
use Rattle.gate_world.proofs.build.Calls.found.Goals as goal

pub index-requires : goal.index-requires
index-requires c = let r = c.requires in let i = answer_index r.0 r.1 r.2 r.3 r.4 c.args.self.now r.5 r.6 in omega arith

pub overflow_sub-place : goal.overflow_sub-place
overflow_sub-place c =
    let r = c.requires in
    let s = subst (λ l. Stands (list_of (kept_with (kept_after [] r.2) r.3)) l (gate_edge r.3)) (sym c.index.ensures) (answer_is r.0 r.1 r.2 r.3 r.4 c.args.self.now r.5 r.6 c.index.result.now) in
    subst (λ n. 8193 ≤ n) (sym c.node.ensures.value) (gate_node (kept_with (kept_after [] r.2) r.3) c.index.result.now r.3 s)

pub overflow_add-self : goal.overflow_add-self
overflow_add-self c =
    let r = c.requires in
    let i = answer_index r.0 r.1 r.2 r.3 r.4 c.args.self.now r.5 r.6 in
    let n = c.len-count.ensures in let t = c.len-count.type_inv in
    omega arith

pub returns : goal.returns
returns c = λ p words more done g gs h made within stands.
    let v = c.node.ensures.value in
    let kept = c.in_ok-keep.ensures in
    found_on p words done g gs c.args.self.now h more c.args.node c.index.result.now (record { script = c.args.self.now.script; built = c.keep.new.nodes; call = c.args.self.now.call + 1 }) made within stands c.index.ensures refl refl
    (λ e. kept.next (ap (λ n. n - 8193) v ∙ e)) (λ ne. kept.other (λ e. ne (sym (ap (λ n. n - 8193) v) ∙ e)))
