use Rattle.std.proofs.Common.{◌≡◌, ◌-◌, ◌+◌, ◌∙◌, sym, ap, length, take, refl, arith, Some, Ok, Err, Result}
use Rattle.std.specs.List.{slice_get}
use Rattle.std.specs.Vec.{vec_len}
use Rattle.std.specs.Prelude.{IfOk}
use Rattle.cone_walk.proofs.Steps.{top_waits, top_done, walk_ends, nothing_open}
use Rattle.cone_walk.proofs.Asking.{met_then, met_input, top_waits_met, top_done_met}
use Rattle.cone_walk.proofs.walk.Walk.advance.Goals as goal

pub returns-in-Some-2-clause-follows : goal.returns-in-Some-2-clause-follows
returns-in-Some-2-clause-follows c = λ m w.
    let t : slice_get c.loop-frame.self.path.items (length c.loop-frame.self.path.items - 1) ≡ Some c.in-Some.frame.now = rw c.deref.ensures.value at (sym c.in-Some.ensures.value) in
    let s = c.loop-frame.invariant.steps m w in
    let r = top_waits m c.args.self.now.root c.loop-frame.self.numbering c.close.new.self c.loop-frame.self.path.items c.in-Some.frame.now c.in-Some-2.fanin t s.0 (λ before v. rw c.in-Some-2.is at (c.in_ok-fanin.ensures.closes m c.args.self.now.root before v)) in
    (r.0, r.1, ap (λ n. n + length c.loop-frame.self.path.items) r.2 ∙ s.1)

pub returns-in-Some-2-clause-met : goal.returns-in-Some-2-clause-met
returns-in-Some-2-clause-met c =
    let t : slice_get c.loop-frame.self.path.items (length c.loop-frame.self.path.items - 1) ≡ Some c.in-Some.frame.now = rw c.deref.ensures.value at (sym c.in-Some.ensures.value) in
    met_then c.loop-frame.invariant.met (top_waits_met c.loop-frame.self.numbering c.close.new.self c.loop-frame.self.path.items c.in-Some.frame.now t (λ before. rw c.in-Some-2.is at (c.in_ok-fanin.ensures.moves before)))

pub loop-frame-preserved : goal.loop-frame-preserved
loop-frame-preserved c = record {
  root = c.loop-frame.invariant.root;
  stage = c.loop-frame.invariant.stage;
  steps = λ m w.
      let t : slice_get c.loop-frame.self.path.items (length c.loop-frame.self.path.items - 1) ≡ Some c.in-Some.frame.now = rw c.deref.ensures.value at (sym c.in-Some.ensures.value) in
      let s = c.loop-frame.invariant.steps m w in
      let r = top_done m c.args.self.now.root c.loop-frame.self.numbering c.close.new.self c.loop-frame.self.path.items c.in-Some.frame.now t s.0 (λ before v. rw c.in_default-2.is at (c.in_ok-fanin.ensures.closes m c.args.self.now.root before v)) in
      let v = c.loop-frame.self.path.ok.0 in
      let n : vec_len c.loop-frame.self.path ≡ length c.loop-frame.self.path.items = omega arith in
      let e : c.pop.new.self.items ≡ take (length c.loop-frame.self.path.items - 1) c.loop-frame.self.path.items = c.pop.ensures.rest ∙ ap (λ n. take (n - 1) c.loop-frame.self.path.items) n in
      rw e (r.0, r.1 ∙ s.1);
  met =
      let t : slice_get c.loop-frame.self.path.items (length c.loop-frame.self.path.items - 1) ≡ Some c.in-Some.frame.now = rw c.deref.ensures.value at (sym c.in-Some.ensures.value) in
      let v = c.loop-frame.self.path.ok.0 in
      let n : vec_len c.loop-frame.self.path ≡ length c.loop-frame.self.path.items = omega arith in
      let e : c.pop.new.self.items ≡ take (length c.loop-frame.self.path.items - 1) c.loop-frame.self.path.items = c.pop.ensures.rest ∙ ap (λ n. take (n - 1) c.loop-frame.self.path.items) n in
      rw e (met_then c.loop-frame.invariant.met (top_done_met c.loop-frame.self.numbering c.close.new.self c.loop-frame.self.path.items c.in-Some.frame.now t (λ before. rw c.in_default-2.is at (c.in_ok-fanin.ensures.moves before))));
}

-- what is left of a walk without open gates
by_result : {T E : Type 0} {P : T → Type 0} (r : Result T E) → ((x : T) → r ≡ Ok x → P x) → IfOk r P
by_result (Ok x) f = f x refl
by_result (Err e) f = tt

pub returns-clause-follows : goal.returns-clause-follows
returns-clause-follows c = by_result c.reach.result (λ r h m w.
    let s = c.loop-frame.invariant.steps m w in
    let p = nothing_open c.loop-frame.self.path.items (rw c.deref.ensures.value at (sym c.in_default.ensures.value)) in
    let o = c.loop-frame.invariant.root in
    walk_ends m c.args.self.now.root c.loop-frame.self.numbering c.reach.new.self c.loop-frame.self.path.items _ r p s.0 s.1 (rw (o, h) at c.reach.ensures.inputs) (rw (o, h) at c.reach.ensures.wanted))

pub returns-clause-met : goal.returns-clause-met
returns-clause-met c = by_result c.reach.result (λ r h.
    met_then c.loop-frame.invariant.met (met_input c.loop-frame.self.numbering c.reach.new.self c.loop-frame.self.path.items c.loop-frame.self.root.node (rw h at c.reach.ensures.inputs)))
