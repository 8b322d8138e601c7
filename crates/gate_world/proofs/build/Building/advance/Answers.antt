use Rattle.std.proofs.Common.{◌≡◌, sym, subst}
use Rattle.gate_world.specs.Work.{Work}
use Rattle.gate_world.specs.World.{moved}
use Rattle.gate_world.specs.Coding.{IsInHand, IsMovedTo, BuildingMoves}
use Rattle.gate_world.specs.declared.build.Building.{Building}
use Rattle.gate_world.specs.declared.build.Stage.TheVariants as stage
use Rattle.gate_world.proofs.Begun.{if_ok}
use Rattle.gate_world.proofs.InHand.{probe_in_hand}
use Rattle.gate_world.proofs.build.Building.advance.Goals as goal

pub search-requires : goal.search-requires
search-requires c =
    let r = c.requires in
    let s : c.args.self ≡ record { calls = c.args.self.calls; stage = stage.Probe c.in-Probe.prober } = λ i. record { calls = c.args.self.calls; stage = c.in-Probe.is i } in
    let k = probe_in_hand r.0 r.1 c.args.words.now c.args.self.calls c.in-Probe.prober (subst (λ (b : Building). IsInHand r.0 r.1 c.args.words.now b) s r.2) in
    (r.0.problem, r.0.seen, k.done, k.gate, k.ahead, k.search)

pub returns-in-Probe-clause-ok : goal.returns-in-Probe-clause-ok
returns-in-Probe-clause-ok c =
    let s : c.args.self ≡ record { calls = c.args.self.calls; stage = stage.Probe c.in-Probe.prober } = λ i. record { calls = c.args.self.calls; stage = c.in-Probe.is i } in
    if_ok c.search.result _ (BuildingMoves c.args.words.now c.args.self c.search.new.words)
    (λ work f a w h.
    let k = probe_in_hand a w c.args.words.now c.args.self.calls c.in-Probe.prober (subst (λ (b : Building). IsInHand a w c.args.words.now b) s h) in
    subst (λ (v : Work). IsMovedTo (moved c.args.words.now a v) c.search.new.words work) (sym k.is) (f a k.done k.gate k.ahead k.search))
    c.search.ensures.ok
