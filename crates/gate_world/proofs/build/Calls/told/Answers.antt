use Rattle.std.proofs.Common.{◌++◌, ◌∷◌, [], ⊎_elim, sym, refl, ap, ◌∙◌}
use Rattle.gate_probe.specs.Views.{learnt}
use Rattle.gate_probe.specs.Moves.{Probe, place_of, probe_after}
use Rattle.gate_probe.specs.declared.prober.Move.TheVariants.{Load, Claim, Found, Full}
use Rattle.gate_world.specs.declared.build.Work.{Work as CodeWork}
use Rattle.gate_world.specs.declared.build.Work.TheVariants as code
use Rattle.gate_world.specs.declared.build.Stage.TheVariants as stage
use Rattle.gate_world.proofs.Told.{found_made, found_here, reads, goes_by}
use Rattle.gate_world.proofs.build.Calls.told.Goals as goal

pub next-requires : goal.next-requires
next-requires c = c.requires.told.may

pub found-requires : goal.found-requires
found-requires c =
    let t = c.requires.told in
    (t.problem, t.words, t.done, t.gate, t.behind, t.search.calls, found_made t.problem t.words t.seen t.done t.gate t.behind c.args.self c.args.prober t.search c.args.word t.here c.in-Found.node (sym c.next.ensures.next_move ∙ c.in-Found.is))

pub begin-requires-clause-calls : goal.begin-requires-clause-calls
begin-requires-clause-calls c =
    let t = c.requires.told in
    let last = sym c.next.ensures.next_move ∙ c.in-Found.is in (
      t.problem,
      t.words,
      t.done ++ t.gate ∷ [],
      t.behind,
      t.search.few,
      c.in_ok-found-in-Found.ensures t.problem t.words t.words t.done t.gate t.behind t.search.calls
          (found_made t.problem t.words t.seen t.done t.gate t.behind c.args.self c.args.prober t.search c.args.word t.here c.in-Found.node last) (λ s z. refl)
          (found_here t.problem t.words t.seen t.done t.gate t.behind c.args.self c.args.prober t.search c.args.word t.here c.in-Found.node last),
    )

pub returns-in_ok-found-in-Found : goal.returns-in_ok-found-in-Found
returns-in_ok-found-in-Found c = λ p words seen done g gs size h here.
    let last = sym c.next.ensures.next_move ∙ c.in-Found.is in
    goes_by p words c.begin.result c.args.size (learnt seen (place_of c.args.prober) c.args.word) g gs (probe_after c.args.prober c.args.word) (probe_after c.args.prober c.args.word).last (Found c.in-Found.node) last
    (c.begin.ensures p words (learnt seen (place_of c.args.prober) c.args.word) (done ++ g ∷ []) gs
    (c.in_ok-found-in-Found.ensures p words words done g gs h.calls (found_made p words seen done g gs c.args.self c.args.prober h c.args.word here c.in-Found.node last) (λ s z. refl) (found_here p words seen done g gs c.args.self c.args.prober h c.args.word here c.in-Found.node last))
    (reads p words seen done g gs c.args.self c.args.prober h c.args.word here c.in-Found.node last))

pub returns-in-Load : goal.returns-in-Load
returns-in-Load c = λ p words seen done g gs size h here.
    let next = learnt seen (place_of c.args.prober) c.args.word in
    let q : Probe = probe_after c.args.prober c.args.word in
    let work : CodeWork = code.Building (record { calls = c.args.self; stage = stage.Probe c.next.new.self }) in
    let move = sym c.next.ensures.next_move in
    let is = ap stage.Probe c.next.ensures.search in
    ⊎_elim
    (λ y. goes_by p words work c.args.size next g gs q q.last (Load y.0) (move ∙ y.1) (done, h.calls, is))
    (λ y. goes_by p words work c.args.size next g gs q q.last (Claim y.0 y.1) (move ∙ y.2) (done, h.calls, is))
    c.in-Load.is

pub returns-in-Full : goal.returns-in-Full
returns-in-Full c = λ p words seen done g gs size h here.
    goes_by p words code.Full c.args.size (learnt seen (place_of c.args.prober) c.args.word) g gs (probe_after c.args.prober c.args.word) (probe_after c.args.prober c.args.word).last Full (sym c.next.ensures.next_move ∙ c.in-Full.is) refl
