use Rattle.std.proofs.Common.{◌∙◌, sym, ap, option_map}
use Rattle.gate_shape.specs.Builds.{edge, OneEach}
use Rattle.blast_goal.specs.Recorded.{recorded}
use Rattle.blast_goal.proofs.Scripting.{recorded_once, simple_call}
use Rattle.blast_goal.proofs.recorder.RecorderBuilder.and.Goals as goal

pub call-requires-clause-one : goal.call-requires-clause-one
call-requires-clause-one c =
    let i = c.self.inside in
    let m = recorded c.args.self.now in
    let once : OneEach m = rw (sym c.self.view_is) (recorded_once record { list = i.list; calls = i.calls.items; answers = i.answers.items; refused = i.refused } c.self.invariant.once) in
    c.simple.ensures.edges m once c.requires.left c.requires.right ∙ ap (option_map (edge m)) c.in-None.is

pub returns-in-Some-clause-built : goal.returns-in-Some-clause-built
returns-in-Some-clause-built c =
    let i = c.self.inside in
    let m = recorded c.args.self.now in
    let once : OneEach m = rw (sym c.self.view_is) (recorded_once record { list = i.list; calls = i.calls.items; answers = i.answers.items; refused = i.refused } c.self.invariant.once) in
    let e = sym c.simple.ensures.literals ∙ c.in-Some.is in
    let q = c.simple.ensures.edges m once c.requires.left c.requires.right ∙ ap (option_map (edge m)) c.in-Some.is in
    simple_call m c.args.a c.args.b c.in-Some.answer c.requires.left c.requires.right e q

pub returns-in-Some-clause-once : goal.returns-in-Some-clause-once
returns-in-Some-clause-once c =
    let i = c.self.inside in
    rw (sym c.self.view_is) (recorded_once record { list = i.list; calls = i.calls.items; answers = i.answers.items; refused = i.refused } c.self.invariant.once)
