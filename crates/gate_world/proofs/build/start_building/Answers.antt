use Rattle.std.proofs.Common.{[], refl, arith}
use Rattle.gate_world.specs.Work.{Problem, script_of}
use Rattle.gate_world.specs.Coding.{problem_of}
use Rattle.gate_world.specs.declared.build.Calls.{Calls}
use Rattle.gate_world.proofs.Begun.{none_made, nothing_read}
use Rattle.gate_world.proofs.Scripted.{scripted_by}
use Rattle.gate_world.proofs.Going.{started_at_work}
use Rattle.gate_world.proofs.build.start_building.Goals as goal

pub begin-requires-clause-calls : goal.begin-requires-clause-calls
begin-requires-clause-calls c =
    let p : Problem = problem_of c.args.goal.now in
    let s = c.in_ok-script.ensures in
    let calls : Calls = record { script = c.in_ok-script.field-0; built = c.new.result; call = 0 } in
    (p, [], [], script_of p, omega arith, none_made p [] calls s.calls s.answers s.end s.count s.root refl c.new.ensures.items)

pub returns-clause-scripted : goal.returns-clause-scripted
returns-clause-scripted c =
    let s = c.in_ok-script.ensures in
    scripted_by (problem_of c.args.goal.now) c.in_ok-script.field-0.calls.items c.in_ok-script.field-0.answers.items c.in_ok-script.field-0.end s.calls s.end s.count

pub returns-clause-begun : goal.returns-clause-begun
returns-clause-begun c = λ words long sound.
    let p : Problem = problem_of c.args.goal.now in
    let s = c.in_ok-script.ensures in
    let calls : Calls = record { script = c.in_ok-script.field-0; built = c.new.result; call = 0 } in
    let scripted = scripted_by p c.in_ok-script.field-0.calls.items c.in_ok-script.field-0.answers.items c.in_ok-script.field-0.end s.calls s.end s.count in
    c.begin.ensures p words [] [] (script_of p) (none_made p words calls s.calls s.answers s.end s.count s.root refl c.new.ensures.items)
    (nothing_read p words c.args.size long c.requires.size.0 c.requires.size.1 sound scripted)

pub returns-clause-goes_on : goal.returns-clause-goes_on
returns-clause-goes_on c = λ words long sound.
    started_at_work (problem_of c.args.goal.now) c.args.size words c.begin.result long c.requires.size.0 c.requires.size.1 sound (returns-clause-scripted c) (returns-clause-begun c words long sound)
