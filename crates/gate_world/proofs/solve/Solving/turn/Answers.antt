use Rattle.std.proofs.Common.{sym, ◌∙◌, refl}
use Rattle.gate_world.specs.Work.{Problem}
use Rattle.gate_world.specs.Coding.{problem_of}
use Rattle.gate_world.proofs.Searched.{has_ended, goes_on, ends}
use Rattle.gate_world.proofs.solve.Solving.turn.Goals as goal

pub reply_of-requires : goal.reply_of-requires
reply_of-requires c =
    let p : Problem = problem_of c.args.goal.now in
    let h = c.requires in
    record {
      cone = h.2.cone;
      ended = has_ended p h.0 c.args.self h.1 h.2 c.turn.new.self c.in_ok-end.ensures.steps c.in_ok-end.end c.in_ok-end.ensures.end c.in_default.not-More;
    }

pub returns-in-More : goal.returns-in-More
returns-in-More c =
    let p : Problem = problem_of c.args.goal.now in
    record {
      turned = λ budget m h.
          goes_on p budget c.args.self m h c.turn.new.self c.in_ok-end.ensures.steps (record { cone = c.args.self.cone; search = c.turn.new.self }) refl refl (sym c.in-More.is ∙ c.in_ok-end.ensures.end);
      backed = tt;
    }

pub returns : goal.returns
returns c =
    let p : Problem = problem_of c.args.goal.now in
    let e = c.reply_of.ensures in
    record {
      turned = λ budget m h.
          ends p budget c.args.self m h c.turn.new.self c.in_ok-end.ensures.steps c.in_ok-end.end c.reply_of.result c.in_ok-end.ensures.end c.in_default.not-More c.in_default-reply_of.not-Memory e.answer;
      backed = record { proved = e.proved; accepted = e.accepted; refuted = e.refuted };
    }
