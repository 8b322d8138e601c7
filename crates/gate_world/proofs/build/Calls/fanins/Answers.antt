use Rattle.std.proofs.Common.{[], sym, subst, arith}
use Rattle.gate_probe.specs.Standing.{StandsIn}
use Rattle.blast_goal.specs.Script.{kept_after, IsCall}
use Rattle.gate_world.proofs.Coded.{call_index, call_is}
use Rattle.gate_world.proofs.build.Calls.fanins.Goals as goal

pub index-requires : goal.index-requires
index-requires c = let r = c.requires in let l = call_index r.0 r.1 r.2 r.3 r.4 c.args.self.now r.6 in omega arith

pub literal-requires : goal.literal-requires
literal-requires c =
    let r = c.requires in
    let is = subst (IsCall (kept_after [] r.2) r.3) (sym c.index.ensures) (call_is r.0 r.1 r.2 r.3 r.4 c.args.self.now r.6 c.index.result.now) in
    (r.1, kept_after [] r.2, r.5, r.6.built, is.left.known)

pub literal-requires-2 : goal.literal-requires-2
literal-requires-2 c =
    let r = c.requires in
    let is = subst (IsCall (kept_after [] r.2) r.3) (sym c.index.ensures) (call_is r.0 r.1 r.2 r.3 r.4 c.args.self.now r.6 c.index.result.now) in
    (r.1, kept_after [] r.2, r.5, r.6.built, is.right.known)

pub returns-clause-left : goal.returns-clause-left
returns-clause-left c = λ p words done g gs h.
    let is = subst (IsCall (kept_after [] done) g) (sym c.index.ensures) (call_is p words done g gs c.args.self.now h c.index.result.now) in
    subst (StandsIn words c.literal.result) is.left.stands_for (c.literal.ensures words (kept_after [] done) h.built is.left.known)

pub returns-clause-right : goal.returns-clause-right
returns-clause-right c = λ p words done g gs h.
    let is = subst (IsCall (kept_after [] done) g) (sym c.index.ensures) (call_is p words done g gs c.args.self.now h c.index.result.now) in
    subst (StandsIn words c.literal-2.result) is.right.stands_for (c.literal-2.ensures words (kept_after [] done) h.built is.right.known)
