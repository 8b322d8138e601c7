use Rattle.std.proofs.Common.{◌∙◌, subst, sym, inr}
use Rattle.bv_limits.specs.Files.{IsLeast, IsMetIn}
use Rattle.bv_parse.specs.Reads.{IsFaultOf, of_limits, terminals_of}
use Rattle.bv_parse.proofs.Few.{few}
use Rattle.bv_parse.proofs.parsing.whole.Goals as goal

pub returns-in-Some : goal.returns-in-Some
returns-in-Some c =
    let gs = c.requires.goals.0 in
    let o = c.requires.goals.1 in
    let ts = terminals_of c.args.bytes.now c.args.tokens.now in
    inr (subst (IsFaultOf c.args.bytes.now) (sym c.limit.ensures)
    (of_limits o (subst (IsLeast (IsMetIn c.args.tokens.now ts gs)) c.in-Some.is
    (c.in_ok-met.ensures ts gs c.requires.taken c.requires.all (c.deref.ensures.value ∙ c.in_ok-pieces.ensures ts gs o.goals c.requires.taken c.requires.all)))))

pub typed-requires-clause-goals : goal.typed-requires-clause-goals
typed-requires-clause-goals c =
    let gs = c.requires.goals.0 in
    let o = c.requires.goals.1 in
    let ts = terminals_of c.args.bytes.now c.args.tokens.now in
    let pieces = c.deref.ensures.value ∙ c.in_ok-pieces.ensures ts gs o.goals c.requires.taken c.requires.all in
    let within = subst (IsLeast (IsMetIn c.args.tokens.now ts gs)) c.in-None.is (c.in_ok-met.ensures ts gs c.requires.taken c.requires.all pieces) in
    (gs, o, within, few c.args.tokens.now ts c.args.taken.now gs o.goals c.requires.taken c.requires.all within, c.deref-in-None.ensures.value ∙ c.in_ok-pieces.ensures ts gs o.goals c.requires.taken c.requires.all)
