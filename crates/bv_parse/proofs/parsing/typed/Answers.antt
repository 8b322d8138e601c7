use Rattle.std.proofs.Common.{subst, sym, inr}
use Rattle.bv_parse.specs.Reads.{IsFaultOf, of_types}
use Rattle.bv_parse.proofs.parsing.typed.Goals as goal

pub returns-in-Err-Misfit : goal.returns-in-Err-Misfit
returns-in-Err-Misfit c =
    let (gs, o, w, few, pieces) = c.requires.goals in
    inr (subst (IsFaultOf c.args.bytes.now) (sym c.fault_at.ensures) (of_types o w (c.in-Err-Misfit.ensures.misfit c.in-Err-Misfit.misfit c.in-Err-Misfit.field-0-is gs pieces)))
