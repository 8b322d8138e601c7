use Rattle.std.proofs.Common.{codes}
use Rattle.bv_print.specs.Values.{Begins}
use Rattle.bv_print.proofs.Fronts.{appended, through, where_err}
use Rattle.bv_print.proofs.values.push_further.Goals as goal

pub returns-in_err-push_assignment-clause-err : goal.returns-in_err-push_assignment-clause-err
returns-in_err-push_assignment-clause-err c =
    let old = c.args.out.now.items in
    let before = c.variables.out.items in
    let separated = c.extend_from_slice.new.self.items in
    let new = c.push_assignment.new.out.items in
    let separator : Begins before separated = appended before (codes ", ") separated c.in_ok-extend_from_slice.ensures.items in
    let assignment : Begins separated new = c.in_err-push_assignment.ensures.err in
    where_err c.from_residual-in_err-push_assignment.result (Begins old new) (through old separated new (through old before separated c.variables.invariant.begins separator) assignment)
