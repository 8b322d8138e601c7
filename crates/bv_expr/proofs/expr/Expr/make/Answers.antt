use Rattle.std.proofs.Common.{◌≡◌, Some, refl, ◌∙◌, sym}
use Rattle.bv_expr.specs.Sorts as spec
use Rattle.bv_expr.specs.Node.{term_of}
use Rattle.bv_expr.proofs.expr.Expr.make.Goals as goal

pub invariant_of-result : goal.invariant_of-result
invariant_of-result c =
    let sort_is : spec.sort_of (term_of c.args.node) ≡ Some c.in-Some.sort = sym c.measured-sort.ensures.sort ∙ c.in-Some.is in
    record {
      expr = record { sorted = rw sort_is; leaves = c.measured-sort.ensures.leaves; shallow = c.requires.shallow };
      sort_is = sort_is;
      depth_is = c.measured-sort.ensures.depth;
    }

pub returns-in-Some-clause-fits : goal.returns-in-Some-clause-fits
returns-in-Some-clause-fits c =
    let sort_is : spec.sort_of (term_of c.args.node) ≡ Some c.in-Some.sort = sym c.measured-sort.ensures.sort ∙ c.in-Some.is in
    (refl, record { sorted = rw sort_is; leaves = c.measured-sort.ensures.leaves; shallow = c.requires.shallow })
