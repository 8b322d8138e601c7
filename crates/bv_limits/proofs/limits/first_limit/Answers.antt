use Rattle.std.proofs.Common.{subst, sym}
use Rattle.bv_limits.specs.Files.{IsLeast}
use Rattle.bv_limits.specs.Limits.{IsCountedLimit}
use Rattle.bv_trees.specs.Complete.{Holds}
use Rattle.bv_limits.specs.Deep.{terms_of}
use Rattle.bv_limits.proofs.Sooner.{met_least}
use Rattle.bv_limits.proofs.limits.first_limit.Goals as goal

pub returns : goal.returns
returns c = λ ts gs a e p. met_least c.args.tokens.now ts gs c.first_counted_limit-counted.result _ _ _
    (subst (λ n. IsLeast (IsCountedLimit c.args.tokens.now ts n) c.first_counted_limit-counted.result) e (c.first_counted_limit-counted.ensures ts a))
    (c.in_ok-first_deep_term.ensures (terms_of gs) (subst (λ ps. Holds ps (terms_of gs)) (sym p) (c.pieces_hold_terms.ensures gs)))
    c.depth-deep.ensures c.sooner.ensures
