use Rattle.std.proofs.Common.{◌≡◌, ◌∷◌, ◌∙◌, sym, ap, arith, length, reverse}
use Rattle.bv_terms.specs.Goals.{made}
use Rattle.bv_terms.proofs.Stating.{topmost_first, not_empty}
use Rattle.bv_terms.proofs.goals.parted.Goals as goal

pub unreachable-requires : goal.unreachable-requires
unreachable-requires c =
    let none : length c.in_ok-terms.terms.items ≡ 0 = grind arith in
    not_empty c.args.built c.in_ok-terms.terms.items c.requires.1 c.requires.0 c.in_ok-terms.ensures none c.requires.2

pub returns : goal.returns
returns c =
    topmost_first c.args.built c.in_ok-terms.terms.items c.pop.new.self.items c.in-Some.topmost c.in_ok-terms.ensures c.in-Some.ensures.items
    ∙ ap (λ v. made (c.in-Some.topmost ∷ reverse v)) (sym c.from_vec.ensures)
