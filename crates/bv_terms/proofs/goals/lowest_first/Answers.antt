use Rattle.bv_terms.specs.Goals.{made}
use Rattle.bv_terms.proofs.Stating.{topmost_made, more_made}
use Rattle.bv_terms.proofs.goals.lowest_first.Goals as goal

pub push_term-requires : goal.push_term-requires
push_term-requires c =
    let top = topmost_made c.items.built c.pop.new.self c.in-Some.entry c.items.invariant.others.0 c.in-Some.ensures c.items.invariant.others.1 in
    (top.0, top.2)

pub items-preserved : goal.items-preserved
items-preserved c =
    let top = topmost_made c.items.built c.pop.new.self c.in-Some.entry c.items.invariant.others.0 c.in-Some.ensures c.items.invariant.others.1 in
    record {
      so_far = more_made c.args.built (made c.items.terms.items) (made c.push_term.new.terms.items) c.pop.new.self c.items.built c.in-Some.entry c.items.invariant.so_far top.4 c.in_ok-push_term.ensures;
      others = (top.1, top.3);
    }
