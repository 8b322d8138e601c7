use Rattle.std.proofs.Common.{◌≡◌, ◌∙◌, drop}
use Rattle.std.specs.Vec.Iter.{into_iter_items}
use Rattle.bvd.proofs.Drained.{drained, behind_next, if_ok}
use Rattle.bvd.proofs.command_line.behind_name.Goals as goal

pub returns : goal.returns
returns c = if_ok c.collect.result _ (λ words. words.items ≡ drop 1 (into_iter_items c.args.args))
    (λ words p. let end = p.1.2 tt in p.2.0 ∙ drained c.next-name.new.self p.0 p.1.0 end.0 p.1.1 end.1 ∙ behind_next c.args.args c.next-name.new.self c.next-name.result c.next-name.ensures.cases)
    c.collect.ensures.ran
