use Rattle.bv_typing.specs.Goals.{statement}
use Rattle.bv_terms.proofs.Stating.{one_more}
use Rattle.bv_terms.proofs.goals.add_typed.Goals as goal

pub returns : goal.returns
returns c = λ g e. one_more c.args.goals.now.items c.push.new.self.items c.in_ok-goal.goal (statement c.args.file.now g) c.in_ok-push.ensures.items (c.in_ok-goal.ensures g e)
