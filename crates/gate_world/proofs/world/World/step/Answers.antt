use Rattle.std.proofs.Common.{sym, subst}
use Rattle.gate_world.specs.Shown.{Happens}
use Rattle.gate_world.proofs.world.World.step.Goals as goal

pub returns-in-Step-clause-happens : goal.returns-in-Step-clause-happens
returns-in-Step-clause-happens c = subst (λ e. Happens e c.args.self.now c.load.new.self) (sym c.in-Step.is) c.load.ensures.happens

pub returns-in-Turn-clause-happens : goal.returns-in-Turn-clause-happens
returns-in-Turn-clause-happens c = subst (λ e. Happens e c.args.self.now c.turn.new.self) (sym c.in-Turn.is) c.turn.ensures.happens

pub returns-in-Cancel-clause-happens : goal.returns-in-Cancel-clause-happens
returns-in-Cancel-clause-happens c = subst (λ e. Happens e c.args.self.now c.cancel.new.self) (sym c.in-Cancel.is) c.cancel.ensures.happens
