use Rattle.std.proofs.Common.{◌+◌, arith, sym, ap, ◌∙◌}
use Rattle.bv_grammar.proofs.Counting.{terms_within, with_tail, with_other}
use Rattle.bv_grammar.proofs.stack.Stack.push.Goals as goal

pub overflow_add-self : goal.overflow_add-self
overflow_add-self c = let n = c.args.self.now.symbols.small in let m = c.args.self.now.symbols.ok in omega (arith, terms_within c.args.self.now.symbols.items, c.args.self.now.counted, c.args.self.now.symbols.small, c.args.self.now.symbols.ok)

pub invariant_of-self-in-Tail : goal.invariant_of-self-in-Tail
invariant_of-self-in-Tail c = record { counted = ap (λ k. k + 1) c.args.self.now.counted ∙ sym (with_tail _ _ _ _ _ c.in_ok-push.ensures.items c.in-Tail.is) }

pub invariant_of-self-in_default : goal.invariant_of-self-in_default
invariant_of-self-in_default c = record { counted = c.args.self.now.counted ∙ sym (with_other _ _ _ c.in_ok-push.ensures.items c.in_default.not-Tail) }
