use Rattle.std.proofs.Common.{◌≡◌, ℕ, ◌+◌, ◌-◌, arith, ◌∙◌}
use Rattle.bv_grammar.proofs.Counting.{with_tail, with_other}
use Rattle.bv_grammar.proofs.stack.Stack.pop.Goals as goal

one_less : (n m k : ℕ) → n ≡ m → m ≡ k + 1 → n - 1 ≡ k
one_less n m k e f = omega arith

pub overflow_sub-self : goal.overflow_sub-self
overflow_sub-self c = omega (arith, c.args.self.now.counted, with_tail _ _ _ _ _ c.in_ok-symbol.ensures.items c.in-Tail.is)

pub invariant_of-self-in-Tail : goal.invariant_of-self-in-Tail
invariant_of-self-in-Tail c = record { counted = one_less _ _ _ c.args.self.now.counted (with_tail _ _ _ _ _ c.in_ok-symbol.ensures.items c.in-Tail.is) }

pub invariant_of-self-in_default : goal.invariant_of-self-in_default
invariant_of-self-in_default c = record { counted = c.args.self.now.counted ∙ with_other _ _ _ c.in_ok-symbol.ensures.items c.in_default.not-Tail }
