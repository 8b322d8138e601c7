use Rattle.std.proofs.Common.{◌≡◌, ◌&&◌, Bool, true, nat_lt, length, refl, arith}
use Rattle.std.proofs.lemmas.Grind.{common_steps}
use Rattle.cone_walk.proofs.Steps.{cone_at_end}
use Rattle.cone_walk.proofs.walk.Walk.finish.Goals as goal

three : {a b c : Bool} → a ≡ true → b ≡ true → c ≡ true → a && (b && c) ≡ true
three p q r = rw (p, q, r) refl

pub invariant_of-result : goal.invariant_of-result
invariant_of-result c =
    let few : nat_lt (length c.args.self.numbering.nodes) 4194304 ≡ true = let l = c.into_nodes.ensures.few in grind (arith, common_steps) in
    record { in_order = rw c.into_nodes.ensures.value (three few c.into_nodes.ensures.placed c.literal-root.ensures.before) }

pub returns-clause-nodes : goal.returns-clause-nodes
returns-clause-nodes c = λ m w.
    let x = rw (c.requires.at_end.0, c.requires.stage) at w in
    rw c.into_nodes.ensures.value (cone_at_end m c.args.self.root c.args.self.numbering x c.requires.at_end.1).0

pub returns-clause-root : goal.returns-clause-root
returns-clause-root c = λ m w.
    let x = rw (c.requires.at_end.0, c.requires.stage) at w in
    rw c.literal-root.ensures.value (cone_at_end m c.args.self.root c.args.self.numbering x c.requires.at_end.1).1

pub returns-clause-gates : goal.returns-clause-gates
returns-clause-gates c = λ m w. rw c.into_nodes.ensures.value (rw (c.requires.at_end.0, c.requires.stage) (omega arith))
