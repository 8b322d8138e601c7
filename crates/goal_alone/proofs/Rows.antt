-- The values that are read off cones, on examples.
use Rattle.std.proofs.Common.{◌≡◌, true, false, [], ◌∷◌, nat_eq, nat_lt, refl}
use Rattle.bv_expr.specs.declared.ops.Sort.TheVariants as sort
use Rattle.bv_expr.specs.declared.ops.Val.TheVariants.{Truth, Vector}
use Rattle.bv_expr.specs.Goal.{Binders}
use Rattle.cone_walk.specs.declared.node.ConeNode.TheVariants.{Input}
use Rattle.blast_goal.specs.Values.{value_with, values_of}
use Rattle.goal_alone.specs.Satisfying.{node_bits}

-- a vector of 8 bits, the two lowest of which are true
low_bits : value_with (sort.Vector 8) (λ j. nat_lt j 2) ≡ Vector (record { width = 8; number = 3 })
low_bits = refl

-- the names a and b, and two truths
a_and_b : Binders
a_and_b = ((97 ∷ []), sort.Truth) ∷ ((98 ∷ []), sort.Truth) ∷ []

-- variable 3 of the clauses is true alone: it is the input of b
b_alone : values_of a_and_b (node_bits (Input 0 0 ∷ Input 1 0 ∷ []) (λ v. nat_eq v 3)) ≡ Truth false ∷ Truth true ∷ []
unfolding a_and_b
b_alone = refl

-- where the cone has b alone, a is false whatever the variables are
outside : values_of a_and_b (node_bits (Input 1 0 ∷ []) (λ v. true)) ≡ Truth false ∷ Truth true ∷ []
unfolding a_and_b
outside = refl
