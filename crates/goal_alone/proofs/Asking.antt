-- A walk over a list of gates asks for fewer and fewer of its places.
use Rattle.std.proofs.Common.{◌≡◌, ℕ, ◌+◌, ◌-◌, ◌<◌, ◌≤◌, Bool, true, false, nat_eq, nat_lt, length, refl, sym, ap, ◌∙◌, subst, arith, IsTrue, None}
use Rattle.std.specs.Prelude.{◌||◌, if◌then◌else◌}
use Rattle.std.proofs.lemmas.Bool.Decides.{nat_tests}
use Rattle.gate_shape.specs.Literal.{Literal}
use Rattle.gate_shape.specs.Builds.{Meaning}
use Rattle.gate_shape.specs.Listed.{Listed, listed}
use Rattle.cone_walk.specs.declared.walk.Walk.{Walk}
use Rattle.cone_walk.specs.declared.walk.Stage.{Stage}
use Rattle.cone_walk.specs.Walk.{AsksFor, IsBegun, IsReply, Replies, was_asked}
use Rattle.goal_alone.specs.Unasked.{unasked}
use Rattle.goal_alone.proofs.Counting.{one_less}

-- nothing is handed in at first
pub replies_none : (m : Meaning) (root : Literal) (w : Walk) → IsBegun root w → Replies m w None
replies_none m root w begun = let P : Stage → Type 0 = λ s. IsReply m s None in subst P (sym begun.stage) tt

shifted_by : (k s n : ℕ) → n ≡ 8193 + s → (b : Bool) → nat_eq k s ≡ b → nat_eq (8193 + k) n ≡ b
shifted_by k s n e true f = grind (arith, nat_tests)
shifted_by k s n e false f = grind (arith, nat_tests)

shifted : (k s n : ℕ) → n ≡ 8193 + s → nat_eq (8193 + k) n ≡ nat_eq k s
shifted k s n e = shifted_by k s n e (nat_eq k s) refl

within : (len n : ℕ) → 8193 ≤ n → IsTrue (if nat_lt n 8193 then true else nat_lt (n - 8193) len) → n - 8193 < len
within len n l h = grind (arith, nat_tests)

pub asks_fewer : (gates : Listed) (old new : Walk) (n : ℕ) → AsksFor (listed gates) old new n
    → unasked (λ s. was_asked new (8193 + s)) (length (listed gates).trace) < unasked (λ s. was_asked old (8193 + s)) (length (listed gates).trace)
asks_fewer gates old new n a =
    let s : ℕ = n - 8193 in
    let is : n ≡ 8193 + s = omega (arith, a.is_gate) in
    let inside : s < length (listed gates).trace = within (length (listed gates).trace) n a.is_gate a.known.holds in
    let less = one_less (λ s. was_asked old (8193 + s)) (λ s. was_asked new (8193 + s)) (length (listed gates).trace) s inside
    (ap (was_asked old) (sym is) ∙ a.first_time)
    (λ k l. a.asked (8193 + k) (omega arith) ∙ ap (λ b. was_asked old (8193 + k) || b) (shifted k s n is)) in
    omega (arith, less)
