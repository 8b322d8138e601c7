-- What the edges of truths mean.
use Rattle.std.proofs.Common.{◌≡◌, ℕ, Bool, true, false, not, ◌&&◌, ◌||◌, refl, ◌∙◌, ap, Result}
use Rattle.std.specs.Prelude.{IfOk}
use Rattle.gate_shape.specs.Literal.{Literal}
use Rattle.gate_shape.specs.Edge.{Edge, constant, input, invert, value}
use Rattle.gate_shape.specs.Row.{Row, ◌>>=◌, both, differ}
use Rattle.gate_shape.specs.Builds.{Meaning, Noting, edge, Stands, Builds}
use Rattle.gate_shape.specs.declared.builder.GateStop.{GateStop}
use Rattle.gate_shape.proofs.Building.{answers_with, stands_true, stands_false}
use Rattle.gate_shape.proofs.Values.{value-invert, both-value, differ-value, xor}
use Rattle.bv_value.specs.Bits.{differ as differ_bits}
use Rattle.blast_logic.specs.Truths.{equivalence, implication}

-- what an answer means where the row's answer means it
pub meant : {n : Noting} {a b : Meaning} {r : Result Literal GateStop} {row : Row Edge} (f : (ℕ → ℕ → Bool) → Bool) → Builds n Stands a b r row → ((bits : ℕ → ℕ → Bool) → value bits row.answer ≡ f bits) → IfOk r (λ l. (bits : ℕ → ℕ → Bool) → value bits (edge b l) ≡ f bits)
meant {b} f p h = answers_with (λ l. (bits : ℕ → ℕ → Bool) → value bits (edge b l) ≡ f bits) p (λ l s bits. ap (value bits) s.stands_for ∙ h bits)

xor-differ : (x y : Bool) → xor x y ≡ differ_bits x y
xor-differ true y = refl
xor-differ false y = refl

pub constant-value : (bits : ℕ → ℕ → Bool) (s : Bool) → value bits (constant s) ≡ s
unfolding value
constant-value bits true = refl
constant-value bits false = refl

pub input-value : (bits : ℕ → ℕ → Bool) (k j : ℕ) → value bits (input false k j) ≡ bits k j
unfolding value
input-value bits k j = refl

pub differ_bits-value : (bits : ℕ → ℕ → Bool) (a b : Edge) → value bits (differ a b).answer ≡ differ_bits (value bits a) (value bits b)
differ_bits-value bits a b = differ-value bits a b ∙ xor-differ (value bits a) (value bits b)

pub equivalence-value : (bits : ℕ → ℕ → Bool) (a b : Edge) → value bits (equivalence a b).answer ≡ not (differ_bits (value bits a) (value bits b))
unfolding equivalence ◌>>=◌
equivalence-value bits a b = value-invert bits (differ a b).answer ∙ ap not (differ_bits-value bits a b)

pub implication-value : (bits : ℕ → ℕ → Bool) (a b : Edge) → value bits (implication a b).answer ≡ not (value bits a) || value bits b
unfolding implication ◌>>=◌
implication-value bits a b = rw (value-invert bits (both a (invert b)).answer, both-value bits a (invert b), value-invert bits b) (go (value bits a) (value bits b))
  where
    go : (x y : Bool) → not (x && not y) ≡ not x || y
    go true true = refl
    go true false = refl
    go false y = refl

pub stands_constant : {m : Meaning} {l : Literal} (s : Bool) → l ≡ record { node = 0; sign = s } → Stands m l (constant s)
stands_constant true e = stands_true e
stands_constant false e = stands_false e
