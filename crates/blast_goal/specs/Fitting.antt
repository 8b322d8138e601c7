-- What the lists of an operator's parts are to be, and the list of one literal.
use Rattle.std.specs.Prelude.{◌≡◌, ℕ, List, [], ◌∷◌, Result, Ok, Err, MatchResult}
use Rattle.gate_shape.specs.Literal.{Literal}
use Rattle.gate_shape.specs.Builds.{IsMemory}
use Rattle.gate_shape.specs.declared.builder.GateStop.{GateStop}
use Rattle.bv_expr.specs.declared.ops.Binary.{Binary}
use Rattle.bv_expr.specs.declared.ops.Binary.TheVariants as on

-- two lists are of one length, but for operators on vectors of two widths and on truths
abbrev pub Suits : Binary → ℕ → ℕ → Type 0
Suits on.Append v w = Unit {0}
Suits on.Shl v w = Unit {0}
Suits on.Lshr v w = Unit {0}
Suits on.Ashr v w = Unit {0}
Suits on.TAnd v w = Unit {0}
Suits on.TOr v w = Unit {0}
Suits on.TXor v w = Unit {0}
Suits on.Implies v w = Unit {0}
Suits on.TEq v w = Unit {0}
Suits _ v w = v ≡ w

-- a literal that was answered stands alone in a list, or memory is wanted; a refusal is handed on
abbrev pub Wrapped : {T : Type 0} → (T → List Literal) → Result Literal GateStop → Result T GateStop → Type 0
Wrapped items (Ok l) r = MatchResult r (λ v. items v ≡ l ∷ []) IsMemory
Wrapped items (Err stop) r = r ≡ Err stop
