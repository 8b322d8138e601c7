-- What holds of every cut.
use Rattle.std.specs.Prelude.{◌≡◌, ℕ, List, Option}
use Rattle.bv_lex.specs.declared.token.Token.{Token}
use Rattle.bv_lex.specs.declared.fault.Fault.{Fault}
use Rattle.bv_lex.specs.Cut.{Cut}

-- Bytes have one cut: its tokens, and its fault or none.
abbrev pub OneCut : List ℕ → Type 0
OneCut bytes = (ts us : List Token) (f g : Option Fault) → Cut bytes 0 ts f → Cut bytes 0 us g → (ts ≡ us) × (f ≡ g)
