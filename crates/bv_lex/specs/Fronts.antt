-- The piece that is cut off.
use Rattle.std.specs.Prelude.{◌≡◌, ℕ, ◌+◌, List, length, Option, Some, MatchOption, codes, slice_range}
use Rattle.std.specs.List.{Contains}
use Rattle.std.specs.Option.{ok_or}
use Rattle.bvd_text.specs.declared.numbers.NumberStop.TheVariants.{TooBig}
use Rattle.bvd_text.specs.Numbers.{reading, small}
use Rattle.bv_lex.specs.declared.token.TokenKind.{TokenKind}
use Rattle.bv_lex.specs.declared.token.TokenKind.TheVariants.{Numeral, Sign}
use Rattle.bv_lex.specs.Words.{Stands}
use Rattle.bv_lex.specs.Signs.{signs}
use Rattle.bv_lex.specs.Pieces.{Prefix, Piece, IsFront}
use Rattle.bv_lex.specs.Cut.{IsWithin}

-- the piece at i is cut off: it is the longest there, and no numeral of 2^128 or more
pub record IsCutOff (bs : List ℕ) (k : Option TokenKind) (i j : ℕ) : Type 0 where
  pub front : IsFront bs k i j
  pub within : MatchOption k (Unit {0}) IsWithin

-- a numeral is the longest piece at i
pub record IsNumeralAt (bs : List ℕ) (i j : ℕ) : Type 0 where
  pub value : ℕ
  pub front : IsFront bs (Some (Numeral value)) i j
  pub reads : reading (slice_range bs i j) ≡ ok_or (small value) TooBig

-- the piece is this sign
pub record IsSignAt (bs : List ℕ) (k : Option TokenKind) (i j : ℕ) : Type 0 where
  pub word : List ℕ
  pub listed : Contains signs word
  pub here : Stands bs i word
  pub kind : k ≡ Some Sign
  pub ends : j ≡ i + length word

-- only signs begin at i, and nothing that a shorter sign isn't taken for
pub record OnlySigns (bs : List ℕ) (i : ℕ) : Type 0 where
  pub pieces : (k : Option TokenKind) (j : ℕ) → Piece bs k i j → IsSignAt bs k i j
  pub no_comment : Stands bs i (codes "/-") → ⊥
  pub no_prefix : (w : List ℕ) (base : ℕ) → Prefix w base → Stands bs i w → ⊥
