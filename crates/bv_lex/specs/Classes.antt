-- The first bytes of pieces.
use Rattle.std.specs.Prelude.{◌≡◌, ℕ, Bool, ◌||◌, ◌==◌, List, Some, slice_get, if◌then◌else◌}
use Rattle.std.specs.Char.{is_ascii_digit}
use Rattle.bv_lex.specs.declared.classes.Class.{Class}
use Rattle.bv_lex.specs.declared.classes.Class.TheVariants.{Blank, Letter, Digit, Quote, Minus, Slash, Other}
use Rattle.bv_lex.specs.Letters.{is_blank}
use Rattle.bv_lex.specs.Encoded.{is_ascii_letter}

-- an ASCII letter, `_`, or the first byte of a Greek small letter
abbrev pub is_letter_byte : ℕ → Bool
is_letter_byte b = is_ascii_letter b || b == 0xCE || b == 0xCF

-- which pieces a byte may begin
abbrev pub class_of : ℕ → Class
class_of b =
    if is_blank b then Blank else (if is_letter_byte b then Letter else (if is_ascii_digit b then Digit
    else (if b == 34 then Quote else (if b == 45 then Minus else (if b == 47 then Slash else Other)))))

-- a byte of this class stands at i
pub record Begins (bs : List ℕ) (i : ℕ) (x : Class) : Type 0 where
  pub byte : ℕ
  pub here : slice_get bs i ≡ Some byte
  pub class : class_of byte ≡ x
