-- The tests of runs of bytes.
use Rattle.std.specs.Prelude.{ℕ, Bool, List, [], codes}
use Rattle.std.specs.Char.{is_digit}
use Rattle.bv_lex.specs.declared.runs.Run.{Run}
use Rattle.bv_lex.specs.declared.runs.Run.TheVariants.{Line, String, Decimal, Hexadecimal, Binary}
use Rattle.bv_lex.specs.Letters.{is_in_line, is_in_string}

-- whether a byte belongs to a run
abbrev pub belongs : Run → ℕ → Bool
belongs Line b = is_in_line b
belongs String b = is_in_string b
belongs Decimal b = is_digit b 10
belongs Hexadecimal b = is_digit b 16
belongs Binary b = is_digit b 2

-- what a numeral of these digits begins with, and their base
abbrev pub prefix_of : Run → List ℕ
prefix_of Hexadecimal = codes "0x"
prefix_of Binary = codes "0b"
prefix_of Decimal = []
prefix_of Line = []
prefix_of String = []

abbrev pub base_of : Run → ℕ
base_of Hexadecimal = 16
base_of Binary = 2
base_of Decimal = 10
base_of Line = 0
base_of String = 0
