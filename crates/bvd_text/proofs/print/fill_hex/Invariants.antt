use Rattle.std.proofs.Common.{◌≡◌, ◌++◌, drop, length}
use Rattle.bvd_text.specs.Hexadecimal.{hex_digits}
use Rattle.bvd_text.proofs.print.fill_hex.Given as goal

abbrev pub invariant-digits : goal.invariant-digits
invariant-digits l = hex_digits l.place l.rest ++ drop l.place l.text ≡ hex_digits (length l.initial.text) l.n
