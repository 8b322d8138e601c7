-- What is written where the words of the command line are refused.
use Rattle.std.specs.Prelude.{ℕ, List, codes}

abbrev pub usage : List ℕ
usage = codes "usage: bvd COMMAND [OPTIONS] FILE..\n"
