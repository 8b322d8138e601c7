-- What the code's values stand for.
use Rattle.std.specs.Prelude.{List, map}
use Rattle.bv_expr.specs.Statement.{statement_of}
use Rattle.bvd_top.specs.declared.parsing.Stated.{Stated}
use Rattle.bvd_top.specs.declared.parsing.Stated.TheVariants.{Absent, TooLong, Faulty, Goals}
use Rattle.bvd_top.specs.declared.parsing.File.{File}
use Rattle.bvd_top.specs.Stated as spec

abbrev pub stated_shown : Stated → spec.Stated
stated_shown Absent = spec.Stated.Absent
stated_shown TooLong = spec.Stated.TooLong
stated_shown (Faulty fault) = spec.Stated.Faulty fault
stated_shown (Goals goals) = spec.Stated.Goals (map statement_of goals.items)

abbrev pub file_shown : File → spec.File
file_shown file = record { path = file.path.now; stated = stated_shown file.stated }

abbrev pub files_shown : List File → List spec.File
files_shown files = map file_shown files
