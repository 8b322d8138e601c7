-- What files state that were read.
use Rattle.std.specs.Prelude.{◌≡◌, List, [], ◌∷◌, ⊤}
use Rattle.bvd_top.specs.declared.reading.FileRead.{FileRead}
use Rattle.bvd_top.specs.declared.reading.FileRead.TheVariants.{Absent, TooLong, Bytes}
use Rattle.bvd_top.specs.declared.reading.Read.{Read}
use Rattle.bvd_top.specs.declared.parsing.File.{File}
use Rattle.bvd_top.specs.declared.parsing.Stated.{Stated as CodeStated}
use Rattle.bvd_top.specs.declared.parsing.Stated.TheVariants as code
use Rattle.bv_lex.specs.Cut.{IsMemory}
use Rattle.bvd_top.specs.Stated.{Stated, IsStatedBy}
use Rattle.bvd_top.specs.Stated as spec
use Rattle.bvd_top.specs.Shown.{stated_shown}

-- what a file states of which this was read
abbrev pub IsParsed : FileRead → Stated → Type 0
IsParsed Absent s = s ≡ spec.Stated.Absent
IsParsed TooLong s = s ≡ spec.Stated.TooLong
IsParsed (Bytes v) s = IsStatedBy v.items s

-- the same of files, in order
abbrev pub AreParsed : List Read → List File → Type 0
AreParsed [] [] = ⊤
AreParsed [] (file ∷ rest) = ⊥
AreParsed (read ∷ reads) [] = ⊥
AreParsed (read ∷ reads) (file ∷ rest) = (file.path.now ≡ read.path.now) × IsParsed read.content (stated_shown file.stated) × AreParsed reads rest

-- a fault is one of the file, and not want of memory
abbrev pub IsOfFile : CodeStated → Type 0
IsOfFile code.Absent = ⊤
IsOfFile code.TooLong = ⊤
IsOfFile (code.Faulty fault) = ¬ (IsMemory fault.kind)
IsOfFile (code.Goals goals) = ⊤
