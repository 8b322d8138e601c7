-- What files state that were read.
use Rattle.std.proofs.Common.{◌≡◌, ℕ, ◌+◌, ◌<◌, List, [], ◌∷◌, ◌++◌, length, refl, sym, ◌∙◌, subst, arith, Some, None, inl, inr}
use Rattle.std.specs.Prelude.{Option, replicate, All}
use Rattle.std.proofs.lemmas.List.{length-replicate}
use Rattle.std.proofs.lemmas.List.Elements.{All-nil, All-cons}
use Rattle.bvd_host.specs.Files.{Files}
use Rattle.bvd_top.specs.declared.reading.FileRead.{FileRead}
use Rattle.bvd_top.specs.declared.reading.FileRead.TheVariants.{Absent, TooLong, Bytes}
use Rattle.bvd_top.specs.declared.reading.Read.{Read}
use Rattle.bvd_top.specs.declared.parsing.File.{File}
use Rattle.bvd_top.specs.Reading.{IsRead, AreRead}
use Rattle.bvd_top.specs.Stated.{Stated, IsStatedBy, IsStatedIn, IsStated, AreStated, IsSmall}
use Rattle.bvd_top.specs.Stated as spec
use Rattle.bvd_top.specs.Shown.{stated_shown, files_shown}
use Rattle.bvd_top.specs.Parsed.{IsParsed, AreParsed}

-- a file more is parsed
pub parsed_more : (reads : List Read) (files : List File) (read : Read) (file : File) → AreParsed reads files → file.path.now ≡ read.path.now → IsParsed read.content (stated_shown file.stated)
    → AreParsed (reads ++ read ∷ []) (files ++ file ∷ [])
parsed_more [] [] read file are path is = (path, is, tt)
parsed_more [] (f ∷ files) read file are path is = absurd are
parsed_more (r ∷ reads) [] read file are path is = absurd are
parsed_more (r ∷ reads) (f ∷ files) read file are path is = (are.0, are.1, parsed_more reads files read file are.2 path is)

-- there are longer texts
long_bytes : (n : ℕ) → (bytes : List ℕ) × (n < length bytes)
long_bytes n =
    let bytes : List ℕ = replicate (n + 1) 0 in
    let long : length bytes ≡ n + 1 = length-replicate (n + 1) 0 in
    (bytes, omega (arith, long))

file_stated : (files : Option Files) (missing : Type 0) (name : List ℕ) (r : FileRead) (s : Stated) → IsRead 4194304 files missing name r → IsParsed r s → IsStated files missing name s
file_stated None missing name Absent s read e = inl (e, read)
file_stated None missing name TooLong s read e = let long = long_bytes 4194304 in inr (long.0, subst (IsStatedBy long.0) (sym e) long.1)
file_stated None missing name (Bytes v) s read by = inr (v.items, by)
file_stated (Some files) missing name Absent s read e = subst (λ o. IsStatedIn o s) (sym read) e
file_stated (Some files) missing name TooLong s read e = subst (λ o. IsStatedIn o s) (sym read.1) (subst (IsStatedBy read.0) (sym e) read.2)
file_stated (Some files) missing name (Bytes v) s read by = subst (λ o. IsStatedIn o s) (sym read.0) by

-- the files that were read and parsed are what the files state
pub files_stated : (files : Option Files) (missing : Type 0) (names : List (List ℕ)) (reads : List Read) (parsed : List File) → AreRead 4194304 files missing names reads → AreParsed reads parsed
    → AreStated files missing names (files_shown parsed)
files_stated files missing [] [] [] read are = tt
files_stated files missing [] [] (file ∷ parsed) read are = absurd are
files_stated files missing [] (r ∷ reads) parsed read are = absurd read
files_stated files missing (name ∷ names) [] parsed read are = absurd read
files_stated files missing (name ∷ names) (r ∷ reads) [] read are = absurd are
files_stated files missing (name ∷ names) (r ∷ reads) (file ∷ parsed) read are =
    (are.0 ∙ read.0, file_stated files missing name r.content (stated_shown file.stated) read.1 are.1, files_stated files missing names reads parsed read.2 are.2)

pub by_small : (bytes : List ℕ) (s : Stated) → IsStatedBy bytes s → IsSmall s
by_small bytes spec.Stated.Absent by = absurd by
by_small bytes spec.Stated.TooLong by = omega arith
by_small bytes (spec.Stated.Faulty fault) by = omega arith
by_small bytes (spec.Stated.Goals goals) by = by.2

file_small : (r : FileRead) (s : Stated) → IsParsed r s → IsSmall s
file_small Absent s e = subst IsSmall (sym e) (omega arith)
file_small TooLong s e = subst IsSmall (sym e) (omega arith)
file_small (Bytes v) s by = by_small v.items s by

-- no file states more goals than it may have
pub files_small : (reads : List Read) (files : List File) → AreParsed reads files → All (λ f. IsSmall (stated_shown f.stated)) files
files_small [] [] are = All-nil (λ (f : File). IsSmall (stated_shown f.stated))
files_small [] (file ∷ files) are = absurd are
files_small (r ∷ reads) [] are = absurd are
files_small (r ∷ reads) (file ∷ files) are =
    All-cons (λ (f : File). IsSmall (stated_shown f.stated)) file files (file_small r.content (stated_shown file.stated) are.1) (files_small reads files are.2)

-- there are as many files as names
pub files_count : (most : ℕ) (files : Option Files) (missing : Type 0) (names : List (List ℕ)) (reads : List Read) (parsed : List File) → AreRead most files missing names reads → AreParsed reads parsed
    → length parsed ≡ length names
files_count most files missing [] [] [] read are = refl
files_count most files missing [] [] (file ∷ parsed) read are = absurd are
files_count most files missing [] (r ∷ reads) parsed read are = absurd read
files_count most files missing (name ∷ names) [] parsed read are = absurd read
files_count most files missing (name ∷ names) (r ∷ reads) [] read are = absurd are
files_count most files missing (name ∷ names) (r ∷ reads) (file ∷ parsed) read are = omega (arith, files_count most files missing names reads parsed read.2 are.2)
