-- What was read of a file.
use Rattle.std.specs.Prelude.{◌≡◌, ℕ, ◌+◌, ◌<◌, ◌≤◌, List, [], ◌∷◌, ◌++◌, length, Option, Some, None, ⊤}
use Rattle.bvd_host.specs.Files.{Files, file_at}
use Rattle.bvd_top.specs.declared.reading.FileRead.{FileRead}
use Rattle.bvd_top.specs.declared.reading.FileRead.TheVariants.{Absent, TooLong, Bytes}
use Rattle.bvd_top.specs.declared.reading.Read.{Read}

-- these are the first bytes of a file of this size
abbrev pub IsFrontOf : Option (List ℕ) → ℕ → List ℕ → Type 0
IsFrontOf content size bytes = (rest : List ℕ) × (content ≡ Some (bytes ++ rest)) × (length bytes + length rest ≡ size)

-- what was read of a file that may be there; one of more than `most` bytes isn't read
abbrev pub IsReadOf : ℕ → Option (List ℕ) → FileRead → Type 0
IsReadOf most content Absent = content ≡ None
IsReadOf most content TooLong = (bytes : List ℕ) × (content ≡ Some bytes) × (most < length bytes)
IsReadOf most content (Bytes v) = (content ≡ Some v.items) × (length v.items ≤ most)

-- the same where the files aren't told
abbrev pub IsUntold : ℕ → Type 0 → FileRead → Type 0
IsUntold most missing Absent = missing
IsUntold most missing TooLong = ⊤
IsUntold most missing (Bytes v) = length v.items ≤ most

abbrev pub IsRead : ℕ → Option Files → Type 0 → List ℕ → FileRead → Type 0
IsRead most None missing name r = IsUntold most missing r
IsRead most (Some files) missing name r = IsReadOf most (file_at files name) r

-- it has at most so many bytes
abbrev pub IsWithin : ℕ → FileRead → Type 0
IsWithin most Absent = ⊤
IsWithin most TooLong = ⊤
IsWithin most (Bytes v) = length v.items ≤ most

-- the files of these names as they were read, in order
abbrev pub AreRead : ℕ → Option Files → Type 0 → List (List ℕ) → List Read → Type 0
AreRead most files missing [] [] = ⊤
AreRead most files missing [] (read ∷ reads) = ⊥
AreRead most files missing (name ∷ names) [] = ⊥
AreRead most files missing (name ∷ names) (read ∷ reads) = (read.path.now ≡ name) × IsRead most files missing name read.content × AreRead most files missing names reads
