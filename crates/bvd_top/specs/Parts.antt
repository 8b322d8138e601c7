-- What became of each file of a run: first all files are read, and then their goals are answered in order.
use Rattle.std.specs.Prelude.{◌≡◌, ℕ, ◌+◌, List, [], ◌∷◌, Option, ⊤, length}
use Rattle.bvd_host.specs.Files.{Files}
use Rattle.bvd_words.specs.Requests.{Request}
use Rattle.bvd_report.specs.Report.{Found, Part, goals_of, all_goals}
use Rattle.bvd_top.specs.Stated.{Stated, Absent, TooLong, Faulty, Goals, File, AreStated}
use Rattle.bvd_top.specs.Told.{AreTold}
use Rattle.bvd_top.specs.Scheduled.{AreToldTogether}

-- what became of a file that states this, its goals being numbered from k on
abbrev pub IsFound : Request → Option Files → Type 0 → ℕ → Stated → Found → Type 0
IsFound request files missing k Absent found = found ≡ Found.Absent
IsFound request files missing k TooLong found = found ≡ Found.TooLong
IsFound request files missing k (Faulty fault) found = found ≡ Found.Faulty fault
IsFound request files missing k (Goals goals) Found.Absent = ⊥
IsFound request files missing k (Goals goals) Found.TooLong = ⊥
IsFound request files missing k (Goals goals) (Found.Faulty fault) = ⊥
IsFound request files missing k (Goals goals) (Found.Goals lines) = AreTold request files missing k goals lines

-- the same of files, in order
abbrev pub AreFound : Request → Option Files → Type 0 → ℕ → List File → List Part → Type 0
AreFound request files missing k [] [] = ⊤
AreFound request files missing k [] (part ∷ parts) = ⊥
AreFound request files missing k (file ∷ rest) [] = ⊥
AreFound request files missing k (file ∷ rest) (part ∷ parts) =
    (part.path ≡ file.path) × IsFound request files missing k file.stated part.found × AreFound request files missing (k + length (goals_of part.found)) rest parts

-- the same, with what the goals of all files have to do with one another
abbrev pub AreAnswered : Request → Option Files → Type 0 → List File → List Part → Type 0
AreAnswered request files missing stated parts = AreFound request files missing 1 stated parts × AreToldTogether request (all_goals parts)

-- the parts of a run over these files
abbrev pub ArePartsOf : Option Files → Type 0 → Request → List Part → Type 0
ArePartsOf files missing request parts = (stated : List File) × AreStated files missing request.files stated × AreFound request files missing 1 stated parts × AreToldTogether request (all_goals parts)
