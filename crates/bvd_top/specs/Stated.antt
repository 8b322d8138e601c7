-- What the files of a run state.
use Rattle.std.specs.Prelude.{◌≡◌, ◌⊎◌, ◌<◌, ◌≤◌, ℕ, List, [], ◌∷◌, Option, Some, None, ⊤, length}
use Rattle.bvd_host.specs.Files.{Files, file_at}
use Rattle.bv_lex.specs.declared.fault.Fault.{Fault}
use Rattle.bv_expr.specs.Statement.{Statement}
use Rattle.bv_parse.specs.Reads.{ReadsAs, IsFaultOf}

-- what a file states: it isn't there, it is too long, it has a fault, or its goals
pub data Stated : Type 0 where
  Absent : Stated
  TooLong : Stated
  Faulty : Fault → Stated
  Goals : List Statement → Stated

-- a file of the run, with what it states
pub record File : Type 0 where
  pub path : List ℕ
  pub stated : Stated

-- the most bytes of a file, and the most goals
abbrev pub most_bytes : ℕ
most_bytes = 4194304

abbrev pub most_goals : ℕ
most_goals = 1024

-- what bytes state
abbrev pub IsStatedBy : List ℕ → Stated → Type 0
IsStatedBy bytes Absent = ⊥
IsStatedBy bytes TooLong = most_bytes < length bytes
IsStatedBy bytes (Faulty fault) = (length bytes ≤ most_bytes) × IsFaultOf bytes fault
IsStatedBy bytes (Goals goals) = (length bytes ≤ most_bytes) × ReadsAs bytes goals × (length goals ≤ most_goals)

-- what a file states that may be there
abbrev pub IsStatedIn : Option (List ℕ) → Stated → Type 0
IsStatedIn None stated = stated ≡ Absent
IsStatedIn (Some bytes) stated = IsStatedBy bytes stated

-- What a file states. Where the files aren't told, it is absent only where `missing` holds, and else it states what some bytes state.
abbrev pub IsStated : Option Files → Type 0 → List ℕ → Stated → Type 0
IsStated (Some files) missing name stated = IsStatedIn (file_at files name) stated
IsStated None missing name stated = ((stated ≡ Absent) × missing) ⊎ ((bytes : List ℕ) × IsStatedBy bytes stated)

-- the files of these names with what they state, in order
abbrev pub AreStated : Option Files → Type 0 → List (List ℕ) → List File → Type 0
AreStated files missing [] [] = ⊤
AreStated files missing [] (file ∷ rest) = ⊥
AreStated files missing (name ∷ names) [] = ⊥
AreStated files missing (name ∷ names) (file ∷ rest) = (file.path ≡ name) × IsStated files missing name file.stated × AreStated files missing names rest

-- the goals that a file states
abbrev pub goals_stated : Stated → List Statement
goals_stated Absent = []
goals_stated TooLong = []
goals_stated (Faulty fault) = []
goals_stated (Goals goals) = goals

-- it states no more goals than a file may have
abbrev pub IsSmall : Stated → Type 0
IsSmall stated = length (goals_stated stated) ≤ most_goals
