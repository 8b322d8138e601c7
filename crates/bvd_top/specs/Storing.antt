-- What is left of files that are written one after the other.
use Rattle.std.specs.Prelude.{◌≡◌, ℕ, List, [], ◌∷◌, ◌++◌, Option, Some, None, option_map}
use Rattle.bvd_host.specs.Files.{Files, with_file}
use Rattle.cert_store.specs.CutShort.{IsCutShort}
use Rattle.bvd_report.specs.Report.{Told, Proved}

-- the text of the certificate by which a goal is told proved
abbrev pub text_of : Told → Option (List ℕ)
text_of (Proved text) = Some text
text_of told = None

-- the files after these were written in order
abbrev pub with_all : List (List ℕ × List ℕ) → Files → Files
with_all [] files = files
with_all (file ∷ rest) files = with_all rest (with_file files file.0 file.1)

-- some first files of a list are written, and perhaps a beginning of the next one
pub record IsPartlyStored (all : List (List ℕ × List ℕ)) (before after : Option Files) : Type 0 where
  pub whole : List (List ℕ × List ℕ)
  pub next : List ℕ × List ℕ
  pub others : List (List ℕ × List ℕ)
  pub parted : all ≡ whole ++ next ∷ others
  pub files : IsCutShort next.0 next.1 (option_map (with_all whole) before) after

-- the first files of a list are written, and the rest of it isn't begun
pub record IsStoredTo (all rest : List (List ℕ × List ℕ)) (before now : Option Files) : Type 0 where
  pub whole : List (List ℕ × List ℕ)
  pub parted : all ≡ whole ++ rest
  pub files : now ≡ option_map (with_all whole) before
