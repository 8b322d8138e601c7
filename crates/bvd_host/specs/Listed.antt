-- A map in memory as files.
use Rattle.std.specs.Prelude.{ℕ, List, [], ◌∷◌, String, string_bytes, Vec}
use Rattle.std.specs.BTreeMap.{BTreeMap}
use Rattle.std.specs.FinMap as fin
use Rattle.bvd_host.specs.Files.{Files}

-- names and contents as bytes
abbrev pub named_bytes : {Y Z : Type 0} → List (String Y × Vec ℕ Z) → List (List ℕ × List ℕ)
named_bytes [] = []
named_bytes (e ∷ es) = (string_bytes e.0, e.1.items) ∷ named_bytes es

-- the files of a map
abbrev pub listed : {Y Z : Type 0} → BTreeMap (String Y) (Vec ℕ Z) → Files
listed m = fin.from_entries (named_bytes m.entries)
