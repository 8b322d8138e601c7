-- What a keeper, a source and a sink mean.
use Rattle.std.specs.Prelude.{◌≡◌, ◌⊎◌, ℕ, ◌-◌, ◌≤◌, ◌<◌, List, [], ◌++◌, length, take, drop, Option, unwrap_or}
use Rattle.std.specs.Ordering.{nat_cmp}
use Rattle.std.specs.Cmp.Lexicographic.{slice_cmp}
use Rattle.std.specs.FinMap as map

-- the files, by name: a finite map from names to bytes
abbrev pub Files : Type 0
Files = map.FinMap (slice_cmp nat_cmp) (List ℕ)

-- the bytes of a file, where it is there
abbrev pub file_at : Files → List ℕ → Option (List ℕ)
file_at files name = map.get files name

-- the files with these bytes under the name, and no other change
abbrev pub with_file : Files → List ℕ → List ℕ → Files
with_file files name bytes = map.insert files name bytes

-- the files after bytes were added at the end of one of them
abbrev pub with_more : Files → List ℕ → List ℕ → Files
with_more files name bytes = with_file files name (unwrap_or (file_at files name) [] ++ bytes)

-- the first n bytes of the buffer are those of the file from an offset on; none only where there is no room or no more
pub record Copies (content : List ℕ) (from n : ℕ) (buf : List ℕ) : Type 0 where
  pub within : n ≤ length content - from
  pub bytes : take n buf ≡ take n (drop from content)
  pub none : n ≡ 0 → (length buf ≡ 0) ⊎ (length content ≤ from)

-- n bytes of a piece were taken: none only where the piece is empty
pub record IsTaken (n : ℕ) (piece : List ℕ) : Type 0 where
  pub most : n ≤ length piece
  pub some : 0 < length piece → 0 < n
