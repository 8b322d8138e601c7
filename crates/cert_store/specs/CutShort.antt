-- What is left of a file that was written in part.
use Rattle.std.specs.Prelude.{◌≡◌, ◌⊎◌, ℕ, List, take, Option, option_map}
use Rattle.bvd_host.specs.Files.{Files, with_file}

-- the name stands for what it stood for before, or for the first bytes of the text, and no other file has changed
abbrev pub IsCutShort : (name text : List ℕ) → (before after : Option Files) → Type 0
IsCutShort name text before after = (after ≡ before) ⊎ ((n : ℕ) × (after ≡ option_map (λ f. with_file f name (take n text)) before))
