-- A text that is read character by character: the bytes behind the reader and those before it.
use Rattle.std.specs.Prelude.{◌≡◌, ℕ, List, ◌++◌}
use Rattle.std.specs.Char.{encode_utf8}

pub record Reading : Type 0 where
  -- what has been read
  pub before : List ℕ
  -- what is to come
  pub rest : List ℕ

-- The text begins with this character.
abbrev pub BeginsWith : ℕ → List ℕ → Type 0
BeginsWith c bs = (more : List ℕ) × (bs ≡ encode_utf8 c ++ more)

-- The reader goes past this character.
pub record Passes (old new : Reading) (c : ℕ) : Type 0 where
  pub read : new.before ≡ old.before ++ encode_utf8 c
  pub left : old.rest ≡ encode_utf8 c ++ new.rest
