-- The names and files that a goal may have: those that the syntax can spell.
use Rattle.std.specs.Prelude.{◌≡◌, ℕ, List, ◌++◌, length, All, IsTrue, codes, flat_map, Option, Some, None}
use Rattle.std.specs.Str.{IsUtf8}
use Rattle.bv_lex.specs.declared.token.TokenKind.TheVariants as kinds
use Rattle.bv_lex.specs.Letters.{is_in_string, begins_name, goes_on_name}
use Rattle.bv_lex.specs.Signs.{kind_of_word}
use Rattle.bv_lex.specs.Words.{IsCharacter, Characters}

-- spelled as a name is, or as a reserved word
pub record IsWordText (w : List ℕ) : Type 0 where
  pub first : ℕ
  pub begins : IsCharacter begins_name w 0 first
  pub goes_on : Characters goes_on_name w first (length w)

-- a name, which is no reserved word
pub record IsName (w : List ℕ) : Type 0 where
  pub spelled : IsWordText w
  pub free : kind_of_word w ≡ kinds.Name

-- a part of a path
pub data IsPart : List ℕ → Type 0 where
  a_name : {w : List ℕ} → IsName w → IsPart w
  a_bool : IsPart (codes "Bool")
  a_bitvec : IsPart (codes "BitVec")

-- parts with points between them
pub record IsPath (name : List ℕ) : Type 0 where
  pub first : List ℕ
  pub further : List (List ℕ)
  pub is : name ≡ first ++ flat_map (λ p. codes "." ++ p) further
  pub part : IsPart first
  pub parts : All IsPart further

-- the name of a goal: `example`, or a path
pub data IsGoalName : List ℕ → Type 0 where
  unnamed : IsGoalName (codes "example")
  named : {name : List ℕ} → IsPath name → IsGoalName name

-- what may stand between the quotes of a string
pub record IsQuoted (w : List ℕ) : Type 0 where
  pub utf8 : IsUtf8 w
  pub bytes : All (λ b. IsTrue (is_in_string b)) w

-- the file of a stored certificate, where there is one
abbrev pub IsStored : Option (List ℕ) → Type 0
IsStored None = Unit {0}
IsStored (Some file) = IsQuoted file
