-- What the goals of a file say of every file.
use Rattle.std.specs.Prelude.{◌≡◌, List}
use Rattle.bv_grammar.specs.declared.words.Terminal.{Terminal}
use Rattle.bv_grammar.specs.Derivation.{IsFile}
use Rattle.bv_trees.specs.Trees.{Goal}
use Rattle.bv_trees.specs.Files.{AreGoals}

-- A file that is derived whole has goals.
abbrev pub HasGoals : List Terminal → Type 0
HasGoals ts = IsFile ts → (gs : List Goal) × AreGoals ts gs

-- A file that has goals is derived whole.
abbrev pub IsWhole : List Terminal → List Goal → Type 0
IsWhole ts gs = AreGoals ts gs → IsFile ts

-- The goals of a file, with all their terms, are one.
abbrev pub OneReading : List Terminal → List Goal → List Goal → Type 0
OneReading ts gs hs = AreGoals ts gs → AreGoals ts hs → gs ≡ hs
