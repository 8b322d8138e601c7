-- What it is that tokens are read as a term: they are derived as an atom, which no operator beside them takes apart, and the
-- atom is typed, and is that term at whichever width it is read.
use Rattle.std.specs.Prelude.{◌≡◌, ◌≢◌, ℕ, ◌+◌, ◌^◌, ◌<◌, List, [], ◌∷◌, length, Some, All, map, codes, slice_get, slice_range}
use Rattle.bv_lex.specs.declared.token.Token.{Token}
use Rattle.bv_lex.specs.Cut.{AreTokens}
use Rattle.bv_grammar.specs.declared.words.Terminal.{Terminal}
use Rattle.bv_terminals.specs.Spellings.{terminal_of}
use Rattle.bv_expr.specs.declared.ops.Sort.{Sort}
use Rattle.bv_expr.specs.Goal.{Binders, variables, IsGoal}
use Rattle.bv_expr.specs.Sorts.{IsExpr}
use Rattle.bv_expr.specs.Statement.{Statement}
use Rattle.bv_expr.specs.Term.{Term, constant, variable, truth, truth_variable, unary, binary, choice, truth_choice, depth}
use Rattle.bv_trees.specs.Trees.{Tree, Goal}
use Rattle.bv_trees.specs.Files.{AreGoals}
use Rattle.bv_trees.specs.Terms.{Atom}
use Rattle.bv_limits.specs.Depths.{depth as tree_depth}
use Rattle.bv_typing.specs.declared.kind.Kind.TheVariants as kind
use Rattle.bv_typing.specs.Source.{Source, source}
use Rattle.bv_typing.specs.Variables.{Bound, variable_of}
use Rattle.bv_typing.specs.Readings.{Env, kind_of, term}
use Rattle.bv_typing.specs.Goals.{misfits, file_misfits, statement}
use Rattle.bv_print.specs.Spelling.{kept_numbers}
use Rattle.bv_print.specs.Canonical.{name_at}
use Rattle.bv_canon.specs.Written.{Written}
use Rattle.bv_canon.specs.Names.{IsName, IsGoalName, IsStored}

-- the terminals of a file
abbrev pub terminals : Source → List Terminal
terminals s = map (terminal_of s.bytes) s.tokens

-- the token at i is of this kind, and spelled so
pub record Shows (s : Source) (i : ℕ) (w : Written) : Type 0 where
  pub token : Token
  pub here : slice_get s.tokens i ≡ Some token
  pub kind : token.kind ≡ w.kind
  pub text : slice_range s.bytes token.from token.to ≡ w.text
  pub span : token.to ≡ token.from + length w.text

-- the tokens from i on are these
abbrev pub Stand : Source → ℕ → List Written → Type 0
Stand s i [] = Unit {0}
Stand s i (w ∷ ws) = Shows s i w × Stand s (i + 1) ws

-- The names of a term's variables name these variables. (`_` names none, and the first of two equal names is named.)
abbrev pub AreNamed : List Bound → Binders → Term → Type 0
AreNamed bounds binders t = All (λ v. variable_of bounds (name_at binders v.0) ≡ Some (v.0, Some v.1)) (variables t)

-- the tokens from i up to j are read as a term of this sort
pub record IsRead (e : Env) (i : ℕ) (t : Term) (s : Sort) (j : ℕ) : Type 0 where
  pub tree : Tree
  pub derived : Atom (terminals e.source) i tree j
  pub typed : kind_of e tree ≡ Some (kind.Sorted s)
  pub fit : misfits e tree ≡ []
  pub is : (w : ℕ) → term e w tree ≡ t
  pub deep : tree_depth tree ≡ depth t

-- ---- goals

-- All numbers that the term's operators keep can be written as numerals.
abbrev pub NumbersFit : Term → Type 0
NumbersFit (constant v) = Unit {0}
NumbersFit (variable k w) = Unit {0}
NumbersFit (truth b) = Unit {0}
NumbersFit (truth_variable k) = Unit {0}
NumbersFit (unary op x) = All (λ n. n < 2 ^ 128) (kept_numbers op) × NumbersFit x
NumbersFit (binary op x y) = NumbersFit x × NumbersFit y
NumbersFit (choice c x y) = NumbersFit c × NumbersFit x × NumbersFit y
NumbersFit (truth_choice c x y) = NumbersFit c × NumbersFit x × NumbersFit y

-- A term that the syntax can spell: `_` may be bound, but names no variable.
pub record IsSpellable (binders : Binders) (t : Term) : Type 0 where
  pub expr : IsExpr t
  pub numbers : NumbersFit t
  pub named : All (λ v. name_at binders v.0 ≢ codes "_") (variables t)

-- A goal that the syntax can spell, as each one that is read from a file.
pub record IsOfSyntax (goal : Statement) : Type 0 where
  pub fits : IsGoal goal.binders goal.hyps goal.concl
  pub name : IsGoalName goal.name
  pub names : All (λ b. IsName b.0) goal.binders
  pub hyps : All (IsSpellable goal.binders) goal.hyps
  pub concl : IsSpellable goal.binders goal.concl
  pub stored : IsStored goal.stored

-- The file is one goal, which is typed and states this.
pub record IsReadAlone (s : Source) (goal : Statement) : Type 0 where
  pub tree : Goal
  pub derived : AreGoals (terminals s) (tree ∷ [])
  pub fit : file_misfits s (tree ∷ []) ≡ []
  pub is : statement s tree ≡ goal

-- the bytes are cut into tokens which are read as this goal alone
pub record IsReadBack (bytes : List ℕ) (goal : Statement) : Type 0 where
  pub tokens : List Token
  pub cut : AreTokens bytes tokens
  pub alone : IsReadAlone (source bytes tokens) goal
