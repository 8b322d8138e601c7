-- What holds of canonical text.
use Rattle.std.specs.Prelude.{◌≡◌, ℕ, ◌+◌, Bool, List, [], ◌∷◌, length, Some, All, map}
use Rattle.std.specs.List.{Contains}
use Rattle.bv_lex.specs.declared.token.Token.{Token}
use Rattle.bv_lex.specs.Cut.{AreTokens}
use Rattle.bv_expr.specs.declared.ops.Sort.{Sort}
use Rattle.bv_expr.specs.Goal.{Binders}
use Rattle.bv_expr.specs.Sorts.{sort_of, IsExpr}
use Rattle.bv_expr.specs.Statement.{Statement}
use Rattle.bv_expr.specs.Term.{Term}
use Rattle.bv_trees.specs.Trees.{Goal}
use Rattle.bv_trees.specs.Files.{AreGoals}
use Rattle.bv_typing.specs.Source.{Source, source}
use Rattle.bv_typing.specs.Readings.{Env}
use Rattle.bv_typing.specs.Goals.{file_misfits, statement, States}
use Rattle.bv_parse.specs.Reads.{Outlines, IsWithinLimits, ReadsAs}
use Rattle.bv_canon.specs.Written.{term_tokens}
use Rattle.bv_canon.specs.Lines.{goal_tokens, line_of}
use Rattle.bv_canon.specs.Reading.{terminals, Stand, AreNamed, IsRead, IsOfSyntax, IsReadAlone, IsReadBack}

-- The canonical line of a goal is cut into tokens that are read as that goal alone.
abbrev pub GoalIsReadBack : Statement → Type 0
GoalIsReadBack goal = IsOfSyntax goal → IsReadBack (line_of goal) goal

-- However the line is cut and derived, what is derived is typed, and states that goal alone.
abbrev pub LineStatesGoal : Statement → List Token → List Goal → Type 0
LineStatesGoal goal tokens trees =
    IsOfSyntax goal → AreTokens (line_of goal) tokens → AreGoals (terminals (source (line_of goal) tokens)) trees → States (source (line_of goal) tokens) trees (goal ∷ [])

-- Each goal that a file states is one that the syntax can spell.
abbrev pub StatesOfSyntax : Source → List Goal → Type 0
StatesOfSyntax s trees = AreTokens s.bytes s.tokens → AreGoals (terminals s) trees → file_misfits s trees ≡ [] → All IsOfSyntax (map (statement s) trees)

-- Where a file reads as goals, and the canonical line of one of them meets no limit, the line reads as that goal alone.
abbrev pub PrintedGoalReads : List ℕ → List Statement → Statement → Type 0
PrintedGoalReads bytes goals goal =
    ReadsAs bytes goals → Contains goals goal → ((tokens : List Token) (trees : List Goal) → Outlines (line_of goal) tokens trees → IsWithinLimits (line_of goal) tokens trees)
    → ReadsAs (line_of goal) (goal ∷ [])

-- A file whose tokens are those of a goal's line is read as that goal alone.
abbrev pub LineIsRead : Statement → Type 0
LineIsRead goal = (o : IsOfSyntax goal) (s : Source) → Stand s 0 (goal_tokens goal o.name) → length s.tokens ≡ length (goal_tokens goal o.name) → IsReadAlone s goal

-- Where the tokens of a term stand, and its names name its variables, they are read as this term.
abbrev pub TermIsRead : Binders → Term → Type 0
TermIsRead binders t =
    (b : Bool) (e : Env) (i : ℕ) (s : Sort) → Stand e.source i (term_tokens b binders t) → IsExpr t → sort_of t ≡ Some s → AreNamed e.bounds binders t
    → IsRead e i t s (i + length (term_tokens b binders t))
