-- The tokens of a goal's canonical line.
use Rattle.std.specs.Prelude.{ℕ, Bool, true, false, List, [], ◌∷◌, ◌++◌, flat_map, codes, Option, Some, None}
use Rattle.bv_lex.specs.declared.token.TokenKind.TheVariants as kinds
use Rattle.bv_lex.specs.Signs.{kind_of_word}
use Rattle.bv_expr.specs.declared.ops.Sort.{Sort}
use Rattle.bv_expr.specs.declared.ops.Sort.TheVariants.{Truth, Vector}
use Rattle.bv_expr.specs.Goal.{Binders}
use Rattle.bv_expr.specs.Statement.{Statement}
use Rattle.bv_expr.specs.Term.{Term}
use Rattle.bv_print.specs.Canonical.{goal_text}
use Rattle.bv_canon.specs.Names.{IsGoalName, unnamed, named}
use Rattle.bv_canon.specs.Written.{Written, sign, word, name, numeral, left, right, term_tokens}

-- a part of a path
abbrev pub part : Bool → List ℕ → Written
part b w = record { spaced = b; kind = kind_of_word w; text = w }

-- parts behind another one, each behind a point
abbrev pub further_tokens : List (List ℕ) → List Written
further_tokens ps = flat_map (λ p. sign false (codes ".") ∷ part false p ∷ []) ps

-- the head word, and the name
abbrev pub head_tokens : {n : List ℕ} → IsGoalName n → List Written
head_tokens unnamed = word false (codes "example") ∷ []
head_tokens (named p) = word false (codes "theorem") ∷ part true p.first ∷ further_tokens p.further

abbrev pub sort_tokens : Sort → List Written
sort_tokens Truth = word true (codes "Bool") ∷ []
sort_tokens (Vector w) = word true (codes "BitVec") ∷ numeral true w ∷ []

abbrev pub binder_tokens : List ℕ × Sort → List Written
binder_tokens b = left true ∷ name false b.0 ∷ sign true (codes ":") ∷ (sort_tokens b.1 ++ right ∷ [])

abbrev pub hypothesis_tokens : Binders → Term → List Written
hypothesis_tokens binders h = left true ∷ name false (codes "h") ∷ sign true (codes ":") ∷ (term_tokens true binders h ++ right ∷ [])

-- a string
abbrev pub quoted : List ℕ → Written
quoted w = record { spaced = true; kind = kinds.Text; text = codes "\"" ++ w ++ codes "\"" }

abbrev pub proof_tokens : Option (List ℕ) → List Written
proof_tokens None = word true (codes "bv_decide") ∷ []
proof_tokens (Some file) = word true (codes "bv_check") ∷ quoted file ∷ []

abbrev pub conclusion_tokens : Binders → Term → Option (List ℕ) → List Written
conclusion_tokens binders concl stored = sign true (codes ":") ∷ (term_tokens true binders concl ++ (sign true (codes ":=") ∷ word true (codes "by") ∷ proof_tokens stored))

-- The line of a goal. Its name is cut into the parts of its path.
abbrev pub goal_tokens : (goal : Statement) → IsGoalName goal.name → List Written
goal_tokens goal n = head_tokens n ++ (flat_map binder_tokens goal.binders ++ (flat_map (hypothesis_tokens goal.binders) goal.hyps ++ conclusion_tokens goal.binders goal.concl goal.stored))

-- the bytes of the line
abbrev pub line_of : Statement → List ℕ
line_of goal = goal_text goal.name goal.binders goal.hyps goal.concl goal.stored
