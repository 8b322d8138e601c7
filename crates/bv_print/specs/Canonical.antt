-- The canonical text of terms and goals: names, constants and truths stand alone, and every other term stands in brackets,
-- so that reading it back rests on no operator's level.
use Rattle.std.specs.Prelude.{ℕ, Bool, true, false, if◌then◌else◌, List, [], ◌++◌, slice_get, codes, decimal, flat_map}
use Rattle.std.specs.declared.option.Option.{Option}
use Rattle.std.specs.declared.option.Option.TheVariants.{Some, None}
use Rattle.std.specs.Str.{bytes_eq}
use Rattle.bv_expr.specs.declared.ops.Sort.{Sort}
use Rattle.bv_expr.specs.declared.ops.Sort.TheVariants.{Truth, Vector}
use Rattle.bv_expr.specs.Term.{Term, constant, variable, truth, truth_variable, unary, binary, choice, truth_choice}
use Rattle.bv_expr.specs.Goal.{Binders}
use Rattle.bv_print.specs.Spelling.{Form, Prefix, Infix, Method, unary_form, binary_form, kept_numbers}
use Rattle.bv_print.specs.Values.{vector_text, truth_text}

-- The name of a variable.
abbrev pub name_of : Option (List ℕ × Sort) → List ℕ
name_of None = []
name_of (Some b) = b.0

abbrev pub name_at : Binders → ℕ → List ℕ
name_at binders k = name_of (slice_get binders k)

abbrev pub is_constant : Term → Bool
is_constant (constant v) = true
is_constant (variable k w) = false
is_constant (truth b) = false
is_constant (truth_variable k) = false
is_constant (unary op x) = false
is_constant (binary op x y) = false
is_constant (choice c x y) = false
is_constant (truth_choice c x y) = false

-- A term that a method is called of: a constant stands in brackets there.
abbrev pub receiver_text : Bool → List ℕ → List ℕ
receiver_text of_constant text = if of_constant then codes "(" ++ text ++ codes ")" else text

-- An operator with the text of its first part and what stands behind the operator, which begins with a space where it
-- isn't empty. The flag tells that the first part is a constant.
abbrev pub operation_text : Form → Bool → List ℕ → List ℕ → List ℕ
operation_text (Prefix sign) of_constant text others = sign ++ text ++ others
operation_text (Infix sign) of_constant text others = text ++ codes " " ++ sign ++ others
operation_text (Method name) of_constant text others = receiver_text of_constant text ++ codes "." ++ name ++ others

-- Numbers in decimal digits, each behind a space.
abbrev pub numbers_text : List ℕ → List ℕ
numbers_text ns = flat_map (λ n. codes " " ++ decimal n) ns

abbrev pub choice_text : List ℕ → List ℕ → List ℕ → List ℕ
choice_text c x y = codes "(if " ++ c ++ codes " then " ++ x ++ codes " else " ++ y ++ codes ")"

-- A term over these variables.
abbrev pub term_text : Binders → Term → List ℕ
term_text binders (constant v) = vector_text v
term_text binders (variable k w) = name_at binders k
term_text binders (truth b) = truth_text b
term_text binders (truth_variable k) = name_at binders k
term_text binders (unary op x) = codes "(" ++ operation_text (unary_form op) (is_constant x) (term_text binders x) (numbers_text (kept_numbers op)) ++ codes ")"
term_text binders (binary op x y) = codes "(" ++ operation_text (binary_form op) (is_constant x) (term_text binders x) (codes " " ++ term_text binders y) ++ codes ")"
term_text binders (choice c x y) = choice_text (term_text binders c) (term_text binders x) (term_text binders y)
term_text binders (truth_choice c x y) = choice_text (term_text binders c) (term_text binders x) (term_text binders y)

abbrev pub sort_text : Sort → List ℕ
sort_text Truth = codes "Bool"
sort_text (Vector w) = codes "BitVec " ++ decimal w

abbrev pub binder_text : List ℕ × Sort → List ℕ
binder_text b = codes " (" ++ b.0 ++ codes " : " ++ sort_text b.1 ++ codes ")"

abbrev pub hypothesis_text : Binders → Term → List ℕ
hypothesis_text binders h = codes " (h : " ++ term_text binders h ++ codes ")"

-- A goal of the name `example` is one without a name.
abbrev pub head_text : List ℕ → List ℕ
head_text name = if bytes_eq name (codes "example") then codes "example" else codes "theorem " ++ name

-- How the goal is to be proved: by a search, or by the certificate in a file.
abbrev pub proof_text : Option (List ℕ) → List ℕ
proof_text None = codes "bv_decide"
proof_text (Some file) = codes "bv_check \"" ++ file ++ codes "\""

-- The line of a goal: its name, variables, hypotheses, conclusion and proof.
abbrev pub goal_text : List ℕ → Binders → List Term → Term → Option (List ℕ) → List ℕ
goal_text name binders hyps concl stored =
    head_text name ++ flat_map binder_text binders ++ flat_map (hypothesis_text binders) hyps
    ++ codes " : " ++ term_text binders concl ++ codes " := by " ++ proof_text stored ++ codes "\n"
