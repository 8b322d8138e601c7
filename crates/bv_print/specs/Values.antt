-- Values of variables, as reports write them.
use Rattle.std.specs.Prelude.{ℕ, ◌≡◌, ◌+◌, ◌/◌, Bool, true, false, List, ◌++◌, codes, decimal, flat_map}
use Rattle.std.specs.List.{zip, join_by}
use Rattle.bv_value.specs.BitVector.{BitVector}
use Rattle.bv_expr.specs.declared.ops.Val.{Val}
use Rattle.bv_expr.specs.declared.ops.Val.TheVariants.{Truth, Vector}
use Rattle.bv_expr.specs.Goal.{Binders}
use Rattle.bvd_text.specs.Hexadecimal.{hex_text}

-- How many hexadecimal digits a width takes: a quarter of it, rounded up.
abbrev pub hex_width : ℕ → ℕ
hex_width w = (w + 3) / 4

-- A vector: its digits in hexadecimal, `#`, and its width.
abbrev pub vector_text : BitVector → List ℕ
vector_text x = hex_text (hex_width x.width) x.number ++ codes "#" ++ decimal x.width

-- The word of a truth.
abbrev pub truth_text : Bool → List ℕ
truth_text true = codes "true"
truth_text false = codes "false"

-- A value: a truth's word, or a vector.
abbrev pub value_text : Val → List ℕ
value_text (Truth b) = truth_text b
value_text (Vector x) = vector_text x

-- A variable's name and its value.
abbrev pub assignment_text : List ℕ → Val → List ℕ
assignment_text name value = name ++ codes " = " ++ value_text value

-- The values of variables, one for each in order, with `, ` between each two.
abbrev pub values_text : Binders → List Val → List ℕ
values_text binders values = join_by (λ a. assignment_text a.0.0 a.1) (codes ", ") (zip binders values)

-- The values of variables that stand behind another one.
abbrev pub further_text : Binders → List Val → List ℕ
further_text binders values = flat_map (λ a. codes ", " ++ assignment_text a.0.0 a.1) (zip binders values)

-- The one text begins with the other.
pub record Begins (front text : List ℕ) : Type 0 where
  pub more : List ℕ
  pub is : text ≡ front ++ more
