-- How the code keeps a form, and the text of an operation in pieces: what stands before its first part, and what stands
-- behind it up to the end of its sign or method.
use Rattle.std.specs.Prelude.{ℕ, Bool, if◌then◌else◌, List, [], ◌++◌, codes}
use Rattle.bv_print.specs.declared.spelling.Spelling.{Spelling}
use Rattle.bv_print.specs.declared.spelling.Spelling.TheVariants as spelled
use Rattle.bv_print.specs.Spelling.{Form, Prefix, Infix, Method}

-- The form that a spelling tells.
abbrev pub form_of : Spelling → Form
form_of (spelled.Prefix sign) = Prefix sign.now
form_of (spelled.Infix sign) = Infix sign.now
form_of (spelled.Method name) = Method name.now

-- What stands before the first part. The flag tells that this is a constant.
abbrev pub text_before : Form → Bool → List ℕ
text_before (Prefix sign) of_constant = codes "(" ++ sign
text_before (Infix sign) of_constant = codes "("
text_before (Method name) of_constant = if of_constant then codes "((" else codes "("

-- What stands behind the first part.
abbrev pub text_behind : Form → Bool → List ℕ
text_behind (Prefix sign) of_constant = []
text_behind (Infix sign) of_constant = codes " " ++ sign
text_behind (Method name) of_constant = (if of_constant then codes ")." else codes ".") ++ name
