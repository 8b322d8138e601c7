-- How a literal is kept: one number for its variable and its sign, as SAT solvers have it.
use Rattle.std.specs.Prelude.{◌≡◌, ℕ, zero, suc, ◌+◌, ◌*◌, ◌/◌, ◌%◌, ◌<◌, Bool, true, false}
use Rattle.std.proofs.Common.{refl, ap, ◌∙◌}
use Rattle.std.proofs.Math.Nat.{not-suc-le-zero, mod-lt, zero-lt-suc, le_of_suc-le-suc}
use Rattle.std.proofs.lemmas.Nat.{div-add-mod'}
use Rattle.sat_form.specs.Literals.{Literal}

-- The part of a sign.
abbrev pub code_of_sign : Bool → ℕ
code_of_sign true = 0
code_of_sign false = 1

-- The sign of a part.
abbrev pub sign_of : ℕ → Bool
sign_of zero = true
sign_of (suc _) = false

-- Twice the variable, and one more where it is negated.
abbrev pub code_of : Literal → ℕ
code_of l = l.var * 2 + code_of_sign l.positive

-- The literal of a number.
abbrev pub literal_of : ℕ → Literal
literal_of code = record { var = code / 2; positive = sign_of (code % 2) }

-- The two parts of a number are 0 and 1.
code_of_sign-sign_of : (part : ℕ) → part < 2 → code_of_sign (sign_of part) ≡ part
code_of_sign-sign_of zero _ = refl
code_of_sign-sign_of (suc zero) _ = refl
code_of_sign-sign_of (suc (suc part)) below = absurd (not-suc-le-zero (le_of_suc-le-suc (le_of_suc-le-suc below)))

-- A number is that of its literal.
pub code_of-literal_of : (code : ℕ) → code_of (literal_of code) ≡ code
code_of-literal_of code =
    ap (λ part. code / 2 * 2 + part) (code_of_sign-sign_of (code % 2) (mod-lt code (zero-lt-suc 1))) ∙ div-add-mod' code 2
