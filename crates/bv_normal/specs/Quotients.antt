-- Products, quotients and remainders by 0, 1 and powers of two.
use Rattle.std.specs.Prelude.{◌-◌, ◌^◌, List, [], ◌∷◌, Option, None, option_map}
use Rattle.bv_expr.specs.declared.ops.Unary.TheVariants as of
use Rattle.bv_expr.specs.declared.ops.Binary.TheVariants as on
use Rattle.bv_expr.specs.Term.{Term, unary, binary}
use Rattle.bv_normal.specs.Constants.{is_number, number_like, exponent}
use Rattle.bv_normal.specs.Fitting.{Rule, gives, or_else}

-- x shifted up by k, where y is the constant 2 ^ k.
abbrev pub shifted : Term → Term → Option Term
shifted x y = option_map (λ k. unary (of.ShlBy k) x) (exponent y)

-- Mul by 2 ^ k, k at least 1, on either side, becomes ShlBy k.
unfoldable pub product_by_power : Rule
product_by_power (binary on.Mul x y) = or_else (shifted x y) (shifted y x)
product_by_power _ = None

-- Udiv by 0 becomes 0, and Umod by 0 becomes x.
unfoldable pub division_by_zero : Rule
division_by_zero (binary on.Udiv x y) = gives (is_number 0 y) (number_like x 0)
division_by_zero (binary on.Umod x y) = gives (is_number 0 y) x
division_by_zero _ = None

-- Udiv by 1 becomes x, and Umod by 1 becomes 0.
unfoldable pub division_by_one : Rule
division_by_one (binary on.Udiv x y) = gives (is_number 1 y) x
division_by_one (binary on.Umod x y) = gives (is_number 1 y) (number_like x 0)
division_by_one _ = None

-- Udiv by 2 ^ k, k at least 1, becomes LshrBy k, and Umod by 2 ^ k becomes And(x, 2 ^ k - 1).
unfoldable pub division_by_power : Rule
division_by_power (binary on.Udiv x y) = option_map (λ k. unary (of.LshrBy k) x) (exponent y)
division_by_power (binary on.Umod x y) = option_map (λ k. binary on.And x (number_like x (2 ^ k - 1))) (exponent y)
division_by_power _ = None

abbrev pub quotient_rules : List Rule
quotient_rules = product_by_power ∷ division_by_zero ∷ division_by_one ∷ division_by_power ∷ []
