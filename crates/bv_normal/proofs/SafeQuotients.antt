-- The rules on products, quotients and remainders keep sort, depth and meaning.
use Rattle.std.proofs.Common.{◌-◌, ◌^◌, ◌∙◌}
use Rattle.bv_expr.specs.declared.ops.Unary.TheVariants as of
use Rattle.bv_expr.specs.declared.ops.Binary.TheVariants as on
use Rattle.bv_expr.specs.Term.{unary, binary}
use Rattle.bv_normal.specs.Constants.{is_number, number_like, exponent}
use Rattle.bv_normal.specs.Quotients.{shifted, product_by_power, division_by_zero, division_by_one, division_by_power}
use Rattle.bv_normal.proofs.Laws as law
use Rattle.bv_normal.proofs.Knowing.{number_known, power_known, given, mapped, either_cases}
use Rattle.bv_normal.proofs.Keeping.{Keeps, Safe}
use Rattle.bv_normal.proofs.Operators.{word, left_by, number_by, of_left_by, of_right_by, masked_by, mul, quotient, remainder, shl_by, lshr_by}

pub product_by_power_safe : Safe product_by_power
unfolding product_by_power
product_by_power_safe (binary on.Mul x y) u fit e = either_cases (Keeps (binary on.Mul x y)) (shifted x y) (shifted y x) u e
    (λ h. let m = mapped (λ k. unary (of.ShlBy k) x) (exponent y) u h in rw (← m.2) (of_left_by mul (shl_by m.0) x y fit (λ values w. law.mul_power (word x values) (word y values) m.0 (power_known y m.0 values m.1))))
    (λ h. let m = mapped (λ k. unary (of.ShlBy k) y) (exponent x) u h in rw (← m.2) (of_right_by mul (shl_by m.0) x y fit (λ values w. law.mul_turned (word x values) (word y values) w.widths ∙ law.mul_power (word y values) (word x values) m.0 (power_known x m.0 values m.1))))
product_by_power_safe t u fit e = cc

pub division_by_zero_safe : Safe division_by_zero
unfolding division_by_zero
division_by_zero_safe (binary on.Udiv x y) u fit e =
    let g = given (is_number 0 y) (number_like x 0) u e in
    rw (← g.1) (number_by quotient x y 0 fit (λ values w. law.udiv_zero (word x values) (word y values) (number_known 0 y values g.0)))
division_by_zero_safe (binary on.Umod x y) u fit e =
    let g = given (is_number 0 y) x u e in
    rw (← g.1) (left_by remainder x y fit (λ values w. law.umod_zero (word x values) (word y values) (number_known 0 y values g.0)))
division_by_zero_safe t u fit e = cc

pub division_by_one_safe : Safe division_by_one
unfolding division_by_one
division_by_one_safe (binary on.Udiv x y) u fit e =
    let g = given (is_number 1 y) x u e in
    rw (← g.1) (left_by quotient x y fit (λ values w. law.udiv_one (word x values) (word y values) (number_known 1 y values g.0)))
division_by_one_safe (binary on.Umod x y) u fit e =
    let g = given (is_number 1 y) (number_like x 0) u e in
    rw (← g.1) (number_by remainder x y 0 fit (λ values w. law.umod_one (word x values) (word y values) (number_known 1 y values g.0)))
division_by_one_safe t u fit e = cc

pub division_by_power_safe : Safe division_by_power
unfolding division_by_power
division_by_power_safe (binary on.Udiv x y) u fit e =
    let m = mapped (λ k. unary (of.LshrBy k) x) (exponent y) u e in
    rw (← m.2) (of_left_by quotient (lshr_by m.0) x y fit (λ values w. law.udiv_power (word x values) (word y values) m.0 (power_known y m.0 values m.1)))
division_by_power_safe (binary on.Umod x y) u fit e =
    let m = mapped (λ k. binary on.And x (number_like x (2 ^ k - 1))) (exponent y) u e in
    rw (← m.2) (masked_by remainder x y (2 ^ m.0 - 1) fit (λ values w. law.umod_power (word x values) (word y values) m.0 w.left w.right w.widths (power_known y m.0 values m.1)))
division_by_power_safe t u fit e = cc
