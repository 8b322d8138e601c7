-- How the logic stores a term.
use Rattle.std.proofs.Common.{◌≡◌, ◌≢◌, ℕ, refl, ap, arith}
use Rattle.std.specs.Coded.{Coded, code_by, coded×, coded_ℕ, coded_bool}
use base.Stored.{Gv, gnil, gnum, gcons}
use Rattle.bv_value.specs.BitVector.{BitVector}
use Rattle.bv_expr.specs.contracts.ops.Unary as unary_row
use Rattle.bv_expr.specs.contracts.ops.Binary as binary_row
use Rattle.bv_expr.specs.Term.{Term, constant, variable, truth, truth_variable, unary, binary, choice, truth_choice}

abbrev pub vector_code : Coded BitVector
vector_code = code_by (ℕ × ℕ) (coded× coded_ℕ coded_ℕ) (λ v. (v.width, v.number)) (λ p. record { width = p.0; number = p.1 }) (λ _. refl)

abbrev head : Gv → Gv
head gnil = gnil
head (gnum n) = gnil
head (gcons a b) = a

abbrev tail : Gv → Gv
tail gnil = gnil
tail (gnum n) = gnil
tail (gcons a b) = b

apart : (m n : ℕ) {a b : Gv} → gcons (gnum m) a ≡ gcons (gnum n) b → m ≢ n → ⊥
apart m n p other = other (cc)

abbrev pub term_code : Term → Gv
term_code (constant a0) = gcons (gnum 0) (vector_code.code a0)
term_code (variable a0 a1) = gcons (gnum 1) (gcons (coded_ℕ.code a0) (coded_ℕ.code a1))
term_code (truth a0) = gcons (gnum 2) (coded_bool.code a0)
term_code (truth_variable a0) = gcons (gnum 3) (coded_ℕ.code a0)
term_code (unary a0 a1) = gcons (gnum 4) (gcons (unary_row.the_row.coded.code a0) (term_code a1))
term_code (binary a0 a1 a2) = gcons (gnum 5) (gcons (binary_row.the_row.coded.code a0) (gcons (term_code a1) (term_code a2)))
term_code (choice a0 a1 a2) = gcons (gnum 6) (gcons (term_code a0) (gcons (term_code a1) (term_code a2)))
term_code (truth_choice a0 a1 a2) = gcons (gnum 7) (gcons (term_code a0) (gcons (term_code a1) (term_code a2)))

pub term_inj : (x y : Term) → term_code x ≡ term_code y → x ≡ y
term_inj (constant a0) (constant b0) p = λ i. constant (vector_code.inj a0 b0 (ap (λ g. tail g) p) i)
term_inj (constant a0) (variable b0 b1) p = absurd (apart 0 1 p (omega arith))
term_inj (constant a0) (truth b0) p = absurd (apart 0 2 p (omega arith))
term_inj (constant a0) (truth_variable b0) p = absurd (apart 0 3 p (omega arith))
term_inj (constant a0) (unary b0 b1) p = absurd (apart 0 4 p (omega arith))
term_inj (constant a0) (binary b0 b1 b2) p = absurd (apart 0 5 p (omega arith))
term_inj (constant a0) (choice b0 b1 b2) p = absurd (apart 0 6 p (omega arith))
term_inj (constant a0) (truth_choice b0 b1 b2) p = absurd (apart 0 7 p (omega arith))
term_inj (variable a0 a1) (constant b0) p = absurd (apart 1 0 p (omega arith))
term_inj (variable a0 a1) (variable b0 b1) p = λ i. variable (coded_ℕ.inj a0 b0 (ap (λ g. head (tail g)) p) i) (coded_ℕ.inj a1 b1 (ap (λ g. tail (tail g)) p) i)
term_inj (variable a0 a1) (truth b0) p = absurd (apart 1 2 p (omega arith))
term_inj (variable a0 a1) (truth_variable b0) p = absurd (apart 1 3 p (omega arith))
term_inj (variable a0 a1) (unary b0 b1) p = absurd (apart 1 4 p (omega arith))
term_inj (variable a0 a1) (binary b0 b1 b2) p = absurd (apart 1 5 p (omega arith))
term_inj (variable a0 a1) (choice b0 b1 b2) p = absurd (apart 1 6 p (omega arith))
term_inj (variable a0 a1) (truth_choice b0 b1 b2) p = absurd (apart 1 7 p (omega arith))
term_inj (truth a0) (constant b0) p = absurd (apart 2 0 p (omega arith))
term_inj (truth a0) (variable b0 b1) p = absurd (apart 2 1 p (omega arith))
term_inj (truth a0) (truth b0) p = λ i. truth (coded_bool.inj a0 b0 (ap (λ g. tail g) p) i)
term_inj (truth a0) (truth_variable b0) p = absurd (apart 2 3 p (omega arith))
term_inj (truth a0) (unary b0 b1) p = absurd (apart 2 4 p (omega arith))
term_inj (truth a0) (binary b0 b1 b2) p = absurd (apart 2 5 p (omega arith))
term_inj (truth a0) (choice b0 b1 b2) p = absurd (apart 2 6 p (omega arith))
term_inj (truth a0) (truth_choice b0 b1 b2) p = absurd (apart 2 7 p (omega arith))
term_inj (truth_variable a0) (constant b0) p = absurd (apart 3 0 p (omega arith))
term_inj (truth_variable a0) (variable b0 b1) p = absurd (apart 3 1 p (omega arith))
term_inj (truth_variable a0) (truth b0) p = absurd (apart 3 2 p (omega arith))
term_inj (truth_variable a0) (truth_variable b0) p = λ i. truth_variable (coded_ℕ.inj a0 b0 (ap (λ g. tail g) p) i)
term_inj (truth_variable a0) (unary b0 b1) p = absurd (apart 3 4 p (omega arith))
term_inj (truth_variable a0) (binary b0 b1 b2) p = absurd (apart 3 5 p (omega arith))
term_inj (truth_variable a0) (choice b0 b1 b2) p = absurd (apart 3 6 p (omega arith))
term_inj (truth_variable a0) (truth_choice b0 b1 b2) p = absurd (apart 3 7 p (omega arith))
term_inj (unary a0 a1) (constant b0) p = absurd (apart 4 0 p (omega arith))
term_inj (unary a0 a1) (variable b0 b1) p = absurd (apart 4 1 p (omega arith))
term_inj (unary a0 a1) (truth b0) p = absurd (apart 4 2 p (omega arith))
term_inj (unary a0 a1) (truth_variable b0) p = absurd (apart 4 3 p (omega arith))
term_inj (unary a0 a1) (unary b0 b1) p = λ i. unary (unary_row.the_row.coded.inj a0 b0 (ap (λ g. head (tail g)) p) i) (term_inj a1 b1 (ap (λ g. tail (tail g)) p) i)
term_inj (unary a0 a1) (binary b0 b1 b2) p = absurd (apart 4 5 p (omega arith))
term_inj (unary a0 a1) (choice b0 b1 b2) p = absurd (apart 4 6 p (omega arith))
term_inj (unary a0 a1) (truth_choice b0 b1 b2) p = absurd (apart 4 7 p (omega arith))
term_inj (binary a0 a1 a2) (constant b0) p = absurd (apart 5 0 p (omega arith))
term_inj (binary a0 a1 a2) (variable b0 b1) p = absurd (apart 5 1 p (omega arith))
term_inj (binary a0 a1 a2) (truth b0) p = absurd (apart 5 2 p (omega arith))
term_inj (binary a0 a1 a2) (truth_variable b0) p = absurd (apart 5 3 p (omega arith))
term_inj (binary a0 a1 a2) (unary b0 b1) p = absurd (apart 5 4 p (omega arith))
term_inj (binary a0 a1 a2) (binary b0 b1 b2) p = λ i. binary (binary_row.the_row.coded.inj a0 b0 (ap (λ g. head (tail g)) p) i) (term_inj a1 b1 (ap (λ g. head (tail (tail g))) p) i) (term_inj a2 b2 (ap (λ g. tail (tail (tail g))) p) i)
term_inj (binary a0 a1 a2) (choice b0 b1 b2) p = absurd (apart 5 6 p (omega arith))
term_inj (binary a0 a1 a2) (truth_choice b0 b1 b2) p = absurd (apart 5 7 p (omega arith))
term_inj (choice a0 a1 a2) (constant b0) p = absurd (apart 6 0 p (omega arith))
term_inj (choice a0 a1 a2) (variable b0 b1) p = absurd (apart 6 1 p (omega arith))
term_inj (choice a0 a1 a2) (truth b0) p = absurd (apart 6 2 p (omega arith))
term_inj (choice a0 a1 a2) (truth_variable b0) p = absurd (apart 6 3 p (omega arith))
term_inj (choice a0 a1 a2) (unary b0 b1) p = absurd (apart 6 4 p (omega arith))
term_inj (choice a0 a1 a2) (binary b0 b1 b2) p = absurd (apart 6 5 p (omega arith))
term_inj (choice a0 a1 a2) (choice b0 b1 b2) p = λ i. choice (term_inj a0 b0 (ap (λ g. head (tail g)) p) i) (term_inj a1 b1 (ap (λ g. head (tail (tail g))) p) i) (term_inj a2 b2 (ap (λ g. tail (tail (tail g))) p) i)
term_inj (choice a0 a1 a2) (truth_choice b0 b1 b2) p = absurd (apart 6 7 p (omega arith))
term_inj (truth_choice a0 a1 a2) (constant b0) p = absurd (apart 7 0 p (omega arith))
term_inj (truth_choice a0 a1 a2) (variable b0 b1) p = absurd (apart 7 1 p (omega arith))
term_inj (truth_choice a0 a1 a2) (truth b0) p = absurd (apart 7 2 p (omega arith))
term_inj (truth_choice a0 a1 a2) (truth_variable b0) p = absurd (apart 7 3 p (omega arith))
term_inj (truth_choice a0 a1 a2) (unary b0 b1) p = absurd (apart 7 4 p (omega arith))
term_inj (truth_choice a0 a1 a2) (binary b0 b1 b2) p = absurd (apart 7 5 p (omega arith))
term_inj (truth_choice a0 a1 a2) (choice b0 b1 b2) p = absurd (apart 7 6 p (omega arith))
term_inj (truth_choice a0 a1 a2) (truth_choice b0 b1 b2) p = λ i. truth_choice (term_inj a0 b0 (ap (λ g. head (tail g)) p) i) (term_inj a1 b1 (ap (λ g. head (tail (tail g))) p) i) (term_inj a2 b2 (ap (λ g. tail (tail (tail g))) p) i)

abbrev pub coded_term : Coded Term
coded_term = record { code = term_code; inj = term_inj }
