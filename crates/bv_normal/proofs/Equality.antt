-- The test of equality decides equality.
use Rattle.std.proofs.Common.{◌≡◌, ℕ, Bool, true, false, ◌&&◌, refl, ◌∙◌, ap}
use Rattle.std.specs.Prelude.{◌==◌, not}
use Rattle.std.proofs.lemmas.Bool.{eqb-true}
use Rattle.bv_value.specs.Bits.{differ}
use Rattle.bv_expr.specs.declared.ops.Unary.{Unary}
use Rattle.bv_expr.specs.declared.ops.Unary.TheVariants as of
use Rattle.bv_expr.specs.declared.ops.Binary.{Binary}
use Rattle.bv_expr.specs.declared.ops.Binary.TheVariants as on
use Rattle.bv_expr.specs.Term.{Term, constant, variable, truth, truth_variable, unary, binary, choice, truth_choice}
use Rattle.bv_normal.specs.Same.{same, same_unary, same_binary}
use Rattle.bv_normal.proofs.Laws.{one_vector, number_itself}

pub both : (a b : Bool) → a && b ≡ true → (a ≡ true) × (b ≡ true)
both true true e = (refl, refl)
both true false e = cc
both false b e = cc

joined : (a b : Bool) → a ≡ true → b ≡ true → a && b ≡ true
joined true true e h = refl
joined true false e h = cc
joined false b e h = cc

same_truths : (a b : Bool) → not (differ a b) ≡ true → a ≡ b
same_truths true true e = refl
same_truths true false e = cc
same_truths false true e = cc
same_truths false false e = refl

truth_itself : (a : Bool) → not (differ a a) ≡ true
truth_itself true = refl
truth_itself false = refl

unary_is : (op p : Unary) → same_unary op p ≡ true → op ≡ p
unfolding same_unary
unary_is of.Not of.Not e = refl
unary_is of.Neg of.Neg e = refl
unary_is of.Msb of.Msb e = refl
unary_is of.TNot of.TNot e = refl
unary_is (of.ShlBy m) (of.ShlBy n) e = ap of.ShlBy (eqb-true m n e)
unary_is (of.LshrBy m) (of.LshrBy n) e = ap of.LshrBy (eqb-true m n e)
unary_is (of.AshrBy m) (of.AshrBy n) e = ap of.AshrBy (eqb-true m n e)
unary_is (of.RotL m) (of.RotL n) e = ap of.RotL (eqb-true m n e)
unary_is (of.RotR m) (of.RotR n) e = ap of.RotR (eqb-true m n e)
unary_is (of.Bit m) (of.Bit n) e = ap of.Bit (eqb-true m n e)
unary_is (of.SetWidth m) (of.SetWidth n) e = ap of.SetWidth (eqb-true m n e)
unary_is (of.SignExtend m) (of.SignExtend n) e = ap of.SignExtend (eqb-true m n e)
unary_is (of.Extract start len) (of.Extract from count) e = (let b = both (start == from) (len == count) e in ap (λ (n : ℕ). of.Extract n len) (eqb-true start from b.0) ∙ ap (of.Extract from) (eqb-true len count b.1))
unary_is _ _ e = cc

unary_itself : (op : Unary) → same_unary op op ≡ true
unfolding same_unary
unary_itself of.Not = refl
unary_itself of.Neg = refl
unary_itself of.Msb = refl
unary_itself of.TNot = refl
unary_itself (of.ShlBy n) = number_itself n
unary_itself (of.LshrBy n) = number_itself n
unary_itself (of.AshrBy n) = number_itself n
unary_itself (of.RotL n) = number_itself n
unary_itself (of.RotR n) = number_itself n
unary_itself (of.Bit n) = number_itself n
unary_itself (of.SetWidth n) = number_itself n
unary_itself (of.SignExtend n) = number_itself n
unary_itself (of.Extract start len) = joined _ _ (number_itself start) (number_itself len)

binary_is : (op p : Binary) → same_binary op p ≡ true → op ≡ p
unfolding same_binary
binary_is on.And on.And e = refl
binary_is on.Or on.Or e = refl
binary_is on.Xor on.Xor e = refl
binary_is on.Add on.Add e = refl
binary_is on.Sub on.Sub e = refl
binary_is on.Mul on.Mul e = refl
binary_is on.Udiv on.Udiv e = refl
binary_is on.Umod on.Umod e = refl
binary_is on.Sdiv on.Sdiv e = refl
binary_is on.Srem on.Srem e = refl
binary_is on.Smod on.Smod e = refl
binary_is on.Append on.Append e = refl
binary_is on.Shl on.Shl e = refl
binary_is on.Lshr on.Lshr e = refl
binary_is on.Ashr on.Ashr e = refl
binary_is on.Eq on.Eq e = refl
binary_is on.Ult on.Ult e = refl
binary_is on.Ule on.Ule e = refl
binary_is on.Slt on.Slt e = refl
binary_is on.Sle on.Sle e = refl
binary_is on.TAnd on.TAnd e = refl
binary_is on.TOr on.TOr e = refl
binary_is on.TXor on.TXor e = refl
binary_is on.Implies on.Implies e = refl
binary_is on.TEq on.TEq e = refl
binary_is _ _ e = cc

binary_itself : (op : Binary) → same_binary op op ≡ true
unfolding same_binary
binary_itself on.And = refl
binary_itself on.Or = refl
binary_itself on.Xor = refl
binary_itself on.Add = refl
binary_itself on.Sub = refl
binary_itself on.Mul = refl
binary_itself on.Udiv = refl
binary_itself on.Umod = refl
binary_itself on.Sdiv = refl
binary_itself on.Srem = refl
binary_itself on.Smod = refl
binary_itself on.Append = refl
binary_itself on.Shl = refl
binary_itself on.Lshr = refl
binary_itself on.Ashr = refl
binary_itself on.Eq = refl
binary_itself on.Ult = refl
binary_itself on.Ule = refl
binary_itself on.Slt = refl
binary_itself on.Sle = refl
binary_itself on.TAnd = refl
binary_itself on.TOr = refl
binary_itself on.TXor = refl
binary_itself on.Implies = refl
binary_itself on.TEq = refl

three_equal : (f : Term → Term → Term → Term) (c x y d v w : Term) → c ≡ d → x ≡ v → y ≡ w → f c x y ≡ f d v w
three_equal f c x y d v w p q r = rw (p, q, r) refl

pub same_is : (t u : Term) → same t u ≡ true → t ≡ u
unfolding same
same_is (constant v) (constant w) e = (let b = both (v.width == w.width) (v.number == w.number) e in ap constant (one_vector v w (eqb-true v.width w.width b.0) (eqb-true v.number w.number b.1)))
same_is (variable k v) (variable l w) e = (let b = both (k == l) (v == w) e in ap (λ (n : ℕ). variable n v) (eqb-true k l b.0) ∙ ap (variable l) (eqb-true v w b.1))
same_is (truth a) (truth b) e = ap truth (same_truths a b e)
same_is (truth_variable k) (truth_variable l) e = ap truth_variable (eqb-true k l e)
same_is (unary op x) (unary p y) e = (let b = both (same_unary op p) (same x y) e in ap (λ o. unary o x) (unary_is op p b.0) ∙ ap (unary p) (same_is x y b.1))
same_is (binary op x y) (binary p v w) e =
    let b = both (same_binary op p) (same x v && same y w) e in
    let c = both (same x v) (same y w) b.1 in
    ap (λ o. binary o x y) (binary_is op p b.0) ∙ (ap (λ z. binary p z y) (same_is x v c.0) ∙ ap (binary p v) (same_is y w c.1))
same_is (choice c x y) (choice d v w) e =
    let b = both (same c d) (same x v && same y w) e in
    let g = both (same x v) (same y w) b.1 in
    three_equal choice c x y d v w (same_is c d b.0) (same_is x v g.0) (same_is y w g.1)
same_is (truth_choice c x y) (truth_choice d v w) e =
    let b = both (same c d) (same x v && same y w) e in
    let g = both (same x v) (same y w) b.1 in
    three_equal truth_choice c x y d v w (same_is c d b.0) (same_is x v g.0) (same_is y w g.1)
same_is _ _ e = cc

pub same_itself : (t : Term) → same t t ≡ true
unfolding same
same_itself (constant v) = joined _ _ (number_itself v.width) (number_itself v.number)
same_itself (variable k w) = joined _ _ (number_itself k) (number_itself w)
same_itself (truth b) = truth_itself b
same_itself (truth_variable k) = number_itself k
same_itself (unary op x) = joined _ _ (unary_itself op) (same_itself x)
same_itself (binary op x y) = joined _ _ (binary_itself op) (joined _ _ (same_itself x) (same_itself y))
same_itself (choice c x y) = joined _ _ (same_itself c) (joined _ _ (same_itself x) (same_itself y))
same_itself (truth_choice c x y) = joined _ _ (same_itself c) (joined _ _ (same_itself x) (same_itself y))

-- the two ways, of a term that a test found the same
pub same_decides : (t u : Term) → (same t u ≡ true → t ≡ u) × (t ≡ u → same t u ≡ true)
same_decides t u = (same_is t u, λ e. rw e (same_itself u))
