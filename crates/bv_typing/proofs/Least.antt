-- The fault at the least place of two lists of faults.
use Rattle.std.proofs.Common.{◌≡◌, ℕ, ◌<◌, ◌≤◌, Bool, true, false, nat_le, List, [], ◌∷◌, ◌++◌, Option, Some, None, refl, sym, ap, arith, ◌∙◌}
use Rattle.std.specs.Prelude.{if◌then◌else◌}
use Rattle.bv_typing.specs.declared.misfit.Misfit.{Misfit}
use Rattle.bv_typing.specs.Goals.{earlier, least}
use Rattle.bv_typing.specs.Earliest.{also}

at_most : (m n : ℕ) → nat_le m n ≡ true → m ≤ n
at_most m n e = grind arith

above : (m n : ℕ) → nat_le m n ≡ false → n < m
above m n e = grind arith

the_first : (f g : Misfit) → nat_le f.at g.at ≡ true → earlier f (Some g) ≡ f
the_first f g e = ap (λ (b : Bool). if b then f else g) e

the_second : (f g : Misfit) → nat_le f.at g.at ≡ false → earlier f (Some g) ≡ g
the_second f g e = ap (λ (b : Bool). if b then f else g) e

three_by : (f g h : Misfit) (a b c : Bool) → nat_le f.at g.at ≡ a → nat_le g.at h.at ≡ b → nat_le f.at h.at ≡ c → earlier (earlier f (Some g)) (Some h) ≡ earlier f (Some (earlier g (Some h)))
three_by f g h true true true d e k = ap (λ (x : Misfit). earlier x (Some h)) (the_first f g d) ∙ the_first f h k ∙ sym (ap (λ (x : Misfit). earlier f (Some x)) (the_first g h e) ∙ the_first f g d)
three_by f g h true true false d e k = absurd (omega (arith, at_most f.at g.at d, at_most g.at h.at e, above f.at h.at k))
three_by f g h true false c d e k = ap (λ (x : Misfit). earlier x (Some h)) (the_first f g d) ∙ sym (ap (λ (x : Misfit). earlier f (Some x)) (the_second g h e))
three_by f g h false true c d e k = ap (λ (x : Misfit). earlier x (Some h)) (the_second f g d) ∙ the_first g h e ∙ sym (ap (λ (x : Misfit). earlier f (Some x)) (the_first g h e) ∙ the_second f g d)
three_by f g h false false true d e k = absurd (omega (arith, above f.at g.at d, above g.at h.at e, at_most f.at h.at k))
three_by f g h false false false d e k = ap (λ (x : Misfit). earlier x (Some h)) (the_second f g d) ∙ the_second g h e ∙ sym (ap (λ (x : Misfit). earlier f (Some x)) (the_second g h e) ∙ the_second f h k)

pub also_none : (m : Option Misfit) → also m None ≡ m
also_none None = refl
also_none (Some f) = refl

pub also_assoc : (a b c : Option Misfit) → also (also a b) c ≡ also a (also b c)
also_assoc None b c = refl
also_assoc (Some f) None c = refl
also_assoc (Some f) (Some g) None = refl
also_assoc (Some f) (Some g) (Some h) = ap Some (three_by f g h _ _ _ refl refl refl)

pub least-append : (fs gs : List Misfit) → least (fs ++ gs) ≡ also (least fs) (least gs)
least-append [] gs = refl
least-append (f ∷ fs) gs = ap (λ (m : Option Misfit). also (Some f) m) (least-append fs gs) ∙ sym (also_assoc (Some f) (least fs) (least gs))

-- faults behind others
pub least_behind : (m : Option Misfit) (fs gs : List Misfit) → also (also m (least fs)) (least gs) ≡ also m (least (fs ++ gs))
least_behind m fs gs = also_assoc m (least fs) (least gs) ∙ ap (also m) (sym (least-append fs gs))
