use Rattle.std.proofs.Common.{◌≡◌, ◌++◌, ◌∷◌, [], ◌∙◌, sym, ap, length, arith, refl, take, List, ◌-◌}
use Rattle.std.specs.Vec.{vec_len}
use Rattle.gate_shape.proofs.Filing.{filed_same, filed_push}
use Rattle.gate_shape.proofs.gates.Gates.push.Goals as goal

pub invariant_of-self-in_default : goal.invariant_of-self-in_default
invariant_of-self-in_default c =
    let v = c.self.inside.entries.ok.0 in
    let n : c.len-at.result ≡ length c.self.inside.entries.items = c.len-at.ensures ∙ omega arith in
    rw c.in_ok-push.ensures.items (filed_push c.self.inside.places c.insert.new.self c.self.inside.entries.items _ c.len-at.result c.self.invariant n (rw (sym c.self.view_is) at c.requires.new) (rw (c.bits.ensures.value, c.bits-2.ensures.value) at c.in_default.ensures.updates.0))

front : {A : Type 0} (xs ys : List A) → take (length xs) (xs ++ ys) ≡ xs
front [] ys = refl
front (x ∷ xs) ys = ap (λ z. x ∷ z) (front xs ys)

pub invariant_of-self-in-Err : goal.invariant_of-self-in-Err
invariant_of-self-in-Err c =
    let v = c.push.new.self.ok.0 in
    let o = c.self.inside.entries.ok.0 in
    let e = c.in_ok-push.ensures.len in
    let n : vec_len c.push.new.self - 1 ≡ length c.self.inside.entries.items = omega arith in
    let p : c.pop.new.self.items ≡ c.self.inside.entries.items = c.pop.ensures.rest ∙ (ap (λ i. take i c.push.new.self.items) n ∙ (ap (λ xs. take (length c.self.inside.entries.items) xs) c.in_ok-push.ensures.items ∙ front c.self.inside.entries.items _)) in
    rw p (filed_same c.self.inside.places c.insert.new.self c.self.inside.entries.items c.self.invariant c.in-Err.ensures.err)
