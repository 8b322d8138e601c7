use Rattle.std.proofs.Common.{◌≡◌, ◌≤◌, ◌-◌, ◌++◌, ◌∷◌, [], List, length, take, get_or, sym, ap, ◌∙◌, arith, ℕ}
use Rattle.gate_shape.specs.Literal.{Literal, opposite}
use Rattle.blast_arith.specs.Comparisons.{with_top}
use Rattle.blast_arith.proofs.Comparing.{with_top-push, top_cut}
use Rattle.blast_arith.proofs.comparisons.with_sign_turned.Goals as goal

flipped : (xs : List Literal) (i : ℕ) (l : Literal) → 1 ≤ length xs → i ≡ length xs - 1 → l ≡ get_or xs i l → take i xs ++ opposite l ∷ [] ≡ with_top opposite xs
flipped xs i l n e h =
    let cut : xs ≡ take i xs ++ l ∷ [] = (let t = top_cut l xs n in rw (← e, ← h) at t) in
    sym (ap (with_top opposite) cut ∙ with_top-push opposite (take i xs) l)

pub returns : goal.returns
returns c =
    let e = flipped c.args.x.now (length c.args.x.now - 1) c.index-x-top.result c.requires (omega arith) c.index-x-top.is in
    let i : c.loop-i.i ≡ length c.args.x.now - 1 = omega arith in
    let inv : c.loop-i.out.items ≡ take (length c.args.x.now - 1) c.args.x.now = c.loop-i.invariant ∙ ap (λ k. take k c.args.x.now) i in
    c.in_ok-append-2.ensures ∙ (ap (λ z. z ++ c.not.result ∷ []) inv ∙ (ap (λ z. take (length c.args.x.now - 1) c.args.x.now ++ z ∷ []) c.not.ensures ∙ e))
