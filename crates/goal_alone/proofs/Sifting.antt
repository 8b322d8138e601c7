-- The inputs that are true are those whose bits are.
use Rattle.std.proofs.Common.{◌≡◌, ℕ, suc, ◌+◌, ◌<◌, Bool, true, false, List, [], ◌∷◌, ◌++◌, length, take, get_or, nat_eq, sym, ◌∙◌, ap, arith}
use Rattle.std.specs.Prelude.{◌&&◌, ◌||◌}
use Rattle.std.specs.List.{list_any, enumerate_from}
use Rattle.std.proofs.Math.Bool.{or-false, and-true, and-false, or_assoc}
use Rattle.std.proofs.lemmas.List.{take_more, length-take-le}
use Rattle.std.proofs.lemmas.List.Folds.{list_any-append}
use Rattle.sat_form.specs.Truth.{value_of}
use Rattle.cone_walk.specs.declared.node.ConeNode.{ConeNode}
use Rattle.cone_walk.specs.declared.node.ConeNode.TheVariants.{Input}
use Rattle.goal_alone.specs.Satisfying.{is_input, node_bits}
use Rattle.goal_alone.specs.Inputs.{has}

-- an input that is true is noted
pub noted : (old new : List (ℕ × ℕ)) (a b : ℕ) → new ≡ old ++ (a, b) ∷ [] → (k j : ℕ) → has new k j ≡ (has old k j || (is_input k j (Input a b) && true))
noted old new a b e k j =
    ap (λ xs. has xs k j) e ∙ (list_any-append (λ p. nat_eq p.0 k && nat_eq p.1 j) old ((a, b) ∷ []) ∙ ap (λ c. has old k j || c) (or-false (nat_eq a k && nat_eq b j) ∙ sym (and-true (nat_eq a k && nat_eq b j))))

-- one that isn't, or a gate, is passed over
pub passed_false : (old : List (ℕ × ℕ)) (node : ConeNode) (k j : ℕ) → has old k j ≡ (has old k j || (is_input k j node && false))
passed_false old node k j = sym (ap (λ c. has old k j || c) (and-false (is_input k j node)) ∙ or-false (has old k j))

pub passed_gate : (old : List (ℕ × ℕ)) (b c : Bool) (k j : ℕ) → b ≡ false → has old k j ≡ (has old k j || (b && c))
passed_gate old b c k j e = rw e (sym (or-false (has old k j)))

module _ (values : ℕ → Bool) (k j : ℕ) where
  abbrev bits : ℕ → List ConeNode → Bool
  bits v nodes = list_any (λ p. is_input k j p.1 && values p.0) (enumerate_from v nodes)

  bits_last : (v : ℕ) (nodes : List ConeNode) (node : ConeNode) → bits v (nodes ++ node ∷ []) ≡ (bits v nodes || (is_input k j node && values (length nodes + v)))
  bits_last v [] node = let e : 0 + v ≡ v = omega arith in rw e (or-false (is_input k j node && values v))
  bits_last v (x ∷ xs) node =
      let e : suc (length xs) + v ≡ length xs + (v + 1) = omega arith in
      rw (e, bits_last (v + 1) xs node) (sym (or_assoc (is_input k j x && values v) (bits (v + 1) xs) (is_input k j node && values (length xs + (v + 1)))))

-- one node more
pub bits_more : (nodes : List ConeNode) (values : List Bool) (i : ℕ) (node : ConeNode) → i < length nodes → node ≡ get_or nodes i node → (k j : ℕ)
    → (node_bits (take i nodes) (value_of values) k j || (is_input k j node && get_or values (i + 1) false)) ≡ node_bits (take (i + 1) nodes) (value_of values) k j
bits_more nodes values i node l e k j =
    let one : take (i + 1) nodes ≡ take i nodes ++ node ∷ [] = take_more nodes i node l ∙ ap (λ x. take i nodes ++ x ∷ []) (sym e) in
    let n : length (take i nodes) ≡ i = length-take-le i nodes (omega arith) in
    let v : length (take i nodes) + 2 ≡ suc (i + 1) = omega arith in
    sym (ap (λ ns. node_bits ns (value_of values) k j) one
    ∙ (bits_last (value_of values) k j 2 (take i nodes) node
    ∙ ap (λ m. node_bits (take i nodes) (value_of values) k j || (is_input k j node && value_of values m)) v))
