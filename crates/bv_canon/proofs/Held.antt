-- The terms of a goal without misfits are expressions: they have sorts, their leaves fit, and they are at most 1,000 deep.
use Rattle.std.proofs.Common.{◌≡◌, Bool, true, false, ◌&&◌, ℕ, ◌<◌, List, [], ◌++◌, Some, None, refl, sym, subst, arith}
use Rattle.std.specs.Prelude.{All, IsSome, nat_le, if◌then◌else◌, option_and_then}
use Rattle.std.proofs.lemmas.Bool.{leb-true}
use Rattle.std.proofs.lemmas.List.Elements.{All-head}
use Rattle.bv_lex.proofs.Encoding.{and_parts}
use Rattle.bv_expr.specs.declared.ops.Sort.{Sort}
use Rattle.bv_expr.specs.declared.ops.Sort.TheVariants.{Truth, Vector}
use Rattle.bv_expr.specs.Goal.{Binders, variables}
use Rattle.bv_expr.specs.Term.{Term, constant, variable, truth, truth_variable, unary, binary, choice, truth_choice}
use Rattle.bv_expr.specs.Sorts.{vectors, unary_sort, binary_sort, choice_sort, truth_choice_sort, sort_of, LeavesFit, IsExpr}
use Rattle.bv_trees.specs.Trees.{Tree}
use Rattle.bv_typing.specs.declared.kind.Kind.TheVariants as kind
use Rattle.bv_typing.specs.Variables.{binders_of}
use Rattle.bv_typing.specs.Readings.{Env, term}
use Rattle.bv_typing.specs.Goals.{misfits, truth_misfits}
use Rattle.bv_terms.specs.Sorting.{IsWidth}
use Rattle.bv_terms.proofs.Built.{Numbered, shallow}
use Rattle.bv_terms.proofs.Depths.{term_depth}
use Rattle.bv_terms.proofs.OverTerms.{term_over}
use Rattle.bv_terms.proofs.OverTrees.{typed_truth, truth_term}
use Rattle.bv_canon.proofs.Stated.{Fine, IsKnown, fine_term}
use Rattle.bv_canon.proofs.Terms.{and_then_parts, all_left, all_right}

pub width_within : (w : ℕ) (s : Sort) → vectors w ≡ Some s → IsWidth w
width_within w s h = go (nat_le 1 w && nat_le w 128) refl h
  where
    go : (b : Bool) → (nat_le 1 w && nat_le w 128) ≡ b → (if b then Some (Vector w) else None) ≡ Some s → IsWidth w
    go true e h = let p = and_parts (nat_le 1 w) (nat_le w 128) e in (leb-true 1 w p.0, leb-true w 128 p.1)
    go false e h = absurd (cc)

-- a variable's number is below 64
abbrev IsLow : ℕ × Sort → Type 0
IsLow v = v.0 < 64

three_low : (u v w : List (ℕ × Sort)) → All IsLow (u ++ (v ++ w)) → All IsLow u × All IsLow v × All IsLow w
three_low u v w n = let m = all_right IsLow u (v ++ w) n in (all_left IsLow u (v ++ w) n, all_left IsLow v w m, all_right IsLow v w m)

-- The widths of constants are those of sorts, so they are 1 to 128.
leaves_fit : (binders : Binders) (t : Term) (s : Sort) → sort_of t ≡ Some s → Fine binders t → All IsLow (variables t) → LeavesFit t
leaves_fit binders (constant v) s e f n = let w = width_within v.width s e in record { positive = w.0; at_most_128 = w.1; below = f }
leaves_fit binders (variable k w) s e f n = All-head IsLow (k, Vector w) [] n
leaves_fit binders (truth b) s e f n = tt
leaves_fit binders (truth_variable k) s e f n = All-head IsLow (k, Truth) [] n
leaves_fit binders (unary op x) s e f n = let p = and_then_parts (unary_sort op) (sort_of x) s e in leaves_fit binders x p.0 p.1 f.1 n
leaves_fit binders (binary op x y) s e f n =
    let p = and_then_parts (λ u. option_and_then (binary_sort op u) (sort_of y)) (sort_of x) s e in
    let q = and_then_parts (binary_sort op p.0) (sort_of y) s p.2 in
    let left = all_left IsLow (variables x) (variables y) n in
    let right = all_right IsLow (variables x) (variables y) n in
    (leaves_fit binders x p.0 p.1 f.0 left, leaves_fit binders y q.0 q.1 f.1 right)
leaves_fit binders (choice c x y) s e f n =
    let o = and_then_parts (λ r. option_and_then (λ s. option_and_then (choice_sort r s) (sort_of y)) (sort_of x)) (sort_of c) s e in
    let p = and_then_parts (λ s. option_and_then (choice_sort o.0 s) (sort_of y)) (sort_of x) s o.2 in
    let q = and_then_parts (choice_sort o.0 p.0) (sort_of y) s p.2 in
    let m = three_low (variables c) (variables x) (variables y) n in
    (leaves_fit binders c o.0 o.1 f.0 m.0, leaves_fit binders x p.0 p.1 f.1 m.1, leaves_fit binders y q.0 q.1 f.2 m.2)
leaves_fit binders (truth_choice c x y) s e f n =
    let o = and_then_parts (λ r. option_and_then (λ s. option_and_then (truth_choice_sort r s) (sort_of y)) (sort_of x)) (sort_of c) s e in
    let p = and_then_parts (λ s. option_and_then (truth_choice_sort o.0 s) (sort_of y)) (sort_of x) s o.2 in
    let q = and_then_parts (truth_choice_sort o.0 p.0) (sort_of y) s p.2 in
    let m = three_low (variables c) (variables x) (variables y) n in
    (leaves_fit binders c o.0 o.1 f.0 m.0, leaves_fit binders x p.0 p.1 f.1 m.1, leaves_fit binders y q.0 q.1 f.2 m.2)

-- a truth without misfits
pub held : (e : Env) → IsKnown e → Numbered e → (x : Tree) → misfits e x ≡ [] → truth_misfits e x ≡ [] → IsExpr (term e 0 x)
held e k n x h g =
    let sort = truth_term e k.bounded x h g in
    record {
      sorted = subst IsSome (sym sort) refl;
      leaves = leaves_fit (binders_of e.bounds) (term e 0 x) Truth sort (fine_term e k 0 x) (term_over IsLow e n 0 x);
      shallow = omega (arith, term_depth e 0 x, shallow e x (kind.Sorted Truth) (typed_truth e x h g));
    }
