-- A file that is written in pieces, one after the other.
use Rattle.std.proofs.Common.{◌≡◌, ℕ, ◌+◌, ◌≤◌, List, [], ◌++◌, length, take, drop, refl, sym, ap, ◌∙◌, subst, arith, Some, None, Bool, cond, true, false, IfSome, IsSome}
use Rattle.std.specs.Prelude.{Option, option_map, unwrap_or}
use Rattle.std.specs.Ordering.{nat_cmp, is_eq, eq_by_cmp}
use Rattle.std.specs.Cmp.Lexicographic.{slice_cmp, nat_list_cmp_total}
use Rattle.std.specs.FinMap as fin
use Rattle.std.proofs.lemmas.Cmp.{tied_itself}
use Rattle.std.proofs.lemmas.List.{length-drop, length-take, take-take}
use Rattle.std.proofs.Math.Seq.{take-add}
use Rattle.bvd_host.specs.Files.{Files, file_at, with_file, with_more}

tied : (k : List ℕ) → eq_by_cmp (slice_cmp nat_cmp) k k ≡ true
tied k = ap is_eq (tied_itself nat_list_cmp_total k)

-- what was put under a name is there
found : (f : Files) (k x : List ℕ) → file_at (with_file f k x) k ≡ Some x
found f k x = fin.get-insert nat_list_cmp_total f k x k ∙ ap (λ b. cond b (Some x) (file_at f k)) (tied k)

same_cond : (b : Bool) (x y z : Option (List ℕ)) → cond b x (cond b y z) ≡ cond b x z
same_cond true x y z = refl
same_cond false x y z = refl

twice : (f : Files) (k x y : List ℕ) → with_file (with_file f k x) k y ≡ with_file f k y
twice f k x y = fin.same_map nat_list_cmp_total (fin.slice_cmp-IsAntisymmetric fin.nat_cmp-IsAntisymmetric) _ _ (λ q.
    fin.get-insert nat_list_cmp_total (with_file f k x) k y q
    ∙ ap (cond (eq_by_cmp (slice_cmp nat_cmp) q k) (Some y)) (fin.get-insert nat_list_cmp_total f k x q)
    ∙ same_cond (eq_by_cmp (slice_cmp nat_cmp) q k) (Some y) (Some x) (file_at f q)
    ∙ sym (fin.get-insert nat_list_cmp_total f k y q))

-- a piece at the end of what was written
with_more-with_file : (f : Files) (k x y : List ℕ) → with_more (with_file f k x) k y ≡ with_file f k (x ++ y)
with_more-with_file f k x y = ap (λ o. with_file (with_file f k x) k (unwrap_or o [] ++ y)) (found f k x) ∙ twice f k x (x ++ y)

piece_of : (o : Option Files) (k bytes : List ℕ) (at n : ℕ)
    → option_map (λ f. with_more f k (take n (drop at bytes))) (option_map (λ f. with_file f k (take at bytes)) o) ≡ option_map (λ f. with_file f k (take (at + n) bytes)) o
piece_of None k bytes at n = refl
piece_of (Some f) k bytes at n = ap Some (with_more-with_file f k (take at bytes) (take n (drop at bytes)) ∙ ap (with_file f k) (sym (take-add at n bytes)))

-- one piece more is written
pub piece_more : (o mid new : Option Files) (k bytes : List ℕ) (at n size : ℕ) (piece : List ℕ) → mid ≡ option_map (λ f. with_file f k (take at bytes)) o
    → new ≡ option_map (λ f. with_more f k (take n piece)) mid → piece ≡ take size (drop at bytes) → n ≤ length piece → new ≡ option_map (λ f. with_file f k (take (at + n) bytes)) o
piece_more o mid new k bytes at n size piece p q e within =
    let few : length piece ≤ size = omega (arith, ap length e ∙ length-take size (drop at bytes)) in
    let front : take n piece ≡ take n (drop at bytes) = ap (take n) e ∙ take-take n size (drop at bytes) (omega arith) in
    q ∙ ap (λ l. option_map (λ f. with_more f k l) mid) front ∙ ap (option_map (λ f. with_more f k (take n (drop at bytes)))) p ∙ piece_of o k bytes at n

there_of : (o : Option Files) (k x : List ℕ) → IfSome (option_map (λ f. with_file f k x) o) (λ f. IsSome (file_at f k))
there_of None k x = tt
there_of (Some f) k x = let P : Option (List ℕ) → Type 0 = IsSome in subst P (sym (found f k x)) refl

-- the name that is written to is there
pub there : (o mid : Option Files) (k x : List ℕ) → mid ≡ option_map (λ f. with_file f k x) o → IfSome mid (λ f. IsSome (file_at f k))
there o mid k x e = let P : Option Files → Type 0 = λ m. IfSome m (λ f. IsSome (file_at f k)) in subst P (sym e) (there_of o k x)

-- what is taken of a piece ends within the list
pub piece_within : (l : List ℕ) (at n size : ℕ) (piece : List ℕ) → at ≤ length l → piece ≡ take size (drop at l) → n ≤ length piece → at + n ≤ length l
piece_within l at n size piece h e k = omega (arith, ap length e ∙ length-take size (drop at l), length-drop at l)
