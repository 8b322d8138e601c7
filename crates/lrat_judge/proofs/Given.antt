-- The clauses of a formula, one after the other.
use Rattle.std.proofs.Common.{◌≡◌, ℕ, zero, suc, ◌+◌, ◌≤◌, false, cond, List, [], ◌∷◌, ◌++◌, refl, ap, sym, ◌∙◌, arith, length, take, add-one, nat_eq, nat_lt}
use Rattle.std.specs.Prelude.{Some, None}
use Rattle.std.specs.List.{find, slice_get}
use Rattle.std.specs.Option.{option_map}
use Rattle.std.proofs.lemmas.List.{length-take}
use Rattle.std.proofs.lemmas.Grind.{common_steps}
use Rattle.sat_form.specs.Literals.{Literal}
use Rattle.lrat_lines.specs.Judge.{Clauses, Entry, clause_of, add_clause, given, given_from}

at_once : (n : ℕ) (c : List Literal) → add_clause [] (n + 0) c ≡ given_from n (c ∷ [])
at_once n c = let e : n + 0 ≡ n = omega arith in ap (λ k. add_clause [] k c) e

shifted : (n : ℕ) (c : List Literal) (cs : List (List Literal)) → n + length (c ∷ cs) ≡ (n + 1) + length cs
shifted n c cs = omega arith

not_before : (n : ℕ) (cs : List (List Literal)) → nat_lt ((n + 1) + length cs) n ≡ false
not_before n cs = grind (arith, common_steps)

not_here : (n : ℕ) (cs : List (List Literal)) → nat_eq n ((n + 1) + length cs) ≡ false
not_here n cs = grind (arith, common_steps)

-- the next clause of a formula stands at the end
pub add_next : (n : ℕ) (cs : List (List Literal)) (c : List Literal) → add_clause (given_from n cs) (n + length cs) c ≡ given_from n (cs ++ c ∷ [])
add_next n [] c = at_once n c
add_next n (d ∷ cs) c =
    ap (λ k. add_clause (given_from n (d ∷ cs)) k c) (shifted n d cs)
    ∙ ap (λ b. cond b (record { id = (n + 1) + length cs; lits = c } ∷ given_from n (d ∷ cs)) (record { id = n; lits = d } ∷ add_clause (given_from (n + 1) cs) ((n + 1) + length cs) c)) (not_before n cs)
    ∙ ap (λ (r : Clauses). record { id = n; lits = d } ∷ r) (add_next (n + 1) cs c)

-- its id isn't in use
pub next_free : (n : ℕ) (cs : List (List Literal)) → clause_of (given_from n cs) (n + length cs) ≡ None
next_free n [] = refl
next_free n (d ∷ cs) =
    ap (clause_of (given_from n (d ∷ cs))) (shifted n d cs)
    ∙ ap (λ b. option_map (λ (e : Entry). e.lits) (cond b (Some (record { id = n; lits = d })) (find (λ e. nat_eq e.id ((n + 1) + length cs)) (given_from (n + 1) cs)))) (not_here n cs)
    ∙ next_free (n + 1) cs

next_after : (cs : List (List Literal)) (i : ℕ) (c : List Literal) → slice_get cs i ≡ Some c → take (suc i) cs ≡ take i cs ++ c ∷ []
next_after [] i c e = cc
next_after (d ∷ cs) zero c e = let q : d ≡ c = cc in ap (λ x. x ∷ []) q
next_after (d ∷ cs) (suc i) c e = ap (λ r. d ∷ r) (next_after cs i c e)

next_one : (cs : List (List Literal)) (i : ℕ) (c : List Literal) → slice_get cs i ≡ Some c → take (i + 1) cs ≡ take i cs ++ c ∷ []
next_one cs i c e = ap (λ k. take k cs) (add-one i) ∙ next_after cs i c e

length_front : (cs : List (List Literal)) (i : ℕ) → i ≤ length cs → i + 1 ≡ 1 + length (take i cs)
length_front cs i h = omega (arith, length-take i cs)

-- The first clauses are in use, and the next id isn't.
pub free_behind : (db : Clauses) (cs : List (List Literal)) (i : ℕ) → i ≤ length cs → db ≡ given (take i cs) → clause_of db (i + 1) ≡ None
free_behind db cs i h e = ap (λ d. clause_of d (i + 1)) e ∙ ap (clause_of (given (take i cs))) (length_front cs i h) ∙ next_free 1 (take i cs)

-- one clause more
pub one_more_given : (db next : Clauses) (cs : List (List Literal)) (i : ℕ) (c lits : List Literal) → i ≤ length cs → slice_get cs i ≡ Some c → lits ≡ c → db ≡ given (take i cs) → next ≡ add_clause db (i + 1) lits → next ≡ given (take (i + 1) cs)
one_more_given db next cs i c lits h found same e n =
    n ∙ ap (add_clause db (i + 1)) same ∙ ap (λ d. add_clause d (i + 1) c) e ∙ ap (λ k. add_clause (given (take i cs)) k c) (length_front cs i h) ∙ add_next 1 (take i cs) c
    ∙ sym (ap given (next_one cs i c found))

pub none_past : (cs : List (List Literal)) (i : ℕ) → slice_get cs i ≡ None → length cs ≤ i
none_past [] i e = omega arith
none_past (d ∷ cs) zero e = cc
none_past (d ∷ cs) (suc i) e = let h = none_past cs i e in omega arith
