-- The net without a clause, and clauses without literals.
use Rattle.std.proofs.Common.{◌≡◌, ◌≢◌, ℕ, zero, suc, ◌+◌, ◌*◌, ◌<◌, ◌≤◌, Bool, true, false, cond, if◌then◌else◌, nat_lt, nat_le, ◌&&◌, List, [], ◌∷◌, ◌++◌, length, get_or, replicate, refl, ap, sym, ◌∙◌, subst, inl, inr, arith}
use Rattle.std.proofs.lemmas.Bool.{cases_lt, cases_eq}
use Rattle.std.proofs.lemmas.Grind.{common_steps}
use Rattle.std.proofs.lemmas.List.{get_or_append_left, get_or_past, length-append, length-replicate}
use Rattle.sat_form.specs.Literals.{Literal}
use Rattle.sat_form.specs.Shape.{are_within}
use Rattle.sat_form.proofs.Sets as sets
use Rattle.search_learn.proofs.Reached.{in_range_all}
use Rattle.search_watch.specs.declared.watch.Pair.{Pair}
use Rattle.search_watch.specs.Added.{filled, no_clause, none_pair}
use Rattle.search_watch.specs.Nets.{Net, IsNet}
use Rattle.search_watch.specs.Visits.{has, no_pair, pair_at}
use Rattle.search_watch.specs.Watched.{index_of, lesser}
use Rattle.search_watch.proofs.Added.{add-net}
use Rattle.search_watch.proofs.Kept.{lesser-here, lesser-low}
use Rattle.search_watch.proofs.Sound.{lesser-one}

no-list : (n i : ℕ) → get_or (replicate {A = List ℕ} n []) i [] ≡ []
no-list zero i = refl
no-list (suc n) zero = refl
no-list (suc n) (suc i) = no-list n i

index-low : (k : Literal) (vars : ℕ) → k.var ≤ vars → index_of k < 2 * vars + 2
index-low k vars low = one k.var k.positive low
  where
    one : (v : ℕ) (b : Bool) → v ≤ vars → 2 * v + (if b then 0 else 1) < 2 * vars + 2
    one v true low = omega arith
    one v false low = omega arith

pub start-net : (vars : ℕ) → IsNet vars [] [] (no_clause vars)
start-net vars = record {
  shape = record {
    size = λ i there. let low = there.within in absurd (omega arith);
    aligned = λ _. refl;
    room = λ k low. let size = length-replicate (2 * vars + 2) (the-none) in let h = index-low k vars low in omega arith;
    within = λ i j d low. absurd (omega arith);
    low = λ i. (omega arith, omega arith);
    entries = λ w i h. absurd (cc (subst (λ (x : List ℕ). has x i ≡ true) (no-list (2 * vars + 2) (index_of w)) h));
  };
  looked = λ i there. let low = there.within in absurd (omega arith);
  calm = λ i there. let low = there.within in absurd (omega arith);
  sound = record { units_are = λ u h. absurd (omega (arith, h.1)); least_is = λ j e. absurd (cc) };
  least_low = λ j e. absurd (cc);
  empty = λ i low none. absurd (omega arith);
  fresh = λ i low none. refl;
}
  where
    the-none : List ℕ
    the-none = []

filled-kept : (vars i : ℕ) (ps : List Pair) → i < length ps → pair_at (filled vars ps) i ≡ pair_at ps i
filled-kept vars i ps low = elim (nat_lt 0 vars) as (λ b. pair_at (cond b (ps ++ none_pair ∷ []) ps) i ≡ pair_at ps i) [ true ↦ get_or_append_left ps (none_pair ∷ []) no_pair i low | false ↦ refl ]

filled-low : (vars i : ℕ) (ps : List Pair) → ((j : ℕ) → ((pair_at ps j).first.var ≤ vars) × ((pair_at ps j).second.var ≤ vars)) → ((pair_at (filled vars ps) i).first.var ≤ vars) × ((pair_at (filled vars ps) i).second.var ≤ vars)
filled-low vars i ps low = elim (nat_lt 0 vars) as (λ b. nat_lt 0 vars ≡ b → ((pair_at (cond b (ps ++ none_pair ∷ []) ps) i).first.var ≤ vars) × ((pair_at (cond b (ps ++ none_pair ∷ []) ps) i).second.var ≤ vars)) [
  | false ↦ λ _. low i
  | true ↦ λ some. let above : 0 < vars = grind (arith, common_steps) in elim (cases_lt i (length ps)) as (λ _. ((pair_at (ps ++ none_pair ∷ []) i).first.var ≤ vars) × ((pair_at (ps ++ none_pair ∷ []) i).second.var ≤ vars)) [
    | inl under ↦ subst (λ (p : Pair). (p.first.var ≤ vars) × (p.second.var ≤ vars)) (sym (get_or_append_left ps (none_pair ∷ []) no_pair i under)) (low i)
    | inr over ↦ elim (cases_eq i (length ps)) as (λ _. ((pair_at (ps ++ none_pair ∷ []) i).first.var ≤ vars) × ((pair_at (ps ++ none_pair ∷ []) i).second.var ≤ vars)) [
      | inl e ↦ subst (λ (p : Pair). (p.first.var ≤ vars) × (p.second.var ≤ vars)) (sym (ap (λ (m : ℕ). pair_at (ps ++ none_pair ∷ []) m) e ∙ last ps)) (omega arith, omega arith)
      | inr d ↦ let size = length-append ps (none_pair ∷ []) in subst (λ (p : Pair). (p.first.var ≤ vars) × (p.second.var ≤ vars)) (sym (get_or_past (ps ++ none_pair ∷ []) i no_pair (omega arith))) (omega arith, omega arith)
    ]
  ]
] refl
  where
    last : (ps : List Pair) → get_or (ps ++ none_pair ∷ []) (length ps) no_pair ≡ none_pair
    last [] = refl
    last (x ∷ ps) = last ps

filled-length : (vars : ℕ) (ps : List Pair) → 0 < vars → length (filled vars ps) ≡ length ps + 1
filled-length vars ps above = elim (nat_lt 0 vars) as (λ b. nat_lt 0 vars ≡ b → length (cond b (ps ++ none_pair ∷ []) ps) ≡ length ps + 1) [ true ↦ λ _. length-append ps (none_pair ∷ []) | false ↦ λ none. absurd (grind (arith, common_steps)) ] refl

filled-longer : (vars : ℕ) (ps : List Pair) → length ps ≤ length (filled vars ps)
filled-longer vars ps = elim (nat_lt 0 vars) as (λ b. length ps ≤ length (cond b (ps ++ none_pair ∷ []) ps)) [ true ↦ let size = length-append ps (none_pair ∷ []) in omega arith | false ↦ omega arith ]

pub empty-net : (vars : ℕ) (n : Net) → IsNet vars [] [] n → IsNet vars [] [] (record n { clauses = n.clauses ++ [] ∷ []; pairs = filled vars n.pairs; least = lesser n.least (length n.clauses) })
empty-net vars n net = add-net vars [] n [] (record n { clauses = n.clauses ++ [] ∷ []; pairs = filled vars n.pairs; least = lesser n.least (length n.clauses) }) net (record {
  clauses = refl;
  kept = λ i low. elim (cases_lt i (length n.pairs)) as (λ _. pair_at (filled vars n.pairs) i ≡ pair_at n.pairs i) [
    | inl under ↦ filled-kept vars i n.pairs under
    | inr over ↦ elim (cases_eq vars 0) as (λ _. pair_at (filled vars n.pairs) i ≡ pair_at n.pairs i) [
      | inl none ↦ ap (λ (v : ℕ). pair_at (filled v n.pairs) i) none
      | inr some ↦ let aligned = net.shape.aligned (omega arith) in absurd (omega arith)
    ]
  ];
  aligned = λ some. filled-length vars n.pairs some ∙ ap (λ (m : ℕ). m + 1) (net.shape.aligned some);
  longer = filled-longer vars n.pairs;
  low = λ i. filled-low vars i n.pairs net.shape.low;
  room = refl;
  grown = λ w i h. h;
  from = λ w i h. inl h;
  units_more = λ u h. h;
  units_from = λ u h. inl h;
  least_more = λ i h. lesser-low n.least (length n.clauses) i h;
  least_from = λ j e. elim (lesser-one n.least (length n.clauses) j e) [ inl here ↦ inr (here, refl) | inr old ↦ inl old ];
  within = λ k d low. absurd (omega arith);
  variables = λ some. absurd (some refl);
  looked = λ some. absurd (some refl);
  calm = λ some. absurd (some refl);
  none = λ _. lesser-here n.least (length n.clauses);
  fresh = λ _. refl;
})

-- A clause with literals has variables.
pub within-some : (vars : ℕ) (c : List Literal) → c ≢ [] → are_within vars c ≡ true → 0 < vars
within-some vars [] some h = absurd (some refl)
within-some vars (l ∷ c) some h = let range = in_range_all vars l (sets.both (nat_lt 0 l.var && nat_le l.var vars) (are_within vars c) h).0 in let a = range.0 in let b = range.1 in omega arith
