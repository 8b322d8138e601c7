-- The names and the stored files of the goals of a file are those that the syntax can spell.
use Rattle.std.proofs.Common.{◌≡◌, Bool, true, false, ℕ, suc, ◌+◌, ◌-◌, ◌<◌, ◌≤◌, List, [], ◌∷◌, ◌++◌, Option, Some, None, refl, sym, subst, arith, ap, ap₂, ◌∙◌, codes}
use Rattle.std.specs.Prelude.{All, flat_map, nat_eq, if◌then◌else◌}
use Rattle.std.specs.List.{range_with_len}
use Rattle.std.proofs.lemmas.Bool.Decides.{Decides-eqb}
use Rattle.std.proofs.lemmas.List.Elements.{All-nil, All-cons, All-head, All-tail, All-append}
use Rattle.bv_lex.specs.Cut.{AreTokens}
use Rattle.bv_grammar.specs.declared.words.Terminal.TheVariants as terminal_kinds
use Rattle.bv_expr.specs.declared.ops.Sort.{Sort}
use Rattle.bv_trees.specs.Trees.{Binder}
use Rattle.bv_trees.specs.Terms.{IsAt}
use Rattle.bv_trees.specs.Files as f
use Rattle.bv_typing.specs.Source.{Source, text_at}
use Rattle.bv_typing.specs.Variables.{Bound, bounds, all_bounds, sorted_binder, binders_of, sort_at}
use Rattle.bv_typing.specs.Goals.{path_text, name_between}
use Rattle.bv_canon.specs.Names.{IsName, IsPart, IsPath, IsGoalName, unnamed, named}
use Rattle.bv_canon.specs.Reading.{terminals}
use Rattle.bv_canon.proofs.Tokens.{name_is, dot_spelled, part_is}

-- ---- paths

-- the parts behind the first part of a path, with what they spell
record HasParts (s : Source) (i j : ℕ) : Type 0 where
  further : List (List ℕ)
  parts : All IsPart further
  spelled : flat_map (text_at s) (range_with_len i (j - i)) ≡ flat_map (λ p. codes "." ++ p) further
  ahead : i ≤ j

range_none : (s : Source) (i : ℕ) → flat_map (text_at s) (range_with_len i (i - i)) ≡ []
range_none s i = ap (λ n. flat_map (text_at s) (range_with_len i n)) (none i)
  where
    none : (n : ℕ) → n - n ≡ 0
    none n = omega arith

range_more : (s : Source) (i j : ℕ) → i < j → flat_map (text_at s) (range_with_len i (j - i)) ≡ text_at s i ++ flat_map (text_at s) (range_with_len (i + 1) (j - (i + 1)))
range_more s i j h = ap (λ n. flat_map (text_at s) (range_with_len i n)) (more i j h)
  where
    more : (i j : ℕ) → i < j → j - i ≡ suc (j - (i + 1))
    more i j h = omega arith

dotted_parts : (s : Source) → AreTokens s.bytes s.tokens → {i j : ℕ} → f.Dotted (terminals s) i j → HasParts s i j
dotted_parts s c {i} (f.no_part n) = record { further = []; parts = All-nil IsPart; spelled = range_none s i; ahead = omega arith }
dotted_parts s c {i} {j} (f.a_part d p r) =
    let q = dotted_parts s c r in
    let ahead = q.ahead in
    record {
      further = text_at s (i + 1) ∷ q.further;
      parts = All-cons IsPart (text_at s (i + 1)) q.further (part_is s (i + 1) c p) q.parts;
      spelled = range_more s i j (omega arith) ∙ ap₂ (λ (u v : List ℕ). u ++ v) (dot_spelled s i d) (range_more s (i + 1) j (omega arith) ∙ ap (λ v. text_at s (i + 1) ++ v) q.spelled);
      ahead = omega arith;
    }

path_is : (s : Source) → AreTokens s.bytes s.tokens → {i j : ℕ} → f.Path (terminals s) i j → IsPath (path_text s i (j - i)) × (i < j)
path_is s c {i} {j} (f.path p d) =
    let q = dotted_parts s c d in
    let ahead = q.ahead in
    (record { first = text_at s i; further = q.further; is = range_more s i j (omega arith) ∙ ap (λ v. text_at s i ++ v) q.spelled; part = part_is s i c p; parts = q.parts }, (omega arith))

-- the name of a theorem
pub theorem_name : (s : Source) → AreTokens s.bytes s.tokens → (i j : ℕ) → f.Path (terminals s) (i + 1) j → IsGoalName (name_between s i j)
theorem_name s c i j p =
    let q = path_is s c p in
    let ahead = q.1 in
    subst IsGoalName (sym (ap (λ b. if b then codes "example" else path_text s (i + 1) (j - (i + 1))) (other j (i + 1) (omega arith)))) (named q.0)
  where
    other : (m n : ℕ) → n < m → nat_eq m n ≡ false
    other m n h = go (nat_eq m n) refl
      where
        go : (b : Bool) → nat_eq m n ≡ b → nat_eq m n ≡ false
        go false e = e
        go true e = let same : m ≡ n = (Decides-eqb m n).0 e in absurd (omega arith)

-- the name of an example
pub example_name : (s : Source) (i : ℕ) → IsGoalName (name_between s i (i + 1))
example_name s i = subst IsGoalName (sym (ap (λ b. if b then codes "example" else path_text s (i + 1) (i + 1 - (i + 1))) ((Decides-eqb (i + 1) (i + 1)).1 refl))) unnamed

-- ---- binders

-- names that are bound
abbrev AreNames : List Bound → Type 0
AreNames bs = All (λ b. IsName b.name) bs

names_from : (s : Source) → AreTokens s.bytes s.tokens → (sort : Option Sort) → {i j : ℕ} → f.Names (terminals s) i j → AreNames (bounds s sort i (j - i)) × (i ≤ j)
names_from s c sort {i} (f.no_name n) = (subst (λ n. AreNames (bounds s sort i n)) (none i) (All-nil (λ b. IsName b.name)), (omega arith))
  where
    none : (n : ℕ) → 0 ≡ n - n
    none n = omega arith
names_from s c sort {i} {j} (f.further_name n r) =
    let q = names_from s c sort r in
    let ahead = q.1 in
    (subst (λ n. AreNames (bounds s sort i n)) (more i j (omega arith)) (All-cons (λ b. IsName b.name) (record { at = i; name = text_at s i; sort = sort }) (bounds s sort (i + 1) (j - (i + 1))) (name_is s i c n) q.0), (omega arith))
  where
    more : (i j : ℕ) → i < j → suc (j - (i + 1)) ≡ j - i
    more i j h = omega arith

all_names : (s : Source) → AreTokens s.bytes s.tokens → (sort : Option Sort) (i k : ℕ) → IsAt (terminals s) terminal_kinds.Name i → f.Names (terminals s) (i + 1) k → AreNames (bounds s sort i (k - i))
all_names s c sort i k n r = (names_from s c sort (f.further_name n r)).0

pub bound_names : (s : Source) → AreTokens s.bytes s.tokens → {i j : ℕ} {bs : List Binder} → f.Binders (terminals s) i bs j → AreNames (all_bounds s bs)
bound_names s c (f.no_binder n) = All-nil (λ b. IsName b.name)
bound_names s c (f.round {i} {k} {bs = bs} l n ns o (f.to_sort {s = w} h) r rest) =
    All-append (λ b. IsName b.name) (bounds s (sort_at s w) (i + 1) (k - (i + 1))) (all_bounds s bs) (all_names s c (sort_at s w) (i + 1) k n ns) (bound_names s c rest)
bound_names s c (f.round l n ns o (f.to_term h) r rest) = bound_names s c rest
bound_names s c (f.brace {i} {k} {s = w} {bs} l n ns o h r rest) =
    All-append (λ b. IsName b.name) (bounds s (sort_at s w) (i + 1) (k - (i + 1))) (all_bounds s bs) (all_names s c (sort_at s w) (i + 1) k n ns) (bound_names s c rest)

pub binder_names : (bs : List Bound) → AreNames bs → All (λ b. IsName b.0) (binders_of bs)
binder_names [] h = All-nil (λ b. IsName b.0)
binder_names (b ∷ bs) h = by_sort b.sort (binder_names bs (All-tail (λ b. IsName b.name) b bs h))
  where
    by_sort : (o : Option Sort) → All (λ b. IsName b.0) (binders_of bs) → All (λ b. IsName b.0) (sorted_binder b.name o ++ binders_of bs)
    by_sort None rest = rest
    by_sort (Some t) rest = All-cons (λ b. IsName b.0) (b.name, t) (binders_of bs) (All-head (λ b. IsName b.name) b bs h) rest
