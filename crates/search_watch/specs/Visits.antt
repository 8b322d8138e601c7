-- The walk along the list of a literal that became false, as a function.
use Rattle.std.specs.Prelude.{◌≡◌, ◌≢◌, ◌⊎◌, ℕ, ◌≤◌, Bool, true, false, List, [], ◌∷◌, ◌++◌, get_or, set, nat_eq, Some, None, map}
use Rattle.std.specs.declared.vec.Vec.{Vec}
use Rattle.std.specs.declared.alloc.Global.{Global}
use Rattle.search_watch.specs.declared.watch.Found.{Found}
use Rattle.std.specs.List.{list_any}
use Rattle.std.specs.declared.option.Option.{Option}
use Rattle.sat_form.specs.Literals.{Literal, member}
use Rattle.search_learn.specs.declared.Step.{Step}
use Rattle.search_learn.specs.Trail.{is_true, is_assigned}
use Rattle.search_watch.specs.declared.watch.Pair.{Pair}
use Rattle.search_watch.specs.declared.watch.UnitClause.{UnitClause}
use Rattle.search_watch.specs.declared.watch.Outcome.{Outcome}
use Rattle.search_watch.specs.declared.watch.Outcome.TheVariants.{Stays, Moves, Implies, Fails}
use Rattle.search_watch.specs.Watched.{is_false, is_satisfied, replacement, other, index_of, lesser, IsPair, IsNoted, Watches}

abbrev pub outcome_if : Bool → Bool → Option Literal → Outcome
outcome_if true wrong found = Stays
outcome_if false wrong (Some next) = Moves next
outcome_if false true None = Fails
outcome_if false false None = Implies

abbrev pub outcome : List Step → List Literal → Literal → Outcome
outcome t c other = outcome_if (is_true t other) (is_false t other) (replacement t c other)

-- What a walk changes: the pairs, the lists, what was found, and which clauses stay in the list that is walked along.
pub record Table : Type 0 where
  pub pairs : List Pair
  pub lists : List (List ℕ)
  pub units : List UnitClause
  pub least : Option ℕ
  pub kept : List ℕ

abbrev pub no_pair : Pair
no_pair = record { first = record { var = 0; positive = false }; second = record { var = 0; positive = false } }

abbrev pub pair_at : List Pair → ℕ → Pair
pair_at ps i = get_or ps i no_pair

abbrev pub clause_at : List (List Literal) → ℕ → List Literal
clause_at cs i = get_or cs i []

abbrev pub list_at : List (List ℕ) → Literal → List ℕ
list_at ls w = get_or ls (index_of w) []

abbrev pub visit_as : Literal → ℕ → Outcome → Table → Table
visit_as o i Stays s = record s { kept = s.kept ++ i ∷ [] }
visit_as o i (Moves next) s = record s {
  pairs = set s.pairs i (record { first = o; second = next });
  lists = set s.lists (index_of next) (list_at s.lists next ++ i ∷ []);
}
visit_as o i Implies s = record s { kept = s.kept ++ i ∷ []; units = s.units ++ record { clause = i; lit = o } ∷ [] }
visit_as o i Fails s = record s { kept = s.kept ++ i ∷ []; least = lesser s.least i }

abbrev pub visit : List Step → List (List Literal) → Literal → ℕ → Table → Table
visit t cs lit i s = visit_as (other (pair_at s.pairs i) lit) i (outcome t (clause_at cs i) (other (pair_at s.pairs i) lit)) s

abbrev pub walk : List Step → List (List Literal) → Literal → List ℕ → Table → Table
walk t cs lit [] s = s
walk t cs lit (i ∷ is) s = walk t cs lit is (visit t cs lit i s)

-- whether a number is in a list
abbrev pub has : List ℕ → ℕ → Bool
has xs i = list_any (nat_eq i) xs

-- What holds of clause i, watched at p, while the list of `lit` is walked along and `rest` is left of it. later: the other false literals that haven't been visited
pub record IsKeptAs (t : List Step) (c : List Literal) (lit : Literal) (later : List Literal) (rest : List ℕ) (i : ℕ) (p : Pair) (ls : List (List ℕ)) (kept : List ℕ) (noted : Type 0) : Type 0 where
  pub pair : IsPair c p
  pub listed : (w : Literal) → Watches p w → w ≢ lit → has (list_at ls w) i ≡ true
  pub walked : Watches p lit → (has kept i ≡ true) ⊎ (has rest i ≡ true)
  pub excused : (w : Literal) → Watches p w → is_false t w ≡ true → (is_satisfied t c ≡ true) ⊎ (noted ⊎ ((member later w ≡ true) ⊎ ((w ≡ lit) × (has rest i ≡ true))))
  pub one : p.first ≡ p.second → (is_assigned t p.first ≡ true) ⊎ noted

abbrev pub IsKept : List Step → List (List Literal) → Literal → List Literal → List ℕ → Table → ℕ → Type 0
IsKept t cs lit later rest s i = IsKeptAs t (clause_at cs i) lit later rest i (pair_at s.pairs i) s.lists s.kept (IsNoted t (clause_at cs i) s.units s.least i)

abbrev pub entries_of : List (Vec ℕ Global) → List (List ℕ)
entries_of ls = map (λ v. v.items) ls

-- what the code has, as a table
abbrev pub table : List Pair → List (Vec ℕ Global) → Found → List ℕ → Table
table ps ls f kept = record { pairs = ps; lists = entries_of ls; units = f.units.items; least = f.false_clause; kept = kept }

abbrev pub ArePairsLow : ℕ → List Pair → Type 0
ArePairsLow n ps = (i : ℕ) → ((pair_at ps i).first.var ≤ n) × ((pair_at ps i).second.var ≤ n)

-- The same between two walks: later has the false literals that haven't been visited.
pub record IsLooked (t : List Step) (c : List Literal) (later : List Literal) (i : ℕ) (p : Pair) (ls : List (List ℕ)) (noted : Type 0) : Type 0 where
  pub pair : IsPair c p
  pub listed : (w : Literal) → Watches p w → has (list_at ls w) i ≡ true
  pub excused : (w : Literal) → Watches p w → is_false t w ≡ true → (is_satisfied t c ≡ true) ⊎ (noted ⊎ (member later w ≡ true))
  pub one : p.first ≡ p.second → (is_assigned t p.first ≡ true) ⊎ noted
