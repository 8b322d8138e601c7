-- The unassigned variables are members of the heap.
use Rattle.std.specs.Prelude.{◌≡◌, ◌≢◌, ◌⊎◌, ℕ, ◌<◌, ◌≤◌, true, false, List, length}
use Rattle.search_learn.specs.declared.Step.{Step}
use Rattle.search_learn.specs.Trail.{cut, is_assigned}
use Rattle.search_heap.specs.Ranking.{Ranking, comes_before, is_member}

-- The variable is unassigned.
abbrev pub IsUnassigned : List Step → ℕ → Type 0
IsUnassigned t v = is_assigned t (record { var = v; positive = true }) ≡ false

-- Each unassigned variable is a member.
abbrev pub HasFree : ℕ → List Step → Ranking → Type 0
HasFree vars t r = (v : ℕ) → 0 < v → v ≤ vars → IsUnassigned t v → is_member r v ≡ true

-- No member is unassigned.
abbrev pub NoneFree : List Step → Ranking → Type 0
NoneFree t r = (v : ℕ) → 0 < v → is_member r v ≡ true → is_assigned t (record { var = v; positive = true }) ≡ true

-- The unassigned member that comes before the others.
pub record IsFirstFree (t : List Step) (r : Ranking) (v : ℕ) : Type 0 where
  pub above : 0 < v
  pub within : v ≤ length r.scores
  pub free : IsUnassigned t v
  pub first : (w : ℕ) → 0 < w → is_member r w ≡ true → IsUnassigned t w → comes_before r.scores w v ≡ false

-- The other unassigned members stay members.
abbrev pub IsKept : List Step → Ranking → Ranking → ℕ → Type 0
IsKept t old new v = (w : ℕ) → 0 < w → w ≢ v → IsUnassigned t w → is_member old w ≡ true → is_member new w ≡ true

-- What was free stays so, and what becomes free becomes a member.
abbrev pub KeepsFree : ℕ → List Step → Ranking → List Step → Ranking → Type 0
KeepsFree vars t old u new = HasFree vars t old → HasFree vars u new

-- The trail is cut to level 0 or not at all.
abbrev pub IsCutOrSame : List Step → List Step → Type 0
IsCutOrSame t u = (u ≡ t) ⊎ (u ≡ cut 0 t)
