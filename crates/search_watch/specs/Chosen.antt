-- The two literals at which a new clause is watched.
use Rattle.std.specs.Prelude.{◌≡◌, ◌≢◌, ◌≤◌, Bool, true, false, not, ◌&&◌, ◌||◌, nat_lt, if◌then◌else◌, List}
use Rattle.sat_form.specs.Literals.{Literal, member, same_literal}
use Rattle.search_learn.specs.declared.Step.{Step}
use Rattle.search_learn.specs.Trail.{clause_false, level, level_of}
use Rattle.search_watch.specs.Watched.{is_false}

-- A literal of the clause that isn't false, unless all are.
pub record IsFree (t : List Step) (c : List Literal) (l : Literal) : Type 0 where
  pub member : member c l ≡ true
  pub free : is_false t l ≡ true → clause_false t c ≡ true

-- l is false, and k isn't or became so at a higher level.
abbrev pub is_higher : List Step → Literal → Literal → Bool
is_higher t k l = is_false t l && (not (is_false t k) || nat_lt (level_of t l) (level_of t k))

-- the one of two literals to be watched beside `first`, where the better one so far is `first` itself if there was none
abbrev pub better : List Step → Literal → Literal → Literal → Literal
better t first best l = if not (same_literal l first) && (same_literal best first || is_higher t l best) then l else best

-- Of the literals beside l, k isn't false, or all are and none at a higher level.
pub record IsHighest (t : List Step) (c : List Literal) (l k : Literal) : Type 0 where
  pub beside : k ≢ l → member c k ≡ true
  pub one : k ≡ l → (w : Literal) → member c w ≡ true → w ≡ l
  pub wrong : is_false t k ≡ true → (w : Literal) → member c w ≡ true → w ≢ l → is_false t w ≡ true
  pub highest : is_false t k ≡ true → (w : Literal) → member c w ≡ true → w ≢ l → level_of t w ≤ level_of t k

-- What lets a clause be watched on a trail: on no earlier level it has fewer than two literals that aren't false.
pub record IsOpen (t : List Step) (c : List Literal) : Type 0 where
  pub free : clause_false t c ≡ false
  pub lit : Literal
  pub member : member c lit ≡ true
  pub wrong : is_false t lit ≡ true
  pub current : level t ≤ level_of t lit
