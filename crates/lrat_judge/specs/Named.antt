-- Which clauses have groups, and which want one.
use Rattle.std.specs.Prelude.{◌≡◌, ℕ, Bool, not, ◌&&◌, nat_eq, List}
use Rattle.std.specs.List.{list_any}
use Rattle.std.specs.Ordering.{nat_cmp}
use Rattle.std.specs.BTreeSet.{BTreeSet, contains}
use Rattle.sat_form.specs.Literals.{Literal, negate, member}
use Rattle.sat_form.specs.Assignment.{is_true}
use Rattle.lrat_lines.specs.Judge.{Entry, Group, others}

-- one of the groups is this clause's
abbrev pub has_named : List Group → ℕ → Bool
has_named groups id = list_any (λ g. nat_eq g.id id) groups

-- the set has exactly the clauses that have a group
abbrev pub AreNamed : BTreeSet ℕ → List Group → Type 0
AreNamed named groups = (id : ℕ) → contains nat_cmp named id ≡ has_named groups id

-- the clause has the negated pivot, isn't named, and has no other literal that is true
abbrev pub is_uncovered : List Literal → Literal → BTreeSet ℕ → Entry → Bool
is_uncovered a pivot named e = member e.lits (negate pivot) && (not (contains nat_cmp named e.id) && not (list_any (is_true a) (others e.lits (negate pivot))))
