-- Which names of binders are variables, told by what the terminals are taken as.
use Rattle.std.specs.Prelude.{ℕ, ◌+◌, ◌&&◌, ◌||◌, ◌==◌, Bool, true, false, if◌then◌else◌, List, [], ◌∷◌, Option, Some, None, option_map}
use Rattle.bv_grammar.specs.declared.words.Word.TheVariants as words
use Rattle.bv_grammar.specs.declared.words.Role.{Role}
use Rattle.bv_grammar.specs.declared.words.Role.TheVariants as roles
use Rattle.bv_grammar.specs.declared.reading.Taken.{Taken}

abbrev pub role_of : Option Taken → Option Role
role_of None = None
role_of (Some x) = Some x.role

abbrev pub is_brace : Role → Bool
is_brace roles.BraceBinder = true
is_brace _ = false

abbrev pub is_binder : Role → Bool
is_binder roles.Binder = true
is_binder _ = false

abbrev pub is_colon : Role → Bool
is_colon (roles.Word words.Colon) = true
is_colon _ = false

abbrev pub begins_sort : Role → Bool
begins_sort (roles.Word words.Bool) = true
begins_sort (roles.Word words.BitVec) = true
begins_sort _ = false

-- whether a sort begins here
abbrev pub is_sort : List Taken → Bool
is_sort [] = false
is_sort (x ∷ xs) = begins_sort x.role

-- whether names stand here, as many as there are, and behind them a colon and a sort
abbrev pub names_sort : List Taken → Bool
names_sort [] = false
names_sort (x ∷ xs) = if is_binder x.role then names_sort xs else is_colon x.role && is_sort xs

-- of a name in round brackets: whether it is bound to a sort
abbrev pub sorted : Role → List Taken → Option Bool
sorted r xs = if is_binder r then Some (names_sort xs) else None

abbrev pub is_sorted : Option Bool → Bool
is_sorted None = false
is_sorted (Some b) = b

abbrev pub is_variable : Role → Option Bool → Bool
is_variable r s = is_brace r || is_sorted s

abbrev pub is_full : Option ℕ → Bool
is_full None = false
is_full (Some n) = n == 64

-- one token more: a head word, a variable, or another
abbrev pub counted : Bool → Bool → Option ℕ → Option ℕ
counted head variable o = if head then Some 0 else (if variable then option_map (λ n. n + 1) o else o)
