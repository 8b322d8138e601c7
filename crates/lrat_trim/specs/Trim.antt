-- Trimming: the lines of a log that its empty clause needs, with new ids.
use Rattle.std.specs.Prelude.{◌≡◌, ◌↔◌, ℕ, ◌+◌, ◌||◌, Bool, true, if◌then◌else◌, nat_eq, nat_le, length, List, [], ◌∷◌, ◌++◌, map, pos}
use Rattle.std.specs.List.{IsAmong, filter, list_any, position_or_len}
use Rattle.sat_form.specs.Log.{Logged}
use Rattle.lrat_lines.specs.Lines.{Line}
use Rattle.lrat_lines.specs.Lines.Line.{Add}

-- The ids that the empty clause reaches through hints.
pub data Reaches (log : List Logged) : ℕ → Type 0 where
  empty_clause : (l : Logged) → IsAmong log l → l.lits ≡ [] → Reaches log l.id
  hint : (l : Logged) → IsAmong log l → Reaches log l.id → (id : ℕ) → IsAmong l.hints id → Reaches log id

-- The ids of the given clauses 1 to m stay, and the kept lines have m + 1, m + 2, .. in their order.
abbrev pub new_id : ℕ → List Logged → ℕ → ℕ
new_id m kept id = if nat_le id m then id else m + 1 + position_or_len (λ l. nat_eq l.id id) kept

abbrev pub renumbered : ℕ → List Logged → Logged → Line
renumbered m kept l = Add (new_id m kept l.id) l.lits (map (λ id. pos (new_id m kept id)) l.hints)

abbrev pub all_renumbered : ℕ → List Logged → List Line
all_renumbered m kept = map (renumbered m kept) kept

-- The lines of a log that the empty clause reaches through hints, in their order, with new ids.
abbrev pub IsTrimmed : ℕ → List Logged → List Line → Type 0
IsTrimmed m log lines =
    (reached : ℕ → Bool) × ((id : ℕ) → (reached id ≡ true) ↔ Reaches log id) × (lines ≡ all_renumbered m (filter (λ l. reached l.id) log))

-- The same as a program finds it, from the last line to the first: the lines that are kept, and the ids that their hints name.
pub record Kept : Type 0 where
  pub ids : List ℕ
  pub lines : List Logged

-- A line is needed where it is the empty clause, or a kept line names it.
abbrev pub is_needed : Kept → Logged → Bool
is_needed k l = nat_eq (length l.lits) 0 || list_any (nat_eq l.id) k.ids

abbrev pub keep_line : Kept → Logged → Kept
keep_line k l = if is_needed k l then record { ids = l.hints ++ k.ids; lines = l ∷ k.lines } else k

-- What is kept of a log in which hints name earlier lines alone.
abbrev pub keep : List Logged → Kept
keep [] = record { ids = []; lines = [] }
keep (l ∷ later) = keep_line (keep later) l

-- What it finds are the trimmed lines where the log is numbered and hints name earlier lines alone.
abbrev pub trim : ℕ → List Logged → List Line
trim m log = all_renumbered m (keep log).lines
