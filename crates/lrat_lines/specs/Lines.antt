-- LRAT text: the grammar of its lines, and their one spelling (the text format of Cruz-Filipe and others, "Efficient Certified RAT Verification", with RAT groups; blanks, ends and skipped lines as this project reads them).
use Rattle.std.specs.Prelude.{◌≡◌, ℕ, ◌-◌, ◌&&◌, nat_lt, nat_abs, take, ◌^◌, Bool, true, false, not, ◌||◌, if◌then◌else◌, nat_eq, List, [], ◌∷◌, ◌++◌, map, length, ℤ, pos, negsuc}
use Rattle.std.specs.List.{filter, flat_map, slice_split, list_all, AllZip, join_with_byte, suffix_len}
use Rattle.std.specs.Fmt.{decimal, signed_decimal}
use Rattle.sat_form.specs.Literals.{Literal}

-- An addition has an id, the clause's literals and hints, a deletion its first id and the ids of the clauses that go. A hint above 0 is a clause's id; one below 0 is an id negated, and begins a group.
pub data Line : Type 0 where
  Add : ℕ → List Literal → List ℤ → Line
  Delete : ℕ → List ℕ → Line
  Skip : Line

-- a literal as a number: its variable, negated for a negative one
abbrev pub literal_number : Literal → ℤ
literal_number l = if l.positive then pos l.var else negsuc (l.var - 1)

-- the words of a line
abbrev pub words_of : Line → List (List ℕ)
words_of (Add id lits hints) = decimal id ∷ (map (λ l. signed_decimal (literal_number l)) lits ++ decimal 0 ∷ (map signed_decimal hints ++ decimal 0 ∷ []))
words_of (Delete id ids) = decimal id ∷ ((100 ∷ []) ∷ (map decimal ids ++ decimal 0 ∷ []))
words_of Skip = []

-- ids are 1 to 2^63 - 1
abbrev pub is_id : ℕ → Bool
is_id n = nat_lt 0 n && nat_lt n (2 ^ 63)

-- variables are 1 to 2^31 - 1
abbrev pub is_literal : Literal → Bool
is_literal l = nat_lt 0 l.var && nat_lt l.var (2 ^ 31)

-- a hint is an id, or an id negated
abbrev pub is_hint : ℤ → Bool
is_hint z = is_id (nat_abs z)

-- the numbers are in range
abbrev pub is_line : Line → Bool
is_line (Add id lits hints) = is_id id && (list_all is_literal lits && list_all is_hint hints)
is_line (Delete id ids) = is_id id && list_all is_id ids
is_line Skip = true

-- Words are separated by spaces and tabs.
abbrev pub is_blank : ℕ → Bool
is_blank b = nat_eq b 32 || nat_eq b 9

-- Spaces, tabs and CR at the end don't count.
abbrev pub is_end : ℕ → Bool
is_end b = is_blank b || nat_eq b 13

-- the bytes up to the last one that counts
abbrev pub without_end : List ℕ → List ℕ
without_end bytes = take (length bytes - suffix_len is_end bytes) bytes

-- the parts between blanks that aren't empty
abbrev pub words_in : List ℕ → List (List ℕ)
words_in bytes = filter (λ w. not (nat_eq (length w) 0)) (slice_split is_blank bytes)

-- the words of a line's bytes
abbrev pub words : List ℕ → List (List ℕ)
words bytes = words_in (without_end bytes)

-- A line that is empty, or whose first character is c, is skipped.
abbrev pub IsSkipped : List (List ℕ) → Type 0
IsSkipped [] = Unit {0}
IsSkipped ([] ∷ ws) = ⊥
IsSkipped ((b ∷ bs) ∷ ws) = b ≡ 99

-- These words are this line's.
abbrev pub AreWords : List (List ℕ) → Line → Type 0
AreWords ws Skip = IsSkipped ws
AreWords ws (Add id lits hints) = (ws ≡ words_of (Add id lits hints)) × (is_line (Add id lits hints) ≡ true)
AreWords ws (Delete id ids) = (ws ≡ words_of (Delete id ids)) × (is_line (Delete id ids) ≡ true)

-- These bytes, without their LF, are this line.
abbrev pub IsLine : List ℕ → Line → Type 0
IsLine bytes l = AreWords (words bytes) l

-- without a last part that is empty
abbrev pub without_last_empty : List (List ℕ) → List (List ℕ)
without_last_empty [] = []
without_last_empty ([] ∷ []) = []
without_last_empty ((b ∷ bs) ∷ []) = (b ∷ bs) ∷ []
without_last_empty (p ∷ q ∷ ps) = p ∷ without_last_empty (q ∷ ps)

-- The lines of a text: each ends behind its LF, the last one maybe at the end of the text.
abbrev pub lines_of : List ℕ → List (List ℕ)
lines_of bytes = without_last_empty (slice_split (λ b. nat_eq b 10) bytes)

-- The text has these lines.
abbrev pub Text : List ℕ → List Line → Type 0
Text bytes ls = AllZip IsLine (lines_of bytes) ls

-- An addition or a deletion whose numbers are in range: what may be written.
abbrev pub is_writable : Line → Bool
is_writable (Add id lits hints) = is_line (Add id lits hints)
is_writable (Delete id ids) = is_line (Delete id ids)
is_writable Skip = false

-- The one spelling, with single spaces.
abbrev pub line_text : Line → List ℕ
line_text l = join_with_byte 32 (words_of l)

-- The same, ended by LF.
abbrev pub written_line : Line → List ℕ
written_line l = line_text l ++ 10 ∷ []

-- The text of some lines, each in its one spelling.
abbrev pub written : List Line → List ℕ
written ls = flat_map written_line ls
