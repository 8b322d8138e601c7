-- How the pieces of a file are put together.
use Rattle.std.specs.Prelude.{ℕ, zero, suc, ◌+◌, ◌-◌, ◌==◌, Bool, true, false, List, [], ◌∷◌, ◌++◌, length, Option, Some, None, slice_get, if◌then◌else◌}
use Rattle.bv_grammar.specs.declared.words.Word.{Word}
use Rattle.bv_grammar.specs.declared.words.Word.TheVariants as words
use Rattle.bv_grammar.specs.declared.words.Role.{Role}
use Rattle.bv_grammar.specs.declared.words.Role.TheVariants as roles
use Rattle.bv_grammar.specs.declared.reading.Taken.{Taken}
use Rattle.bv_trees.specs.declared.pieces.Piece.{Piece}
use Rattle.bv_trees.specs.declared.pieces.Piece.TheVariants as piece
use Rattle.bv_trees.specs.declared.pieces.Sort.{Sort}
use Rattle.bv_trees.specs.declared.pieces.Sort.TheVariants as sort
use Rattle.bv_trees.specs.declared.building.Frame.{Frame}
use Rattle.bv_trees.specs.declared.building.Frame.TheVariants as frame

-- the innermost that waits, and the others
abbrev pub popped : List Frame → Option Frame × List Frame
popped [] = (None, [])
popped (f ∷ fs) = (Some f, fs)

-- what waits, the innermost first; the method whose arguments are read; the head of a goal whose name is read; where the
-- names of a binder begin; and the pieces so far
pub record Building : Type 0 where
  pub frames : List Frame
  pub method : Option ℕ
  pub goal : Option ℕ
  pub names : ℕ
  pub pieces : List Piece

abbrev pub start : Building
start = record { frames = []; method = None; goal = None; names = 0; pieces = [] }

abbrev pub put : Piece → Building → Building
put p b = record b { pieces = b.pieces ++ p ∷ [] }

-- the arguments of the method have ended
abbrev pub closing : Option ℕ → List Piece
closing None = []
closing (Some m) = piece.Method m ∷ []

abbrev pub close : Building → Building
close b = record b { method = None; pieces = b.pieces ++ closing b.method }

-- the piece of what has its operands now, and the method of which it was an argument
abbrev pub piece_of : Frame → List Piece
piece_of (frame.Prefix w i) = piece.Prefix w i ∷ []
piece_of (frame.Infix w i) = piece.Infix w i ∷ []
piece_of (frame.Choice i) = piece.Choice i ∷ []
piece_of (frame.Otherwise i) = piece.Choice i ∷ []
piece_of (frame.Bracket m) = []

abbrev pub method_of : Frame → Option ℕ
method_of (frame.Bracket m) = m
method_of _ = None

abbrev pub left : Building → Option Frame × List Frame → Building
left b (None, fs) = b
left b (Some f, fs) = record b { frames = fs; method = method_of f; pieces = b.pieces ++ piece_of f }

-- the innermost that waits has its operands
abbrev pub leave : Building → Building
leave b = left (close b) (popped b.frames)

-- so many have
abbrev pub settle : ℕ → Building → Building
settle zero b = b
settle (suc n) b = settle n (leave b)

-- all but so many
abbrev pub complete : ℕ → Building → Building
complete keep b = close (settle (length b.frames - keep) b)

-- the last part of an `if` begins
abbrev pub otherwise : List Frame → List Frame
otherwise (frame.Choice i ∷ fs) = frame.Otherwise i ∷ fs
otherwise fs = fs

abbrev pub in_last_part : Building → Building
in_last_part b = record b { frames = otherwise b.frames }

abbrev pub wait : Frame → Building → Building
wait f b = record b { frames = f ∷ b.frames; method = None }

-- a numeral, before what stands behind it
abbrev pub number : ℕ → Option Role → Piece
number i (Some (roles.Word words.Hash)) = piece.Literal i (i + 2)
number i _ = piece.Numeral i

-- the sort behind a colon
abbrev pub sort_behind : ℕ → Option Role → Option Sort
sort_behind i (Some (roles.Word words.Bool)) = Some sort.Truth
sort_behind i (Some (roles.Word words.BitVec)) = Some (sort.Vector (i + 2))
sort_behind i _ = None

abbrev pub ascribe : ℕ → Option Sort → Building → Building
ascribe i None b = b
ascribe i (Some s) b = put (piece.Ascribed i s) b

abbrev pub bind : ℕ → Option Sort → Building → Building
bind i None b = b
bind i (Some s) b = put (piece.Variables b.names i s) b

-- a method's name: its arguments follow, unless it is a method of an argument
abbrev pub call : ℕ → Option ℕ → Building → Building
call i None b = record b { method = Some i; pieces = b.pieces ++ piece.Call i ∷ [] }
call i (Some m) b = record b { pieces = b.pieces ++ piece.Call i ∷ piece.Method i ∷ [] }

-- a point right behind the name of a method ends that method's arguments
abbrev pub point : ℕ → Option ℕ → Building → Building
point i None b = b
point i (Some m) b = if m + 1 == i then close b else b

-- the name of a goal has ended
abbrev pub named : ℕ → Option ℕ → Building → Building
named i None b = b
named i (Some h) b = record b { goal = None; pieces = b.pieces ++ piece.Goal h i ∷ [] }

abbrev pub head_ends : ℕ → Building → Building
head_ends i b = named i b.goal b

abbrev pub on_word : ℕ → Word → ℕ → Option Role → Building → Building
on_word i words.If w next b = wait (frame.Choice i) b
on_word i words.Then w next b = complete w b
on_word i words.Else w next b = in_last_part (complete w b)
on_word i words.RightRound w next b = settle (length b.frames - w) b
on_word i words.Dot w next b = point i b.method b
on_word i words.Theorem w next b = record b { goal = Some i }
on_word i words.Example w next b = record b { goal = Some i }
on_word i words.LeftRound w next b = record (head_ends i (close b)) { names = i + 1 }
on_word i words.LeftBrace w next b = record (head_ends i (close b)) { names = i + 1 }
on_word i words.Colon w next b = bind i (sort_behind i next) (head_ends i (close b))
on_word i words.Assign w next b = complete w b
on_word i words.Decide w next b = put (piece.Proof None) b
on_word i _ w next b = b

-- what the terminal at i does, taken in a role, before what stands behind it
abbrev pub on_role : ℕ → Role → ℕ → Option Role → Building → Building
on_role i roles.Variable w next b = put (piece.Name i) b
on_role i roles.Numeral w next b = put (number i next) b
on_role i (roles.Constant c) w next b = put (piece.Constant c i) b
on_role i (roles.Prefix o) w next b = wait (frame.Prefix o i) b
on_role i (roles.Infix o) w next b = wait (frame.Infix o i) (complete (w - 1) b)
on_role i roles.Bracket w next b = wait (frame.Bracket b.method) b
on_role i roles.Ascription w next b = ascribe i (sort_behind i next) (complete (w + 1) b)
on_role i roles.Method w next b = call i b.method b
on_role i roles.File w next b = put (piece.Proof (Some i)) b
on_role i (roles.Word v) w next b = on_word i v w next b
on_role i roles.Part w next b = b
on_role i roles.Binder w next b = b
on_role i roles.BraceBinder w next b = b
on_role i roles.Width w next b = b

abbrev pub role_of : Option Taken → Option Role
role_of None = None
role_of (Some x) = Some x.role

abbrev pub step : ℕ → Option Taken → Option Role → Building → Building
step i None next b = b
step i (Some x) next b = on_role i x.role x.waiting next b

-- what the first n terminals give
abbrev pub run : List Taken → ℕ → Building
run xs zero = start
run xs (suc n) = step n (slice_get xs n) (role_of (slice_get xs (n + 1))) (run xs n)

-- whether what waits has its operands where a term ends: all but brackets and the first parts of an `if`
abbrev pub leaves : Frame → Bool
leaves (frame.Prefix w i) = true
leaves (frame.Infix w i) = true
leaves (frame.Otherwise i) = true
leaves (frame.Choice i) = false
leaves (frame.Bracket m) = false

abbrev pub is_left : List Frame → Bool
is_left [] = false
is_left (f ∷ fs) = leaves f

-- as many of the innermost as have them
abbrev pub front : List Frame → ℕ
front [] = 0
front (f ∷ fs) = if leaves f then suc (front fs) else 0

-- whether a term isn't complete behind this: an operand follows, or what goes on with one
abbrev pub is_open : Option Role → Bool
is_open (Some (roles.Prefix w)) = true
is_open (Some (roles.Infix w)) = true
is_open (Some (roles.Word words.Else)) = true
is_open (Some (roles.Word words.Dot)) = true
is_open (Some (roles.Word words.Hash)) = true
is_open _ = false

-- what is complete at the end of what is reached, behind this role
abbrev pub ended : Option Role → Building → Building
ended last b = if is_open last then b else close (settle (front b.frames) b)

-- the pieces of what is complete behind terminals that are taken so
abbrev pub complete_pieces : List Taken → List Piece
complete_pieces xs = (ended (role_of (slice_get xs (length xs - 1))) (run xs (length xs))).pieces
