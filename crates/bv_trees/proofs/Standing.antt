-- Where a reading stands, for each symbol that is open: the pieces of what is complete so far, and what is open behind it.
use Rattle.std.proofs.Common.{◌≡◌, ℕ, zero, suc, ◌+◌, ◌-◌, ◌<◌, ◌≤◌, Bool, true, false, List, [], ◌∷◌, ◌++◌, length, Option, Some, None, refl, sym, ap, ◌∙◌, append-nil}
use Rattle.std.specs.Prelude.{slice_get, if◌then◌else◌}
use Rattle.bv_grammar.specs.declared.words.Word.TheVariants as words
use Rattle.bv_grammar.specs.declared.words.Terminal.{Terminal}
use Rattle.bv_grammar.specs.declared.words.Terminal.TheVariants as terminals
use Rattle.bv_grammar.specs.declared.words.Role.{Role}
use Rattle.bv_grammar.specs.declared.words.Role.TheVariants as roles
use Rattle.bv_grammar.specs.declared.reading.Taken.{Taken}
use Rattle.bv_grammar.specs.Grammar.{terminal_of, is_word, Symbol, terminal, finish, unless, items, path, dotted, paths, part, binders, names, brace_names, bound, sort, proof, intro, separator, tactic, term, tail, call, methods, more_methods, arguments, dots, atom, literal, closing, file}
use Rattle.bv_grammar.specs.Derivation.{Derives, IsSyntaxFault}
use Rattle.bv_grammar.specs.Taking.{terms_open, waiting}
use Rattle.bv_trees.specs.declared.pieces.Piece.{Piece}
use Rattle.bv_trees.specs.declared.pieces.Piece.TheVariants as piece
use Rattle.bv_trees.specs.declared.building.Frame.{Frame}
use Rattle.bv_trees.specs.Trees.{Tree, Trees}
use Rattle.bv_trees.specs.Terms.{IsAt, IsWord, IsNot, Term, Operand, Atoms, Dots, Atom}
use Rattle.bv_trees.specs.Codes.{pieces}
use Rattle.bv_trees.specs.Codes as codes
use Rattle.bv_trees.specs.Building.{run, role_of, is_open, ended, front, close, settle, closing as closes}
use Rattle.bv_trees.proofs.Settling.{st, ends_with}
use Rattle.bv_trees.proofs.OfTerms.{After, at_rest}
use Rattle.bv_trees.specs.Complete.{SoFar, Called}
use Rattle.bv_trees.proofs.Parts.{Whole}
use Rattle.bv_trees.proofs.Held.{Held, held_as, Has, has_as}

-- what the terminal before is taken as
abbrev pub last_role : List Taken → ℕ → Option Role
last_role xs i = role_of (slice_get xs (i - 1))

-- a term may end behind it
abbrev pub Done : List Taken → ℕ → Type 0
Done xs i = is_open (last_role xs i) ≡ false

-- these are pieces of what is complete, and begin with those
pub record Ends (ts : List Terminal) (pre ps : List Piece) : Type 0 where
  pub held : Held ts ps
  pub has : Has pre ps

-- so are the pieces of what is reached, where it ends here
pub record Now (ts : List Terminal) (xs : List Taken) (pre : List Piece) (i : ℕ) : Type 0 where
  pub ends : IsSyntaxFault ts i → length xs ≡ i → Ends ts pre (ended (last_role xs i) (run xs i)).pieces

pub ends_as : {ts : List Terminal} {pre ps qs : List Piece} → ps ≡ qs → Held ts ps → Has pre ps → Ends ts pre qs
ends_as e h k = record { held = held_as e h; has = has_as e k }

pub now_open : {ts : List Terminal} {xs : List Taken} {fs : List Frame} {m g : Option ℕ} {n i : ℕ} {pre ps : List Piece} → is_open (last_role xs i) ≡ true → run xs i ≡ st fs m g n ps → Held ts ps → Has pre ps → Now ts xs pre i
now_open {xs = xs} {i = i} o e h k = record { ends = λ f l. ends_as (sym (ap (λ q. (if q then run xs i else close (settle (front (run xs i).frames) (run xs i))).pieces) o ∙ ap (λ s. s.pieces) e)) h k }

pub now_done : {ts : List Terminal} {xs : List Taken} {fs : List Frame} {g : Option ℕ} {n i : ℕ} {pre ps : List Piece} → Done xs i → After xs fs g n ps i → front fs ≡ 0 → Held ts ps → Has pre ps → Now ts xs pre i
now_done {xs = xs} {fs = fs} {g = g} {n = n} {i = i} {ps = ps} d a e h k = record { ends = λ f l. ends_as (sym (ap (λ q. (if q then run xs i else close (settle (front (run xs i).frames) (run xs i))).pieces) d ∙ ap (λ s. (close (settle (front s.frames) s)).pieces) a.stands ∙ ends_with a.inner fs a.method g n a.so_far ps a.open_ e a.gives)) h k }

now_by : {ts : List Terminal} {xs : List Taken} {fs : List Frame} {g : Option ℕ} {n i : ℕ} {pre ps : List Piece} (b : Bool) → is_open (last_role xs i) ≡ b → front fs ≡ 0 → run xs i ≡ st fs None g n ps → Held ts ps → Has pre ps → Now ts xs pre i
now_by true o e s h k = now_open o s h k
now_by false o e s h k = now_done o (at_rest s) e h k

-- nothing is left there
pub now_rests : {ts : List Terminal} {xs : List Taken} {fs : List Frame} {g : Option ℕ} {n i : ℕ} {pre ps : List Piece} → front fs ≡ 0 → run xs i ≡ st fs None g n ps → Held ts ps → Has pre ps → Now ts xs pre i
now_rests {xs = xs} {i = i} e s h k = now_by (is_open (last_role xs i)) refl e s h k

-- what is said of what is open behind
abbrev pub Behind : Type 1
Behind = List Piece → ℕ → Type 0

-- a term of level p is to begin
pub record Before (ts : List Terminal) (xs : List Taken) (B : Behind) (a : List Symbol) (p : ℕ) (pre : List Piece) (i : ℕ) : Type 0 where
  pub frames : List Frame
  pub goal : Option ℕ
  pub binder : ℕ
  pub so_far : List Piece
  pub stands : run xs i ≡ st frames None goal binder so_far
  pub counts : terms_open a ≡ length frames
  pub held : Held ts so_far
  pub has : Has pre so_far
  pub now : Now ts xs pre i
  pub next : (pre' : List Piece) (x : Tree) (j : ℕ) → Term ts p i x j → After xs frames goal binder (so_far ++ pieces x) j → Has pre' (so_far ++ pieces x) → Done xs j → B pre' j

-- of a term of level p, a part of level l is read
pub record Part (ts : List Terminal) (xs : List Taken) (B : Behind) (a : List Symbol) (p l : ℕ) (pre : List Piece) (k : ℕ) : Type 0 where
  pub frames : List Frame
  pub goal : Option ℕ
  pub binder : ℕ
  pub so_far : List Piece
  pub from : ℕ
  pub tree : Tree
  pub begins : Derives ts file 0 (term p ∷ a) from
  pub read : SoFar ts p from l tree k
  pub after : After xs frames goal binder (so_far ++ pieces tree) k
  pub counts : terms_open a ≡ length frames
  pub held : Held ts so_far
  pub has : Has pre (so_far ++ pieces tree)
  pub done : Done xs k
  pub next : (pre' : List Piece) (x : Tree) (j : ℕ) → Term ts p from x j → After xs frames goal binder (so_far ++ pieces x) j → Has pre' (so_far ++ pieces x) → Done xs j → B pre' j

-- what is behind a call
abbrev pub ThenCall : List Terminal → List Taken → Behind → List Frame → Option ℕ → ℕ → List Piece → ℕ → Type 0
ThenCall ts xs B fs g n ps i = (pre' : List Piece) (x : Tree) (j : ℕ) → Operand ts i 1024 x j → After xs fs g n (ps ++ pieces x) j → Has pre' (ps ++ pieces x) → Done xs j → B pre' j

-- a call is to begin
pub record Callee (ts : List Terminal) (xs : List Taken) (B : Behind) (a : List Symbol) (pre : List Piece) (i : ℕ) : Type 0 where
  pub frames : List Frame
  pub goal : Option ℕ
  pub binder : ℕ
  pub so_far : List Piece
  pub level : ℕ
  pub others : List Symbol
  pub begins : Derives ts file 0 (term level ∷ others) i
  pub stands : run xs i ≡ st frames None goal binder so_far
  pub counts : terms_open a ≡ suc (length frames)
  pub held : Held ts so_far
  pub has : Has pre so_far
  pub now : Now ts xs pre i
  pub next : ThenCall ts xs B frames goal binder so_far i

-- an atom is to begin
pub record Atomic (ts : List Terminal) (xs : List Taken) (B : Behind) (a : List Symbol) (pre : List Piece) (i : ℕ) : Type 0 where
  pub frames : List Frame
  pub method : Option ℕ
  pub goal : Option ℕ
  pub binder : ℕ
  pub so_far : List Piece
  pub stands : run xs i ≡ st frames method goal binder so_far
  pub counts : terms_open a ≡ suc (length frames)
  pub waits : waiting a ≡ length frames
  pub held : Held ts so_far
  pub has : Has pre so_far
  pub now : Now ts xs pre i
  pub next : (pre' : List Piece) (x : Tree) (j : ℕ) → Atom ts i x j → run xs j ≡ st frames method goal binder (so_far ++ pieces x) → Has pre' (so_far ++ pieces x) → Done xs j → B pre' j

-- behind the receiver of methods
pub record Receiver (ts : List Terminal) (xs : List Taken) (B : Behind) (a : List Symbol) (pre : List Piece) (k : ℕ) : Type 0 where
  pub frames : List Frame
  pub goal : Option ℕ
  pub binder : ℕ
  pub so_far : List Piece
  pub from : ℕ
  pub tree : Tree
  pub level : ℕ
  pub others : List Symbol
  pub begins : Derives ts file 0 (term level ∷ others) from
  pub atom : Atom ts from tree k
  pub whole : Whole ts tree
  pub stands : run xs k ≡ st frames None goal binder (so_far ++ pieces tree)
  pub counts : terms_open a ≡ suc (length frames)
  pub held : Held ts so_far
  pub has : Has pre (so_far ++ pieces tree)
  pub done : Done xs k
  pub next : ThenCall ts xs B frames goal binder so_far from

-- behind the name of a method
pub record Named (ts : List Terminal) (xs : List Taken) (B : Behind) (a : List Symbol) (pre : List Piece) (k : ℕ) : Type 0 where
  pub frames : List Frame
  pub goal : Option ℕ
  pub binder : ℕ
  pub so_far : List Piece
  pub from : ℕ
  pub tree : Tree
  pub at : ℕ
  pub level : ℕ
  pub others : List Symbol
  pub begins : Derives ts file 0 (term level ∷ others) from
  pub called : Called ts from tree at
  pub right : at + 1 ≡ k
  pub whole : Whole ts tree
  pub stands : run xs k ≡ st frames (Some at) goal binder ((so_far ++ pieces tree) ++ piece.Call at ∷ [])
  pub counts : terms_open a ≡ suc (length frames)
  pub held : Held ts so_far
  pub has : Has pre ((so_far ++ pieces tree) ++ piece.Call at ∷ [])
  pub done : Done xs k
  pub next : ThenCall ts xs B frames goal binder so_far from

-- among the arguments of a method
pub record Given (ts : List Terminal) (xs : List Taken) (B : Behind) (a : List Symbol) (pre : List Piece) (k : ℕ) : Type 0 where
  pub frames : List Frame
  pub goal : Option ℕ
  pub binder : ℕ
  pub so_far : List Piece
  pub from : ℕ
  pub tree : Tree
  pub at : ℕ
  pub called : Called ts from tree at
  pub no_dot : IsNot ts (is_word words.Dot) (at + 1)
  pub given : List Piece
  pub put : Trees → Trees
  pub grow : (zs : Trees) (j : ℕ) → Atoms ts k zs j → Atoms ts (at + 1) (put zs) j
  pub code : (zs : Trees) → codes.arguments (put zs) ≡ given ++ codes.arguments zs
  pub late : at + 1 ≤ k
  pub stands : run xs k ≡ st frames (Some at) goal binder (((so_far ++ pieces tree) ++ piece.Call at ∷ []) ++ given)
  pub counts : terms_open a ≡ suc (length frames)
  pub held : Held ts (((so_far ++ pieces tree) ++ piece.Call at ∷ []) ++ given)
  pub has : Has pre (((so_far ++ pieces tree) ++ piece.Call at ∷ []) ++ given)
  pub done : Done xs k
  pub next : ThenCall ts xs B frames goal binder so_far from

-- behind an argument, or a method of it
pub record Pointed (ts : List Terminal) (xs : List Taken) (B : Behind) (pre : List Piece) (k : ℕ) : Type 0 where
  pub frames : List Frame
  pub goal : Option ℕ
  pub binder : ℕ
  pub so_far : List Piece
  pub from : ℕ
  pub tree : Tree
  pub at : ℕ
  pub others : List Symbol
  pub begins : Derives ts file 0 (arguments ∷ others) from
  pub calls : IsWord ts words.Dot k → IsAt ts terminals.Name (k + 1) → Called ts from tree (k + 1)
  pub whole : Whole ts tree
  pub late : at + 1 < k
  pub stands : run xs k ≡ st frames (Some at) goal binder (so_far ++ pieces tree)
  pub held : Held ts so_far
  pub has : Has pre (so_far ++ pieces tree)
  pub done : Done xs k
  pub next : (pre' : List Piece) (x : Tree) (j : ℕ) → Dots ts tree k x j → Whole ts x → run xs j ≡ st frames (Some at) goal binder (so_far ++ pieces x) → Has pre' (so_far ++ pieces x) → Done xs j → B pre' j

-- outside terms nothing waits
pub record Still (ts : List Terminal) (xs : List Taken) (pre : List Piece) (i : ℕ) : Type 0 where
  pub goal : Option ℕ
  pub binder : ℕ
  pub so_far : List Piece
  pub stands : run xs i ≡ st [] None goal binder so_far
  pub held : Held ts so_far
  pub has : Has pre so_far

-- behind a hypothesis the arguments of a method may have ended
pub record Loose (ts : List Terminal) (xs : List Taken) (pre : List Piece) (i : ℕ) : Type 0 where
  pub method : Option ℕ
  pub goal : Option ℕ
  pub binder : ℕ
  pub so_far : List Piece
  pub all : List Piece
  pub stands : run xs i ≡ st [] method goal binder so_far
  pub gives : so_far ++ closes method ≡ all
  pub held : Held ts all
  pub has : Has pre all
  pub now : Now ts xs pre i

pub still_now : {ts : List Terminal} {xs : List Taken} {pre : List Piece} {i : ℕ} → Still ts xs pre i → Now ts xs pre i
still_now s = now_rests refl s.stands s.held s.has

pub still_loose : {ts : List Terminal} {xs : List Taken} {pre : List Piece} {i : ℕ} → Still ts xs pre i → Loose ts xs pre i
still_loose s = record { method = None; goal = s.goal; binder = s.binder; so_far = s.so_far; all = s.so_far; stands = s.stands; gives = append-nil s.so_far; held = s.held; has = s.has; now = still_now s }

-- the roles that are taken outside terms
abbrev pub is_quiet : Role → Bool
is_quiet roles.Part = true
is_quiet roles.Binder = true
is_quiet roles.BraceBinder = true
is_quiet roles.Width = true
is_quiet roles.File = true
is_quiet (roles.Word words.Import) = true
is_quiet (roles.Word words.Open) = true
is_quiet (roles.Word words.Theorem) = true
is_quiet (roles.Word words.Example) = true
is_quiet (roles.Word words.LeftRound) = true
is_quiet (roles.Word words.RightRound) = true
is_quiet (roles.Word words.LeftBrace) = true
is_quiet (roles.Word words.RightBrace) = true
is_quiet (roles.Word words.Colon) = true
is_quiet (roles.Word words.Assign) = true
is_quiet (roles.Word words.By) = true
is_quiet (roles.Word words.Intros) = true
is_quiet (roles.Word words.Semicolon) = true
is_quiet (roles.Word words.Decide) = true
is_quiet (roles.Word words.Check) = true
is_quiet (roles.Word words.Bool) = true
is_quiet (roles.Word words.BitVec) = true
is_quiet (roles.Word words.Dot) = true
is_quiet _ = false

abbrev pub when : Bool → Type 0 → Type 0
when true a = a
when false a = ⊥

-- the symbols that may be open outside terms
abbrev pub Legal : List Symbol → Type 0
Legal [] = Unit {0}
Legal (finish ∷ a) = a ≡ []
Legal (terminal r ∷ a) = when (is_quiet r) (Legal a)
Legal (unless x ∷ a) = Legal a
Legal (items ∷ a) = Legal a
Legal (path ∷ a) = Legal a
Legal (dotted ∷ a) = Legal a
Legal (paths ∷ a) = Legal a
Legal (part ∷ a) = Legal a
Legal (names ∷ a) = Legal a
Legal (brace_names ∷ a) = Legal a
Legal (sort ∷ a) = Legal a
Legal (proof ∷ a) = Legal a
Legal (intro ∷ a) = Legal a
Legal (separator ∷ a) = Legal a
Legal (tactic ∷ a) = Legal a
Legal (binders ∷ terminal (roles.Word words.Colon) ∷ a) = Legal a
Legal (bound ∷ terminal (roles.Word words.RightRound) ∷ binders ∷ terminal (roles.Word words.Colon) ∷ a) = Legal a
Legal (term zero ∷ terminal (roles.Word words.Assign) ∷ a) = Legal a
Legal _ = ⊥

pub record Outside (ts : List Terminal) (xs : List Taken) (s : Symbol) (a : List Symbol) (pre : List Piece) (i : ℕ) : Type 0 where
  pub legal : Legal (s ∷ a)
  pub still : Still ts xs pre i

pub record AmongBinders (ts : List Terminal) (xs : List Taken) (a : List Symbol) (pre : List Piece) (i : ℕ) : Type 0 where
  pub legal : Legal (binders ∷ a)
  pub loose : Loose ts xs pre i

abbrev pub AtTerminal : List Terminal → List Taken → Role → Behind → Behind
AtTerminal ts xs r B pre i = Now ts xs pre i × (IsAt ts (terminal_of r) i → B pre (i + 1))

abbrev pub AtSort : List Terminal → List Taken → Behind → Behind
AtSort ts xs B pre i = Now ts xs pre i × (IsWord ts words.Bool i → B pre (i + 1)) × (IsWord ts words.BitVec i → Now ts xs pre (i + 1) × (IsAt ts terminals.Numeral (i + 1) → B pre (i + 1 + 1)))

abbrev pub AtLiteral : List Terminal → List Taken → Behind → Behind
AtLiteral ts xs B pre k = (IsNot ts (is_word words.Hash) k → B pre k) × (IsWord ts words.Hash k → Now ts xs pre (k + 1) × (IsAt ts terminals.Numeral (k + 1) → B pre (k + 1 + 1)))

abbrev pub AtClosing : List Terminal → List Taken → Behind → Behind
AtClosing ts xs B pre j = Now ts xs pre j × (IsWord ts words.RightRound j → B pre (j + 1)) × (IsWord ts words.Colon j → AtSort ts xs (AtTerminal ts xs (roles.Word words.RightRound) B) pre (j + 1))

abbrev pub State : List Terminal → List Taken → List Symbol → Behind
State ts xs [] = λ pre i. Now ts xs pre i
State ts xs (finish ∷ a) = λ pre i. Now ts xs pre i × (slice_get ts i ≡ None → State ts xs a pre (i + 1))
State ts xs (terminal r ∷ a) = AtTerminal ts xs r (State ts xs a)
State ts xs (unless x ∷ a) = λ pre i. Now ts xs pre i × (IsNot ts x i → State ts xs a pre i)
State ts xs (sort ∷ a) = AtSort ts xs (State ts xs a)
State ts xs (term p ∷ a) = Before ts xs (State ts xs a) a p
State ts xs (tail p l ∷ a) = Part ts xs (State ts xs a) a p l
State ts xs (call ∷ a) = Callee ts xs (State ts xs a) a
State ts xs (methods ∷ a) = Receiver ts xs (State ts xs a) a
State ts xs (more_methods ∷ a) = Named ts xs (State ts xs a) a
State ts xs (arguments ∷ a) = Given ts xs (State ts xs a) a
State ts xs (dots ∷ a) = Pointed ts xs (State ts xs a)
State ts xs (atom ∷ a) = Atomic ts xs (State ts xs a) a
State ts xs (literal ∷ a) = AtLiteral ts xs (State ts xs a)
State ts xs (closing ∷ a) = AtClosing ts xs (State ts xs a)
State ts xs (binders ∷ a) = AmongBinders ts xs a
State ts xs (s ∷ a) = Outside ts xs s a
