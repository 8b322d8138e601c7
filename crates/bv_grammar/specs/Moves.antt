-- What a symbol becomes before a terminal: the parse table, each entry of which goes on up to the terminal itself.
use Rattle.std.specs.Prelude.{◌≡◌, ℕ, ◌-◌, Bool, true, false, List, [], ◌∷◌, ◌++◌, Option, Some, None}
use Rattle.bv_grammar.specs.declared.words.Word.{Word}
use Rattle.bv_grammar.specs.declared.words.Word.TheVariants as words
use Rattle.bv_grammar.specs.declared.words.Terminal.{Terminal}
use Rattle.bv_grammar.specs.declared.words.Terminal.TheVariants as terminals
use Rattle.bv_grammar.specs.declared.words.Role.{Role}
use Rattle.bv_grammar.specs.declared.words.Role.TheVariants as roles
use Rattle.bv_grammar.specs.declared.words.Fixity.{Fixity}
use Rattle.bv_grammar.specs.declared.stack.Open.{Open}
use Rattle.bv_grammar.specs.declared.stack.Open.TheVariants as opens
use Rattle.bv_grammar.specs.declared.stack.Step.{Step}
use Rattle.bv_grammar.specs.declared.stack.Step.TheVariants.{Took, Passed, Failed}
use Rattle.bv_grammar.specs.Operators.{prefix_level, fixity_of, when_fits}
use Rattle.bv_grammar.specs.Grammar.{terminal_of, Symbol, terminal, word, items, path, dotted, paths, part, binders, names, brace_names, bound, sort, proof, intro, separator, tactic, term, tail, call, methods, more_methods, arguments, dots, atom, literal, closing}

-- the symbol that stands on the stack
abbrev pub symbol_of : Open → Symbol
symbol_of (opens.Terminal r) = terminal r
symbol_of opens.Items = items
symbol_of opens.Path = path
symbol_of opens.Dotted = dotted
symbol_of opens.Paths = paths
symbol_of opens.Part = part
symbol_of opens.Binders = binders
symbol_of opens.Names = names
symbol_of opens.BraceNames = brace_names
symbol_of opens.Bound = bound
symbol_of opens.Sort = sort
symbol_of opens.Proof = proof
symbol_of opens.Intro = intro
symbol_of opens.Separator = separator
symbol_of opens.Tactic = tactic
symbol_of (opens.Term p) = term p
symbol_of (opens.Tail p l) = tail p l
symbol_of opens.Call = call
symbol_of opens.Methods = methods
symbol_of opens.MoreMethods = more_methods
symbol_of opens.Arguments = arguments
symbol_of opens.Dots = dots
symbol_of opens.Atom = atom
symbol_of opens.Literal = literal
symbol_of opens.Closing = closing

-- the symbols that are open: those on the stack, the last one first, and then a
abbrev pub opened : List Open → List Symbol → List Symbol
opened [] a = a
opened (s ∷ stack) a = opened stack (symbol_of s ∷ a)

-- what is done with a symbol, and what it leaves open
pub record Move : Type 0 where
  pub step : Step
  pub rest : List Symbol

-- it takes the terminal in this role
abbrev pub took : Role → List Symbol → Move
took r rest = record { step = Took r; rest = rest }

-- it becomes nothing
abbrev pub passed : Move
passed = record { step = Passed; rest = [] }

-- it can't go on
abbrev pub failed : Move
failed = record { step = Failed; rest = [] }

-- what the first of some symbols does, the others standing behind it
abbrev pub before : Move → List Symbol → Move
before m rest = record { step = m.step; rest = m.rest ++ rest }

-- it takes a word as itself
abbrev pub took_word : Word → List Symbol → Move
took_word w rest = took (roles.Word w) rest

abbrev pub items_move : Option Terminal → Move
items_move (Some (terminals.Word words.Import)) = took_word words.Import (path ∷ items ∷ [])
items_move (Some (terminals.Word words.Open)) = took_word words.Open (path ∷ paths ∷ items ∷ [])
items_move (Some (terminals.Word words.Theorem)) = took_word words.Theorem (path ∷ binders ∷ word words.Colon ∷ term 0 ∷ word words.Assign ∷ proof ∷ items ∷ [])
items_move (Some (terminals.Word words.Example)) = took_word words.Example (binders ∷ word words.Colon ∷ term 0 ∷ word words.Assign ∷ proof ∷ items ∷ [])
items_move _ = passed

abbrev pub part_move : Option Terminal → Move
part_move (Some terminals.Name) = took roles.Part []
part_move (Some (terminals.Word words.Bool)) = took_word words.Bool []
part_move (Some (terminals.Word words.BitVec)) = took_word words.BitVec []
part_move _ = failed

abbrev pub path_move : Option Terminal → Move
path_move t = before (part_move t) (dotted ∷ [])

abbrev pub dotted_move : Option Terminal → Move
dotted_move (Some (terminals.Word words.Dot)) = took_word words.Dot (part ∷ dotted ∷ [])
dotted_move _ = passed

-- whether the terminal begins a part of a path
abbrev pub is_part : Option Terminal → Bool
is_part (Some terminals.Name) = true
is_part (Some (terminals.Word words.Bool)) = true
is_part (Some (terminals.Word words.BitVec)) = true
is_part _ = false

abbrev pub further_path_move : Bool → Option Terminal → Move
further_path_move true t = before (path_move t) (paths ∷ [])
further_path_move false t = passed

abbrev pub paths_move : Option Terminal → Move
paths_move t = further_path_move (is_part t) t

abbrev pub binders_move : Option Terminal → Move
binders_move (Some (terminals.Word words.LeftRound)) = took_word words.LeftRound (terminal roles.Binder ∷ names ∷ word words.Colon ∷ bound ∷ word words.RightRound ∷ binders ∷ [])
binders_move (Some (terminals.Word words.LeftBrace)) = took_word words.LeftBrace (terminal roles.BraceBinder ∷ brace_names ∷ word words.Colon ∷ sort ∷ word words.RightBrace ∷ binders ∷ [])
binders_move _ = passed

abbrev pub names_move : Option Terminal → Move
names_move (Some terminals.Name) = took roles.Binder (names ∷ [])
names_move _ = passed

abbrev pub brace_names_move : Option Terminal → Move
brace_names_move (Some terminals.Name) = took roles.BraceBinder (brace_names ∷ [])
brace_names_move _ = passed

abbrev pub sort_move : Option Terminal → Move
sort_move (Some (terminals.Word words.Bool)) = took_word words.Bool []
sort_move (Some (terminals.Word words.BitVec)) = took_word words.BitVec (terminal roles.Width ∷ [])
sort_move _ = failed

abbrev pub proof_move : Option Terminal → Move
proof_move (Some (terminals.Word words.By)) = took_word words.By (intro ∷ tactic ∷ [])
proof_move _ = failed

abbrev pub intro_move : Option Terminal → Move
intro_move (Some (terminals.Word words.Intros)) = took_word words.Intros (separator ∷ [])
intro_move _ = passed

abbrev pub separator_move : Option Terminal → Move
separator_move (Some (terminals.Word words.Semicolon)) = took_word words.Semicolon []
separator_move _ = passed

abbrev pub tactic_move : Option Terminal → Move
tactic_move (Some (terminals.Word words.Decide)) = took_word words.Decide []
tactic_move (Some (terminals.Word words.Check)) = took_word words.Check (terminal roles.File ∷ [])
tactic_move _ = failed

abbrev pub constant_move : Word → Move
constant_move words.True = took (roles.Constant words.True) []
constant_move words.False = took (roles.Constant words.False) []
constant_move words.TrueProposition = took (roles.Constant words.TrueProposition) []
constant_move words.FalseProposition = took (roles.Constant words.FalseProposition) []
constant_move _ = failed

abbrev pub atom_move : Option Terminal → Move
atom_move (Some terminals.Name) = took roles.Variable []
atom_move (Some terminals.Numeral) = took roles.Numeral (literal ∷ [])
atom_move (Some (terminals.Word words.LeftRound)) = took roles.Bracket (term 0 ∷ closing ∷ [])
atom_move (Some (terminals.Word w)) = constant_move w
atom_move _ = failed

-- whether the terminal begins an atom
abbrev pub is_atom : Option Terminal → Bool
is_atom (Some terminals.Name) = true
is_atom (Some terminals.Numeral) = true
is_atom (Some (terminals.Word words.True)) = true
is_atom (Some (terminals.Word words.False)) = true
is_atom (Some (terminals.Word words.TrueProposition)) = true
is_atom (Some (terminals.Word words.FalseProposition)) = true
is_atom (Some (terminals.Word words.LeftRound)) = true
is_atom _ = false

abbrev pub literal_move : Option Terminal → Move
literal_move (Some (terminals.Word words.Hash)) = took_word words.Hash (terminal roles.Width ∷ [])
literal_move _ = passed

abbrev pub closing_move : Option Terminal → Move
closing_move (Some (terminals.Word words.RightRound)) = took_word words.RightRound []
closing_move (Some (terminals.Word words.Colon)) = took roles.Ascription (sort ∷ word words.RightRound ∷ [])
closing_move _ = failed

abbrev pub methods_move : Option Terminal → Move
methods_move (Some (terminals.Word words.Dot)) = took_word words.Dot (terminal roles.Method ∷ more_methods ∷ [])
methods_move _ = passed

abbrev pub dots_move : Option Terminal → Move
dots_move (Some (terminals.Word words.Dot)) = took_word words.Dot (terminal roles.Method ∷ dots ∷ [])
dots_move _ = passed

abbrev pub argument_move : Bool → Option Terminal → Move
argument_move true t = before (atom_move t) (dots ∷ arguments ∷ [])
argument_move false t = passed

abbrev pub arguments_move : Option Terminal → Move
arguments_move t = argument_move (is_atom t) t

abbrev pub is_dot : Option Terminal → Bool
is_dot (Some (terminals.Word words.Dot)) = true
is_dot _ = false

abbrev pub further_method_move : Bool → Option Terminal → Move
further_method_move true t = took_word words.Dot (terminal roles.Method ∷ more_methods ∷ [])
further_method_move false t = arguments_move t

abbrev pub more_methods_move : Option Terminal → Move
more_methods_move t = further_method_move (is_dot t) t

abbrev pub call_move : Option Terminal → Move
call_move t = before (atom_move t) (methods ∷ [])

abbrev pub operand_move : ℕ → Word → Option ℕ → Move
operand_move p w (Some l) = took (roles.Prefix w) (term l ∷ tail p l ∷ [])
operand_move p w None = before (call_move (Some (terminals.Word w))) (tail p 1024 ∷ [])

abbrev pub term_move : ℕ → Option Terminal → Move
term_move p (Some (terminals.Word words.If)) = took_word words.If (term 0 ∷ word words.Then ∷ term 0 ∷ word words.Else ∷ term 0 ∷ tail p 0 ∷ [])
term_move p (Some (terminals.Word w)) = operand_move p w (prefix_level w)
term_move p t = before (call_move t) (tail p 1024 ∷ [])

-- whether the terminal begins a sort
abbrev pub is_sort : Option Terminal → Bool
is_sort (Some (terminals.Word words.Bool)) = true
is_sort (Some (terminals.Word words.BitVec)) = true
is_sort _ = false

abbrev pub bound_by : Bool → Option Terminal → Move
bound_by true t = sort_move t
bound_by false t = term_move 0 t

abbrev pub bound_move : Option Terminal → Move
bound_move t = bound_by (is_sort t) t

abbrev pub operator_move : ℕ → Word → Option Fixity → Move
operator_move p w (Some o) = took (roles.Infix w) (term o.right ∷ tail p o.level ∷ [])
operator_move p w None = passed

abbrev pub tail_move : ℕ → ℕ → Option Terminal → Move
tail_move p l (Some (terminals.Word w)) = operator_move p w (when_fits p l (fixity_of w))
tail_move p l _ = passed

-- what the code does with the symbols on the stack
abbrev pub Moved : Move → Step → List Open → List Open → Type 0
Moved m step old new = (step ≡ m.step) × ((a : List Symbol) → opened new a ≡ m.rest ++ opened old a)

-- a terminal that is open takes the terminal in its own role, where it is that terminal, and else fails
abbrev pub Expected : Role → Option Terminal → Step → Type 0
Expected r t (Took r') = (r' ≡ r) × (t ≡ Some (terminal_of r))
Expected r t Passed = ⊥
Expected r t Failed = t ≡ Some (terminal_of r) → ⊥

-- what a step does with the last symbol on the stack
abbrev pub Stepped : Open → Option Terminal → Step → List Open → List Open → Type 0
Stepped (opens.Terminal r) t step old new = Expected r t step × (new ≡ old)
Stepped opens.Items t step old new = Moved (items_move t) step old new
Stepped opens.Path t step old new = Moved (path_move t) step old new
Stepped opens.Dotted t step old new = Moved (dotted_move t) step old new
Stepped opens.Paths t step old new = Moved (paths_move t) step old new
Stepped opens.Part t step old new = Moved (part_move t) step old new
Stepped opens.Binders t step old new = Moved (binders_move t) step old new
Stepped opens.Names t step old new = Moved (names_move t) step old new
Stepped opens.BraceNames t step old new = Moved (brace_names_move t) step old new
Stepped opens.Bound t step old new = Moved (bound_move t) step old new
Stepped opens.Sort t step old new = Moved (sort_move t) step old new
Stepped opens.Proof t step old new = Moved (proof_move t) step old new
Stepped opens.Intro t step old new = Moved (intro_move t) step old new
Stepped opens.Separator t step old new = Moved (separator_move t) step old new
Stepped opens.Tactic t step old new = Moved (tactic_move t) step old new
Stepped (opens.Term p) t step old new = Moved (term_move p t) step old new
Stepped (opens.Tail p l) t step old new = Moved (tail_move p l t) step old new
Stepped opens.Call t step old new = Moved (call_move t) step old new
Stepped opens.Methods t step old new = Moved (methods_move t) step old new
Stepped opens.MoreMethods t step old new = Moved (more_methods_move t) step old new
Stepped opens.Arguments t step old new = Moved (arguments_move t) step old new
Stepped opens.Dots t step old new = Moved (dots_move t) step old new
Stepped opens.Atom t step old new = Moved (atom_move t) step old new
Stepped opens.Literal t step old new = Moved (literal_move t) step old new
Stepped opens.Closing t step old new = Moved (closing_move t) step old new

-- how many wait where so many terms have begun and this symbol comes next
abbrev pub waiting_before : ℕ → Option Open → ℕ
waiting_before n (Some (opens.Term p)) = n
waiting_before n _ = n - 1
