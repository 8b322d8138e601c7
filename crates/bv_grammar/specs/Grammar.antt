-- The grammar of a file: its symbols and its rules.
use Rattle.std.specs.Prelude.{◌≡◌, ℕ, List, [], ◌∷◌, Some}
use Rattle.bv_grammar.specs.declared.words.Word.{Word}
use Rattle.bv_grammar.specs.declared.words.Word.TheVariants as words
use Rattle.bv_grammar.specs.declared.words.Terminal.{Terminal}
use Rattle.bv_grammar.specs.declared.words.Terminal.TheVariants as terminals
use Rattle.bv_grammar.specs.declared.words.Role.{Role}
use Rattle.bv_grammar.specs.declared.words.Role.TheVariants as roles
use Rattle.bv_grammar.specs.declared.words.Fixity.{Fixity}
use Rattle.bv_grammar.specs.Operators.{prefix_level, fixity_of, when_fits}

-- the terminal that is taken in a role
abbrev pub terminal_of : Role → Terminal
terminal_of roles.Part = terminals.Name
terminal_of roles.Binder = terminals.Name
terminal_of roles.BraceBinder = terminals.Name
terminal_of roles.Variable = terminals.Name
terminal_of roles.Method = terminals.Name
terminal_of roles.Numeral = terminals.Numeral
terminal_of roles.Width = terminals.Numeral
terminal_of roles.File = terminals.Text
terminal_of (roles.Prefix w) = terminals.Word w
terminal_of (roles.Infix w) = terminals.Word w
terminal_of (roles.Constant w) = terminals.Word w
terminal_of roles.Bracket = terminals.Word words.LeftRound
terminal_of roles.Ascription = terminals.Word words.Colon
terminal_of (roles.Word w) = terminals.Word w

-- why a repetition or an option isn't gone on with: the next terminal doesn't begin it
pub data Next : Type 0 where
  begins_item begins_part begins_binder begins_name begins_atom : Next
  is_word : Word → Next
  operator_on : ℕ → ℕ → Next

-- A symbol is a terminal in its role, the end of the file, a condition on the next terminal, or a nonterminal. `term p` is
-- a term of level p; `tail p l` is what goes on behind a part of level l in a term of level p.
pub data Symbol : Type 0 where
  terminal : Role → Symbol
  finish : Symbol
  unless : Next → Symbol
  items path dotted paths part binders names brace_names bound sort proof intro separator tactic : Symbol
  term : ℕ → Symbol
  tail : ℕ → ℕ → Symbol
  call methods more_methods arguments dots atom literal closing : Symbol

-- a word as itself
abbrev pub word : Word → Symbol
word w = terminal (roles.Word w)

pub data IsConstant : Word → Type 0 where
  is_true : IsConstant words.True
  is_false : IsConstant words.False
  is_true_proposition : IsConstant words.TrueProposition
  is_false_proposition : IsConstant words.FalseProposition

-- Rule s r: the symbol s may be replaced by the symbols r
pub data Rule : Symbol → List Symbol → Type 0 where
  -- item = "import" path | "open" path path* | head binder* ":" term ":=" proof; head = "theorem" path | "example"
  import_item : Rule items (word words.Import ∷ path ∷ items ∷ [])
  open_item : Rule items (word words.Open ∷ path ∷ paths ∷ items ∷ [])
  theorem_item : Rule items (word words.Theorem ∷ path ∷ binders ∷ word words.Colon ∷ term 0 ∷ word words.Assign ∷ proof ∷ items ∷ [])
  example_item : Rule items (word words.Example ∷ binders ∷ word words.Colon ∷ term 0 ∷ word words.Assign ∷ proof ∷ items ∷ [])
  no_item : Rule items (unless begins_item ∷ [])
  -- path = part ("." part)*; part = name | "Bool" | "BitVec"
  a_path : Rule path (part ∷ dotted ∷ [])
  part_name : Rule part (terminal roles.Part ∷ [])
  part_bool : Rule part (word words.Bool ∷ [])
  part_bitvec : Rule part (word words.BitVec ∷ [])
  further_part : Rule dotted (word words.Dot ∷ part ∷ dotted ∷ [])
  no_part : Rule dotted (unless (is_word words.Dot) ∷ [])
  further_path : Rule paths (path ∷ paths ∷ [])
  no_path : Rule paths (unless begins_part ∷ [])
  -- binder = "(" name name* ":" (type | term) ")" | "{" name name* ":" type "}"
  round : Rule binders (word words.LeftRound ∷ terminal roles.Binder ∷ names ∷ word words.Colon ∷ bound ∷ word words.RightRound ∷ binders ∷ [])
  brace : Rule binders (word words.LeftBrace ∷ terminal roles.BraceBinder ∷ brace_names ∷ word words.Colon ∷ sort ∷ word words.RightBrace ∷ binders ∷ [])
  no_binder : Rule binders (unless begins_binder ∷ [])
  further_name : Rule names (terminal roles.Binder ∷ names ∷ [])
  no_name : Rule names (unless begins_name ∷ [])
  further_brace_name : Rule brace_names (terminal roles.BraceBinder ∷ brace_names ∷ [])
  no_brace_name : Rule brace_names (unless begins_name ∷ [])
  variables : Rule bound (sort ∷ [])
  hypothesis : Rule bound (term 0 ∷ [])
  -- type = "Bool" | "BitVec" numeral
  truth : Rule sort (word words.Bool ∷ [])
  vector : Rule sort (word words.BitVec ∷ terminal roles.Width ∷ [])
  -- proof = "by" ["intros" [";"]] ("bv_decide" | "bv_check" string)
  a_proof : Rule proof (word words.By ∷ intro ∷ tactic ∷ [])
  intros : Rule intro (word words.Intros ∷ separator ∷ [])
  no_intros : Rule intro (unless (is_word words.Intros) ∷ [])
  separated : Rule separator (word words.Semicolon ∷ [])
  not_separated : Rule separator (unless (is_word words.Semicolon) ∷ [])
  decided : Rule tactic (word words.Decide ∷ [])
  checked : Rule tactic (word words.Check ∷ terminal roles.File ∷ [])
  -- term(p): an operand, and as long as the next terminal is an infix operator that fits: it and its right operand
  prefix : {p l : ℕ} {w : Word} → prefix_level w ≡ Some l → Rule (term p) (terminal (roles.Prefix w) ∷ term l ∷ tail p l ∷ [])
  choice : {p : ℕ} → Rule (term p) (word words.If ∷ term 0 ∷ word words.Then ∷ term 0 ∷ word words.Else ∷ term 0 ∷ tail p 0 ∷ [])
  a_call : {p : ℕ} → Rule (term p) (call ∷ tail p 1024 ∷ [])
  infix_ : {p l : ℕ} {w : Word} (o : Fixity) → when_fits p l (fixity_of w) ≡ Some o → Rule (tail p l) (terminal (roles.Infix w) ∷ term o.right ∷ tail p o.level ∷ [])
  no_infix : {p l : ℕ} → Rule (tail p l) (unless (operator_on p l) ∷ [])
  -- call = atom | atom ("." name)+ argument*; argument = atom ("." name)*
  a_receiver : Rule call (atom ∷ methods ∷ [])
  a_method : Rule methods (word words.Dot ∷ terminal roles.Method ∷ more_methods ∷ [])
  no_method : Rule methods (unless (is_word words.Dot) ∷ [])
  further_method : Rule more_methods (word words.Dot ∷ terminal roles.Method ∷ more_methods ∷ [])
  then_arguments : Rule more_methods (unless (is_word words.Dot) ∷ arguments ∷ [])
  an_argument : Rule arguments (atom ∷ dots ∷ arguments ∷ [])
  no_argument : Rule arguments (unless begins_atom ∷ [])
  a_dot : Rule dots (word words.Dot ∷ terminal roles.Method ∷ dots ∷ [])
  no_dot : Rule dots (unless (is_word words.Dot) ∷ [])
  -- atom = name | numeral | numeral "#" numeral | the constants | "(" term ")" | "(" term ":" type ")"
  a_variable : Rule atom (terminal roles.Variable ∷ [])
  a_numeral : Rule atom (terminal roles.Numeral ∷ literal ∷ [])
  with_width : Rule literal (word words.Hash ∷ terminal roles.Width ∷ [])
  without_width : Rule literal (unless (is_word words.Hash) ∷ [])
  a_constant : {w : Word} → IsConstant w → Rule atom (terminal (roles.Constant w) ∷ [])
  in_brackets : Rule atom (terminal roles.Bracket ∷ term 0 ∷ closing ∷ [])
  plain_closing : Rule closing (word words.RightRound ∷ [])
  ascribed : Rule closing (terminal roles.Ascription ∷ sort ∷ word words.RightRound ∷ [])

-- file = item*
abbrev pub file : List Symbol
file = items ∷ finish ∷ []

-- the terminal begins an item, a part of a path, a binder, a further name, an argument; it is this word; it is an infix
-- operator with which a term of level p goes on behind a part of level l
pub data Begins : Next → Terminal → Type 0 where
  item_import : Begins begins_item (terminals.Word words.Import)
  item_open : Begins begins_item (terminals.Word words.Open)
  item_theorem : Begins begins_item (terminals.Word words.Theorem)
  item_example : Begins begins_item (terminals.Word words.Example)
  by_name : Begins begins_part terminals.Name
  by_bool : Begins begins_part (terminals.Word words.Bool)
  by_bitvec : Begins begins_part (terminals.Word words.BitVec)
  by_round : Begins begins_binder (terminals.Word words.LeftRound)
  by_brace : Begins begins_binder (terminals.Word words.LeftBrace)
  by_binder : Begins begins_name terminals.Name
  atom_name : Begins begins_atom terminals.Name
  atom_numeral : Begins begins_atom terminals.Numeral
  atom_constant : {w : Word} → IsConstant w → Begins begins_atom (terminals.Word w)
  atom_round : Begins begins_atom (terminals.Word words.LeftRound)
  this_word : {w : Word} → Begins (is_word w) (terminals.Word w)
  fitting : {p l : ℕ} {w : Word} (o : Fixity) → when_fits p l (fixity_of w) ≡ Some o → Begins (operator_on p l) (terminals.Word w)
