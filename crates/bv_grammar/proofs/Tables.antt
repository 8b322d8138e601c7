-- The grammar leaves no choice: the next terminal says which rule goes on.
use Rattle.std.proofs.Common.{◌≡◌, ℕ, ◌<◌, List, [], ◌∷◌, ◌++◌, Option, Some, None, refl, ap, arith, ◌∙◌}
use Rattle.std.specs.Prelude.{slice_get}
use Rattle.bv_grammar.specs.declared.words.Word.{Word}
use Rattle.bv_grammar.specs.declared.words.Word.TheVariants as words
use Rattle.bv_grammar.specs.declared.words.Terminal.{Terminal}
use Rattle.bv_grammar.specs.declared.words.Terminal.TheVariants as terminals
use Rattle.bv_grammar.specs.declared.words.Role.TheVariants as roles
use Rattle.bv_grammar.specs.declared.words.Fixity.{Fixity}
use Rattle.bv_grammar.specs.Operators.{prefix_level, fixity_of, when_fits}
use Rattle.bv_grammar.specs.Grammar.{Next, begins_item, begins_part, begins_binder, begins_name, begins_atom, is_word, operator_on, Symbol, terminal, word, finish, unless, items, path, dotted, paths, part, binders, names, brace_names, bound, sort, proof, intro, separator, tactic, term, tail, call, methods, more_methods, arguments, dots, atom, literal, closing, IsConstant, is_true, is_false, is_true_proposition, is_false_proposition, Begins, item_import, item_open, item_theorem, item_example, by_name, by_bool, by_bitvec, by_round, by_brace, by_binder, atom_name, atom_numeral, atom_constant, atom_round, this_word, fitting}
use Rattle.bv_grammar.specs.Grammar as g
use Rattle.bv_grammar.specs.Derivation.{Derives, here, by_rule}
use Rattle.bv_grammar.proofs.Derivations.{after_terminal, after_unless}

abbrev pub items_table : Option Terminal → List Symbol
items_table (Some (terminals.Word words.Import)) = word words.Import ∷ path ∷ items ∷ []
items_table (Some (terminals.Word words.Open)) = word words.Open ∷ path ∷ paths ∷ items ∷ []
items_table (Some (terminals.Word words.Theorem)) = word words.Theorem ∷ path ∷ binders ∷ word words.Colon ∷ term 0 ∷ word words.Assign ∷ proof ∷ items ∷ []
items_table (Some (terminals.Word words.Example)) = word words.Example ∷ binders ∷ word words.Colon ∷ term 0 ∷ word words.Assign ∷ proof ∷ items ∷ []
items_table _ = unless begins_item ∷ []

items_stop : (o : Option Terminal) → ((t : Terminal) → o ≡ Some t → Begins begins_item t → ⊥) → items_table o ≡ (unless begins_item ∷ [])
items_stop (Some (terminals.Word words.Import)) h = absurd (h _ refl item_import)
items_stop (Some (terminals.Word words.Open)) h = absurd (h _ refl item_open)
items_stop (Some (terminals.Word words.Theorem)) h = absurd (h _ refl item_theorem)
items_stop (Some (terminals.Word words.Example)) h = absurd (h _ refl item_example)
items_stop _ h = refl

abbrev pub dotted_table : Option Terminal → List Symbol
dotted_table (Some (terminals.Word words.Dot)) = word words.Dot ∷ part ∷ dotted ∷ []
dotted_table _ = unless (is_word words.Dot) ∷ []

dotted_stop : (o : Option Terminal) → ((t : Terminal) → o ≡ Some t → Begins (is_word words.Dot) t → ⊥) → dotted_table o ≡ (unless (is_word words.Dot) ∷ [])
dotted_stop (Some (terminals.Word words.Dot)) h = absurd (h _ refl this_word)
dotted_stop _ h = refl

abbrev pub paths_table : Option Terminal → List Symbol
paths_table (Some terminals.Name) = path ∷ paths ∷ []
paths_table (Some (terminals.Word words.Bool)) = path ∷ paths ∷ []
paths_table (Some (terminals.Word words.BitVec)) = path ∷ paths ∷ []
paths_table _ = unless begins_part ∷ []

paths_stop : (o : Option Terminal) → ((t : Terminal) → o ≡ Some t → Begins begins_part t → ⊥) → paths_table o ≡ (unless begins_part ∷ [])
paths_stop (Some terminals.Name) h = absurd (h _ refl by_name)
paths_stop (Some (terminals.Word words.Bool)) h = absurd (h _ refl by_bool)
paths_stop (Some (terminals.Word words.BitVec)) h = absurd (h _ refl by_bitvec)
paths_stop _ h = refl

abbrev pub binders_table : Option Terminal → List Symbol
binders_table (Some (terminals.Word words.LeftRound)) = word words.LeftRound ∷ terminal roles.Binder ∷ names ∷ word words.Colon ∷ bound ∷ word words.RightRound ∷ binders ∷ []
binders_table (Some (terminals.Word words.LeftBrace)) = word words.LeftBrace ∷ terminal roles.BraceBinder ∷ brace_names ∷ word words.Colon ∷ sort ∷ word words.RightBrace ∷ binders ∷ []
binders_table _ = unless begins_binder ∷ []

binders_stop : (o : Option Terminal) → ((t : Terminal) → o ≡ Some t → Begins begins_binder t → ⊥) → binders_table o ≡ (unless begins_binder ∷ [])
binders_stop (Some (terminals.Word words.LeftRound)) h = absurd (h _ refl by_round)
binders_stop (Some (terminals.Word words.LeftBrace)) h = absurd (h _ refl by_brace)
binders_stop _ h = refl

abbrev pub names_table : Option Terminal → List Symbol
names_table (Some terminals.Name) = terminal roles.Binder ∷ names ∷ []
names_table _ = unless begins_name ∷ []

names_stop : (o : Option Terminal) → ((t : Terminal) → o ≡ Some t → Begins begins_name t → ⊥) → names_table o ≡ (unless begins_name ∷ [])
names_stop (Some terminals.Name) h = absurd (h _ refl by_binder)
names_stop _ h = refl

abbrev pub brace_names_table : Option Terminal → List Symbol
brace_names_table (Some terminals.Name) = terminal roles.BraceBinder ∷ brace_names ∷ []
brace_names_table _ = unless begins_name ∷ []

brace_names_stop : (o : Option Terminal) → ((t : Terminal) → o ≡ Some t → Begins begins_name t → ⊥) → brace_names_table o ≡ (unless begins_name ∷ [])
brace_names_stop (Some terminals.Name) h = absurd (h _ refl by_binder)
brace_names_stop _ h = refl

abbrev pub intro_table : Option Terminal → List Symbol
intro_table (Some (terminals.Word words.Intros)) = word words.Intros ∷ separator ∷ []
intro_table _ = unless (is_word words.Intros) ∷ []

intro_stop : (o : Option Terminal) → ((t : Terminal) → o ≡ Some t → Begins (is_word words.Intros) t → ⊥) → intro_table o ≡ (unless (is_word words.Intros) ∷ [])
intro_stop (Some (terminals.Word words.Intros)) h = absurd (h _ refl this_word)
intro_stop _ h = refl

abbrev pub separator_table : Option Terminal → List Symbol
separator_table (Some (terminals.Word words.Semicolon)) = word words.Semicolon ∷ []
separator_table _ = unless (is_word words.Semicolon) ∷ []

separator_stop : (o : Option Terminal) → ((t : Terminal) → o ≡ Some t → Begins (is_word words.Semicolon) t → ⊥) → separator_table o ≡ (unless (is_word words.Semicolon) ∷ [])
separator_stop (Some (terminals.Word words.Semicolon)) h = absurd (h _ refl this_word)
separator_stop _ h = refl

abbrev pub methods_table : Option Terminal → List Symbol
methods_table (Some (terminals.Word words.Dot)) = word words.Dot ∷ terminal roles.Method ∷ more_methods ∷ []
methods_table _ = unless (is_word words.Dot) ∷ []

methods_stop : (o : Option Terminal) → ((t : Terminal) → o ≡ Some t → Begins (is_word words.Dot) t → ⊥) → methods_table o ≡ (unless (is_word words.Dot) ∷ [])
methods_stop (Some (terminals.Word words.Dot)) h = absurd (h _ refl this_word)
methods_stop _ h = refl

abbrev pub more_methods_table : Option Terminal → List Symbol
more_methods_table (Some (terminals.Word words.Dot)) = word words.Dot ∷ terminal roles.Method ∷ more_methods ∷ []
more_methods_table _ = unless (is_word words.Dot) ∷ arguments ∷ []

more_methods_stop : (o : Option Terminal) → ((t : Terminal) → o ≡ Some t → Begins (is_word words.Dot) t → ⊥) → more_methods_table o ≡ (unless (is_word words.Dot) ∷ arguments ∷ [])
more_methods_stop (Some (terminals.Word words.Dot)) h = absurd (h _ refl this_word)
more_methods_stop _ h = refl

abbrev pub arguments_table : Option Terminal → List Symbol
arguments_table (Some terminals.Name) = atom ∷ dots ∷ arguments ∷ []
arguments_table (Some terminals.Numeral) = atom ∷ dots ∷ arguments ∷ []
arguments_table (Some (terminals.Word words.True)) = atom ∷ dots ∷ arguments ∷ []
arguments_table (Some (terminals.Word words.False)) = atom ∷ dots ∷ arguments ∷ []
arguments_table (Some (terminals.Word words.TrueProposition)) = atom ∷ dots ∷ arguments ∷ []
arguments_table (Some (terminals.Word words.FalseProposition)) = atom ∷ dots ∷ arguments ∷ []
arguments_table (Some (terminals.Word words.LeftRound)) = atom ∷ dots ∷ arguments ∷ []
arguments_table _ = unless begins_atom ∷ []

arguments_stop : (o : Option Terminal) → ((t : Terminal) → o ≡ Some t → Begins begins_atom t → ⊥) → arguments_table o ≡ (unless begins_atom ∷ [])
arguments_stop (Some terminals.Name) h = absurd (h _ refl atom_name)
arguments_stop (Some terminals.Numeral) h = absurd (h _ refl atom_numeral)
arguments_stop (Some (terminals.Word words.True)) h = absurd (h _ refl (atom_constant is_true))
arguments_stop (Some (terminals.Word words.False)) h = absurd (h _ refl (atom_constant is_false))
arguments_stop (Some (terminals.Word words.TrueProposition)) h = absurd (h _ refl (atom_constant is_true_proposition))
arguments_stop (Some (terminals.Word words.FalseProposition)) h = absurd (h _ refl (atom_constant is_false_proposition))
arguments_stop (Some (terminals.Word words.LeftRound)) h = absurd (h _ refl atom_round)
arguments_stop _ h = refl

abbrev pub dots_table : Option Terminal → List Symbol
dots_table (Some (terminals.Word words.Dot)) = word words.Dot ∷ terminal roles.Method ∷ dots ∷ []
dots_table _ = unless (is_word words.Dot) ∷ []

dots_stop : (o : Option Terminal) → ((t : Terminal) → o ≡ Some t → Begins (is_word words.Dot) t → ⊥) → dots_table o ≡ (unless (is_word words.Dot) ∷ [])
dots_stop (Some (terminals.Word words.Dot)) h = absurd (h _ refl this_word)
dots_stop _ h = refl

abbrev pub literal_table : Option Terminal → List Symbol
literal_table (Some (terminals.Word words.Hash)) = word words.Hash ∷ terminal roles.Width ∷ []
literal_table _ = unless (is_word words.Hash) ∷ []

literal_stop : (o : Option Terminal) → ((t : Terminal) → o ≡ Some t → Begins (is_word words.Hash) t → ⊥) → literal_table o ≡ (unless (is_word words.Hash) ∷ [])
literal_stop (Some (terminals.Word words.Hash)) h = absurd (h _ refl this_word)
literal_stop _ h = refl

abbrev pub path_table : Option Terminal → List Symbol
path_table _ = part ∷ dotted ∷ []

abbrev pub part_table : Option Terminal → List Symbol
part_table (Some (terminals.Word words.Bool)) = word words.Bool ∷ []
part_table (Some (terminals.Word words.BitVec)) = word words.BitVec ∷ []
part_table _ = terminal roles.Part ∷ []

abbrev pub sort_table : Option Terminal → List Symbol
sort_table (Some (terminals.Word words.Bool)) = word words.Bool ∷ []
sort_table _ = word words.BitVec ∷ terminal roles.Width ∷ []

abbrev pub bound_table : Option Terminal → List Symbol
bound_table (Some (terminals.Word words.Bool)) = sort ∷ []
bound_table (Some (terminals.Word words.BitVec)) = sort ∷ []
bound_table _ = term 0 ∷ []

abbrev pub tactic_table : Option Terminal → List Symbol
tactic_table (Some (terminals.Word words.Decide)) = word words.Decide ∷ []
tactic_table _ = word words.Check ∷ terminal roles.File ∷ []

abbrev pub closing_table : Option Terminal → List Symbol
closing_table (Some (terminals.Word words.RightRound)) = word words.RightRound ∷ []
closing_table _ = terminal roles.Ascription ∷ sort ∷ word words.RightRound ∷ []

abbrev pub atom_table : Option Terminal → List Symbol
atom_table (Some terminals.Name) = terminal roles.Variable ∷ []
atom_table (Some terminals.Numeral) = terminal roles.Numeral ∷ literal ∷ []
atom_table (Some (terminals.Word words.True)) = terminal (roles.Constant words.True) ∷ []
atom_table (Some (terminals.Word words.False)) = terminal (roles.Constant words.False) ∷ []
atom_table (Some (terminals.Word words.TrueProposition)) = terminal (roles.Constant words.TrueProposition) ∷ []
atom_table (Some (terminals.Word words.FalseProposition)) = terminal (roles.Constant words.FalseProposition) ∷ []
atom_table _ = terminal roles.Bracket ∷ term 0 ∷ closing ∷ []

abbrev pub term_table : ℕ → Option Terminal → List Symbol
term_table p (Some (terminals.Word words.If)) = word words.If ∷ term 0 ∷ word words.Then ∷ term 0 ∷ word words.Else ∷ term 0 ∷ tail p 0 ∷ []
term_table p (Some (terminals.Word words.Complement)) = terminal (roles.Prefix words.Complement) ∷ term 100 ∷ tail p 100 ∷ []
term_table p (Some (terminals.Word words.Minus)) = terminal (roles.Prefix words.Minus) ∷ term 75 ∷ tail p 75 ∷ []
term_table p (Some (terminals.Word words.Not)) = terminal (roles.Prefix words.Not) ∷ term 40 ∷ tail p 40 ∷ []
term_table p (Some (terminals.Word words.BoolNot)) = terminal (roles.Prefix words.BoolNot) ∷ term 40 ∷ tail p 40 ∷ []
term_table p _ = call ∷ tail p 1024 ∷ []

abbrev pub more_of : ℕ → ℕ → Word → Option Fixity → List Symbol
more_of p l w None = unless (operator_on p l) ∷ []
more_of p l w (Some o) = terminal (roles.Infix w) ∷ term o.right ∷ tail p o.level ∷ []

abbrev pub tail_table : ℕ → ℕ → Option Terminal → List Symbol
tail_table p l (Some (terminals.Word w)) = more_of p l w (when_fits p l (fixity_of w))
tail_table p l _ = unless (operator_on p l) ∷ []

tail_stop : (p l : ℕ) (o : Option Terminal) → ((t : Terminal) → o ≡ Some t → Begins (operator_on p l) t → ⊥) → tail_table p l o ≡ (unless (operator_on p l) ∷ [])
tail_stop p l (Some (terminals.Word w)) h = stops (when_fits p l (fixity_of w)) refl
  where
    stops : (o : Option Fixity) → when_fits p l (fixity_of w) ≡ o → more_of p l w o ≡ (unless (operator_on p l) ∷ [])
    stops None e = refl
    stops (Some o) e = absurd (h (terminals.Word w) refl (fitting o e))
tail_stop p l None h = refl
tail_stop p l (Some terminals.Name) h = refl
tail_stop p l (Some terminals.Numeral) h = refl
tail_stop p l (Some terminals.Text) h = refl

abbrev pub table : Symbol → Option Terminal → List Symbol
table items t = items_table t
table path t = path_table t
table dotted t = dotted_table t
table paths t = paths_table t
table part t = part_table t
table binders t = binders_table t
table names t = names_table t
table brace_names t = brace_names_table t
table bound t = bound_table t
table sort t = sort_table t
table proof t = word words.By ∷ intro ∷ tactic ∷ []
table intro t = intro_table t
table separator t = separator_table t
table tactic t = tactic_table t
table (term p) t = term_table p t
table (tail p l) t = tail_table p l t
table call t = atom ∷ methods ∷ []
table methods t = methods_table t
table more_methods t = more_methods_table t
table arguments t = arguments_table t
table dots t = dots_table t
table atom t = atom_table t
table literal t = literal_table t
table closing t = closing_table t
table _ t = []

-- what a part, an atom and a term begin with
pub part_first : {ts : List Terminal} {a c : List Symbol} {i n : ℕ} → i < n → Derives ts (part ∷ a) i c n → (t : Terminal) × (slice_get ts i ≡ Some t) × Begins begins_part t
part_first h here = absurd (omega arith)
part_first h (by_rule g.part_name d) = let e = (after_terminal h d).0 in (terminals.Name, e, by_name)
part_first h (by_rule g.part_bool d) = (terminals.Word words.Bool, (after_terminal h d).0, by_bool)
part_first h (by_rule g.part_bitvec d) = (terminals.Word words.BitVec, (after_terminal h d).0, by_bitvec)

pub path_first : {ts : List Terminal} {a c : List Symbol} {i n : ℕ} → i < n → Derives ts (path ∷ a) i c n → (t : Terminal) × (slice_get ts i ≡ Some t) × Begins begins_part t
path_first h here = absurd (omega arith)
path_first h (by_rule g.a_path d) = part_first h d

pub atom_first : {ts : List Terminal} {a c : List Symbol} {i n : ℕ} → i < n → Derives ts (atom ∷ a) i c n → (t : Terminal) × (slice_get ts i ≡ Some t) × Begins begins_atom t
atom_first h here = absurd (omega arith)
atom_first h (by_rule g.a_variable d) = let e = (after_terminal h d).0 in (terminals.Name, e, atom_name)
atom_first h (by_rule g.a_numeral d) = let e = (after_terminal h d).0 in (terminals.Numeral, e, atom_numeral)
atom_first h (by_rule (g.a_constant {w} k) d) = (terminals.Word w, (after_terminal h d).0, atom_constant k)
atom_first h (by_rule g.in_brackets d) = (terminals.Word words.LeftRound, (after_terminal h d).0, atom_round)

pub call_first : {ts : List Terminal} {a c : List Symbol} {i n : ℕ} → i < n → Derives ts (call ∷ a) i c n → (t : Terminal) × (slice_get ts i ≡ Some t) × Begins begins_atom t
call_first h here = absurd (omega arith)
call_first h (by_rule g.a_receiver d) = atom_first h d

-- how the table answers such a token
call_there : (p : ℕ) (t : Terminal) → Begins begins_atom t → term_table p (Some t) ≡ (call ∷ tail p 1024 ∷ [])
call_there p t atom_name = refl
call_there p t atom_numeral = refl
call_there p t (atom_constant is_true) = refl
call_there p t (atom_constant is_false) = refl
call_there p t (atom_constant is_true_proposition) = refl
call_there p t (atom_constant is_false_proposition) = refl
call_there p t atom_round = refl

argument_there : (t : Terminal) → Begins begins_atom t → arguments_table (Some t) ≡ (atom ∷ dots ∷ arguments ∷ [])
argument_there t atom_name = refl
argument_there t atom_numeral = refl
argument_there t (atom_constant is_true) = refl
argument_there t (atom_constant is_false) = refl
argument_there t (atom_constant is_true_proposition) = refl
argument_there t (atom_constant is_false_proposition) = refl
argument_there t atom_round = refl

path_there : (t : Terminal) → Begins begins_part t → paths_table (Some t) ≡ (path ∷ paths ∷ [])
path_there t by_name = refl
path_there t by_bool = refl
path_there t by_bitvec = refl

constant_there : (w : Word) → IsConstant w → atom_table (Some (terminals.Word w)) ≡ (terminal (roles.Constant w) ∷ [])
constant_there w is_true = refl
constant_there w is_false = refl
constant_there w is_true_proposition = refl
constant_there w is_false_proposition = refl

pub prefix_there : (p l : ℕ) (w : Word) → prefix_level w ≡ Some l → term_table p (Some (terminals.Word w)) ≡ (terminal (roles.Prefix w) ∷ term l ∷ tail p l ∷ [])
prefix_there p l words.Complement e = cc
prefix_there p l words.Minus e = cc
prefix_there p l words.Not e = cc
prefix_there p l words.BoolNot e = cc
prefix_there p l _ e = cc

no_sort_atom : (t : Terminal) → Begins begins_atom t → bound_table (Some t) ≡ (term 0 ∷ [])
no_sort_atom t atom_name = refl
no_sort_atom t atom_numeral = refl
no_sort_atom t (atom_constant is_true) = refl
no_sort_atom t (atom_constant is_false) = refl
no_sort_atom t (atom_constant is_true_proposition) = refl
no_sort_atom t (atom_constant is_false_proposition) = refl
no_sort_atom t atom_round = refl

no_sort_prefix : (w : Word) (l : ℕ) → prefix_level w ≡ Some l → bound_table (Some (terminals.Word w)) ≡ (term 0 ∷ [])
no_sort_prefix words.Bool l e = cc
no_sort_prefix words.BitVec l e = cc
no_sort_prefix _ l e = refl

bound_there : {ts : List Terminal} {a c : List Symbol} {i n : ℕ} → i < n → Derives ts (term 0 ∷ a) i c n → bound_table (slice_get ts i) ≡ (term 0 ∷ [])
bound_there h here = absurd (omega arith)
bound_there h (by_rule (g.prefix {w = w} q) d) = ap bound_table (after_terminal h d).0 ∙ no_sort_prefix w _ q
bound_there h (by_rule g.choice d) = ap bound_table (after_terminal h d).0
bound_there h (by_rule g.a_call d) = let f = call_first h d in ap bound_table f.1 ∙ no_sort_atom f.0 f.2

sort_there : {ts : List Terminal} {a c : List Symbol} {i n : ℕ} → i < n → Derives ts (sort ∷ a) i c n → bound_table (slice_get ts i) ≡ (sort ∷ [])
sort_there h here = absurd (omega arith)
sort_there h (by_rule g.truth d) = ap bound_table (after_terminal h d).0
sort_there h (by_rule g.vector d) = ap bound_table (after_terminal h d).0

-- where a rule takes the token at i, it is the table's
pub predicts : {ts : List Terminal} {s : Symbol} {r c : List Symbol} {i n : ℕ} (a : List Symbol) → g.Rule s r → i < n → Derives ts (r ++ a) i c n → table s (slice_get ts i) ≡ r
predicts a g.import_item h d = ap items_table (after_terminal h d).0
predicts a g.open_item h d = ap items_table (after_terminal h d).0
predicts a g.theorem_item h d = ap items_table (after_terminal h d).0
predicts a g.example_item h d = ap items_table (after_terminal h d).0
predicts a g.no_item h d = items_stop _ (after_unless h d).0
predicts a g.a_path h d = refl
predicts a g.part_name h d = ap part_table (after_terminal h d).0
predicts a g.part_bool h d = ap part_table (after_terminal h d).0
predicts a g.part_bitvec h d = ap part_table (after_terminal h d).0
predicts a g.further_part h d = ap dotted_table (after_terminal h d).0
predicts a g.no_part h d = dotted_stop _ (after_unless h d).0
predicts a g.further_path h d = let f = path_first h d in ap paths_table f.1 ∙ path_there f.0 f.2
predicts a g.no_path h d = paths_stop _ (after_unless h d).0
predicts a g.round h d = ap binders_table (after_terminal h d).0
predicts a g.brace h d = ap binders_table (after_terminal h d).0
predicts a g.no_binder h d = binders_stop _ (after_unless h d).0
predicts a g.further_name h d = ap names_table (after_terminal h d).0
predicts a g.no_name h d = names_stop _ (after_unless h d).0
predicts a g.further_brace_name h d = ap brace_names_table (after_terminal h d).0
predicts a g.no_brace_name h d = brace_names_stop _ (after_unless h d).0
predicts a g.variables h d = sort_there h d
predicts a g.hypothesis h d = bound_there h d
predicts a g.truth h d = ap sort_table (after_terminal h d).0
predicts a g.vector h d = ap sort_table (after_terminal h d).0
predicts a g.a_proof h d = refl
predicts a g.intros h d = ap intro_table (after_terminal h d).0
predicts a g.no_intros h d = intro_stop _ (after_unless h d).0
predicts a g.separated h d = ap separator_table (after_terminal h d).0
predicts a g.not_separated h d = separator_stop _ (after_unless h d).0
predicts a g.decided h d = ap tactic_table (after_terminal h d).0
predicts a g.checked h d = ap tactic_table (after_terminal h d).0
predicts a (g.prefix {p} {l} {w} q) h d = ap (term_table p) (after_terminal h d).0 ∙ prefix_there p l w q
predicts a (g.choice {p}) h d = ap (term_table p) (after_terminal h d).0
predicts a (g.a_call {p}) h d = let f = call_first h d in ap (term_table p) f.1 ∙ call_there p f.0 f.2
predicts a (g.infix_ {p} {l} {w} o q) h d = ap (tail_table p l) (after_terminal h d).0 ∙ ap (more_of p l w) q
predicts a (g.no_infix {p} {l}) h d = tail_stop p l _ (after_unless h d).0
predicts a g.a_receiver h d = refl
predicts a g.a_method h d = ap methods_table (after_terminal h d).0
predicts a g.no_method h d = methods_stop _ (after_unless h d).0
predicts a g.further_method h d = ap more_methods_table (after_terminal h d).0
predicts a g.then_arguments h d = more_methods_stop _ (after_unless h d).0
predicts a g.an_argument h d = let f = atom_first h d in ap arguments_table f.1 ∙ argument_there f.0 f.2
predicts a g.no_argument h d = arguments_stop _ (after_unless h d).0
predicts a g.a_dot h d = ap dots_table (after_terminal h d).0
predicts a g.no_dot h d = dots_stop _ (after_unless h d).0
predicts a g.a_variable h d = ap atom_table (after_terminal h d).0
predicts a g.a_numeral h d = ap atom_table (after_terminal h d).0
predicts a g.with_width h d = ap literal_table (after_terminal h d).0
predicts a g.without_width h d = literal_stop _ (after_unless h d).0
predicts a (g.a_constant {w} k) h d = ap atom_table (after_terminal h d).0 ∙ constant_there w k
predicts a g.in_brackets h d = ap atom_table (after_terminal h d).0
predicts a g.plain_closing h d = ap closing_table (after_terminal h d).0
predicts a g.ascribed h d = ap closing_table (after_terminal h d).0
