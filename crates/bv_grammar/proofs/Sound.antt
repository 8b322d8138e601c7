-- The parse table is right: each entry is what the rules lead to.
use Rattle.std.proofs.Common.{◌≡◌, ℕ, ◌+◌, ◌≤◌, List, [], ◌∷◌, ◌++◌, length, Option, Some, None, refl, sym, ap, arith, subst, ◌∙◌, append_assoc, length-append}
use Rattle.std.specs.Prelude.{slice_get}
use Rattle.bv_grammar.specs.declared.words.Word.{Word}
use Rattle.bv_grammar.specs.declared.words.Word.TheVariants as words
use Rattle.bv_grammar.specs.declared.words.Terminal.{Terminal}
use Rattle.bv_grammar.specs.declared.words.Terminal.TheVariants as terminals
use Rattle.bv_grammar.specs.declared.words.Role.{Role}
use Rattle.bv_grammar.specs.declared.words.Fixity.{Fixity}
use Rattle.bv_grammar.specs.declared.stack.Step.{Step}
use Rattle.bv_grammar.specs.declared.stack.Step.TheVariants.{Took, Passed, Failed}
use Rattle.bv_grammar.specs.Operators.{prefix_level, fixity_of, when_fits}
use Rattle.bv_grammar.specs.Grammar.{terminal_of, Next, is_word, operator_on, Symbol, terminal, unless, items, path, dotted, paths, part, binders, names, brace_names, bound, sort, proof, intro, separator, tactic, term, tail, call, methods, more_methods, arguments, dots, atom, literal, closing, Rule, Begins, fitting, IsConstant, is_true, is_false, is_true_proposition, is_false_proposition}
use Rattle.bv_grammar.specs.Grammar as g
use Rattle.bv_grammar.specs.Moves.{Move, took, passed, failed, before, items_move, part_move, path_move, dotted_move, paths_move, binders_move, names_move, brace_names_move, sort_move, proof_move, intro_move, separator_move, tactic_move, atom_move, literal_move, closing_move, methods_move, dots_move, arguments_move, more_methods_move, call_move, operand_move, term_move, bound_move, operator_move, tail_move}
use Rattle.bv_grammar.proofs.Place.{Leads, Dead}
use Rattle.bv_grammar.proofs.Derivations.{then, on_unless, dead_terminal, dead_by}
use Rattle.bv_grammar.proofs.Tables.{table, term_table, more_of, prefix_there}
use Rattle.bv_grammar.proofs.Rules.{on_rule}

-- before t, the symbol s leads to these symbols
abbrev pub Goes : Symbol → Option Terminal → List Symbol → Type 0
Goes s t b = (ts : List Terminal) (i : ℕ) (a : List Symbol) → slice_get ts i ≡ t → Leads ts (s ∷ a) i (b ++ a) i

-- what a step of the machine with the symbol s before t says
abbrev pub Holds : Symbol → Option Terminal → List Symbol → Step → Type 0
Holds s t rest (Took r) = (t ≡ Some (terminal_of r)) × (length rest ≤ 8) × Goes s t (terminal r ∷ rest)
Holds s t rest Passed = (rest ≡ []) × Goes s t []
Holds s t rest Failed = (ts : List Terminal) (i : ℕ) (a : List Symbol) → slice_get ts i ≡ t → Dead ts (s ∷ a) i

abbrev pub Sound : Symbol → Option Terminal → Move → Type 0
Sound s t m = Holds s t m.rest m.step

-- the terminal, if there is one, doesn't begin this
abbrev pub NotBegun : Next → Option Terminal → Type 0
NotBegun x None = Unit {0}
NotBegun x (Some u) = Begins x u → ⊥

not_next_there : (x : Next) (t : Option Terminal) → NotBegun x t → (u : Terminal) → t ≡ Some u → Begins x u → ⊥
not_next_there x None n u e = cc
not_next_there x (Some v) n u e = λ b. let same : u ≡ v = cc in n (subst (λ w. Begins x w) same b)

by_table : {s : Symbol} {t : Option Terminal} {r : List Symbol} → Rule s r → table s t ≡ r → Goes s t r
by_table {s} q e ts i a f = on_rule a q (ap (table s) f ∙ e)

takes : {s : Symbol} {t : Option Terminal} {r : Role} {rest : List Symbol} → Rule s (terminal r ∷ rest) → table s t ≡ (terminal r ∷ rest) → t ≡ Some (terminal_of r) → length rest ≤ 8 → Sound s t (took r rest)
takes q e f short = (f, short, by_table q e)

passes : {s : Symbol} {t : Option Terminal} {x : Next} → Rule s (unless x ∷ []) → table s t ≡ (unless x ∷ []) → NotBegun x t → Sound s t passed
passes {t = t} {x = x} q e n = (refl, λ ts i a f. then (by_table q e ts i a f) (on_unless a (λ u h. not_next_there x t n u (sym f ∙ h))))

fails : {s : Symbol} {t : Option Terminal} {r : Role} {rest : List Symbol} → Rule s (terminal r ∷ rest) → table s t ≡ (terminal r ∷ rest) → (t ≡ Some (terminal_of r) → ⊥) → Sound s t failed
fails q e differs = λ ts i a f. dead_by (by_table q e ts i a f) (dead_terminal _ (λ h. differs (sym f ∙ h)))

-- by way of another symbol
instead : {s s' : Symbol} {t : Option Terminal} (rest : List Symbol) (step : Step) → Goes s t (s' ∷ []) → Holds s' t rest step → Holds s t rest step
instead rest (Took r) way h = (h.0, h.1, λ ts i a f. then (way ts i a f) (h.2 ts i a f))
instead rest Passed way h = (h.0, λ ts i a f. then (way ts i a f) (h.1 ts i a f))
instead rest Failed way h = λ ts i a f. dead_by (way ts i a f) (h ts i a f)

-- by way of another symbol, with others behind it
behind : {s s' : Symbol} {t : Option Terminal} (rest more : List Symbol) (step : Step) → Goes s t (s' ∷ more) → (step ≡ Passed → ⊥) → length rest + length more ≤ 8 → Holds s' t rest step → Holds s t (rest ++ more) step
behind {s} {s'} rest more (Took r) way n short h = (
  h.0,
  omega (arith, length-append rest more),
  λ ts i a f. then (way ts i a f) (subst (λ v. Leads ts (s' ∷ (more ++ a)) i (terminal r ∷ v) i) (sym (append_assoc rest more a)) (h.2 ts i (more ++ a) f)),
)
behind rest more Passed way n short h = absurd (n refl)
behind rest more Failed way n short h = λ ts i a f. dead_by (way ts i a f) (h ts i (more ++ a) f)

pub items_sound : (t : Option Terminal) → Sound items t (items_move t)
items_sound (Some (terminals.Word words.Import)) = takes g.import_item refl refl (omega arith)
items_sound (Some (terminals.Word words.Open)) = takes g.open_item refl refl (omega arith)
items_sound (Some (terminals.Word words.Theorem)) = takes g.theorem_item refl refl (omega arith)
items_sound (Some (terminals.Word words.Example)) = takes g.example_item refl refl (omega arith)
items_sound None = passes g.no_item refl tt
items_sound t = passes g.no_item refl (λ b. elim b [ ])

pub part_sound : (t : Option Terminal) → Sound part t (part_move t)
part_sound (Some terminals.Name) = takes g.part_name refl refl (omega arith)
part_sound (Some (terminals.Word words.Bool)) = takes g.part_bool refl refl (omega arith)
part_sound (Some (terminals.Word words.BitVec)) = takes g.part_bitvec refl refl (omega arith)
part_sound t = fails g.part_name refl (λ e. (cc))

part_goes : (t : Option Terminal) → (part_move t).step ≡ Passed → ⊥
part_goes (Some terminals.Name) e = cc
part_goes (Some (terminals.Word words.Bool)) e = cc
part_goes (Some (terminals.Word words.BitVec)) e = cc
part_goes t e = cc

part_short : (t : Option Terminal) → length (part_move t).rest ≤ 0
part_short (Some terminals.Name) = omega arith
part_short (Some (terminals.Word words.Bool)) = omega arith
part_short (Some (terminals.Word words.BitVec)) = omega arith
part_short t = omega arith

pub path_sound : (t : Option Terminal) → Sound path t (path_move t)
path_sound t = behind (part_move t).rest (dotted ∷ []) (part_move t).step (by_table g.a_path refl) (part_goes t) (omega (arith, part_short t)) (part_sound t)

path_short : (t : Option Terminal) → length (path_move t).rest ≤ 1
path_short t = omega (arith, part_short t, length-append (part_move t).rest (dotted ∷ []))

pub dotted_sound : (t : Option Terminal) → Sound dotted t (dotted_move t)
dotted_sound (Some (terminals.Word words.Dot)) = takes g.further_part refl refl (omega arith)
dotted_sound None = passes g.no_part refl tt
dotted_sound t = passes g.no_part refl (λ b. elim b [ ])

one_path : (t : Option Terminal) → table paths t ≡ (path ∷ paths ∷ []) → Sound paths t (before (path_move t) (paths ∷ []))
one_path t e = behind (path_move t).rest (paths ∷ []) (path_move t).step (by_table g.further_path e) (part_goes t) (omega (arith, path_short t)) (path_sound t)

pub paths_sound : (t : Option Terminal) → Sound paths t (paths_move t)
paths_sound (Some terminals.Name) = one_path (Some terminals.Name) refl
paths_sound (Some (terminals.Word words.Bool)) = one_path (Some (terminals.Word words.Bool)) refl
paths_sound (Some (terminals.Word words.BitVec)) = one_path (Some (terminals.Word words.BitVec)) refl
paths_sound None = passes g.no_path refl tt
paths_sound t = passes g.no_path refl (λ b. elim b [ ])

pub binders_sound : (t : Option Terminal) → Sound binders t (binders_move t)
binders_sound (Some (terminals.Word words.LeftRound)) = takes g.round refl refl (omega arith)
binders_sound (Some (terminals.Word words.LeftBrace)) = takes g.brace refl refl (omega arith)
binders_sound None = passes g.no_binder refl tt
binders_sound t = passes g.no_binder refl (λ b. elim b [ ])

pub names_sound : (t : Option Terminal) → Sound names t (names_move t)
names_sound (Some terminals.Name) = takes g.further_name refl refl (omega arith)
names_sound None = passes g.no_name refl tt
names_sound t = passes g.no_name refl (λ b. elim b [ ])

pub brace_names_sound : (t : Option Terminal) → Sound brace_names t (brace_names_move t)
brace_names_sound (Some terminals.Name) = takes g.further_brace_name refl refl (omega arith)
brace_names_sound None = passes g.no_brace_name refl tt
brace_names_sound t = passes g.no_brace_name refl (λ b. elim b [ ])

pub sort_sound : (t : Option Terminal) → Sound sort t (sort_move t)
sort_sound (Some (terminals.Word words.Bool)) = takes g.truth refl refl (omega arith)
sort_sound (Some (terminals.Word words.BitVec)) = takes g.vector refl refl (omega arith)
sort_sound t = fails g.vector refl (λ e. (cc))

pub proof_sound : (t : Option Terminal) → Sound proof t (proof_move t)
proof_sound (Some (terminals.Word words.By)) = takes g.a_proof refl refl (omega arith)
proof_sound t = fails g.a_proof refl (λ e. (cc))

pub intro_sound : (t : Option Terminal) → Sound intro t (intro_move t)
intro_sound (Some (terminals.Word words.Intros)) = takes g.intros refl refl (omega arith)
intro_sound None = passes g.no_intros refl tt
intro_sound t = passes g.no_intros refl (λ b. elim b [ ])

pub separator_sound : (t : Option Terminal) → Sound separator t (separator_move t)
separator_sound (Some (terminals.Word words.Semicolon)) = takes g.separated refl refl (omega arith)
separator_sound None = passes g.not_separated refl tt
separator_sound t = passes g.not_separated refl (λ b. elim b [ ])

pub tactic_sound : (t : Option Terminal) → Sound tactic t (tactic_move t)
tactic_sound (Some (terminals.Word words.Decide)) = takes g.decided refl refl (omega arith)
tactic_sound (Some (terminals.Word words.Check)) = takes g.checked refl refl (omega arith)
tactic_sound t = fails g.checked refl (λ e. (cc))

pub atom_sound : (t : Option Terminal) → Sound atom t (atom_move t)
atom_sound (Some terminals.Name) = takes g.a_variable refl refl (omega arith)
atom_sound (Some terminals.Numeral) = takes g.a_numeral refl refl (omega arith)
atom_sound (Some (terminals.Word words.True)) = takes (g.a_constant is_true) refl refl (omega arith)
atom_sound (Some (terminals.Word words.False)) = takes (g.a_constant is_false) refl refl (omega arith)
atom_sound (Some (terminals.Word words.TrueProposition)) = takes (g.a_constant is_true_proposition) refl refl (omega arith)
atom_sound (Some (terminals.Word words.FalseProposition)) = takes (g.a_constant is_false_proposition) refl refl (omega arith)
atom_sound (Some (terminals.Word words.LeftRound)) = takes g.in_brackets refl refl (omega arith)
atom_sound t = fails g.in_brackets refl (λ e. (cc))

atom_goes : (t : Option Terminal) → (atom_move t).step ≡ Passed → ⊥
atom_goes (Some terminals.Name) e = cc
atom_goes (Some terminals.Numeral) e = cc
atom_goes (Some (terminals.Word words.True)) e = cc
atom_goes (Some (terminals.Word words.False)) e = cc
atom_goes (Some (terminals.Word words.TrueProposition)) e = cc
atom_goes (Some (terminals.Word words.FalseProposition)) e = cc
atom_goes (Some (terminals.Word words.LeftRound)) e = cc
atom_goes t e = cc

atom_short : (t : Option Terminal) → length (atom_move t).rest ≤ 2
atom_short (Some terminals.Name) = omega arith
atom_short (Some terminals.Numeral) = omega arith
atom_short (Some (terminals.Word words.True)) = omega arith
atom_short (Some (terminals.Word words.False)) = omega arith
atom_short (Some (terminals.Word words.TrueProposition)) = omega arith
atom_short (Some (terminals.Word words.FalseProposition)) = omega arith
atom_short (Some (terminals.Word words.LeftRound)) = omega arith
atom_short t = omega arith

pub literal_sound : (t : Option Terminal) → Sound literal t (literal_move t)
literal_sound (Some (terminals.Word words.Hash)) = takes g.with_width refl refl (omega arith)
literal_sound None = passes g.without_width refl tt
literal_sound t = passes g.without_width refl (λ b. elim b [ ])

pub closing_sound : (t : Option Terminal) → Sound closing t (closing_move t)
closing_sound (Some (terminals.Word words.RightRound)) = takes g.plain_closing refl refl (omega arith)
closing_sound (Some (terminals.Word words.Colon)) = takes g.ascribed refl refl (omega arith)
closing_sound t = fails g.ascribed refl (λ e. (cc))

pub methods_sound : (t : Option Terminal) → Sound methods t (methods_move t)
methods_sound (Some (terminals.Word words.Dot)) = takes g.a_method refl refl (omega arith)
methods_sound None = passes g.no_method refl tt
methods_sound t = passes g.no_method refl (λ b. elim b [ ])

pub dots_sound : (t : Option Terminal) → Sound dots t (dots_move t)
dots_sound (Some (terminals.Word words.Dot)) = takes g.a_dot refl refl (omega arith)
dots_sound None = passes g.no_dot refl tt
dots_sound t = passes g.no_dot refl (λ b. elim b [ ])

one_argument : (t : Option Terminal) → table arguments t ≡ (atom ∷ dots ∷ arguments ∷ []) → Sound arguments t (before (atom_move t) (dots ∷ arguments ∷ []))
one_argument t e = behind (atom_move t).rest (dots ∷ arguments ∷ []) (atom_move t).step (by_table g.an_argument e) (atom_goes t) (omega (arith, atom_short t)) (atom_sound t)

pub arguments_sound : (t : Option Terminal) → Sound arguments t (arguments_move t)
arguments_sound (Some terminals.Name) = one_argument (Some terminals.Name) refl
arguments_sound (Some terminals.Numeral) = one_argument (Some terminals.Numeral) refl
arguments_sound (Some (terminals.Word words.True)) = one_argument (Some (terminals.Word words.True)) refl
arguments_sound (Some (terminals.Word words.False)) = one_argument (Some (terminals.Word words.False)) refl
arguments_sound (Some (terminals.Word words.TrueProposition)) = one_argument (Some (terminals.Word words.TrueProposition)) refl
arguments_sound (Some (terminals.Word words.FalseProposition)) = one_argument (Some (terminals.Word words.FalseProposition)) refl
arguments_sound (Some (terminals.Word words.LeftRound)) = one_argument (Some (terminals.Word words.LeftRound)) refl
arguments_sound None = passes g.no_argument refl tt
arguments_sound (Some terminals.Text) = passes g.no_argument refl (λ b. elim b [ ])
arguments_sound t = passes g.no_argument refl (λ b. elim b [ g.atom_constant k ↦ elim k [ ] ])

no_dot_there : (t : Option Terminal) → table more_methods t ≡ (unless (is_word words.Dot) ∷ arguments ∷ []) → NotBegun (is_word words.Dot) t → Goes more_methods t (arguments ∷ [])
no_dot_there t e n ts i a f = then (by_table g.then_arguments e ts i a f) (on_unless _ (λ u h. not_next_there (is_word words.Dot) t n u (sym f ∙ h)))

only_arguments : (t : Option Terminal) → Goes more_methods t (arguments ∷ []) → Sound more_methods t (arguments_move t)
only_arguments t way = instead (arguments_move t).rest (arguments_move t).step way (arguments_sound t)

pub more_methods_sound : (t : Option Terminal) → Sound more_methods t (more_methods_move t)
more_methods_sound (Some (terminals.Word words.Dot)) = takes g.further_method refl refl (omega arith)
more_methods_sound None = only_arguments None (no_dot_there None refl tt)
more_methods_sound t = only_arguments t (no_dot_there t refl (λ b. elim b [ ]))

pub call_sound : (t : Option Terminal) → Sound call t (call_move t)
call_sound t = behind (atom_move t).rest (methods ∷ []) (atom_move t).step (by_table g.a_receiver refl) (atom_goes t) (omega (arith, atom_short t)) (atom_sound t)

call_short : (t : Option Terminal) → length (call_move t).rest ≤ 3
call_short t = omega (arith, atom_short t, length-append (atom_move t).rest (methods ∷ []))

one_call : (p : ℕ) (t : Option Terminal) → term_table p t ≡ (call ∷ tail p 1024 ∷ []) → Sound (term p) t (before (call_move t) (tail p 1024 ∷ []))
one_call p t e = behind (call_move t).rest (tail p 1024 ∷ []) (call_move t).step (by_table g.a_call e) (atom_goes t) (omega (arith, call_short t)) (call_sound t)

no_prefix_there : (p : ℕ) (w : Word) → prefix_level w ≡ None → (w ≡ words.If → ⊥) → term_table p (Some (terminals.Word w)) ≡ (call ∷ tail p 1024 ∷ [])
no_prefix_there p words.If e n = absurd (n refl)
no_prefix_there p words.Complement e n = cc
no_prefix_there p words.Minus e n = cc
no_prefix_there p words.Not e n = cc
no_prefix_there p words.BoolNot e n = cc
no_prefix_there p _ e n = refl

operand_sound : (p : ℕ) (w : Word) (o : Option ℕ) → prefix_level w ≡ o → (w ≡ words.If → ⊥) → Sound (term p) (Some (terminals.Word w)) (operand_move p w o)
operand_sound p w (Some l) e n = takes (g.prefix e) (prefix_there p l w e) refl (omega arith)
operand_sound p w None e n = one_call p (Some (terminals.Word w)) (no_prefix_there p w e n)

pub term_sound : (p : ℕ) (t : Option Terminal) → Sound (term p) t (term_move p t)
term_sound p (Some (terminals.Word words.If)) = takes g.choice refl refl (omega arith)
term_sound p (Some (terminals.Word w)) = operand_sound p w (prefix_level w) refl (λ e. (cc))
term_sound p t = one_call p t refl

by_sort : (t : Option Terminal) → table bound t ≡ (sort ∷ []) → Sound bound t (sort_move t)
by_sort t e = instead {t = t} (sort_move t).rest (sort_move t).step (by_table g.variables e) (sort_sound t)

by_term : (t : Option Terminal) → table bound t ≡ (term 0 ∷ []) → Sound bound t (term_move 0 t)
by_term t e = instead {t = t} (term_move 0 t).rest (term_move 0 t).step (by_table g.hypothesis e) (term_sound 0 t)

pub bound_sound : (t : Option Terminal) → Sound bound t (bound_move t)
bound_sound (Some (terminals.Word words.Bool)) = by_sort (Some (terminals.Word words.Bool)) refl
bound_sound (Some (terminals.Word words.BitVec)) = by_sort (Some (terminals.Word words.BitVec)) refl
bound_sound t = by_term t refl

operator_sound : (p l : ℕ) (w : Word) (o : Option Fixity) → when_fits p l (fixity_of w) ≡ o → Sound (tail p l) (Some (terminals.Word w)) (operator_move p w o)
operator_sound p l w (Some o) e = takes (g.infix_ o e) (ap (more_of p l w) e) refl (omega arith)
operator_sound p l w None e = passes g.no_infix (ap (more_of p l w) e) (λ b. elim b [ fitting o f ↦ (cc) ])

pub tail_sound : (p l : ℕ) (t : Option Terminal) → Sound (tail p l) t (tail_move p l t)
tail_sound p l (Some (terminals.Word w)) = operator_sound p l w (when_fits p l (fixity_of w)) refl
tail_sound p l None = passes g.no_infix refl tt
tail_sound p l t = passes g.no_infix refl (λ b. elim b [ ])
