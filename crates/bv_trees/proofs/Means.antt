-- A whole derivation gives trees.
use Rattle.std.proofs.Common.{◌≡◌, ℕ, ◌+◌, List, [], ◌∷◌, ◌++◌, Option, Some, None, refl}
use Rattle.std.specs.Prelude.{slice_get}
use Rattle.bv_grammar.specs.declared.words.Terminal.{Terminal}
use Rattle.bv_grammar.specs.Grammar.{terminal_of, Symbol, terminal, finish, unless, items, path, dotted, paths, part, binders, names, brace_names, bound, sort, proof, intro, separator, tactic, term, tail, call, methods, more_methods, arguments, dots, atom, literal, closing}
use Rattle.bv_grammar.specs.Grammar as g
use Rattle.bv_grammar.specs.Derivation.{Derives, here, taken, at_end, not_next, by_rule}
use Rattle.bv_trees.specs.declared.pieces.Sort.{Sort}
use Rattle.bv_trees.specs.declared.pieces.Sort.TheVariants as sorts
use Rattle.bv_trees.specs.Trees as x
use Rattle.bv_trees.specs.Trees.{Tree, Trees, Binder, Goal}
use Rattle.bv_trees.specs.Terms as t
use Rattle.bv_trees.specs.Terms.{IsNot, SortAt, Term, Operand, Tail, Methods, Arguments, Atoms, Dots, Atom, Literal, Closing}
use Rattle.bv_trees.specs.Files as f
use Rattle.bv_trees.specs.Files.{PartAt, Path, Dotted, Paths, Names, Bound, Binders, Intros, Separator, Tactic, Proof, Items}

-- the symbols are, one behind the other, the terminals from i up to n
abbrev pub Means : List Terminal → List Symbol → ℕ → ℕ → Type 0
Means ts [] i n = i ≡ n
Means ts (terminal r ∷ a) i n = (slice_get ts i ≡ Some (terminal_of r)) × Means ts a (i + 1) n
Means ts (finish ∷ a) i n = (slice_get ts i ≡ None) × Means ts a (i + 1) n
Means ts (unless b ∷ a) i n = IsNot ts b i × Means ts a i n
Means ts (items ∷ a) i n = (k : ℕ) × ((gs : List Goal) × Items ts i gs k) × Means ts a k n
Means ts (path ∷ a) i n = (k : ℕ) × Path ts i k × Means ts a k n
Means ts (dotted ∷ a) i n = (k : ℕ) × Dotted ts i k × Means ts a k n
Means ts (paths ∷ a) i n = (k : ℕ) × Paths ts i k × Means ts a k n
Means ts (part ∷ a) i n = PartAt ts i × Means ts a (i + 1) n
Means ts (binders ∷ a) i n = (k : ℕ) × ((bs : List Binder) × Binders ts i bs k) × Means ts a k n
Means ts (names ∷ a) i n = (k : ℕ) × Names ts i k × Means ts a k n
Means ts (brace_names ∷ a) i n = (k : ℕ) × Names ts i k × Means ts a k n
Means ts (bound ∷ a) i n = (k : ℕ) × ((a b : ℕ) → (c : Binder) × Bound ts a b i c k) × Means ts a k n
Means ts (sort ∷ a) i n = (k : ℕ) × ((s : Sort) × SortAt ts i s k) × Means ts a k n
Means ts (proof ∷ a) i n = (k : ℕ) × ((s : Option ℕ) × Proof ts i s k) × Means ts a k n
Means ts (intro ∷ a) i n = (k : ℕ) × Intros ts i k × Means ts a k n
Means ts (separator ∷ a) i n = (k : ℕ) × Separator ts i k × Means ts a k n
Means ts (tactic ∷ a) i n = (k : ℕ) × ((s : Option ℕ) × Tactic ts i s k) × Means ts a k n
Means ts (term p ∷ a) i n = (k : ℕ) × ((y : Tree) × Term ts p i y k) × Means ts a k n
Means ts (tail p l ∷ a) i n = (k : ℕ) × ((y : Tree) → (z : Tree) × Tail ts p l y i z k) × Means ts a k n
Means ts (call ∷ a) i n = (k : ℕ) × ((y : Tree) × Operand ts i 1024 y k) × Means ts a k n
Means ts (methods ∷ a) i n = (k : ℕ) × ((y : Tree) → (z : Tree) × Methods ts y i z k) × Means ts a k n
Means ts (more_methods ∷ a) i n = (k : ℕ) × ((y : Tree) (m : ℕ) → (z : Tree) × Arguments ts y m i z k) × Means ts a k n
Means ts (arguments ∷ a) i n = (k : ℕ) × ((ys : Trees) × Atoms ts i ys k) × Means ts a k n
Means ts (dots ∷ a) i n = (k : ℕ) × ((y : Tree) → (z : Tree) × Dots ts y i z k) × Means ts a k n
Means ts (atom ∷ a) i n = (k : ℕ) × ((y : Tree) × Atom ts i y k) × Means ts a k n
Means ts (literal ∷ a) i n = (k : ℕ) × ((m : ℕ) → (y : Tree) × Literal ts m i y k) × Means ts a k n
Means ts (closing ∷ a) i n = (k : ℕ) × ((y : Tree) → (z : Tree) × Closing ts y i z k) × Means ts a k n

-- what a rule makes of what its symbols are
by : (ts : List Terminal) (i n : ℕ) {s : Symbol} {r : List Symbol} (a : List Symbol) → g.Rule s r → Means ts (r ++ a) i n → Means ts (s ∷ a) i n
by ts i n a g.import_item h = (h.1.2.0, (h.1.2.1.0, f.import_ h.0 h.1.1 h.1.2.1.1), h.1.2.2)
by ts i n a g.open_item h = (h.1.2.2.0, (h.1.2.2.1.0, f.open_ h.0 h.1.1 h.1.2.1 h.1.2.2.1.1), h.1.2.2.2)
by ts i n a g.theorem_item h = (h.1.2.2.1.2.1.2.0, (_ ∷ h.1.2.2.1.2.1.2.1.0, f.theorem_ h.0 h.1.1 (f.statement h.1.2.1.1 h.1.2.2.0 h.1.2.2.1.1.1 h.1.2.2.1.2.0 h.1.2.2.1.2.1.1.1) h.1.2.2.1.2.1.2.1.1), h.1.2.2.1.2.1.2.2)
by ts i n a g.example_item h = (h.1.2.1.2.1.2.0, (_ ∷ h.1.2.1.2.1.2.1.0, f.example_ h.0 (f.statement h.1.1.1 h.1.2.0 h.1.2.1.1.1 h.1.2.1.2.0 h.1.2.1.2.1.1.1) h.1.2.1.2.1.2.1.1), h.1.2.1.2.1.2.2)
by ts i n a g.no_item h = (i, ([], f.no_item h.0), h.1)
by ts i n a g.a_path h = (h.1.0, f.path h.0 h.1.1, h.1.2)
by ts i n a g.part_name h = (f.a_name h.0, h.1)
by ts i n a g.part_bool h = (f.a_bool h.0, h.1)
by ts i n a g.part_bitvec h = (f.a_bitvec h.0, h.1)
by ts i n a g.further_part h = (h.1.1.0, f.a_part h.0 h.1.0 h.1.1.1, h.1.1.2)
by ts i n a g.no_part h = (i, f.no_part h.0, h.1)
by ts i n a g.further_path h = (h.2.0, f.a_path h.1 h.2.1, h.2.2)
by ts i n a g.no_path h = (i, f.no_path h.0, h.1)
by ts i n a g.round h = (h.1.1.2.1.2.1.0, ((h.1.1.2.1.1 (i + 1) h.1.1.0).0 ∷ h.1.1.2.1.2.1.1.0, f.round h.0 h.1.0 h.1.1.1 h.1.1.2.0 (h.1.1.2.1.1 (i + 1) h.1.1.0).1 h.1.1.2.1.2.0 h.1.1.2.1.2.1.1.1), h.1.1.2.1.2.1.2)
by ts i n a g.brace h = (h.1.1.2.1.2.1.0, (x.variables (i + 1) h.1.1.0 h.1.1.2.1.1.0 ∷ h.1.1.2.1.2.1.1.0, f.brace h.0 h.1.0 h.1.1.1 h.1.1.2.0 h.1.1.2.1.1.1 h.1.1.2.1.2.0 h.1.1.2.1.2.1.1.1), h.1.1.2.1.2.1.2)
by ts i n a g.no_binder h = (i, ([], f.no_binder h.0), h.1)
by ts i n a g.further_name h = (h.1.0, f.further_name h.0 h.1.1, h.1.2)
by ts i n a g.no_name h = (i, f.no_name h.0, h.1)
by ts i n a g.further_brace_name h = (h.1.0, f.further_name h.0 h.1.1, h.1.2)
by ts i n a g.no_brace_name h = (i, f.no_name h.0, h.1)
by ts i n a g.variables h = (h.0, λ b c. (x.variables b c h.1.0, f.to_sort h.1.1), h.2)
by ts i n a g.hypothesis h = (h.0, λ b c. (x.hypothesis h.1.0, f.to_term h.1.1), h.2)
by ts i n a g.truth h = (i + 1, (sorts.Truth, t.truths h.0), h.1)
by ts i n a g.vector h = (i + 1 + 1, (sorts.Vector (i + 1), t.vectors h.0 h.1.0), h.1.1)
by ts i n a g.a_proof h = (h.1.2.0, (h.1.2.1.0, f.by_tactic h.0 h.1.1 h.1.2.1.1), h.1.2.2)
by ts i n a g.intros h = (h.1.0, f.intros h.0 h.1.1, h.1.2)
by ts i n a g.no_intros h = (i, f.no_intros h.0, h.1)
by ts i n a g.separated h = (i + 1, f.a_separator h.0, h.1)
by ts i n a g.not_separated h = (i, f.no_separator h.0, h.1)
by ts i n a g.decided h = (i + 1, (None, f.decided h.0), h.1)
by ts i n a g.checked h = (i + 1 + 1, (Some (i + 1), f.checked h.0 h.1.0), h.1.1)
by ts i n a (g.prefix {w = w} q) h = (h.1.2.0, ((h.1.2.1 (x.prefix w i h.1.1.0)).0, t.term (t.prefixed h.0 q h.1.1.1) (h.1.2.1 (x.prefix w i h.1.1.0)).1), h.1.2.2)
by ts i n a g.choice h = (h.1.2.1.2.1.2.0, ((h.1.2.1.2.1.2.1 (x.choice i h.1.1.0 h.1.2.1.1.0 h.1.2.1.2.1.1.0)).0, t.term (t.chosen h.0 h.1.1.1 h.1.2.0 h.1.2.1.1.1 h.1.2.1.2.0 h.1.2.1.2.1.1.1) (h.1.2.1.2.1.2.1 (x.choice i h.1.1.0 h.1.2.1.1.0 h.1.2.1.2.1.1.0)).1), h.1.2.1.2.1.2.2)
by ts i n a g.a_call h = (h.2.0, ((h.2.1 h.1.0).0, t.term h.1.1 (h.2.1 h.1.0).1), h.2.2)
by ts i n a (g.infix_ {w = w} o q) h = (h.1.2.0, λ y. ((h.1.2.1 (x.infix_ w i y h.1.1.0)).0, t.more o h.0 q h.1.1.1 (h.1.2.1 (x.infix_ w i y h.1.1.0)).1), h.1.2.2)
by ts i n a g.no_infix h = (i, λ y. (y, t.stop h.0), h.1)
by ts i n a g.a_receiver h = (h.2.0, ((h.2.1 h.1.0).0, t.called h.1.1 (h.2.1 h.1.0).1), h.2.2)
by ts i n a g.a_method h = (h.1.1.0, λ y. ((h.1.1.1 y (i + 1)).0, t.a_method h.0 h.1.0 (h.1.1.1 y (i + 1)).1), h.1.1.2)
by ts i n a g.no_method h = (i, λ y. (y, t.no_method h.0), h.1)
by ts i n a g.further_method h = (h.1.1.0, λ y m. ((h.1.1.1 (x.method m y x.no_more) (i + 1)).0, t.further h.0 h.1.0 (h.1.1.1 (x.method m y x.no_more) (i + 1)).1), h.1.1.2)
by ts i n a g.then_arguments h = (h.1.0, λ y m. (x.method m y h.1.1.0, t.with_all h.0 h.1.1.1), h.1.2)
by ts i n a g.an_argument h = (h.2.2.0, (x.and (h.2.1 h.1.0).0 h.2.2.1.0, t.an_atom h.1.1 (h.2.1 h.1.0).1 h.2.2.1.1), h.2.2.2)
by ts i n a g.no_argument h = (i, (x.no_more, t.no_atom h.0), h.1)
by ts i n a g.a_dot h = (h.1.1.0, λ y. ((h.1.1.1 (x.method (i + 1) y x.no_more)).0, t.a_dot h.0 h.1.0 (h.1.1.1 (x.method (i + 1) y x.no_more)).1), h.1.1.2)
by ts i n a g.no_dot h = (i, λ y. (y, t.no_dot h.0), h.1)
by ts i n a g.a_variable h = (i + 1, (x.name i, t.named h.0), h.1)
by ts i n a g.a_numeral h = (h.1.0, ((h.1.1 i).0, t.number h.0 (h.1.1 i).1), h.1.2)
by ts i n a g.with_width h = (i + 1 + 1, λ m. (x.literal m (i + 1), t.with_width h.0 h.1.0), h.1.1)
by ts i n a g.without_width h = (i, λ m. (x.numeral m, t.without_width h.0), h.1)
by ts i n a (g.a_constant {w} c) h = (i + 1, (x.constant w i, t.a_constant c h.0), h.1)
by ts i n a g.in_brackets h = (h.1.2.0, ((h.1.2.1 h.1.1.0).0, t.bracket h.0 h.1.1.1 (h.1.2.1 h.1.1.0).1), h.1.2.2)
by ts i n a g.plain_closing h = (i + 1, λ y. (y, t.plain h.0), h.1)
by ts i n a g.ascribed h = (h.1.0 + 1, λ y. (x.ascribed i y h.1.1.0, t.with_sort h.0 h.1.1.1 h.1.2.0), h.1.2.1)

pub means : {ts : List Terminal} {a : List Symbol} {i n : ℕ} → Derives ts a i [] n → Means ts a i n
means here = refl
means (taken e d) = (e, means d)
means (at_end e d) = (e, means d)
means (not_next e d) = (e, means d)
means {ts = ts} {i = i} {n = n} (by_rule {a = a} q d) = by ts i n a q (means d)
