-- Trees are derived by the rules.
use Rattle.std.proofs.Common.{ℕ, ◌+◌, List, ◌∷◌, Option}
use Rattle.bv_grammar.specs.declared.words.Word.TheVariants as words
use Rattle.bv_grammar.specs.declared.words.Terminal.{Terminal}
use Rattle.bv_grammar.specs.Grammar.{Symbol, word, items, path, dotted, paths, part, binders, names, brace_names, bound, sort, proof, intro, separator, tactic, term, tail, call, methods, more_methods, arguments, dots, atom, literal, closing}
use Rattle.bv_grammar.specs.Grammar as g
use Rattle.bv_grammar.specs.Derivation.{Derives, taken, not_next, by_rule}
use Rattle.bv_trees.specs.declared.pieces.Sort.{Sort}
use Rattle.bv_trees.specs.Trees.{Tree, Trees, Binder, Goal}
use Rattle.bv_trees.specs.Terms as t
use Rattle.bv_trees.specs.Terms.{SortAt, Term, Operand, Tail, Methods, Arguments, Atoms, Dots, Atom, Literal, Closing}
use Rattle.bv_trees.specs.Files as f
use Rattle.bv_trees.specs.Files.{PartAt, Path, Dotted, Paths, Names, Bound, Binders, Intros, Separator, Tactic, Proof, Items}

pub by_sort : {ts : List Terminal} {a b : List Symbol} {i j n : ℕ} {s : Sort} → SortAt ts i s j → Derives ts a j b n → Derives ts (sort ∷ a) i b n
by_sort (t.truths e) d = by_rule g.truth (taken e d)
by_sort (t.vectors e n) d = by_rule g.vector (taken e (taken n d))

pub by_literal : {ts : List Terminal} {a b : List Symbol} {m i j n : ℕ} {y : Tree} → Literal ts m i y j → Derives ts a j b n → Derives ts (literal ∷ a) i b n
by_literal (t.without_width e) d = by_rule g.without_width (not_next e d)
by_literal (t.with_width e n) d = by_rule g.with_width (taken e (taken n d))

pub by_closing : {ts : List Terminal} {a b : List Symbol} {i j n : ℕ} {y z : Tree} → Closing ts y i z j → Derives ts a j b n → Derives ts (closing ∷ a) i b n
by_closing (t.plain e) d = by_rule g.plain_closing (taken e d)
by_closing (t.with_sort e s c) d = by_rule g.ascribed (taken e (by_sort s (taken c d)))

pub by_dots : {ts : List Terminal} {a b : List Symbol} {i j n : ℕ} {y z : Tree} → Dots ts y i z j → Derives ts a j b n → Derives ts (dots ∷ a) i b n
by_dots (t.no_dot e) d = by_rule g.no_dot (not_next e d)
by_dots (t.a_dot e n h) d = by_rule g.a_dot (taken e (taken n (by_dots h d)))

mutual
  pub by_term : {ts : List Terminal} {a b : List Symbol} {p i j n : ℕ} {y : Tree} → Term ts p i y j → Derives ts a j b n → Derives ts (term p ∷ a) i b n
  by_term (t.term o h) d = by_operand o (by_tail h d)

  pub by_operand : {ts : List Terminal} {a b : List Symbol} {p l i j n : ℕ} {y : Tree} → Operand ts i l y j → Derives ts (tail p l ∷ a) j b n → Derives ts (term p ∷ a) i b n
  by_operand (t.prefixed e q h) d = by_rule (g.prefix q) (taken e (by_term h d))
  by_operand (t.chosen e h u k v m) d = by_rule g.choice (taken e (by_term h (taken u (by_term k (taken v (by_term m d))))))
  by_operand (t.called y m) d = by_rule g.a_call (by_rule g.a_receiver (by_atom y (by_methods m d)))

  pub by_tail : {ts : List Terminal} {a b : List Symbol} {p l i j n : ℕ} {y z : Tree} → Tail ts p l y i z j → Derives ts a j b n → Derives ts (tail p l ∷ a) i b n
  by_tail (t.stop e) d = by_rule g.no_infix (not_next e d)
  by_tail (t.more o e q h u) d = by_rule (g.infix_ o q) (taken e (by_term h (by_tail u d)))

  pub by_methods : {ts : List Terminal} {a b : List Symbol} {i j n : ℕ} {y z : Tree} → Methods ts y i z j → Derives ts a j b n → Derives ts (methods ∷ a) i b n
  by_methods (t.no_method e) d = by_rule g.no_method (not_next e d)
  by_methods (t.a_method e n h) d = by_rule g.a_method (taken e (taken n (by_arguments h d)))

  pub by_arguments : {ts : List Terminal} {a b : List Symbol} {m i j n : ℕ} {y z : Tree} → Arguments ts y m i z j → Derives ts a j b n → Derives ts (more_methods ∷ a) i b n
  by_arguments (t.further e n h) d = by_rule g.further_method (taken e (taken n (by_arguments h d)))
  by_arguments (t.with_all e h) d = by_rule g.then_arguments (not_next e (by_atoms h d))

  pub by_atoms : {ts : List Terminal} {a b : List Symbol} {i j n : ℕ} {ys : Trees} → Atoms ts i ys j → Derives ts a j b n → Derives ts (arguments ∷ a) i b n
  by_atoms (t.no_atom e) d = by_rule g.no_argument (not_next e d)
  by_atoms (t.an_atom y m h) d = by_rule g.an_argument (by_atom y (by_dots m (by_atoms h d)))

  pub by_atom : {ts : List Terminal} {a b : List Symbol} {i j n : ℕ} {y : Tree} → Atom ts i y j → Derives ts a j b n → Derives ts (atom ∷ a) i b n
  by_atom (t.named e) d = by_rule g.a_variable (taken e d)
  by_atom (t.number e h) d = by_rule g.a_numeral (taken e (by_literal h d))
  by_atom (t.a_constant c e) d = by_rule (g.a_constant c) (taken e d)
  by_atom (t.bracket e h c) d = by_rule g.in_brackets (taken e (by_term h (by_closing c d)))

pub by_part : {ts : List Terminal} {a b : List Symbol} {i n : ℕ} → PartAt ts i → Derives ts a (i + 1) b n → Derives ts (part ∷ a) i b n
by_part (f.a_name e) d = by_rule g.part_name (taken e d)
by_part (f.a_bool e) d = by_rule g.part_bool (taken e d)
by_part (f.a_bitvec e) d = by_rule g.part_bitvec (taken e d)

pub by_dotted : {ts : List Terminal} {a b : List Symbol} {i j n : ℕ} → Dotted ts i j → Derives ts a j b n → Derives ts (dotted ∷ a) i b n
by_dotted (f.no_part e) d = by_rule g.no_part (not_next e d)
by_dotted (f.a_part e p h) d = by_rule g.further_part (taken e (by_part p (by_dotted h d)))

pub by_path : {ts : List Terminal} {a b : List Symbol} {i j n : ℕ} → Path ts i j → Derives ts a j b n → Derives ts (path ∷ a) i b n
by_path (f.path p h) d = by_rule g.a_path (by_part p (by_dotted h d))

pub by_paths : {ts : List Terminal} {a b : List Symbol} {i j n : ℕ} → Paths ts i j → Derives ts a j b n → Derives ts (paths ∷ a) i b n
by_paths (f.no_path e) d = by_rule g.no_path (not_next e d)
by_paths (f.a_path p h) d = by_rule g.further_path (by_path p (by_paths h d))

pub by_names : {ts : List Terminal} {a b : List Symbol} {i j n : ℕ} → Names ts i j → Derives ts a j b n → Derives ts (names ∷ a) i b n
by_names (f.no_name e) d = by_rule g.no_name (not_next e d)
by_names (f.further_name e h) d = by_rule g.further_name (taken e (by_names h d))

pub by_brace_names : {ts : List Terminal} {a b : List Symbol} {i j n : ℕ} → Names ts i j → Derives ts a j b n → Derives ts (brace_names ∷ a) i b n
by_brace_names (f.no_name e) d = by_rule g.no_brace_name (not_next e d)
by_brace_names (f.further_name e h) d = by_rule g.further_brace_name (taken e (by_brace_names h d))

pub by_bound : {ts : List Terminal} {a b : List Symbol} {i j n : ℕ} {k l : ℕ} {c : Binder} → Bound ts k l i c j → Derives ts a j b n → Derives ts (bound ∷ a) i b n
by_bound (f.to_sort s) d = by_rule g.variables (by_sort s d)
by_bound (f.to_term h) d = by_rule g.hypothesis (by_term h d)

pub by_binders : {ts : List Terminal} {a b : List Symbol} {i j n : ℕ} {bs : List Binder} → Binders ts i bs j → Derives ts a j b n → Derives ts (binders ∷ a) i b n
by_binders (f.no_binder e) d = by_rule g.no_binder (not_next e d)
by_binders (f.round e n h c v r m) d = by_rule g.round (taken e (taken n (by_names h (taken c (by_bound v (taken r (by_binders m d)))))))
by_binders (f.brace e n h c s r m) d = by_rule g.brace (taken e (taken n (by_brace_names h (taken c (by_sort s (taken r (by_binders m d)))))))

pub by_separator : {ts : List Terminal} {a b : List Symbol} {i j n : ℕ} → Separator ts i j → Derives ts a j b n → Derives ts (separator ∷ a) i b n
by_separator (f.no_separator e) d = by_rule g.not_separated (not_next e d)
by_separator (f.a_separator e) d = by_rule g.separated (taken e d)

pub by_intros : {ts : List Terminal} {a b : List Symbol} {i j n : ℕ} → Intros ts i j → Derives ts a j b n → Derives ts (intro ∷ a) i b n
by_intros (f.no_intros e) d = by_rule g.no_intros (not_next e d)
by_intros (f.intros e s) d = by_rule g.intros (taken e (by_separator s d))

pub by_the_tactic : {ts : List Terminal} {a b : List Symbol} {i j n : ℕ} {s : Option ℕ} → Tactic ts i s j → Derives ts a j b n → Derives ts (tactic ∷ a) i b n
by_the_tactic (f.decided e) d = by_rule g.decided (taken e d)
by_the_tactic (f.checked e n) d = by_rule g.checked (taken e (taken n d))

pub by_proof : {ts : List Terminal} {a b : List Symbol} {i j n : ℕ} {s : Option ℕ} → Proof ts i s j → Derives ts a j b n → Derives ts (proof ∷ a) i b n
by_proof (f.by_tactic e h s) d = by_rule g.a_proof (taken e (by_intros h (by_the_tactic s d)))

pub by_the_rest : {ts : List Terminal} {a b : List Symbol} {k l j n : ℕ} {x : Tree} {s : Option ℕ} → t.IsWord ts words.Colon k → Term ts 0 (k + 1) x l → t.IsWord ts words.Assign l → Proof ts (l + 1) s j → Derives ts a j b n
    → Derives ts (word words.Colon ∷ term 0 ∷ word words.Assign ∷ proof ∷ a) k b n
by_the_rest c x m q d = taken c (by_term x (taken m (by_proof q d)))

pub by_items : {ts : List Terminal} {a b : List Symbol} {i j n : ℕ} {gs : List Goal} → Items ts i gs j → Derives ts a j b n → Derives ts (items ∷ a) i b n
by_items (f.no_item e) d = by_rule g.no_item (not_next e d)
by_items (f.import_ e p h) d = by_rule g.import_item (taken e (by_path p (by_items h d)))
by_items (f.open_ e p ps h) d = by_rule g.open_item (taken e (by_path p (by_paths ps (by_items h d))))
by_items (f.theorem_ e p (f.statement bs c x m q) h) d = by_rule g.theorem_item (taken e (by_path p (by_binders bs (by_the_rest c x m q (by_items h d)))))
by_items (f.example_ e (f.statement bs c x m q) h) d = by_rule g.example_item (taken e (by_binders bs (by_the_rest c x m q (by_items h d))))
