-- A file is read in one way.
use Rattle.std.proofs.Common.{◌≡◌, ℕ, ◌+◌, List, Some, refl, sym, ap, subst, ◌∙◌, ◌⊎◌, inl, inr}
use Rattle.bv_grammar.specs.declared.words.Word.{Word}
use Rattle.bv_grammar.specs.declared.words.Word.TheVariants as words
use Rattle.bv_grammar.specs.declared.words.Terminal.{Terminal}
use Rattle.bv_grammar.specs.declared.words.Terminal.TheVariants as terminals
use Rattle.bv_grammar.specs.declared.words.Fixity.{Fixity}
use Rattle.bv_grammar.specs.Operators.{prefix_level, fixity_of, when_fits}
use Rattle.bv_grammar.specs.Grammar.{Next, begins_atom, operator_on, Begins, atom_name, atom_numeral, atom_constant, atom_round, this_word, fitting, IsConstant, is_true, is_false, is_true_proposition, is_false_proposition}
use Rattle.bv_trees.specs.declared.pieces.Sort.{Sort}
use Rattle.bv_trees.specs.declared.pieces.Sort.TheVariants as sorts
use Rattle.bv_trees.specs.Trees as v
use Rattle.bv_trees.specs.Trees.{Tree, Trees, Binder, Goal}
use Rattle.bv_trees.specs.Terms as t
use Rattle.bv_trees.specs.Terms.{IsAt, IsWord, IsNot, SortAt, Term, Operand, Tail, Methods, Arguments, Atoms, Dots, Atom, Literal, Closing}

pub up : {i i' : ℕ} → i ≡ i' → i + 1 ≡ i' + 1
up h = ap (λ n. n + 1) h

pub up2 : {i i' : ℕ} → i ≡ i' → i + 1 + 1 ≡ i' + 1 + 1
up2 h = ap (λ n. n + 1 + 1) h

-- two terminals at one place are one
pub one_at : (ts : List Terminal) {i i' : ℕ} {a b : Terminal} → IsAt ts a i → IsAt ts b i' → i ≡ i' → a ≡ b
one_at ts e f h = cc

pub one_word : (ts : List Terminal) {i i' : ℕ} {a b : Word} → IsWord ts a i → IsWord ts b i' → i ≡ i' → a ≡ b
one_word ts e f h = cc

-- what begins there goes on
pub goes_on : (ts : List Terminal) {x : Next} {i i' : ℕ} {a : Terminal} → IsNot ts x i → IsAt ts a i' → Begins x a → i ≡ i' → ⊥
goes_on ts {x} {i} {i'} {a} n e b h = n a (subst (λ k. IsAt ts a k) (sym h) e) b

pub one_sort : {ts : List Terminal} {i i' j k : ℕ} {s u : Sort} → SortAt ts i s j → SortAt ts i' u k → i ≡ i' → (s ≡ u) × (j ≡ k)
one_sort (t.truths e) (t.truths f) h = (refl, up h)
one_sort (t.vectors e n) (t.vectors f m) h = (ap sorts.Vector (up h), up2 h)
one_sort (t.truths e) (t.vectors f m) h = let same = one_word _ e f h in cc
one_sort (t.vectors e n) (t.truths f) h = let same = one_word _ e f h in cc

one_literal : {ts : List Terminal} {m m' i i' j k : ℕ} {x y : Tree} → Literal ts m i x j → Literal ts m' i' y k → m ≡ m' → i ≡ i' → (x ≡ y) × (j ≡ k)
one_literal (t.without_width e) (t.without_width f) m h = (ap v.numeral m, h)
one_literal (t.with_width e n) (t.with_width f o) m h = ((λ q. v.literal (m q) (up h q)), up2 h)
one_literal (t.without_width e) (t.with_width f o) m h = absurd (goes_on _ e f this_word h)
one_literal (t.with_width e n) (t.without_width f) m h = absurd (goes_on _ f e this_word (sym h))

one_closing : {ts : List Terminal} {i i' j k : ℕ} {x x' y z : Tree} → Closing ts x i y j → Closing ts x' i' z k → x ≡ x' → i ≡ i' → (y ≡ z) × (j ≡ k)
one_closing (t.plain e) (t.plain f) x h = (x, up h)
one_closing (t.with_sort e s c) (t.with_sort f u d) x h = let same = one_sort s u (up h) in ((λ q. v.ascribed (h q) (x q) (same.0 q)), up same.1)
one_closing (t.plain e) (t.with_sort f u d) x h = let same = one_word _ e f h in cc
one_closing (t.with_sort f u d) (t.plain e) x h = let same = one_word _ f e h in cc

one_dots : {ts : List Terminal} {i i' j k : ℕ} {x x' y z : Tree} → Dots ts x i y j → Dots ts x' i' z k → x ≡ x' → i ≡ i' → (y ≡ z) × (j ≡ k)
one_dots (t.no_dot e) (t.no_dot f) x h = (x, h)
one_dots (t.a_dot e n d) (t.a_dot f m d') x h = one_dots d d' (λ q. v.method (up h q) (x q) v.no_more) (up2 h)
one_dots (t.no_dot e) (t.a_dot f m d') x h = absurd (goes_on _ e f this_word h)
one_dots (t.a_dot f m d') (t.no_dot e) x h = absurd (goes_on _ e f this_word (sym h))

-- what an atom begins with
atom_first : {ts : List Terminal} {i j : ℕ} {x : Tree} → Atom ts i x j → (a : Terminal) × IsAt ts a i × Begins begins_atom a
atom_first (t.named e) = (_, e, atom_name)
atom_first (t.number e l) = (_, e, atom_numeral)
atom_first (t.a_constant c e) = (_, e, atom_constant c)
atom_first (t.bracket e x c) = (_, e, atom_round)

no_prefix : (a : Terminal) (w : Word) (l : ℕ) → Begins begins_atom a → a ≡ terminals.Word w → prefix_level w ≡ Some l → ⊥
no_prefix a w l atom_name e q = cc
no_prefix a w l atom_numeral e q = cc
no_prefix a w l (atom_constant is_true) e q = cc
no_prefix a w l (atom_constant is_false) e q = cc
no_prefix a w l (atom_constant is_true_proposition) e q = cc
no_prefix a w l (atom_constant is_false_proposition) e q = cc
no_prefix a w l atom_round e q = cc

no_if : (a : Terminal) → Begins begins_atom a → a ≡ terminals.Word words.If → ⊥
no_if a atom_name e = cc
no_if a atom_numeral e = cc
no_if a (atom_constant is_true) e = cc
no_if a (atom_constant is_false) e = cc
no_if a (atom_constant is_true_proposition) e = cc
no_if a (atom_constant is_false_proposition) e = cc
no_if a atom_round e = cc

no_bracket : {w : Word} → IsConstant w → w ≡ words.LeftRound → ⊥
no_bracket is_true e = cc
no_bracket is_false e = cc
no_bracket is_true_proposition e = cc
no_bracket is_false_proposition e = cc

prefix_is_no_atom : {ts : List Terminal} {i i' j l : ℕ} {w : Word} {x : Tree} → IsWord ts w i → prefix_level w ≡ Some l → Atom ts i' x j → i ≡ i' → ⊥
prefix_is_no_atom {l = l} {w = w} e q x h = let a = atom_first x in no_prefix a.0 w l a.2 (one_at _ a.1 e (sym h)) q

if_is_no_atom : {ts : List Terminal} {i i' j : ℕ} {x : Tree} → IsWord ts words.If i → Atom ts i' x j → i ≡ i' → ⊥
if_is_no_atom e x h = let a = atom_first x in no_if a.0 a.2 (one_at _ a.1 e (sym h))

if_is_no_prefix : (ts : List Terminal) {i i' l : ℕ} {w : Word} → IsWord ts words.If i → IsWord ts w i' → prefix_level w ≡ Some l → i ≡ i' → ⊥
if_is_no_prefix ts e f q h = let same = one_word _ e f h in cc

no_sort : (a : Terminal) (w : Word) → Begins begins_atom a → a ≡ terminals.Word w → (w ≡ words.Bool) ⊎ (w ≡ words.BitVec) → ⊥
no_sort a w atom_name e q = cc
no_sort a w atom_numeral e q = cc
no_sort a w (atom_constant is_true) e (inl q) = cc
no_sort a w (atom_constant is_true) e (inr q) = cc
no_sort a w (atom_constant is_false) e (inl q) = cc
no_sort a w (atom_constant is_false) e (inr q) = cc
no_sort a w (atom_constant is_true_proposition) e (inl q) = cc
no_sort a w (atom_constant is_true_proposition) e (inr q) = cc
no_sort a w (atom_constant is_false_proposition) e (inl q) = cc
no_sort a w (atom_constant is_false_proposition) e (inr q) = cc
no_sort a w atom_round e (inl q) = cc
no_sort a w atom_round e (inr q) = cc

-- what a sort begins with
sort_first : {ts : List Terminal} {i j : ℕ} {s : Sort} → SortAt ts i s j → (w : Word) × IsWord ts w i × ((w ≡ words.Bool) ⊎ (w ≡ words.BitVec))
sort_first (t.truths e) = (words.Bool, e, inl refl)
sort_first (t.vectors e n) = (words.BitVec, e, inr refl)

pub atom_is_no_sort : {ts : List Terminal} {i i' j k : ℕ} {s : Sort} {x : Tree} → Atom ts i x j → SortAt ts i' s k → i ≡ i' → ⊥
atom_is_no_sort x s h = let a = atom_first x in let b = sort_first s in no_sort a.0 b.0 a.2 (one_at _ a.1 b.1 h) b.2

sort_word : {w : Word} {l : ℕ} → prefix_level w ≡ Some l → (w ≡ words.Bool) ⊎ (w ≡ words.BitVec) → ⊥
sort_word q (inl e) = cc
sort_word q (inr e) = cc

if_word : (words.If ≡ words.Bool) ⊎ (words.If ≡ words.BitVec) → ⊥
if_word (inl e) = cc
if_word (inr e) = cc

pub prefix_is_no_sort : {ts : List Terminal} {i i' l k : ℕ} {w : Word} {s : Sort} → IsWord ts w i → prefix_level w ≡ Some l → SortAt ts i' s k → i ≡ i' → ⊥
prefix_is_no_sort {l = l} e q s h = let b = sort_first s in sort_word {l = l} (ap prefix_level (sym (one_word _ e b.1 h)) ∙ q) b.2

pub if_is_no_sort : {ts : List Terminal} {i i' k : ℕ} {s : Sort} → IsWord ts words.If i → SortAt ts i' s k → i ≡ i' → ⊥
if_is_no_sort e s h = let b = sort_first s in if_word (subst (λ w. (w ≡ words.Bool) ⊎ (w ≡ words.BitVec)) (sym (one_word _ e b.1 h)) b.2)

pub term_is_no_sort : {ts : List Terminal} {p i j : ℕ} {w : Word} {x : Tree} → Term ts p i x j → IsWord ts w i → (w ≡ words.Bool) ⊎ (w ≡ words.BitVec) → ⊥
term_is_no_sort {ts} {i = i} (t.term (t.prefixed {l} e q d) u) f c = sort_word {l = l} (ap prefix_level (sym (one_word ts {i = i} e f refl)) ∙ q) c
term_is_no_sort {ts} {i = i} (t.term (t.chosen e x th y el z) u) f c = if_word (subst (λ v. (v ≡ words.Bool) ⊎ (v ≡ words.BitVec)) (sym (one_word ts {i = i} e f refl)) c)
term_is_no_sort {ts} {i = i} {w = w} (t.term (t.called x m) u) f c = let a = atom_first x in no_sort a.0 w a.2 (one_at ts {i = i} a.1 f refl) c

same_level : {a b : Word} {l m : ℕ} → prefix_level a ≡ Some l → prefix_level b ≡ Some m → a ≡ b → l ≡ m
same_level e f h = cc

-- one place goes on in one way
same_way : {a b : Word} {p q l m : ℕ} {o o' : Fixity} → when_fits p l (fixity_of a) ≡ Some o → when_fits q m (fixity_of b) ≡ Some o' → a ≡ b → p ≡ q → l ≡ m → o ≡ o'
same_way e f w p l = cc

ends_here : (ts : List Terminal) {i i' p q l m : ℕ} {w : Word} {o : Fixity} → IsNot ts (operator_on p l) i → IsWord ts w i' → when_fits q m (fixity_of w) ≡ Some o → p ≡ q → l ≡ m → i ≡ i' → ⊥
ends_here ts {i} {p = p'} {q = q} {l = l'} {m = m} {o = o} n e f p l h = goes_on ts (subst (λ k. IsNot ts (operator_on k m) i) p (subst (λ k. IsNot ts (operator_on p' k) i) l n)) e (fitting o f) h

mutual
  pub one_term : {ts : List Terminal} {p q i i' j k : ℕ} {x y : Tree} → Term ts p i x j → Term ts q i' y k → p ≡ q → i ≡ i' → (x ≡ y) × (j ≡ k)
  one_term (t.term o d) (t.term o' d') p h = let same = one_operand o o' h in one_tail d d' p same.0 same.1 same.2

  one_operand : {ts : List Terminal} {i i' j k l m : ℕ} {x y : Tree} → Operand ts i l x j → Operand ts i' m y k → i ≡ i' → (l ≡ m) × (x ≡ y) × (j ≡ k)
  one_operand (t.prefixed e q d) (t.prefixed e' q' d') h =
      let w = one_word _ e e' h in
      let level = same_level q q' w in
      let same = one_term d d' level (up h) in
      (level, (λ n. v.prefix (w n) (h n) (same.0 n)), same.1)
  one_operand (t.chosen e x th y el z) (t.chosen e' x' th' y' el' z') h =
      let a = one_term x x' refl (up h) in
      let b = one_term y y' refl (up a.1) in
      let c = one_term z z' refl (up b.1) in
      (refl, (λ n. v.choice (h n) (a.0 n) (b.0 n) (c.0 n)), c.1)
  one_operand (t.called x m) (t.called x' m') h =
      let a = one_atom x x' h in
      let b = one_methods m m' a.0 a.1 in
      (refl, b.0, b.1)
  one_operand (t.prefixed e q d) (t.chosen e' x' th' y' el' z') h = absurd (if_is_no_prefix _ e' e q (sym h))
  one_operand (t.prefixed e q d) (t.called x' m') h = absurd (prefix_is_no_atom e q x' h)
  one_operand (t.chosen e x th y el z) (t.prefixed e' q' d') h = absurd (if_is_no_prefix _ e e' q' h)
  one_operand (t.chosen e x th y el z) (t.called x' m') h = absurd (if_is_no_atom e x' h)
  one_operand (t.called x m) (t.prefixed e' q' d') h = absurd (prefix_is_no_atom e' q' x (sym h))
  one_operand (t.called x m) (t.chosen e' x' th' y' el' z') h = absurd (if_is_no_atom e' x (sym h))

  one_tail : {ts : List Terminal} {p q l m i i' j k : ℕ} {x x' y z : Tree} → Tail ts p l x i y j → Tail ts q m x' i' z k → p ≡ q → l ≡ m → x ≡ x' → i ≡ i' → (y ≡ z) × (j ≡ k)
  one_tail (t.stop e) (t.stop f) p l x h = (x, h)
  one_tail (t.stop e) (t.more o f q d u) p l x h = absurd (ends_here _ e f q p l h)
  one_tail (t.more o f q d u) (t.stop e) p l x h = absurd (ends_here _ e f q (sym p) (sym l) (sym h))
  one_tail (t.more o e q d u) (t.more o' e' q' d' u') p l x h =
      let w = one_word _ e e' h in
      let way = same_way q q' w p l in
      let same = one_term d d' (ap (λ o. o.right) way) (up h) in
      one_tail u u' p (ap (λ o. o.level) way) (λ n. v.infix_ (w n) (h n) (x n) (same.0 n)) same.1

  one_methods : {ts : List Terminal} {i i' j k : ℕ} {x x' y z : Tree} → Methods ts x i y j → Methods ts x' i' z k → x ≡ x' → i ≡ i' → (y ≡ z) × (j ≡ k)
  one_methods (t.no_method e) (t.no_method f) x h = (x, h)
  one_methods (t.a_method e n d) (t.a_method f m d') x h = one_arguments d d' x (up h) (up2 h)
  one_methods (t.no_method e) (t.a_method f m d') x h = absurd (goes_on _ e f this_word h)
  one_methods (t.a_method f m d') (t.no_method e) x h = absurd (goes_on _ e f this_word (sym h))

  one_arguments : {ts : List Terminal} {m m' i i' j k : ℕ} {x x' y z : Tree} → Arguments ts x m i y j → Arguments ts x' m' i' z k → x ≡ x' → m ≡ m' → i ≡ i' → (y ≡ z) × (j ≡ k)
  one_arguments (t.further e n d) (t.further f o d') x m h = one_arguments d d' (λ q. v.method (m q) (x q) v.no_more) (up h) (up2 h)
  one_arguments (t.with_all e d) (t.with_all f d') x m h = let same = one_atoms d d' h in ((λ q. v.method (m q) (x q) (same.0 q)), same.1)
  one_arguments (t.further f o d') (t.with_all e d) x m h = absurd (goes_on _ e f this_word (sym h))
  one_arguments (t.with_all e d) (t.further f o d') x m h = absurd (goes_on _ e f this_word h)

  one_atoms : {ts : List Terminal} {i i' j k : ℕ} {xs ys : Trees} → Atoms ts i xs j → Atoms ts i' ys k → i ≡ i' → (xs ≡ ys) × (j ≡ k)
  one_atoms (t.no_atom e) (t.no_atom f) h = (refl, h)
  one_atoms (t.an_atom x d r) (t.an_atom x' d' r') h =
      let a = one_atom x x' h in
      let b = one_dots d d' a.0 a.1 in
      let c = one_atoms r r' b.1 in
      ((λ n. v.and (b.0 n) (c.0 n)), c.1)
  one_atoms (t.no_atom e) (t.an_atom x' d' r') h = let a = atom_first x' in absurd (goes_on _ e a.1 a.2 h)
  one_atoms (t.an_atom x' d' r') (t.no_atom e) h = let a = atom_first x' in absurd (goes_on _ e a.1 a.2 (sym h))

  one_atom : {ts : List Terminal} {i i' j k : ℕ} {x y : Tree} → Atom ts i x j → Atom ts i' y k → i ≡ i' → (x ≡ y) × (j ≡ k)
  one_atom (t.named e) (t.named f) h = (ap v.name h, up h)
  one_atom (t.number e l) (t.number f m) h = one_literal l m h (up h)
  one_atom (t.a_constant c e) (t.a_constant d f) h = ((λ n. v.constant (one_word _ e f h n) (h n)), up h)
  one_atom (t.bracket e x c) (t.bracket f y d) h = let a = one_term x y refl (up h) in one_closing c d a.0 a.1
  one_atom (t.named e) (t.number f m) h = let same = one_at _ e f h in cc
  one_atom (t.named e) (t.a_constant d f) h = let same = one_at _ e f h in cc
  one_atom (t.named e) (t.bracket f y d) h = let same = one_at _ e f h in cc
  one_atom (t.number e l) (t.named f) h = let same = one_at _ e f h in cc
  one_atom (t.number e l) (t.a_constant d f) h = let same = one_at _ e f h in cc
  one_atom (t.number e l) (t.bracket f y d) h = let same = one_at _ e f h in cc
  one_atom (t.a_constant c e) (t.named f) h = let same = one_at _ e f h in cc
  one_atom (t.a_constant c e) (t.number f m) h = let same = one_at _ e f h in cc
  one_atom (t.a_constant c e) (t.bracket f y d) h = absurd (no_bracket c (one_word _ e f h))
  one_atom (t.bracket f y d) (t.named e) h = let same = one_at _ e f (sym h) in cc
  one_atom (t.bracket f y d) (t.number e l) h = let same = one_at _ e f (sym h) in cc
  one_atom (t.bracket f y d) (t.a_constant c e) h = absurd (no_bracket c (one_word _ e f (sym h)))
