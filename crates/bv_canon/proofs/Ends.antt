-- Where terms and arguments end: at a terminal that goes on with none of them.
use Rattle.std.proofs.Common.{◌≡◌, ℕ, ◌+◌, List, Option, Some, None, refl, ap, ◌∙◌}
use Rattle.bv_grammar.specs.declared.words.Word.{Word}
use Rattle.bv_grammar.specs.declared.words.Word.TheVariants as words
use Rattle.bv_grammar.specs.declared.words.Terminal.{Terminal}
use Rattle.bv_grammar.specs.declared.words.Terminal.TheVariants as terminals
use Rattle.bv_grammar.specs.declared.words.Fixity.{Fixity}
use Rattle.bv_grammar.specs.Operators.{prefix_level, fixity_of, when_fits}
use Rattle.bv_grammar.specs.Grammar.{is_word, begins_atom, operator_on, Begins, atom_name, atom_numeral, atom_constant, atom_round, this_word, fitting, is_true, is_false, is_true_proposition, is_false_proposition}
use Rattle.bv_trees.specs.Trees.{Tree, Trees, prefix, infix_, choice, method, no_more, and}
use Rattle.bv_trees.specs.Terms as t
use Rattle.bv_trees.specs.Terms.{IsAt, IsWord, IsNot, Term, Operand, Tail, Atoms, Atom}

-- two terminals at one place are one
pub one_at : (ts : List Terminal) (i : ℕ) {a b : Terminal} → IsAt ts a i → IsAt ts b i → a ≡ b
one_at ts i e f = cc

-- ---- what doesn't begin

no_fit : (p l : ℕ) (x : Option Fixity) (o : Fixity) → x ≡ None → when_fits p l x ≡ Some o → ⊥
no_fit p l None o n q = cc
no_fit p l (Some f) o n q = cc

no_operator : (p l : ℕ) (a : Terminal) (w : Word) → Begins (operator_on p l) a → a ≡ terminals.Word w → fixity_of w ≡ None → ⊥
no_operator p l a w (fitting {w = v} o q) e f = let same : v ≡ w = cc in no_fit p l (fixity_of v) o (ap fixity_of same ∙ f) q

word_of : {w : Word} {a : Terminal} → Begins (is_word w) a → a ≡ terminals.Word w
word_of this_word = refl

no_atom : (a : Terminal) → Begins begins_atom a → a ≡ terminals.Word words.RightRound → ⊥
no_atom a atom_name e = cc
no_atom a atom_numeral e = cc
no_atom a (atom_constant is_true) e = cc
no_atom a (atom_constant is_false) e = cc
no_atom a (atom_constant is_true_proposition) e = cc
no_atom a (atom_constant is_false_proposition) e = cc
no_atom a atom_round e = cc

no_dot_first : (a : Terminal) → Begins begins_atom a → a ≡ terminals.Word words.Dot → ⊥
no_dot_first a atom_name e = cc
no_dot_first a atom_numeral e = cc
no_dot_first a (atom_constant is_true) e = cc
no_dot_first a (atom_constant is_false) e = cc
no_dot_first a (atom_constant is_true_proposition) e = cc
no_dot_first a (atom_constant is_false_proposition) e = cc
no_dot_first a atom_round e = cc

-- ---- places at which nothing goes on

pub stops : (ts : List Terminal) (i : ℕ) {w : Word} (p l : ℕ) → IsWord ts w i → fixity_of w ≡ None → IsNot ts (operator_on p l) i
stops ts i {w = w} p l e f a h b = no_operator p l a w b (one_at ts i h e) f

pub other_word : (ts : List Terminal) (i : ℕ) {w : Word} (v : Word) → IsWord ts w i → (w ≡ v → ⊥) → IsNot ts (is_word v) i
other_word ts i {w = w} v e n a h b = let same = word_of b in let there = one_at ts i h e in let is : w ≡ v = cc in n is

pub other_terminal : (ts : List Terminal) (i : ℕ) {c : Terminal} (v : Word) → IsAt ts c i → (c ≡ terminals.Word v → ⊥) → IsNot ts (is_word v) i
other_terminal ts i {c = c} v e n a h b = let same = word_of b in let there = one_at ts i h e in let is : c ≡ terminals.Word v = cc in n is

pub no_argument : (ts : List Terminal) (i : ℕ) → IsWord ts words.RightRound i → IsNot ts begins_atom i
no_argument ts i e a h b = no_atom a b (one_at ts i h e)

-- what an atom begins with
atom_first : {ts : List Terminal} {i j : ℕ} {x : Tree} → Atom ts i x j → (a : Terminal) × IsAt ts a i × Begins begins_atom a
atom_first (t.named e) = (_, e, atom_name)
atom_first (t.number e l) = (_, e, atom_numeral)
atom_first (t.a_constant c e) = (_, e, atom_constant c)
atom_first (t.bracket e x c) = (_, e, atom_round)

pub no_dot_at : {ts : List Terminal} {i j : ℕ} {x : Tree} → Atom ts i x j → IsNot ts (is_word words.Dot) i
no_dot_at {ts} {i} x = let a = atom_first x in other_terminal ts i words.Dot a.1 (λ e. no_dot_first a.0 a.2 e)

-- ---- what ends there

-- a term that is an atom
pub term_before : {ts : List Terminal} {i j p : ℕ} {x : Tree} {w : Word} → Atom ts i x j → IsWord ts w j → fixity_of w ≡ None → (w ≡ words.Dot → ⊥) → Term ts p i x j
term_before {ts} {j = j} {p = p} x e f n = t.term (t.called x (t.no_method (other_word ts j words.Dot e n))) (t.stop (stops ts j p 1024 e f))

pub before_right : {ts : List Terminal} {i j p : ℕ} {x : Tree} → Atom ts i x j → IsWord ts words.RightRound j → Term ts p i x j
before_right x e = term_before x e refl (λ h. (cc))

-- brackets round a term
pub in_brackets : {ts : List Terminal} {i j : ℕ} {x : Tree} → IsWord ts words.LeftRound i → Term ts 0 (i + 1) x j → IsWord ts words.RightRound j → Atom ts i x (j + 1)
in_brackets l x r = t.bracket l x (t.plain r)

pub prefix_atom : {ts : List Terminal} {i j l : ℕ} {w : Word} {x : Tree} → IsWord ts words.LeftRound i → IsWord ts w (i + 1) → prefix_level w ≡ Some l → Atom ts (i + 1 + 1) x j
    → IsWord ts words.RightRound j → Atom ts i (prefix w (i + 1) x) (j + 1)
prefix_atom {ts} {j = j} {l = l} opening e q x closing = in_brackets opening (t.term (t.prefixed e q (before_right x closing)) (t.stop (stops ts j 0 l closing refl))) closing

no_dot_operator : (p l : ℕ) (w : Word) (o : Fixity) → when_fits p l (fixity_of w) ≡ Some o → w ≡ words.Dot → ⊥
no_dot_operator p l w o q h = no_fit p l (fixity_of w) o (ap fixity_of h) q

pub infix_atom : {ts : List Terminal} {i j k : ℕ} {w : Word} {x y : Tree} (o : Fixity) → IsWord ts words.LeftRound i → Atom ts (i + 1) x j → IsWord ts w j → when_fits 0 1024 (fixity_of w) ≡ Some o
    → Atom ts (j + 1) y k → IsWord ts words.RightRound k → Atom ts i (infix_ w j x y) (k + 1)
infix_atom {ts} {j = j} {k = k} {w = w} o opening x e q y closing =
    in_brackets opening (t.term (t.called x (t.no_method (other_word ts j words.Dot e (no_dot_operator 0 1024 w o q)))) (t.more o e q (before_right y closing) (t.stop (stops ts k 0 o.level closing refl)))) closing

pub method_atom : {ts : List Terminal} {i j k : ℕ} {x : Tree} {xs : Trees} → IsWord ts words.LeftRound i → Atom ts (i + 1) x j → IsWord ts words.Dot j → IsAt ts terminals.Name (j + 1)
    → IsNot ts (is_word words.Dot) (j + 1 + 1) → Atoms ts (j + 1 + 1) xs k → IsWord ts words.RightRound k → Atom ts i (method (j + 1) x xs) (k + 1)
method_atom {ts} {k = k} opening x d n alone xs closing = in_brackets opening (t.term (t.called x (t.a_method d n (t.with_all alone xs))) (t.stop (stops ts k 0 1024 closing refl))) closing

-- one argument
pub last_argument : {ts : List Terminal} {i j : ℕ} {x : Tree} → Atom ts i x j → IsWord ts words.RightRound j → Atoms ts i (and x no_more) j
last_argument {ts} {j = j} x closing = t.an_atom x (t.no_dot (other_word ts j words.Dot closing (λ h. (cc)))) (t.no_atom (no_argument ts j closing))

pub choice_atom : {ts : List Terminal} {i j k n : ℕ} {x y z : Tree} → IsWord ts words.LeftRound i → IsWord ts words.If (i + 1) → Atom ts (i + 1 + 1) x j → IsWord ts words.Then j → Atom ts (j + 1) y k
    → IsWord ts words.Else k → Atom ts (k + 1) z n → IsWord ts words.RightRound n → Atom ts i (choice (i + 1) x y z) (n + 1)
choice_atom {ts} {n = n} opening e x f y g z closing =
    in_brackets opening (t.term (t.chosen e (term_before x f refl (λ h. (cc))) f (term_before y g refl (λ h. (cc))) g (before_right z closing)) (t.stop (stops ts n 0 0 closing refl))) closing
