-- Terms of a file.
use Rattle.std.specs.Prelude.{◌≡◌, ℕ, ◌+◌, List, Some, slice_get}
use Rattle.bv_grammar.specs.declared.words.Word.{Word}
use Rattle.bv_grammar.specs.declared.words.Word.TheVariants as words
use Rattle.bv_grammar.specs.declared.words.Terminal.{Terminal}
use Rattle.bv_grammar.specs.declared.words.Terminal.TheVariants as terminals
use Rattle.bv_grammar.specs.declared.words.Fixity.{Fixity}
use Rattle.bv_grammar.specs.Operators.{prefix_level, fixity_of, when_fits}
use Rattle.bv_grammar.specs.Grammar.{Next, is_word, operator_on, begins_atom, Begins, IsConstant}
use Rattle.bv_trees.specs.declared.pieces.Sort.{Sort}
use Rattle.bv_trees.specs.declared.pieces.Sort.TheVariants as sorts
use Rattle.bv_trees.specs.Trees.{Tree, name, numeral, literal, constant, prefix, infix_, choice, method, ascribed, Trees, no_more, and}

-- this terminal stands at i
abbrev pub IsAt : List Terminal → Terminal → ℕ → Type 0
IsAt ts t i = slice_get ts i ≡ Some t

-- this word stands at i
abbrev pub IsWord : List Terminal → Word → ℕ → Type 0
IsWord ts w i = IsAt ts (terminals.Word w) i

-- no terminal at i begins this
abbrev pub IsNot : List Terminal → Next → ℕ → Type 0
IsNot ts x i = (t : Terminal) → IsAt ts t i → Begins x t → ⊥

-- SortAt ts i s j: the terminals from i up to j are the sort s
pub data SortAt (ts : List Terminal) : ℕ → Sort → ℕ → Type 0 where
  truths : {i : ℕ} → IsWord ts words.Bool i → SortAt ts i sorts.Truth (i + 1)
  vectors : {i : ℕ} → IsWord ts words.BitVec i → IsAt ts terminals.Numeral (i + 1) → SortAt ts i (sorts.Vector (i + 1)) (i + 1 + 1)

mutual
  -- Term ts p i x j: the terminals from i up to j are a term of level p, which is x: an operand, and then, as long as the
  -- next terminal is an infix operator that fits, it and its right operand
  pub data Term (ts : List Terminal) : ℕ → ℕ → Tree → ℕ → Type 0 where
    term : {p l i k j : ℕ} {x y : Tree} → Operand ts i l x k → Tail ts p l x k y j → Term ts p i y j

  -- Operand ts i l x j: they are an operand of level l
  pub data Operand (ts : List Terminal) : ℕ → ℕ → Tree → ℕ → Type 0 where
    prefixed : {l i j : ℕ} {w : Word} {x : Tree} → IsWord ts w i → prefix_level w ≡ Some l → Term ts l (i + 1) x j → Operand ts i l (prefix w i x) j
    chosen : {i j k n : ℕ} {x y z : Tree} → IsWord ts words.If i → Term ts 0 (i + 1) x j → IsWord ts words.Then j → Term ts 0 (j + 1) y k → IsWord ts words.Else k → Term ts 0 (k + 1) z n
        → Operand ts i 0 (choice i x y z) n
    called : {i k j : ℕ} {x y : Tree} → Atom ts i x k → Methods ts x k y j → Operand ts i 1024 y j

  -- Tail ts p l x i y j: behind x, which has level l and ends at i, the term of level p goes on up to j, and is y
  pub data Tail (ts : List Terminal) : ℕ → ℕ → Tree → ℕ → Tree → ℕ → Type 0 where
    stop : {p l i : ℕ} {x : Tree} → IsNot ts (operator_on p l) i → Tail ts p l x i x i
    more : {p l i k j : ℕ} {w : Word} {x y z : Tree} (o : Fixity) → IsWord ts w i → when_fits p l (fixity_of w) ≡ Some o → Term ts o.right (i + 1) y k → Tail ts p o.level (infix_ w i x y) k z j
        → Tail ts p l x i z j

  -- Methods ts x i y j: behind the receiver x, which ends at i, its methods go on up to j, and give y; the last of them has
  -- arguments
  pub data Methods (ts : List Terminal) : Tree → ℕ → Tree → ℕ → Type 0 where
    no_method : {i : ℕ} {x : Tree} → IsNot ts (is_word words.Dot) i → Methods ts x i x i
    a_method : {i j : ℕ} {x y : Tree} → IsWord ts words.Dot i → IsAt ts terminals.Name (i + 1) → Arguments ts x (i + 1) (i + 1 + 1) y j → Methods ts x i y j

  -- Arguments ts x m i y j: behind the method m of x, from i up to j, come its arguments, or further methods
  pub data Arguments (ts : List Terminal) : Tree → ℕ → ℕ → Tree → ℕ → Type 0 where
    further : {m i j : ℕ} {x y : Tree} → IsWord ts words.Dot i → IsAt ts terminals.Name (i + 1) → Arguments ts (method m x no_more) (i + 1) (i + 1 + 1) y j → Arguments ts x m i y j
    with_all : {m i j : ℕ} {x : Tree} {xs : Trees} → IsNot ts (is_word words.Dot) i → Atoms ts i xs j → Arguments ts x m i (method m x xs) j

  -- Atoms ts i xs j: the terminals from i up to j are the arguments xs, as many as there are
  pub data Atoms (ts : List Terminal) : ℕ → Trees → ℕ → Type 0 where
    no_atom : {i : ℕ} → IsNot ts begins_atom i → Atoms ts i no_more i
    an_atom : {i k l j : ℕ} {x y : Tree} {xs : Trees} → Atom ts i x k → Dots ts x k y l → Atoms ts l xs j → Atoms ts i (and y xs) j

  -- Dots ts x i y j: behind the argument x, which ends at i, methods without arguments go on up to j, and give y
  pub data Dots (ts : List Terminal) : Tree → ℕ → Tree → ℕ → Type 0 where
    no_dot : {i : ℕ} {x : Tree} → IsNot ts (is_word words.Dot) i → Dots ts x i x i
    a_dot : {i j : ℕ} {x y : Tree} → IsWord ts words.Dot i → IsAt ts terminals.Name (i + 1) → Dots ts (method (i + 1) x no_more) (i + 1 + 1) y j → Dots ts x i y j

  -- Atom ts i x j: the terminals from i up to j are the atom x
  pub data Atom (ts : List Terminal) : ℕ → Tree → ℕ → Type 0 where
    named : {i : ℕ} → IsAt ts terminals.Name i → Atom ts i (name i) (i + 1)
    number : {i j : ℕ} {x : Tree} → IsAt ts terminals.Numeral i → Literal ts i (i + 1) x j → Atom ts i x j
    a_constant : {i : ℕ} {w : Word} → IsConstant w → IsWord ts w i → Atom ts i (constant w i) (i + 1)
    bracket : {i k j : ℕ} {x y : Tree} → IsWord ts words.LeftRound i → Term ts 0 (i + 1) x k → Closing ts x k y j → Atom ts i y j

  -- Literal ts m i x j: behind the numeral at m, from i up to j, stands its width, or none
  pub data Literal (ts : List Terminal) : ℕ → ℕ → Tree → ℕ → Type 0 where
    without_width : {m i : ℕ} → IsNot ts (is_word words.Hash) i → Literal ts m i (numeral m) i
    with_width : {m i : ℕ} → IsWord ts words.Hash i → IsAt ts terminals.Numeral (i + 1) → Literal ts m i (literal m (i + 1)) (i + 1 + 1)

  -- Closing ts x i y j: behind the term x in brackets, from i up to j, they are closed, before them maybe a sort
  pub data Closing (ts : List Terminal) : Tree → ℕ → Tree → ℕ → Type 0 where
    plain : {i : ℕ} {x : Tree} → IsWord ts words.RightRound i → Closing ts x i x (i + 1)
    with_sort : {i k : ℕ} {x : Tree} {s : Sort} → IsWord ts words.Colon i → SortAt ts (i + 1) s k → IsWord ts words.RightRound k → Closing ts x i (ascribed i x s) (k + 1)
