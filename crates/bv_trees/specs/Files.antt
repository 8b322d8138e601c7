-- Files: what their goals are.
use Rattle.std.specs.Prelude.{ℕ, ◌+◌, List, [], ◌∷◌, length, Option, Some, None}
use Rattle.bv_grammar.specs.declared.words.Word.TheVariants as words
use Rattle.bv_grammar.specs.declared.words.Terminal.{Terminal}
use Rattle.bv_grammar.specs.declared.words.Terminal.TheVariants as terminals
use Rattle.bv_grammar.specs.Grammar.{is_word, begins_item, begins_part, begins_binder, begins_name}
use Rattle.bv_trees.specs.declared.pieces.Sort.{Sort}
use Rattle.bv_trees.specs.Trees.{Tree, Binder, variables, hypothesis, Goal}
use Rattle.bv_trees.specs.Terms.{IsAt, IsWord, IsNot, SortAt, Term}

-- a part of a path stands at i
pub data PartAt (ts : List Terminal) (i : ℕ) : Type 0 where
  a_name : IsAt ts terminals.Name i → PartAt ts i
  a_bool : IsWord ts words.Bool i → PartAt ts i
  a_bitvec : IsWord ts words.BitVec i → PartAt ts i

-- the terminals from i up to j are a path: parts with points between them
mutual
  pub data Path (ts : List Terminal) : ℕ → ℕ → Type 0 where
    path : {i j : ℕ} → PartAt ts i → Dotted ts (i + 1) j → Path ts i j

  pub data Dotted (ts : List Terminal) : ℕ → ℕ → Type 0 where
    no_part : {i : ℕ} → IsNot ts (is_word words.Dot) i → Dotted ts i i
    a_part : {i j : ℕ} → IsWord ts words.Dot i → PartAt ts (i + 1) → Dotted ts (i + 1 + 1) j → Dotted ts i j

-- the terminals from i up to j are paths
pub data Paths (ts : List Terminal) : ℕ → ℕ → Type 0 where
  no_path : {i : ℕ} → IsNot ts begins_part i → Paths ts i i
  a_path : {i k j : ℕ} → Path ts i k → Paths ts k j → Paths ts i j

-- the terminals from i up to j are names, as many as there are
pub data Names (ts : List Terminal) : ℕ → ℕ → Type 0 where
  no_name : {i : ℕ} → IsNot ts begins_name i → Names ts i i
  further_name : {i j : ℕ} → IsAt ts terminals.Name i → Names ts (i + 1) j → Names ts i j

-- Bound ts a b i c j: the terminals from i up to j are what the names from a up to b are bound to: a sort, or a hypothesis,
-- which ignores them
pub data Bound (ts : List Terminal) (a b : ℕ) : ℕ → Binder → ℕ → Type 0 where
  to_sort : {i j : ℕ} {s : Sort} → SortAt ts i s j → Bound ts a b i (variables a b s) j
  to_term : {i j : ℕ} {x : Tree} → Term ts 0 i x j → Bound ts a b i (hypothesis x) j

-- Binders ts i bs j: the terminals from i up to j are the binders bs, as many as there are
pub data Binders (ts : List Terminal) : ℕ → List Binder → ℕ → Type 0 where
  no_binder : {i : ℕ} → IsNot ts begins_binder i → Binders ts i [] i
  round : {i k l j : ℕ} {b : Binder} {bs : List Binder} → IsWord ts words.LeftRound i → IsAt ts terminals.Name (i + 1) → Names ts (i + 1 + 1) k → IsWord ts words.Colon k → Bound ts (i + 1) k (k + 1) b l
      → IsWord ts words.RightRound l → Binders ts (l + 1) bs j → Binders ts i (b ∷ bs) j
  brace : {i k l j : ℕ} {s : Sort} {bs : List Binder} → IsWord ts words.LeftBrace i → IsAt ts terminals.Name (i + 1) → Names ts (i + 1 + 1) k → IsWord ts words.Colon k → SortAt ts (k + 1) s l
      → IsWord ts words.RightBrace l → Binders ts (l + 1) bs j → Binders ts i (variables (i + 1) k s ∷ bs) j

-- what may stand behind `by`
mutual
  pub data Intros (ts : List Terminal) : ℕ → ℕ → Type 0 where
    no_intros : {i : ℕ} → IsNot ts (is_word words.Intros) i → Intros ts i i
    intros : {i j : ℕ} → IsWord ts words.Intros i → Separator ts (i + 1) j → Intros ts i j

  pub data Separator (ts : List Terminal) : ℕ → ℕ → Type 0 where
    no_separator : {i : ℕ} → IsNot ts (is_word words.Semicolon) i → Separator ts i i
    a_separator : {i : ℕ} → IsWord ts words.Semicolon i → Separator ts i (i + 1)

-- Tactic ts i s j: the terminals from i up to j are a tactic, s being the string of the certificate's file
pub data Tactic (ts : List Terminal) : ℕ → Option ℕ → ℕ → Type 0 where
  decided : {i : ℕ} → IsWord ts words.Decide i → Tactic ts i None (i + 1)
  checked : {i : ℕ} → IsWord ts words.Check i → IsAt ts terminals.Text (i + 1) → Tactic ts i (Some (i + 1)) (i + 1 + 1)

-- Proof ts i s j: the terminals from i up to j are a proof
pub data Proof (ts : List Terminal) : ℕ → Option ℕ → ℕ → Type 0 where
  by_tactic : {i k j : ℕ} {s : Option ℕ} → IsWord ts words.By i → Intros ts (i + 1) k → Tactic ts k s j → Proof ts i s j

-- Statement ts h i g j: behind the head h and the name, the terminals from i up to j are the rest of the goal g
pub data Statement (ts : List Terminal) (h : ℕ) : ℕ → Goal → ℕ → Type 0 where
  statement : {i k l j : ℕ} {bs : List Binder} {x : Tree} {s : Option ℕ} → Binders ts i bs k → IsWord ts words.Colon k → Term ts 0 (k + 1) x l → IsWord ts words.Assign l → Proof ts (l + 1) s j
      → Statement ts h i (record { head = h; path = i; binders = bs; conclusion = x; stored = s }) j

-- Items ts i gs j: the terminals from i up to j are items, as many as there are, of which the goals are gs
pub data Items (ts : List Terminal) : ℕ → List Goal → ℕ → Type 0 where
  no_item : {i : ℕ} → IsNot ts begins_item i → Items ts i [] i
  import_ : {i k j : ℕ} {gs : List Goal} → IsWord ts words.Import i → Path ts (i + 1) k → Items ts k gs j → Items ts i gs j
  open_ : {i k l j : ℕ} {gs : List Goal} → IsWord ts words.Open i → Path ts (i + 1) k → Paths ts k l → Items ts l gs j → Items ts i gs j
  theorem_ : {i k l j : ℕ} {g : Goal} {gs : List Goal} → IsWord ts words.Theorem i → Path ts (i + 1) k → Statement ts i k g l → Items ts l gs j → Items ts i (g ∷ gs) j
  example_ : {i l j : ℕ} {g : Goal} {gs : List Goal} → IsWord ts words.Example i → Statement ts i (i + 1) g l → Items ts l gs j → Items ts i (g ∷ gs) j

-- the file's goals are gs
abbrev pub AreGoals : List Terminal → List Goal → Type 0
AreGoals ts gs = Items ts 0 gs (length ts)
