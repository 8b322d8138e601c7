-- The operators, methods and `if`s of a term that is complete are complete, each with its own part.
use Rattle.std.proofs.Common.{◌≡◌, ℕ, ◌+◌, List, ◌∷◌, Some, refl, sym, subst}
use Rattle.bv_grammar.specs.declared.words.Word.{Word}
use Rattle.bv_grammar.specs.declared.words.Word.TheVariants as words
use Rattle.bv_grammar.specs.declared.words.Terminal.{Terminal}
use Rattle.bv_grammar.specs.declared.words.Terminal.TheVariants as terminals
use Rattle.bv_grammar.specs.Grammar.{is_word, Symbol, term, tail, call, methods, more_methods, arguments, dots, atom, closing, file}
use Rattle.bv_grammar.specs.Grammar as g
use Rattle.bv_grammar.specs.Derivation.{Derives, here, not_next}
use Rattle.bv_grammar.proofs.Derivations.{follow}
use Rattle.bv_trees.specs.declared.pieces.Sort.{Sort}
use Rattle.bv_trees.specs.Trees as v
use Rattle.bv_trees.specs.Trees.{Tree, Trees}
use Rattle.bv_trees.specs.Terms as t
use Rattle.bv_trees.specs.Terms.{IsAt, IsWord, IsNot, Term, Operand, Tail, Methods, Arguments, Atoms, Dots, Atom, Literal, Closing}
use Rattle.bv_trees.proofs.Derived.{by_term, by_operand, by_atom, by_dots}
use Rattle.bv_trees.proofs.OfTerms.{on, past}
use Rattle.bv_trees.specs.Complete as c
use Rattle.bv_trees.specs.Complete.{SoFar, Called, Complete, IsComplete, Within, WithinAny, operator_of}

-- so are all of a term, and of some
abbrev pub Whole : List Terminal → Tree → Type 0
Whole ts x = (y : Tree) (at : ℕ) → Within y x → operator_of y ≡ Some at → IsComplete ts y at

abbrev pub AllWhole : List Terminal → Trees → Type 0
AllWhole ts xs = (y : Tree) (at : ℕ) → WithinAny y xs → operator_of y ≡ Some at → IsComplete ts y at

same_place : {m n : ℕ} → Some m ≡ Some n → m ≡ n
same_place e = cc

moved : {ts : List Terminal} {y : Tree} {i at : ℕ} → IsComplete ts y i → Some i ≡ Some at → IsComplete ts y at
moved {ts} {y} h e = subst (IsComplete ts y) (same_place e) h

whole_name : {ts : List Terminal} {i : ℕ} → Whole ts (v.name i)
whole_name y at c.itself e = cc

whole_numeral : {ts : List Terminal} {i : ℕ} → Whole ts (v.numeral i)
whole_numeral y at c.itself e = cc

pub whole_literal : {ts : List Terminal} {i w : ℕ} → Whole ts (v.literal i w)
whole_literal y at c.itself e = cc

whole_constant : {ts : List Terminal} {w : Word} {i : ℕ} → Whole ts (v.constant w i)
whole_constant y at c.itself e = cc

whole_prefix : {ts : List Terminal} {w : Word} {i : ℕ} {x : Tree} → Whole ts x → IsComplete ts (v.prefix w i x) i → Whole ts (v.prefix w i x)
whole_prefix h k y at c.itself e = moved k e
whole_prefix h k y at (c.operand u) e = h y at u e

whole_infix : {ts : List Terminal} {w : Word} {i : ℕ} {x z : Tree} → Whole ts x → Whole ts z → IsComplete ts (v.infix_ w i x z) i → Whole ts (v.infix_ w i x z)
whole_infix h m k y at c.itself e = moved k e
whole_infix h m k y at (c.left u) e = h y at u e
whole_infix h m k y at (c.right u) e = m y at u e

whole_choice : {ts : List Terminal} {i : ℕ} {x z u : Tree} → Whole ts x → Whole ts z → Whole ts u → IsComplete ts (v.choice i x z u) i → Whole ts (v.choice i x z u)
whole_choice h m n k y at c.itself e = moved k e
whole_choice h m n k y at (c.condition u) e = h y at u e
whole_choice h m n k y at (c.then_part u) e = m y at u e
whole_choice h m n k y at (c.else_part u) e = n y at u e

pub whole_method : {ts : List Terminal} {i : ℕ} {x : Tree} {xs : Trees} → Whole ts x → AllWhole ts xs → IsComplete ts (v.method i x xs) i → Whole ts (v.method i x xs)
whole_method h m k y at c.itself e = moved k e
whole_method h m k y at (c.receiver u) e = h y at u e
whole_method h m k y at (c.argument u) e = m y at u e

pub whole_ascribed : {ts : List Terminal} {i : ℕ} {x : Tree} {s : Sort} → Whole ts x → Whole ts (v.ascribed i x s)
whole_ascribed h y at c.itself e = cc
whole_ascribed h y at (c.in_brackets u) e = h y at u e

pub whole_none : {ts : List Terminal} → AllWhole ts v.no_more
whole_none y at u e = elim u [ ]

whole_and : {ts : List Terminal} {x : Tree} {xs : Trees} → Whole ts x → AllWhole ts xs → AllWhole ts (v.and x xs)
whole_and h m y at (c.first u) e = h y at u e
whole_and h m y at (c.further u) e = m y at u e

-- what is open behind what is read so far
pub so_far_leads : {ts : List Terminal} {p i l j : ℕ} {x : Tree} {b : List Symbol} → SoFar ts p i l x j → Derives ts file 0 (term p ∷ b) i → Derives ts file 0 (tail p l ∷ b) j
so_far_leads (c.first o) r = follow r (by_operand o here)
so_far_leads (c.onward o s e q u) r = follow (past (on (so_far_leads s r) (g.infix_ o q)) e) (by_term u here)

pub called_leads : {ts : List Terminal} {p i m : ℕ} {x : Tree} {b : List Symbol} → Called ts i x m → Derives ts file 0 (term p ∷ b) i → Derives ts file 0 (more_methods ∷ tail p 1024 ∷ b) (m + 1)
called_leads (c.first a e n) r = past (past (on (follow (on (on r g.a_call) g.a_receiver) (by_atom a here)) g.a_method) e) n
called_leads (c.further h e n) r = past (past (on (called_leads h r) g.further_method) e) n

pub argument_leads : {ts : List Terminal} {i m : ℕ} {x : Tree} {b : List Symbol} → Called ts i x m → Derives ts file 0 (arguments ∷ b) i → Derives ts file 0 (dots ∷ arguments ∷ b) (m + 1)
argument_leads (c.first a e n) r = past (past (on (follow (on r g.an_argument) (by_atom a here)) g.a_dot) e) n
argument_leads (c.further h e n) r = past (past (on (argument_leads h r) g.a_dot) e) n

-- a method of a call with its arguments is an operand
pub called_operand : {ts : List Terminal} {i m j : ℕ} {x y : Tree} → Called ts i x m → Arguments ts x m (m + 1) y j → Operand ts i 1024 y j
called_operand (c.first a e n) u = t.called a (t.a_method e n u)
called_operand (c.further h e n) u = called_operand h (t.further e n u)

mutual
  pub in_term : {ts : List Terminal} {p i j : ℕ} {x : Tree} {b : List Symbol} → Term ts p i x j → Derives ts file 0 (term p ∷ b) i → Whole ts x
  in_term (t.term o u) r = in_tail u r (c.first o) (in_operand o r)

  in_operand : {ts : List Terminal} {p l i j : ℕ} {x : Tree} {b : List Symbol} → Operand ts i l x j → Derives ts file 0 (term p ∷ b) i → Whole ts x
  in_operand (t.prefixed e q u) r = whole_prefix (in_term u (past (on r (g.prefix q)) e)) (_, c.of_prefix r (t.prefixed e q u))
  in_operand (t.chosen e x th y el z) r =
      let r1 = past (on r g.choice) e in
      let r2 = past (follow r1 (by_term x here)) th in
      let r3 = past (follow r2 (by_term y here)) el in
      whole_choice (in_term x r1) (in_term y r2) (in_term z r3) (_, c.of_if r (t.chosen e x th y el z))
  in_operand (t.called a m) r =
      let r1 = on r g.a_call in
      let r2 = on r1 g.a_receiver in
      in_methods m r a (in_atom a r2) (follow r2 (by_atom a here))

  in_tail : {ts : List Terminal} {p l i k j : ℕ} {x y : Tree} {b : List Symbol} → Tail ts p l x k y j → Derives ts file 0 (term p ∷ b) i → SoFar ts p i l x k → Whole ts x → Whole ts y
  in_tail (t.stop e) r s h = h
  in_tail (t.more o e q u w) r s h =
      let s1 = c.onward o s e q u in
      let r1 = past (on (so_far_leads s r) (g.infix_ o q)) e in
      in_tail w r s1 (whole_infix h (in_term u r1) (_, c.of_infix r s1))

  in_methods : {ts : List Terminal} {p i k j : ℕ} {x y : Tree} {b a : List Symbol} → Methods ts x k y j → Derives ts file 0 (term p ∷ b) i → Atom ts i x k → Whole ts x → Derives ts file 0 (methods ∷ a) k → Whole ts y
  in_methods (t.no_method e) r a h n = h
  in_methods (t.a_method e m u) r a h n = in_arguments u refl r (c.first a e m) h (past (past (on n g.a_method) e) m)

  in_arguments : {ts : List Terminal} {p i m k j : ℕ} {x y : Tree} {b a : List Symbol} → Arguments ts x m k y j → m + 1 ≡ k → Derives ts file 0 (term p ∷ b) i → Called ts i x m → Whole ts x → Derives ts file 0 (more_methods ∷ a) k → Whole ts y
  in_arguments {ts} {i = i} {m = m} {x = x} (t.further e n u) q r k h s =
      let dot = subst (IsWord ts words.Dot) (sym q) e in
      let called = subst (λ w. IsAt ts terminals.Name (w + 1) → Called ts i (v.method m x v.no_more) (w + 1)) q (λ a. c.further k dot a) n in
      in_arguments u refl r called (whole_method h whole_none (_, c.of_further r k dot)) (past (past (on s g.further_method) e) n)
  in_arguments {ts} {j = j} (t.with_all {xs = xs} e u) q r k h s =
      let r1 = follow (on s g.then_arguments) (not_next e here) in
      whole_method h (in_atoms u r1) (_, c.of_method r k (subst (IsNot ts (is_word words.Dot)) (sym q) e) (subst (λ w. Atoms ts w xs j) (sym q) u))

  in_atoms : {ts : List Terminal} {i j : ℕ} {xs : Trees} {b : List Symbol} → Atoms ts i xs j → Derives ts file 0 (arguments ∷ b) i → AllWhole ts xs
  in_atoms (t.no_atom e) r = whole_none
  in_atoms (t.an_atom a m u) r =
      let r1 = on r g.an_argument in
      let r2 = follow r1 (by_atom a here) in
      whole_and (in_dots m r (λ e n. c.first a e n) (in_atom a r1)) (in_atoms u (follow r2 (by_dots m here)))

  in_dots : {ts : List Terminal} {i k j : ℕ} {x y : Tree} {b : List Symbol} → Dots ts x k y j → Derives ts file 0 (arguments ∷ b) i → (IsWord ts words.Dot k → IsAt ts terminals.Name (k + 1) → Called ts i x (k + 1)) → Whole ts x → Whole ts y
  in_dots (t.no_dot e) r f h = h
  in_dots (t.a_dot e n u) r f h = let k = f e n in in_dots u r (λ e' n'. c.further k e' n') (whole_method h whole_none (_, c.of_argument r k))

  pub in_atom : {ts : List Terminal} {i j : ℕ} {x : Tree} {b : List Symbol} → Atom ts i x j → Derives ts file 0 (atom ∷ b) i → Whole ts x
  in_atom (t.named e) r = whole_name
  in_atom (t.number e l) r = in_literal l
  in_atom (t.a_constant k e) r = whole_constant
  in_atom (t.bracket e u k) r = in_closing k (in_term u (past (on r g.in_brackets) e))

  pub in_literal : {ts : List Terminal} {m i j : ℕ} {x : Tree} → Literal ts m i x j → Whole ts x
  in_literal (t.without_width e) = whole_numeral
  in_literal (t.with_width e n) = whole_literal

  in_closing : {ts : List Terminal} {i j : ℕ} {x y : Tree} → Closing ts x i y j → Whole ts x → Whole ts y
  in_closing (t.plain e) h = h
  in_closing (t.with_sort e s k) h = whole_ascribed h

pub in_so_far : {ts : List Terminal} {p i l j : ℕ} {x : Tree} {b : List Symbol} → SoFar ts p i l x j → Derives ts file 0 (term p ∷ b) i → Whole ts x
in_so_far (c.first o) r = in_operand o r
in_so_far (c.onward o s e q u) r = whole_infix (in_so_far s r) (in_term u (past (on (so_far_leads s r) (g.infix_ o q)) e)) (_, c.of_infix r (c.onward o s e q u))

pub in_called : {ts : List Terminal} {p i m : ℕ} {x : Tree} {b : List Symbol} → Called ts i x m → Derives ts file 0 (term p ∷ b) i → Whole ts x
in_called (c.first a e n) r = in_atom a (on (on r g.a_call) g.a_receiver)
in_called (c.further h e n) r = whole_method (in_called h r) whole_none (_, c.of_further r h e)

pub in_argument : {ts : List Terminal} {i m : ℕ} {x : Tree} {b : List Symbol} → Called ts i x m → Derives ts file 0 (arguments ∷ b) i → Whole ts x
in_argument (c.first a e n) r = in_atom a (on r g.an_argument)
in_argument (c.further h e n) r = whole_method (in_argument h r) whole_none (_, c.of_argument r h)
