-- Each form of a term in canonical text is read, where its parts are.
use Rattle.std.proofs.Common.{◌≡◌, ℕ, ◌+◌, ◌≤◌, max, Bool, true, false, List, [], ◌∷◌, ◌++◌, length, Option, Some, None, refl, sym, ap, ap₂, ◌∙◌, subst, arith, length-append}
use Rattle.std.proofs.Math.Nat.{max-eq_left}
use Rattle.std.specs.Prelude.{map, codes}
use Rattle.bv_grammar.specs.declared.words.Word.{Word}
use Rattle.bv_grammar.specs.declared.words.Word.TheVariants as words
use Rattle.bv_grammar.specs.Grammar.{is_word}
use Rattle.bv_expr.specs.declared.ops.Sort.{Sort}
use Rattle.bv_expr.specs.declared.ops.Sort.TheVariants.{Truth, Vector}
use Rattle.bv_expr.specs.declared.ops.Unary.{Unary}
use Rattle.bv_expr.specs.declared.ops.Binary.{Binary}
use Rattle.bv_expr.specs.Term.{Term, constant, variable, truth, truth_variable, unary, binary, choice, truth_choice, depth}
use Rattle.bv_expr.specs.Sorts.{where_equal, unary_sort, binary_sort, choice_sort, truth_choice_sort}
use Rattle.bv_trees.specs.Trees.{Tree, Trees, numeral, prefix, infix_, method, no_more, and}
use Rattle.bv_trees.specs.Trees as trees
use Rattle.bv_trees.specs.Terms as t
use Rattle.bv_trees.specs.Terms.{IsAt, IsWord, IsNot, Atoms, Atom}
use Rattle.bv_limits.specs.Depths.{depth as tree_depth, depths, added}
use Rattle.bv_typing.specs.declared.item.Item.TheVariants.{Number, Made}
use Rattle.bv_typing.specs.declared.kind.Kind.{Kind}
use Rattle.bv_typing.specs.declared.kind.Kind.TheVariants as kind
use Rattle.bv_typing.specs.Source.{Source}
use Rattle.bv_typing.specs.Methods.{method_of}
use Rattle.bv_typing.specs.declared.kind.Row.TheVariants as row
use Rattle.bv_typing.specs.Rows.{sorted, method_row, choice_row}
use Rattle.bv_typing.specs.Readings.{Env, method_at, kind_of, kinds, width_in, width_for, told_or, either, infix_width, right_width, infix_term, method_term, choice_term, term, items, item_of}
use Rattle.bv_print.specs.Spelling.{Prefix, Infix, Method}
use Rattle.bv_canon.specs.Written.{Written, sign, word, name, left, right, receiver, operation, numbers, chosen}
use Rattle.bv_canon.specs.Reading.{terminals, Stand, IsRead}
use Rattle.bv_canon.proofs.Standing.{terminal_is, text_is, number_is, stand_left, stand_right}
use Rattle.bv_canon.proofs.Ends.{other_word, other_terminal, no_argument, no_dot_at, before_right, in_brackets, prefix_atom, infix_atom, method_atom, last_argument, choice_atom}
use Rattle.bv_canon.proofs.Typed.{kind_is, own_fits, judged_prefix, judged_infix, judged_choice, judged_method, kinds_one, item_made, numerals, numerals_fit, numerals_deep}
use Rattle.bv_canon.proofs.Operators.{word_of, PrefixOf, ShiftOf, NumberedOf, InfixOf, MethodOf}

-- wherever these tokens stand, they are read as this term
abbrev pub Reads : Env → List Written → Term → Sort → Type 0
Reads e part x s = (j : ℕ) → Stand e.source j part → IsRead e j x s (j + length part)

pub up_to : {e : Env} {i j k : ℕ} {x : Term} {s : Sort} → j ≡ k → IsRead e i x s j → IsRead e i x s k
up_to {e} {i} {x = x} {s = s} h r = subst (λ n. IsRead e i x s n) h r

-- what stands before a closing bracket, and the bracket
close_at : (s : Source) (i : ℕ) (u : List Written) → Stand s i (u ++ right ∷ []) → Stand s i u × IsWord (terminals s) words.RightRound (i + length u)
close_at s i u h = (stand_left s i u (right ∷ []) h, terminal_is (stand_right s i u (right ∷ []) h).0)

word_there : (s : Source) (w : Word) {i j : ℕ} → i ≡ j → IsWord (terminals s) w i → IsWord (terminals s) w j
word_there s w h e = subst (λ n. IsWord (terminals s) w n) h e

deep_one : (x : Term) → 1 ≤ depth x
deep_one (constant v) = omega arith
deep_one (variable k w) = omega arith
deep_one (truth b) = omega arith
deep_one (truth_variable k) = omega arith
deep_one (unary op x) = omega arith
deep_one (binary op x y) = omega arith
deep_one (choice c x y) = omega arith
deep_one (truth_choice c x y) = omega arith

none : {A : Type 0} {u v : List A} → u ≡ [] → v ≡ [] → u ++ v ≡ []
none {A} h k = ap₂ (λ (u v : List A). u ++ v) h k

-- ---- an operator before its part

prefix_alone : (e : Env) (op : Unary) (w : List ℕ) (x : Term) (s r : Sort) (part : List Written) (b k : Bool) (i : ℕ) → PrefixOf op w [] → Reads e part x s → unary_sort op s ≡ Some r → depth x + 1 ≤ 1000
    → Stand e.source i (left b ∷ (operation (Prefix w) k part [] ++ right ∷ [])) → IsRead e i (unary op x) r (i + length (left b ∷ (operation (Prefix w) k part [] ++ right ∷ [])))
prefix_alone e op w x s r part b k i f reads sorts deep h =
    let c = close_at e.source (i + 1 + 1) (part ++ []) h.1.1 in
    let q = reads (i + 1 + 1) (stand_left e.source (i + 1 + 1) part [] c.0) in
    let close = word_there e.source words.RightRound (omega (arith, length-append part [])) c.1 in
    let d : tree_depth q.tree + 1 ≡ depth x + 1 = ap (λ n. n + 1) q.deep in
    let j = judged_prefix e (word_of w) (i + 1) q.tree (kind.Sorted s) (kind.Sorted r) q.typed (omega arith) (f.gives s r sorts) in
    up_to (omega (arith, length-append part [], length-append (part ++ []) (right ∷ []))) (record {
      tree = prefix (word_of w) (i + 1) q.tree;
      derived = prefix_atom (terminal_is h.0) (terminal_is h.1.0) f.has_level q.derived close;
      typed = kind_is e (prefix (word_of w) (i + 1) q.tree) (kind.Sorted r) j;
      fit = none q.fit (own_fits (i + 1) _ (kind.Sorted r) j);
      is = λ v. ap₂ unary f.makes (q.is v);
      deep = d;
    })

pub prefix_read : (e : Env) (op : Unary) (w ns : List ℕ) (x : Term) (s r : Sort) (part : List Written) (b k : Bool) (i : ℕ) → PrefixOf op w ns → Reads e part x s → unary_sort op s ≡ Some r → depth x + 1 ≤ 1000
    → Stand e.source i (left b ∷ (operation (Prefix w) k part (numbers ns) ++ right ∷ [])) → IsRead e i (unary op x) r (i + length (left b ∷ (operation (Prefix w) k part (numbers ns) ++ right ∷ [])))
prefix_read e op w (n ∷ ns) x s r part b k i f reads sorts deep h = let no = f.alone in cc
prefix_read e op w [] x s r part b k i f reads sorts deep h = prefix_alone e op w x s r part b k i f reads sorts deep h

-- ---- an operator between its part and a number

shift_alone : (e : Env) (op : Unary) (w : List ℕ) (n : ℕ) (x : Term) (s r : Sort) (part : List Written) (b k : Bool) (i : ℕ) → ShiftOf op w (n ∷ []) → Reads e part x s → unary_sort op s ≡ Some r → depth x + 1 ≤ 1000
    → Stand e.source i (left b ∷ (operation (Infix w) k part (numbers (n ∷ [])) ++ right ∷ [])) → IsRead e i (unary op x) r (i + length (left b ∷ (operation (Infix w) k part (numbers (n ∷ [])) ++ right ∷ [])))
shift_alone e op w n x s r part b k i f reads sorts deep h =
    let behind = sign true w ∷ (numbers (n ∷ [])) in
    let c = close_at e.source (i + 1) (part ++ behind) h.1 in
    let q = reads (i + 1) (stand_left e.source (i + 1) part behind c.0) in
    let g = stand_right e.source (i + 1) part behind c.0 in
    let at = i + 1 + length part in
    let close = word_there e.source words.RightRound {j = at + 1 + 1} (omega (arith, length-append part behind)) c.1 in
    let same : n ≡ f.amount = cc in
    let amount : kind_of e (numeral (at + 1)) ≡ Some (kind.Number f.amount) = ap (λ m. Some (kind.Number m)) ((number_is g.1.0) ∙ same) in
    let one : max (depth x) 1 ≡ depth x = max-eq_left (deep_one x) in
    let d : max (tree_depth q.tree) 1 + added (word_of w) ≡ depth x + 1 = ap₂ (λ m a. max m 1 + a) q.deep f.adds ∙ ap (λ m. m + 1) one in
    let j = judged_infix e (word_of w) at q.tree (numeral (at + 1)) (kind.Sorted s) (kind.Number f.amount) (kind.Sorted r) q.typed amount (omega arith) (f.gives s r sorts) in
    let number = t.number (terminal_is g.1.0) (t.without_width (other_word (terminals e.source) (at + 1 + 1) words.Hash close (λ h. (cc)))) in
    up_to (omega (arith, length-append part behind, length-append (part ++ behind) (right ∷ []))) (record {
      tree = infix_ (word_of w) at q.tree (numeral (at + 1));
      derived = infix_atom f.fixity (terminal_is h.0) q.derived (terminal_is g.0) f.fits number close;
      typed = kind_is e (infix_ (word_of w) at q.tree (numeral (at + 1))) (kind.Sorted r) j;
      fit = none q.fit (own_fits at _ (kind.Sorted r) j);
      is = λ v. ap₂ (λ k l. infix_term (word_of w) k l (term e (told_or v (infix_width (word_of w) (kind_of e q.tree) (kind_of e (numeral (at + 1))))) q.tree) (term e (right_width (word_of w) (told_or v (infix_width (word_of w) (kind_of e q.tree) (kind_of e (numeral (at + 1)))))) (numeral (at + 1)))) q.typed amount
          ∙ f.makes s _ _ ∙ ap (unary op) (q.is _);
      deep = d;
    })

pub shift_read : (e : Env) (op : Unary) (w ns : List ℕ) (x : Term) (s r : Sort) (part : List Written) (b k : Bool) (i : ℕ) → ShiftOf op w ns → Reads e part x s → unary_sort op s ≡ Some r → depth x + 1 ≤ 1000
    → Stand e.source i (left b ∷ (operation (Infix w) k part (numbers ns) ++ right ∷ [])) → IsRead e i (unary op x) r (i + length (left b ∷ (operation (Infix w) k part (numbers ns) ++ right ∷ [])))
shift_read e op w [] x s r part b k i f reads sorts deep h = let no = f.one in cc
shift_read e op w (n ∷ (m ∷ ns)) x s r part b k i f reads sorts deep h = let no = f.one in cc
shift_read e op w (n ∷ []) x s r part b k i f reads sorts deep h = shift_alone e op w n x s r part b k i f reads sorts deep h

-- ---- methods

-- a constant that a method is called of stands in brackets
pub receiver_read : (e : Env) (k : Bool) (part : List Written) (x : Term) (s : Sort) → Reads e part x s → Reads e (receiver k part) x s
receiver_read e false part x s reads j h = reads j h
receiver_read e true part x s reads j h =
    let c = close_at e.source (j + 1) part h.1 in
    let q = reads (j + 1) c.0 in
    up_to (omega (arith, length-append part (right ∷ []))) (record { tree = q.tree; derived = in_brackets (terminal_is h.0) (before_right q.derived c.1) c.1; typed = q.typed; fit = q.fit; is = q.is; deep = q.deep })

-- numbers go on with no other word, and neither does the bracket behind them
first_number : (s : Source) (ns : List ℕ) (j : ℕ) (v : Word) → (words.RightRound ≡ v → ⊥) → Stand s j (numbers ns) → IsWord (terminals s) words.RightRound (j + length (numbers ns)) → IsNot (terminals s) (is_word v) j
first_number s [] j v n h close = other_word (terminals s) j v (word_there s words.RightRound {j = j} (omega arith) close) n
first_number s (m ∷ ns) j v n h close = other_terminal (terminals s) j v (terminal_is h.0) (λ h. (cc))

numbers_atoms : (s : Source) (ns : List ℕ) (j : ℕ) → Stand s j (numbers ns) → IsWord (terminals s) words.RightRound (j + length (numbers ns)) → Atoms (terminals s) j (numerals j ns) (j + length (numbers ns))
numbers_atoms s [] j h close = subst (λ n. Atoms (terminals s) j no_more n) (omega arith) (t.no_atom (no_argument (terminals s) j (word_there s words.RightRound {j = j} (omega arith) close)))
numbers_atoms s (m ∷ ns) j h close =
    let close' = word_there s words.RightRound {j = j + 1 + length (numbers ns)} (omega arith) close in
    subst (λ n. Atoms (terminals s) j (numerals j (m ∷ ns)) n) (omega arith)
    (t.an_atom (t.number (terminal_is h.0) (t.without_width (first_number s ns (j + 1) words.Hash (λ h. (cc)) h.1 close'))) (t.no_dot (first_number s ns (j + 1) words.Dot (λ h. (cc)) h.1 close')) (numbers_atoms s ns (j + 1) h.1 close'))

numbers_kinds : (e : Env) (ns : List ℕ) (j : ℕ) → Stand e.source j (numbers ns) → kinds e (numerals j ns) ≡ Some (map kind.Number ns)
numbers_kinds e [] j h = refl
numbers_kinds e (m ∷ ns) j h = ap₂ (λ n q. and_kinds n q) (number_is h.0) (numbers_kinds e ns (j + 1) h.1)
  where
    and_kinds : ℕ → Option (List Kind) → Option (List Kind)
    and_kinds n None = None
    and_kinds n (Some ks) = Some (kind.Number n ∷ ks)

numbers_items : (e : Env) (ns : List ℕ) (j : ℕ) → Stand e.source j (numbers ns) → items e 0 (numerals j ns) ≡ map Number ns
numbers_items e [] j h = refl
numbers_items e (m ∷ ns) j h = ap₂ (λ n is. Number n ∷ is) (number_is h.0) (numbers_items e ns (j + 1) h.1)

pub numbered_read : (e : Env) (op : Unary) (w ns : List ℕ) (x : Term) (s r : Sort) (part : List Written) (b k : Bool) (i : ℕ) → NumberedOf op w ns → Reads e part x s → unary_sort op s ≡ Some r → depth x + 1 ≤ 1000
    → Stand e.source i (left b ∷ (operation (Method w) k part (numbers ns) ++ right ∷ [])) → IsRead e i (unary op x) r (i + length (left b ∷ (operation (Method w) k part (numbers ns) ++ right ∷ [])))
numbered_read e op w ns x s r part b k i f reads sorts deep h =
    let front = receiver k part in
    let behind = sign false (codes ".") ∷ name false w ∷ numbers ns in
    let c = close_at e.source (i + 1) (front ++ behind) h.1 in
    let q = receiver_read e k part x s reads (i + 1) (stand_left e.source (i + 1) front behind c.0) in
    let g = stand_right e.source (i + 1) front behind c.0 in
    let at = i + 1 + length front in
    let close = word_there e.source words.RightRound {j = at + 1 + 1 + length (numbers ns)} (omega (arith, length-append front behind)) c.1 in
    let xs = numerals (at + 1 + 1) ns in
    let called : method_at e (at + 1) ≡ method_of w = ap method_of (text_is g.1.0) in
    let few : depths xs ≤ tree_depth q.tree = (let p = numerals_deep (at + 1 + 1) ns in let u = deep_one x in let v = q.deep in omega arith) in
    let d : max (tree_depth q.tree) (depths xs) + 1 ≡ depth x + 1 = ap (λ m. m + 1) (max-eq_left few ∙ q.deep) in
    let j = judged_method e (at + 1) q.tree xs (kind.Sorted s) (kind.Sorted r) (map kind.Number ns) q.typed (numbers_kinds e ns (at + 1 + 1) g.1.1) (omega arith) (ap (λ m. method_row m (kind.Sorted s) (map kind.Number ns)) called ∙ f.gives s r sorts) in
    up_to (omega (arith, length-append front behind, length-append (front ++ behind) (right ∷ []))) (record {
      tree = method (at + 1) q.tree xs;
      derived = method_atom (terminal_is h.0) q.derived (terminal_is g.0) (terminal_is g.1.0) (first_number e.source ns (at + 1 + 1) words.Dot (λ h. (cc)) g.1.1 close) (numbers_atoms e.source ns (at + 1 + 1) g.1.1 close) close;
      typed = kind_is e (method (at + 1) q.tree xs) (kind.Sorted r) j;
      fit = none q.fit (none (numerals_fit e (at + 1 + 1) ns) (own_fits (at + 1) _ (kind.Sorted r) j));
      is = λ v. ap (λ m. method_term m (term e v q.tree) (items e (told_or v (width_for m (kind_of e q.tree))) xs)) called
          ∙ ap (λ u. method_term (method_of w) (term e v q.tree) (items e (told_or v u) xs)) (f.width (kind_of e q.tree))
          ∙ ap₂ (λ y is. method_term (method_of w) y is) (q.is v) (numbers_items e ns (at + 1 + 1) g.1.1) ∙ f.makes x;
      deep = d;
    })

-- ---- operators on two parts

pub infix_read : (e : Env) (op : Binary) (w : List ℕ) (x y : Term) (s u r : Sort) (part others : List Written) (b k : Bool) (i : ℕ) → InfixOf op w → Reads e part x s → Reads e others y u → binary_sort op s u ≡ Some r
    → max (depth x) (depth y) + 1 ≤ 1000 → Stand e.source i (left b ∷ (operation (Infix w) k part others ++ right ∷ [])) → IsRead e i (binary op x y) r (i + length (left b ∷ (operation (Infix w) k part others ++ right ∷ [])))
infix_read e op w x y s u r part others b k i f reads also sorts deep h =
    let behind = sign true w ∷ others in
    let c = close_at e.source (i + 1) (part ++ behind) h.1 in
    let q = reads (i + 1) (stand_left e.source (i + 1) part behind c.0) in
    let g = stand_right e.source (i + 1) part behind c.0 in
    let at = i + 1 + length part in
    let p = also (at + 1) g.1 in
    let close = word_there e.source words.RightRound {j = at + 1 + length others} (omega (arith, length-append part behind)) c.1 in
    let d : max (tree_depth q.tree) (tree_depth p.tree) + added (word_of w) ≡ max (depth x) (depth y) + 1 = ap₂ (λ m a. m + a) (ap₂ max q.deep p.deep) f.adds in
    let j = judged_infix e (word_of w) at q.tree p.tree (kind.Sorted s) (kind.Sorted u) (kind.Sorted r) q.typed p.typed (omega arith) (f.gives s u r sorts) in
    up_to (omega (arith, length-append part behind, length-append (part ++ behind) (right ∷ []))) (record {
      tree = infix_ (word_of w) at q.tree p.tree;
      derived = infix_atom f.fixity (terminal_is h.0) q.derived (terminal_is g.0) f.fits p.derived close;
      typed = kind_is e (infix_ (word_of w) at q.tree p.tree) (kind.Sorted r) j;
      fit = none q.fit (none p.fit (own_fits at _ (kind.Sorted r) j));
      is = λ v. ap₂ (λ a z. infix_term (word_of w) (kind_of e q.tree) (kind_of e p.tree) a z) (q.is _) (p.is _)
          ∙ ap₂ (λ k l. infix_term (word_of w) k l x y) q.typed p.typed ∙ f.makes s u r x y sorts;
      deep = d;
    })

pub method_read : (e : Env) (op : Binary) (w : List ℕ) (x y : Term) (s u r : Sort) (part others : List Written) (b k : Bool) (i : ℕ) → MethodOf op w → Reads e part x s → Reads e others y u → binary_sort op s u ≡ Some r
    → max (depth x) (depth y) + 1 ≤ 1000 → Stand e.source i (left b ∷ (operation (Method w) k part others ++ right ∷ [])) → IsRead e i (binary op x y) r (i + length (left b ∷ (operation (Method w) k part others ++ right ∷ [])))
method_read e op w x y s u r part others b k i f reads also sorts deep h =
    let front = receiver k part in
    let behind = sign false (codes ".") ∷ name false w ∷ others in
    let c = close_at e.source (i + 1) (front ++ behind) h.1 in
    let q = receiver_read e k part x s reads (i + 1) (stand_left e.source (i + 1) front behind c.0) in
    let g = stand_right e.source (i + 1) front behind c.0 in
    let at = i + 1 + length front in
    let p = also (at + 1 + 1) g.1.1 in
    let close = word_there e.source words.RightRound {j = at + 1 + 1 + length others} (omega (arith, length-append front behind)) c.1 in
    let called : method_at e (at + 1) ≡ method_of w = ap method_of (text_is g.1.0) in
    let d : max (tree_depth q.tree) (max (tree_depth p.tree) 0) + 1 ≡ max (depth x) (depth y) + 1 = ap (λ m. m + 1) (ap₂ max q.deep (max-eq_left (omega arith) ∙ p.deep)) in
    let j = judged_method e (at + 1) q.tree (and p.tree no_more) (kind.Sorted s) (kind.Sorted r) (kind.Sorted u ∷ []) q.typed (kinds_one e p.tree (kind.Sorted u) p.typed) (omega arith)
    (ap (λ m. method_row m (kind.Sorted s) (kind.Sorted u ∷ [])) called ∙ f.gives s u r sorts) in
    up_to (omega (arith, length-append front behind, length-append (front ++ behind) (right ∷ []))) (record {
      tree = method (at + 1) q.tree (and p.tree no_more);
      derived = method_atom (terminal_is h.0) q.derived (terminal_is g.0) (terminal_is g.1.0) (no_dot_at p.derived) (last_argument p.derived close) close;
      typed = kind_is e (method (at + 1) q.tree (and p.tree no_more)) (kind.Sorted r) j;
      fit = none q.fit (none (none p.fit refl) (own_fits (at + 1) _ (kind.Sorted r) j));
      is = λ v. ap₂ (λ m a. method_term m a (item_of e (told_or v (width_for (method_at e (at + 1)) (kind_of e q.tree))) p.tree (term e (told_or v (width_for (method_at e (at + 1)) (kind_of e q.tree))) p.tree) ∷ [])) called (q.is v)
          ∙ ap (λ z. method_term (method_of w) x (z ∷ [])) (item_made e (told_or v (width_for (method_at e (at + 1)) (kind_of e q.tree))) p.tree u _ p.typed ∙ ap Made (p.is _)) ∙ f.makes x y;
      deep = d;
    })

-- ---- choices

-- a choice, told apart by what it makes and by the sorts of its branches
record ChoiceOf (make : Term → Term → Term → Term) (s u r : Sort) : Type 0 where
  gives : choice_row (kind.Sorted Truth) (kind.Sorted s) (kind.Sorted u) ≡ row.Typed (kind.Sorted r)
  makes : (c x y : Term) → choice_term (Some (kind.Sorted s)) c x y ≡ make c x y
  deep : (c x y : Term) → depth (make c x y) ≡ max (depth c) (max (depth x) (depth y)) + 1

chosen_read : (e : Env) (make : Term → Term → Term → Term) (c x y : Term) (s u r : Sort) (test part others : List Written) (b : Bool) (i : ℕ) → ChoiceOf make s u r → Reads e test c Truth → Reads e part x s → Reads e others y u
    → max (depth c) (max (depth x) (depth y)) + 1 ≤ 1000 → Stand e.source i (chosen b test part others) → IsRead e i (make c x y) r (i + length (chosen b test part others))
chosen_read e make c x y s u r test part others b i f reads_test reads also deep h =
    let second = part ++ (word true (codes "else") ∷ (others ++ right ∷ [])) in
    let first = word true (codes "then") ∷ second in
    let o = reads_test (i + 1 + 1) (stand_left e.source (i + 1 + 1) test first h.1.1) in
    let g = stand_right e.source (i + 1 + 1) test first h.1.1 in
    let m = i + 1 + 1 + length test in
    let q = reads (m + 1) (stand_left e.source (m + 1) part (word true (codes "else") ∷ (others ++ right ∷ [])) g.1) in
    let l = stand_right e.source (m + 1) part (word true (codes "else") ∷ (others ++ right ∷ [])) g.1 in
    let n = m + 1 + length part in
    let a = close_at e.source (n + 1) others l.1 in
    let p = also (n + 1) a.0 in
    let d : max (tree_depth o.tree) (max (tree_depth q.tree) (tree_depth p.tree)) + 1 ≡ max (depth c) (max (depth x) (depth y)) + 1 = ap (λ z. z + 1) (ap₂ max o.deep (ap₂ max q.deep p.deep)) in
    let j = judged_choice e (i + 1) o.tree q.tree p.tree (kind.Sorted Truth) (kind.Sorted s) (kind.Sorted u) (kind.Sorted r) o.typed q.typed p.typed (omega arith) f.gives in
    up_to (omega (arith, length-append test first, length-append part (word true (codes "else") ∷ (others ++ right ∷ [])), length-append others (right ∷ []))) (record {
      tree = trees.choice (i + 1) o.tree q.tree p.tree;
      derived = choice_atom (terminal_is h.0) (terminal_is h.1.0) o.derived (terminal_is g.0) q.derived (terminal_is l.0) p.derived a.1;
      typed = kind_is e (trees.choice (i + 1) o.tree q.tree p.tree) (kind.Sorted r) j;
      fit = none o.fit (none q.fit (none p.fit (own_fits (i + 1) _ (kind.Sorted r) j)));
      is = λ v. ap₂ (λ k a. choice_term k a (term e (told_or v (either (width_in (kind_of e q.tree)) (width_in (kind_of e p.tree)))) q.tree) (term e (told_or v (either (width_in (kind_of e q.tree)) (width_in (kind_of e p.tree)))) p.tree)) q.typed (o.is v)
          ∙ ap₂ (λ a z. choice_term (Some (kind.Sorted s)) c a z) (q.is _) (p.is _) ∙ f.makes c x y;
      deep = d ∙ sym (f.deep c x y);
    })

vector_choice : (v w : ℕ) (r : Sort) → where_equal v w (Vector v) ≡ Some r → ChoiceOf choice (Vector v) (Vector w) r
vector_choice v w r h = record { gives = ap sorted h; makes = λ c x y. refl; deep = λ c x y. refl }

pub choice_read : (e : Env) (c x y : Term) (o s u r : Sort) (test part others : List Written) (b : Bool) (i : ℕ) → Reads e test c o → Reads e part x s → Reads e others y u → choice_sort o s u ≡ Some r
    → max (depth c) (max (depth x) (depth y)) + 1 ≤ 1000 → Stand e.source i (chosen b test part others) → IsRead e i (choice c x y) r (i + length (chosen b test part others))
choice_read e c x y Truth (Vector v) (Vector w) r test part others b i reads_test reads also sorts deep h = chosen_read e choice c x y (Vector v) (Vector w) r test part others b i (vector_choice v w r sorts) reads_test reads also deep h
choice_read e c x y Truth (Vector v) Truth r test part others b i reads_test reads also sorts deep h = cc
choice_read e c x y Truth Truth u r test part others b i reads_test reads also sorts deep h = cc
choice_read e c x y (Vector w) s u r test part others b i reads_test reads also sorts deep h = cc

truths_choice : (r : Sort) → truth_choice_sort Truth Truth Truth ≡ Some r → ChoiceOf truth_choice Truth Truth r
truths_choice r h = record { gives = ap sorted h; makes = λ c x y. refl; deep = λ c x y. refl }

pub truth_choice_read : (e : Env) (c x y : Term) (o s u r : Sort) (test part others : List Written) (b : Bool) (i : ℕ) → Reads e test c o → Reads e part x s → Reads e others y u → truth_choice_sort o s u ≡ Some r
    → max (depth c) (max (depth x) (depth y)) + 1 ≤ 1000 → Stand e.source i (chosen b test part others) → IsRead e i (truth_choice c x y) r (i + length (chosen b test part others))
truth_choice_read e c x y Truth Truth Truth r test part others b i reads_test reads also sorts deep h = chosen_read e truth_choice c x y Truth Truth r test part others b i (truths_choice r sorts) reads_test reads also deep h
truth_choice_read e c x y Truth Truth (Vector w) r test part others b i reads_test reads also sorts deep h = cc
truth_choice_read e c x y Truth (Vector w) u r test part others b i reads_test reads also sorts deep h = cc
truth_choice_read e c x y (Vector w) s u r test part others b i reads_test reads also sorts deep h = cc
