-- The tokens of a term are read as that term.
use Rattle.std.proofs.Common.{◌≡◌, ℕ, ◌+◌, ◌≤◌, max, Bool, true, false, List, [], ◌∷◌, ◌++◌, length, Option, Some, None, refl, sym, ap, ap₂, ◌∙◌, subst, arith}
use Rattle.std.proofs.Math.Nat.{mod-eq_of_lt, le-max_left, le-max_right}
use Rattle.std.proofs.lemmas.List.Elements.{All-nil, All-cons, All-head, All-tail}
use Rattle.std.specs.Prelude.{All, ◌&&◌, nat_le, if◌then◌else◌, option_and_then}
use Rattle.bv_value.specs.BitVector.{BitVector, IsBitVector, of_number}
use Rattle.bv_grammar.specs.declared.words.Word.TheVariants as words
use Rattle.bv_grammar.specs.Grammar.{is_true, is_false}
use Rattle.bv_expr.specs.declared.ops.Sort.{Sort}
use Rattle.bv_expr.specs.declared.ops.Sort.TheVariants.{Truth, Vector}
use Rattle.bv_expr.specs.declared.ops.Unary.{Unary}
use Rattle.bv_expr.specs.declared.ops.Binary.{Binary}
use Rattle.bv_expr.specs.Goal.{Binders, variables}
use Rattle.bv_expr.specs.Term.{Term, constant, variable, truth, truth_variable, unary, binary, choice, truth_choice, depth}
use Rattle.bv_expr.specs.Sorts.{vectors, unary_sort, binary_sort, choice_sort, truth_choice_sort, sort_of, LeavesFit}
use Rattle.bv_trees.specs.Trees as trees
use Rattle.bv_trees.specs.Terms as t
use Rattle.bv_typing.specs.declared.kind.Kind.TheVariants as kind
use Rattle.bv_typing.specs.declared.kind.Row.TheVariants as row
use Rattle.bv_typing.specs.Rows.{sorted}
use Rattle.bv_typing.specs.Variables.{Bound, variable_of}
use Rattle.bv_typing.specs.Readings.{Env, variable_at, name_row, variable_term, judged}
use Rattle.bv_print.specs.Spelling.{Form, Prefix, Infix, Method, unary_form, binary_form, kept_numbers}
use Rattle.bv_print.specs.Canonical.{is_constant, name_at}
use Rattle.bv_canon.specs.Written.{Written, left, right, operation, numbers, term_tokens}
use Rattle.bv_canon.specs.Reading.{terminals, Stand, AreNamed, IsRead}
use Rattle.bv_canon.proofs.Standing.{terminal_is, text_is, number_is}
use Rattle.bv_canon.proofs.Typed.{kind_is, own_fits}
use Rattle.bv_canon.proofs.Operators.{UnaryOf, BinaryOf, unary_of, binary_of}
use Rattle.bv_canon.proofs.Forms.{Reads, up_to, prefix_read, shift_read, numbered_read, infix_read, method_read, choice_read, truth_choice_read}

-- ---- parts

pub and_then_parts : {A B : Type 0} (f : A → Option B) (o : Option A) (b : B) → option_and_then f o ≡ Some b → (a : A) × (o ≡ Some a) × (f a ≡ Some b)
and_then_parts f None b h = cc
and_then_parts f (Some a) b h = (a, refl, h)

pub all_left : {A : Type 0} (P : A → Type 0) (xs ys : List A) → All P (xs ++ ys) → All P xs
all_left P [] ys h = All-nil P
all_left P (x ∷ xs) ys h = All-cons P x xs (All-head P x (xs ++ ys) h) (all_left P xs ys (All-tail P x (xs ++ ys) h))

pub all_right : {A : Type 0} (P : A → Type 0) (xs ys : List A) → All P (xs ++ ys) → All P ys
all_right P [] ys h = h
all_right P (x ∷ xs) ys h = all_right P xs ys (All-tail P x (xs ++ ys) h)

-- ---- leaves

-- a vector is that of its number
same_vector : (v : BitVector) → IsBitVector v → of_number v.width v.number ≡ v
same_vector v h = ap (λ n. record { width = v.width; number = n }) (mod-eq_of_lt h.below)

constant_read : (e : Env) (b : Bool) (binders : Binders) (v : BitVector) (s : Sort) (i : ℕ) → IsBitVector v → vectors v.width ≡ Some s → Stand e.source i (term_tokens b binders (constant v))
    → IsRead e i (constant v) s (i + length (term_tokens b binders (constant v)))
constant_read e b binders v s i fits sorts h =
    let j : judged e (trees.literal i (i + 1 + 1)) ≡ Some (row.Typed (kind.Sorted s)) = ap (λ w. Some (sorted (vectors w))) (number_is h.1.1.0) ∙ ap (λ o. Some (sorted o)) sorts in
    up_to {j = i + 1 + 1 + 1} (omega arith) (record {
      tree = trees.literal i (i + 1 + 1);
      derived = t.number (terminal_is h.0) (t.with_width (terminal_is h.1.0) (terminal_is h.1.1.0));
      typed = kind_is e (trees.literal i (i + 1 + 1)) (kind.Sorted s) j;
      fit = own_fits i _ (kind.Sorted s) j;
      is = λ w. ap₂ (λ m n. constant (of_number m n)) (number_is h.1.1.0) (number_is h.0) ∙ ap constant (same_vector v fits);
      deep = refl;
    })

-- a name that names a variable of this sort
name_read : (e : Env) (binders : Binders) (k : ℕ) (x : Term) (s : Sort) (i : ℕ) → variable_at e i ≡ Some (k, Some s) → variable_term (Some (k, Some s)) ≡ x → depth x ≡ 1 → t.Atom (terminals e.source) i (trees.name i) (i + 1)
    → IsRead e i x s (i + 1)
name_read e binders k x s i there is deep derived =
    let j : judged e (trees.name i) ≡ Some (row.Typed (kind.Sorted s)) = ap (λ v. Some (name_row v)) there in
    record {
      tree = trees.name i;
      derived = derived;
      typed = kind_is e (trees.name i) (kind.Sorted s) j;
      fit = own_fits i _ (kind.Sorted s) j;
      is = λ w. ap variable_term there ∙ is;
      deep = sym deep;
    }

vectors_are : (w : ℕ) (s : Sort) → vectors w ≡ Some s → Vector w ≡ s
vectors_are w s h = go (nat_le 1 w && nat_le w 128) h
  where
    go : (b : Bool) → (if b then Some (Vector w) else None) ≡ Some s → Vector w ≡ s
    go true e = cc
    go false e = cc

abbrev IsVariable : List Bound → Binders → ℕ × Sort → Type 0
IsVariable bounds binders v = variable_of bounds (name_at binders v.0) ≡ Some (v.0, Some v.1)

variable_read : (e : Env) (b : Bool) (binders : Binders) (k w : ℕ) (s : Sort) (i : ℕ) → AreNamed e.bounds binders (variable k w) → vectors w ≡ Some s → Stand e.source i (term_tokens b binders (variable k w))
    → IsRead e i (variable k w) s (i + length (term_tokens b binders (variable k w)))
variable_read e b binders k w s i named sorts h =
    let there : variable_at e i ≡ Some (k, Some (Vector w)) = ap (variable_of e.bounds) (text_is h.0) ∙ All-head (IsVariable e.bounds binders) (k, Vector w) [] named in
    subst (λ s. IsRead e i (variable k w) s (i + 1)) (vectors_are w s sorts) (name_read e binders k (variable k w) (Vector w) i there refl refl (t.named (terminal_is h.0)))

truth_variable_read : (e : Env) (b : Bool) (binders : Binders) (k : ℕ) (s : Sort) (i : ℕ) → AreNamed e.bounds binders (truth_variable k) → ◌≡◌ {A = Option Sort} (Some Truth) (Some s) → Stand e.source i (term_tokens b binders (truth_variable k))
    → IsRead e i (truth_variable k) s (i + length (term_tokens b binders (truth_variable k)))
truth_variable_read e b binders k s i named sorts h =
    let there : variable_at e i ≡ Some (k, Some Truth) = ap (variable_of e.bounds) (text_is h.0) ∙ All-head (IsVariable e.bounds binders) (k, Truth) [] named in
    let same : Truth ≡ s = cc in
    subst (λ s. IsRead e i (truth_variable k) s (i + 1)) same (name_read e binders k (truth_variable k) Truth i there refl refl (t.named (terminal_is h.0)))

truth_read : (e : Env) (b c : Bool) (binders : Binders) (i : ℕ) → Stand e.source i (term_tokens b binders (truth c)) → IsRead e i (truth c) Truth (i + length (term_tokens b binders (truth c)))
truth_read e b true binders i h = record { tree = trees.constant words.True i; derived = t.a_constant is_true (terminal_is h.0); typed = refl; fit = refl; is = λ w. refl; deep = refl }
truth_read e b false binders i h = record { tree = trees.constant words.False i; derived = t.a_constant is_false (terminal_is h.0); typed = refl; fit = refl; is = λ w. refl; deep = refl }

-- ---- operators

unary_read : (e : Env) (f : Form) (op : Unary) (ns : List ℕ) (x : Term) (s r : Sort) (part : List Written) (b k : Bool) (i : ℕ) → UnaryOf op f ns → Reads e part x s → unary_sort op s ≡ Some r → depth x + 1 ≤ 1000
    → Stand e.source i (left b ∷ (operation f k part (numbers ns) ++ right ∷ [])) → IsRead e i (unary op x) r (i + length (left b ∷ (operation f k part (numbers ns) ++ right ∷ [])))
unary_read e (Prefix w) op ns x s r part b k i f reads sorts deep h = prefix_read e op w ns x s r part b k i f reads sorts deep h
unary_read e (Infix w) op ns x s r part b k i f reads sorts deep h = shift_read e op w ns x s r part b k i f reads sorts deep h
unary_read e (Method w) op ns x s r part b k i f reads sorts deep h = numbered_read e op w ns x s r part b k i f reads sorts deep h

binary_read : (e : Env) (f : Form) (op : Binary) (x y : Term) (s u r : Sort) (part others : List Written) (b k : Bool) (i : ℕ) → BinaryOf op f → Reads e part x s → Reads e others y u → binary_sort op s u ≡ Some r
    → max (depth x) (depth y) + 1 ≤ 1000 → Stand e.source i (left b ∷ (operation f k part others ++ right ∷ [])) → IsRead e i (binary op x y) r (i + length (left b ∷ (operation f k part others ++ right ∷ [])))
binary_read e (Prefix w) op x y s u r part others b k i f reads also sorts deep h = absurd f
binary_read e (Infix w) op x y s u r part others b k i f reads also sorts deep h = infix_read e op w x y s u r part others b k i f reads also sorts deep h
binary_read e (Method w) op x y s u r part others b k i f reads also sorts deep h = method_read e op w x y s u r part others b k i f reads also sorts deep h

below : (m n : ℕ) → m ≤ n → n + 1 ≤ 1000 → m ≤ 1000
below m n h k = omega arith

deep_first : (l m n : ℕ) → max l (max m n) + 1 ≤ 1000 → m ≤ 1000
deep_first l m n h = let a = le-max_left m n in let b = le-max_right l (max m n) in omega arith

deep_last : (l m n : ℕ) → max l (max m n) + 1 ≤ 1000 → n ≤ 1000
deep_last l m n h = let a = le-max_right m n in let b = le-max_right l (max m n) in omega arith

pub term_read : (binders : Binders) (x : Term) (b : Bool) (e : Env) (i : ℕ) (s : Sort) → Stand e.source i (term_tokens b binders x) → LeavesFit x → depth x ≤ 1000 → sort_of x ≡ Some s → AreNamed e.bounds binders x
    → IsRead e i x s (i + length (term_tokens b binders x))
term_read binders (constant v) b e i s h fits deep sorts named = constant_read e b binders v s i fits sorts h
term_read binders (variable k w) b e i s h fits deep sorts named = variable_read e b binders k w s i named sorts h
term_read binders (truth c) b e i s h fits deep sorts named = let same : Truth ≡ s = cc in subst (λ s. IsRead e i (truth c) s (i + 1)) same (truth_read e b c binders i h)
term_read binders (truth_variable k) b e i s h fits deep sorts named = truth_variable_read e b binders k s i named sorts h
term_read binders (unary op x) b e i s h fits deep sorts named =
    let p = and_then_parts (unary_sort op) (sort_of x) s sorts in
    unary_read e (unary_form op) op (kept_numbers op) x p.0 s (term_tokens false binders x) b (is_constant x) i (unary_of op) (λ j g. term_read binders x false e j p.0 g fits (omega arith) p.1 named) p.2 deep h
term_read binders (binary op x y) b e i s h fits deep sorts named =
    let p = and_then_parts (λ u. option_and_then (binary_sort op u) (sort_of y)) (sort_of x) s sorts in
    let q = and_then_parts (binary_sort op p.0) (sort_of y) s p.2 in
    binary_read e (binary_form op) op x y p.0 q.0 s (term_tokens false binders x) (term_tokens true binders y) b (is_constant x) i (binary_of op)
    (λ j g. term_read binders x false e j p.0 g fits.0 (below (depth x) (max (depth x) (depth y)) (le-max_left (depth x) (depth y)) deep) p.1 (all_left (IsVariable e.bounds binders) (variables x) (variables y) named))
    (λ j g. term_read binders y true e j q.0 g fits.1 (below (depth y) (max (depth x) (depth y)) (le-max_right (depth x) (depth y)) deep) q.1 (all_right (IsVariable e.bounds binders) (variables x) (variables y) named)) q.2 deep h
term_read binders (choice c x y) b e i s h fits deep sorts named =
    let o = and_then_parts (λ r. option_and_then (λ s. option_and_then (choice_sort r s) (sort_of y)) (sort_of x)) (sort_of c) s sorts in
    let p = and_then_parts (λ s. option_and_then (choice_sort o.0 s) (sort_of y)) (sort_of x) s o.2 in
    let q = and_then_parts (choice_sort o.0 p.0) (sort_of y) s p.2 in
    let P = IsVariable e.bounds binders in
    let rest = all_right P (variables c) (variables x ++ variables y) named in
    choice_read e c x y o.0 p.0 q.0 s (term_tokens true binders c) (term_tokens true binders x) (term_tokens true binders y) b i
    (λ j g. term_read binders c true e j o.0 g fits.0 (below (depth c) _ (le-max_left (depth c) (max (depth x) (depth y))) deep) o.1 (all_left P (variables c) (variables x ++ variables y) named))
    (λ j g. term_read binders x true e j p.0 g fits.1 (deep_first (depth c) (depth x) (depth y) deep) p.1 (all_left P (variables x) (variables y) rest))
    (λ j g. term_read binders y true e j q.0 g fits.2 (deep_last (depth c) (depth x) (depth y) deep) q.1 (all_right P (variables x) (variables y) rest)) q.2 deep h
term_read binders (truth_choice c x y) b e i s h fits deep sorts named =
    let o = and_then_parts (λ r. option_and_then (λ s. option_and_then (truth_choice_sort r s) (sort_of y)) (sort_of x)) (sort_of c) s sorts in
    let p = and_then_parts (λ s. option_and_then (truth_choice_sort o.0 s) (sort_of y)) (sort_of x) s o.2 in
    let q = and_then_parts (truth_choice_sort o.0 p.0) (sort_of y) s p.2 in
    let P = IsVariable e.bounds binders in
    let rest = all_right P (variables c) (variables x ++ variables y) named in
    truth_choice_read e c x y o.0 p.0 q.0 s (term_tokens true binders c) (term_tokens true binders x) (term_tokens true binders y) b i
    (λ j g. term_read binders c true e j o.0 g fits.0 (below (depth c) _ (le-max_left (depth c) (max (depth x) (depth y))) deep) o.1 (all_left P (variables c) (variables x ++ variables y) named))
    (λ j g. term_read binders x true e j p.0 g fits.1 (deep_first (depth c) (depth x) (depth y) deep) p.1 (all_left P (variables x) (variables y) rest))
    (λ j g. term_read binders y true e j q.0 g fits.2 (deep_last (depth c) (depth x) (depth y) deep) q.1 (all_right P (variables x) (variables y) rest)) q.2 deep h
