-- The circuit of a term writes what the term means where its variables are read off the bits of the inputs.
use Rattle.std.proofs.Common.{◌≡◌, ◌≤◌, ℕ, Bool, true, false, IsTrue, List, map, refl, sym, ◌∙◌, ap, ap₂, subst, length, slice_index_or, arith, Some, None, if◌then◌else◌}
use Rattle.std.specs.Prelude.{IsSome, slice_get, option_map, option_and_then}
use Rattle.std.proofs.lemmas.List.{length-map}
use Rattle.gate_shape.specs.Edge.{Edge, constant, input, value}
use Rattle.gate_shape.specs.Row.{plain, ◌>>=◌}
use Rattle.bv_value.specs.Bits.{bits_of}
use Rattle.bv_value.specs.BitVector.{of_number}
use Rattle.bv_expr.specs.declared.ops.Unary.{Unary}
use Rattle.bv_expr.specs.declared.ops.Binary.{Binary}
use Rattle.bv_expr.specs.declared.ops.Binary.TheVariants as on
use Rattle.bv_expr.specs.declared.ops.Sort.{Sort}
use Rattle.bv_expr.specs.declared.ops.Sort.TheVariants as sort
use Rattle.bv_expr.specs.declared.ops.Val.{Val}
use Rattle.bv_expr.specs.declared.ops.Val.TheVariants.{Truth, Vector}
use Rattle.bv_expr.specs.Term.{Term, constant as vector, variable, truth, truth_variable, unary, binary, choice, truth_choice}
use Rattle.bv_expr.specs.Sorts.{unary_sort, vector_sort, truth_sort, binary_sort, choice_sort, truth_choice_sort, sort_of, LeavesFit, IsExpr}
use Rattle.bv_expr.specs.Meaning.{sort_of_value, is_true, unary_value, binary_value, meaning, HasValues}
use Rattle.bv_expr.specs.Goal.{is_sort}
use Rattle.bv_expr.proofs.Sorted.{unary_sorted, binary_sorted}
use Rattle.blast_logic.proofs.Meanings.{constant-value, input-value}
use Rattle.blast_logic.proofs.Vectoring.{constants-word, inputs-word, bits-written}
use Rattle.blast_goal.specs.Circuit.{circuit}
use Rattle.blast_goal.specs.Values.{value_with, all_bits}
use Rattle.blast_goal.specs.Fitting.{Suits}
use Rattle.blast_goal.proofs.Sorting.{some_same, opened, vectors_is, equal_is, parts_of, sort_fits}
use Rattle.blast_goal.proofs.Laws.{Writes, equal_widths, positive_width, single-writes, unary-law, binary-law, choice-law, truth_choice-law}

some_of : {A : Type 0} (o : _) (a : A) → o ≡ Some a → IsSome o
some_of o a h = rw h refl

choice_is : (a b d : Val) (s : Sort) → choice_sort (sort_of_value a) (sort_of_value b) (sort_of_value d) ≡ Some s → sort_of_value (if is_true a then b else d) ≡ s
choice_is (Truth true) (Vector x) (Vector y) s h = equal_is x.width y.width (sort.Vector x.width) s h
choice_is (Truth false) (Vector x) (Vector y) s h = ap sort.Vector (sym (equal_widths x.width y.width (sort.Vector x.width) (some_of _ s h))) ∙ equal_is x.width y.width (sort.Vector x.width) s h
choice_is (Truth c) (Truth p) d s h = cc
choice_is (Truth c) (Vector x) (Truth q) s h = cc
choice_is (Vector x) b d s h = cc

truth_choice_is : (a b d : Val) (s : Sort) → truth_choice_sort (sort_of_value a) (sort_of_value b) (sort_of_value d) ≡ Some s → sort_of_value (if is_true a then b else d) ≡ s
truth_choice_is (Truth true) (Truth p) (Truth q) s h = some_same h
truth_choice_is (Truth false) (Truth p) (Truth q) s h = some_same h
truth_choice_is (Truth c) (Truth p) (Vector y) s h = cc
truth_choice_is (Truth c) (Vector x) d s h = cc
truth_choice_is (Vector x) b d s h = cc

module _ (bits : ℕ → ℕ → Bool) where
  -- what a term means where its variables are read off the bits
  pub read : Term → Val
  read (vector v) = Vector v
  read (variable k w) = value_with (sort.Vector w) (bits k)
  read (truth b) = Truth b
  read (truth_variable k) = value_with sort.Truth (bits k)
  read (unary op x) = unary_value op (read x)
  read (binary op x y) = binary_value op (read x) (read y)
  read (choice c x y) = if is_true (read c) then read x else read y
  read (truth_choice c x y) = if is_true (read c) then read x else read y

  pub read-sort : (t : Term) (s : Sort) → sort_of t ≡ Some s → sort_of_value (read t) ≡ s
  unfolding read
  read-sort (vector v) s h = (vectors_is v.width s h).1
  read-sort (variable k w) s h = (vectors_is w s h).1
  read-sort (truth b) s h = some_same h
  read-sort (truth_variable k) s h = some_same h
  read-sort (unary op x) s h =
      let o = opened (unary_sort op) (sort_of x) s h in
      let e = read-sort x o.0 o.1 in
      let f : unary_sort op (sort_of_value (read x)) ≡ Some s = rw e o.2 in
      some_same (sym (unary_sorted op (read x) (some_of _ s f)) ∙ f)
  read-sort (binary op x y) s h =
      let o = opened (λ r. option_and_then (binary_sort op r) (sort_of y)) (sort_of x) s h in
      let p = opened (binary_sort op o.0) (sort_of y) s o.2 in
      let e = read-sort x o.0 o.1 in
      let g = read-sort y p.0 p.1 in
      let f : binary_sort op (sort_of_value (read x)) (sort_of_value (read y)) ≡ Some s = rw (e, g) p.2 in
      some_same (sym (binary_sorted op (read x) (read y) (some_of _ s f)) ∙ f)
  read-sort (choice c x y) s h =
      let p = parts_of choice_sort c x y s h in
      choice_is (read c) (read x) (read y) s (rw (read-sort c p.test p.test_is, read-sort x p.left p.left_is, read-sort y p.right p.right_is) p.whole)
  read-sort (truth_choice c x y) s h =
      let p = parts_of truth_choice_sort c x y s h in
      truth_choice_is (read c) (read x) (read y) s (rw (read-sort c p.test p.test_is, read-sort x p.left p.left_is, read-sort y p.right p.right_is) p.whole)

  read-fits : (t : Term) (s : Sort) → sort_of t ≡ Some s → IsTrue (is_sort (sort_of_value (read t)))
  read-fits t s h = rw (read-sort t s h) (sort_fits t s h)

  pub circuit-law : (t : Term) (s : Sort) → sort_of t ≡ Some s → LeavesFit t → Writes bits (circuit t).answer (read t)
  unfolding circuit read ◌>>=◌
  circuit-law (vector v) s h l = constants-word bits v l.below
  circuit-law (variable k w) s h l = inputs-word bits k w
  circuit-law (truth b) s h l = single-writes bits (plain (constant b)) b (constant-value bits b)
  circuit-law (truth_variable k) s h l = single-writes bits (plain (input false k 0)) (bits k 0) (input-value bits k 0)
  circuit-law (unary op x) s h l =
      let o = opened (unary_sort op) (sort_of x) s h in
      let f : unary_sort op (sort_of_value (read x)) ≡ Some s = rw (read-sort x o.0 o.1) o.2 in
      unary-law bits op (circuit x).answer (read x) (some_of _ s f) (read-fits x o.0 o.1) (circuit-law x o.0 o.1 l)
  circuit-law (binary op x y) s h l =
      let o = opened (λ r. option_and_then (binary_sort op r) (sort_of y)) (sort_of x) s h in
      let p = opened (binary_sort op o.0) (sort_of y) s o.2 in
      let f : binary_sort op (sort_of_value (read x)) (sort_of_value (read y)) ≡ Some s = rw (read-sort x o.0 o.1, read-sort y p.0 p.1) p.2 in
      binary-law bits op (circuit x).answer (circuit y).answer (read x) (read y) (some_of _ s f) (read-fits x o.0 o.1) (read-fits y p.0 p.1) (circuit-law x o.0 o.1 l.0) (circuit-law y p.0 p.1 l.1)
  circuit-law (choice c x y) s h l =
      let p = parts_of choice_sort c x y s h in
      let f : choice_sort (sort_of_value (read c)) (sort_of_value (read x)) (sort_of_value (read y)) ≡ Some s = rw (read-sort c p.test p.test_is, read-sort x p.left p.left_is, read-sort y p.right p.right_is) p.whole in
      choice-law bits (circuit c).answer (circuit x).answer (circuit y).answer (read c) (read x) (read y) (some_of _ s f) (circuit-law c p.test p.test_is l.0) (circuit-law x p.left p.left_is l.1) (circuit-law y p.right p.right_is l.2)
  circuit-law (truth_choice c x y) s h l =
      let p = parts_of truth_choice_sort c x y s h in
      let f : truth_choice_sort (sort_of_value (read c)) (sort_of_value (read x)) (sort_of_value (read y)) ≡ Some s = rw (read-sort c p.test p.test_is, read-sort x p.left p.left_is, read-sort y p.right p.right_is) p.whole in
      truth_choice-law bits (circuit c).answer (circuit x).answer (circuit y).answer (read c) (read x) (read y) (some_of _ s f) (circuit-law c p.test p.test_is l.0) (circuit-law x p.left p.left_is l.1) (circuit-law y p.right p.right_is l.2)

  -- the values of edges that write a value are its bits
  pub writes-bits : (es : List Edge) (v : Val) → Writes bits es v → map (value bits) es ≡ all_bits v
  writes-bits es (Truth b) h = h
  writes-bits es (Vector x) h = sym (bits-written bits es) ∙ ap (λ z. bits_of z.width z.number) h

  -- the same where each variable has the value that is read off the bits
  pub read-meaning : (values : List Val) → ((k : ℕ) (s : Sort) (d : Val) → option_map sort_of_value (slice_get values k) ≡ Some s → slice_index_or values k d ≡ value_with s (bits k)) → (t : Term) → HasValues values t → read t ≡ meaning t values
  unfolding read
  read-meaning values are (vector v) h = refl
  read-meaning values are (variable k w) h = sym (are k (sort.Vector w) (Vector (of_number w 0)) h)
  read-meaning values are (truth b) h = refl
  read-meaning values are (truth_variable k) h = sym (are k sort.Truth (Truth false) h)
  read-meaning values are (unary op x) h = ap (unary_value op) (read-meaning values are x h)
  read-meaning values are (binary op x y) h = ap₂ (binary_value op) (read-meaning values are x h.0) (read-meaning values are y h.1)
  read-meaning values are (choice c x y) h = rw (read-meaning values are c h.0, read-meaning values are x h.1, read-meaning values are y h.2) refl
  read-meaning values are (truth_choice c x y) h = rw (read-meaning values are c h.0, read-meaning values are x h.1, read-meaning values are y h.2) refl

-- how long a circuit is: one edge for a truth, and one for each bit of a vector
abbrev pub width_of : Sort → ℕ
width_of sort.Truth = 1
width_of (sort.Vector w) = w

writes-length : (bits : ℕ → ℕ → Bool) (es : List Edge) (v : Val) → Writes bits es v → length es ≡ width_of (sort_of_value v)
writes-length bits es (Truth b) h = sym (length-map es (value bits)) ∙ ap length h
writes-length bits es (Vector x) h = ap (λ z. z.width) h

pub circuit-length : (t : Term) (s : Sort) → sort_of t ≡ Some s → LeavesFit t → length (circuit t).answer ≡ width_of s
circuit-length t s h l = let bits : ℕ → ℕ → Bool = λ k j. false in writes-length bits (circuit t).answer (read bits t) (circuit-law bits t s h l) ∙ ap width_of (read-sort bits t s h)

width_positive : (s : Sort) → IsTrue (is_sort s) → 1 ≤ width_of s
width_positive sort.Truth p = omega arith
width_positive (sort.Vector w) p = positive_width w p

positive_at : (t : Term) (s : Sort) → sort_of t ≡ Some s → LeavesFit t → 1 ≤ length (circuit t).answer
positive_at t s h l = rw (circuit-length t s h l) (width_positive s (sort_fits t s h))

-- the lists of the parts of a node that fits
pub sorted : (t : Term) → IsSome (sort_of t) → (s : Sort) × (sort_of t ≡ Some s)
sorted t h = go (sort_of t) h
  where
    go : (o : _) → IsSome o → (s : Sort) × (o ≡ Some s)
    go None h = cc
    go (Some s) h = (s, refl)

pub expr_positive : (t : Term) → IsExpr t → 1 ≤ length (circuit t).answer
expr_positive t ex = let s = sorted t ex.sorted in positive_at t s.0 s.1 ex.leaves

pub unary_positive : (t : Term) (op : Unary) (x : Term) → unary op x ≡ t → IsExpr t → 1 ≤ length (circuit x).answer
unary_positive t op x e ex = let P : Term → Type 0 = IsExpr in go (subst P (sym e) ex)
  where
    go : IsExpr (unary op x) → 1 ≤ length (circuit x).answer
    go f =
        let s = sorted (unary op x) f.sorted in
        let o = opened (unary_sort op) (sort_of x) s.0 s.1 in
        positive_at x o.0 o.1 f.leaves

vectors_suit : (op : Binary) (v w : ℕ) (s : Sort) → vector_sort op v w ≡ Some s → Suits op v w
vectors_suit on.And v w s h = equal_widths v w _ (some_of _ s h)
vectors_suit on.Or v w s h = equal_widths v w _ (some_of _ s h)
vectors_suit on.Xor v w s h = equal_widths v w _ (some_of _ s h)
vectors_suit on.Add v w s h = equal_widths v w _ (some_of _ s h)
vectors_suit on.Sub v w s h = equal_widths v w _ (some_of _ s h)
vectors_suit on.Mul v w s h = equal_widths v w _ (some_of _ s h)
vectors_suit on.Udiv v w s h = equal_widths v w _ (some_of _ s h)
vectors_suit on.Umod v w s h = equal_widths v w _ (some_of _ s h)
vectors_suit on.Sdiv v w s h = equal_widths v w _ (some_of _ s h)
vectors_suit on.Srem v w s h = equal_widths v w _ (some_of _ s h)
vectors_suit on.Smod v w s h = equal_widths v w _ (some_of _ s h)
vectors_suit on.Append v w s h = tt
vectors_suit on.Shl v w s h = tt
vectors_suit on.Lshr v w s h = tt
vectors_suit on.Ashr v w s h = tt
vectors_suit on.Eq v w s h = equal_widths v w _ (some_of _ s h)
vectors_suit on.Ult v w s h = equal_widths v w _ (some_of _ s h)
vectors_suit on.Ule v w s h = equal_widths v w _ (some_of _ s h)
vectors_suit on.Slt v w s h = equal_widths v w _ (some_of _ s h)
vectors_suit on.Sle v w s h = equal_widths v w _ (some_of _ s h)
vectors_suit op v w s h = cc

truths_suit : (op : Binary) (s : Sort) → truth_sort op ≡ Some s → Suits op 1 1
truths_suit on.TAnd s h = tt
truths_suit on.TOr s h = tt
truths_suit on.TXor s h = tt
truths_suit on.Implies s h = tt
truths_suit on.TEq s h = tt
truths_suit op s h = cc

sorts_suit : (op : Binary) (q r s : Sort) → binary_sort op q r ≡ Some s → Suits op (width_of q) (width_of r)
sorts_suit op sort.Truth sort.Truth s h = truths_suit op s h
sorts_suit op (sort.Vector v) (sort.Vector w) s h = vectors_suit op v w s h
sorts_suit op sort.Truth (sort.Vector w) s h = cc
sorts_suit op (sort.Vector v) sort.Truth s h = cc

pub record AreParts (op : Binary) (x y : Term) : Type 0 where
  pub left : 1 ≤ length (circuit x).answer
  pub right : 1 ≤ length (circuit y).answer
  pub suit : Suits op (length (circuit x).answer) (length (circuit y).answer)

pub binary_parts : (t : Term) (op : Binary) (x y : Term) → binary op x y ≡ t → IsExpr t → AreParts op x y
binary_parts t op x y e ex = let P : Term → Type 0 = IsExpr in go (subst P (sym e) ex)
  where
    go : IsExpr (binary op x y) → AreParts op x y
    go f =
        let s = sorted (binary op x y) f.sorted in
        let o = opened (λ r. option_and_then (binary_sort op r) (sort_of y)) (sort_of x) s.0 s.1 in
        let p = opened (binary_sort op o.0) (sort_of y) s.0 o.2 in
        record {
          left = positive_at x o.0 o.1 f.leaves.0;
          right = positive_at y p.0 p.1 f.leaves.1;
          suit = rw (circuit-length x o.0 o.1 f.leaves.0, circuit-length y p.0 p.1 f.leaves.1) (sorts_suit op o.0 p.0 s.0 p.2);
        }

pub record AreChoices (c x y : Term) : Type 0 where
  pub test : 1 ≤ length (circuit c).answer
  pub left : 1 ≤ length (circuit x).answer
  pub right : 1 ≤ length (circuit y).answer

choice_widths : (p q r s : Sort) → choice_sort p q r ≡ Some s → width_of q ≡ width_of r
choice_widths sort.Truth (sort.Vector v) (sort.Vector w) s h = equal_widths v w _ (some_of _ s h)
choice_widths sort.Truth sort.Truth r s h = cc
choice_widths sort.Truth (sort.Vector v) sort.Truth s h = cc
choice_widths (sort.Vector u) q r s h = cc

pub choice_parts : (t c x y : Term) → choice c x y ≡ t → IsExpr t → AreChoices c x y × (length (circuit x).answer ≡ length (circuit y).answer)
choice_parts t c x y e ex = let P : Term → Type 0 = IsExpr in go (subst P (sym e) ex)
  where
    go : IsExpr (choice c x y) → AreChoices c x y × (length (circuit x).answer ≡ length (circuit y).answer)
    go f =
        let s = sorted (choice c x y) f.sorted in
        let p = parts_of choice_sort c x y s.0 s.1 in (
          record { test = positive_at c p.test p.test_is f.leaves.0; left = positive_at x p.left p.left_is f.leaves.1; right = positive_at y p.right p.right_is f.leaves.2 },
          circuit-length x p.left p.left_is f.leaves.1 ∙ (choice_widths p.test p.left p.right s.0 p.whole ∙ sym (circuit-length y p.right p.right_is f.leaves.2)),
        )

pub truth_choice_parts : (t c x y : Term) → truth_choice c x y ≡ t → IsExpr t → AreChoices c x y
truth_choice_parts t c x y e ex = let P : Term → Type 0 = IsExpr in go (subst P (sym e) ex)
  where
    go : IsExpr (truth_choice c x y) → AreChoices c x y
    go f =
        let s = sorted (truth_choice c x y) f.sorted in
        let p = parts_of truth_choice_sort c x y s.0 s.1 in
        record { test = positive_at c p.test p.test_is f.leaves.0; left = positive_at x p.left p.left_is f.leaves.1; right = positive_at y p.right p.right_is f.leaves.2 }
