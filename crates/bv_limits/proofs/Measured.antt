-- The pieces of terms tell the first that is deep.
use Rattle.std.proofs.Common.{◌≡◌, ℕ, ◌+◌, ◌<◌, ◌≤◌, max, min, Bool, true, false, nat_lt, List, [], ◌∷◌, ◌++◌, Option, Some, None, length, drop, refl, sym, ap, subst, arith, ◌∙◌, ◌⊎◌, inl, inr, append_assoc}
use Rattle.std.proofs.lemmas.List.{drop_more, drop_all}
use Rattle.std.proofs.lemmas.Option.{slice_get_within, get_or_from_slice_get}
use Rattle.std.specs.Prelude.{slice_get, if◌then◌else◌}
use Rattle.bv_grammar.specs.declared.words.Word.{Word}
use Rattle.bv_trees.specs.declared.pieces.Sort.{Sort}
use Rattle.bv_trees.specs.declared.pieces.Piece.{Piece}
use Rattle.bv_trees.specs.declared.pieces.Piece.TheVariants as piece
use Rattle.bv_trees.specs.Trees as v
use Rattle.bv_trees.specs.Trees.{Tree, Trees, Binder, Goal}
use Rattle.bv_trees.specs.Codes.{pieces, arguments, binder_pieces, goal_pieces}
use Rattle.bv_trees.specs.Complete as complete
use Rattle.bv_trees.specs.Complete.{Within, WithinAny, operator_of, Holds, IsLoose}
use Rattle.bv_limits.specs.declared.depths.Part.{Part}
use Rattle.bv_limits.specs.declared.depths.Part.TheVariants as part
use Rattle.bv_limits.specs.Depths.{added, depth, depths}
use Rattle.bv_limits.specs.Deep as d
use Rattle.bv_limits.specs.Deep.{HasDeep, AnyDeep, IsFirstDeep, hypotheses, terms_of}
use Rattle.bv_limits.specs.Measuring.{capped, put, gathered, behind, step, top, place_of, least_of, note, Measure, start, tell, measure}

abbrev pub mk : List Part → Option ℕ → Measure
mk s l = record { parts = s; least = l }

pub measure-append : (ps qs : List Piece) (m : Measure) → measure (ps ++ qs) m ≡ measure qs (measure ps m)
measure-append [] qs m = refl
measure-append (o ∷ ps) qs m = measure-append ps qs (tell o m)

-- what is least behind a term
abbrev mutual
  pub noted : Tree → Option ℕ → Option ℕ
  noted (v.name i) l = l
  noted (v.numeral i) l = l
  noted (v.literal i w) l = l
  noted (v.constant c i) l = l
  noted (v.prefix o i x) l = note (Some i) (capped (depth x + 1)) (noted x l)
  noted (v.infix_ o i x y) l = note (Some i) (capped (max (depth x) (depth y) + added o)) (noted y (noted x l))
  noted (v.choice i x y z) l = note (Some i) (capped (max (depth x) (max (depth y) (depth z)) + 1)) (noted z (noted y (noted x l)))
  noted (v.method i x xs) l = note (Some i) (capped (max (depth x) (depths xs) + 1)) (noted_all xs (noted x l))
  noted (v.ascribed i x s) l = noted x l

  noted_all : Trees → Option ℕ → Option ℕ
  noted_all v.no_more l = l
  noted_all (v.and x xs) l = noted_all xs (noted x l)

-- the parts behind arguments
abbrev stacked : Trees → List Part → List Part
stacked v.no_more s = s
stacked (v.and x xs) s = stacked xs (put (depth x) s)

behind_stacked : (xs : Trees) (s : List Part) → behind (stacked xs s) ≡ behind s
behind_stacked v.no_more s = refl
behind_stacked (v.and x xs) s = behind_stacked xs (put (depth x) s)

none_more : (e : ℕ) → e ≡ max e (capped 0)
none_more e = omega arith

one_more : (e a b : ℕ) → max (max e (capped b)) (capped a) ≡ max e (capped (max a b))
one_more e a b = omega arith

gathered_stacked : (xs : Trees) (e : ℕ) (s : List Part) → gathered e (stacked xs s) ≡ gathered (max e (capped (depths xs))) s
gathered_stacked v.no_more e s = ap (λ q. gathered q s) (none_more e)
gathered_stacked (v.and x xs) e s = gathered_stacked xs e (put (depth x) s) ∙ ap (λ q. gathered q s) (one_more e (depth x) (depths xs))

cap_one : (a n : ℕ) → capped (capped a + n) ≡ capped (a + n)
cap_one a n = omega arith

cap_two : (a b n : ℕ) → capped (max (capped a) (capped b) + n) ≡ capped (max a b + n)
cap_two a b n = omega arith

cap_three : (a b c n : ℕ) → capped (max (capped a) (max (capped b) (capped c)) + n) ≡ capped (max a (max b c) + n)
cap_three a b c n = omega arith

cap_call : (a b n : ℕ) → capped (max (max 0 (capped b)) (capped a) + n) ≡ capped (max a b + n)
cap_call a b n = omega arith

abbrev closed : ℕ → List Part → Option ℕ → ℕ → Measure
closed i s l e = mk (part.Term e ∷ s) (note (Some i) e l)

mutual
  pub measured : (x : Tree) (s : List Part) (l : Option ℕ) → measure (pieces x) (mk s l) ≡ mk (put (depth x) s) (noted x l)
  measured (v.name i) s l = refl
  measured (v.numeral i) s l = refl
  measured (v.literal i w) s l = refl
  measured (v.constant c i) s l = refl
  measured (v.prefix o i x) s l =
      measure-append (pieces x) (piece.Prefix o i ∷ []) (mk s l) ∙ ap (tell (piece.Prefix o i)) (measured x s l) ∙ ap (closed i s (noted x l)) (cap_one (depth x) 1)
  measured (v.infix_ o i x y) s l =
      measure-append (pieces x) (pieces y ++ piece.Infix o i ∷ []) (mk s l)
      ∙ ap (measure (pieces y ++ piece.Infix o i ∷ [])) (measured x s l)
      ∙ measure-append (pieces y) (piece.Infix o i ∷ []) (mk (put (depth x) s) (noted x l))
      ∙ ap (tell (piece.Infix o i)) (measured y (put (depth x) s) (noted x l))
      ∙ ap (closed i s (noted y (noted x l))) (cap_two (depth x) (depth y) (added o))
  measured (v.choice i x y z) s l =
      measure-append (pieces x) (pieces y ++ (pieces z ++ piece.Choice i ∷ [])) (mk s l)
      ∙ ap (measure (pieces y ++ (pieces z ++ piece.Choice i ∷ []))) (measured x s l)
      ∙ measure-append (pieces y) (pieces z ++ piece.Choice i ∷ []) (mk (put (depth x) s) (noted x l))
      ∙ ap (measure (pieces z ++ piece.Choice i ∷ [])) (measured y (put (depth x) s) (noted x l))
      ∙ measure-append (pieces z) (piece.Choice i ∷ []) (mk (put (depth y) (put (depth x) s)) (noted y (noted x l)))
      ∙ ap (tell (piece.Choice i)) (measured z (put (depth y) (put (depth x) s)) (noted y (noted x l)))
      ∙ ap (closed i s (noted z (noted y (noted x l)))) (cap_three (depth x) (depth y) (depth z) 1)
  measured (v.method i x xs) s l =
      measure-append (pieces x) (piece.Call i ∷ (arguments xs ++ piece.Method i ∷ [])) (mk s l)
      ∙ ap (measure (piece.Call i ∷ (arguments xs ++ piece.Method i ∷ []))) (measured x s l)
      ∙ measure-append (arguments xs) (piece.Method i ∷ []) (mk (part.Receiver (capped (depth x)) ∷ s) (noted x l))
      ∙ ap (tell (piece.Method i)) (measured_all xs (part.Receiver (capped (depth x)) ∷ s) (noted x l))
      ∙ ap (λ q. closed i q (noted_all xs (noted x l)) (capped (gathered 0 (stacked xs (part.Receiver (capped (depth x)) ∷ s)) + 1))) (behind_stacked xs (part.Receiver (capped (depth x)) ∷ s))
      ∙ ap (λ q. closed i s (noted_all xs (noted x l)) (capped (q + 1))) (gathered_stacked xs 0 (part.Receiver (capped (depth x)) ∷ s))
      ∙ ap (closed i s (noted_all xs (noted x l))) (cap_call (depth x) (depths xs) 1)
  measured (v.ascribed i x t) s l = measure-append (pieces x) (piece.Ascribed i t ∷ []) (mk s l) ∙ ap (tell (piece.Ascribed i t)) (measured x s l)

  measured_all : (xs : Trees) (s : List Part) (l : Option ℕ) → measure (arguments xs) (mk s l) ≡ mk (stacked xs s) (noted_all xs l)
  measured_all v.no_more s l = refl
  measured_all (v.and x xs) s l = measure-append (pieces x) (arguments xs) (mk s l) ∙ ap (measure (arguments xs)) (measured x s l) ∙ measured_all xs (put (depth x) s) (noted x l)

-- o is the least of l and of the places with P
pub record Least (P : ℕ → Type 0) (l o : Option ℕ) : Type 0 where
  pub from : (k : ℕ) → o ≡ Some k → P k ⊎ (l ≡ Some k)
  pub covers : (i : ℕ) → P i → (k : ℕ) × (o ≡ Some k) × (k ≤ i)
  pub keeps : (i : ℕ) → l ≡ Some i → (k : ℕ) × (o ≡ Some k) × (k ≤ i)

same_some : {m n : ℕ} → Some m ≡ Some n → m ≡ n
same_some e = cc

changed : {P Q : ℕ → Type 0} {l o : Option ℕ} → ((k : ℕ) → P k → Q k) → ((k : ℕ) → Q k → P k) → Least P l o → Least Q l o
changed {P} {Q} {l} f g h = record {
  from = λ k e. elim (h.from k e) [ inl p ↦ inl (f k p) | inr m ↦ inr m ];
  covers = λ i q. h.covers i (g i q);
  keeps = h.keeps;
}

lower : {o : Option ℕ} (i k : ℕ) → k ≤ i → (j : ℕ) × (o ≡ Some j) × (j ≤ k) → (j : ℕ) × (o ≡ Some j) × (j ≤ i)
lower i k h r = (r.0, r.1, omega (arith, h, r.2))

both : {P Q : ℕ → Type 0} {l m o : Option ℕ} → Least P l m → Least Q m o → Least (λ k. P k ⊎ Q k) l o
both {P} {Q} {l} {m} {o} h g = record {
  from = λ k e. elim (g.from k e) [ inl q ↦ inl (inr q) | inr f ↦ elim (h.from k f) [ inl p ↦ inl (inl p) | inr n ↦ inr n ] ];
  covers = λ i p. elim p [ inl a ↦ (let r = h.covers i a in lower i r.0 r.2 (g.keeps r.0 r.1)) | inr b ↦ g.covers i b ];
  keeps = λ i e. let r = h.keeps i e in lower i r.0 r.2 (g.keeps r.0 r.1);
}

none_of : {P : ℕ → Type 0} {l : Option ℕ} → ((k : ℕ) → P k → ⊥) → Least P l l
none_of f = record { from = λ k e. inr e; covers = λ i p. absurd (f i p); keeps = λ i e. (i, e, omega arith) }

-- a place is noted where it is deep
more_than : (d : ℕ) → nat_lt 1000 (capped d) ≡ true → 1000 < d
more_than d e = grind arith

is_more : (d : ℕ) → 1000 < d → nat_lt 1000 (capped d) ≡ true
is_more d h = grind arith

not_more : (d : ℕ) → nat_lt 1000 (capped d) ≡ false → 1000 < d → ⊥
not_more d e h = let f = is_more d h in cc

least_cases : (i : ℕ) (l : Option ℕ) → (least_of i l ≡ i) ⊎ (l ≡ Some (least_of i l))
least_cases i None = inl refl
least_cases i (Some k) = smaller i k
  where
    min_cases : (m n : ℕ) → (min m n ≡ m) ⊎ (n ≡ min m n)
    min_cases m n = grind arith

    smaller : (m n : ℕ) → (min m n ≡ m) ⊎ (Some n ≡ Some (min m n))
    smaller m n = elim (min_cases m n) [ inl e ↦ inl e | inr e ↦ inr (ap Some e) ]

least_here : (i : ℕ) (l : Option ℕ) → least_of i l ≤ i
least_here i None = omega arith
least_here i (Some k) = omega arith

pub least_there : (i k : ℕ) (l : Option ℕ) → l ≡ Some k → least_of i l ≤ k
least_there i k None e = cc
least_there i k (Some n) e = let same : n ≡ k = cc in omega (arith, same)

noting_by : (i d : ℕ) (l : Option ℕ) (b : Bool) → nat_lt 1000 (capped d) ≡ b → Least (λ k. (k ≡ i) × (1000 < d)) l (if b then Some (least_of i l) else l)
noting_by i d l true e = record {
  from = λ k f. elim (least_cases i l) [ inl same ↦ inl (sym (same_some f) ∙ same, more_than d e) | inr other ↦ inr (other ∙ f) ];
  covers = λ k p. (least_of i l, refl, subst (λ q. least_of i l ≤ q) (sym p.0) (least_here i l));
  keeps = λ k f. (least_of i l, refl, least_there i k l f);
}
noting_by i d l false e = none_of (λ k p. not_more d e p.1)

noting : (i d : ℕ) (l : Option ℕ) → Least (λ k. (k ≡ i) × (1000 < d)) l (note (Some i) (capped d) l)
noting i d l = noting_by i d l (nat_lt 1000 (capped d)) refl

-- what is deep in a term
deep_in : {x : Tree} {k : ℕ} (y : Tree) → Within y x → operator_of y ≡ Some k → 1000 < depth y → HasDeep x k
deep_in y w e h = record { deep = y; within = w; operator = e; deeper = h }

deep_here : (x : Tree) (i k : ℕ) → operator_of x ≡ Some i → (k ≡ i) × (1000 < depth x) → HasDeep x k
deep_here x i k e h = deep_in x complete.itself (e ∙ ap Some (sym h.0)) h.1

same_place : {m n : ℕ} → Some m ≡ Some n → n ≡ m
same_place e = cc

within_prefix : {y x : Tree} {o : Word} {i : ℕ} (k : ℕ) → Within y (v.prefix o i x) → operator_of y ≡ Some k → 1000 < depth y → HasDeep x k ⊎ ((k ≡ i) × (1000 < depth (v.prefix o i x)))
within_prefix k complete.itself e h = inr (same_place e, h)
within_prefix {y} k (complete.operand w) e h = inl (deep_in y w e h)

within_infix : {y x z : Tree} {o : Word} {i : ℕ} (k : ℕ) → Within y (v.infix_ o i x z) → operator_of y ≡ Some k → 1000 < depth y → (HasDeep x k ⊎ HasDeep z k) ⊎ ((k ≡ i) × (1000 < depth (v.infix_ o i x z)))
within_infix k complete.itself e h = inr (same_place e, h)
within_infix {y} k (complete.left w) e h = inl (inl (deep_in y w e h))
within_infix {y} k (complete.right w) e h = inl (inr (deep_in y w e h))

within_choice : {y x z u : Tree} {i : ℕ} (k : ℕ) → Within y (v.choice i x z u) → operator_of y ≡ Some k → 1000 < depth y → ((HasDeep x k ⊎ HasDeep z k) ⊎ HasDeep u k) ⊎ ((k ≡ i) × (1000 < depth (v.choice i x z u)))
within_choice k complete.itself e h = inr (same_place e, h)
within_choice {y} k (complete.condition w) e h = inl (inl (inl (deep_in y w e h)))
within_choice {y} k (complete.then_part w) e h = inl (inl (inr (deep_in y w e h)))
within_choice {y} k (complete.else_part w) e h = inl (inr (deep_in y w e h))

record HasDeepAny (xs : Trees) (at : ℕ) : Type 0 where
  pub deep : Tree
  pub within : WithinAny deep xs
  pub operator : operator_of deep ≡ Some at
  pub deeper : 1000 < depth deep

within_method : {y x : Tree} {xs : Trees} {i : ℕ} (k : ℕ) → Within y (v.method i x xs) → operator_of y ≡ Some k → 1000 < depth y → (HasDeep x k ⊎ HasDeepAny xs k) ⊎ ((k ≡ i) × (1000 < depth (v.method i x xs)))
within_method k complete.itself e h = inr (same_place e, h)
within_method {y} k (complete.receiver w) e h = inl (inl (deep_in y w e h))
within_method {y} k (complete.argument w) e h = inl (inr (record { deep = y; within = w; operator = e; deeper = h }))

within_brackets : {y x : Tree} {i : ℕ} {s : Sort} (k : ℕ) → Within y (v.ascribed i x s) → operator_of y ≡ Some k → 1000 < depth y → HasDeep x k
within_brackets k complete.itself e h = cc
within_brackets {y} k (complete.in_brackets w) e h = deep_in y w e h

within_and : {y x : Tree} {xs : Trees} (k : ℕ) → WithinAny y (v.and x xs) → operator_of y ≡ Some k → 1000 < depth y → HasDeep x k ⊎ HasDeepAny xs k
within_and {y} k (complete.first w) e h = inl (deep_in y w e h)
within_and {y} k (complete.further w) e h = inr (record { deep = y; within = w; operator = e; deeper = h })

no_name : {y : Tree} {i k : ℕ} → Within y (v.name i) → operator_of y ≡ Some k → ⊥
no_name complete.itself e = cc

no_numeral : {y : Tree} {i k : ℕ} → Within y (v.numeral i) → operator_of y ≡ Some k → ⊥
no_numeral complete.itself e = cc

no_literal : {y : Tree} {i w k : ℕ} → Within y (v.literal i w) → operator_of y ≡ Some k → ⊥
no_literal complete.itself e = cc

no_constant : {y : Tree} {c : Word} {i k : ℕ} → Within y (v.constant c i) → operator_of y ≡ Some k → ⊥
no_constant complete.itself e = cc

mutual
  pub least_noted : (x : Tree) (l : Option ℕ) → Least (HasDeep x) l (noted x l)
  least_noted (v.name i) l = none_of (λ k h. no_name h.within h.operator)
  least_noted (v.numeral i) l = none_of (λ k h. no_numeral h.within h.operator)
  least_noted (v.literal i w) l = none_of (λ k h. no_literal h.within h.operator)
  least_noted (v.constant c i) l = none_of (λ k h. no_constant h.within h.operator)
  least_noted (v.prefix o i x) l = changed
      (λ k p. elim p [ inl a ↦ deep_in a.deep (complete.operand a.within) a.operator a.deeper | inr b ↦ deep_here (v.prefix o i x) i k refl b ])
      (λ k h. within_prefix k h.within h.operator h.deeper)
      (both (least_noted x l) (noting i (depth x + 1) (noted x l)))
  least_noted (v.infix_ o i x y) l = changed
      (λ k p. elim p [
        | inl a ↦ elim a [ inl b ↦ deep_in b.deep (complete.left b.within) b.operator b.deeper | inr c ↦ deep_in c.deep (complete.right c.within) c.operator c.deeper ]
        | inr b ↦ deep_here (v.infix_ o i x y) i k refl b
      ])
      (λ k h. within_infix k h.within h.operator h.deeper)
      (both (both (least_noted x l) (least_noted y (noted x l))) (noting i (max (depth x) (depth y) + added o) (noted y (noted x l))))
  least_noted (v.choice i x y z) l = changed
      (λ k p. elim p [
        | inl a ↦ elim a [
          | inl b ↦ elim b [ inl c ↦ deep_in c.deep (complete.condition c.within) c.operator c.deeper | inr c ↦ deep_in c.deep (complete.then_part c.within) c.operator c.deeper ]
          | inr c ↦ deep_in c.deep (complete.else_part c.within) c.operator c.deeper
        ]
        | inr b ↦ deep_here (v.choice i x y z) i k refl b
      ])
      (λ k h. within_choice k h.within h.operator h.deeper)
      (both (both (both (least_noted x l) (least_noted y (noted x l))) (least_noted z (noted y (noted x l)))) (noting i (max (depth x) (max (depth y) (depth z)) + 1) (noted z (noted y (noted x l)))))
  least_noted (v.method i x xs) l = changed
      (λ k p. elim p [
        | inl a ↦ elim a [ inl b ↦ deep_in b.deep (complete.receiver b.within) b.operator b.deeper | inr c ↦ deep_in c.deep (complete.argument c.within) c.operator c.deeper ]
        | inr b ↦ deep_here (v.method i x xs) i k refl b
      ])
      (λ k h. within_method k h.within h.operator h.deeper)
      (both (both (least_noted x l) (least_all xs (noted x l))) (noting i (max (depth x) (depths xs) + 1) (noted_all xs (noted x l))))
  least_noted (v.ascribed i x s) l = changed (λ k a. deep_in a.deep (complete.in_brackets a.within) a.operator a.deeper) (λ k h. within_brackets k h.within h.operator h.deeper) (least_noted x l)

  least_all : (xs : Trees) (l : Option ℕ) → Least (HasDeepAny xs) l (noted_all xs l)
  least_all v.no_more l = none_of (λ k h. elim h.within [ ])
  least_all (v.and x xs) l = changed
      (λ k p. elim p [
        | inl a ↦ record { deep = a.deep; within = complete.first a.within; operator = a.operator; deeper = a.deeper }
        | inr b ↦ record { deep = b.deep; within = complete.further b.within; operator = b.operator; deeper = b.deeper }
      ])
      (λ k h. within_and k h.within h.operator h.deeper)
      (both (least_noted x l) (least_all xs (noted x l)))

-- the terms of a list
abbrev noted_list : List Tree → Option ℕ → Option ℕ
noted_list [] l = l
noted_list (x ∷ xs) l = noted_list xs (noted x l)

none_deep : {k : ℕ} → AnyDeep [] k → ⊥
none_deep h = elim h [ ]

deep_cases : {x : Tree} {xs : List Tree} {k : ℕ} → AnyDeep (x ∷ xs) k → HasDeep x k ⊎ AnyDeep xs k
deep_cases (d.this h) = inl h
deep_cases (d.another h) = inr h

least_list : (xs : List Tree) (l : Option ℕ) → Least (AnyDeep xs) l (noted_list xs l)
least_list [] l = none_of (λ k h. none_deep h)
least_list (x ∷ xs) l = changed (λ k p. elim p [ inl a ↦ d.this a | inr b ↦ d.another b ]) (λ k h. deep_cases h) (both (least_noted x l) (least_list xs (noted x l)))

loose_tells : {o : Piece} (s : List Part) (l : Option ℕ) → IsLoose o → tell o (mk s l) ≡ mk (step o s) l
loose_tells s l complete.a_call = refl
loose_tells s l complete.a_goal = refl
loose_tells s l complete.some_variables = refl
loose_tells s l complete.a_proof = refl

least_held : {ps : List Piece} {xs : List Tree} (s : List Part) (l : Option ℕ) → Holds ps xs → (measure ps (mk s l)).least ≡ noted_list xs l
least_held s l complete.nothing = refl
least_held s l (complete.a_term {x = x} {ps = ps} h) =
    ap (λ m. m.least) (measure-append (pieces x) ps (mk s l) ∙ ap (measure ps) (measured x s l)) ∙ least_held (put (depth x) s) (noted x l) h
least_held s l (complete.loose {o = o} {ps = ps} q h) = ap (λ m. (measure ps m).least) (loose_tells s l q) ∙ least_held (step o s) l h

first_by : (xs : List Tree) (o : Option ℕ) → Least (AnyDeep xs) None o → IsFirstDeep xs o
first_by xs (Some at) h = (elim (h.from at refl) [ inl a ↦ a | inr e ↦ (cc) ], λ k a. let r = h.covers k a in subst (λ q. q ≤ k) (same_place r.1) r.2)
first_by xs None h = λ k a. let r = h.covers k a in let e = r.1 in cc

pub first_deep : (ps : List Piece) (o : Option ℕ) → o ≡ (measure ps start).least → (xs : List Tree) → Holds ps xs → IsFirstDeep xs o
first_deep ps o e xs h = first_by xs o (subst (λ q. Least (AnyDeep xs) None q) (sym (e ∙ least_held [] None h)) (least_list xs None))

-- goals hold their terms
holds_binders : (bs : List Binder) {ps : List Piece} {xs : List Tree} → Holds ps xs → Holds (binder_pieces bs ++ ps) (hypotheses bs ++ xs)
holds_binders [] h = h
holds_binders (v.variables i j s ∷ bs) h = complete.loose complete.some_variables (holds_binders bs h)
holds_binders (v.hypothesis x ∷ bs) {ps} {xs} h = subst (λ q. Holds q (x ∷ (hypotheses bs ++ xs))) (sym (append_assoc (pieces x) (binder_pieces bs) ps)) (complete.a_term (holds_binders bs h))

pub goals_hold : (gs : List Goal) → Holds (goal_pieces gs) (terms_of gs)
goals_hold [] = complete.nothing
goals_hold (g ∷ gs) = complete.loose complete.a_goal (holds_binders g.binders (complete.a_term (complete.loose complete.a_proof (goals_hold gs))))

-- what the loop over pieces keeps
rest_is : (ps : List Piece) (i : ℕ) (o : Piece) → slice_get ps i ≡ Some o → drop i ps ≡ o ∷ drop (i + 1) ps
rest_is ps i o e = drop_more ps i o (slice_get_within ps i o e) ∙ ap (λ q. q ∷ drop (i + 1) ps) (get_or_from_slice_get ps i o o e)

pub measure_next : (ps : List Piece) (i : ℕ) (o : Piece) (s t : List Part) (p l k : Option ℕ) (d : ℕ) → slice_get ps i ≡ Some o → t ≡ step o s → p ≡ place_of o → d ≡ top t → k ≡ note p d l → measure (drop i ps) (mk s l) ≡ measure ps start → measure (drop (i + 1) ps) (mk t k) ≡ measure ps start
measure_next ps i o s t p l k d e f g h q m =
    let same : k ≡ note (place_of o) (top (step o s)) l = q ∙ (λ j. note (g j) (h j) l) ∙ ap (λ w. note (place_of o) (top w) l) f in
    (λ j. measure (drop (i + 1) ps) (mk (f j) (same j))) ∙ sym (ap (λ w. measure w (mk s l)) (rest_is ps i o e)) ∙ m

pub measure_ends : (ps : List Piece) (i : ℕ) (s : List Part) (l : Option ℕ) → length ps ≤ i → measure (drop i ps) (mk s l) ≡ measure ps start → l ≡ (measure ps start).least
measure_ends ps i s l h m = sym (ap (λ w. (measure w (mk s l)).least) (drop_all i ps h)) ∙ ap (λ w. w.least) m
