-- The terminals of a term give its pieces.
use Rattle.std.proofs.Common.{◌≡◌, ℕ, suc, ◌+◌, ◌-◌, ◌<◌, ◌≤◌, ◌==◌, true, false, List, [], ◌∷◌, ◌++◌, length, Option, Some, None, refl, sym, ap, arith, ◌∙◌, append_assoc, append-nil}
use Rattle.std.specs.Prelude.{slice_get, if◌then◌else◌}
use Rattle.std.proofs.lemmas.Option.{slice_get-get_or}
use Rattle.bv_grammar.specs.declared.words.Word.{Word}
use Rattle.bv_grammar.specs.declared.words.Word.TheVariants as words
use Rattle.bv_grammar.specs.declared.words.Terminal.{Terminal}
use Rattle.bv_grammar.specs.declared.words.Terminal.TheVariants as terminals
use Rattle.bv_grammar.specs.declared.words.Role.{Role}
use Rattle.bv_grammar.specs.declared.words.Role.TheVariants as roles
use Rattle.bv_grammar.specs.declared.reading.Taken.{Taken}
use Rattle.bv_grammar.specs.Grammar.{terminal_of, Symbol, terminal, word, term, tail, call, methods, more_methods, arguments, dots, atom, literal, closing, sort, Rule, file, is_word, this_word}
use Rattle.bv_grammar.specs.Grammar as g
use Rattle.bv_grammar.specs.Derivation.{Derives, here, taken, not_next, by_rule}
use Rattle.bv_grammar.specs.Taking.{IsTakenAs, AreTaken, terms_open, waiting}
use Rattle.bv_grammar.proofs.Derivations.{grows, follow}
use Rattle.bv_grammar.proofs.Unique.{one_role}
use Rattle.bv_trees.specs.declared.pieces.Sort.{Sort}
use Rattle.bv_trees.specs.declared.pieces.Sort.TheVariants as sorts
use Rattle.bv_trees.specs.declared.pieces.Piece.{Piece}
use Rattle.bv_trees.specs.declared.pieces.Piece.TheVariants as piece
use Rattle.bv_trees.specs.declared.building.Frame.{Frame}
use Rattle.bv_trees.specs.declared.building.Frame.TheVariants as frame
use Rattle.bv_trees.specs.Trees.{Tree, Trees}
use Rattle.bv_trees.specs.Terms as t
use Rattle.bv_trees.specs.Terms.{IsAt, IsWord, IsNot, SortAt, Term, Operand, Tail, Methods, Arguments, Atoms, Dots, Atom, Literal, Closing}
use Rattle.bv_trees.specs.Codes.{pieces}
use Rattle.bv_trees.specs.Codes as codes
use Rattle.bv_trees.specs.Building as b
use Rattle.bv_trees.specs.Building.{Building, method_of, piece_of, leaves, in_last_part, on_role, on_word, role_of, run, complete, wait, put, number, sort_behind, point, close}
use Rattle.bv_trees.proofs.Derived.{by_sort, by_term, by_operand, by_atom, by_literal, by_dots}
use Rattle.bv_trees.proofs.Settling.{st, Inner, none, unwound, completed, left_bracket, inner_behind, unwound_behind}

-- the terminals that are reached are taken so
pub record AllTaken (ts : List Terminal) (xs : List Taken) : Type 0 where
  pub taken : AreTaken ts xs
  pub all : (i : ℕ) (r : Role) (a : List Symbol) → IsTakenAs ts i r a → i < length xs

same_taken : {x : Taken} {r : Role} {w : ℕ} → x.role ≡ r → x.waiting ≡ w → x ≡ record { role = r; waiting = w }
same_taken e f = λ k. record { role = e k; waiting = f k }

pub there : {ts : List Terminal} {xs : List Taken} {i : ℕ} {r : Role} {a : List Symbol} → AllTaken ts xs → IsTakenAs ts i r a → slice_get xs i ≡ Some (record { role = r; waiting = waiting a })
there {ts} {xs} {i} {r} {a} k h =
    let found = slice_get-get_or xs i (record { role = r; waiting = 0 }) (k.all i r a h) in
    let x = k.taken i _ found in
    let same = one_role ts i _ r x.0 a x.1 h in
    found ∙ ap Some (same_taken same.0 (x.2 ∙ ap waiting same.1))

pub next_role : {ts : List Terminal} {xs : List Taken} {i : ℕ} {r : Role} {a : List Symbol} → AllTaken ts xs → IsTakenAs ts i r a → role_of (slice_get xs i) ≡ Some r
next_role k h = ap role_of (there k h)

run_next : (xs : List Taken) (i : ℕ) → run xs (i + 1) ≡ b.step i (slice_get xs i) (role_of (slice_get xs (i + 1))) (run xs i)
run_next xs i = ap (run xs) (plus i)
  where
    plus : (n : ℕ) → n + 1 ≡ suc n
    plus n = omega arith

-- a terminal is taken
pub takes : {ts : List Terminal} {xs : List Taken} {i : ℕ} {r : Role} {a : List Symbol} {s : Building} → AllTaken ts xs → IsTakenAs ts i r a → run xs i ≡ s → run xs (i + 1) ≡ on_role i r (waiting a) (role_of (slice_get xs (i + 1))) s
takes {xs = xs} {i = i} k h e = run_next xs i ∙ ap (λ x. b.step i x (role_of (slice_get xs (i + 1))) (run xs i)) (there k h) ∙ ap (on_role i _ _ (role_of (slice_get xs (i + 1)))) e

pub on : {ts : List Terminal} {s : Symbol} {r a : List Symbol} {i : ℕ} → Derives ts file 0 (s ∷ a) i → Rule s r → Derives ts file 0 (r ++ a) i
on d q = follow d (by_rule q here)

pub past : {ts : List Terminal} {r : Role} {a : List Symbol} {i : ℕ} → Derives ts file 0 (terminal r ∷ a) i → IsAt ts (terminal_of r) i → Derives ts file 0 a (i + 1)
past d e = follow d (taken e here)

pub taken_as : {ts : List Terminal} {r : Role} {a : List Symbol} {i : ℕ} → Derives ts file 0 (terminal r ∷ a) i → IsAt ts (terminal_of r) i → IsTakenAs ts i r a
taken_as d e = record { derived = d; there = e }

-- behind a term, what waits in it is not left yet
pub record After (xs : List Taken) (fs : List Frame) (g : Option ℕ) (n : ℕ) (ps : List Piece) (j : ℕ) : Type 0 where
  pub inner : List Frame
  pub method : Option ℕ
  pub so_far : List Piece
  pub open_ : Inner inner
  pub stands : run xs j ≡ st (inner ++ fs) method g n so_far
  pub gives : so_far ++ (b.closing method ++ unwound inner) ≡ ps

pub after_as : {xs : List Taken} {fs : List Frame} {g : Option ℕ} {n : ℕ} {ps qs : List Piece} {j : ℕ} → ps ≡ qs → After xs fs g n ps j → After xs fs g n qs j
after_as e a = record { inner = a.inner; method = a.method; so_far = a.so_far; open_ = a.open_; stands = a.stands; gives = a.gives ∙ e }

pub at_rest : {xs : List Taken} {fs : List Frame} {g : Option ℕ} {n : ℕ} {ps : List Piece} {j : ℕ} → run xs j ≡ st fs None g n ps → After xs fs g n ps j
at_rest {ps = ps} e = record { inner = []; method = None; so_far = ps; open_ = none; stands = e; gives = append-nil ps }

-- what waits for the term has it
pub under : {xs : List Taken} {f : Frame} {fs : List Frame} {g : Option ℕ} {n : ℕ} {ps : List Piece} {j : ℕ} → leaves f ≡ true → After xs (f ∷ fs) g n ps j → After xs fs g n (ps ++ piece_of f) j
under {f = f} {fs = fs} {g = g} {n = n} e a = record {
  inner = a.inner ++ f ∷ [];
  method = a.method;
  so_far = a.so_far;
  open_ = inner_behind f a.open_ e;
  stands = a.stands ∙ ap (λ w. st w a.method g n a.so_far) (sym (append_assoc a.inner (f ∷ []) fs));
  gives = ap (λ w. a.so_far ++ (b.closing a.method ++ w)) (unwound_behind a.inner f) ∙ ap (λ w. a.so_far ++ w) (sym (append_assoc (b.closing a.method) (unwound a.inner) (piece_of f))) ∙ sym (append_assoc a.so_far (b.closing a.method ++ unwound a.inner) (piece_of f)) ∙ ap (λ w. w ++ piece_of f) a.gives;
}

-- what is done where so many wait
pub rests : {xs : List Taken} {fs : List Frame} {g : Option ℕ} {n : ℕ} {ps : List Piece} {j : ℕ} (k : ℕ) → k ≡ length fs → (a : After xs fs g n ps j) → complete k (st (a.inner ++ fs) a.method g n a.so_far) ≡ st fs None g n ps
rests {fs = fs} {g = g} {n = n} {ps = ps} k e a = completed a.inner fs a.method g n k a.so_far ps a.open_ e a.gives

pub on_complete : {ts : List Terminal} {xs : List Taken} {fs : List Frame} {g : Option ℕ} {n : ℕ} {ps : List Piece} {j : ℕ} {c : List Symbol} (w : Word) → AllTaken ts xs → IsTakenAs ts j (roles.Word w) c → ((s : Building) → on_word j w (waiting c) (role_of (slice_get xs (j + 1))) s ≡ complete (waiting c) s)
    → waiting c ≡ length fs → After xs fs g n ps j → run xs (j + 1) ≡ st fs None g n ps
on_complete w k h same e a = takes k h a.stands ∙ same _ ∙ rests _ e a

pub on_else : {ts : List Terminal} {xs : List Taken} {fs : List Frame} {g : Option ℕ} {n i : ℕ} {ps : List Piece} {j : ℕ} {c : List Symbol} → AllTaken ts xs → IsTakenAs ts j (roles.Word words.Else) c → waiting c ≡ suc (length fs) → After xs (frame.Choice i ∷ fs) g n ps j → run xs (j + 1) ≡ st (frame.Otherwise i ∷ fs) None g n ps
on_else k h e a = takes k h a.stands ∙ ap in_last_part (rests _ e a)

left3 : (a x y z : List Piece) → (a ++ x) ++ (y ++ z) ≡ a ++ (x ++ (y ++ z))
left3 a x y z = append_assoc a x (y ++ z)

pub infix_pieces : (a x y z : List Piece) → ((a ++ x) ++ y) ++ z ≡ a ++ (x ++ (y ++ z))
infix_pieces a x y z = append_assoc (a ++ x) y z ∙ append_assoc a x (y ++ z)

pub choice_pieces : (a x y z c : List Piece) → (((a ++ x) ++ y) ++ z) ++ c ≡ a ++ (x ++ (y ++ (z ++ c)))
choice_pieces a x y z c = append_assoc ((a ++ x) ++ y) z c ∙ infix_pieces a x y (z ++ c)

-- a numeral without a width
pub plain_number : (i : ℕ) (o : Option Role) → (o ≡ Some (roles.Word words.Hash) → ⊥) → number i o ≡ piece.Numeral i
plain_number i None n = refl
plain_number i (Some (roles.Word words.Hash)) n = absurd (n refl)
plain_number i (Some _) n = refl

role_there : {ts : List Terminal} {xs : List Taken} (i : ℕ) (w : Word) → AllTaken ts xs → (o : Option Taken) → slice_get xs i ≡ o → role_of o ≡ Some (roles.Word w) → IsWord ts w i
role_there i w k None e f = cc
role_there i w k (Some x) e f =
    let y = k.taken i x e in
    let same : x.role ≡ roles.Word w = cc in
    y.1.there ∙ ap (λ r. Some (terminal_of r)) same

pub not_there : {ts : List Terminal} {xs : List Taken} (i : ℕ) (w : Word) → AllTaken ts xs → (IsWord ts w i → ⊥) → role_of (slice_get xs i) ≡ Some (roles.Word w) → ⊥
not_there {xs = xs} i w k n e = n (role_there i w k (slice_get xs i) refl e)

pub no_word : (ts : List Terminal) (i : ℕ) (w : Word) → IsNot ts (is_word w) i → IsWord ts w i → ⊥
no_word ts i w n e = n (terminals.Word w) e this_word

literal_run : {ts : List Terminal} {xs : List Taken} {fs : List Frame} {μ gl : Option ℕ} {n i j : ℕ} {x : Tree} {a : List Symbol} {ps : List Piece} → AllTaken ts xs → IsAt ts terminals.Numeral i → Literal ts i (i + 1) x j → Derives ts file 0 (atom ∷ a) i → run xs i ≡ st fs μ gl n ps → run xs j ≡ st fs μ gl n (ps ++ pieces x)
literal_run {fs = fs} {μ = μ} {gl = gl} {n = n} {i = i} {ps = ps} k e (t.without_width d) r h =
    takes k (taken_as (on r g.a_numeral) e) h ∙ ap (λ p. st fs μ gl n (ps ++ p ∷ [])) (plain_number i _ (not_there (i + 1) words.Hash k (no_word _ (i + 1) words.Hash d)))
literal_run {fs = fs} {μ = μ} {gl = gl} {n = n} {i = i} {ps = ps} k e (t.with_width d m) r h =
    let r1 = past (on r g.a_numeral) e in
    let hash = taken_as (on r1 g.with_width) d in
    let two : i + 2 ≡ i + 1 + 1 = omega arith in
    let first = takes k (taken_as (on r g.a_numeral) e) h ∙ ap (λ o. st fs μ gl n (ps ++ number i o ∷ [])) (next_role k hash) ∙ ap (λ q. st fs μ gl n (ps ++ piece.Literal i q ∷ [])) two in
    takes k (taken_as (past (on r1 g.with_width) d) m) (takes k hash first)

-- the sort of an ascription
pub sort_run : {ts : List Terminal} {xs : List Taken} {i j : ℕ} {s : Sort} {a : List Symbol} {c : Building} → AllTaken ts xs → SortAt ts i s j → Derives ts file 0 (sort ∷ a) i → run xs i ≡ c → run xs j ≡ c
sort_run k (t.truths e) r h = takes k (taken_as (on r g.truth) e) h
sort_run k (t.vectors e m) r h = takes k (taken_as (past (on r g.vector) e) m) (takes k (taken_as (on r g.vector) e) h)

pub sort_told : {ts : List Terminal} {xs : List Taken} (i : ℕ) {j : ℕ} {s : Sort} {a : List Symbol} → AllTaken ts xs → SortAt ts (i + 1) s j → Derives ts file 0 (sort ∷ a) (i + 1) → sort_behind i (role_of (slice_get xs (i + 1))) ≡ Some s
sort_told i k (t.truths e) r = ap (sort_behind i) (next_role k (taken_as (on r g.truth) e))
sort_told i k (t.vectors e m) r =
    let two : i + 2 ≡ i + 1 + 1 = omega arith in
    ap (sort_behind i) (next_role k (taken_as (on r g.vector) e)) ∙ ap (λ q. Some (sorts.Vector q)) two

-- the brackets are closed
closing_run : {ts : List Terminal} {xs : List Taken} {fs : List Frame} {μ gl : Option ℕ} {n i j : ℕ} {x y : Tree} {a : List Symbol} (ps : List Piece) → AllTaken ts xs → Closing ts x i y j → Derives ts file 0 (closing ∷ a) i → waiting a ≡ length fs → terms_open a ≡ suc (length fs)
    → After xs (frame.Bracket μ ∷ fs) gl n (ps ++ pieces x) i → run xs j ≡ st fs μ gl n (ps ++ pieces y)
closing_run {fs = fs} {μ = μ} {gl = gl} {n = n} {x = x} ps k (t.plain e) r w o h =
    takes k (taken_as (on r g.plain_closing) e) h.stands ∙ left_bracket h.inner fs h.method μ gl n _ h.so_far (ps ++ pieces x) h.open_ w h.gives
closing_run {ts} {xs} {fs} {μ} {gl} {n} {i} {x = x} {a = a} ps k (t.with_sort {s = s} e d c) r w o h =
    let r1 = on r g.ascribed in
    let r2 = past r1 e in
    let keep : terms_open a - 1 + 1 ≡ suc (length fs) = omega (arith, o) in
    let before = takes k (taken_as r1 e) h.stands ∙ ap (λ q. b.ascribe i q (complete (terms_open a - 1 + 1) (st (h.inner ++ frame.Bracket μ ∷ fs) h.method gl n h.so_far))) (sort_told i k d r2) ∙ ap (put (piece.Ascribed i s)) (rests _ keep h) in
    let behind = sort_run k d r2 before in
    let all : ((ps ++ pieces x) ++ piece.Ascribed i s ∷ []) ++ ([] ++ []) ≡ ps ++ (pieces x ++ piece.Ascribed i s ∷ []) = append-nil _ ∙ append_assoc ps (pieces x) (piece.Ascribed i s ∷ []) in
    takes k (taken_as (follow r2 (by_sort d here)) c) behind ∙ left_bracket [] fs None μ gl n _ ((ps ++ pieces x) ++ piece.Ascribed i s ∷ []) (ps ++ (pieces x ++ piece.Ascribed i s ∷ [])) none w all

-- a point right behind a method's name, and another
same_is : (n : ℕ) → (n == n) ≡ true
same_is n = grind arith

pub point_closes : (m i : ℕ) (s : Building) → m + 1 ≡ i → point i (Some m) s ≡ close s
point_closes m i s e = ap (λ q. if q then close s else s) (ap (λ k. m + 1 == k) (sym e) ∙ same_is (m + 1))

other_is : (m n : ℕ) → m < n → (m == n) ≡ false
other_is m n h = grind arith

pub point_stays : (m i : ℕ) (s : Building) → m + 1 < i → point i (Some m) s ≡ s
point_stays m i s h = ap (λ q. if q then close s else s) (other_is (m + 1) i h)

dots_run : {ts : List Terminal} {xs : List Taken} {fs : List Frame} {gl : Option ℕ} {m n i j : ℕ} {x y : Tree} {a : List Symbol} (ps : List Piece) → AllTaken ts xs → Dots ts x i y j → Derives ts file 0 (dots ∷ a) i → m + 1 < i → run xs i ≡ st fs (Some m) gl n (ps ++ pieces x) → run xs j ≡ st fs (Some m) gl n (ps ++ pieces y)
dots_run ps k (t.no_dot e) r b h = h
dots_run {fs = fs} {gl = gl} {m = m} {n = n} {i = i} {x = x} ps k (t.a_dot e d u) r b h =
    let r1 = on r g.a_dot in
    let r2 = past r1 e in
    let at_dot = takes k (taken_as r1 e) h ∙ point_stays m i (st fs (Some m) gl n (ps ++ pieces x)) b in
    let at_name = takes k (taken_as r2 d) at_dot ∙ ap (λ w. st fs (Some m) gl n w) (append_assoc ps (pieces x) (piece.Call (i + 1) ∷ piece.Method (i + 1) ∷ [])) in
    dots_run ps k u (past r2 d) (omega (arith, b)) at_name

closing_grows : {ts : List Terminal} {i j : ℕ} {x y : Tree} → Closing ts x i y j → i < j
closing_grows (t.plain e) = omega arith
closing_grows (t.with_sort e s c) = omega (arith, grows (by_sort s (here {a = []})))

atom_grows : {ts : List Terminal} {i j : ℕ} {x : Tree} → Atom ts i x j → i < j
atom_grows (t.named e) = omega arith
atom_grows (t.number e l) = omega (arith, grows (by_literal l (here {a = []})))
atom_grows (t.a_constant c e) = omega arith
atom_grows (t.bracket e x c) = omega (arith, grows (by_term x (here {a = []})), closing_grows c)

-- the role of what begins an atom isn't a point
pub call_pieces : (ps x args c m : List Piece) → ((ps ++ x) ++ c) ++ (args ++ m) ≡ ps ++ (x ++ (c ++ (args ++ m)))
call_pieces ps x args c m = append_assoc (ps ++ x) c (args ++ m) ∙ append_assoc ps x (c ++ (args ++ m))

pub follow_operand : {ts : List Terminal} {p l i j : ℕ} {x : Tree} {a : List Symbol} → Derives ts file 0 (term p ∷ a) i → Operand ts i l x j → Derives ts file 0 (tail p l ∷ a) j
follow_operand r o = follow r (by_operand o here)

pub one_fewer : {a n : ℕ} → a ≡ n → suc a - 1 ≡ n
one_fewer e = omega (arith, e)

mutual
  pub term_run : {ts : List Terminal} {xs : List Taken} {fs : List Frame} {gl : Option ℕ} {p n i j : ℕ} {x : Tree} {a : List Symbol} (ps : List Piece) → AllTaken ts xs → Term ts p i x j → Derives ts file 0 (term p ∷ a) i → terms_open a ≡ length fs → run xs i ≡ st fs None gl n ps
      → After xs fs gl n (ps ++ pieces x) j
  term_run ps k (t.term o u) r w h = tail_run ps k u (follow_operand r o) w (operand_run ps k o r w h)

  pub operand_run : {ts : List Terminal} {xs : List Taken} {fs : List Frame} {gl : Option ℕ} {p l n i j : ℕ} {x : Tree} {a : List Symbol} (ps : List Piece) → AllTaken ts xs → Operand ts i l x j → Derives ts file 0 (term p ∷ a) i → terms_open a ≡ length fs → run xs i ≡ st fs None gl n ps
      → After xs fs gl n (ps ++ pieces x) j
  operand_run {i = i} ps k (t.prefixed {w = w} {x = x} e q u) r o h =
      let r1 = on r (g.prefix q) in
      after_as (append_assoc ps (pieces x) (piece.Prefix w i ∷ [])) (under refl (term_run ps k u (past r1 e) (ap suc o) (takes k (taken_as r1 e) h)))
  operand_run {fs = fs} {i = i} ps k (t.chosen {x = x} {y = y} {z = z} e u th u' el u'') r o h =
      let r1 = on r g.choice in
      let a1 = term_run ps k u (past r1 e) (ap suc o) (takes k (taken_as r1 e) h) in
      let r2 = follow (past r1 e) (by_term u here) in
      let b1 = on_complete {fs = frame.Choice i ∷ fs} words.Then k (taken_as r2 th) (λ s. refl) (ap suc o) a1 in
      let a2 = term_run (ps ++ pieces x) k u' (past r2 th) (ap suc o) b1 in
      let r3 = follow (past r2 th) (by_term u' here) in
      let b2 = on_else k (taken_as r3 el) (ap suc o) a2 in
      let a3 = term_run ((ps ++ pieces x) ++ pieces y) k u'' (past r3 el) (ap suc o) b2 in
      after_as (choice_pieces ps (pieces x) (pieces y) (pieces z) (piece.Choice i ∷ [])) (under refl a3)
  operand_run ps k (t.called y m) r o h =
      let r1 = on (on r g.a_call) g.a_receiver in
      methods_run ps k m (follow r1 (by_atom y here)) o (atom_run ps k y r1 (one_fewer o) (ap suc o) h)

  tail_run : {ts : List Terminal} {xs : List Taken} {fs : List Frame} {gl : Option ℕ} {p l n i j : ℕ} {x y : Tree} {a : List Symbol} (ps : List Piece) → AllTaken ts xs → Tail ts p l x i y j → Derives ts file 0 (tail p l ∷ a) i → terms_open a ≡ length fs
      → After xs fs gl n (ps ++ pieces x) i → After xs fs gl n (ps ++ pieces y) j
  tail_run ps k (t.stop e) r o h = h
  tail_run {fs = fs} {gl = gl} {n = n} {i = i} {x = x} ps k (t.more {w = w} {y = y} f e q u v) r o h =
      let r1 = on r (g.infix_ f q) in
      let b1 = takes k (taken_as r1 e) h.stands ∙ ap (wait (frame.Infix w i)) (rests _ (one_fewer o) h) in
      let a1 = term_run (ps ++ pieces x) k u (past r1 e) (ap suc o) b1 in
      tail_run ps k v (follow (past r1 e) (by_term u here)) o (after_as (infix_pieces ps (pieces x) (pieces y) (piece.Infix w i ∷ [])) (under refl a1))

  methods_run : {ts : List Terminal} {xs : List Taken} {fs : List Frame} {gl : Option ℕ} {p n i j : ℕ} {x y : Tree} {a : List Symbol} (ps : List Piece) → AllTaken ts xs → Methods ts x i y j → Derives ts file 0 (methods ∷ tail p 1024 ∷ a) i → terms_open a ≡ length fs → run xs i ≡ st fs None gl n (ps ++ pieces x)
      → After xs fs gl n (ps ++ pieces y) j
  methods_run ps k (t.no_method e) r o h = at_rest h
  methods_run {fs = fs} {gl = gl} {n = n} {i = i} ps k (t.a_method e d u) r o h =
      let r1 = on r g.a_method in
      arguments_run ps k u (past (past r1 e) d) o refl (takes k (taken_as (past r1 e) d) (takes k (taken_as r1 e) h))

  arguments_run : {ts : List Terminal} {xs : List Taken} {fs : List Frame} {gl : Option ℕ} {p m n i j : ℕ} {x y : Tree} {a : List Symbol} (ps : List Piece) → AllTaken ts xs → Arguments ts x m i y j → Derives ts file 0 (more_methods ∷ tail p 1024 ∷ a) i → terms_open a ≡ length fs → m + 1 ≡ i
      → run xs i ≡ st fs (Some m) gl n ((ps ++ pieces x) ++ piece.Call m ∷ []) → After xs fs gl n (ps ++ pieces y) j
  arguments_run {fs = fs} {gl = gl} {m = m} {n = n} {i = i} {x = x} ps k (t.further e d u) r o b h =
      let r1 = on r g.further_method in
      let at_dot = takes k (taken_as r1 e) h ∙ point_closes m i (st fs (Some m) gl n ((ps ++ pieces x) ++ piece.Call m ∷ [])) b ∙ ap (λ q. st fs None gl n q) (call_pieces ps (pieces x) [] (piece.Call m ∷ []) (piece.Method m ∷ [])) in
      arguments_run ps k u (past (past r1 e) d) o refl (takes k (taken_as (past r1 e) d) at_dot)
  arguments_run {fs = fs} {gl = gl} {m = m} {n = n} {x = x} ps k (t.with_all {xs = ys} e u) r o b h =
      let r1 = follow (on r g.then_arguments) (not_next e here) in
      record {
        inner = [];
        method = Some m;
        so_far = ((ps ++ pieces x) ++ piece.Call m ∷ []) ++ codes.arguments ys;
        open_ = none;
        stands = atoms_run ((ps ++ pieces x) ++ piece.Call m ∷ []) k u r1 o (omega (arith, b)) h;
        gives = append_assoc ((ps ++ pieces x) ++ piece.Call m ∷ []) (codes.arguments ys) (piece.Method m ∷ []) ∙ call_pieces ps (pieces x) (codes.arguments ys) (piece.Call m ∷ []) (piece.Method m ∷ []);
      }

  atoms_run : {ts : List Terminal} {xs : List Taken} {fs : List Frame} {gl : Option ℕ} {p m n i j : ℕ} {ys : Trees} {a : List Symbol} (ps : List Piece) → AllTaken ts xs → Atoms ts i ys j → Derives ts file 0 (arguments ∷ tail p 1024 ∷ a) i → terms_open a ≡ length fs → m + 1 ≤ i → run xs i ≡ st fs (Some m) gl n ps
      → run xs j ≡ st fs (Some m) gl n (ps ++ codes.arguments ys)
  atoms_run {fs = fs} {gl = gl} {m = m} {n = n} ps k (t.no_atom e) r o b h = h ∙ ap (λ q. st fs (Some m) gl n q) (sym (append-nil ps))
  atoms_run {fs = fs} {gl = gl} {m = m} {n = n} ps k (t.an_atom {y = y} {xs = ys} x d u) r o b h =
      let r1 = on r g.an_argument in
      let r2 = follow r1 (by_atom x here) in
      let h1 = atom_run ps k x r1 (one_fewer o) (ap suc o) h in
      let h2 = dots_run ps k d r2 (omega (arith, b, atom_grows x)) h1 in
      let r3 = follow r2 (by_dots d here) in
      atoms_run (ps ++ pieces y) k u r3 o (omega (arith, b, atom_grows x, grows (by_dots d (here {a = []})))) h2 ∙ ap (λ q. st fs (Some m) gl n q) (append_assoc ps (pieces y) (codes.arguments ys))

  pub atom_run : {ts : List Terminal} {xs : List Taken} {fs : List Frame} {μ gl : Option ℕ} {n i j : ℕ} {x : Tree} {a : List Symbol} (ps : List Piece) → AllTaken ts xs → Atom ts i x j → Derives ts file 0 (atom ∷ a) i → waiting a ≡ length fs → terms_open a ≡ suc (length fs) → run xs i ≡ st fs μ gl n ps
      → run xs j ≡ st fs μ gl n (ps ++ pieces x)
  atom_run ps k (t.named e) r w o h = takes k (taken_as (on r g.a_variable) e) h
  atom_run ps k (t.number e l) r w o h = literal_run k e l r h
  atom_run ps k (t.a_constant c e) r w o h = takes k (taken_as (on r (g.a_constant c)) e) h
  atom_run ps k (t.bracket e u c) r w o h =
      let r1 = on r g.in_brackets in
      let a1 = term_run ps k u (past r1 e) o (takes k (taken_as r1 e) h) in
      closing_run ps k c (follow (past r1 e) (by_term u here)) w o a1
