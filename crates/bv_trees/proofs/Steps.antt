-- How a reading goes on, symbol by symbol.
use Rattle.std.proofs.Common.{◌≡◌, ℕ, suc, ◌+◌, ◌-◌, ◌<◌, true, false, List, [], ◌∷◌, ◌++◌, length, Some, None, refl, sym, ap, subst, arith, ◌∙◌, append_assoc, append-nil}
use Rattle.std.specs.Prelude.{slice_get}
use Rattle.bv_grammar.specs.declared.words.Word.{Word}
use Rattle.bv_grammar.specs.declared.words.Word.TheVariants as words
use Rattle.bv_grammar.specs.declared.words.Terminal.{Terminal}
use Rattle.bv_grammar.specs.declared.words.Terminal.TheVariants as terminals
use Rattle.bv_grammar.specs.declared.words.Role.{Role}
use Rattle.bv_grammar.specs.declared.words.Role.TheVariants as roles
use Rattle.bv_grammar.specs.declared.words.Fixity.{Fixity}
use Rattle.bv_grammar.specs.declared.reading.Taken.{Taken}
use Rattle.bv_grammar.specs.Operators.{prefix_level, fixity_of, when_fits}
use Rattle.bv_grammar.specs.Grammar.{terminal_of, is_word, this_word, operator_on, begins_atom, fitting, atom_name, atom_numeral, atom_constant, atom_round, Symbol, terminal, word, finish, unless, items, path, dotted, paths, part, binders, names, brace_names, bound, sort, proof, intro, separator, tactic, term, tail, call, methods, more_methods, arguments, dots, atom, literal, closing, file, IsConstant}
use Rattle.bv_grammar.specs.Grammar as g
use Rattle.bv_grammar.specs.Derivation.{Derives, here, not_next, IsSyntaxFault}
use Rattle.bv_grammar.specs.Taking.{IsTakenAs, terms_open}
use Rattle.bv_grammar.proofs.Derivations.{grows, follow}
use Rattle.bv_trees.specs.declared.pieces.Piece.{Piece}
use Rattle.bv_trees.specs.declared.pieces.Piece.TheVariants as piece
use Rattle.bv_trees.specs.declared.building.Frame.TheVariants as frame
use Rattle.bv_trees.specs.Trees as v
use Rattle.bv_trees.specs.Trees.{Tree, Trees}
use Rattle.bv_trees.specs.Terms as t
use Rattle.bv_trees.specs.Terms.{IsAt, IsWord, IsNot, Term, Operand, Tail, Arguments, Atoms, Dots, Atom}
use Rattle.bv_trees.specs.Codes.{pieces}
use Rattle.bv_trees.specs.Codes as codes
use Rattle.bv_trees.specs.Building.{role_of, is_open, wait, number}
use Rattle.bv_trees.proofs.Derived.{by_term, by_atom, by_dots, by_literal, by_sort}
use Rattle.bv_trees.proofs.Settling.{st, none}
use Rattle.bv_trees.proofs.OfTerms.{After, AllTaken, after_as, at_rest, under, takes, taken_as, next_role, on, past, rests, on_complete, on_else, infix_pieces, choice_pieces, plain_number, not_there, no_word, point_closes, point_stays, call_pieces, one_fewer}
use Rattle.bv_trees.specs.Complete as c
use Rattle.bv_trees.specs.Complete.{SoFar, Called}
use Rattle.bv_trees.proofs.Parts.{whole_method, whole_none, whole_literal, in_term, in_atom, in_so_far, called_operand}
use Rattle.bv_trees.proofs.Held.{Held, held_as, held_term, held_loose, Has, has_as, has_more}
use Rattle.bv_trees.proofs.Standing.{last_role, Done, Now, now_open, now_done, now_rests, Before, Part, Callee, Atomic, Receiver, Named, Given, Pointed, still_now, State}

-- what the terminal that was taken last is taken as
before_next : (i : ℕ) → i + 1 - 1 ≡ i
before_next i = omega arith

pub last_is : {ts : List Terminal} {xs : List Taken} {i : ℕ} {r : Role} {a : List Symbol} → AllTaken ts xs → IsTakenAs ts i r a → last_role xs (i + 1) ≡ Some r
last_is {xs = xs} {i = i} k h = ap (λ n. role_of (slice_get xs n)) (before_next i) ∙ next_role k h

pub done_by : {ts : List Terminal} {xs : List Taken} {i : ℕ} {r : Role} {a : List Symbol} → AllTaken ts xs → IsTakenAs ts i r a → is_open (Some r) ≡ false → Done xs (i + 1)
done_by k h e = ap is_open (last_is k h) ∙ e

pub open_by : {ts : List Terminal} {xs : List Taken} {i : ℕ} {r : Role} {a : List Symbol} → AllTaken ts xs → IsTakenAs ts i r a → is_open (Some r) ≡ true → is_open (last_role xs (i + 1)) ≡ true
open_by k h e = ap is_open (last_is k h) ∙ e

-- at the fault nothing goes on
not_operator : {ts : List Terminal} {i p l : ℕ} {a : List Symbol} → IsSyntaxFault ts i → Derives ts file 0 (tail p l ∷ a) i → IsNot ts (operator_on p l) i
not_operator f r u e (fitting o q) = f.not_here (_, past (on r (g.infix_ o q)) e)

not_method : {ts : List Terminal} {i : ℕ} {a : List Symbol} → IsSyntaxFault ts i → Derives ts file 0 (methods ∷ a) i → IsNot ts (is_word words.Dot) i
not_method f r u e this_word = f.not_here (_, past (on r g.a_method) e)

not_further : {ts : List Terminal} {i : ℕ} {a : List Symbol} → IsSyntaxFault ts i → Derives ts file 0 (more_methods ∷ a) i → IsNot ts (is_word words.Dot) i
not_further f r u e this_word = f.not_here (_, past (on r g.further_method) e)

not_dot : {ts : List Terminal} {i : ℕ} {a : List Symbol} → IsSyntaxFault ts i → Derives ts file 0 (dots ∷ a) i → IsNot ts (is_word words.Dot) i
not_dot f r u e this_word = f.not_here (_, past (on r g.a_dot) e)

not_hash : {ts : List Terminal} {i : ℕ} {a : List Symbol} → IsSyntaxFault ts i → Derives ts file 0 (literal ∷ a) i → IsNot ts (is_word words.Hash) i
not_hash f r u e this_word = f.not_here (_, past (on r g.with_width) e)

not_argument : {ts : List Terminal} {i : ℕ} {a : List Symbol} → IsSyntaxFault ts i → Derives ts file 0 (arguments ∷ a) i → IsNot ts begins_atom i
not_argument f r u e atom_name = f.not_here (_, past (on (on r g.an_argument) g.a_variable) e)
not_argument f r u e atom_numeral = f.not_here (_, past (on (on r g.an_argument) g.a_numeral) e)
not_argument f r u e (atom_constant q) = f.not_here (_, past (on (on r g.an_argument) (g.a_constant q)) e)
not_argument f r u e atom_round = f.not_here (_, past (on (on r g.an_argument) g.in_brackets) e)

-- what ends where nothing goes on with it
part_term : {ts : List Terminal} {p i l k j : ℕ} {x y : Tree} → SoFar ts p i l x k → Tail ts p l x k y j → Term ts p i y j
part_term (c.first o) u = t.term o u
part_term (c.onward o s e q w) u = part_term s (t.more o e q w u)

pub stop_tail : {ts : List Terminal} {xs : List Taken} {a : List Symbol} {p l k : ℕ} {pre : List Piece} → Part ts xs (State ts xs a) a p l pre k → IsNot ts (operator_on p l) k → State ts xs a pre k
stop_tail {k = k} {pre = pre} s n = s.next pre s.tree k (part_term s.read (t.stop n)) s.after s.has s.done

stop_methods : {ts : List Terminal} {xs : List Taken} {a : List Symbol} {k : ℕ} {pre : List Piece} → Receiver ts xs (State ts xs a) a pre k → IsNot ts (is_word words.Dot) k → State ts xs a pre k
stop_methods {k = k} {pre = pre} s n = s.next pre s.tree k (t.called s.atom (t.no_method n)) (at_rest s.stands) s.has s.done

stop_dots : {ts : List Terminal} {xs : List Taken} {k : ℕ} {pre : List Piece} (a : List Symbol) → Pointed ts xs (State ts xs a) pre k → IsNot ts (is_word words.Dot) k → State ts xs a pre k
stop_dots {k = k} {pre = pre} a s n = s.next pre s.tree k (t.no_dot n) s.whole s.stands s.has s.done

-- the arguments have ended
given_code : (ps ds bs cs : List Piece) (m : ℕ) → bs ≡ ds ++ [] → (((ps ++ cs) ++ piece.Call m ∷ []) ++ ds) ++ (piece.Method m ∷ []) ≡ ps ++ (cs ++ (piece.Call m ∷ (bs ++ piece.Method m ∷ [])))
given_code ps ds bs cs m e =
    append_assoc ((ps ++ cs) ++ piece.Call m ∷ []) ds (piece.Method m ∷ []) ∙ call_pieces ps cs ds (piece.Call m ∷ []) (piece.Method m ∷ [])
    ∙ ap (λ w. ps ++ (cs ++ (piece.Call m ∷ (w ++ piece.Method m ∷ [])))) (sym (e ∙ append-nil ds))

stop_arguments : {ts : List Terminal} {xs : List Taken} {a : List Symbol} {k : ℕ} {pre : List Piece} → Given ts xs (State ts xs a) a pre k → IsNot ts begins_atom k → State ts xs a pre k
stop_arguments {k = k} {pre = pre} s n =
    let all = s.put v.no_more in
    let front = ((s.so_far ++ pieces s.tree) ++ piece.Call s.at ∷ []) ++ s.given in
    let same = given_code s.so_far s.given (codes.arguments all) (pieces s.tree) s.at (s.code v.no_more) in
    s.next pre (v.method s.at s.tree all) k (called_operand s.called (t.with_all s.no_dot (s.grow v.no_more k (t.no_atom n))))
    (record { inner = []; method = Some s.at; so_far = front; open_ = none; stands = s.stands; gives = same })
    (has_as same (has_more (piece.Method s.at ∷ []) s.has)) s.done

-- behind the last method of a receiver come its arguments
to_arguments : {ts : List Terminal} {xs : List Taken} {a : List Symbol} {k : ℕ} {pre : List Piece} → Named ts xs (State ts xs a) a pre k → IsNot ts (is_word words.Dot) k → Given ts xs (State ts xs a) a pre k
to_arguments {ts} {k = k} s n =
    let front = (s.so_far ++ pieces s.tree) ++ piece.Call s.at ∷ [] in
    let same : front ≡ front ++ [] = sym (append-nil front) in
    record {
      frames = s.frames;
      goal = s.goal;
      binder = s.binder;
      so_far = s.so_far;
      from = s.from;
      tree = s.tree;
      at = s.at;
      called = s.called;
      no_dot = subst (IsNot ts (is_word words.Dot)) (sym s.right) n;
      given = [];
      put = λ zs. zs;
      grow = λ zs j u. subst (λ w. Atoms ts w zs j) (sym s.right) u;
      code = λ zs. refl;
      late = omega (arith, s.right);
      stands = s.stands ∙ ap (λ w. st s.frames (Some s.at) s.goal s.binder w) same;
      counts = s.counts;
      held = held_as same (held_loose (held_term s.held s.whole) c.a_call);
      has = has_as same s.has;
      done = s.done;
      next = s.next;
    }

-- what is complete where the reading ends
pub final : {ts : List Terminal} {xs : List Taken} (a : List Symbol) {pre : List Piece} {i : ℕ} → Derives ts file 0 a i → State ts xs a pre i → Now ts xs pre i
final [] r s = s
final (finish ∷ a) r s = s.0
final (terminal q ∷ a) r s = s.0
final (unless x ∷ a) r s = s.0
final (sort ∷ a) r s = s.0
final (closing ∷ a) r s = s.0
final (term p ∷ a) r s = s.now
final (call ∷ a) r s = s.now
final (atom ∷ a) r s = s.now
final (tail p l ∷ a) r s = record { ends = λ f e. let n = not_operator f r in (final a (follow (on r g.no_infix) (not_next n here)) (stop_tail s n)).ends f e }
final (methods ∷ a) r s = record { ends = λ f e. let n = not_method f r in (final a (follow (on r g.no_method) (not_next n here)) (stop_methods s n)).ends f e }
final (more_methods ∷ a) r s = record {
  ends = λ f e.
      let n = not_further f r in
      let r1 = follow (on r g.then_arguments) (not_next n here) in
      let m = not_argument f r1 in
      (final a (follow (on r1 g.no_argument) (not_next m here)) (stop_arguments (to_arguments s n) m)).ends f e;
}
final (arguments ∷ a) r s = record { ends = λ f e. let n = not_argument f r in (final a (follow (on r g.no_argument) (not_next n here)) (stop_arguments s n)).ends f e }
final (dots ∷ a) r s = record { ends = λ f e. let n = not_dot f r in (final a (follow (on r g.no_dot) (not_next n here)) (stop_dots a s n)).ends f e }
final (literal ∷ a) r s = record { ends = λ f e. let n = not_hash f r in (final a (follow (on r g.without_width) (not_next n here)) (s.0 n)).ends f e }
final (binders ∷ a) r s = s.loose.now
final (items ∷ a) r s = still_now s.still
final (path ∷ a) r s = still_now s.still
final (dotted ∷ a) r s = still_now s.still
final (paths ∷ a) r s = still_now s.still
final (part ∷ a) r s = still_now s.still
final (names ∷ a) r s = still_now s.still
final (brace_names ∷ a) r s = still_now s.still
final (bound ∷ a) r s = still_now s.still
final (proof ∷ a) r s = still_now s.still
final (intro ∷ a) r s = still_now s.still
final (separator ∷ a) r s = still_now s.still
final (tactic ∷ a) r s = still_now s.still

-- a term in a prefix operator
pub in_prefix : {ts : List Terminal} {xs : List Taken} {a : List Symbol} {p l i : ℕ} {w : Word} {pre : List Piece} → AllTaken ts xs → prefix_level w ≡ Some l → Derives ts file 0 (term p ∷ a) i → Before ts xs (State ts xs a) a p pre i → State ts xs (terminal (roles.Prefix w) ∷ term l ∷ tail p l ∷ a) pre i
in_prefix {i = i} {w = w} k q r s = (
  s.now,
  λ e.
      let r1 = on r (g.prefix q) in
      let stands = takes k (taken_as r1 e) s.stands in
      record {
        frames = frame.Prefix w i ∷ s.frames;
        goal = s.goal;
        binder = s.binder;
        so_far = s.so_far;
        stands = stands;
        counts = ap suc s.counts;
        held = s.held;
        has = s.has;
        now = now_open (open_by k (taken_as r1 e) refl) stands s.held s.has;
        next = λ pre' x j u h m n.
            let same = append_assoc s.so_far (pieces x) (piece.Prefix w i ∷ []) in
            record {
              frames = s.frames;
              goal = s.goal;
              binder = s.binder;
              so_far = s.so_far;
              from = i;
              tree = v.prefix w i x;
              begins = r;
              read = c.first (t.prefixed e q u);
              after = after_as same (under refl h);
              counts = s.counts;
              held = s.held;
              has = has_as same (has_more (piece.Prefix w i ∷ []) m);
              done = n;
              next = s.next;
            };
      },
)

-- the parts of an `if`
in_else : {ts : List Terminal} {xs : List Taken} {a : List Symbol} {p i m n j : ℕ} {x y : Tree} {pre pre' : List Piece} → AllTaken ts xs → Derives ts file 0 (term p ∷ a) i → (s : Before ts xs (State ts xs a) a p pre i) → IsWord ts words.If i → Term ts 0 (i + 1) x m → IsWord ts words.Then m → Term ts 0 (m + 1) y n → j ≡ n
    → Derives ts file 0 (word words.Else ∷ term 0 ∷ tail p 0 ∷ a) j → After xs (frame.Choice i ∷ s.frames) s.goal s.binder ((s.so_far ++ pieces x) ++ pieces y) j → Held ts ((s.so_far ++ pieces x) ++ pieces y) → Has pre' ((s.so_far ++ pieces x) ++ pieces y) → Done xs j → State ts xs (word words.Else ∷ term 0 ∷ tail p 0 ∷ a) pre' j
in_else {ts} {i = i} {j = j} {x = x} {y = y} k r s e u th u' q r3 h held m n = (
  now_done n h refl held m,
  λ el.
      let stands = on_else k (taken_as r3 el) (ap suc s.counts) h in
      record {
        frames = frame.Otherwise i ∷ s.frames;
        goal = s.goal;
        binder = s.binder;
        so_far = (s.so_far ++ pieces x) ++ pieces y;
        stands = stands;
        counts = ap suc s.counts;
        held = held;
        has = m;
        now = now_open (open_by k (taken_as r3 el) refl) stands held m;
        next = λ pre' z j' u'' h' m' n'.
            let same = choice_pieces s.so_far (pieces x) (pieces y) (pieces z) (piece.Choice i ∷ []) in
            record {
              frames = s.frames;
              goal = s.goal;
              binder = s.binder;
              so_far = s.so_far;
              from = i;
              tree = v.choice i x y z;
              begins = r;
              read = c.first (t.chosen e u th u' (subst (IsWord ts words.Else) q el) (subst (λ w. Term ts 0 (w + 1) z j') q u''));
              after = after_as same (under refl h');
              counts = s.counts;
              held = s.held;
              has = has_as same (has_more (piece.Choice i ∷ []) m');
              done = n';
              next = s.next;
            };
      },
)

in_then : {ts : List Terminal} {xs : List Taken} {a : List Symbol} {p i j : ℕ} {x : Tree} {pre pre' : List Piece} → AllTaken ts xs → Derives ts file 0 (term p ∷ a) i → (s : Before ts xs (State ts xs a) a p pre i) → IsWord ts words.If i → Term ts 0 (i + 1) x j
    → Derives ts file 0 (word words.Then ∷ term 0 ∷ word words.Else ∷ term 0 ∷ tail p 0 ∷ a) j → After xs (frame.Choice i ∷ s.frames) s.goal s.binder (s.so_far ++ pieces x) j → Held ts (s.so_far ++ pieces x) → Has pre' (s.so_far ++ pieces x) → Done xs j
    → State ts xs (word words.Then ∷ term 0 ∷ word words.Else ∷ term 0 ∷ tail p 0 ∷ a) pre' j
in_then {i = i} {x = x} k r s e u r2 h held m n = (
  now_done n h refl held m,
  λ th.
      let stands = on_complete {fs = frame.Choice i ∷ s.frames} words.Then k (taken_as r2 th) (λ w. refl) (ap suc s.counts) h in
      let r3 = past r2 th in
      record {
        frames = frame.Choice i ∷ s.frames;
        goal = s.goal;
        binder = s.binder;
        so_far = s.so_far ++ pieces x;
        stands = stands;
        counts = ap suc s.counts;
        held = held;
        has = m;
        now = now_rests refl stands held m;
        next = λ pre' y j' u' h' m' n'. in_else k r s e u th u' refl (follow r3 (by_term u' here)) h' (held_term held (in_term u' r3)) m' n';
      },
)

pub in_if : {ts : List Terminal} {xs : List Taken} {a : List Symbol} {p i : ℕ} {pre : List Piece} → AllTaken ts xs → Derives ts file 0 (term p ∷ a) i → Before ts xs (State ts xs a) a p pre i → State ts xs (word words.If ∷ term 0 ∷ word words.Then ∷ term 0 ∷ word words.Else ∷ term 0 ∷ tail p 0 ∷ a) pre i
in_if {i = i} k r s = (
  s.now,
  λ e.
      let r1 = on r g.choice in
      let stands = takes k (taken_as r1 e) s.stands in
      let r2 = past r1 e in
      record {
        frames = frame.Choice i ∷ s.frames;
        goal = s.goal;
        binder = s.binder;
        so_far = s.so_far;
        stands = stands;
        counts = ap suc s.counts;
        held = s.held;
        has = s.has;
        now = now_rests refl stands s.held s.has;
        next = λ pre' x j u h m n. in_then k r s e u (follow r2 (by_term u here)) h (held_term s.held (in_term u r2)) m n;
      },
)

-- a call
abbrev pub in_call : {ts : List Terminal} {xs : List Taken} {a : List Symbol} {p i : ℕ} {pre : List Piece} → Derives ts file 0 (term p ∷ a) i → Before ts xs (State ts xs a) a p pre i → State ts xs (call ∷ tail p 1024 ∷ a) pre i
in_call {p = p} {i = i} r s = record {
  frames = s.frames;
  goal = s.goal;
  binder = s.binder;
  so_far = s.so_far;
  level = p;
  others = _;
  begins = r;
  stands = s.stands;
  counts = ap suc s.counts;
  held = s.held;
  has = s.has;
  now = s.now;
  next = λ pre' x j o h m n. record {
    frames = s.frames;
    goal = s.goal;
    binder = s.binder;
    so_far = s.so_far;
    from = i;
    tree = x;
    begins = r;
    read = c.first o;
    after = h;
    counts = s.counts;
    held = s.held;
    has = m;
    done = n;
    next = s.next;
  };
}

-- an infix operator
pub in_infix : {ts : List Terminal} {xs : List Taken} {a : List Symbol} {p l j : ℕ} {w : Word} {pre : List Piece} → AllTaken ts xs → (o : Fixity) → when_fits p l (fixity_of w) ≡ Some o → Derives ts file 0 (tail p l ∷ a) j → (s : Part ts xs (State ts xs a) a p l pre j) → State ts xs (terminal (roles.Infix w) ∷ term o.right ∷ tail p o.level ∷ a) pre j
in_infix {a = a} {p = p} {l = l} {j = j} {w = w} k o q r s = (
  final (tail p l ∷ a) r s,
  λ e.
      let r1 = on r (g.infix_ o q) in
      let stands = takes k (taken_as r1 e) s.after.stands ∙ ap (wait (frame.Infix w j)) (rests _ (one_fewer s.counts) s.after) in
      let held = held_term s.held (in_so_far s.read s.begins) in
      record {
        frames = frame.Infix w j ∷ s.frames;
        goal = s.goal;
        binder = s.binder;
        so_far = s.so_far ++ pieces s.tree;
        stands = stands;
        counts = ap suc s.counts;
        held = held;
        has = s.has;
        now = now_open (open_by k (taken_as r1 e) refl) stands held s.has;
        next = λ pre' y j' u h m n.
            let same = infix_pieces s.so_far (pieces s.tree) (pieces y) (piece.Infix w j ∷ []) in
            record {
              frames = s.frames;
              goal = s.goal;
              binder = s.binder;
              so_far = s.so_far;
              from = s.from;
              tree = v.infix_ w j s.tree y;
              begins = s.begins;
              read = c.onward o s.read e q u;
              after = after_as same (under refl h);
              counts = s.counts;
              held = s.held;
              has = has_as same (has_more (piece.Infix w j ∷ []) m);
              done = n;
              next = s.next;
            };
      },
)

pub no_infix : {ts : List Terminal} {xs : List Taken} {a : List Symbol} {p l j : ℕ} {pre : List Piece} → Derives ts file 0 (tail p l ∷ a) j → Part ts xs (State ts xs a) a p l pre j → State ts xs (unless (operator_on p l) ∷ a) pre j
no_infix {a = a} {p = p} {l = l} r s = (final (tail p l ∷ a) r s, λ n. stop_tail s n)

-- atoms
closing_later : {ts : List Terminal} {i j : ℕ} {x y : Tree} → t.Closing ts x i y j → i < j
closing_later (t.plain e) = omega arith
closing_later (t.with_sort e s q) = omega (arith, grows (by_sort s (here {a = []})))

pub atom_later : {ts : List Terminal} {i j : ℕ} {x : Tree} → Atom ts i x j → i < j
atom_later (t.named e) = omega arith
atom_later (t.number e l) = omega (arith, grows (by_literal l (here {a = []})))
atom_later (t.a_constant q e) = omega arith
atom_later (t.bracket e x q) = omega (arith, grows (by_term x (here {a = []})), closing_later q)

pub atom_waits : (n m : ℕ) → n ≡ suc m → n - 1 ≡ m
atom_waits n m e = omega (arith, e)

pub to_receiver : {ts : List Terminal} {xs : List Taken} {a : List Symbol} {i : ℕ} {pre : List Piece} → Derives ts file 0 (call ∷ a) i → Callee ts xs (State ts xs a) a pre i → State ts xs (atom ∷ methods ∷ a) pre i
to_receiver {a = a} {i = i} r s = record {
  frames = s.frames;
  method = None;
  goal = s.goal;
  binder = s.binder;
  so_far = s.so_far;
  stands = s.stands;
  counts = s.counts;
  waits = atom_waits (terms_open a) (length s.frames) s.counts;
  held = s.held;
  has = s.has;
  now = s.now;
  next = λ pre' x j u h m n. record {
    frames = s.frames;
    goal = s.goal;
    binder = s.binder;
    so_far = s.so_far;
    from = i;
    tree = x;
    level = s.level;
    others = s.others;
    begins = s.begins;
    atom = u;
    whole = in_atom u (on r g.a_receiver);
    stands = h;
    counts = s.counts;
    held = s.held;
    has = m;
    done = n;
    next = s.next;
  };
}

pub a_variable : {ts : List Terminal} {xs : List Taken} {a : List Symbol} {i : ℕ} {pre : List Piece} → AllTaken ts xs → Derives ts file 0 (atom ∷ a) i → Atomic ts xs (State ts xs a) a pre i → State ts xs (terminal roles.Variable ∷ a) pre i
a_variable {i = i} {pre = pre} k r s = (
  s.now,
  λ e.
      let h = taken_as (on r g.a_variable) e in
      s.next pre (v.name i) (i + 1) (t.named e) (takes k h s.stands) (has_more (piece.Name i ∷ []) s.has) (done_by k h refl),
)

pub a_constant : {ts : List Terminal} {xs : List Taken} {a : List Symbol} {i : ℕ} {w : Word} {pre : List Piece} → AllTaken ts xs → IsConstant w → Derives ts file 0 (atom ∷ a) i → Atomic ts xs (State ts xs a) a pre i → State ts xs (terminal (roles.Constant w) ∷ a) pre i
a_constant {i = i} {w = w} {pre = pre} k q r s = (
  s.now,
  λ e.
      let h = taken_as (on r (g.a_constant q)) e in
      s.next pre (v.constant w i) (i + 1) (t.a_constant q e) (takes k h s.stands) (has_more (piece.Constant w i ∷ []) s.has) (done_by k h refl),
)

pub a_number : {ts : List Terminal} {xs : List Taken} {a : List Symbol} {i : ℕ} {pre : List Piece} → AllTaken ts xs → Derives ts file 0 (atom ∷ a) i → Atomic ts xs (State ts xs a) a pre i → State ts xs (terminal roles.Numeral ∷ literal ∷ a) pre i
a_number {ts} {xs} {a = a} {i = i} {pre = pre} k r s = (
  s.now,
  λ e.
      let h = taken_as (on r g.a_numeral) e in
      let r1 = past (on r g.a_numeral) e in
      let stands = takes k h s.stands in (
        (λ n. s.next pre (v.numeral i) (i + 1) (t.number e (t.without_width n))
            (stands ∙ ap (λ q. st s.frames s.method s.goal s.binder (s.so_far ++ q ∷ [])) (plain_number i _ (not_there (i + 1) words.Hash k (no_word ts (i + 1) words.Hash n))))
            (has_more (piece.Numeral i ∷ []) s.has) (done_by k h refl)),
        (λ e1.
            let h1 = taken_as (on r1 g.with_width) e1 in
            let r2 = past (on r1 g.with_width) e1 in
            let two : i + 2 ≡ i + 1 + 1 = omega arith in
            let stands1 = takes k h1 (stands ∙ ap (λ o. st s.frames s.method s.goal s.binder (s.so_far ++ number i o ∷ [])) (next_role k h1) ∙ ap (λ q. st s.frames s.method s.goal s.binder (s.so_far ++ piece.Literal i q ∷ [])) two) in
            let has = has_more (piece.Literal i (i + 1 + 1) ∷ []) s.has in (
              now_open (open_by k h1 refl) stands1 (held_term s.held (whole_literal {i = i} {w = i + 1 + 1})) has,
              λ e2.
                  let h2 = taken_as r2 e2 in
                  s.next pre (v.literal i (i + 1 + 1)) (i + 1 + 1 + 1) (t.number e (t.with_width e1 e2)) (takes k h2 stands1) has (done_by k h2 refl),
            )),
      ),
)

-- methods
pub no_methods : {ts : List Terminal} {xs : List Taken} {a : List Symbol} {k : ℕ} {pre : List Piece} → Derives ts file 0 (methods ∷ a) k → Receiver ts xs (State ts xs a) a pre k → State ts xs (unless (is_word words.Dot) ∷ a) pre k
no_methods {a = a} r s = (final (methods ∷ a) r s, λ n. stop_methods s n)

pub to_name : {ts : List Terminal} {xs : List Taken} {a : List Symbol} {j : ℕ} {pre : List Piece} → AllTaken ts xs → Derives ts file 0 (methods ∷ a) j → Receiver ts xs (State ts xs a) a pre j → State ts xs (word words.Dot ∷ terminal roles.Method ∷ more_methods ∷ a) pre j
to_name {a = a} {j = j} k r s = (
  final (methods ∷ a) r s,
  λ e.
      let r1 = on r g.a_method in
      let stands = takes k (taken_as r1 e) s.stands in (
        now_open (open_by k (taken_as r1 e) refl) stands (held_term s.held s.whole) s.has,
        λ n.
            let h = taken_as (past r1 e) n in
            record {
              frames = s.frames;
              goal = s.goal;
              binder = s.binder;
              so_far = s.so_far;
              from = s.from;
              tree = s.tree;
              at = j + 1;
              level = s.level;
              others = s.others;
              begins = s.begins;
              called = c.first s.atom e n;
              right = refl;
              whole = s.whole;
              stands = takes k h stands;
              counts = s.counts;
              held = s.held;
              has = has_more (piece.Call (j + 1) ∷ []) s.has;
              done = done_by k h refl;
              next = s.next;
            },
      ),
)

-- a method before another has its piece
point_piece : (ps cs : List Piece) (m : ℕ) → ((ps ++ cs) ++ piece.Call m ∷ []) ++ (piece.Method m ∷ []) ≡ ps ++ (cs ++ (piece.Call m ∷ (piece.Method m ∷ [])))
point_piece ps cs m = call_pieces ps cs [] (piece.Call m ∷ []) (piece.Method m ∷ [])

pub to_further : {ts : List Terminal} {xs : List Taken} {a : List Symbol} {j : ℕ} {pre pre' : List Piece} → AllTaken ts xs → Derives ts file 0 (more_methods ∷ a) j → (s : Named ts xs (State ts xs a) a pre j) → Has pre' (s.so_far ++ pieces (v.method s.at s.tree v.no_more)) → IsWord ts words.Dot j
    → State ts xs (terminal roles.Method ∷ more_methods ∷ a) pre' (j + 1)
to_further {ts} {j = j} k r s has e =
    let r1 = on r g.further_method in
    let same = point_piece s.so_far (pieces s.tree) s.at in
    let dot = subst (IsWord ts words.Dot) (sym s.right) e in
    let whole = whole_method s.whole whole_none (_, c.of_further s.begins s.called dot) in
    let stands = takes k (taken_as r1 e) s.stands ∙ point_closes s.at j (st s.frames (Some s.at) s.goal s.binder ((s.so_far ++ pieces s.tree) ++ piece.Call s.at ∷ [])) s.right ∙ ap (λ q. st s.frames None s.goal s.binder q) same in (
      now_open (open_by k (taken_as r1 e) refl) stands (held_term s.held whole) has,
      λ n.
          let h = taken_as (past r1 e) n in
          record {
            frames = s.frames;
            goal = s.goal;
            binder = s.binder;
            so_far = s.so_far;
            from = s.from;
            tree = v.method s.at s.tree v.no_more;
            at = j + 1;
            level = s.level;
            others = s.others;
            begins = s.begins;
            called = subst (λ w. IsAt ts terminals.Name (w + 1) → Called ts s.from (v.method s.at s.tree v.no_more) (w + 1)) s.right (λ q. c.further s.called dot q) n;
            right = refl;
            whole = whole;
            stands = takes k h stands;
            counts = s.counts;
            held = s.held;
            has = has_more (piece.Call (j + 1) ∷ []) has;
            done = done_by k h refl;
            next = s.next;
          },
    )

pub further_name : {ts : List Terminal} {xs : List Taken} {a : List Symbol} {j : ℕ} {pre : List Piece} → AllTaken ts xs → Derives ts file 0 (more_methods ∷ a) j → Named ts xs (State ts xs a) a pre j → State ts xs (word words.Dot ∷ terminal roles.Method ∷ more_methods ∷ a) pre j
further_name {a = a} k r s = (final (more_methods ∷ a) r s, λ e. to_further k r s (has_as (point_piece s.so_far (pieces s.tree) s.at) (has_more (piece.Method s.at ∷ []) s.has)) e)

pub then_arguments : {ts : List Terminal} {xs : List Taken} {a : List Symbol} {j : ℕ} {pre : List Piece} → Derives ts file 0 (more_methods ∷ a) j → Named ts xs (State ts xs a) a pre j → State ts xs (unless (is_word words.Dot) ∷ arguments ∷ a) pre j
then_arguments {a = a} r s = (final (more_methods ∷ a) r s, λ n. to_arguments s n)

pub no_argument : {ts : List Terminal} {xs : List Taken} {a : List Symbol} {j : ℕ} {pre : List Piece} → Derives ts file 0 (arguments ∷ a) j → Given ts xs (State ts xs a) a pre j → State ts xs (unless begins_atom ∷ a) pre j
no_argument {a = a} r s = (final (arguments ∷ a) r s, λ n. stop_arguments s n)

-- arguments
abbrev pub an_argument : {ts : List Terminal} {xs : List Taken} {a : List Symbol} {i : ℕ} {pre : List Piece} → Derives ts file 0 (arguments ∷ a) i → (s : Given ts xs (State ts xs a) a pre i) → State ts xs (atom ∷ dots ∷ arguments ∷ a) pre i
an_argument {a = a} {i = i} r s =
    let front = (s.so_far ++ pieces s.tree) ++ piece.Call s.at ∷ [] in
    record {
      frames = s.frames;
      method = Some s.at;
      goal = s.goal;
      binder = s.binder;
      so_far = front ++ s.given;
      stands = s.stands;
      counts = s.counts;
      waits = atom_waits (terms_open a) (length s.frames) s.counts;
      held = s.held;
      has = s.has;
      now = final (arguments ∷ a) r s;
      next = λ pre' x j u h m n. record {
        frames = s.frames;
        goal = s.goal;
        binder = s.binder;
        so_far = front ++ s.given;
        from = i;
        tree = x;
        at = s.at;
        others = a;
        begins = r;
        calls = λ e q. c.first u e q;
        whole = in_atom u (on r g.an_argument);
        late = omega (arith, s.late, atom_later u);
        stands = h;
        held = s.held;
        has = m;
        done = n;
        next = λ pre'' y j' w whole h' m' n'. record {
          frames = s.frames;
          goal = s.goal;
          binder = s.binder;
          so_far = s.so_far;
          from = s.from;
          tree = s.tree;
          at = s.at;
          called = s.called;
          no_dot = s.no_dot;
          given = s.given ++ pieces y;
          put = λ zs. s.put (v.and y zs);
          grow = λ zs j'' q. s.grow (v.and y zs) j'' (t.an_atom u w q);
          code = λ zs. s.code (v.and y zs) ∙ sym (append_assoc s.given (pieces y) (codes.arguments zs));
          late = omega (arith, s.late, grows (by_atom u (here {a = []})), grows (by_dots w (here {a = []})));
          stands = h' ∙ ap (λ q. st s.frames (Some s.at) s.goal s.binder q) (append_assoc front s.given (pieces y));
          counts = s.counts;
          held = held_as (append_assoc front s.given (pieces y)) (held_term s.held whole);
          has = has_as (append_assoc front s.given (pieces y)) m';
          done = n';
          next = s.next;
        };
      };
    }

pub no_dots : {ts : List Terminal} {xs : List Taken} {a : List Symbol} {k : ℕ} {pre : List Piece} → Derives ts file 0 (dots ∷ a) k → Pointed ts xs (State ts xs a) pre k → State ts xs (unless (is_word words.Dot) ∷ a) pre k
no_dots {a = a} r s = (final (dots ∷ a) r s, λ n. stop_dots a s n)

pub a_dot : {ts : List Terminal} {xs : List Taken} {a : List Symbol} {j : ℕ} {pre : List Piece} → AllTaken ts xs → Derives ts file 0 (dots ∷ a) j → Pointed ts xs (State ts xs a) pre j → State ts xs (word words.Dot ∷ terminal roles.Method ∷ dots ∷ a) pre j
a_dot {a = a} {j = j} k r s = (
  final (dots ∷ a) r s,
  λ e.
      let r1 = on r g.a_dot in
      let stands = takes k (taken_as r1 e) s.stands ∙ point_stays s.at j (st s.frames (Some s.at) s.goal s.binder (s.so_far ++ pieces s.tree)) s.late in (
        now_open (open_by k (taken_as r1 e) refl) stands (held_term s.held s.whole) s.has,
        λ n.
            let h = taken_as (past r1 e) n in
            let called = s.calls e n in
            let same = append_assoc s.so_far (pieces s.tree) (piece.Call (j + 1) ∷ piece.Method (j + 1) ∷ []) in
            record {
              frames = s.frames;
              goal = s.goal;
              binder = s.binder;
              so_far = s.so_far;
              from = s.from;
              tree = v.method (j + 1) s.tree v.no_more;
              at = s.at;
              others = s.others;
              begins = s.begins;
              calls = λ e' n'. c.further called e' n';
              whole = whole_method s.whole whole_none (_, c.of_argument s.begins called);
              late = omega (arith, s.late);
              stands = takes k h stands ∙ ap (λ w. st s.frames (Some s.at) s.goal s.binder w) same;
              held = s.held;
              has = has_as same (has_more (piece.Call (j + 1) ∷ piece.Method (j + 1) ∷ []) s.has);
              done = done_by k h refl;
              next = λ pre' x j' u w h' m' n'. s.next pre' x j' (t.a_dot e n u) w h' m' n';
            },
      ),
)
