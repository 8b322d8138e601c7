-- Where a file is cut short, the pieces are those of all that is complete.
use Rattle.std.proofs.Common.{◌≡◌, ℕ, suc, ◌+◌, ◌-◌, ◌<◌, ◌≤◌, List, [], ◌∷◌, ◌++◌, length, Option, Some, None, refl, ap, subst, arith, ◌∙◌, ◌⊎◌, inl, inr, append_assoc}
use Rattle.bv_grammar.specs.declared.words.Word.TheVariants as words
use Rattle.bv_grammar.specs.declared.words.Terminal.{Terminal}
use Rattle.bv_grammar.specs.declared.words.Terminal.TheVariants as terminals
use Rattle.bv_grammar.specs.declared.words.Role.TheVariants as roles
use Rattle.bv_grammar.specs.declared.reading.Taken.{Taken}
use Rattle.bv_grammar.specs.Grammar.{is_word, Symbol, terminal, term, tail, more_methods, arguments, dots, file}
use Rattle.bv_grammar.specs.Grammar as g
use Rattle.bv_grammar.specs.Derivation.{Derives, here, taken, by_rule, IsSyntaxFault}
use Rattle.bv_grammar.specs.Taking.{AreTaken, terms_open}
use Rattle.bv_grammar.proofs.Derivations.{grows, follow}
use Rattle.bv_trees.specs.declared.pieces.Piece.{Piece}
use Rattle.bv_trees.specs.declared.pieces.Piece.TheVariants as piece
use Rattle.bv_trees.specs.declared.building.Frame.{Frame}
use Rattle.bv_trees.specs.declared.building.Frame.TheVariants as frame
use Rattle.bv_trees.specs.Trees as v
use Rattle.bv_trees.specs.Trees.{Tree}
use Rattle.bv_trees.specs.Terms as t
use Rattle.bv_trees.specs.Terms.{IsAt, IsWord, Term, Operand, Dots}
use Rattle.bv_trees.specs.Codes.{pieces}
use Rattle.bv_trees.specs.Building.{run, wait, complete_pieces}
use Rattle.bv_trees.proofs.Derived.{by_term, by_operand, by_atom, by_methods}
use Rattle.bv_trees.proofs.Settling.{st}
use Rattle.bv_trees.proofs.OfTerms.{After, AllTaken, after_as, under, takes, taken_as, on, past, rests, term_run, operand_run, atom_run, infix_pieces, one_fewer, point_closes, point_stays, call_pieces}
use Rattle.bv_trees.specs.Complete as c
use Rattle.bv_trees.specs.Complete.{SoFar, Called, Complete, AreCompleted}
use Rattle.bv_trees.proofs.Parts.{Whole, whole_method, whole_none, so_far_leads, called_leads, argument_leads, called_operand, in_called, in_argument}
use Rattle.bv_trees.proofs.Held.{Held, Has, has_none, has_itself}
use Rattle.bv_trees.proofs.Determined.{in_front, goes_on, behind_part, behind_taken}
use Rattle.bv_trees.proofs.Reached.{reached}
use Rattle.bv_trees.proofs.Standing.{Done, Now, Part, Named, Given, Pointed, State}
use Rattle.bv_trees.proofs.Steps.{final, atom_later, in_call, an_argument, to_further}
use Rattle.bv_trees.proofs.Going.{fold, reading}

-- what a term is read from, as it stands alone
so_far_open : {ts : List Terminal} {p i l j : ℕ} {x : Tree} → SoFar ts p i l x j → Derives ts (term p ∷ []) i (tail p l ∷ []) j
so_far_open (c.first o) = by_operand o here
so_far_open (c.onward o s e q u) = follow (so_far_open s) (by_rule (g.infix_ o q) (taken e (by_term u here)))

so_far_run : {ts : List Terminal} {xs : List Taken} {fs : List Frame} {gl : Option ℕ} {p i l n j : ℕ} {x : Tree} {a : List Symbol} (ps : List Piece) → AllTaken ts xs → SoFar ts p i l x j → Derives ts file 0 (term p ∷ a) i → terms_open a ≡ length fs → run xs i ≡ st fs None gl n ps → After xs fs gl n (ps ++ pieces x) j
so_far_run ps k (c.first o) r w h = operand_run ps k o r w h
so_far_run {fs = fs} ps k (c.onward {j = j} {w = w} {x = x} {y = y} o s e q u) r n h =
    let a = so_far_run ps k s r n h in
    let r1 = on (so_far_leads s r) (g.infix_ o q) in
    let b = takes k (taken_as r1 e) a.stands ∙ ap (wait (frame.Infix w j)) (rests _ (one_fewer n) a) in
    after_as (infix_pieces ps (pieces x) (pieces y) (piece.Infix w j ∷ [])) (under refl (term_run (ps ++ pieces x) k u (past r1 e) (ap suc n) b))

called_run : {ts : List Terminal} {xs : List Taken} {fs : List Frame} {gl : Option ℕ} {p n i m : ℕ} {x : Tree} {a : List Symbol} (ps : List Piece) → AllTaken ts xs → Called ts i x m → Derives ts file 0 (term p ∷ a) i → terms_open a ≡ length fs → run xs i ≡ st fs None gl n ps → run xs (m + 1) ≡ st fs (Some m) gl n ((ps ++ pieces x) ++ piece.Call m ∷ [])
called_run ps k (c.first a e n) r w h =
    let r1 = on (on r g.a_call) g.a_receiver in
    let r2 = on (follow r1 (by_atom a here)) g.a_method in
    takes k (taken_as (past r2 e) n) (takes k (taken_as r2 e) (atom_run ps k a r1 (one_fewer w) (ap suc w) h))
called_run {fs = fs} {gl = gl} {n = q} ps k (c.further {m = m} {x = x} s e n) r w h =
    let r1 = on (called_leads s r) g.further_method in
    let at_dot = takes k (taken_as r1 e) (called_run ps k s r w h) ∙ point_closes m (m + 1) (st fs (Some m) gl q ((ps ++ pieces x) ++ piece.Call m ∷ [])) refl ∙ ap (λ v. st fs None gl q v) (call_pieces ps (pieces x) [] (piece.Call m ∷ []) (piece.Method m ∷ [])) in
    takes k (taken_as (past r1 e) n) at_dot

called_later : {ts : List Terminal} {i m : ℕ} {x : Tree} → Called ts i x m → i < m
called_later (c.first a e n) = omega (arith, atom_later a)
called_later (c.further s e n) = omega (arith, called_later s)

operand_later : {ts : List Terminal} {i l j : ℕ} {x : Tree} → Operand ts i l x j → i < j
operand_later (t.prefixed e q u) = omega (arith, grows (by_term u (here {a = []})))
operand_later (t.chosen e x th y el z) = omega (arith, grows (by_term x (here {a = []})), grows (by_term y (here {a = []})), grows (by_term z (here {a = []})))
operand_later (t.called a m) = omega (arith, atom_later a, grows (by_methods m (here {a = []})))

so_far_later : {ts : List Terminal} {p i l j : ℕ} {x : Tree} → SoFar ts p i l x j → i < j
so_far_later (c.first o) = operand_later o
so_far_later (c.onward o s e q u) = omega (arith, so_far_later s, grows (by_term u (here {a = []})))

fewer : {n m : ℕ} → n ≡ suc m → n - 1 ≡ m
fewer e = omega (arith, e)

argument_run : {ts : List Terminal} {xs : List Taken} {fs : List Frame} {gl : Option ℕ} {o n i m : ℕ} {x : Tree} {a : List Symbol} (ps : List Piece) → AllTaken ts xs → Called ts i x m → Derives ts file 0 (arguments ∷ a) i → terms_open a ≡ suc (length fs) → o + 1 ≤ i → run xs i ≡ st fs (Some o) gl n ps
    → run xs (m + 1) ≡ st fs (Some o) gl n (ps ++ pieces (v.method m x v.no_more))
argument_run {fs = fs} {gl = gl} {o = o} {n = q} ps k (c.first {k = j} {x = x} a e n) r w b h =
    let r1 = on r g.an_argument in
    let r2 = on (follow r1 (by_atom a here)) g.a_dot in
    let at_dot = takes k (taken_as r2 e) (atom_run ps k a r1 (fewer w) w h) ∙ point_stays o j (st fs (Some o) gl q (ps ++ pieces x)) (omega (arith, b, atom_later a)) in
    takes k (taken_as (past r2 e) n) at_dot ∙ ap (λ v. st fs (Some o) gl q v) (append_assoc ps (pieces x) (piece.Call (j + 1) ∷ piece.Method (j + 1) ∷ []))
argument_run {fs = fs} {gl = gl} {o = o} {n = q} ps k (c.further {m = m} {x = x} s e n) r w b h =
    let r2 = on (argument_leads s r) g.a_dot in
    let at_dot = takes k (taken_as r2 e) (argument_run ps k s r w b h) ∙ point_stays o (m + 1) (st fs (Some o) gl q (ps ++ pieces (v.method m x v.no_more))) (omega (arith, b, called_later s)) in
    takes k (taken_as (past r2 e) n) at_dot ∙ ap (λ v. st fs (Some o) gl q v) (append_assoc ps (pieces (v.method m x v.no_more)) (piece.Call (m + 1 + 1) ∷ piece.Method (m + 1 + 1) ∷ []))

-- an argument's method, before its name
method_there : {ts : List Terminal} {i m : ℕ} {x : Tree} {a : List Symbol} → Called ts i x m → Derives ts file 0 (arguments ∷ a) i → Derives ts file 0 (terminal roles.Method ∷ dots ∷ arguments ∷ a) m × IsAt ts terminals.Name m
method_there (c.first a e n) r = (past (on (follow (on r g.an_argument) (by_atom a here)) g.a_dot) e, n)
method_there (c.further s e n) r = (past (on (argument_leads s r) g.a_dot) e, n)

-- what is open behind an argument's method
behind_argument : {ts : List Terminal} {xs : List Taken} {a : List Symbol} {i m : ℕ} {x : Tree} → AllTaken ts xs → Called ts i x m → (r : Derives ts file 0 (arguments ∷ a) i) → (s : Given ts xs (State ts xs a) a [] i) → (pre' : List Piece) (y : Tree) (j : ℕ) → Dots ts (v.method m x v.no_more) (m + 1) y j → Whole ts y
    → run xs j ≡ st s.frames (Some s.at) s.goal s.binder ((((s.so_far ++ pieces s.tree) ++ piece.Call s.at ∷ []) ++ s.given) ++ pieces y) → Has pre' ((((s.so_far ++ pieces s.tree) ++ piece.Call s.at ∷ []) ++ s.given) ++ pieces y) → Done xs j → State ts xs (arguments ∷ a) pre' j
behind_argument {a = a} k (c.first {k = l} {x = x} u e n) r s = λ pre' y j w whole h m q.
    let r1 = on r g.an_argument in
    let at_end = atom_run (((s.so_far ++ pieces s.tree) ++ piece.Call s.at ∷ []) ++ s.given) k u r1 (fewer s.counts) s.counts s.stands in
    let there = reading k (follow r1 (by_atom u here)) in
    ((an_argument r s).next [] x l u at_end has_none there.done).next pre' y j (t.a_dot e n w) whole h m q
behind_argument k (c.further u e n) r s = λ pre' y j w whole h m q. behind_argument k u r s pre' y j (t.a_dot e n w) whole h m q

-- where the reading ends, the pieces of what is complete begin with those
to_end : {ts : List Terminal} {xs : List Taken} {pre : List Piece} {j : ℕ} (a : List Symbol) → AllTaken ts xs → IsSyntaxFault ts (length xs) → Derives ts file 0 a j → State ts xs a pre j → (j < length xs → (e : List Symbol) × Derives ts a j e (length xs)) → (j < length xs) ⊎ (j ≡ length xs) → Has pre (complete_pieces xs)
to_end a k f r s more (inl h) = let d = more h in ((final d.0 (follow r d.1) (fold _ k d.1 r s)).ends f refl).has
to_end {ts} {xs} {pre} {j} a k f r s more (inr e) = ((subst (Now ts xs pre) e (final a r s)).ends f refl).has

place_cases : (m n : ℕ) → m ≤ n → (m < n) ⊎ (m ≡ n)
place_cases m n h = grind arith

pub record Seen (xs : List Taken) (x : Tree) : Type 0 where
  pub before : List Piece
  pub has : Has (before ++ pieces x) (complete_pieces xs)

of_part : {ts : List Terminal} {xs : List Taken} {p l i j : ℕ} {x : Tree} {b : List Symbol} → AllTaken ts xs → IsSyntaxFault ts (length xs) → Derives ts file 0 (term p ∷ b) i → SoFar ts p i l x j → Seen xs x
of_part {ts} {xs} {p} {l} {i} {j} {x} {b} k f r u =
    let s = reading k r in
    let r1 = so_far_leads u r in
    let there = reading k r1 in
    let here_too : Part ts xs (State ts xs b) b p l (s.so_far ++ pieces x) j = record {
      frames = s.frames;
      goal = s.goal;
      binder = s.binder;
      so_far = s.so_far;
      from = i;
      tree = x;
      begins = r;
      read = u;
      after = so_far_run s.so_far k u r s.counts s.stands;
      counts = s.counts;
      held = s.held;
      has = has_itself;
      done = there.done;
      next = s.next;
    } in
    let local = so_far_open u in
    record {
      before = s.so_far;
      has = to_end (tail p l ∷ b) k f r1 here_too
          (λ h. (_, behind_part b local h (goes_on r (so_far_later u) (in_front b local) (omega (arith, so_far_later u, h)) f.before.1)))
          (place_cases j (length xs) (reached f r1));
    }

of_further : {ts : List Terminal} {xs : List Taken} {p i m : ℕ} {x : Tree} {b : List Symbol} → AllTaken ts xs → IsSyntaxFault ts (length xs) → Derives ts file 0 (term p ∷ b) i → Called ts i x m → IsWord ts words.Dot (m + 1) → Seen xs (v.method m x v.no_more)
of_further {ts} {xs} {p} {i} {m} {x} {b} k f r u e =
    let s = reading k r in
    let r1 = called_leads u r in
    let there = reading k r1 in
    let named : Named ts xs (State ts xs (tail p 1024 ∷ b)) (tail p 1024 ∷ b) [] (m + 1) = record {
      frames = s.frames;
      goal = s.goal;
      binder = s.binder;
      so_far = s.so_far;
      from = i;
      tree = x;
      at = m;
      level = p;
      others = b;
      begins = r;
      called = u;
      right = refl;
      whole = in_called u r;
      stands = called_run s.so_far k u r s.counts s.stands;
      counts = ap suc s.counts;
      held = s.held;
      has = has_none;
      done = there.done;
      next = (in_call r s).next;
    } in
    let r2 = past (on r1 g.further_method) e in
    record {
      before = s.so_far;
      has = to_end (terminal roles.Method ∷ more_methods ∷ tail p 1024 ∷ b) k f r2 (to_further k r1 named has_itself e)
          (λ h. (_, behind_taken (on r1 g.further_method) e (omega (arith, h)) f.before.1))
          (place_cases (m + 1 + 1) (length xs) (reached f r2));
    }

of_argument : {ts : List Terminal} {xs : List Taken} {i m : ℕ} {x : Tree} {b : List Symbol} → AllTaken ts xs → IsSyntaxFault ts (length xs) → Derives ts file 0 (arguments ∷ b) i → Called ts i x m → Seen xs (v.method m x v.no_more)
of_argument {ts} {xs} {i} {m} {x} {b} k f r u =
    let s = reading k r in
    let front = ((s.so_far ++ pieces s.tree) ++ piece.Call s.at ∷ []) ++ s.given in
    let r1 = argument_leads u r in
    let there = reading k r1 in
    let pointed : Pointed ts xs (State ts xs (arguments ∷ b)) (front ++ pieces (v.method m x v.no_more)) (m + 1) = record {
      frames = s.frames;
      goal = s.goal;
      binder = s.binder;
      so_far = front;
      from = i;
      tree = v.method m x v.no_more;
      at = s.at;
      others = b;
      begins = r;
      calls = λ e n. c.further u e n;
      whole = whole_method (in_argument u r) whole_none (_, c.of_argument r u);
      late = omega (arith, s.late, called_later u);
      stands = argument_run front k u r s.counts s.late s.stands;
      held = s.held;
      has = has_itself;
      done = there.done;
      next = behind_argument k u r s;
    } in
    let name = method_there u r in
    record {
      before = front;
      has = to_end (dots ∷ arguments ∷ b) k f r1 pointed
          (λ h. (_, behind_taken name.0 name.1 (omega (arith, h)) f.before.1))
          (place_cases (m + 1) (length xs) (reached f r1));
    }

pub seen : {ts : List Terminal} {xs : List Taken} {at j : ℕ} {x : Tree} → AllTaken ts xs → IsSyntaxFault ts (length xs) → Complete ts at x j → Seen xs x
seen k f (c.of_prefix r o) = of_part k f r (c.first o)
seen k f (c.of_if r o) = of_part k f r (c.first o)
seen k f (c.of_infix r s) = of_part k f r s
seen k f (c.of_method r u e w) = of_part k f r (c.first (called_operand u (t.with_all e w)))
seen k f (c.of_further r u e) = of_further k f r u e
seen k f (c.of_argument r u) = of_argument k f r u

-- the terminals that are reached are all taken
pub fault_taken : {ts : List Terminal} {xs : List Taken} → AreTaken ts xs → IsSyntaxFault ts (length xs) → AllTaken ts xs
fault_taken {xs = xs} a f = record { taken = a; all = λ i r b h. omega (arith, reached f (past h.derived h.there)) }

-- all that is complete is held
pub ending : {ts : List Terminal} {xs : List Taken} → AllTaken ts xs → IsSyntaxFault ts (length xs) → Held ts (complete_pieces xs)
ending k f = ((final f.before.0 f.before.1 (reading k f.before.1)).ends f refl).held

pub completed : (ts : List Terminal) (xs : List Taken) → AreTaken ts xs → IsSyntaxFault ts (length xs) → AreCompleted ts (complete_pieces xs)
completed ts xs a f =
    let k = fault_taken a f in
    let h = ending k f in
    record { terms = h.terms; holds = h.holds; complete = h.complete; all = λ at j x q. let s = seen k f q in (s.before, s.has.rest, s.has.all) }
