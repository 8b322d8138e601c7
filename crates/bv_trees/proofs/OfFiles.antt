-- The terminals of a file give the pieces of its goals.
use Rattle.std.proofs.Common.{◌≡◌, ℕ, ◌+◌, ◌<◌, arith, List, [], ◌∷◌, ◌++◌, length, Option, Some, None, refl, sym, ap, ◌∙◌, inl, inr, append_assoc, append-nil}
use Rattle.std.specs.Prelude.{slice_get}
use Rattle.std.proofs.lemmas.Option.{slice_get_within}
use Rattle.bv_grammar.specs.declared.words.Word.TheVariants as words
use Rattle.bv_grammar.specs.declared.words.Terminal.{Terminal}
use Rattle.bv_grammar.specs.declared.words.Role.{Role}
use Rattle.bv_grammar.specs.declared.words.Role.TheVariants as roles
use Rattle.bv_grammar.specs.declared.reading.Taken.{Taken}
use Rattle.bv_grammar.specs.Grammar.{terminal_of, Symbol, terminal, word, finish, items, path, dotted, paths, part, binders, names, brace_names, bound, sort, proof, intro, separator, tactic, term, file}
use Rattle.bv_grammar.specs.Grammar as g
use Rattle.bv_grammar.specs.Derivation.{Derives, here}
use Rattle.bv_grammar.specs.Taking.{IsTakenAs, AreTaken}
use Rattle.bv_grammar.proofs.Derivations.{follow}
use Rattle.bv_trees.specs.declared.pieces.Sort.{Sort}
use Rattle.bv_trees.specs.declared.pieces.Piece.{Piece}
use Rattle.bv_trees.specs.declared.pieces.Piece.TheVariants as piece
use Rattle.bv_trees.specs.Trees as v
use Rattle.bv_trees.specs.Trees.{Tree, Binder, Goal}
use Rattle.bv_trees.specs.Terms.{IsWord, SortAt, Term}
use Rattle.bv_trees.specs.Files as f
use Rattle.bv_trees.specs.Files.{PartAt, Path, Dotted, Paths, Names, Bound, Binders, Intros, Separator, Tactic, Proof, Statement, Items, AreGoals}
use Rattle.bv_trees.specs.Codes.{pieces, binder_pieces, goal_pieces}
use Rattle.bv_trees.specs.Building as b
use Rattle.bv_trees.specs.Building.{Building, head_ends, role_of, run, put, bind, sort_behind, close}
use Rattle.bv_trees.proofs.Unique.{term_is_no_sort}
use Rattle.bv_trees.proofs.Derived.{by_sort, by_term, by_path, by_paths, by_part, by_names, by_brace_names, by_bound, by_binders, by_intros, by_the_rest}
use Rattle.bv_trees.proofs.Settling.{st, left_quiet}
use Rattle.bv_trees.proofs.OfTerms.{AllTaken, takes, on, past, taken_as, on_complete, not_there, sort_run, sort_told, term_run}

-- the piece of the goal whose head this is and whose name ends there
abbrev heads : Option ℕ → ℕ → List Piece
heads None i = []
heads (Some h) i = piece.Goal h i ∷ []

ends_head : (gl : Option ℕ) (i n : ℕ) (ps : List Piece) → head_ends i (st [] None gl n ps) ≡ st [] None None n (ps ++ heads gl i)
ends_head None i n ps = ap (λ q. st [] None None n q) (sym (append-nil ps))
ends_head (Some h) i n ps = refl

-- nothing waits, but the arguments of a method may have ended
record Quiet (xs : List Taken) (gl : Option ℕ) (ps : List Piece) (i : ℕ) : Type 0 where
  pub method : Option ℕ
  pub names : ℕ
  pub so_far : List Piece
  pub stands : run xs i ≡ st [] method gl names so_far
  pub gives : so_far ++ b.closing method ≡ ps

-- nothing waits
record Rests (xs : List Taken) (ps : List Piece) (i : ℕ) : Type 0 where
  pub names : ℕ
  pub stands : run xs i ≡ st [] None None names ps

quiet_at : {xs : List Taken} {gl : Option ℕ} {n i : ℕ} {ps : List Piece} → run xs i ≡ st [] None gl n ps → Quiet xs gl ps i
quiet_at {n = n} {ps = ps} e = record { method = None; names = n; so_far = ps; stands = e; gives = append-nil ps }

closed : {xs : List Taken} {gl : Option ℕ} {ps : List Piece} {i : ℕ} (j : ℕ) (q : Quiet xs gl ps i) → head_ends j (close (st [] q.method gl q.names q.so_far)) ≡ st [] None None q.names (ps ++ heads gl j)
closed {gl = gl} {ps = ps} j q = ap (λ w. head_ends j (st [] None gl q.names w)) q.gives ∙ ends_head gl j q.names ps

-- a path
part_run : {ts : List Terminal} {xs : List Taken} {i : ℕ} {a : List Symbol} {c : Building} → AllTaken ts xs → PartAt ts i → Derives ts file 0 (part ∷ a) i → run xs i ≡ c → run xs (i + 1) ≡ c
part_run k (f.a_name e) r h = takes k (taken_as (on r g.part_name) e) h
part_run k (f.a_bool e) r h = takes k (taken_as (on r g.part_bool) e) h
part_run k (f.a_bitvec e) r h = takes k (taken_as (on r g.part_bitvec) e) h

dotted_run : {ts : List Terminal} {xs : List Taken} {gl : Option ℕ} {n i j : ℕ} {a : List Symbol} {ps : List Piece} → AllTaken ts xs → Dotted ts i j → Derives ts file 0 (dotted ∷ a) i → run xs i ≡ st [] None gl n ps → run xs j ≡ st [] None gl n ps
dotted_run k (f.no_part e) r h = h
dotted_run k (f.a_part e p d) r h =
    let r1 = on r g.further_part in
    let r2 = past r1 e in
    dotted_run k d (follow r2 (by_part p here)) (part_run k p r2 (takes k (taken_as r1 e) h))

path_run : {ts : List Terminal} {xs : List Taken} {gl : Option ℕ} {n i j : ℕ} {a : List Symbol} {ps : List Piece} → AllTaken ts xs → Path ts i j → Derives ts file 0 (path ∷ a) i → run xs i ≡ st [] None gl n ps → run xs j ≡ st [] None gl n ps
path_run k (f.path p d) r h = let r1 = on r g.a_path in dotted_run k d (follow r1 (by_part p here)) (part_run k p r1 h)

paths_run : {ts : List Terminal} {xs : List Taken} {gl : Option ℕ} {n i j : ℕ} {a : List Symbol} {ps : List Piece} → AllTaken ts xs → Paths ts i j → Derives ts file 0 (paths ∷ a) i → run xs i ≡ st [] None gl n ps → run xs j ≡ st [] None gl n ps
paths_run k (f.no_path e) r h = h
paths_run k (f.a_path p d) r h = let r1 = on r g.further_path in paths_run k d (follow r1 (by_path p here)) (path_run k p r1 h)

-- names
names_run : {ts : List Terminal} {xs : List Taken} {i j : ℕ} {a : List Symbol} {c : Building} → AllTaken ts xs → Names ts i j → Derives ts file 0 (names ∷ a) i → run xs i ≡ c → run xs j ≡ c
names_run k (f.no_name e) r h = h
names_run k (f.further_name e d) r h = let r1 = on r g.further_name in names_run k d (past r1 e) (takes k (taken_as r1 e) h)

brace_names_run : {ts : List Terminal} {xs : List Taken} {i j : ℕ} {a : List Symbol} {c : Building} → AllTaken ts xs → Names ts i j → Derives ts file 0 (brace_names ∷ a) i → run xs i ≡ c → run xs j ≡ c
brace_names_run k (f.no_name e) r h = h
brace_names_run k (f.further_name e d) r h = let r1 = on r g.further_brace_name in brace_names_run k d (past r1 e) (takes k (taken_as r1 e) h)

-- no sort behind a colon
no_sort_behind : (i : ℕ) (o : Option Role) → (o ≡ Some (roles.Word words.Bool) → ⊥) → (o ≡ Some (roles.Word words.BitVec) → ⊥) → sort_behind i o ≡ None
no_sort_behind i None n m = refl
no_sort_behind i (Some (roles.Word words.Bool)) n m = absurd (n refl)
no_sort_behind i (Some (roles.Word words.BitVec)) n m = absurd (m refl)
no_sort_behind i (Some _) n m = refl

term_behind : {ts : List Terminal} {xs : List Taken} {p j : ℕ} {x : Tree} (i : ℕ) → AllTaken ts xs → Term ts p (i + 1) x j → sort_behind i (role_of (slice_get xs (i + 1))) ≡ None
term_behind {xs = xs} i k u = no_sort_behind i (role_of (slice_get xs (i + 1))) (not_there (i + 1) words.Bool k (λ e. term_is_no_sort u e (inl refl))) (not_there (i + 1) words.BitVec k (λ e. term_is_no_sort u e (inr refl)))

-- the pieces of a binder
abbrev own : Binder → List Piece
own (v.variables i j s) = piece.Variables i j s ∷ []
own (v.hypothesis x) = pieces x

own_first : (c : Binder) (cs : List Binder) → own c ++ binder_pieces cs ≡ binder_pieces (c ∷ cs)
own_first (v.variables i j s) cs = refl
own_first (v.hypothesis x) cs = refl

abbrev behind : List Symbol
behind = word words.Colon ∷ term 0 ∷ word words.Assign ∷ proof ∷ items ∷ finish ∷ []

sort_bound : {ts : List Terminal} {xs : List Taken} {i l : ℕ} (m : ℕ) {s : Sort} {a : List Symbol} (ps : List Piece) → AllTaken ts xs → SortAt ts (m + 1) s l → Derives ts file 0 (sort ∷ a) (m + 1) → run xs (m + 1) ≡ bind m (sort_behind m (role_of (slice_get xs (m + 1)))) (st [] None None i ps)
    → run xs l ≡ st [] None None i (ps ++ piece.Variables i m s ∷ [])
sort_bound {i = i} m ps k d r h = sort_run k d r (h ∙ ap (λ q. bind m q (st [] None None i ps)) (sort_told m k d r))

bound_run : {ts : List Terminal} {xs : List Taken} {i l : ℕ} (m : ℕ) {c : Binder} (ps : List Piece) → AllTaken ts xs → Bound ts i m (m + 1) c l → IsWord ts words.RightRound l → Derives ts file 0 (bound ∷ word words.RightRound ∷ binders ∷ behind) (m + 1)
    → run xs (m + 1) ≡ bind m (sort_behind m (role_of (slice_get xs (m + 1)))) (st [] None None i ps) → Quiet xs None (ps ++ own c) (l + 1)
bound_run {i = i} m ps k (f.to_sort {s = s} d) e r h =
    let r1 = on r g.variables in
    let r2 = follow r1 (by_sort d here) in
    quiet_at (takes k (taken_as r2 e) (sort_bound m ps k d r1 h))
bound_run {i = i} m ps k (f.to_term {x = x} u) e r h =
    let r1 = on r g.hypothesis in
    let a = term_run {fs = []} ps k u r1 refl (h ∙ ap (λ q. bind m q (st [] None None i ps)) (term_behind m k u)) in
    let left = left_quiet a.inner [] a.method None i 0 a.so_far (ps ++ pieces x) a.open_ refl a.gives in
    record { method = left.0; names = i; so_far = left.1; stands = takes k (taken_as (follow r1 (by_term u here)) e) a.stands ∙ left.2; gives = left.3 }

-- binders
record Bound_all (xs : List Taken) (gl : Option ℕ) (ps : List Piece) (i : ℕ) (cs : List Binder) (j : ℕ) : Type 0 where
  pub goal : Option ℕ
  pub so_far : List Piece
  pub quiet : Quiet xs goal so_far j
  pub gives : so_far ++ heads goal j ≡ (ps ++ heads gl i) ++ binder_pieces cs

abbrev at_names : ℕ → Building → Building
at_names n s = record s { names = n }

one_binder : {xs : List Taken} {gl : Option ℕ} {i j l : ℕ} {c : Binder} {cs : List Binder} (ps : List Piece) → Bound_all xs None ((ps ++ heads gl i) ++ own c) l cs j → Bound_all xs gl ps i (c ∷ cs) j
one_binder {gl = gl} {i = i} {c = c} {cs = cs} ps r = record {
  goal = r.goal;
  so_far = r.so_far;
  quiet = r.quiet;
  gives = r.gives ∙ ap (λ w. w ++ binder_pieces cs) (append-nil ((ps ++ heads gl i) ++ own c)) ∙ append_assoc (ps ++ heads gl i) (own c) (binder_pieces cs) ∙ ap (λ w. (ps ++ heads gl i) ++ w) (own_first c cs);
}

binders_run : {ts : List Terminal} {xs : List Taken} {i j : ℕ} {gl : Option ℕ} {cs : List Binder} (ps : List Piece) → AllTaken ts xs → Binders ts i cs j → Derives ts file 0 (binders ∷ behind) i → Quiet xs gl ps i → Bound_all xs gl ps i cs j
binders_run {xs = xs} {i = i} {gl = gl} ps k (f.no_binder e) r q = record { goal = gl; so_far = ps; quiet = q; gives = sym (append-nil (ps ++ heads gl i)) }
binders_run {xs = xs} {i = i} {gl = gl} ps k (f.round {k = m'} {b = c} e m ns d u z bs) r q =
    let all = ps ++ heads gl i in
    let r1 = on r g.round in
    let h1 = takes k (taken_as r1 e) q.stands ∙ ap (at_names (i + 1)) (closed i q) in
    let r2 = past r1 e in
    let r3 = past r2 m in
    let h3 = names_run k ns r3 (takes k (taken_as r2 m) h1) in
    let r4 = follow r3 (by_names ns here) in
    let h4 = takes k (taken_as r4 d) h3 ∙ ap (λ w. bind m' (sort_behind m' (role_of (slice_get xs (m' + 1)))) (st [] None None (i + 1) w)) (append-nil all) in
    let r5 = past r4 d in
    let after = bound_run m' all k u z r5 h4 in
    one_binder ps (binders_run (all ++ own c) k bs (past (follow r5 (by_bound u here)) z) after)
binders_run {xs = xs} {i = i} {gl = gl} ps k (f.brace {k = m'} {s = s} e m ns d u z bs) r q =
    let all = ps ++ heads gl i in
    let r1 = on r g.brace in
    let h1 = takes k (taken_as r1 e) q.stands ∙ ap (at_names (i + 1)) (closed i q) in
    let r2 = past r1 e in
    let r3 = past r2 m in
    let h3 = brace_names_run k ns r3 (takes k (taken_as r2 m) h1) in
    let r4 = follow r3 (by_brace_names ns here) in
    let h4 = takes k (taken_as r4 d) h3 ∙ ap (λ w. bind m' (sort_behind m' (role_of (slice_get xs (m' + 1)))) (st [] None None (i + 1) w)) (append-nil all) in
    let r5 = past r4 d in
    let r6 = follow r5 (by_sort u here) in
    let after = quiet_at (takes k (taken_as r6 z) (sort_bound m' all k u r5 h4)) in
    one_binder {c = v.variables (i + 1) m' s} ps (binders_run (all ++ piece.Variables (i + 1) m' s ∷ []) k bs (past r6 z) after)

-- a proof
separator_run : {ts : List Terminal} {xs : List Taken} {i j : ℕ} {a : List Symbol} {c : Building} → AllTaken ts xs → Separator ts i j → Derives ts file 0 (separator ∷ a) i → run xs i ≡ c → run xs j ≡ c
separator_run k (f.no_separator e) r h = h
separator_run k (f.a_separator e) r h = takes k (taken_as (on r g.separated) e) h

intros_run : {ts : List Terminal} {xs : List Taken} {i j : ℕ} {a : List Symbol} {c : Building} → AllTaken ts xs → Intros ts i j → Derives ts file 0 (intro ∷ a) i → run xs i ≡ c → run xs j ≡ c
intros_run k (f.no_intros e) r h = h
intros_run k (f.intros e s) r h = let r1 = on r g.intros in separator_run k s (past r1 e) (takes k (taken_as r1 e) h)

tactic_run : {ts : List Terminal} {xs : List Taken} {i j : ℕ} {s : Option ℕ} {a : List Symbol} {c : Building} → AllTaken ts xs → Tactic ts i s j → Derives ts file 0 (tactic ∷ a) i → run xs i ≡ c → run xs j ≡ put (piece.Proof s) c
tactic_run k (f.decided e) r h = takes k (taken_as (on r g.decided) e) h
tactic_run k (f.checked e m) r h = let r1 = on r g.checked in takes k (taken_as (past r1 e) m) (takes k (taken_as r1 e) h)

proof_run : {ts : List Terminal} {xs : List Taken} {i j : ℕ} {s : Option ℕ} {a : List Symbol} {c : Building} → AllTaken ts xs → Proof ts i s j → Derives ts file 0 (proof ∷ a) i → run xs i ≡ c → run xs j ≡ put (piece.Proof s) c
proof_run k (f.by_tactic e n s) r h =
    let r1 = on r g.a_proof in
    let r2 = past r1 e in
    tactic_run k s (follow r2 (by_intros n here)) (intros_run k n r2 (takes k (taken_as r1 e) h))

-- a goal
goal_order : (ps h bs x p : List Piece) → (((ps ++ h) ++ bs) ++ x) ++ p ≡ ps ++ (h ++ (bs ++ (x ++ p)))
goal_order ps h bs x p = append_assoc ((ps ++ h) ++ bs) x p ∙ append_assoc (ps ++ h) bs (x ++ p) ∙ append_assoc ps h (bs ++ (x ++ p))

statement_run : {ts : List Terminal} {xs : List Taken} {h i j : ℕ} {gl : Goal} (ps : List Piece) → AllTaken ts xs → Statement ts h i gl j → Derives ts file 0 (binders ∷ behind) i → Quiet xs (Some h) ps i → Rests xs (ps ++ goal_pieces (gl ∷ [])) j
statement_run {h = hd} {i = i} ps k (f.statement {k = m} {bs = cs} {x = x} {s = s} bs c u e q) r h =
    let all = binders_run ps k bs r h in
    let r1 = follow r (by_binders bs here) in
    let h1 = takes k (taken_as r1 c) all.quiet.stands ∙ ap (bind m _) (closed m all.quiet) ∙ ap (λ w. bind m w (st [] None None all.quiet.names (all.so_far ++ heads all.goal m))) (term_behind m k u) ∙ ap (λ w. st [] None None all.quiet.names w) all.gives in
    let r2 = past r1 c in
    let front = (ps ++ piece.Goal hd i ∷ []) ++ binder_pieces cs in
    let a = term_run {fs = []} front k u r2 refl h1 in
    let r3 = follow r2 (by_term u here) in
    let h2 = on_complete {fs = []} words.Assign k (taken_as r3 e) (λ w. refl) refl a in
    let h3 = proof_run k q (past r3 e) h2 in
    record { names = all.quiet.names; stands = h3 ∙ ap (λ w. st [] None None all.quiet.names w) (goal_order ps (piece.Goal hd i ∷ []) (binder_pieces cs) (pieces x) (piece.Proof s ∷ [])) }

one_goal : (gl : Goal) (gs : List Goal) → goal_pieces (gl ∷ []) ++ goal_pieces gs ≡ goal_pieces (gl ∷ gs)
one_goal gl gs = ap (λ w. piece.Goal gl.head gl.path ∷ w) (append_assoc (binder_pieces gl.binders) (pieces gl.conclusion ++ (piece.Proof gl.stored ∷ [])) (goal_pieces gs) ∙ ap (λ w. binder_pieces gl.binders ++ w) (append_assoc (pieces gl.conclusion) (piece.Proof gl.stored ∷ []) (goal_pieces gs)))

abbrev bottom : List Symbol
bottom = items ∷ finish ∷ []

rests_as : {xs : List Taken} {ps qs : List Piece} {i : ℕ} → ps ≡ qs → Rests xs ps i → Rests xs qs i
rests_as e h = record { names = h.names; stands = h.stands ∙ ap (λ w. st [] None None h.names w) e }

by_statement : {ts : List Terminal} {h i j : ℕ} {gl : Goal} → Statement ts h i gl j → Derives ts file 0 (binders ∷ behind) i → Derives ts file 0 bottom j
by_statement (f.statement bs c u e q) r = follow r (by_binders bs (by_the_rest c u e q here))

items_run : {ts : List Terminal} {xs : List Taken} {i j : ℕ} {gs : List Goal} (ps : List Piece) → AllTaken ts xs → Items ts i gs j → Derives ts file 0 bottom i → Rests xs ps i → Rests xs (ps ++ goal_pieces gs) j
items_run ps k (f.no_item e) r h = rests_as (sym (append-nil ps)) h
items_run ps k (f.import_ e p d) r h =
    let r1 = on r g.import_item in
    let r2 = past r1 e in
    items_run ps k d (follow r2 (by_path p here)) (record { names = h.names; stands = path_run k p r2 (takes k (taken_as r1 e) h.stands) })
items_run ps k (f.open_ e p q d) r h =
    let r1 = on r g.open_item in
    let r2 = past r1 e in
    let r3 = follow r2 (by_path p here) in
    items_run ps k d (follow r3 (by_paths q here)) (record { names = h.names; stands = paths_run k q r3 (path_run k p r2 (takes k (taken_as r1 e) h.stands)) })
items_run ps k (f.theorem_ {g = gl} {gs = gs} e p s d) r h =
    let r1 = on r g.theorem_item in
    let r2 = past r1 e in
    let r3 = follow r2 (by_path p here) in
    let one = statement_run ps k s r3 (quiet_at (path_run k p r2 (takes k (taken_as r1 e) h.stands))) in
    rests_as (append_assoc ps (goal_pieces (gl ∷ [])) (goal_pieces gs) ∙ ap (λ w. ps ++ w) (one_goal gl gs)) (items_run (ps ++ goal_pieces (gl ∷ [])) k d (by_statement s r3) one)
items_run ps k (f.example_ {g = gl} {gs = gs} e s d) r h =
    let r1 = on r g.example_item in
    let r2 = past r1 e in
    let one = statement_run ps k s r2 (quiet_at (takes k (taken_as r1 e) h.stands)) in
    rests_as (append_assoc ps (goal_pieces (gl ∷ [])) (goal_pieces gs) ∙ ap (λ w. ps ++ w) (one_goal gl gs)) (items_run (ps ++ goal_pieces (gl ∷ [])) k d (by_statement s r2) one)

-- of a whole file all terminals are reached
pub all_taken : (ts : List Terminal) (xs : List Taken) → AreTaken ts xs → ((i : ℕ) (r : Role) (a : List Symbol) → IsTakenAs ts i r a → i < length xs) → AllTaken ts xs
all_taken ts xs taken all = record { taken = taken; all = all }

pub whole_reach : (ts : List Terminal) (xs : List Taken) → length xs ≡ length ts → (i : ℕ) (r : Role) (a : List Symbol) → IsTakenAs ts i r a → i < length xs
whole_reach ts xs e i r a h = omega (arith, slice_get_within ts i (terminal_of r) h.there, e)

pub put_together : (xs : List Taken) (ts : List Terminal) (gs : List Goal) → AreGoals ts gs → AreTaken ts xs → length xs ≡ length ts → (run xs (length xs)).pieces ≡ goal_pieces gs
put_together xs ts gs h taken all =
    let r = items_run [] (all_taken ts xs taken (whole_reach ts xs all)) h here (record { names = 0; stands = refl }) in
    ap (λ n. (run xs n).pieces) all ∙ ap (λ s. s.pieces) r.stands
