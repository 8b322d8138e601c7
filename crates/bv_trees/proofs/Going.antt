-- Every reading goes on so from the beginning of the file.
use Rattle.std.proofs.Common.{◌≡◌, ℕ, zero, ◌+◌, ◌-◌, ◌≤◌, Bool, true, false, List, [], ◌∷◌, ◌++◌, length, None, refl, sym, ap, subst, arith, ◌∙◌, append-nil}
use Rattle.std.specs.Prelude.{slice_get}
use Rattle.std.proofs.lemmas.Option.{slice_get-get_or}
use Rattle.bv_grammar.specs.declared.words.Word.TheVariants as words
use Rattle.bv_grammar.specs.declared.words.Terminal.{Terminal}
use Rattle.bv_grammar.specs.declared.words.Terminal.TheVariants as terminals
use Rattle.bv_grammar.specs.declared.words.Role.TheVariants as roles
use Rattle.bv_grammar.specs.declared.reading.Taken.{Taken}
use Rattle.bv_grammar.specs.Grammar.{terminal_of, Symbol, terminal, word, finish, unless, items, path, dotted, paths, part, binders, names, brace_names, bound, sort, proof, intro, separator, tactic, term, tail, call, methods, more_methods, arguments, dots, atom, literal, closing, file, Rule, begins_binder}
use Rattle.bv_grammar.specs.Grammar as g
use Rattle.bv_grammar.specs.Derivation.{Derives, here, taken, at_end, not_next, by_rule}
use Rattle.bv_grammar.specs.Taking.{terms_open, waiting}
use Rattle.bv_grammar.proofs.Derivations.{follow}
use Rattle.bv_trees.specs.declared.pieces.Piece.{Piece}
use Rattle.bv_trees.specs.Building.{role_of, sort_behind}
use Rattle.bv_trees.proofs.Derived.{by_term}
use Rattle.bv_trees.proofs.Settling.{none, left_quiet}
use Rattle.bv_trees.proofs.OfTerms.{After, AllTaken, takes, taken_as, on, past}
use Rattle.bv_trees.specs.Codes.{pieces}
use Rattle.bv_trees.proofs.Parts.{in_term}
use Rattle.bv_trees.proofs.Held.{none_held, held_term, has_none}
use Rattle.bv_trees.proofs.Standing.{now_done, Still, Loose, still_now, still_loose, is_quiet, when, Legal, AmongBinders, State}
use Rattle.bv_trees.proofs.Steps.{done_by, final, in_prefix, in_if, in_call, in_infix, no_infix, to_receiver, a_variable, a_constant, a_number, no_methods, to_name, further_name, then_arguments, no_argument, an_argument, no_dots, a_dot}
use Rattle.bv_trees.proofs.Inside.{in_brackets, still_after, of_quieter, binder_quiet, ended_quiet, colon_quiet, at_assign}

split : (b : Bool) (l : Type 0) → when b l → (b ≡ true) × l
split true l h = (refl, h)
split false l h = absurd h

-- no term is open outside
legal_open : (a : List Symbol) → Legal a → terms_open a ≡ 0
legal_open [] l = refl
legal_open (finish ∷ a) l = ap terms_open l
legal_open (terminal q ∷ a) l = legal_open a (split (is_quiet q) (Legal a) l).1
legal_open (unless x ∷ a) l = legal_open a l
legal_open (items ∷ a) l = legal_open a l
legal_open (path ∷ a) l = legal_open a l
legal_open (dotted ∷ a) l = legal_open a l
legal_open (paths ∷ a) l = legal_open a l
legal_open (part ∷ a) l = legal_open a l
legal_open (names ∷ a) l = legal_open a l
legal_open (brace_names ∷ a) l = legal_open a l
legal_open (sort ∷ a) l = legal_open a l
legal_open (proof ∷ a) l = legal_open a l
legal_open (intro ∷ a) l = legal_open a l
legal_open (separator ∷ a) l = legal_open a l
legal_open (tactic ∷ a) l = legal_open a l
legal_open (binders ∷ terminal (roles.Word words.Colon) ∷ a) l = legal_open a l
legal_open (bound ∷ terminal (roles.Word words.RightRound) ∷ binders ∷ terminal (roles.Word words.Colon) ∷ a) l = legal_open a l
legal_open (term zero ∷ terminal (roles.Word words.Assign) ∷ a) l = legal_open a l
legal_open a l = absurd l

nothing_waits : (a : List Symbol) → terms_open a ≡ 0 → waiting a ≡ 0
nothing_waits [] e = refl
nothing_waits (term p ∷ a) e = e
nothing_waits (s ∷ a) e = ap (λ n. n - 1) e

past_end : (ts : List Terminal) (i : ℕ) → slice_get ts i ≡ None → i + 1 ≤ length ts → ⊥
past_end ts i e h = let there = slice_get-get_or ts i terminals.Name (omega arith) in cc

-- outside terms
pub outside : {ts : List Terminal} {xs : List Taken} (a : List Symbol) (pre : List Piece) (i : ℕ) → AllTaken ts xs → Legal a → Derives ts file 0 a i → Still ts xs pre i → State ts xs a pre i
outside [] pre i k l r s = still_now s
outside {ts} {xs} (finish ∷ a) pre i k l r s = (still_now s, λ e. subst (λ b. State ts xs b pre (i + 1)) (sym l) (record { ends = λ f m. absurd (past_end ts i e f.within) }))
outside (terminal q ∷ a) pre i k l r s = let h = split (is_quiet q) (Legal a) l in (still_now s, λ e. outside a pre (i + 1) k h.1 (past r e) (still_after k (taken_as r e) h.0 s))
outside (unless x ∷ a) pre i k l r s = (still_now s, λ n. outside a pre i k l (follow r (not_next n here)) s)
outside (sort ∷ a) pre i k l r s = (
  still_now s,
  (λ e. let r1 = on r g.truth in outside a pre (i + 1) k l (past r1 e) (still_after k (taken_as r1 e) refl s)),
  (λ e.
      let r1 = on r g.vector in
      let s1 = still_after k (taken_as r1 e) refl s in
      let r2 = past r1 e in
      (still_now s1, λ q. outside a pre (i + 1 + 1) k l (past r2 q) (still_after k (taken_as r2 q) refl s1))),
)
outside (binders ∷ a) pre i k l r s = record { legal = l; loose = still_loose s }
outside (items ∷ a) pre i k l r s = record { legal = l; still = s }
outside (path ∷ a) pre i k l r s = record { legal = l; still = s }
outside (dotted ∷ a) pre i k l r s = record { legal = l; still = s }
outside (paths ∷ a) pre i k l r s = record { legal = l; still = s }
outside (part ∷ a) pre i k l r s = record { legal = l; still = s }
outside (names ∷ a) pre i k l r s = record { legal = l; still = s }
outside (brace_names ∷ a) pre i k l r s = record { legal = l; still = s }
outside (bound ∷ a) pre i k l r s = record { legal = l; still = s }
outside (proof ∷ a) pre i k l r s = record { legal = l; still = s }
outside (intro ∷ a) pre i k l r s = record { legal = l; still = s }
outside (separator ∷ a) pre i k l r s = record { legal = l; still = s }
outside (tactic ∷ a) pre i k l r s = record { legal = l; still = s }
outside (term zero ∷ terminal (roles.Word words.Assign) ∷ a) pre i k l r s = record {
  frames = [];
  goal = s.goal;
  binder = s.binder;
  so_far = s.so_far;
  stands = s.stands;
  counts = legal_open a l;
  held = s.held;
  has = s.has;
  now = still_now s;
  next = λ pre' x j u h m n.
      let held = held_term s.held (in_term u r) in
      let r1 = follow r (by_term u here) in
      (now_done n h refl held m, λ e. outside a pre' (j + 1) k l (past r1 e) (at_assign k r1 e h held m (nothing_waits a (legal_open a l))));
}
outside a pre i k l r s = absurd l

-- binders
bound_legal : (a : List Symbol) → Legal (binders ∷ a) → Legal (bound ∷ word words.RightRound ∷ binders ∷ a)
bound_legal (terminal (roles.Word words.Colon) ∷ a) l = l
bound_legal a l = absurd l

sort_legal : (a : List Symbol) → Legal (bound ∷ a) → Legal a
sort_legal (terminal (roles.Word words.RightRound) ∷ binders ∷ terminal (roles.Word words.Colon) ∷ a) l = l
sort_legal a l = absurd l

round : {ts : List Terminal} {xs : List Taken} {pre : List Piece} {i : ℕ} {a : List Symbol} → AllTaken ts xs → Derives ts file 0 (binders ∷ a) i → AmongBinders ts xs a pre i → State ts xs (word words.LeftRound ∷ terminal roles.Binder ∷ names ∷ word words.Colon ∷ bound ∷ word words.RightRound ∷ binders ∷ a) pre i
round {pre = pre} {i = i} {a = a} k r s = (
  s.loose.now,
  λ e.
      let r1 = on r g.round in
      outside (terminal roles.Binder ∷ names ∷ word words.Colon ∷ bound ∷ word words.RightRound ∷ binders ∷ a) pre (i + 1) k (bound_legal a s.legal) (past r1 e)
      (of_quieter (takes k (taken_as r1 e) s.loose.stands) (binder_quiet (i + 1) (ended_quiet i s.loose.method s.loose.goal s.loose.binder s.loose.so_far s.loose.gives s.loose.held s.loose.has))),
)

brace : {ts : List Terminal} {xs : List Taken} {pre : List Piece} {i : ℕ} {a : List Symbol} → AllTaken ts xs → Derives ts file 0 (binders ∷ a) i → AmongBinders ts xs a pre i → State ts xs (word words.LeftBrace ∷ terminal roles.BraceBinder ∷ brace_names ∷ word words.Colon ∷ sort ∷ word words.RightBrace ∷ binders ∷ a) pre i
brace {pre = pre} {i = i} {a = a} k r s = (
  s.loose.now,
  λ e.
      let r1 = on r g.brace in
      outside (terminal roles.BraceBinder ∷ brace_names ∷ word words.Colon ∷ sort ∷ word words.RightBrace ∷ binders ∷ a) pre (i + 1) k s.legal (past r1 e)
      (of_quieter (takes k (taken_as r1 e) s.loose.stands) (binder_quiet (i + 1) (ended_quiet i s.loose.method s.loose.goal s.loose.binder s.loose.so_far s.loose.gives s.loose.held s.loose.has))),
)

behind_binders : {ts : List Terminal} {xs : List Taken} {pre : List Piece} {i : ℕ} (a : List Symbol) → AllTaken ts xs → Legal (binders ∷ a) → Derives ts file 0 a i → Loose ts xs pre i → State ts xs a pre i
behind_binders {xs = xs} {pre = pre} {i = i} (terminal (roles.Word words.Colon) ∷ a) k l r s = (
  s.now,
  λ e.
      outside a pre (i + 1) k l (past r e) (of_quieter (takes k (taken_as r e) s.stands) (colon_quiet i (sort_behind i (role_of (slice_get xs (i + 1)))) (ended_quiet i s.method s.goal s.binder s.so_far s.gives s.held s.has))),
)
behind_binders a k l r s = absurd l

-- a hypothesis
hypothesis : {ts : List Terminal} {xs : List Taken} {pre : List Piece} {i : ℕ} (a : List Symbol) → AllTaken ts xs → Legal (bound ∷ a) → Derives ts file 0 (term 0 ∷ a) i → Still ts xs pre i → State ts xs (term 0 ∷ a) pre i
hypothesis {ts} {xs} (terminal (roles.Word words.RightRound) ∷ binders ∷ terminal (roles.Word words.Colon) ∷ a) k l r s = record {
  frames = [];
  goal = s.goal;
  binder = s.binder;
  so_far = s.so_far;
  stands = s.stands;
  counts = legal_open a l;
  held = s.held;
  has = s.has;
  now = still_now s;
  next = λ pre' x j u h m n.
      let held = held_term s.held (in_term u r) in
      let r1 = follow r (by_term u here) in (
        now_done n h refl held m,
        λ e.
            let t1 = taken_as r1 e in
            let left = left_quiet h.inner [] h.method s.goal s.binder (waiting (binders ∷ word words.Colon ∷ a)) h.so_far (s.so_far ++ pieces x) h.open_ (nothing_waits (binders ∷ word words.Colon ∷ a) (legal_open a l)) h.gives in
            let stands = takes k t1 h.stands ∙ left.2 in
            let after : After xs [] s.goal s.binder (s.so_far ++ pieces x) (j + 1) = record { inner = []; method = left.0; so_far = left.1; open_ = none; stands = stands; gives = ap (λ w. left.1 ++ w) (append-nil _) ∙ left.3 } in
            record {
              legal = l;
              loose = record { method = left.0; goal = s.goal; binder = s.binder; so_far = left.1; all = s.so_far ++ pieces x; stands = stands; gives = left.3; held = held; has = m; now = now_done (done_by k t1 refl) after refl held m };
            },
      );
}
hypothesis a k l r s = absurd l

pub step : {ts : List Terminal} {xs : List Taken} {i : ℕ} {s : Symbol} {c : List Symbol} (pre : List Piece) (a : List Symbol) → AllTaken ts xs → Rule s c → Derives ts file 0 (s ∷ a) i → State ts xs (s ∷ a) pre i → State ts xs (c ++ a) pre i
step {i = i} pre a k g.import_item r s = outside (word words.Import ∷ path ∷ items ∷ a) pre i k s.legal (on r g.import_item) s.still
step {i = i} pre a k g.open_item r s = outside (word words.Open ∷ path ∷ paths ∷ items ∷ a) pre i k s.legal (on r g.open_item) s.still
step {i = i} pre a k g.theorem_item r s = outside (word words.Theorem ∷ path ∷ binders ∷ word words.Colon ∷ term 0 ∷ word words.Assign ∷ proof ∷ items ∷ a) pre i k s.legal (on r g.theorem_item) s.still
step {i = i} pre a k g.example_item r s = outside (word words.Example ∷ binders ∷ word words.Colon ∷ term 0 ∷ word words.Assign ∷ proof ∷ items ∷ a) pre i k s.legal (on r g.example_item) s.still
step {i = i} pre a k g.no_item r s = outside (unless g.begins_item ∷ a) pre i k s.legal (on r g.no_item) s.still
step {i = i} pre a k g.a_path r s = outside (part ∷ dotted ∷ a) pre i k s.legal (on r g.a_path) s.still
step {i = i} pre a k g.part_name r s = outside (terminal roles.Part ∷ a) pre i k s.legal (on r g.part_name) s.still
step {i = i} pre a k g.part_bool r s = outside (word words.Bool ∷ a) pre i k s.legal (on r g.part_bool) s.still
step {i = i} pre a k g.part_bitvec r s = outside (word words.BitVec ∷ a) pre i k s.legal (on r g.part_bitvec) s.still
step {i = i} pre a k g.further_part r s = outside (word words.Dot ∷ part ∷ dotted ∷ a) pre i k s.legal (on r g.further_part) s.still
step {i = i} pre a k g.no_part r s = outside (unless (g.is_word words.Dot) ∷ a) pre i k s.legal (on r g.no_part) s.still
step {i = i} pre a k g.further_path r s = outside (path ∷ paths ∷ a) pre i k s.legal (on r g.further_path) s.still
step {i = i} pre a k g.no_path r s = outside (unless g.begins_part ∷ a) pre i k s.legal (on r g.no_path) s.still
step pre a k g.round r s = round k r s
step pre a k g.brace r s = brace k r s
step pre a k g.no_binder r s = (s.loose.now, λ n. behind_binders a k s.legal (follow (on r g.no_binder) (not_next n here)) s.loose)
step {i = i} pre a k g.further_name r s = outside (terminal roles.Binder ∷ names ∷ a) pre i k s.legal (on r g.further_name) s.still
step {i = i} pre a k g.no_name r s = outside (unless g.begins_name ∷ a) pre i k s.legal (on r g.no_name) s.still
step {i = i} pre a k g.further_brace_name r s = outside (terminal roles.BraceBinder ∷ brace_names ∷ a) pre i k s.legal (on r g.further_brace_name) s.still
step {i = i} pre a k g.no_brace_name r s = outside (unless g.begins_name ∷ a) pre i k s.legal (on r g.no_brace_name) s.still
step {i = i} pre a k g.variables r s = outside (sort ∷ a) pre i k (sort_legal a s.legal) (on r g.variables) s.still
step pre a k g.hypothesis r s = hypothesis a k s.legal (on r g.hypothesis) s.still
step pre a k g.truth r s = (s.0, s.1)
step pre a k g.vector r s = (s.0, s.2)
step {i = i} pre a k g.a_proof r s = outside (word words.By ∷ intro ∷ tactic ∷ a) pre i k s.legal (on r g.a_proof) s.still
step {i = i} pre a k g.intros r s = outside (word words.Intros ∷ separator ∷ a) pre i k s.legal (on r g.intros) s.still
step {i = i} pre a k g.no_intros r s = outside (unless (g.is_word words.Intros) ∷ a) pre i k s.legal (on r g.no_intros) s.still
step {i = i} pre a k g.separated r s = outside (word words.Semicolon ∷ a) pre i k s.legal (on r g.separated) s.still
step {i = i} pre a k g.not_separated r s = outside (unless (g.is_word words.Semicolon) ∷ a) pre i k s.legal (on r g.not_separated) s.still
step {i = i} pre a k g.decided r s = outside (word words.Decide ∷ a) pre i k s.legal (on r g.decided) s.still
step {i = i} pre a k g.checked r s = outside (word words.Check ∷ terminal roles.File ∷ a) pre i k s.legal (on r g.checked) s.still
step pre a k (g.prefix q) r s = in_prefix k q r s
step pre a k g.choice r s = in_if k r s
step pre a k g.a_call r s = in_call r s
step pre a k (g.infix_ o q) r s = in_infix k o q r s
step pre a k g.no_infix r s = no_infix r s
step pre a k g.a_receiver r s = to_receiver r s
step pre a k g.a_method r s = to_name k r s
step pre a k g.no_method r s = no_methods r s
step pre a k g.further_method r s = further_name k r s
step pre a k g.then_arguments r s = then_arguments r s
step pre a k g.an_argument r s = an_argument r s
step pre a k g.no_argument r s = no_argument r s
step pre a k g.a_dot r s = a_dot k r s
step pre a k g.no_dot r s = no_dots r s
step pre a k g.a_variable r s = a_variable k r s
step pre a k g.a_numeral r s = a_number k r s
step pre a k g.with_width r s = (final (literal ∷ a) r s, s.1)
step pre a k g.without_width r s = (final (literal ∷ a) r s, s.0)
step pre a k (g.a_constant q) r s = a_constant k q r s
step pre a k g.in_brackets r s = in_brackets k r s
step pre a k g.plain_closing r s = (s.0, s.1)
step pre a k g.ascribed r s = (s.0, s.2)

pub fold : {ts : List Terminal} {xs : List Taken} (pre : List Piece) {a b : List Symbol} {i j : ℕ} → AllTaken ts xs → Derives ts a i b j → Derives ts file 0 a i → State ts xs a pre i → State ts xs b pre j
fold pre k here r s = s
fold pre k (taken e d) r s = fold pre k d (past r e) (s.1 e)
fold pre k (at_end e d) r s = fold pre k d (follow r (at_end e here)) (s.1 e)
fold pre k (not_next e d) r s = fold pre k d (follow r (not_next e here)) (s.1 e)
fold pre k (by_rule {a = a} q d) r s = fold pre k d (on r q) (step pre a k q r s)

pub reading : {ts : List Terminal} {xs : List Taken} {b : List Symbol} {j : ℕ} → AllTaken ts xs → Derives ts file 0 b j → State ts xs b [] j
reading k d = fold [] k d here (outside file [] 0 k refl here (record { goal = None; binder = 0; so_far = []; stands = refl; held = none_held; has = has_none }))
