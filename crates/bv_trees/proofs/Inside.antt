-- How a reading goes on in brackets, and outside terms.
use Rattle.std.proofs.Common.{◌≡◌, ℕ, suc, ◌+◌, ◌-◌, true, List, [], ◌∷◌, ◌++◌, length, Option, Some, None, refl, ap, arith, ◌∙◌, append_assoc, append-nil}
use Rattle.std.specs.Prelude.{slice_get}
use Rattle.std.proofs.lemmas.Option.{slice_get_past}
use Rattle.bv_grammar.specs.declared.words.Word.TheVariants as words
use Rattle.bv_grammar.specs.declared.words.Terminal.{Terminal}
use Rattle.bv_grammar.specs.declared.words.Role.{Role}
use Rattle.bv_grammar.specs.declared.words.Role.TheVariants as roles
use Rattle.bv_grammar.specs.declared.reading.Taken.{Taken}
use Rattle.bv_grammar.specs.Grammar.{terminal_of, Next, begins_binder, Symbol, terminal, word, finish, unless, items, path, dotted, paths, part, binders, names, brace_names, bound, sort, proof, intro, separator, tactic, term, tail, call, methods, more_methods, arguments, dots, atom, literal, closing, file, Rule}
use Rattle.bv_grammar.specs.Grammar as g
use Rattle.bv_grammar.specs.Derivation.{Derives, here}
use Rattle.bv_grammar.specs.Taking.{IsTakenAs, terms_open, waiting}
use Rattle.bv_grammar.proofs.Derivations.{follow}
use Rattle.bv_trees.specs.declared.pieces.Sort.{Sort}
use Rattle.bv_trees.specs.declared.pieces.Sort.TheVariants as sorts
use Rattle.bv_trees.specs.declared.pieces.Piece.{Piece}
use Rattle.bv_trees.specs.declared.pieces.Piece.TheVariants as piece
use Rattle.bv_trees.specs.declared.building.Frame.{Frame}
use Rattle.bv_trees.specs.declared.building.Frame.TheVariants as frame
use Rattle.bv_trees.specs.Trees as v
use Rattle.bv_trees.specs.Trees.{Tree}
use Rattle.bv_trees.specs.Terms as t
use Rattle.bv_trees.specs.Terms.{IsAt, IsWord, IsNot, Term, SortAt}
use Rattle.bv_trees.specs.Codes.{pieces}
use Rattle.bv_trees.specs.Building.{Building, run, role_of, on_role, settle, complete, close, named, head_ends, bind, sort_behind, ascribe, put, closing as closes}
use Rattle.bv_trees.proofs.Derived.{by_term}
use Rattle.bv_trees.proofs.Settling.{st, none, left_bracket}
use Rattle.bv_trees.proofs.OfTerms.{After, AllTaken, takes, taken_as, on, past, rests, on_complete, sort_told, next_role}
use Rattle.bv_trees.specs.Complete as d
use Rattle.bv_trees.proofs.Parts.{Whole, whole_ascribed, in_term}
use Rattle.bv_trees.proofs.Held.{Held, held_term, held_loose, Has, has_as, has_more}
use Rattle.bv_trees.proofs.Standing.{Done, now_done, now_rests, Atomic, Still, is_quiet, AtTerminal, AtClosing, State}
use Rattle.bv_trees.proofs.Steps.{done_by}

-- the sort of an ascription, and the bracket behind it
at_right : {ts : List Terminal} {xs : List Taken} {a : List Symbol} {i k j : ℕ} {x : Tree} {σ : Sort} {pre : List Piece} → AllTaken ts xs → (s : Atomic ts xs (State ts xs a) a pre i) → IsWord ts words.LeftRound i → Term ts 0 (i + 1) x k → IsWord ts words.Colon k → SortAt ts (k + 1) σ j → Derives ts file 0 (word words.RightRound ∷ a) j
    → {pre' : List Piece} → run xs j ≡ st (frame.Bracket s.method ∷ s.frames) None s.goal s.binder ((s.so_far ++ pieces x) ++ piece.Ascribed k σ ∷ []) → Held ts (s.so_far ++ pieces (v.ascribed k x σ)) → Has pre' (s.so_far ++ pieces (v.ascribed k x σ)) → AtTerminal ts xs (roles.Word words.RightRound) (State ts xs a) pre' j
at_right {i = i} {k = n} {j = j} {x = x} {σ = σ} k s e u col d r {pre'} stands held has =
    let same = append_assoc s.so_far (pieces x) (piece.Ascribed n σ ∷ []) in
    let stands1 = stands ∙ ap (λ w. st (frame.Bracket s.method ∷ s.frames) None s.goal s.binder w) same in (
      now_rests refl stands1 held has,
      λ c.
          let h = taken_as r c in
          s.next pre' (v.ascribed n x σ) (j + 1) (t.bracket e u (t.with_sort col d c)) (takes k h stands1 ∙ left_bracket [] s.frames None s.method s.goal s.binder _ _ _ none s.waits (append-nil _)) has (done_by k h refl),
    )

-- the pieces before the sort
colon_stands : {ts : List Terminal} {xs : List Taken} {a : List Symbol} {j : ℕ} {fs : List Frame} {m g' : Option ℕ} {n : ℕ} {σ : Sort} {ps : List Piece} → AllTaken ts xs → terms_open a ≡ suc (length fs) → (r : Derives ts file 0 (terminal roles.Ascription ∷ sort ∷ word words.RightRound ∷ a) j) → (e : IsWord ts words.Colon j) → After xs (frame.Bracket m ∷ fs) g' n ps j → sort_behind j (role_of (slice_get xs (j + 1))) ≡ Some σ
    → run xs (j + 1) ≡ st (frame.Bracket m ∷ fs) None g' n (ps ++ piece.Ascribed j σ ∷ [])
colon_stands {xs = xs} {a = a} {j = j} {fs = fs} {m = m} {g' = g'} {n = n} {σ = σ} k o r e h told =
    let keep : terms_open a - 1 + 1 ≡ suc (length fs) = omega (arith, o) in
    takes k (taken_as r e) h.stands ∙ ap (λ q. ascribe j q (complete (terms_open a - 1 + 1) (st (h.inner ++ frame.Bracket m ∷ fs) h.method g' n h.so_far))) told ∙ ap (put (piece.Ascribed j σ)) (rests _ keep h)

-- a sort is to begin behind the colon of an ascription, where none is there yet
colon_alone : {ts : List Terminal} {xs : List Taken} {a : List Symbol} {j : ℕ} {fs : List Frame} {m g' : Option ℕ} {n : ℕ} {ps : List Piece} → AllTaken ts xs → terms_open a ≡ suc (length fs) → (r : Derives ts file 0 (terminal roles.Ascription ∷ sort ∷ word words.RightRound ∷ a) j) → (e : IsWord ts words.Colon j) → After xs (frame.Bracket m ∷ fs) g' n ps j → length xs ≡ j + 1
    → run xs (j + 1) ≡ st (frame.Bracket m ∷ fs) None g' n ps
colon_alone {xs = xs} {a = a} {j = j} {fs = fs} {m = m} {g' = g'} {n = n} k o r e h l =
    let keep : terms_open a - 1 + 1 ≡ suc (length fs) = omega (arith, o) in
    takes k (taken_as r e) h.stands ∙ ap (λ q. ascribe j (sort_behind j (role_of q)) (complete (terms_open a - 1 + 1) (st (h.inner ++ frame.Bracket m ∷ fs) h.method g' n h.so_far))) (slice_get_past xs (j + 1) (omega (arith, l))) ∙ rests _ keep h

at_closing : {ts : List Terminal} {xs : List Taken} {a : List Symbol} {i j : ℕ} {x : Tree} {pre pre' : List Piece} → AllTaken ts xs → (s : Atomic ts xs (State ts xs a) a pre i) → IsWord ts words.LeftRound i → Term ts 0 (i + 1) x j → Derives ts file 0 (closing ∷ a) j → After xs (frame.Bracket s.method ∷ s.frames) s.goal s.binder (s.so_far ++ pieces x) j
    → Whole ts x → Has pre' (s.so_far ++ pieces x) → Done xs j → AtClosing ts xs (State ts xs a) pre' j
at_closing {ts} {xs} {a = a} {j = j} {x = x} {pre' = pre'} k s e u r h w has n =
    let held = held_term s.held w in
    let r2 = on r g.ascribed in (
      now_done n h refl held has,
      (λ c.
          let r1 = on r g.plain_closing in
          let h1 = taken_as r1 c in
          s.next pre' x (j + 1) (t.bracket e u (t.plain c)) (takes k h1 h.stands ∙ left_bracket h.inner s.frames h.method s.method s.goal s.binder _ h.so_far (s.so_far ++ pieces x) h.open_ s.waits h.gives) has (done_by k h1 refl)),
      (λ c.
          let r3 = past r2 c in
          let all : (σ : Sort) → Held ts (s.so_far ++ pieces (v.ascribed j x σ)) = λ σ. held_term s.held (whole_ascribed {i = j} {s = σ} w) in
          let more : (σ : Sort) → Has pre' (s.so_far ++ pieces (v.ascribed j x σ)) = λ σ. has_as (append_assoc s.so_far (pieces x) (piece.Ascribed j σ ∷ [])) (has_more (piece.Ascribed j σ ∷ []) has) in (
            (record { ends = λ f l. (now_rests refl (colon_alone k s.counts r2 c h l) held has).ends f l }),
            (λ b.
                let r4 = on r3 g.truth in
                let d = t.truths b in
                at_right k s e u c d (past r4 b) (takes k (taken_as r4 b) (colon_stands k s.counts r2 c h (sort_told j k d r3))) (all sorts.Truth) (more sorts.Truth)),
            (λ b.
                let r4 = on r3 g.vector in
                let r5 = past r4 b in (
                  now_rests refl (takes k (taken_as r4 b) (colon_stands k s.counts r2 c h (ap (sort_behind j) (next_role k (taken_as r4 b)))) ∙ ap (λ w. st (frame.Bracket s.method ∷ s.frames) None s.goal s.binder w) (append_assoc s.so_far (pieces x) (piece.Ascribed j (sorts.Vector (j + 2)) ∷ []))) (all (sorts.Vector (j + 2))) (more (sorts.Vector (j + 2))),
                  λ q.
                      let d = t.vectors b q in
                      at_right k s e u c d (past r5 q) (takes k (taken_as r5 q) (takes k (taken_as r4 b) (colon_stands k s.counts r2 c h (sort_told j k d r3)))) (all _) (more _),
                )),
          )),
    )

pub in_brackets : {ts : List Terminal} {xs : List Taken} {a : List Symbol} {i : ℕ} {pre : List Piece} → AllTaken ts xs → Derives ts file 0 (atom ∷ a) i → Atomic ts xs (State ts xs a) a pre i → State ts xs (terminal roles.Bracket ∷ term 0 ∷ closing ∷ a) pre i
in_brackets {i = i} k r s = (
  s.now,
  λ e.
      let r1 = on r g.in_brackets in
      let stands = takes k (taken_as r1 e) s.stands in
      let r2 = past r1 e in
      record {
        frames = frame.Bracket s.method ∷ s.frames;
        goal = s.goal;
        binder = s.binder;
        so_far = s.so_far;
        stands = stands;
        counts = s.counts;
        held = s.held;
        has = s.has;
        now = now_rests refl stands s.held s.has;
        next = λ pre' x j u h m n. at_closing k s e u (follow r2 (by_term u here)) h (in_term u r2) m n;
      },
)

-- what a terminal does outside terms
pub record Quieter (ts : List Terminal) (pre : List Piece) (b : Building) : Type 0 where
  pub goal : Option ℕ
  pub binder : ℕ
  pub so_far : List Piece
  pub stands : b ≡ st [] None goal binder so_far
  pub held : Held ts so_far
  pub has : Has pre so_far

same_quiet : {ts : List Terminal} {pre ps : List Piece} {g' : Option ℕ} {n : ℕ} → Held ts ps → Has pre ps → Quieter ts pre (st [] None g' n ps)
same_quiet {ps = ps} {g' = g'} {n = n} h m = record { goal = g'; binder = n; so_far = ps; stands = refl; held = h; has = m }

one_piece : {ts : List Terminal} {pre ps : List Piece} {g' : Option ℕ} {n : ℕ} {o : Piece} → d.IsLoose o → Held ts ps → Has pre ps → Quieter ts pre (st [] None g' n (ps ++ o ∷ []))
one_piece {o = o} l h m = same_quiet (held_loose h l) (has_more (o ∷ []) m)

named_quiet : {ts : List Terminal} {pre ps : List Piece} (i : ℕ) (g' : Option ℕ) (n : ℕ) → Held ts ps → Has pre ps → Quieter ts pre (named i g' (st [] None g' n ps))
named_quiet i None n h m = same_quiet h m
named_quiet i (Some q) n h m = one_piece d.a_goal h m

quiet_as : {ts : List Terminal} {pre : List Piece} {b c : Building} → c ≡ b → Quieter ts pre b → Quieter ts pre c
quiet_as e q = record { goal = q.goal; binder = q.binder; so_far = q.so_far; stands = e ∙ q.stands; held = q.held; has = q.has }

-- the names and the arguments before a binder or a colon have ended
pub ended_quiet : {ts : List Terminal} {pre qs : List Piece} (i : ℕ) (m g' : Option ℕ) (n : ℕ) (ps : List Piece) → ps ++ closes m ≡ qs → Held ts qs → Has pre qs → Quieter ts pre (head_ends i (close (st [] m g' n ps)))
ended_quiet i m g' n ps e h k = quiet_as (ap (λ w. head_ends i (st [] None g' n w)) e) (named_quiet i g' n h k)

abbrev pub at_names : ℕ → Building → Building
at_names n b = record b { names = n }

pub binder_quiet : {ts : List Terminal} {pre : List Piece} {b : Building} (n : ℕ) → Quieter ts pre b → Quieter ts pre (at_names n b)
binder_quiet n q = record { goal = q.goal; binder = n; so_far = q.so_far; stands = ap (at_names n) q.stands; held = q.held; has = q.has }

bound_quiet : {ts : List Terminal} {pre ps : List Piece} (g' : Option ℕ) (n i : ℕ) (o : Option Sort) → Held ts ps → Has pre ps → Quieter ts pre (bind i o (st [] None g' n ps))
bound_quiet g' n i None h m = same_quiet h m
bound_quiet g' n i (Some s) h m = one_piece d.some_variables h m

pub colon_quiet : {ts : List Terminal} {pre : List Piece} {b : Building} (i : ℕ) (o : Option Sort) → Quieter ts pre b → Quieter ts pre (bind i o b)
colon_quiet i o q = quiet_as (ap (bind i o) q.stands) (bound_quiet q.goal q.binder i o q.held q.has)

none_left : (w : ℕ) (b : Building) → settle (0 - w) b ≡ b
none_left w b = ap (λ n. settle n b) (nothing w)
  where
    nothing : (w : ℕ) → 0 - w ≡ 0
    nothing w = omega arith

quiet_step : {ts : List Terminal} {pre ps : List Piece} (g' : Option ℕ) (n i w : ℕ) (o : Option Role) (r : Role) → is_quiet r ≡ true → Held ts ps → Has pre ps → Quieter ts pre (on_role i r w o (st [] None g' n ps))
quiet_step g' n i w o roles.Part q h m = same_quiet h m
quiet_step g' n i w o roles.Binder q h m = same_quiet h m
quiet_step g' n i w o roles.BraceBinder q h m = same_quiet h m
quiet_step g' n i w o roles.Width q h m = same_quiet h m
quiet_step g' n i w o roles.File q h m = one_piece d.a_proof h m
quiet_step g' n i w o (roles.Word words.Import) q h m = same_quiet h m
quiet_step g' n i w o (roles.Word words.Open) q h m = same_quiet h m
quiet_step g' n i w o (roles.Word words.Theorem) q h m = same_quiet h m
quiet_step g' n i w o (roles.Word words.Example) q h m = same_quiet h m
quiet_step {ps = ps} g' n i w o (roles.Word words.LeftRound) q h m = binder_quiet (i + 1) (ended_quiet i None g' n ps (append-nil ps) h m)
quiet_step {ps = ps} g' n i w o (roles.Word words.RightRound) q h m = quiet_as (none_left w _) (same_quiet h m)
quiet_step {ps = ps} g' n i w o (roles.Word words.LeftBrace) q h m = binder_quiet (i + 1) (ended_quiet i None g' n ps (append-nil ps) h m)
quiet_step g' n i w o (roles.Word words.RightBrace) q h m = same_quiet h m
quiet_step {ps = ps} g' n i w o (roles.Word words.Colon) q h m = colon_quiet i (sort_behind i o) (ended_quiet i None g' n ps (append-nil ps) h m)
quiet_step {ps = ps} g' n i w o (roles.Word words.Assign) q h m = quiet_as (ap close (none_left w (st [] None g' n ps)) ∙ ap (λ v. st [] None g' n v) (append-nil ps)) (same_quiet h m)
quiet_step g' n i w o (roles.Word words.By) q h m = same_quiet h m
quiet_step g' n i w o (roles.Word words.Intros) q h m = same_quiet h m
quiet_step g' n i w o (roles.Word words.Semicolon) q h m = same_quiet h m
quiet_step g' n i w o (roles.Word words.Decide) q h m = one_piece d.a_proof h m
quiet_step g' n i w o (roles.Word words.Check) q h m = same_quiet h m
quiet_step g' n i w o (roles.Word words.Bool) q h m = same_quiet h m
quiet_step g' n i w o (roles.Word words.BitVec) q h m = same_quiet h m
quiet_step g' n i w o (roles.Word words.Dot) q h m = same_quiet h m
quiet_step g' n i w o r q h m = cc

pub still_after : {ts : List Terminal} {xs : List Taken} {pre : List Piece} {i : ℕ} {r : Role} {a : List Symbol} → AllTaken ts xs → IsTakenAs ts i r a → is_quiet r ≡ true → Still ts xs pre i → Still ts xs pre (i + 1)
still_after {xs = xs} {i = i} {r = r} {a = a} k h q s =
    let c = quiet_step s.goal s.binder i (waiting a) (role_of (slice_get xs (i + 1))) r q s.held s.has in
    record { goal = c.goal; binder = c.binder; so_far = c.so_far; stands = takes k h s.stands ∙ c.stands; held = c.held; has = c.has }

pub of_quieter : {ts : List Terminal} {xs : List Taken} {pre : List Piece} {i : ℕ} {b : Building} → run xs i ≡ b → Quieter ts pre b → Still ts xs pre i
of_quieter e c = record { goal = c.goal; binder = c.binder; so_far = c.so_far; stands = e ∙ c.stands; held = c.held; has = c.has }

-- the conclusion of a goal
pub at_assign : {ts : List Terminal} {xs : List Taken} {pre : List Piece} {g' : Option ℕ} {n j : ℕ} {ps : List Piece} {a : List Symbol} → AllTaken ts xs → Derives ts file 0 (word words.Assign ∷ a) j → IsWord ts words.Assign j → After xs [] g' n ps j → Held ts ps → Has pre ps → waiting a ≡ 0 → Still ts xs pre (j + 1)
at_assign {g' = g'} {n = n} {ps = ps} k r e h held m w = record { goal = g'; binder = n; so_far = ps; stands = on_complete {fs = []} words.Assign k (taken_as r e) (λ s. refl) w h; held = held; has = m }
