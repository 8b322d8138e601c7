-- How a script is recorded, call by call, and what the calls and answers are in the end.
use Rattle.std.proofs.Common.{◌≡◌, ◌<◌, ◌≤◌, ◌+◌, ℕ, suc, Bool, true, false, ◌||◌, List, [], ◌∷◌, ◌++◌, refl, sym, ◌∙◌, ap, ap₂, subst, length, arith, if◌then◌else◌, Some, None, Result, Ok, Err}
use Rattle.std.specs.Prelude.{IfOk}
use Rattle.std.specs.declared.alloc.AllocError.{AllocError}
use Rattle.std.proofs.lemmas.List.{append-nil, append_assoc, length-append}
use Rattle.std.proofs.lemmas.List.Elements.{All-nil, All-head}
use Rattle.gate_shape.specs.Literal.{Literal, opposite}
use Rattle.gate_shape.specs.Edge.{Edge, Gate, simplified, ordered, level}
use Rattle.gate_shape.specs.Row.{Row, both}
use Rattle.gate_shape.specs.Word.{simple_literal, same_literal, true_literal, false_literal, key_of, key_less}
use Rattle.gate_shape.specs.Builds.{Meaning, Noting, edge, Known, Stands, Builds, Keeps, Refused, OneEach, HasGate, NotDeep, TooDeep, NoRoom, IsMemory, noted_all}
use Rattle.gate_shape.specs.Listed.{Listed, listed, holding, gates_of, gate_of, grow, note_new}
use Rattle.gate_shape.specs.declared.builder.GateStop.{GateStop}
use Rattle.gate_shape.specs.declared.builder.GateStop.TheVariants.{Deep, Full, Memory}
use Rattle.gate_shape.proofs.Building.{builds_plain, keeps_self, stands_self, known_kept, edge_kept}
use Rattle.gate_shape.proofs.Sameness.{edge_once}
use Rattle.gate_shape.proofs.Listing.{key_once}
use Rattle.gate_shape.proofs.Conjoining.{one_gate}
use Rattle.blast_goal.specs.Script.{most_kept, list_of, kept_with, kept_after, IsCall, AreCalls, IsAnswer, AreAnswers, EndsAs, calls_of}
use Rattle.blast_goal.specs.Recorded.{Recorded, called, recorded, note_call, IsRecorded}

-- ---- lists that grow by one

kept_after-push : (kept gs : List Gate) (g : Gate) → kept_after kept (gs ++ g ∷ []) ≡ kept_with (kept_after kept gs) g
kept_after-push kept [] g = refl
kept_after-push kept (h ∷ gs) g = kept_after-push (kept_with kept h) gs g

called-push : (kept : List Gate) (cs : List (Literal × Literal)) (c : Literal × Literal) → called kept (cs ++ c ∷ []) ≡ called kept cs ++ gate_of (kept_after kept (called kept cs)) c ∷ []
unfolding called
called-push kept [] c = refl
called-push kept (d ∷ cs) c = ap (λ z. gate_of kept d ∷ z) (called-push (kept_with kept (gate_of kept d)) cs c)

length-called : (kept : List Gate) (cs : List (Literal × Literal)) → length (called kept cs) ≡ length cs
unfolding called
length-called kept [] = refl
length-called kept (c ∷ cs) = ap suc (length-called (kept_with kept (gate_of kept c)) cs)

pub calls_none : (kept gs : List Gate) → AreCalls kept gs []
calls_none kept [] = tt
calls_none kept (g ∷ gs) = tt

-- one more call, whatever gates follow
calls_push : (kept gs : List Gate) (cs : List (Literal × Literal)) (g : Gate) (rest : List Gate) (c : Literal × Literal) → AreCalls kept gs cs → length cs ≡ length gs → IsCall (kept_after kept gs) g c → AreCalls kept (gs ++ g ∷ rest) (cs ++ c ∷ [])
calls_push kept [] [] g rest c are e s = (s, calls_none (kept_with kept g) rest)
calls_push kept [] (d ∷ cs) g rest c are e s = absurd are
calls_push kept (h ∷ gs) [] g rest c are e s = absurd (omega (arith, e))
calls_push kept (h ∷ gs) (d ∷ cs) g rest c are e s = (are.0, calls_push (kept_with kept h) gs cs g rest c are.1 (omega (arith, e)) s)

pub answers_none : (kept gs : List Gate) → AreAnswers kept gs []
answers_none kept [] = tt
answers_none kept (g ∷ gs) = tt

answers_push : (kept gs : List Gate) (ls : List Literal) (g : Gate) (l : Literal) → AreAnswers kept gs ls → length ls ≡ length gs → IsAnswer (kept_after kept gs) g l → AreAnswers kept (gs ++ g ∷ []) (ls ++ l ∷ [])
answers_push kept [] [] g l are e s = (s, tt)
answers_push kept [] (k ∷ ls) g l are e s = absurd are
answers_push kept (h ∷ gs) [] g l are e s = absurd (omega (arith, e))
answers_push kept (h ∷ gs) (k ∷ ls) g l are e s = (are.0, answers_push (kept_with kept h) gs ls g l are.1 (omega (arith, e)) s)

answers_more : (kept gs rest : List Gate) (ls : List Literal) → AreAnswers kept gs ls → AreAnswers kept (gs ++ rest) ls
answers_more kept [] rest [] are = answers_none kept rest
answers_more kept [] rest (l ∷ ls) are = absurd are
answers_more kept (g ∷ gs) rest [] are = tt
answers_more kept (g ∷ gs) rest (l ∷ ls) are = (are.0, answers_more (kept_with kept g) gs rest ls are.1)

-- how it ends behind as many gates as answers
ends_behind : (kept gs rest : List Gate) (ls : List Literal) (end : Result Literal GateStop) → length ls ≡ length gs → EndsAs (kept_after kept gs) rest [] end → EndsAs kept (gs ++ rest) ls end
ends_behind kept [] rest [] end e h = h
ends_behind kept [] rest (l ∷ ls) end e h = absurd (omega (arith, e))
ends_behind kept (g ∷ gs) rest [] end e h = absurd (omega (arith, e))
ends_behind kept (g ∷ gs) rest (l ∷ ls) end e h = ends_behind (kept_with kept g) gs rest ls end (omega (arith, e)) h

ends_whole : (kept gs : List Gate) (ls : List Literal) (root : Literal) → length ls ≡ length gs → EndsAs kept gs ls (Ok root)
ends_whole kept [] [] root e = tt
ends_whole kept [] (l ∷ ls) root e = absurd (omega (arith, e))
ends_whole kept (g ∷ gs) [] root e = absurd (omega (arith, e))
ends_whole kept (g ∷ gs) (l ∷ ls) root e = ends_whole (kept_with kept g) gs ls root (omega (arith, e))

-- gates that were made stand behind the one that was refused last
noted_calls : (last : Gate) (gs xs : List Gate) → noted_all note_call (last ∷ gs) xs ≡ last ∷ (gs ++ xs)
unfolding note_call
noted_calls last gs [] = ap (λ z. last ∷ z) (sym (append-nil gs))
noted_calls last gs (x ∷ xs) = noted_calls last (gs ++ x ∷ []) xs ∙ ap (λ z. last ∷ z) (append_assoc gs (x ∷ []) xs)

-- ---- one call

-- a simple conjunction of known literals is known
simple_known : (m : Meaning) (a b s : Literal) → simple_literal a b ≡ Some s → Known m a → Known m b → Known m s
unfolding simple_literal
simple_known m a b s e ka kb = go (same_literal a false_literal || same_literal b false_literal || same_literal a (opposite b)) (same_literal a true_literal) (same_literal b true_literal || same_literal a b) e
  where
    some_same : {x y : Literal} → Some x ≡ Some y → x ≡ y
    some_same e = cc

    go : (p q r : Bool) → (if p then Some false_literal else (if q then Some b else (if r then Some a else None))) ≡ Some s → Known m s
    go true q r e = let P : Literal → Type 0 = λ z. Known m z in subst P (some_same e) record { holds = refl }
    go false true r e = let P : Literal → Type 0 = λ z. Known m z in subst P (some_same e) kb
    go false false true e = let P : Literal → Type 0 = λ z. Known m z in subst P (some_same e) ka
    go false false false e = cc

-- a simple call changes nothing
pub simple_call : {n : Noting} (m : Meaning) (a b s : Literal) → Known m a → Known m b → simple_literal a b ≡ Some s → simplified (edge m a) (edge m b) ≡ Some (edge m s) → Builds n Stands m m (Ok s) (both (edge m a) (edge m b))
unfolding both
simple_call m a b s ka kb e q = rw q (builds_plain (stands_self (simple_known m a b s e ka kb)))

-- a call that isn't simple is for one gate
pub gate_call : (a b : Edge) (g : Gate) → simplified a b ≡ None → g ≡ ordered a b → both a b ≡ one_gate g
unfolding both
gate_call a b g e q = rw (e, q) refl

-- equal edges have equal literals for a recorder as for its list
pub recorded_once : (r : Recorded) → OneEach (listed r.list) → OneEach (recorded r)
unfolding edge
recorded_once r once = λ a b ha hb e. once a b record { holds = ha.holds } record { holds = hb.holds } e

-- a recorder whose lists were only given room is the same
pub same_keeps : (a b : Recorded) → b ≡ a → Keeps (recorded a) (recorded b)
same_keeps a b e = let P : Recorded → Type 0 = λ z. Keeps (recorded a) (recorded z) in subst P (sym e) (keeps_self (recorded a))

-- a recorder without calls
pub start_is : (list : Listed) (calls : List (Literal × Literal)) (answers : List Literal) (l : Literal) → list ≡ record { limit = most_kept; pairs = [] } → calls ≡ [] → answers ≡ [] → l ≡ false_literal → IsRecorded list calls answers (l, l)
unfolding gates_of grow called
start_is list calls answers l q c a n = rw (q, c, a, n) record {
  limit = refl;
  once = edge_once most_kept [] (λ i j li lj e. absurd (outside i li));
  kept = refl;
  calls_right = tt;
  answers_right = tt;
  as_many = refl;
  left_known = record { holds = refl };
  right_known = record { holds = refl };
}
  where
    outside : (i : ℕ) → i < 0 → ⊥
    outside i h = omega arith

-- the fanins of a gate are swapped exactly where the second's key is less
pub in_order_as : (m : Meaning) (a b : Literal) (x y : ℕ) → x ≡ level (edge m a) → y ≡ level (edge m b) → (t : Bool) → key_less (key_of b y) (key_of a x) ≡ t → ordered (edge m a) (edge m b) ≡ (if t then record { left = edge m b; right = edge m a } else record { left = edge m a; right = edge m b })
unfolding ordered
in_order_as m a b x y p q t h = rw (key_once m b a y x q p ∙ h) refl

-- the list keeps the gates of the calls
list_is : (list : Listed) (gs : List Gate) → list.limit ≡ most_kept → gates_of list.pairs ≡ gs → listed list ≡ list_of gs
list_is list gs l k = ap (λ n. holding n (gates_of list.pairs)) l ∙ ap (λ z. holding most_kept z) k

stands_by : {m n : Meaning} {l : Literal} {e : Edge} → m ≡ n → Stands m l e → Stands n l e
stands_by {l} {e} q s = let P : Meaning → Type 0 = λ z. Stands z l e in subst P q s

module _ (old : Recorded) (is : IsRecorded old.list old.calls old.answers old.refused) (c : Literal × Literal) (left : Known (listed old.list) c.0) (right : Known (listed old.list) c.1) where
  abbrev g : Gate
  g = gate_of (gates_of old.list.pairs) c

  abbrev made : List Gate
  made = called [] old.calls

  -- the call's literals stand for the gate's fanins
  fanins_stand : IsCall (kept_after [] made) g c
  unfolding edge
  fanins_stand =
      let q = list_is old.list (kept_after [] made) is.limit is.kept in
      record { left = stands_by q (stands_self left); right = stands_by q (stands_self right) }

  called_now : called [] (old.calls ++ c ∷ []) ≡ made ++ g ∷ []
  called_now = called-push [] old.calls c ∙ ap (λ k. made ++ gate_of k c ∷ []) (sym is.kept)

  as_made : length old.calls ≡ length made
  as_made = sym (length-called [] old.calls)

  module _ (list : Listed) (l : Literal) (b : Builds note_new Stands (listed old.list) (listed list) (Ok l) (one_gate g)) (once : OneEach (listed list)) (room : length (listed list).trace ≤ list.limit) where
    abbrev new : Recorded
    new = record { list = list; calls = old.calls ++ c ∷ []; answers = old.answers ++ l ∷ []; refused = old.refused }

    limit_now : list.limit ≡ most_kept
    limit_now = let base = b.keeps.base in let same : list.limit ≡ old.list.limit = cc in same ∙ is.limit

    kept_now : gates_of list.pairs ≡ kept_with (kept_after [] made) g
    kept_now = b.outcome.1.trace ∙ ap (λ k. kept_with k g) is.kept

    answer_now : IsAnswer (kept_after [] made) g l
    answer_now = record {
      shallow = All-head NotDeep g [] b.outcome.1.fit;
      room = omega (arith, ap length kept_now, room, limit_now);
      stands = stands_by (list_is list (kept_with (kept_after [] made) g) limit_now kept_now) b.outcome.0;
    }

    pub answered_is : IsRecorded list (old.calls ++ c ∷ []) (old.answers ++ l ∷ []) old.refused
    answered_is = record {
      limit = limit_now;
      once = once;
      kept = kept_now ∙ (sym (kept_after-push [] made g) ∙ ap (λ z. kept_after [] z) (sym called_now));
      calls_right = (let P : List Gate → Type 0 = λ z. AreCalls [] z (old.calls ++ c ∷ []) in subst P (sym called_now) (calls_push [] made old.calls g [] c is.calls_right as_made fanins_stand));
      answers_right = (let P : List Gate → Type 0 = λ z. AreAnswers [] z (old.answers ++ l ∷ []) in subst P (sym called_now) (answers_push [] made old.answers g l is.answers_right (is.as_many ∙ as_made) answer_now));
      as_many = omega (arith, is.as_many, length-append old.calls (c ∷ []), length-append old.answers (l ∷ []));
      left_known = known_kept (listed old.list) (listed list) old.refused.0 b.keeps is.left_known;
      right_known = known_kept (listed old.list) (listed list) old.refused.1 b.keeps is.right_known;
    }

    refused_same : gate_of (gates_of list.pairs) old.refused ≡ gate_of (gates_of old.list.pairs) old.refused
    unfolding edge
    refused_same = ap₂ (λ x y. record { left = x; right = y }) (edge_kept (listed old.list) (listed list) old.refused.0 b.keeps is.left_known) (edge_kept (listed old.list) (listed list) old.refused.1 b.keeps is.right_known)

    trace_now : (recorded new).trace ≡ noted_all note_call (recorded old).trace (g ∷ [])
    unfolding note_call
    trace_now = ap₂ (λ x y. x ∷ y) refused_same called_now

    pub answered_builds : Builds note_call Stands (recorded old) (recorded new) (Ok l) (one_gate g)
    unfolding edge
    answered_builds = record {
      keeps = record { stays = b.keeps.stays; once = λ o. recorded_once new once; base = b.keeps.base };
      outcome = (
        record { known = record { holds = b.outcome.0.known.holds }; stands_for = b.outcome.0.stands_for },
        record { has = b.outcome.1.has; fit = b.outcome.1.fit; trace = trace_now },
      );
    }

  abbrev turned_down : Recorded
  turned_down = record { list = old.list; calls = old.calls; answers = old.answers; refused = c }

  pub refused_is : IsRecorded old.list old.calls old.answers c
  refused_is = record {
    limit = is.limit;
    once = is.once;
    kept = is.kept;
    calls_right = is.calls_right;
    answers_right = is.answers_right;
    as_many = is.as_many;
    left_known = left;
    right_known = right;
  }

  refused_keeps : Keeps (recorded old) (recorded turned_down)
  refused_keeps = record { stays = λ s h. (h, refl); once = λ o. recorded_once turned_down is.once; base = refl }

  refused_for : (C : Gate → Type 0) → C g → Refused note_call (recorded old) (recorded turned_down) (g ∷ []) C
  unfolding note_call
  refused_for C h = record {
    before = [];
    at = g;
    after = [];
    cut = refl;
    cause = h;
    has = All-nil (HasGate (recorded turned_down));
    fit = All-nil NotDeep;
    trace = refl;
  }

  only_gate : (C : Gate → Type 0) (before : List Gate) (at : Gate) (after : List Gate) → g ∷ [] ≡ before ++ at ∷ after → C at → C g
  only_gate C [] at after e h = let q : at ≡ g = cc in subst C q h
  only_gate C (x ∷ []) at after e h = absurd (cc)
  only_gate C (x ∷ y ∷ ys) at after e h = absurd (cc)

  pub refused_builds : (stop : GateStop) → Builds {T = Literal} note_new Stands (listed old.list) (listed old.list) (Err stop) (one_gate g) → Builds {T = Literal} note_call Stands (recorded old) (recorded turned_down) (Err stop) (one_gate g)
  refused_builds Deep b = let r = b.outcome in record { keeps = refused_keeps; outcome = refused_for TooDeep (only_gate TooDeep r.before r.at r.after r.cut r.cause) }
  refused_builds Full b = let r = b.outcome in record { keeps = refused_keeps; outcome = refused_for (NoRoom (recorded turned_down)) (only_gate (NoRoom (listed old.list)) r.before r.at r.after r.cut r.cause) }
  refused_builds (Memory e) b = record { keeps = refused_keeps; outcome = tt }

  -- the same of the conjunction of two literals, in whatever order they were handed in
  module _ (a b : Literal) (one : simplified (edge (recorded old) a) (edge (recorded old) b) ≡ None) (gate : g ≡ ordered (edge (listed old.list) a) (edge (listed old.list) b)) where
    abbrev row : Row Edge
    row = both (edge (listed old.list) a) (edge (listed old.list) b)

    row_is : row ≡ one_gate g
    unfolding edge
    row_is = gate_call (edge (listed old.list) a) (edge (listed old.list) b) g one gate

    module _ (list : Listed) (l : Literal) (built : Builds note_new Stands (listed old.list) (listed list) (Ok l) row) (once : OneEach (listed list)) (room : length (listed list).trace ≤ list.limit) (calls : List (Literal × Literal)) (answers : List Literal) (calls_are : calls ≡ old.calls ++ c ∷ []) (answers_are : answers ≡ old.answers ++ l ∷ []) where
      abbrev after : Recorded
      after = record { list = list; calls = calls; answers = answers; refused = old.refused }

      for_gate : Builds note_new Stands (listed old.list) (listed list) (Ok l) (one_gate g)
      for_gate = rw row_is at built

      pub call_answered_is : IsRecorded list calls answers old.refused
      call_answered_is = rw (calls_are, answers_are) (answered_is list l for_gate once room)

      pub call_answered : Builds note_call Stands (recorded old) (recorded after) (Ok l) (both (edge (recorded old) a) (edge (recorded old) b))
      unfolding edge
      call_answered = rw (row_is, calls_are) (answered_builds list l for_gate once room)

    pub call_refused : (stop : GateStop) (list : Listed) (calls : List (Literal × Literal)) (answers : List Literal) → list ≡ old.list → calls ≡ old.calls → Builds {T = Literal} note_new Stands (listed old.list) (listed list) (Err stop) row → Builds {T = Literal} note_call Stands (recorded old) (recorded record { list = list; calls = calls; answers = answers; refused = c }) (Err stop) (both (edge (recorded old) a) (edge (recorded old) b))
    unfolding edge
    call_refused stop list calls answers same calls_are built = rw (same, calls_are, row_is) (refused_builds stop (rw (same, row_is) at built))

-- ---- all calls

-- what holds of a script
pub record Scripted (row : Row Edge) (calls : List (Literal × Literal)) (answers : List Literal) (end : Result Literal GateStop) : Type 0 where
  pub calls_right : AreCalls [] row.gates calls
  pub answers_right : AreAnswers [] row.gates answers
  pub ends : EndsAs [] row.gates answers end
  pub count : length calls ≡ calls_of (length answers) end
  pub root : IfOk end (λ root. Stands (list_of (kept_after [] row.gates)) root row.answer)

tail_same : {x y : Gate} {xs ys : List Gate} → x ∷ xs ≡ y ∷ ys → xs ≡ ys
tail_same e = cc

head_same : {x y : Gate} {xs ys : List Gate} → x ∷ xs ≡ y ∷ ys → x ≡ y
head_same e = cc

module _ (row : Row Edge) (start : Recorded) (none : start.calls ≡ []) (new : Recorded) (is : IsRecorded new.list new.calls new.answers new.refused) where
  abbrev first : Gate
  first = gate_of (gates_of start.list.pairs) start.refused

  started : (recorded start).trace ≡ first ∷ []
  unfolding called
  started = ap (λ z. first ∷ called [] z) none

  noted_from : (gs : List Gate) → noted_all note_call (recorded start).trace gs ≡ first ∷ gs
  noted_from gs = ap (λ t. noted_all note_call t gs) started ∙ noted_calls first [] gs

  as_long : length new.answers ≡ length (called [] new.calls)
  as_long = is.as_many ∙ sym (length-called [] new.calls)

  pub whole_script : (root : Literal) → Builds note_call Stands (recorded start) (recorded new) (Ok root) row → Scripted row new.calls new.answers (Ok root)
  unfolding edge
  whole_script root b =
      let q : called [] new.calls ≡ row.gates = tail_same (b.outcome.1.trace ∙ noted_from row.gates) in
      let P : List Gate → Type 0 = λ z. AreCalls [] z new.calls in
      let Q : List Gate → Type 0 = λ z. AreAnswers [] z new.answers in
      let s : Stands (listed new.list) root row.answer = record { known = record { holds = b.outcome.0.known.holds }; stands_for = b.outcome.0.stands_for } in
      record {
        calls_right = subst P q is.calls_right;
        answers_right = subst Q q is.answers_right;
        ends = ends_whole [] row.gates new.answers root (as_long ∙ ap length q);
        count = sym is.as_many;
        root = stands_by (list_is new.list (kept_after [] row.gates) is.limit (is.kept ∙ ap (λ z. kept_after [] z) q)) s;
      }

  stopped_at : (stop : GateStop) (Cause : Gate → Type 0) (r : Refused note_call (recorded start) (recorded new) row.gates Cause) → (called [] new.calls ≡ r.before → EndsAs (kept_after [] r.before) (r.at ∷ r.after) [] (Err stop)) → Scripted row (new.calls ++ new.refused ∷ []) new.answers (Err stop)
  unfolding edge note_call
  stopped_at stop Cause r ends =
      let t = r.trace ∙ ap (λ z. note_call z r.at false) (noted_from r.before) in
      let q : called [] new.calls ≡ r.before = tail_same t in
      let at : gate_of (gates_of new.list.pairs) new.refused ≡ r.at = head_same t in
      let P : List Gate → Type 0 = λ z. AreCalls [] z new.calls in
      let Q : List Gate → Type 0 = λ z. AreAnswers [] z new.answers in
      let C : List Gate → Type 0 = λ z. AreCalls [] z (new.calls ++ new.refused ∷ []) in
      let A : List Gate → Type 0 = λ z. AreAnswers [] z new.answers in
      let E : List Gate → Type 0 = λ z. EndsAs [] z new.answers (Err stop) in
      let F : Gate → Type 0 = λ z. IsCall (kept_after [] r.before) z new.refused in
      let m = list_is new.list (kept_after [] r.before) is.limit (is.kept ∙ ap (λ z. kept_after [] z) q) in
      let f : F (gate_of (gates_of new.list.pairs) new.refused) = record { left = stands_by m (stands_self is.left_known); right = stands_by m (stands_self is.right_known) } in
      record {
        calls_right = subst C (sym r.cut) (calls_push [] r.before new.calls r.at r.after new.refused (subst P q is.calls_right) (sym is.as_many ∙ (as_long ∙ ap length q)) (subst F at f));
        answers_right = subst A (sym r.cut) (answers_more [] r.before (r.at ∷ r.after) new.answers (subst Q q is.answers_right));
        ends = subst E (sym r.cut) (ends_behind [] r.before (r.at ∷ r.after) new.answers (Err stop) (as_long ∙ ap length q) (ends q));
        count = length-append new.calls (new.refused ∷ []) ∙ ap (λ n. n + 1) (sym is.as_many);
        root = tt;
      }

  pub stopped_script : (stop : GateStop) → (IsMemory stop → ⊥) → Builds {T = Literal} note_call Stands (recorded start) (recorded new) (Err stop) row → Scripted row (new.calls ++ new.refused ∷ []) new.answers (Err stop)
  stopped_script Deep h b = stopped_at Deep TooDeep b.outcome (λ q. b.outcome.cause)
  stopped_script Full h b =
      let r = b.outcome in
      stopped_at Full (NoRoom (recorded new)) r
      (λ q.
      let m = list_is new.list (kept_after [] r.before) is.limit (is.kept ∙ ap (λ z. kept_after [] z) q) in
      let P : Meaning → Type 0 = λ z. NoRoom z r.at in
      subst P m r.cause)
  stopped_script (Memory e) h b = absurd (h tt)

  pub stopped_result : {T : Type 0} (calls : T → List (Literal × Literal)) (answers : T → List Literal) (end : T → Result Literal GateStop) (stop : GateStop) → (IsMemory stop → ⊥) → Builds {T = Literal} note_call Stands (recorded start) (recorded new) (Err stop) row → (t : Result T AllocError) → IfOk t (λ s. calls s ≡ new.calls ++ new.refused ∷ []) → IfOk t (λ s. answers s ≡ new.answers) → IfOk t (λ s. end s ≡ Err stop) → IfOk t (λ s. Scripted row (calls s) (answers s) (end s))
  stopped_result calls answers end stop h b (Ok s) c a e = rw (c, a, e) (stopped_script stop h b)
  stopped_result calls answers end stop h b (Err refused) c a e = tt

-- what follows from what holds of each answer
pub if_ok : {T E : Type 0} {P Q : T → Type 0} (r : Result T E) → ((x : T) → P x → Q x) → IfOk r P → IfOk r Q
if_ok (Ok x) f p = f x p
if_ok (Err e) f p = tt
