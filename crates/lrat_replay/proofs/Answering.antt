-- From steps to answers.
use Rattle.std.proofs.Common.{◌≡◌, ℕ, ◌+◌, ◌-◌, ◌<◌, ◌≤◌, Bool, true, false, List, [], ◌++◌, length, take, refl, ap, sym, subst, arith, append_assoc, length-append}
use Rattle.std.specs.Prelude.{Option, None, Some, Result, Ok, Err}
use Rattle.bvd_host.specs.Given.{Gives}
use Rattle.lrat_lines.specs.Replay.{Verdict, ComesTo}
use Rattle.lrat_lines.specs.Replay.Verdict.{Accepted, Refused, Undecided}
use Rattle.lrat_replay.specs.Answer.{IsAnswerOn}
use Rattle.lrat_replay.specs.Leads.{Leads}
use Rattle.lrat_replay.specs.Memory.{IsMemory, IsOutside}
use Rattle.lrat_replay.specs.Passed.{Accepts, GoesOn}
use Rattle.lrat_replay.specs.Standing.{WillAnswer, WillComeTo}
use Rattle.lrat_replay.specs.Told.{Brings, OfText}
use Rattle.lrat_replay.specs.declared.progress.Progress.{Progress}
use Rattle.lrat_replay.specs.declared.stop.ReplayStop.{ReplayStop}
use Rattle.lrat_replay.specs.declared.stop.ReplayStop.TheVariants.{Memory, TooLong}
use Rattle.lrat_replay.proofs.Splitting.{lines_within-cut}
use Rattle.lrat_replay.proofs.Stepping.{accepted, onward}

-- Want of memory lies outside the text.
pub memory_outside : (stop : ReplayStop) → IsMemory stop → IsOutside stop
memory_outside (Memory e) h = h
memory_outside stop h = absurd h

-- Of a text, bytes are fed that are its front; the others follow.
module _ (p q : Progress) (bytes fed more : List ℕ) where
  -- the verdict on the whole text
  comes : (v : Verdict) (rest : List ℕ) → bytes ≡ fed ++ more → length fed ≤ p.left → WillComeTo p (length fed + (p.left - length fed)) (fed ++ (more ++ rest)) v → WillComeTo p p.left (bytes ++ rest) v
  comes v rest cut fits h =
      let count : length fed + (p.left - length fed) ≡ p.left = omega arith in
      let text : fed ++ (more ++ rest) ≡ bytes ++ rest = rw cut (simp append_assoc) in
      subst (λ (t : List ℕ). WillComeTo p p.left t v) text (subst (λ (k : ℕ). WillComeTo p k (fed ++ (more ++ rest)) v) count h)

  -- The fed bytes accept.
  pub fed_accepted : (ended : Bool) (rest : List ℕ) → bytes ≡ fed ++ more → length fed ≤ p.left → ended ≡ true
      → ((most : ℕ) (rest : List ℕ) → Leads (Ok ended) (WillComeTo p (length fed + most) (fed ++ rest)) (WillComeTo q most rest))
      → WillAnswer p (bytes ++ rest) (Ok tt)
  fed_accepted ended rest cut fits e leads =
      let m = p.left - length fed in
      (Accepted, comes Accepted rest cut fits (accepted ended (WillComeTo p (length fed + m) (fed ++ (more ++ rest))) (WillComeTo q m (more ++ rest)) e (leads m (more ++ rest))), refl)

  -- The fed bytes accept, whatever follows.
  pub fed_accepts : (ended : Bool) → bytes ≡ fed ++ more → ended ≡ true
      → ((most : ℕ) (rest : List ℕ) → Leads (Ok ended) (WillComeTo p (length fed + most) (fed ++ rest)) (WillComeTo q most rest))
      → Accepts p bytes
  fed_accepts ended cut e leads most rest =
      let long : length bytes ≡ length fed + length more = rw cut (length-append fed more) in
      let count : length fed + (length more + most) ≡ length bytes + most = omega arith in
      let text : fed ++ (more ++ rest) ≡ bytes ++ rest = rw cut (simp append_assoc) in
      let m = length more + most in
      let all = accepted ended (WillComeTo p (length fed + m) (fed ++ (more ++ rest))) (WillComeTo q m (more ++ rest)) e (leads m (more ++ rest)) in
      subst (λ (t : List ℕ). WillComeTo p (length bytes + most) t Accepted) text (subst (λ (k : ℕ). WillComeTo p k (fed ++ (more ++ rest)) Accepted) count all)

  -- The fed bytes are refused.
  pub fed_refused : (stop : ReplayStop) (rest : List ℕ) → bytes ≡ fed ++ more → length fed ≤ p.left
      → ((most : ℕ) (rest : List ℕ) → Leads (Err stop) (WillComeTo p (length fed + most) (fed ++ rest)) (WillComeTo q most rest))
      → ¬ (IsOutside stop) → WillAnswer p (bytes ++ rest) (Err stop)
  fed_refused stop rest cut fits leads known =
      let m = p.left - length fed in
      let l = leads m (more ++ rest) (λ (h : IsMemory stop). known (memory_outside stop h)) in
      (Refused l.0 l.1, comes (Refused l.0 l.1) rest cut fits l.3, ap Err l.2)

  -- The fed bytes don't decide, and are all that may be taken.
  pub fed_too_long : (ended : Bool) (rest : List ℕ) → bytes ≡ fed ++ more → length fed ≡ p.left → 0 < length more → ended ≡ false
      → ((most : ℕ) (rest : List ℕ) → Leads (Ok ended) (WillComeTo p (length fed + most) (fed ++ rest)) (WillComeTo q most rest))
      → WillAnswer p (bytes ++ rest) (Err TooLong)
  fed_too_long ended rest cut full some e leads =
      let fits : length fed ≤ p.left = omega arith in
      let m = p.left - length fed in
      let zero : m ≡ 0 = omega arith in
      let long : length (more ++ rest) ≡ length more + length rest = length-append more rest in
      let all : length (bytes ++ rest) ≡ length fed + length more + length rest = rw cut (simp length-append (omega arith)) in
      let none : WillComeTo q 0 (more ++ rest) Undecided =
      subst (λ (ls : List (List ℕ)). ComesTo q.judge (q.judged + 1) ls Undecided) (sym (lines_within-cut q.begun.items (more ++ rest) q.one_line (omega arith))) refl in
      let later : WillComeTo q m (more ++ rest) Undecided = subst (λ (k : ℕ). WillComeTo q k (more ++ rest) Undecided) (sym zero) none in
      let here : WillComeTo p (length fed + m) (fed ++ (more ++ rest)) Undecided =
      onward ended (WillComeTo p (length fed + m) (fed ++ (more ++ rest))) (WillComeTo q m (more ++ rest)) e (leads m (more ++ rest)) Undecided later in
      (Undecided, comes Undecided rest cut fits here, (λ within. absurd (omega arith), λ _. refl))

-- the answer on a verdict, with the bytes before the text
answer_back : (most left : ℕ) (bytes rest : List ℕ) (v : Verdict) (r : Result (Unit {0}) ReplayStop) → left ≡ most + length bytes → IsAnswerOn most rest v r → IsAnswerOn left (bytes ++ rest) v r
answer_back most left bytes rest Accepted r e h = h
answer_back most left bytes rest (Refused n fault) r e h = h
answer_back most left bytes rest Undecided r e h =
    let long : length (bytes ++ rest) ≡ length bytes + length rest = length-append bytes rest in
    (λ within. h.0 (omega arith), λ over. h.1 (omega arith))

-- Bytes that don't decide leave the answer to what follows.
pub fed_onward : (p q : Progress) (bytes fed : List ℕ) (ended : Bool) (rest : List ℕ) (left : ℕ) (r : Result (Unit {0}) ReplayStop) → bytes ≡ fed → p.left ≡ left + length bytes → ended ≡ false
    → ((most : ℕ) (rest : List ℕ) → Leads (Ok ended) (WillComeTo p (length fed + most) (fed ++ rest)) (WillComeTo q most rest))
    → ((v : Verdict) × WillComeTo q left rest v × IsAnswerOn left rest v r) → WillAnswer p (bytes ++ rest) r
fed_onward p q bytes fed ended rest left r same count e leads answer =
    let v = answer.0 in
    let here : WillComeTo p (length fed + left) (fed ++ rest) v = onward ended (WillComeTo p (length fed + left) (fed ++ rest)) (WillComeTo q left rest) e (leads left rest) v answer.1 in
    let all : length fed + left ≡ p.left = rw (← same) (omega arith) in
    (v, subst (λ (k : ℕ). WillComeTo p k (bytes ++ rest) v) all (subst (λ (t : List ℕ). WillComeTo p (length fed + left) (t ++ rest) v) (sym same) here), answer_back left p.left bytes rest v r count answer.2)

-- Bytes that don't decide lead on.
pub fed_goes : (p q : Progress) (bytes fed : List ℕ) (ended : Bool) → bytes ≡ fed → ended ≡ false
    → ((most : ℕ) (rest : List ℕ) → Leads (Ok ended) (WillComeTo p (length fed + most) (fed ++ rest)) (WillComeTo q most rest))
    → GoesOn p bytes q
fed_goes p q bytes fed ended same e leads most rest v h =
    subst (λ (t : List ℕ). WillComeTo p (length t + most) (t ++ rest) v) (sym same) (onward ended (WillComeTo p (length fed + most) (fed ++ rest)) (WillComeTo q most rest) e (leads most rest) v h)

-- What is left of a source, when it has ended.
pub of_end : (P : List ℕ → Type 0) (old new : Option (List ℕ)) (n : ℕ) (buf : List ℕ) → Gives old new n buf → n ≡ 0 → 0 < length buf → P [] → OfText old P
of_end P None None n buf gives none room h = ([], h)
of_end P (Some text) (Some rest) n buf gives none room h = subst P (sym (gives.1 none room)) h
of_end P None (Some rest) n buf gives none room h = absurd gives
of_end P (Some text) None n buf gives none room h = absurd gives

-- A fact on every text with the piece as its front.
pub of_front : (P : List ℕ → Type 0) (old new : Option (List ℕ)) (n : ℕ) (buf : List ℕ) → Gives old new n buf → ((rest : List ℕ) → P (take n buf ++ rest)) → OfText old P
of_front P None None n buf gives h = (take n buf ++ [], h [])
of_front P (Some text) (Some rest) n buf gives h = subst P (sym gives.0) (h rest)
of_front P None (Some rest) n buf gives h = absurd gives
of_front P (Some text) None n buf gives h = absurd gives

-- A fact on what follows the piece, carried to the text with the piece.
pub of_step : (P Q : List ℕ → Type 0) (old new : Option (List ℕ)) (n : ℕ) (buf : List ℕ) → Gives old new n buf → ((rest : List ℕ) → Q rest → P (take n buf ++ rest)) → OfText new Q → OfText old P
of_step P Q None None n buf gives h behind = (take n buf ++ behind.0, h behind.0 behind.1)
of_step P Q (Some text) (Some rest) n buf gives h behind = subst P (sym gives.0) (h rest behind)
of_step P Q None (Some rest) n buf gives h behind = absurd gives
of_step P Q (Some text) None n buf gives h behind = absurd gives

-- A step that ends with Ok.
pub ended_ok : (ended : Bool) (before after : Result (Unit {0}) ReplayStop → Type 0) → ended ≡ true → Brings (Ok ended) before after → before (Ok tt)
ended_ok true before after e h = h
ended_ok false before after e h = cc

-- A step that leaves the answer to what follows.
pub left_open : (ended : Bool) (before after : Result (Unit {0}) ReplayStop → Type 0) → ended ≡ false → Brings (Ok ended) before after → (r : Result (Unit {0}) ReplayStop) → after r → before r
left_open true before after e h = cc
left_open false before after e h = h

-- What a step on the bytes that a source gave brings for the source.
pub brings_read : (result : Result Bool ReplayStop) (p q : Progress) (old new : Option (List ℕ)) (n : ℕ) (buf : List ℕ) → Gives old new n buf
    → ((rest : List ℕ) → Brings result (WillAnswer p (take n buf ++ rest)) (WillAnswer q rest))
    → Brings result (λ r. OfText old (λ text. WillAnswer p text r)) (λ r. OfText new (λ text. WillAnswer q text r))
brings_read (Ok true) p q old new n buf gives h = of_front (λ text. WillAnswer p text (Ok tt)) old new n buf gives h
brings_read (Ok false) p q old new n buf gives h = λ r behind. of_step (λ text. WillAnswer p text r) (λ text. WillAnswer q text r) old new n buf gives (λ rest answer. h rest r answer) behind
brings_read (Err stop) p q old new n buf gives h = λ known. of_front (λ text. WillAnswer p text (Err stop)) old new n buf gives (λ rest. h rest known)
