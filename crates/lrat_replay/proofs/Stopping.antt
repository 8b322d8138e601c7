-- How much a replay has taken behind the line of the empty clause.
use Rattle.std.proofs.Common.{◌≡◌, ℕ, ◌+◌, ◌<◌, ◌≤◌, Bool, true, false, List, [], ◌∷◌, ◌++◌, length, take, inl, inr, refl, ap, sym, ◌∙◌, subst, arith, append_assoc, append-nil, length-append}
use Rattle.std.specs.Prelude.{Option, None, Some, Result, Ok, Err, IfOk, nat_le, if◌then◌else◌}
use Rattle.std.proofs.lemmas.Bool.{le-leb}
use Rattle.std.proofs.lemmas.Bool.Decides.{nat_tests}
use Rattle.std.proofs.Math.Seq.{take-append_seam}
use Rattle.sat_form.specs.Literals.{Literal}
use Rattle.bvd_host.specs.Given.{Gives}
use Rattle.lrat_lines.specs.Judge.{given}
use Rattle.lrat_lines.specs.Lines.{lines_of}
use Rattle.lrat_lines.specs.Replay.{ComesTo, ended_lines, lines_within}
use Rattle.lrat_lines.specs.Replay.Verdict.{Accepted, Undecided}
use Rattle.lrat_replay.specs.Behind.{TookBehindProof}
use Rattle.lrat_replay.specs.Passed.{Accepts, GoesOn, IsAccepting, Passes, Stops, StopsAtLast}
use Rattle.lrat_replay.specs.Standing.{WillAnswer, WillComeTo}
use Rattle.lrat_replay.specs.declared.progress.Progress.{Progress}
use Rattle.lrat_replay.specs.declared.stop.ReplayStop.{ReplayStop}
use Rattle.lrat_replay.proofs.Concluding.{from_start, ok_accepts}
use Rattle.lrat_replay.proofs.Proving.{Found, past_front, at_end}
use Rattle.lrat_replay.proofs.Splitting.{lines_within-cut}

-- where more bytes follow than may be taken, those lines count that are ended
within_ended : (most : ℕ) (front more : List ℕ) → most ≡ length front → 0 < length more → lines_within most (front ++ more) ≡ ended_lines front
within_ended most front more same some =
    let long : length (front ++ more) ≡ length front + length more = length-append front more in
    let over : nat_le (length (front ++ more)) most ≡ false = grind (arith, nat_tests) in
    ap (λ (b : Bool). if b then lines_of (front ++ more) else ended_lines (take most (front ++ more))) over
    ∙ ap (λ (n : ℕ). ended_lines (take n (front ++ more))) same ∙ ap ended_lines (take-append_seam front more)

-- where nothing follows, all lines count
within_all : (most : ℕ) (front : List ℕ) → length front ≤ most → lines_within most (front ++ []) ≡ lines_of front
within_all most front few =
    ap (lines_within most) (append-nil front) ∙ ap (λ (b : Bool). if b then lines_of front else ended_lines (take most front)) (le-leb (length front) most few)

-- what has begun is no line yet
open_begun : (q : Progress) → WillComeTo q 0 (0 ∷ []) Undecided
open_begun q = subst (λ (ls : List (List ℕ)). ComesTo q.judge (q.judged + 1) ls Undecided) (sym (lines_within-cut q.begun.items (0 ∷ []) q.one_line (omega arith))) refl

-- a proof is a front of what was taken
took_found : (cs : List (List Literal)) (less most : ℕ) (text taken rest : List ℕ) → text ≡ taken ++ rest → less ≤ most + 1 → Found (given cs) taken less → TookBehindProof most cs text (Some rest)
took_found cs less most text taken rest cut few (proof, behind, e, proves, end, short) =
    let long : length taken ≡ length proof + length behind = ap length e ∙ length-append proof behind in
    let whole : text ≡ proof ++ (behind ++ rest) = cut ∙ ap (λ (x : List ℕ). x ++ rest) e ∙ append_assoc proof behind rest in
    (proof, behind ++ rest, whole, proves, inl end, (taken, cut, omega arith))

module _ (cs : List (List Literal)) (p : Progress) (judge : p.judge ≡ given cs) (begun : p.begun.items ≡ []) (judged : p.judged ≡ 0) where
  -- the lines of the front leave the verdict open
  front_open : (q : Progress) (front : List ℕ) → GoesOn p front q → ComesTo (given cs) 1 (ended_lines front) Undecided
  front_open q front goes =
      let settled : ComesTo (given cs) 1 (lines_within (length front + 0) (front ++ 0 ∷ [])) Undecided = from_start cs (length front + 0) p (front ++ 0 ∷ []) Undecided judge begun judged (goes 0 (0 ∷ []) Undecided (open_begun q)) in
      subst (λ (ls : List (List ℕ)). ComesTo (given cs) 1 ls Undecided) (within_ended (length front + 0) front (0 ∷ []) (omega arith) (omega arith)) settled

  -- the proof ends in the piece behind the front, or with the text
  took : (q : Progress) (most : ℕ) (text front piece rest : List ℕ) → text ≡ front ++ (piece ++ rest) → GoesOn p front q → length piece ≤ most + 1 → IsAccepting q piece rest → TookBehindProof most cs text (Some rest)
  took q most text front piece rest cut goes few (inl accepts) =
      let n = length front + (length piece + 0) in
      let behind : List ℕ = piece ++ 0 ∷ [] in
      let both : length (front ++ piece) ≡ length front + length piece = length-append front piece in
      let bytes : (front ++ piece) ++ 0 ∷ [] ≡ front ++ behind = append_assoc front piece (0 ∷ []) in
      let all : ComesTo (given cs) 1 (lines_within n (front ++ behind)) Accepted =
      from_start cs n p (front ++ behind) Accepted judge begun judged (goes (length piece + 0) behind Accepted (accepts 0 (0 ∷ []))) in
      let lines : lines_within n (front ++ behind) ≡ ended_lines (front ++ piece) = ap (lines_within n) (sym bytes) ∙ within_ended n (front ++ piece) (0 ∷ []) (omega arith) (omega arith) in
      let found = past_front (length front + 1) (given cs) 1 front piece (omega arith) (front_open q front goes) (subst (λ (ls : List (List ℕ)). ComesTo (given cs) 1 ls Accepted) lines all) in
      took_found cs (length piece) most text (front ++ piece) rest (cut ∙ sym (append_assoc front piece rest)) few found
  took q most text front piece rest cut goes few (inr (none, ended, m, accepts)) =
      let n = length front + m in
      let all : ComesTo (given cs) 1 (lines_within n (front ++ [])) Accepted = from_start cs n p (front ++ []) Accepted judge begun judged (goes m [] Accepted accepts) in
      let lines : lines_within n (front ++ []) ≡ lines_of front = within_all n front (omega arith) in
      let proves = at_end (length front + 1) (given cs) 1 front (omega arith) (front_open q front goes) (subst (λ (ls : List (List ℕ)). ComesTo (given cs) 1 ls Accepted) lines all) in
      let whole : text ≡ front ++ [] = cut ∙ ap (λ (x : List ℕ). front ++ (x ++ rest)) none ∙ ap (λ (x : List ℕ). front ++ x) ended in
      let left : text ≡ front ++ rest = cut ∙ ap (λ (x : List ℕ). front ++ (x ++ rest)) none in
      (front, [], whole, proves, inr refl, (front, left, omega arith))

  -- What a replay has taken that ended with Ok.
  pub took_behind : (most : ℕ) (text : List ℕ) (old new : Option (List ℕ)) → StopsAtLast (most + 1) old new p → old ≡ Some text → TookBehindProof most cs text new
  took_behind most text old new (between, q, passes, stops) told = by between new (subst (λ (o : Option (List ℕ)). Passes o between p q) told passes) stops
    where
      by : (between new : Option (List ℕ)) → Passes (Some text) between p q → Stops (most + 1) between new q → TookBehindProof most cs text new
      by None new passes stops = absurd passes
      by (Some middle) None passes stops = absurd stops
      by (Some middle) (Some rest) (front, cut, goes) (piece, more, few, accepts) = took q most text front piece rest (cut ∙ ap (λ (x : List ℕ). front ++ x) more) goes few accepts

-- Nothing was taken yet.
pub passes_none : (told : Option (List ℕ)) (p : Progress) → Passes told told p p
passes_none None p = tt
passes_none (Some text) p = ([], refl, λ most rest v h. let same : 0 + most ≡ most = omega arith in subst (λ (n : ℕ). WillComeTo p n rest v) (sym same) h)

-- One stretch behind another.
pub passes_more : (a b c : Option (List ℕ)) (p q r : Progress) → Passes a b p q → Passes b c q r → Passes a c p r
passes_more None None None p q r h k = tt
passes_more (Some x) (Some y) (Some z) p q r (front, e, goes) (more, f, on) = (
  front ++ more,
  e ∙ ap (λ (t : List ℕ). front ++ t) f ∙ sym (append_assoc front more z),
  λ most rest v h.
      let long : length (front ++ more) ≡ length front + length more = length-append front more in
      let count : length front + (length more + most) ≡ length (front ++ more) + most = omega arith in
      subst (λ (t : List ℕ). WillComeTo p (length (front ++ more) + most) t v) (sym (append_assoc front more rest))
      (subst (λ (n : ℕ). WillComeTo p n (front ++ (more ++ rest)) v) count (goes (length more + most) (more ++ rest) v (on most rest v h))),
)
passes_more None None (Some z) p q r h k = absurd k
passes_more None (Some y) c p q r h k = absurd h
passes_more (Some x) None c p q r h k = absurd h
passes_more (Some x) (Some y) None p q r h k = absurd k

-- A read, whose bytes lead on.
pub passes_read : (old new : Option (List ℕ)) (n : ℕ) (buf : List ℕ) (p q : Progress) → Gives old new n buf → GoesOn p (take n buf) q → Passes old new p q
passes_read None None n buf p q gives goes = tt
passes_read (Some text) (Some rest) n buf p q gives goes = (take n buf, gives.0, goes)
passes_read None (Some rest) n buf p q gives goes = absurd gives
passes_read (Some text) None n buf p q gives goes = absurd gives

-- A read, whose bytes accept.
pub stops_read : (most : ℕ) (old new : Option (List ℕ)) (n : ℕ) (buf : List ℕ) (p : Progress) → Gives old new n buf → length (take n buf) ≤ most → Accepts p (take n buf) → Stops most old new p
stops_read most None None n buf p gives few accepts = tt
stops_read most (Some text) (Some rest) n buf p gives few accepts = (take n buf, gives.0, few, inl accepts)
stops_read most None (Some rest) n buf p gives few accepts = absurd gives
stops_read most (Some text) None n buf p gives few accepts = absurd gives

-- A read at the end of the text, which accepts.
pub stops_end : (most : ℕ) (old new : Option (List ℕ)) (n : ℕ) (buf : List ℕ) (p : Progress) → Gives old new n buf → n ≡ 0 → 0 < length buf → WillAnswer p [] (Ok tt) → Stops most old new p
stops_end most None None n buf p gives none room answer = tt
stops_end most (Some text) (Some rest) n buf p gives none room answer =
    let e : text ≡ rest = gives.0 ∙ ap (λ (k : ℕ). take k buf ++ rest) none in
    let v = ok_accepts p.left [] answer.0 answer.2 in
    ([], e, omega arith, inr (refl, sym e ∙ gives.1 none room, p.left, subst (WillComeTo p p.left []) v answer.1))
stops_end most None (Some rest) n buf p gives none room answer = absurd gives
stops_end most (Some text) None n buf p gives none room answer = absurd gives

-- What holds where a step ends with Ok, with more.
pub where_ended : (r : Result Bool ReplayStop) (P Q : Type 0) → (P → Q) → IfOk r (λ ended. ended ≡ true → P) → IfOk r (λ ended. ended ≡ true → Q)
where_ended (Ok ended) P Q more h = λ e. more (h e)
where_ended (Err stop) P Q more h = tt
