-- What one line comes to.
use Rattle.std.proofs.Common.{◌≡◌, ℕ, ◌+◌, inl, inr, Bool, true, false, List, [], ◌∷◌, ◌++◌, length, refl, ap, sym, ◌∙◌, subst, nat_eq, arith, append_assoc, length-append}
use Rattle.std.specs.Prelude.{Result, Ok, Err, IsErrOf}
use Rattle.std.proofs.lemmas.List.Elements.{All-append}
use Rattle.lrat_lines.specs.Lines.{Line, IsLine}
use Rattle.lrat_lines.specs.Judge.{Clauses, Cause, judge, is_last}
use Rattle.lrat_lines.specs.Replay.{Fault, Verdict, ComesTo, lines_within}
use Rattle.lrat_lines.specs.Replay.Fault.{Malformed, Because}
use Rattle.lrat_lines.specs.Replay.Verdict.{Accepted, Refused}
use Rattle.lrat_lines.specs.Judge.Cause.{IdInUse, NoClause, NotUnit, NoConflict, MissingGroup, StrangeGroup}
use Rattle.lrat_replay.specs.Answer.{refusal}
use Rattle.lrat_replay.specs.Leads.{Leads}
use Rattle.lrat_replay.specs.Memory.{IsMemory}
use Rattle.lrat_replay.specs.Line.{HasNoEnd}
use Rattle.lrat_replay.specs.declared.stop.ReplayStop.{ReplayStop}
use Rattle.lrat_replay.specs.declared.stop.ReplayStop.TheVariants.{TooLong, ReadFault}
use Rattle.lrat_replay.proofs.Splitting.{lines_within-line}

module _ (db : Clauses) (n : ℕ) (bytes : List ℕ) (rest : List (List ℕ)) where
  -- what a judged line comes to
  abbrev On : Result Clauses Cause → Bool → Verdict → Type 0
  On r last v = elim r as (λ _. Type 0) [ Err cause ↦ v ≡ Refused n (Because cause) | Ok next ↦ elim last as (λ _. Type 0) [ true ↦ v ≡ Accepted | false ↦ ComesTo next (n + 1) rest v ] ]

  by : (l : Line) (v : Verdict) (r : Result Clauses Cause) (last : Bool) → IsLine bytes l → judge db l ≡ r → is_last l ≡ last → On r last v → ComesTo db n (bytes ∷ rest) v
  by l v r last line e f h = inr (l, line, subst (λ (x : Result Clauses Cause). On x (is_last l) v) (sym e) (subst (λ (b : Bool). On r b v) (sym f) h))

  -- A line that is refused.
  pub refused_line : (l : Line) (cause : Cause) → IsLine bytes l → judge db l ≡ Err cause → ComesTo db n (bytes ∷ rest) (Refused n (Because cause))
  refused_line l cause line e = by l (Refused n (Because cause)) (Err cause) (is_last l) line e refl refl

  -- A line that adds the empty clause.
  pub last_line : (l : Line) (next : Clauses) → IsLine bytes l → judge db l ≡ Ok next → is_last l ≡ true → ComesTo db n (bytes ∷ rest) Accepted
  last_line l next line e f = by l Accepted (Ok next) true line e f refl

  -- Any other line.
  pub more_line : (l : Line) (next : Clauses) (v : Verdict) → IsLine bytes l → judge db l ≡ Ok next → is_last l ≡ false → ComesTo next (n + 1) rest v → ComesTo db n (bytes ∷ rest) v
  more_line l next v line e f h = by l v (Ok next) false line e f h

  -- Bytes that are no line.
  pub malformed : ((l : Line) → IsLine bytes l → ⊥) → ComesTo db n (bytes ∷ rest) (Refused n Malformed)
  malformed h = inl (h, refl)

-- What the judging of one line says of the text that begins with it.
pub line_leads : (result : Result Bool ReplayStop) (db next : Clauses) (n m most : ℕ) (begun begun_next line text behind rest : List ℕ)
    → HasNoEnd begun → HasNoEnd line → text ≡ line ++ 10 ∷ behind → begun_next ≡ []
    → ((lines : List (List ℕ)) → Leads result (ComesTo db n ((begun ++ line) ∷ lines)) (ComesTo next m lines))
    → Leads result (ComesTo db n (lines_within (length begun + (length text + most)) (begun ++ (text ++ rest)))) (ComesTo next m (lines_within (length begun_next + (length behind + most)) (begun_next ++ (behind ++ rest))))
line_leads result db next n m most begun begun_next line text behind rest none_begun none_line cut empty h =
    let bytes : begun ++ (text ++ rest) ≡ (begun ++ line) ++ 10 ∷ (behind ++ rest) = rw cut (simp append_assoc) in
    let long : length text ≡ length line + (length behind + 1) = rw cut (simp length-append (omega arith)) in
    let both : length (begun ++ line) ≡ length begun + length line = length-append begun line in
    let count : length begun + (length text + most) ≡ length (begun ++ line) + 1 + (length behind + most) = omega arith in
    let none : HasNoEnd (begun ++ line) = All-append (λ b. nat_eq b 10 ≡ false) begun line none_begun none_line in
    let split : lines_within (length begun + (length text + most)) (begun ++ (text ++ rest)) ≡ (begun ++ line) ∷ lines_within (length behind + most) (behind ++ rest) =
    ap (λ (k : ℕ). lines_within k (begun ++ (text ++ rest))) count
    ∙ ap (lines_within (length (begun ++ line) + 1 + (length behind + most))) bytes
    ∙ lines_within-line (length behind + most) (begun ++ line) (behind ++ rest) none in
    let zero : 0 + (length behind + most) ≡ length behind + most = omega arith in
    let later : lines_within (length begun_next + (length behind + most)) (begun_next ++ (behind ++ rest)) ≡ lines_within (length behind + most) (behind ++ rest) =
    ap (λ (b : List ℕ). lines_within (length b + (length behind + most)) (b ++ (behind ++ rest))) empty
    ∙ ap (λ (k : ℕ). lines_within k (behind ++ rest)) zero in
    subst (λ (ls : List (List ℕ)). Leads result (ComesTo db n ls) (ComesTo next m (lines_within (length begun_next + (length behind + most)) (begun_next ++ (behind ++ rest))))) (sym split)
    (subst (λ (ls : List (List ℕ)). Leads result (ComesTo db n ((begun ++ line) ∷ lines_within (length behind + most) (behind ++ rest))) (ComesTo next m ls)) (sym later) (h (lines_within (length behind + most) (behind ++ rest))))

-- Bytes of the line that has begun are counted with it.
pub tail_comes : (db : Clauses) (n most : ℕ) (begun begun_next tail rest : List ℕ) (v : Verdict) → begun_next ≡ begun ++ tail
    → ComesTo db n (lines_within (length begun_next + most) (begun_next ++ rest)) v → ComesTo db n (lines_within (length begun + (length tail + most)) (begun ++ (tail ++ rest))) v
tail_comes db n most begun begun_next tail rest v grown h =
    let long : length begun_next ≡ length begun + length tail = rw grown (length-append begun tail) in
    let count : length begun_next + most ≡ length begun + (length tail + most) = omega arith in
    let bytes : begun_next ++ rest ≡ begun ++ (tail ++ rest) = rw grown (simp append_assoc) in
    subst (λ (k : ℕ). ComesTo db n (lines_within k (begun ++ (tail ++ rest))) v) count
    (subst (λ (b : List ℕ). ComesTo db n (lines_within (length begun_next + most) b) v) bytes h)

-- A step behind others: what an error says is said of all.
pub error_back : (stop : ReplayStop) (first before after later : Verdict → Type 0) → ((v : Verdict) → before v → first v) → Leads (Err stop) before after → Leads (Err stop) first later
error_back stop first before after later back h = λ known. let l = h known in (l.0, l.1, l.2, back (Refused l.0 l.1) l.3)

-- A step that accepts.
pub accepted : (ended : Bool) (before after : Verdict → Type 0) → ended ≡ true → Leads (Ok ended) before after → before Accepted
accepted true before after e h = h
accepted false before after e h = cc

-- A step that leaves the verdict to what follows.
pub onward : (ended : Bool) (before after : Verdict → Type 0) → ended ≡ false → Leads (Ok ended) before after → (v : Verdict) → after v → before v
onward true before after e h = cc
onward false before after e h = h

-- a refusal of a line is neither of these
not_long : (n : ℕ) (fault : Fault) → TooLong ≡ refusal n fault → ⊥
not_long n Malformed e = cc
not_long n (Because IdInUse) e = cc
not_long n (Because (NoClause id)) e = cc
not_long n (Because (NotUnit id)) e = cc
not_long n (Because NoConflict) e = cc
not_long n (Because (MissingGroup id)) e = cc
not_long n (Because (StrangeGroup id)) e = cc

not_read : (n : ℕ) (fault : Fault) → ReadFault ≡ refusal n fault → ⊥
not_read n Malformed e = cc
not_read n (Because IdInUse) e = cc
not_read n (Because (NoClause id)) e = cc
not_read n (Because (NotUnit id)) e = cc
not_read n (Because NoConflict) e = cc
not_read n (Because (MissingGroup id)) e = cc
not_read n (Because (StrangeGroup id)) e = cc

-- No line is answered by `TooLong`.
pub line_not_long : {T : Type 0} (stop : ReplayStop) (before after : Verdict → Type 0) → Leads (Err stop) before after → IsErrOf {T = T} (Err stop) TooLong → ⊥
line_not_long stop before after h is =
    let e : stop ≡ TooLong = cc in
    let l = h (λ (m : IsMemory stop). subst IsMemory e m) in
    not_long l.0 l.1 (sym e ∙ l.2)

-- No line is answered by `ReadFault`.
pub line_not_read : {T : Type 0} (stop : ReplayStop) (before after : Verdict → Type 0) → Leads (Err stop) before after → IsErrOf {T = T} (Err stop) ReadFault → ⊥
line_not_read stop before after h is =
    let e : stop ≡ ReadFault = cc in
    let l = h (λ (m : IsMemory stop). subst IsMemory e m) in
    not_read l.0 l.1 (sym e ∙ l.2)
