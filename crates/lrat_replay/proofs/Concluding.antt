-- From the answer of a run to what `replay` says.
use Rattle.std.proofs.Common.{◌≡◌, ℕ, ◌+◌, ◌<◌, ◌≤◌, List, [], ◌++◌, length, refl, ap, ◌∙◌, subst, arith, ⊎_elim}
use Rattle.std.specs.Prelude.{Option, None, Some, Result, Ok, Err, IsErrOf, IsOk}
use Rattle.std.proofs.lemmas.Bool.Decides.{leb_tells}
use Rattle.sat_form.specs.Literals.{Literal}
use Rattle.sat_form.specs.Truth.{HaveNoValues}
use Rattle.lrat_lines.specs.Judge.{Clauses, given}
use Rattle.lrat_lines.specs.Laws.{AcceptedIsChecked, ChecksRefute}
use Rattle.lrat_lines.specs.Lines.{Line}
use Rattle.lrat_lines.specs.Replay.{Verdict, ComesTo, TextComesTo, lines_within}
use Rattle.lrat_lines.specs.Replay.Verdict.{Accepted, Refused, Undecided}
use Rattle.lrat_replay.specs.Answer.{Answers, IsAnswer, IsAnswerOn, IsFromText}
use Rattle.lrat_replay.specs.Memory.{IsOutside}
use Rattle.lrat_replay.specs.Standing.{WillAnswer, WillComeTo}
use Rattle.lrat_replay.specs.Told.{Ends, IsAbove, OfText}
use Rattle.lrat_replay.specs.declared.progress.Progress.{Progress}
use Rattle.lrat_replay.specs.declared.stop.ReplayStop.{ReplayStop}
use Rattle.lrat_replay.specs.declared.stop.ReplayStop.TheVariants.{Bad, IdInUse, NoClause, NotUnit, NoConflict, MissingGroup, StrangeGroup, NoEmpty, TooLong, ReadFault, Memory}

-- Where nothing is taken, the verdict to come is that on the text.
pub from_start : (cs : List (List Literal)) (most : ℕ) (p : Progress) (text : List ℕ) (v : Verdict)
    → p.judge ≡ given cs → p.begun.items ≡ [] → p.judged ≡ 0 → WillComeTo p most text v → ComesTo (given cs) 1 (lines_within most text) v
from_start cs most p text v judge begun judged h =
    let zero : 0 + most ≡ most = omega arith in
    let one : p.judged + 1 ≡ 1 = omega arith in
    let lines : lines_within (length p.begun.items + most) (p.begun.items ++ text) ≡ lines_within most text =
    ap (λ (b : List ℕ). lines_within (length b + most) (b ++ text)) begun ∙ ap (λ (k : ℕ). lines_within k text) zero in
    subst (λ (db : Clauses). ComesTo db 1 (lines_within most text) v) judge
    (subst (λ (k : ℕ). ComesTo p.judge k (lines_within most text) v) one
    (subst (λ (ls : List (List ℕ)). ComesTo p.judge (p.judged + 1) ls v) lines h))

-- and the answer to come is that on the text
start : (cs : List (List Literal)) (most : ℕ) (p : Progress) (text : List ℕ) (r : Result (Unit {0}) ReplayStop)
    → p.judge ≡ given cs → p.begun.items ≡ [] → p.judged ≡ 0 → p.left ≡ most → WillAnswer p text r → IsAnswer cs most text r
start cs most p text r judge begun judged left h =
    let all : WillComeTo p most text h.0 = subst (λ (k : ℕ). WillComeTo p k text h.0) left h.1 in
    (h.0, from_start cs most p text h.0 judge begun judged all, subst (λ (k : ℕ). IsAnswerOn k text h.0 r) left h.2)

-- Ok is answered on one verdict alone.
pub ok_accepts : (most : ℕ) (text : List ℕ) (v : Verdict) → IsAnswerOn most text v (Ok tt) → v ≡ Accepted
ok_accepts most text Accepted h = refl
ok_accepts most text (Refused n fault) h = cc
ok_accepts most text Undecided h =
    let within : length text ≤ most → ⊥ = λ l. let e = h.0 l in cc in
    let over : most < length text → ⊥ = λ l. let e = h.1 l in cc in
    absurd (⊎_elim (λ t. within t.1) (λ t. over t.1) (leb_tells (length text) most))

-- an error's answer
err_answers : (cs : List (List Literal)) (most : ℕ) (text : List ℕ) (stop : ReplayStop) → (¬ (IsOutside stop) → IsAnswer cs most text (Err stop)) → Answers cs most text (Err stop)
err_answers cs most text (Bad n) h = h (λ x. x)
err_answers cs most text (IdInUse n) h = h (λ x. x)
err_answers cs most text (NoClause n id) h = h (λ x. x)
err_answers cs most text (NotUnit n id) h = h (λ x. x)
err_answers cs most text (NoConflict n) h = h (λ x. x)
err_answers cs most text (MissingGroup n id) h = h (λ x. x)
err_answers cs most text (StrangeGroup n id) h = h (λ x. x)
err_answers cs most text NoEmpty h = h (λ x. x)
err_answers cs most text TooLong h = h (λ x. x)
err_answers cs most text ReadFault h = tt
err_answers cs most text (Memory e) h = tt

-- an answer from the text has its cause in the text
from_text : (stop : ReplayStop) → IsFromText (Err stop) → ¬ (IsOutside stop)
from_text ReadFault h = absurd h
from_text (Memory e) h = absurd h
from_text (Bad n) h = λ x. x
from_text (IdInUse n) h = λ x. x
from_text (NoClause n id) h = λ x. x
from_text (NotUnit n id) h = λ x. x
from_text (NoConflict n) h = λ x. x
from_text (MissingGroup n id) h = λ x. x
from_text (StrangeGroup n id) h = λ x. x
from_text NoEmpty h = λ x. x
from_text TooLong h = λ x. x

module _ (cs : List (List Literal)) (most : ℕ) (p : Progress) (judge : p.judge ≡ given cs) (begun : p.begun.items ≡ []) (judged : p.judged ≡ 0) (left : p.left ≡ most) where
  -- The answer on a told text.
  pub exactly : (r : Result (Unit {0}) ReplayStop) (told : Option (List ℕ)) → Ends r (λ r. OfText told (λ text. WillAnswer p text r)) → (text : List ℕ) → told ≡ Some text → Answers cs most text r
  exactly (Ok x) told h text e = start cs most p text (Ok tt) judge begun judged left (subst (λ (o : Option (List ℕ)). OfText o (λ text. WillAnswer p text (Ok tt))) e h)
  exactly (Err stop) told h text e = err_answers cs most text stop (λ known. start cs most p text (Err stop) judge begun judged left (subst (λ (o : Option (List ℕ)). OfText o (λ text. WillAnswer p text (Err stop))) e (h known)))

  -- some text has the answer
  some_text : (r : Result (Unit {0}) ReplayStop) (told : Option (List ℕ)) → OfText told (λ text. WillAnswer p text r) → (text : List ℕ) × IsAnswer cs most text r
  some_text r None h = (h.0, start cs most p h.0 r judge begun judged left h.1)
  some_text r (Some text) h = (text, start cs most p text r judge begun judged left h)

  -- The answer is that of some text.
  pub of_some : (r : Result (Unit {0}) ReplayStop) (told : Option (List ℕ)) → Ends r (λ r. OfText told (λ text. WillAnswer p text r)) → IsFromText r → (text : List ℕ) × Answers cs most text r
  of_some (Ok x) told h known = some_text (Ok tt) told h
  of_some (Err stop) told h known =
      let outside = from_text stop known in
      let found = some_text (Err stop) told (h outside) in
      (found.0, err_answers cs most found.0 stop (λ _. found.1))

  -- What is accepted has no values.
  pub refutes : ((ls : List Line) → ChecksRefute cs ls) → ((texts : List (List ℕ)) → AcceptedIsChecked (given cs) 1 texts)
      → (r : Result (Unit {0}) ReplayStop) (told : Option (List ℕ)) → Ends r (λ r. OfText told (λ text. WillAnswer p text r)) → IsOk r → HaveNoValues cs
  refutes law only (Err stop) told h ok = cc
  refutes law only (Ok x) told h ok =
      let found = some_text (Ok tt) told h in
      let v = found.1.0 in
      let accepted : TextComesTo cs most found.0 Accepted = subst (TextComesTo cs most found.0) (ok_accepts most found.0 v found.1.2) found.1.1 in
      let checked = only (lines_within most found.0) accepted in
      law checked.2 checked.5

-- Room for the whole text is room enough.
pub never_short : (r : Result (Unit {0}) ReplayStop) (most : ℕ) (p : Progress) (told : Option ℕ) → p.left ≡ most → (IsErrOf r TooLong → IsAbove told p.left) → (room : ℕ) → told ≡ Some room → room ≤ most → IsErrOf r TooLong → ⊥
never_short r most p told left above room e within long =
    let over : p.left < room = subst (λ (o : Option ℕ). IsAbove o p.left) e (above long) in
    omega arith
