-- From the answer of a replay to what is told of the goal.
use Rattle.std.proofs.Common.{◌≡◌, ℕ, ◌-◌, ◌≤◌, List, [], length, arith, refl, sym, ◌∙◌, subst, Some, None}
use Rattle.std.specs.Prelude.{◌↔◌, Option, option_map, unwrap_or, drop, Result, Ok, Err, ◌^◌, IfSome, IfOk, IsOk, IsErrOf}
use Rattle.sat_form.specs.Literals.{Literal}
use Rattle.sat_form.specs.Truth.{HaveNoValues}
use Rattle.bvd_host.specs.Causes.{HasCause}
use Rattle.bvd_host.specs.Files.{Files, file_at}
use Rattle.bvd_host.specs.Given.{left_at}
use Rattle.lrat_replay.specs.Answer.{IsAnswer, Answers, IsFromText}
use Rattle.lrat_replay.specs.declared.stop.ReplayStop.{ReplayStop}
use Rattle.lrat_replay.specs.declared.stop.ReplayStop.TheVariants.{Bad, IdInUse, NoClause, NotUnit, NoConflict, MissingGroup, StrangeGroup, NoEmpty, TooLong, ReadFault, Memory}
use Rattle.bvd_report.specs.Report.{Told}
use Rattle.bvd_report.specs.Shown.{told_shown}
use Rattle.bvd_report.specs.declared.told.Told.{Told as CodeTold}
use Rattle.bvd_top.specs.declared.stop.Stop.{Stop}
use Rattle.bvd_top.specs.declared.stop.Stop.TheVariants.{Device}
use Rattle.bvd_top.specs.Replayed.{IsCertificate, IsReplayed, IsEndTold, IsToldBy}

-- what is known of the answer of a replay of the certificate
abbrev pub Known : Option Files → List ℕ → List (List Literal) → Result (Unit {0}) ReplayStop → Type 0
Known files name cs r = IsFromText r → (bytes : List ℕ) × IsCertificate files name bytes × Answers cs (2 ^ 64 - 1) bytes r

known_of : (o : Option (List ℕ)) (size : ℕ) (cs : List (List Literal)) (r : Result (Unit {0}) ReplayStop) → size ≤ 2 ^ 64 - 1 → option_map length o ≡ Some size
    → Answers cs (2 ^ 64 - 1) (drop 0 (unwrap_or o [])) r → (bytes : List ℕ) × ((o ≡ Some bytes) × (length bytes ≤ 2 ^ 64 - 1)) × Answers cs (2 ^ 64 - 1) bytes r
known_of None size cs r few there answers = absurd (cc)
known_of (Some bytes) size cs r few there answers =
    let count : length bytes ≡ size = cc in
    (bytes, (refl, omega arith), answers)

-- a kept file's bytes are the certificate's
pub known : (files : Option Files) (name : List ℕ) (size : ℕ) (cs : List (List Literal)) (r : Result (Unit {0}) ReplayStop) → size ≤ 2 ^ 64 - 1
    → IfSome files (λ f. option_map length (file_at f name) ≡ Some size) → ((text : List ℕ) → left_at name 0 files ≡ Some text → Answers cs (2 ^ 64 - 1) text r)
    → (IsFromText r → (text : List ℕ) × Answers cs (2 ^ 64 - 1) text r) → Known files name cs r
known None name size cs r few there exact told from = let (text, answers) = told from in (text, tt, answers)
known (Some f) name size cs r few there exact told from = known_of (file_at f name) size cs r few there (exact (drop 0 (unwrap_or (file_at f name) [])) refl)

-- an answer that the text decides
answer_of : (cs : List (List Literal)) (bytes : List ℕ) (r : Result (Unit {0}) ReplayStop) → IsFromText r → Answers cs (2 ^ 64 - 1) bytes r → IsAnswer cs (2 ^ 64 - 1) bytes r
answer_of cs bytes (Ok u) from answers = answers
answer_of cs bytes (Err (Bad n)) from answers = answers
answer_of cs bytes (Err (IdInUse n)) from answers = answers
answer_of cs bytes (Err (NoClause n id)) from answers = answers
answer_of cs bytes (Err (NotUnit n id)) from answers = answers
answer_of cs bytes (Err (NoConflict n)) from answers = answers
answer_of cs bytes (Err (MissingGroup n id)) from answers = answers
answer_of cs bytes (Err (StrangeGroup n id)) from answers = answers
answer_of cs bytes (Err NoEmpty) from answers = answers
answer_of cs bytes (Err TooLong) from answers = answers
answer_of cs bytes (Err ReadFault) from answers = absurd from
answer_of cs bytes (Err (Memory e)) from answers = absurd from

replayed : (files : Option Files) (missing : Type 0) (name : List ℕ) (cs : List (List Literal)) (end : Result (Unit {0}) ReplayStop) → IsFromText end → Known files name cs end
    → ¬ (IsErrOf end TooLong) → IsReplayed files name cs end
replayed files missing name cs end from known short =
    let (bytes, certificate, answers) = known from in
    record { bytes = bytes; certificate = certificate; answer = answer_of cs bytes end from answers; whole = short }

-- an end of a replay is told as what it says of the goal
end_told : (files : Option Files) (missing : Type 0) (name : List ℕ) (cs : List (List Literal)) (end : Result (Unit {0}) ReplayStop) (told : Told) → Known files name cs end
    → ¬ (IsErrOf end TooLong) → (IsOk end → HaveNoValues cs) → IsEndTold end told → IsToldBy files missing name cs told
end_told files missing name cs (Ok u) told known short none is =
    rw is (replayed files missing name cs (Ok u) tt known short, none refl)
end_told files missing name cs (Err (Bad n)) told known short none is = rw is (replayed files missing name cs (Err (Bad n)) tt known short, tt)
end_told files missing name cs (Err (IdInUse n)) told known short none is = rw is (replayed files missing name cs (Err (IdInUse n)) tt known short, tt)
end_told files missing name cs (Err (NoClause n id)) told known short none is = rw is (replayed files missing name cs (Err (NoClause n id)) tt known short, tt)
end_told files missing name cs (Err (NotUnit n id)) told known short none is = rw is (replayed files missing name cs (Err (NotUnit n id)) tt known short, tt)
end_told files missing name cs (Err (NoConflict n)) told known short none is = rw is (replayed files missing name cs (Err (NoConflict n)) tt known short, tt)
end_told files missing name cs (Err (MissingGroup n id)) told known short none is = rw is (replayed files missing name cs (Err (MissingGroup n id)) tt known short, tt)
end_told files missing name cs (Err (StrangeGroup n id)) told known short none is = rw is (replayed files missing name cs (Err (StrangeGroup n id)) tt known short, tt)
end_told files missing name cs (Err NoEmpty) told known short none is = rw is (replayed files missing name cs (Err NoEmpty) tt known short, tt)
end_told files missing name cs (Err TooLong) told known short none is = rw is (replayed files missing name cs (Err TooLong) tt known short, tt)
end_told files missing name cs (Err ReadFault) told known short none is = absurd is
end_told files missing name cs (Err (Memory e)) told known short none is = rw is tt

-- the same of the code's answer
pub told_by : (before files : Option Files) (missing : Type 0) (name : List ℕ) (cs : List (List Literal)) (end : Result (Unit {0}) ReplayStop) (result : Result CodeTold Stop)
    → before ≡ files → Known before name cs end → ¬ (IsErrOf end TooLong) → (IsOk end → HaveNoValues cs) → IfOk result (λ told. IsEndTold end (told_shown told))
    → IfOk result (λ told. IsToldBy files missing name cs (told_shown told))
told_by before files missing name cs end (Err e) same known short none told = tt
told_by before files missing name cs end (Ok t) same known short none told =
    end_told files missing name cs end (told_shown t) (subst (λ (o : Option Files). Known o name cs end) same known) short none told

-- the device failed exactly where a read of the replay did
pub told_cause : (r : Result (Unit {0}) ReplayStop) (result : Result CodeTold Stop) (first before now : ℕ) → before ≡ first → (IsErrOf result Device ↔ IsErrOf r ReadFault)
    → HasCause ReadFault before now r → HasCause Device first now result
told_cause r result first before now same alike cause = record {
  later = omega (arith, cause.later);
  once = omega (arith, cause.once);
  failed = λ is. rw (sym same) (cause.failed (alike.0 is));
  spared = λ other. cause.spared (λ is. other (alike.1 is)) ∙ same;
}
