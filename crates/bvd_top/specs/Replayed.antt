-- How the replay of a stored certificate ends.
use Rattle.std.specs.Prelude.{◌≡◌, ℕ, ◌-◌, ◌^◌, ◌≤◌, List, Option, None, Some, ⊤, length, Result, Err, OnOk, IsErrOf}
use Rattle.sat_form.specs.Literals.{Literal}
use Rattle.sat_form.specs.Truth.{HaveNoValues}
use Rattle.bvd_host.specs.Files.{Files, file_at}
use Rattle.lrat_replay.specs.Answer.{IsAnswer}
use Rattle.lrat_replay.specs.declared.stop.ReplayStop.{ReplayStop}
use Rattle.lrat_replay.specs.declared.stop.ReplayStop.TheVariants.{TooLong, ReadFault, Memory}
use Rattle.bvd_report.specs.Report.{Told, OutOfMemory, Replayed, AbsentCertificate}

-- the bytes of the certificate, where the files are told, which no read takes beyond the greatest size of a file; else any bytes
abbrev pub IsCertificate : Option Files → List ℕ → List ℕ → Type 0
IsCertificate (Some files) name bytes = (file_at files name ≡ Some bytes) × (length bytes ≤ 2 ^ 64 - 1)
IsCertificate None name bytes = ⊤

-- replayed whole over these clauses, the certificate is answered so; it is never too long
pub record IsReplayed (files : Option Files) (name : List ℕ) (cs : List (List Literal)) (end : Result (Unit {0}) ReplayStop) : Type 0 where
  pub bytes : List ℕ
  pub certificate : IsCertificate files name bytes
  pub answer : IsAnswer cs (2 ^ 64 - 1) bytes end
  pub whole : ¬ (IsErrOf end TooLong)

-- there is no certificate: exactly so where the files are told, else the keeper found it missing
abbrev pub IsAbsent : Option Files → Type 0 → List ℕ → Type 0
IsAbsent (Some files) missing name = file_at files name ≡ None
IsAbsent None missing name = missing

-- how the end of a replay is told; a read that failed is told of no goal
abbrev pub IsEndTold : Result (Unit {0}) ReplayStop → Told → Type 0
IsEndTold (Err (Memory e)) told = told ≡ OutOfMemory
IsEndTold (Err ReadFault) told = ⊥
IsEndTold end told = told ≡ Replayed end

-- what is told of a goal with these clauses by the certificate under a name; an acceptance says that no values satisfy them, whatever the files hold
abbrev pub IsToldBy : Option Files → Type 0 → List ℕ → List (List Literal) → Told → Type 0
IsToldBy files missing name cs (Replayed end) = IsReplayed files name cs end × OnOk end (HaveNoValues cs)
IsToldBy files missing name cs AbsentCertificate = IsAbsent files missing name
IsToldBy files missing name cs OutOfMemory = ⊤
IsToldBy files missing name cs told = ⊥
