-- When a keeper, a source or a sink may refuse.
use Rattle.std.specs.Prelude.{◌≡◌, ℕ, ◌+◌, ◌-◌, ◌^◌, ◌≤◌, min, List, Option, None, Some, IsSome, Result, OnOk, IsErrOf}
use Rattle.bvd_host.specs.Files.{Files, file_at}
use Rattle.bvd_host.specs.declared.keeper.KeepStop.{KeepStop}
use Rattle.bvd_host.specs.declared.keeper.KeepStop.TheVariants.{Absent, Failed}

-- a count rose, or stands at its end
abbrev pub Rose : ℕ → ℕ → Type 0
Rose before now = min (before + 1) (2 ^ 64 - 1) ≤ now

-- this error alone raises the count in a call, by one; where the count stands at its end, it may stay there
pub record HasCause {T E : Type 0} (stop : E) (before now : ℕ) (result : Result T E) : Type 0 where
  pub later : before ≤ now
  pub once : now ≤ before + 1
  pub failed : IsErrOf result stop → Rose before now
  pub spared : ¬ (IsErrOf result stop) → now ≡ before

-- the first error alone raises the count of faults, and the second one alone may raise that of missing files
pub record HasCauses {T E : Type 0} (failure absence : E) (faults_before faults_now missing_before missing_now : ℕ) (result : Result T E) : Type 0 where
  pub faults : HasCause failure faults_before faults_now result
  pub missing : missing_before ≤ missing_now
  pub found : ¬ (IsErrOf result absence) → missing_now ≡ missing_before

-- the same of a keeper's `Failed` and `Absent`
abbrev pub KeeperCauses : {T : Type 0} → (faults_before faults_now missing_before missing_now : ℕ) → Result T KeepStop → Type 0
KeeperCauses faults_before faults_now missing_before missing_now result = HasCauses Failed Absent faults_before faults_now missing_before missing_now result

-- this error comes, where the files are told, exactly where the name isn't there and the call isn't refused for another cause; else only where `untold` holds
abbrev pub ComesExactlyAbsent : {T E : Type 0} → E → Option Files → List ℕ → Type 0 → Result T E → Type 0
ComesExactlyAbsent absence None name untold result = IsErrOf result absence → untold
ComesExactlyAbsent absence (Some files) name untold result = (IsErrOf result absence → file_at files name ≡ None) × OnOk result (IsSome (file_at files name))

-- the same of a keeper's `Absent`
abbrev pub AbsentExactly : {T : Type 0} → Option Files → List ℕ → Type 0 → Result T KeepStop → Type 0
AbsentExactly files name untold result = ComesExactlyAbsent Absent files name untold result
