-- How the counts of real devices go.
use Rattle.std.specs.Prelude.{◌≡◌, ℕ, Result, Ok, Err}
use Rattle.bvd_host.specs.Calls.{raised}
use Rattle.bvd_host.specs.declared.keeper.KeepStop.{KeepStop}
use Rattle.bvd_host.specs.declared.keeper.KeepStop.TheVariants.{Absent, Failed, Memory}
use Rattle.bvd_host.specs.declared.sink.SinkStop.{SinkStop}
use Rattle.bvd_host.specs.declared.sink.SinkStop.TheVariants as sink

-- each refusal raises the count of faults by one, but a missing file that of missing files; there is no want of memory
abbrev pub KeeperCounts : {T : Type 0} → (faults_before faults_now missing_before missing_now : ℕ) → Result T KeepStop → Type 0
KeeperCounts faults_before faults_now missing_before missing_now (Ok value) = (faults_now ≡ faults_before) × (missing_now ≡ missing_before)
KeeperCounts faults_before faults_now missing_before missing_now (Err Absent) = (faults_now ≡ faults_before) × (missing_now ≡ raised missing_before)
KeeperCounts faults_before faults_now missing_before missing_now (Err Failed) = (faults_now ≡ raised faults_before) × (missing_now ≡ missing_before)
KeeperCounts faults_before faults_now missing_before missing_now (Err (Memory e)) = ⊥

-- each refusal raises the count of faults by one; there is no want of memory
abbrev pub SinkCounts : {T : Type 0} → (before now : ℕ) → Result T SinkStop → Type 0
SinkCounts before now (Ok value) = now ≡ before
SinkCounts before now (Err sink.Failed) = now ≡ raised before
SinkCounts before now (Err (sink.Memory e)) = ⊥
