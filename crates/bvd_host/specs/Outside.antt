-- What a program meets outside itself, at one moment.
use Rattle.std.specs.Prelude.{◌≡◌, ℕ, ◌≤◌, List, Option, Some}
use Rattle.bvd_host.specs.Files.{Files}
use Rattle.bvd_host.specs.Causes.{Rose}

-- the files and what was written, where they are told, and the counts
pub record Outside : Type 0 where
  pub files : Option Files
  pub written : Option (List ℕ)
  pub keeper_faults : ℕ
  pub missing : ℕ
  pub sink_faults : ℕ

-- a keeper and a sink as they stand
abbrev pub outside : {K S : Type 0} → (K → Option Files) → (K → ℕ) → (K → ℕ) → (S → Option (List ℕ)) → (S → ℕ) → K → S → Outside
outside files faults missing written sink_faults keeper sink =
    record { files = files keeper; written = written sink; keeper_faults = faults keeper; missing = missing keeper; sink_faults = sink_faults sink }

-- no count falls
pub record CountsStay (before after : Outside) : Type 0 where
  pub keeper : before.keeper_faults ≤ after.keeper_faults
  pub missing : before.missing ≤ after.missing
  pub sink : before.sink_faults ≤ after.sink_faults

-- the keeper has failed between two moments, and the sink
abbrev pub KeeperFailed : Outside → Outside → Type 0
KeeperFailed before after = Rose before.keeper_faults after.keeper_faults

abbrev pub SinkFailed : Outside → Outside → Type 0
SinkFailed before after = Rose before.sink_faults after.sink_faults

-- the premises of what is promised on content: no device fails, and both tell what they hold
pub record IsHonest (before after : Outside) (files : Files) (text : List ℕ) : Type 0 where
  pub keeper_holds : ¬ (KeeperFailed before after)
  pub sink_holds : ¬ (SinkFailed before after)
  pub files_told : before.files ≡ Some files
  pub written_told : before.written ≡ Some text
